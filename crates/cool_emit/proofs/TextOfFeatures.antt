-- The code of features, of initializers and of classes consists of valid lines of text, with registers, numbers and labels in range.
use Rattle.std.proofs.Common.{◌≡◌, ℕ, ◌+◌, ◌<◌, ◌≤◌, pos, List, [], ◌∷◌, ◌++◌, length}
use Rattle.std.proofs.Common.{flat_map, Option, Some, None, Bool, true, false, refl, arith}
use Rattle.std.specs.Prelude.{nat_lt, if◌then◌else◌, IfSome}
use Rattle.std.specs.List.{AllByRecursion}
use Rattle.cool_syntax.specs.declared.TheConstants.{MOST_TOKENS}
use Rattle.cool_syntax.specs.declared.file_tree.Feature.{Feature}
use Rattle.cool_syntax.specs.declared.file_tree.Feature.TheVariants.{Method, Attribute}
use Rattle.cool_syntax.specs.declared.file_tree.Formal.{Formal}
use Rattle.cool_syntax.specs.Tree.{Tree, tree_size}
use Rattle.cool_syntax.specs.FeatureSizes.{IsBoundedFeature, value_size, branches_in}
use Rattle.cool_syntax.specs.TreesWithinLimits.{IsTreeWithin, IsFeatureWithin}
use Rattle.mips_isa.specs.Lines.{Name, Line}
use Rattle.cool_classes.specs.declared.class_id.ClassId.{ClassId}
use Rattle.cool_classes.specs.declared.method.AttributeRef.{AttributeRef}
use Rattle.cool_classes.specs.declared.method.MethodRef.TheVariants.{User}
use Rattle.cool_classes.specs.Chains.{Class, parent_of, features_of}
use Rattle.cool_classes.specs.ClimbedChains.{chain}
use Rattle.cool_classes.specs.Features.{attributes_of}
use Rattle.cool_runtime.specs.CodeOfCalls.{enter_lines}
use Rattle.cool_layout.specs.Members.{attributes, is_attribute, offset}
use Rattle.cool_layout.specs.Labels.{initializer, method_label}
use Rattle.cool_layout.specs.Roots.{IsRooted}
use Rattle.cool_consts.specs.Constants.{Constants}
use Rattle.cool_codegen.specs.Pieces.{mark_lines, leave_lines, begin_init_lines, take_self_lines, return_basic_lines}
use Rattle.cool_codegen.specs.Variables.{Named}
use Rattle.cool_codegen.specs.Asked.{integers_in, strings_in}
use Rattle.cool_codegen.specs.Code.{Context, code}
use Rattle.cool_codegen.specs.Features.{with_attributes, with_formals, attributes_in, method_code}
use Rattle.cool_codegen.specs.Features.{initial_value_code, feature_code, feature_integers}
use Rattle.cool_codegen.specs.Features.{feature_strings, initial_integers, initial_strings}
use Rattle.cool_codegen.proofs.AttributesOfClasses.{place_low}
use Rattle.cool_emit.specs.SoundLines.{AreText}
use Rattle.cool_emit.specs.Programs.{Placed, attributes_from, methods_from, placed_code, parent_code}
use Rattle.cool_emit.specs.Programs.{initializer_code, class_code, class_features}
use Rattle.cool_emit.specs.Programs as programs
use Rattle.cool_emit.proofs.TextOfPieces.{AreTargets, text_of_enter}
use Rattle.cool_emit.proofs.TextOfPieces.{text_of_leave, text_of_mark, text_of_store, text_of_take_self}
use Rattle.cool_emit.proofs.TextOfPieces.{text_of_begin_init, text_of_call_init, text_of_return_basic}
use Rattle.cool_emit.proofs.TextOfParts.{Serves, AreReached, AreNumbers, AreStrings}
use Rattle.cool_emit.proofs.TextOfCode.{text_of_code}
use Rattle.lists.proofs.AllItems.{all_append, all_left, all_right}

-- an attribute stands near the head of its object
pub offset_low : (p : List Class) (c : ClassId) (a : AttributeRef) → length (attributes p c) ≤ 2000 → offset p c a < 32768
offset_low p c a few = let place = place_low (is_attribute a) (attributes p c) in omega arith

-- so the variables in scope can be reached

attributes_reached : (p : List Class) (c : ClassId) → length (attributes p c) ≤ 2000
    → (as' : List AttributeRef) (vs : List Named) → AreReached vs
    → AreReached (with_attributes p c as' vs)
attributes_reached p c few [] vs h = h
attributes_reached p c few (a ∷ as') vs h = attributes_reached p c few as' _ ((omega arith, offset_low p c a few), h)

formals_reached : (p : List Class) (fs : List Formal) (vs : List Named) → length fs ≤ MOST_TOKENS → AreReached vs
    → AreReached (with_formals p fs vs)
formals_reached p [] vs few h = h
formals_reached p (f ∷ fs) vs few h = formals_reached p fs _ (omega arith) ((omega arith, omega arith), h)

-- a feature asks for known constants
abbrev pub AsksKnown : (Name → Type 0) → List (List ℕ) → Constants → Feature → Type 0
AsksKnown known files g f = AreNumbers known g (feature_integers f) × AreStrings known g (feature_strings files f)

module _ (target known : Name → Type 0) (s : Context) (g : Constants) (u : Serves target known s.table)
    (within : s.class.0 < length s.table)
    (few : length (attributes s.table s.class) ≤ 2000) (files : ℕ) where
  -- the attributes of the class can be reached
  in_scope : AreReached (attributes_in s.table s.class)
  in_scope = attributes_reached s.table s.class few (attributes_of s.table (chain s.table s.class)) [] tt

  -- a method, under its label
  text_of_method : (formals : List Formal) (body : Tree) → length formals + tree_size body + branches_in body ≤ MOST_TOKENS
      → IsTreeWithin files body → AreNumbers known g (integers_in body) → AreStrings known g (strings_in s.files body)
      → AreTargets target (method_code s g formals body) → AreText target known (method_code s g formals body)
  text_of_method formals body bounded w i j m =
      let vs = with_formals s.table formals (attributes_in s.table s.class) in
      let m1 = all_right _ (mark_lines (method_label s.table (User s.class s.feature))) _ m in
      let m2 = all_right _ enter_lines _ m1 in
      all_append _ (mark_lines (method_label s.table (User s.class s.feature))) _ (text_of_mark target known _)
      (all_append _ enter_lines _ (text_of_enter target known u.ends_stack)
      (all_append _ (code s g vs 0 0 body) _
      (text_of_code target known s g u within files body vs 0 0 (formals_reached s.table formals (attributes_in s.table s.class)
      (omega arith) in_scope) (omega arith) w i j (all_left _ (code s g vs 0 0 body) _ m2))
      (text_of_leave target known _ (omega arith))))

  -- an initial value, and its store
  text_of_value : (o : Option Tree) → value_size o ≤ MOST_TOKENS → IfSome o (IsTreeWithin files) → AreNumbers known g (initial_integers o)
      → AreStrings known g (initial_strings s.files o)
      → AreTargets target (initial_value_code s g o) → AreText target known (initial_value_code s g o)
  text_of_value None bounded w i j m = tt
  text_of_value (Some t) bounded w i j m =
      let vs = attributes_in s.table s.class in
      all_append _ (code s g vs 0 0 t) _
      (text_of_code target known s g u within files t vs 0 0 in_scope (omega arith) w i j (all_left _ (code s g vs 0 0 t) _ m))
      (text_of_store target known _ 16 (offset_low s.table s.class (record { owner = s.class; index = s.feature }) few) (omega arith))

  -- a feature
  pub text_of_feature : (f : Feature) → IsBoundedFeature f → IsFeatureWithin files f → AsksKnown known s.files g f
      → AreTargets target (feature_code s g f) → AreText target known (feature_code s g f)
  text_of_feature (Method d) bounded w asks m = text_of_method d.formals d.body bounded w.4 asks.0 asks.1 m
  text_of_feature (Attribute a) bounded w asks m = text_of_value a.init bounded w.3 asks.0 asks.1 m

-- a property of all features holds for the attributes and the methods among them

all_attributes : (P : Feature → Type 0) (k : ℕ) (fs : List Feature) → AllByRecursion P fs
    → AllByRecursion (λ x. P x.feature) (attributes_from k fs)
all_attributes P k [] h = tt
all_attributes P k (Method d ∷ fs) h = all_attributes P (k + 1) fs h.1
all_attributes P k (Attribute a ∷ fs) h = (h.0, all_attributes P (k + 1) fs h.1)

all_methods : (P : Feature → Type 0) (k : ℕ) (fs : List Feature) → AllByRecursion P fs
    → AllByRecursion (λ x. P x.feature) (methods_from k fs)
all_methods P k [] h = tt
all_methods P k (Method d ∷ fs) h = (h.0, all_methods P (k + 1) fs h.1)
all_methods P k (Attribute a ∷ fs) h = all_methods P (k + 1) fs h.1

module _ (target known : Name → Type 0) (p : List Class) (files : List (List ℕ)) (g : Constants)
    (u : Serves target known p) (rooted : IsRooted p)
    (few : (c : ClassId) → c.0 < length p → length (attributes p c) ≤ 2000)
    (bounded : (c : ClassId) → c.0 < length p → AllByRecursion IsBoundedFeature (features_of p c))
    (limited : (c : ClassId) → c.0 < length p → AllByRecursion (IsFeatureWithin (length files)) (features_of p c)) where
  -- features, one after the other
  text_of_placed : (c : ClassId) → c.0 < length p → (xs : List Placed) → AllByRecursion (λ x. IsBoundedFeature x.feature) xs
      → AllByRecursion (λ x. IsFeatureWithin (length files) x.feature) xs
      → AllByRecursion (λ x. AsksKnown known files g x.feature) xs → AreTargets target (flat_map (placed_code p files g c) xs)
      → AreText target known (flat_map (placed_code p files g c) xs)
  text_of_placed c within [] b w asks m = tt
  text_of_placed c within (x ∷ xs) b w asks m =
      all_append _ (placed_code p files g c x) _
      (text_of_feature target known (record { table = p; class = c; feature = x.place; files = files }) g u within (few c within)
      (length files) x.feature b.0 w.0 asks.0 (all_left _ (placed_code p files g c x) _ m))
      (text_of_placed c within xs b.1 w.1 asks.1 (all_right _ (placed_code p files g c x) _ m))

  -- the call of the parent's initializer
  text_of_parent : (c : ClassId) → c.0 < length p → AreText target known (parent_code p (parent_of p c))
  text_of_parent c within = by (parent_of p c) (λ q e. rooted.above c q within e)
    where
      by : (o : Option ClassId) → ((q : ClassId) → o ≡ Some q → q.0 < length p) → AreText target known (parent_code p o)
      by None h = tt
      by (Some q) h = text_of_call_init target known (initializer p q) (u.initializers q (h q refl))

  -- an initializer
  text_of_initializer : (c : ClassId) → c.0 < length p
      → AllByRecursion (λ x. AsksKnown known files g x.feature) (programs.attributes_in p c)
      → AreTargets target (initializer_code p files g c) → AreText target known (initializer_code p files g c)
  text_of_initializer c within asks m = by (nat_lt c.0 5) m
    where
      rest : List Line
      rest = flat_map (placed_code p files g c) (programs.attributes_in p c)

      whole : List Line
      whole =
          begin_init_lines (initializer p c) ++ (enter_lines ++
          (parent_code p (parent_of p c) ++ (rest ++ (take_self_lines ++ leave_lines (pos 12)))))

      by : (b : Bool) → AreTargets target (if b then return_basic_lines (initializer p c) else whole)
          → AreText target known (if b then return_basic_lines (initializer p c) else whole)
      by true m = text_of_return_basic target known (initializer p c)
      by false m =
          let m1 = all_right _ (begin_init_lines (initializer p c)) _ m in
          let m2 = all_right _ enter_lines _ m1 in
          let m3 = all_right _ (parent_code p (parent_of p c)) _ m2 in
          all_append _ (begin_init_lines (initializer p c)) _ (text_of_begin_init target known _)
          (all_append _ enter_lines _ (text_of_enter target known u.ends_stack)
          (all_append _ (parent_code p (parent_of p c)) _ (text_of_parent c within)
          (all_append _ rest _
          (text_of_placed c within (programs.attributes_in p c) (all_attributes IsBoundedFeature 0 (features_of p c) (bounded c within))
          (all_attributes (IsFeatureWithin (length files)) 0 (features_of p c) (limited c within)) asks (all_left _ rest _ m3))
          (all_append _ take_self_lines _ (text_of_take_self target known) (text_of_leave target known _ (omega arith))))))

  -- a class: its initializer and its methods
  text_of_class : (c : ClassId) → c.0 < length p → AllByRecursion (λ x. AsksKnown known files g x.feature) (class_features p c)
      → AreTargets target (class_code p files g c) → AreText target known (class_code p files g c)
  text_of_class c within asks m =
      all_append _ (initializer_code p files g c) _
      (text_of_initializer c within (all_left _ (programs.attributes_in p c) _ asks) (all_left _ (initializer_code p files g c) _ m))
      (text_of_placed c within (programs.methods_in p c) (all_methods IsBoundedFeature 0 (features_of p c) (bounded c within))
      (all_methods (IsFeatureWithin (length files)) 0 (features_of p c) (limited c within))
      (all_right _ (programs.attributes_in p c) _ asks) (all_right _ (initializer_code p files g c) _ m))

  -- classes, one after the other
  pub text_of_classes : (cs : List ClassId) → AllByRecursion (λ c. c.0 < length p) cs
      → AllByRecursion (λ x. AsksKnown known files g x.feature) (flat_map (class_features p) cs)
      → AreTargets target (flat_map (class_code p files g) cs) → AreText target known (flat_map (class_code p files g) cs)
  text_of_classes [] within asks m = tt
  text_of_classes (c ∷ cs) within asks m =
      all_append _ (class_code p files g c) _
      (text_of_class c within.0 (all_left _ (class_features p c) _ asks) (all_left _ (class_code p files g c) _ m))
      (text_of_classes cs within.1 (all_right _ (class_features p c) _ asks) (all_right _ (class_code p files g c) _ m))
