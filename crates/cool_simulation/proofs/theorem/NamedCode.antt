-- Each label in the text of a program is a valid name of assembly: those of run-time routines, initializers and methods, and those within the code of
-- expressions.
use Rattle.std.proofs.Common.{◌≡◌, ℕ, zero, suc, ◌+◌, ◌*◌, ◌<◌, ◌≤◌, List, [], ◌∷◌, ◌++◌, length, flat_map, Option, Some, None, Bool, true, false, refl, sym, ap, ◌∙◌, subst, arith, true≢false}
use Rattle.std.specs.Prelude.{pos, codes, bytes_eq, nat_lt, slice_get, if◌then◌else◌}
use Rattle.std.specs.List.{AllByRecursion, list_all}
use Rattle.std.proofs.lemmas.Grind.{flat_map-append}
use Rattle.mips_isa.specs.Lines.{Name, Line}
use Rattle.mips_text.specs.Names.{is_name}
use Rattle.mips_text.specs.Printable.{IsName}
use Rattle.cool_syntax.specs.declared.file_tree.Feature.{Feature}
use Rattle.cool_syntax.specs.declared.file_tree.Feature.TheVariants.{Method, Attribute}
use Rattle.cool_syntax.specs.Tree.{Tree, tree_size}
use Rattle.cool_syntax.specs.TreesWithinLimits.{IsFeatureWithin}
use Rattle.cool_classes.specs.declared.class_id.ClassId.{ClassId}
use Rattle.cool_classes.specs.declared.method.MethodRef.TheVariants.{User}
use Rattle.cool_classes.specs.Chains.{Class, name_of, features_of, parent_of}
use Rattle.cool_classes.specs.Features.{name_in}
use Rattle.cool_runtime.specs.CodeOfCalls.{enter_lines}
use Rattle.cool_runtime.specs.Labels.{heap_limit, stack_limit, out_string, out_int, in_int, string_length, copy, copy_words, copy_end, string_concat, concat_first, concat_second, concat_third, concat_end, in_string, in_string_bytes, in_string_end, string_substr, substr_bytes, substr_end, substr_abort, equality, equal_values, equal_strings, equal_bytes, equal_true, equal_false, type_name, abort, case_abort, dispatch_abort, div_abort}
use Rattle.cool_runtime.specs.RoutineLabels.{case_void, overflow_abort}
use Rattle.cool_runtime.specs.RoutineLines.{routine_lines, all_routine_lines}
use Rattle.cool_layout.specs.Labels.{initializer, method_label}
use Rattle.cool_layout.specs.Members.{offset}
use Rattle.cool_layout.specs.Preorder.{numbers_from}
use Rattle.cool_layout.proofs.Counting.{one}
use Rattle.cool_consts.specs.Constants.{Constants}
use Rattle.cool_codegen.specs.Code.{Context, code}
use Rattle.cool_codegen.specs.Features as scopes
use Rattle.cool_codegen.specs.Features.{with_formals, initial_value_code}
use Rattle.cool_codegen.specs.Labels.{inner}
use Rattle.cool_codegen.specs.Pieces.{begin_init_lines, call_init_lines, leave_lines, mark_lines, return_basic_lines, store_lines, take_self_lines}
use Rattle.cool_codegen.specs.Variables.{Named}
use Rattle.cool_emit.specs.Programs.{Placed, attributes_in, methods_in, placed_code, parent_code, initializer_code, class_code, classes_code, program_constants, program_text, IsBuildable}
use Rattle.cool_emit.specs.SoundLines.{labels_of}
use Rattle.cool_emit.proofs.CountedNames.{times}
use Rattle.cool_emit.proofs.LabelsOfCode.{marks, kind_hit, node_hits, hits, code_marks}
use Rattle.cool_simulation.proofs.theorem.NamesOfLabels.{AreInName, in_name-append, name-append, type_is_name, inner_is_name}
use Rattle.cool_simulation.proofs.theorem.NamesOfFeatures.{object_in_name}
use Rattle.lists.proofs.AllItems.{all_append}
use Rattle.lists.proofs.EqualBytes.{bytes_eq-same, bytes_equal}
use Rattle.std.proofs.lemmas.Bool.{and_parts}

-- all labels of lines are names
abbrev pub AreNamed : List Line → Type 0
AreNamed lines = AllByRecursion IsName (labels_of lines)

-- so are those of lines joined
pub named-append : (xs ys : List Line) → AreNamed xs → AreNamed ys → AreNamed (xs ++ ys)
named-append xs ys h k = subst (AllByRecursion IsName) (sym (flat_map-append (λ line. line.labels) xs ys)) (all_append IsName (labels_of xs) (labels_of ys) h k)

-- and those of the lines that are made for each element of a list
pub named_each : {X : Type 0} (P : X → Type 0) (f : X → List Line) (xs : List X) → ((x : X) → P x → AreNamed (f x)) → AllByRecursion P xs → AreNamed (flat_map f xs)
named_each P f [] each all = tt
named_each P f (x ∷ xs) each all = named-append (f x) (flat_map f xs) (each x all.0) (named_each P f xs each all.1)

-- texts that pass the test are names
pub listed_named : (names : List Name) → list_all is_name names ≡ true → AllByRecursion IsName names
listed_named [] h = tt
listed_named (name ∷ names) h = let each = and_parts (is_name name) (list_all is_name names) h in (each.0, listed_named names each.1)

-- the labels of the routines
routines_named : list_all is_name (labels_of all_routine_lines) ≡ true
unfolding routine_lines heap_limit stack_limit out_string out_int in_int string_length copy copy_words copy_end string_concat concat_first concat_second concat_third concat_end in_string in_string_bytes in_string_end string_substr substr_bytes substr_end substr_abort equality equal_values equal_strings equal_bytes equal_true equal_false type_name abort case_abort dispatch_abort div_abort case_void overflow_abort
routines_named = refl

-- Within expressions: a text that is no name is no label.

module _ (x : Name) (none : is_name x ≡ false) where
  -- it is another than each name
  no_hit : (y : Name) → IsName y → one (bytes_eq x y) ≡ 0
  no_hit y is = by (bytes_eq x y) refl
    where
      by : (t : Bool) → bytes_eq x y ≡ t → one t ≡ 0
      by true e = absurd (true≢false (sym is ∙ ap is_name (sym (bytes_equal x y e)) ∙ none))
      by false e = refl

  no_kind : (c f n : ℕ) (kind : List ℕ) → IsName kind → kind_hit x c f n kind ≡ 0
  no_kind c f n kind is = no_hit (inner kind c f n) (inner_is_name kind c f n is)

  no_node : (c f n : ℕ) → node_hits x c f n ≡ 0
  no_node c f n =
      let a : kind_hit x c f n (codes "else") ≡ 0 = no_kind c f n (codes "else") refl in
      let b : kind_hit x c f n (codes "end") ≡ 0 = no_kind c f n (codes "end") refl in
      let d : kind_hit x c f n (codes "loop") ≡ 0 = no_kind c f n (codes "loop") refl in
      let e : kind_hit x c f n (codes "some") ≡ 0 = no_kind c f n (codes "some") refl in
      let g : kind_hit x c f n (codes "fits") ≡ 0 = no_kind c f n (codes "fits") refl in
      let h : kind_hit x c f n (codes "next") ≡ 0 = no_kind c f n (codes "next") refl in
      omega arith

  no_hits : (c f k n : ℕ) → hits x c f k n ≡ 0
  no_hits c f k zero = refl
  no_hits c f k (suc n) =
      let first : node_hits x c f k ≡ 0 = no_node c f k in
      let rest : hits x c f (k + 1) n ≡ 0 = no_hits c f (k + 1) n in
      omega arith

  no_mark : (s : Context) (g : Constants) (vs : List Named) (d k : ℕ) (t : Tree) → marks x (code s g vs d k t) ≤ 0
  no_mark s g vs d k t = omega (arith, code_marks x s g vs d k t, no_hits s.class.0 s.feature k (tree_size t))

-- if no other text is among names, all are names
all_named : (names : List Name) → ((x : Name) → is_name x ≡ false → times x names ≤ 0) → AllByRecursion IsName names
all_named [] h = tt
all_named (y ∷ ys) h = (by (is_name y) refl, all_named ys (λ x e. let all : one (bytes_eq x y) + times x ys ≤ 0 = h x e in omega arith))
  where
    by : (t : Bool) → is_name y ≡ t → is_name y ≡ true
    by true e = e
    by false e =
        let all : one (bytes_eq y y) + times y ys ≤ 0 = h y e in
        let first : one (bytes_eq y y) ≡ 1 = ap one (bytes_eq-same y) in
        absurd (omega arith)

-- so the labels of the code of an expression are names
code_named : (s : Context) (g : Constants) (vs : List Named) (d k : ℕ) (t : Tree) → AreNamed (code s g vs d k t)
code_named s g vs d k t = all_named (labels_of (code s g vs d k t)) (λ x none. no_mark x none s g vs d k t)

-- Features

-- the name at a place among features contains only bytes of names
feature_in_name : (n : ℕ) (fs : List Feature) (k : ℕ) → AllByRecursion (IsFeatureWithin n) fs → AreInName (name_in (slice_get fs k))
feature_in_name n [] k all = refl
feature_in_name n (Method m ∷ fs) zero all = object_in_name m.name all.0.1
feature_in_name n (Attribute a ∷ fs) zero all = object_in_name a.name all.0.1
feature_in_name n (f ∷ fs) (suc k) all = feature_in_name n fs k all.1

module _ (p : List Class) (files : List (List ℕ)) (b : IsBuildable p files) where
  -- the name of a class is a name
  pub class_is_name : (c : ClassId) → c.0 < length p → IsName (name_of p c)
  class_is_name c within = type_is_name (name_of p c) (b.fits.names c within)

  -- and with bytes of names after it
  pub class_label_is_name : (c : ClassId) (text : List ℕ) → c.0 < length p → AreInName text → IsName (name_of p c ++ text)
  class_label_is_name c text within h = name-append (name_of p c) text (class_is_name c within) h

  -- the label of a method
  method_is_name : (c : ClassId) (k : ℕ) → c.0 < length p → IsName (method_label p (User c k))
  method_is_name c k within =
      let name = name_in (slice_get (features_of p c) k) in
      class_label_is_name c (codes "." ++ name) within (in_name-append (codes ".") name refl (feature_in_name (length files) (features_of p c) k (b.fits.within c within)))

  module _ (g : Constants) (c : ClassId) (within : c.0 < length p) where
    -- the code of a feature
    feature_named : (k : ℕ) (f : Feature) → AreNamed (placed_code p files g c (record { place = k; feature = f }))
    unfolding mark_lines leave_lines store_lines
    feature_named k (Method m) =
        let s : Context = record { table = p; class = c; feature = k; files = files } in
        let vs = with_formals p m.formals (scopes.attributes_in p c) in
        let body = code s g vs 0 0 m.body in
        let leave = leave_lines (pos (12 + 4 * length m.formals)) in
        (method_is_name c k within, named-append enter_lines (body ++ leave) tt (named-append body leave (code_named s g vs 0 0 m.body) tt))
    feature_named k (Attribute a) = by a.init
      where
        by : (o : Option Tree) → AreNamed (initial_value_code (record { table = p; class = c; feature = k; files = files }) g o)
        by None = tt
        by (Some t) =
            let s : Context = record { table = p; class = c; feature = k; files = files } in
            let vs = scopes.attributes_in p c in
            named-append (code s g vs 0 0 t) (store_lines (pos (offset p c (record { owner = c; index = k }))) 16) (code_named s g vs 0 0 t) tt

    features_named : (fs : List Placed) → AreNamed (flat_map (placed_code p files g c) fs)
    features_named [] = tt
    features_named (f ∷ fs) = named-append (placed_code p files g c f) (flat_map (placed_code p files g c) fs) (feature_named f.place f.feature) (features_named fs)

    -- the initializer
    parent_named : (o : Option ClassId) → AreNamed (parent_code p o)
    unfolding call_init_lines
    parent_named None = tt
    parent_named (Some q) = tt

    initializer_named : AreNamed (initializer_code p files g c)
    unfolding begin_init_lines return_basic_lines take_self_lines leave_lines
    initializer_named = by (nat_lt c.0 5)
      where
        own : IsName (initializer p c)
        own = class_label_is_name c (codes "_init") within refl

        by : (t : Bool)
            → AreNamed (if t then return_basic_lines (initializer p c) else begin_init_lines (initializer p c) ++ (enter_lines ++ (parent_code p (parent_of p c) ++ (flat_map (placed_code p files g c) (attributes_in p c) ++ (take_self_lines ++ leave_lines (pos 12))))))
        by true = (own, tt)
        by false =
            let attributes = flat_map (placed_code p files g c) (attributes_in p c) in
            let end = take_self_lines ++ leave_lines (pos 12) in
            let parent = parent_code p (parent_of p c) in
            (own, named-append enter_lines (parent ++ (attributes ++ end)) tt (named-append parent (attributes ++ end) (parent_named (parent_of p c)) (named-append attributes end (features_named (attributes_in p c)) tt)))

    class_named : AreNamed (class_code p files g c)
    class_named = named-append (initializer_code p files g c) (flat_map (placed_code p files g c) (methods_in p c)) initializer_named (features_named (methods_in p c))

  -- the classes by number
  numbers_within : (k n : ℕ) → k + n ≤ length p → AllByRecursion (λ (c : ClassId). c.0 < length p) (numbers_from k n)
  numbers_within k zero low = tt
  numbers_within k (suc n) low = (omega arith, numbers_within (k + 1) n (omega arith))

  -- the labels of the text are names
  pub text_named : AreNamed (program_text p files)
  text_named =
      let g = program_constants p files in
      named-append all_routine_lines (classes_code p files g) (listed_named (labels_of all_routine_lines) routines_named)
      (named_each (λ (c : ClassId). c.0 < length p) (class_code p files g) (numbers_from 0 (length p)) (λ c within. class_named g c within) (numbers_within 0 (length p) (omega arith)))
