-- If two class tables differ only in bodies, initial values and source locations, and the declarations of the features in one table have no error, those in the
-- other have none.
use Rattle.std.proofs.Common.{◌≡◌, ℕ, zero, suc, ◌+◌, List, [], ◌∷◌, ◌++◌, length, Option, Some, None, Bool, not, ◌&&◌, ◌||◌, refl, sym, ap, ◌∙◌, subst, arith}
use Rattle.std.specs.Prelude.{bytes_eq, codes, is_some, is_none, nat_lt, if◌then◌else◌}
use Rattle.cool_syntax.specs.declared.place.Place.{Place}
use Rattle.cool_syntax.specs.declared.type_ref.TypeRef.{TypeRef}
use Rattle.cool_syntax.specs.declared.file_tree.AttributeDef.{AttributeDef}
use Rattle.cool_syntax.specs.declared.file_tree.Feature.{Feature}
use Rattle.cool_syntax.specs.declared.file_tree.Feature.TheVariants.{Method, Attribute}
use Rattle.cool_syntax.specs.declared.file_tree.Formal.{Formal}
use Rattle.cool_syntax.specs.declared.file_tree.MethodDef.{MethodDef}
use Rattle.cool_classes.specs.declared.TheConstants.{MOST_ATTRIBUTES, MOST_METHODS}
use Rattle.cool_classes.specs.declared.class_id.ClassId.{ClassId}
use Rattle.cool_classes.specs.declared.fault.ClassFault.{ClassFault}
use Rattle.cool_classes.specs.declared.fault.ClassKind.{ClassKind}
use Rattle.cool_classes.specs.declared.fault.ClassKind.TheVariants.{F1, F2, F3, F4, F5, F6, F7, F8, F9}
use Rattle.cool_classes.specs.declared.method.MethodRef.{MethodRef}
use Rattle.cool_classes.specs.declared.method.MethodRef.TheVariants.{User}
use Rattle.cool_classes.specs.Chains.{Class, class_number, parent_of, features_of}
use Rattle.cool_classes.specs.ClassFaults.{features_from}
use Rattle.cool_classes.specs.ClimbedChains.{climbed, above}
use Rattle.cool_classes.specs.Declarations.{DeclareSame, AllDeclareSame, AreAllAlike, formal_types, formal_names}
use Rattle.cool_classes.specs.FeatureFaults.{noted, is_class, type_faults, formal_faults, formals_faults, same_types, redefines_otherwise, have_attribute, is_doubled, method_faults, attribute_faults, one_feature_faults, features_faults, has_formals, lacks_main_at, lacks_main, is_over_limit, class_faults}
use Rattle.cool_classes.specs.Features.{basic_methods, first_method, implementation}
use Rattle.cool_classes.specs.FirstNames.{first_index, is_index}
use Rattle.cool_classes.specs.MethodNames.{is_new, new_name, new_among, method_names, methods_of}
use Rattle.cool_classes.specs.Names.{self_type}
use Rattle.cool_classes.proofs.AlikeTables.{FindSame, features_alike, find_same, first_alike}
use Rattle.cool_classes.proofs.AlikeTablesKept.{implementation_same, attributes_same}
use Rattle.cool_classes.proofs.NamesOfFeatures.{not_noted}
use Rattle.lists.proofs.JoinedLists.{none_both}
use Rattle.cool_classes.proofs.SwappedBodies.{attribute_row_same, class_names_same}

-- Faults

-- the one list is empty where the other is
abbrev pub Keeps : List ClassFault → List ClassFault → Type 0
Keeps xs ys = xs ≡ [] → ys ≡ []

pub keeps_both : (xs ys xs' ys' : List ClassFault) → Keeps xs xs' → Keeps ys ys' → Keeps (xs ++ ys) (xs' ++ ys')
keeps_both xs ys xs' ys' first second none =
    let both = none_both xs ys none in
    λ i. first both.0 i ++ second both.1 i

-- a test that is the same finds no fault at the one place where it finds none at the other
keeps_noted : (b b' : Bool) (kind : ClassKind) (at at' : Place) → b' ≡ b → Keeps (noted b kind at) (noted b' kind at')
keeps_noted b b' kind at at' same none = ap (λ (c : Bool). noted c kind at') (same ∙ not_noted b kind at none)

-- Names of features and of classes

module _ (p p' : List Class) (alike : AreAllAlike p p') where
  abbrev same : FindSame p p'
  same = find_same p p' alike

  -- the features of a class declare the same
  own : (c : ClassId) → AllDeclareSame (features_of p c) (features_of p' c)
  own c = features_alike p p' c alike

  -- Types and formals

  class_same : (name name' : List ℕ) → name' ≡ name → is_class p' name' ≡ is_class p name
  class_same name name' e = λ i. is_some (first_index 0 (class_names_same p p' alike i) (e i))

  keeps_type : (r r' : TypeRef) → r'.name ≡ r.name → Keeps (type_faults p r) (type_faults p' r')
  keeps_type r r' e =
      keeps_noted (not (bytes_eq r.name self_type || is_class p r.name)) _ F6 r.at r'.at
      (λ i. not (bytes_eq (e i) self_type || class_same r.name r'.name e i))

  keeps_formal : (before before' : List (Option (List ℕ))) (f f' : Formal) → before' ≡ before → f'.name ≡ f.name
      → f'.declared.name ≡ f.declared.name → Keeps (formal_faults p before f) (formal_faults p' before' f')
  keeps_formal before before' f f' row name type =
      keeps_both _ _ _ _ (keeps_noted (bytes_eq f.name (codes "self")) _ F3 f.at f'.at (λ i. bytes_eq (name i) (codes "self")))
      (keeps_both _ _ _ _ (keeps_noted (is_some (first_index 0 before f.name)) _ F4 f.at f'.at
      (λ i. is_some (first_index 0 (row i) (name i))))
      (keeps_both _ _ _ _ (keeps_noted (bytes_eq f.declared.name self_type) _ F5 f.declared.at f'.declared.at
      (λ i. bytes_eq (type i) self_type))
      (keeps_type f.declared f'.declared type)))

  keeps_formals : (before before' : List (Option (List ℕ))) (fs fs' : List Formal) → before' ≡ before → formal_types fs' ≡ formal_types fs
      → formal_names fs' ≡ formal_names fs → Keeps (formals_faults p before fs) (formals_faults p' before' fs')
  keeps_formals before before' fs [] row types names none = refl
  keeps_formals before before' [] (f' ∷ fs') row types names none = absurd cc
  keeps_formals before before' (f ∷ fs) (f' ∷ fs') row types names none =
      let type : f'.declared.name ≡ f.declared.name = cc in
      let name : f'.name ≡ f.name = cc in
      let more_types : formal_types fs' ≡ formal_types fs = cc in
      let more_names : formal_names fs' ≡ formal_names fs = cc in
      keeps_both (formal_faults p before f) (formals_faults p (before ++ Some f.name ∷ []) fs) (formal_faults p' before' f')
      (formals_faults p' (before' ++ Some f'.name ∷ []) fs') (keeps_formal before before' f f' row name type)
      (keeps_formals (before ++ Some f.name ∷ []) (before' ++ Some f'.name ∷ []) fs fs' (λ i. row i ++ Some (name i) ∷ [])
      more_types more_names) none

  -- Methods

  method_same : (c : ClassId) (f f' : List ℕ) → f' ≡ f → first_method 0 (features_of p' c) f' ≡ first_method 0 (features_of p c) f
  method_same c f f' e = ap (first_method 0 (features_of p' c)) e ∙ first_alike f 0 (features_of p c) (features_of p' c) (own c)

  implemented : (up : List ClassId) (f f' : List ℕ) → f' ≡ f → implementation p' up f' ≡ implementation p up f
  implemented up f f' e = ap (implementation p' up) e ∙ implementation_same p p' same up f

  redefined : (m m' : MethodDef) → DeclareSame (Method m) (Method m') → (o : Option MethodRef)
      → redefines_otherwise p' m' o ≡ redefines_otherwise p m o
  redefined m m' h None = refl
  redefined m m' h (Some up) = λ i. not (same_types (h.1 i) (same.formals up i) && bytes_eq (h.2 i) (same.results up i))

  keeps_method : (c : ClassId) (up : List ClassId) (k : ℕ) (m m' : MethodDef) → DeclareSame (Method m) (Method m')
      → Keeps (method_faults p c up k m) (method_faults p' c up k m')
  keeps_method c up k m m' h =
      keeps_both _ _ _ _
      (keeps_noted (not (is_index k (first_method 0 (features_of p c) m.name))) _ F1 m.at m'.at
      (λ i. not (is_index k (method_same c m.name m'.name h.0 i))))
      (keeps_both _ _ _ _
      (keeps_noted (redefines_otherwise p m (implementation p up m.name)) _ F7 m.at m'.at
      (ap (redefines_otherwise p' m') (implemented up m.name m'.name h.0) ∙ redefined m m' h (implementation p up m.name)))
      (keeps_both _ _ _ _ (keeps_formals [] [] m.formals m'.formals refl h.1 h.3) (keeps_type m.result m'.result h.2)))

  -- Attributes

  attribute_same : (ds : List ClassId) (f f' : List ℕ) → f' ≡ f → have_attribute p' ds f' ≡ have_attribute p ds f
  attribute_same [] f f' e = refl
  attribute_same (d ∷ ds) f f' e =
      λ i. is_some (first_index 0 (attribute_row_same (features_of p d) (features_of p' d) (own d) i) (e i)) || attribute_same ds f f' e i

  doubled : (c : ClassId) (up : List ClassId) (k : ℕ) (f f' : List ℕ) → f' ≡ f → is_doubled p' c up k f' ≡ is_doubled p c up k f
  doubled c up k f f' e =
      let row = attribute_row_same (features_of p c) (features_of p' c) (own c) in
      λ i. not (is_index k (first_index 0 (row i) (e i))) || attribute_same up f f' e i

  keeps_attribute : (c : ClassId) (up : List ClassId) (k : ℕ) (a a' : AttributeDef) → DeclareSame (Attribute a) (Attribute a')
      → Keeps (attribute_faults p c up k a) (attribute_faults p' c up k a')
  keeps_attribute c up k a a' h =
      keeps_both _ _ _ _ (keeps_noted (bytes_eq a.name (codes "self")) _ F3 a.at a'.at (λ i. bytes_eq (h.0 i) (codes "self")))
      (keeps_both _ _ _ _ (keeps_noted (is_doubled p c up k a.name) _ F2 a.at a'.at (doubled c up k a.name a'.name h.0))
      (keeps_type a.declared a'.declared h.1))

  -- The features of a class

  keeps_feature : (c : ClassId) (up : List ClassId) (k : ℕ) (x x' : Feature) → DeclareSame x x'
      → Keeps (one_feature_faults p c up k x) (one_feature_faults p' c up k x')
  keeps_feature c up k (Method m) (Method m') h = keeps_method c up k m m' h
  keeps_feature c up k (Method m) (Attribute a) h = absurd h
  keeps_feature c up k (Attribute a) (Method m) h = absurd h
  keeps_feature c up k (Attribute a) (Attribute a') h = keeps_attribute c up k a a' h

  keeps_features : (c : ClassId) (up : List ClassId) (k : ℕ) (xs xs' : List Feature) → AllDeclareSame xs xs'
      → Keeps (features_faults p c up k xs) (features_faults p' c up k xs')
  keeps_features c up k [] [] h = λ none. refl
  keeps_features c up k [] (x' ∷ xs') h = absurd h
  keeps_features c up k (x ∷ xs) [] h = absurd h
  keeps_features c up k (x ∷ xs) (x' ∷ xs') (h, hs) =
      keeps_both (one_feature_faults p c up k x) (features_faults p c up (k + 1) xs) (one_feature_faults p' c up k x')
      (features_faults p' c up (k + 1) xs') (keeps_feature c up k x x' h) (keeps_features c up (k + 1) xs xs' hs)

  -- Main and the limits

  lacks_at_same : (c : ClassId) (o : Option ℕ) → lacks_main_at (features_of p' c) o ≡ lacks_main_at (features_of p c) o
  lacks_at_same c None = refl
  lacks_at_same c (Some k) = ap has_formals (same.formals (User c k))

  lacks_same : (c : ClassId) → lacks_main p' c ≡ lacks_main p c
  lacks_same c =
      let method = ap (lacks_main_at (features_of p' c)) (method_same c (codes "main") (codes "main") refl) in
      let lacks = method ∙ lacks_at_same c (first_method 0 (features_of p c) (codes "main")) in
      λ i. bytes_eq (same.names c i) (codes "Main") && lacks i

  new_same : (c : ClassId) (up : List ClassId) (k : ℕ) (x x' : Feature) → DeclareSame x x'
      → new_name p' up (features_of p' c) k x' ≡ new_name p up (features_of p c) k x
  new_same c up k (Method m) (Method m') h =
      let is : is_new p' up (features_of p' c) k m'.name ≡ is_new p up (features_of p c) k m.name =
      λ i. is_index k (method_same c m.name m'.name h.0 i) && is_none (implemented up m.name m'.name h.0 i) in
      λ i. if is i then h.0 i ∷ [] else []
  new_same c up k (Method m) (Attribute a) h = absurd h
  new_same c up k (Attribute a) (Method m) h = absurd h
  new_same c up k (Attribute a) (Attribute a') h = refl

  all_new_same : (c : ClassId) (up : List ClassId) (k : ℕ) (xs xs' : List Feature) → AllDeclareSame xs xs'
      → new_among p' up (features_of p' c) k xs' ≡ new_among p up (features_of p c) k xs
  all_new_same c up k [] [] h = refl
  all_new_same c up k [] (x' ∷ xs') h = absurd h
  all_new_same c up k (x ∷ xs) [] h = absurd h
  all_new_same c up k (x ∷ xs) (x' ∷ xs') (h, hs) = λ i. new_same c up k x x' h i ++ all_new_same c up (k + 1) xs xs' hs i

  methods_same : (ds : List ClassId) → methods_of p' ds ≡ methods_of p ds
  methods_same [] = refl
  methods_same (d ∷ ds) =
      let own_new = all_new_same d ds 0 (features_of p d) (features_of p' d) (own d) in
      λ i. (if nat_lt d.0 5 then method_names (basic_methods d.0) else own_new i) ++ methods_same ds i

  over_same : (ds : List ClassId) → is_over_limit p' ds ≡ is_over_limit p ds
  over_same ds =
      λ i. nat_lt MOST_ATTRIBUTES (length (attributes_same p p' same ds i)) || nat_lt MOST_METHODS (length (methods_same ds i))

  -- Classes

  keeps_class : (c : ClassId) (up : List ClassId) (at at' : Place) → Keeps (class_faults p c up at) (class_faults p' c up at')
  keeps_class c up at at' =
      keeps_both _ _ _ _ (keeps_features c up 0 (features_of p c) (features_of p' c) (own c))
      (keeps_both _ _ _ _ (keeps_noted (lacks_main p c) _ F8 at at' (lacks_same c))
      (keeps_noted (is_over_limit p (c ∷ up)) _ F9 at at' (over_same (c ∷ up))))

  climbed_same : (n : ℕ) (o : Option ClassId) → climbed n p' o ≡ climbed n p o
  unfolding climbed
  climbed_same zero o = refl
  climbed_same (suc n) None = refl
  climbed_same (suc n) (Some c) = λ i. c ∷ (ap (climbed n p') (same.parents c) ∙ climbed_same n (parent_of p c)) i

  above_same : (c : ClassId) → above p' c ≡ above p c
  unfolding above
  above_same c = (λ i. climbed (same.count i) p' (same.parents c i)) ∙ climbed_same (length p) (parent_of p c)

  -- the features of the classes from a number on, wherever these stand
  pub keeps_from : (k : ℕ) (ats ats' : List Place) → length ats' ≡ length ats → Keeps (features_from p k ats) (features_from p' k ats')
  keeps_from k ats [] long none = refl
  keeps_from k [] (at' ∷ ats') long none = absurd (omega arith)
  keeps_from k (at ∷ ats) (at' ∷ ats') long none =
      let c = class_number k in
      let more : length ats' ≡ length ats = omega arith in
      let first = subst (λ (up : List ClassId). Keeps (class_faults p c (above p c) at) (class_faults p' c up at')) (sym (above_same c))
      (keeps_class c (above p c) at at') in
      keeps_both (class_faults p c (above p c) at) (features_from p (suc k) ats) (class_faults p' c (above p' c) at')
      (features_from p' (suc k) ats') first (keeps_from (suc k) ats ats' more) none
