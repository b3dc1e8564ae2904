-- If the classes have no fault (compile-time error), the methods of each class have different names, and so have the formal parameters of each method and the
-- attributes of each class with the inherited ones.
use Rattle.std.proofs.Common.{◌≡◌, ◌≢◌, ℕ, suc, ◌+◌, ◌<◌, List, [], ◌∷◌, ◌++◌, map, length, Option, Some, None, Bool, true, false, not, ◌||◌, cond, ap, sym, ◌∙◌, refl, subst, arith}
use Rattle.std.specs.Prelude.{bytes_eq, slice_get, is_some}
use Rattle.std.specs.List.{AllByRecursion}
use Rattle.cool_syntax.specs.declared.place.Place.{Place}
use Rattle.cool_syntax.specs.declared.file_tree.Feature.{Feature}
use Rattle.cool_syntax.specs.declared.file_tree.Feature.TheVariants.{Method, Attribute}
use Rattle.cool_syntax.specs.declared.file_tree.Formal.{Formal}
use Rattle.cool_syntax.specs.declared.file_tree.AttributeDef.{AttributeDef}
use Rattle.cool_classes.specs.declared.class_id.ClassId.{ClassId}
use Rattle.cool_classes.specs.declared.fault.ClassKind.{ClassKind}
use Rattle.cool_classes.specs.declared.fault.ClassKind.TheVariants.{F1, F2, F3, F4, F7}
use Rattle.cool_classes.specs.declared.method.AttributeRef.{AttributeRef}
use Rattle.cool_classes.specs.Chains.{Class, parent_of, features_of, IsChain}
use Rattle.cool_classes.specs.FeatureFaults.{noted, type_faults, redefines_otherwise, have_attribute, is_doubled, formal_faults, formals_faults, one_feature_faults, attribute_faults, features_faults}
use Rattle.cool_classes.specs.Features.{first_method, implementation, own_attributes, attributes_of, name_in, attribute_name as name_at}
use Rattle.cool_classes.specs.FirstNames.{first_index, is_index, attribute_name}
use Rattle.cool_classes.specs.LawfulTables.{HasDifferentFormals, method_names}
use Rattle.cool_classes.specs.Tables.{IsWholeTable}
use Rattle.lists.specs.Different.{AreDifferent}
use Rattle.lists.proofs.AllItems.{all_append}
use Rattle.lists.proofs.JoinedLists.{none_both}
use Rattle.lists.proofs.EqualBytes.{bytes_same}
use Rattle.lists.proofs.Options.{none_is}
use Rattle.std.proofs.lemmas.Bool.{or_parts, not-false, eqb-true}

-- a test that notes no fault fails
pub not_noted : (b : Bool) (kind : ClassKind) (at : Place) → noted b kind at ≡ [] → b ≡ false
not_noted false kind at h = refl
not_noted true kind at h = absurd (cc)

-- Rows of names

-- a name that stands in a row stands in a longer one
kept : (k : ℕ) (row more : List (Option (List ℕ))) (n : List ℕ) → first_index k row n ≢ None → first_index k (row ++ more) n ≢ None
kept k [] more n h = absurd (h refl)
kept k (None ∷ row) more n h = kept (k + 1) row more n h
kept k (Some m ∷ row) more n h = by (bytes_eq n m) h (kept (k + 1) row more n)
  where
    by : (b : Bool) → cond b (Some k) (first_index (k + 1) row n) ≢ None → (first_index (k + 1) row n ≢ None → first_index (k + 1) (row ++ more) n ≢ None) → cond b (Some k) (first_index (k + 1) (row ++ more) n) ≢ None
    by true h rest = λ e. cc
    by false h rest = rest h

-- the last name of a row stands in it
last_there : (k : ℕ) (row : List (Option (List ℕ))) (n : List ℕ) → first_index k (row ++ Some n ∷ []) n ≢ None
last_there k [] n = λ e. absurd (some_none (sym (ap (λ (b : Bool). cond b (Some k) None) (bytes_same n n refl)) ∙ e))
  where
    some_none : Some k ≡ None → ⊥
    some_none e = cc
last_there k (None ∷ row) n = last_there (k + 1) row n
last_there k (Some m ∷ row) n = by (bytes_eq n m) (last_there (k + 1) row n)
  where
    by : (b : Bool) → first_index (k + 1) (row ++ Some n ∷ []) n ≢ None → cond b (Some k) (first_index (k + 1) (row ++ Some n ∷ []) n) ≢ None
    by true rest = λ e. cc
    by false rest = rest

-- Two tests, and lists of names

index_is : (k : ℕ) (o : Option ℕ) → is_index k o ≡ true → o ≡ Some k
index_is k None h = absurd (cc)
index_is k (Some j) h = ap Some (eqb-true j k h)

different_append : (xs ys : List (List ℕ)) → AreDifferent xs → AreDifferent ys → AllByRecursion (λ (n : List ℕ). AllByRecursion (λ (o : List ℕ). o ≢ n) xs) ys → AreDifferent (xs ++ ys)
different_append [] ys h g both = g
different_append (x ∷ xs) ys h g both = (all_append (λ (o : List ℕ). o ≢ x) xs ys h.0 (heads ys both), different_append xs ys h.1 g (tails ys both))
  where
    heads : (ys : List (List ℕ)) → AllByRecursion (λ (n : List ℕ). AllByRecursion (λ (o : List ℕ). o ≢ n) (x ∷ xs)) ys → AllByRecursion (λ (o : List ℕ). o ≢ x) ys
    heads [] b = tt
    heads (y ∷ ys) b = ((λ same. b.0.0 (sym same)), heads ys b.1)

    tails : (ys : List (List ℕ)) → AllByRecursion (λ (n : List ℕ). AllByRecursion (λ (o : List ℕ). o ≢ n) (x ∷ xs)) ys → AllByRecursion (λ (n : List ℕ). AllByRecursion (λ (o : List ℕ). o ≢ n) xs) ys
    tails [] b = tt
    tails (y ∷ ys) b = (b.0.1, tails ys b.1)

-- Formals

module _ (p : List Class) where
  abbrev formal_names : List Formal → List (List ℕ)
  formal_names fs = map (λ (f : Formal). f.name) fs

  -- no formal has a name that stands before it
  formal_new : (before : List (Option (List ℕ))) (f : Formal) → formal_faults p before f ≡ [] → first_index 0 before f.name ≡ None
  formal_new before f h = none_is (first_index 0 before f.name) (not_noted (is_some (first_index 0 before f.name)) F4 f.at (none_both (noted (is_some (first_index 0 before f.name)) F4 f.at) _ (none_both (noted _ F3 f.at) _ h).1).0)

  later_new : (before : List (Option (List ℕ))) (n : List ℕ) (fs : List Formal) → first_index 0 before n ≢ None → formals_faults p before fs ≡ [] → AllByRecursion (λ (o : List ℕ). o ≢ n) (formal_names fs)
  later_new before n [] there h = tt
  later_new before n (f ∷ fs) there h =
      let both = none_both (formal_faults p before f) (formals_faults p (before ++ Some f.name ∷ []) fs) h in
      ((λ same. there (subst (λ (o : List ℕ). first_index 0 before o ≡ None) same (formal_new before f both.0))), later_new (before ++ Some f.name ∷ []) n fs (kept 0 before (Some f.name ∷ []) n there) both.1)

  formals_different : (before : List (Option (List ℕ))) (fs : List Formal) → formals_faults p before fs ≡ [] → AreDifferent (formal_names fs)
  formals_different before [] h = tt
  formals_different before (f ∷ fs) h =
      let rest = (none_both (formal_faults p before f) (formals_faults p (before ++ Some f.name ∷ []) fs) h).1 in
      (later_new (before ++ Some f.name ∷ []) f.name fs (last_there 0 before f.name) rest, formals_different (before ++ Some f.name ∷ []) fs rest)

  -- Attributes

  abbrev names : List AttributeRef → List (List ℕ)
  names rs = map (name_at p) rs

  names_append : (rs qs : List AttributeRef) → names (rs ++ qs) ≡ names rs ++ names qs
  names_append [] qs = refl
  names_append (r ∷ rs) qs = ap (λ (ns : List (List ℕ)). name_in (slice_get (features_of p r.owner) r.index) ∷ ns) (names_append rs qs)

  -- the names of the attributes among features
  own_names : List Feature → List (List ℕ)
  own_names [] = []
  own_names (Method m ∷ fs) = own_names fs
  own_names (Attribute a ∷ fs) = a.name ∷ own_names fs

  abbrev StandsAt : ClassId → ℕ → List Feature → Type 0
  StandsAt d k fs = (i : ℕ) (x : Feature) → slice_get fs i ≡ Some x → (j : ℕ) → j ≡ k + i → slice_get (features_of p d) j ≡ Some x

  own_named : (d : ClassId) (k : ℕ) (fs : List Feature) → StandsAt d k fs → names (own_attributes d k fs) ≡ own_names fs
  unfolding own_names
  own_named d k [] at = refl
  own_named d k (Method m ∷ fs) at = own_named d (k + 1) fs (λ i x e j sum. at (suc i) x e j (omega arith))
  own_named d k (Attribute a ∷ fs) at =
      let first : name_in (slice_get (features_of p d) k) ≡ a.name = ap name_in (at 0 (Attribute a) refl k (omega arith)) in
      let rest : names (own_attributes d (k + 1) fs) ≡ own_names fs = own_named d (k + 1) fs (λ i x e j sum. at (suc i) x e j (omega arith)) in
      λ i. first i ∷ rest i

  -- a name that is that of no attribute
  none_own : (k : ℕ) (fs : List Feature) (n : List ℕ) → first_index k (map attribute_name fs) n ≡ None → AllByRecursion (λ (o : List ℕ). o ≢ n) (own_names fs)
  unfolding own_names
  none_own k [] n h = tt
  none_own k (Method m ∷ fs) n h = none_own (k + 1) fs n h
  none_own k (Attribute a ∷ fs) n h = by (bytes_eq n a.name) refl h (none_own (k + 1) fs n)
    where
      by : (b : Bool) → bytes_eq n a.name ≡ b → cond b (Some k) (first_index (k + 1) (map attribute_name fs) n) ≡ None → (first_index (k + 1) (map attribute_name fs) n ≡ None → AllByRecursion (λ (o : List ℕ). o ≢ n) (own_names fs))
          → (a.name ≢ n) × AllByRecursion (λ (o : List ℕ). o ≢ n) (own_names fs)
      by true e h rest = absurd (cc)
      by false e h rest = ((λ same. true_false (sym (bytes_same n a.name (sym same)) ∙ e)), rest h)
        where
          true_false : true ≡ false → ⊥
          true_false e = cc

  -- the attributes among features, from an index on, are each the first of its name in a row
  abbrev AreFirst : List (Option (List ℕ)) → ℕ → List Feature → Type 0
  AreFirst row k [] = Unit {0}
  AreFirst row k (Method m ∷ fs) = AreFirst row (k + 1) fs
  AreFirst row k (Attribute a ∷ fs) = (first_index 0 row a.name ≡ Some k) × AreFirst row (k + 1) fs

  later_own : (row : List (Option (List ℕ))) (k j : ℕ) (n : List ℕ) (fs : List Feature) → first_index 0 row n ≡ Some j → j < k → AreFirst row k fs → AllByRecursion (λ (o : List ℕ). o ≢ n) (own_names fs)
  unfolding own_names
  later_own row k j n [] e less h = tt
  later_own row k j n (Method m ∷ fs) e less h = later_own row (k + 1) j n fs e (omega arith) h
  later_own row k j n (Attribute a ∷ fs) e less h =
      ((λ same. apart (sym (subst (λ (o : List ℕ). first_index 0 row o ≡ Some k) same h.0) ∙ e)), later_own row (k + 1) j n fs e (omega arith) h.1)
    where
      apart : Some k ≡ Some j → ⊥
      apart same = let is : k ≡ j = cc in omega arith

  own_different : (row : List (Option (List ℕ))) (k : ℕ) (fs : List Feature) → AreFirst row k fs → AreDifferent (own_names fs)
  unfolding own_names
  own_different row k [] h = tt
  own_different row k (Method m ∷ fs) h = own_different row (k + 1) fs h
  own_different row k (Attribute a ∷ fs) h = (later_own row (k + 1) k a.name fs h.0 (omega arith) h.1, own_different row (k + 1) fs h.1)

  whole_at : (d : ClassId) → StandsAt d 0 (features_of p d)
  whole_at d i x e j sum = let same : i ≡ j = omega arith in subst (λ (m : ℕ). slice_get (features_of p d) m ≡ Some x) same e

  -- no attribute of classes has a name
  above_names : (ds : List ClassId) (n : List ℕ) → have_attribute p ds n ≡ false → AllByRecursion (λ (o : List ℕ). o ≢ n) (names (attributes_of p ds))
  above_names [] n h = tt
  above_names (d ∷ ds) n h =
      let both = or_parts (is_some (first_index 0 (map attribute_name (features_of p d)) n)) (have_attribute p ds n) h in
      subst (AllByRecursion (λ (o : List ℕ). o ≢ n)) (sym (names_append (attributes_of p ds) (own_attributes d 0 (features_of p d))))
      (all_append (λ (o : List ℕ). o ≢ n) (names (attributes_of p ds)) (names (own_attributes d 0 (features_of p d))) (above_names ds n both.1)
      (subst (AllByRecursion (λ (o : List ℕ). o ≢ n)) (sym (own_named d 0 (features_of p d) (whole_at d))) (none_own 0 (features_of p d) n (none_is (first_index 0 (map attribute_name (features_of p d)) n) both.0))))

  -- an attribute without fault is the first of its name, and has none above it
  not_doubled : (d : ClassId) (up : List ClassId) (k : ℕ) (a : AttributeDef) → attribute_faults p d up k a ≡ [] → (first_index 0 (map attribute_name (features_of p d)) a.name ≡ Some k) × (have_attribute p up a.name ≡ false)
  not_doubled d up k a h =
      let doubled = not_noted (is_doubled p d up k a.name) F2 a.at (none_both (noted (is_doubled p d up k a.name) F2 a.at) _ (none_both (noted _ F3 a.at) _ h).1).0 in
      let both = or_parts (not (is_index k (first_index 0 (map attribute_name (features_of p d)) a.name))) (have_attribute p up a.name) doubled in
      (index_is k (first_index 0 (map attribute_name (features_of p d)) a.name) (not-false (is_index k (first_index 0 (map attribute_name (features_of p d)) a.name)) both.0), both.1)

  firsts : (d : ClassId) (up : List ClassId) (k : ℕ) (fs : List Feature) → features_faults p d up k fs ≡ [] → AreFirst (map attribute_name (features_of p d)) k fs
  firsts d up k [] h = tt
  firsts d up k (Method m ∷ fs) h = firsts d up (k + 1) fs (none_both (one_feature_faults p d up k (Method m)) (features_faults p d up (k + 1) fs) h).1
  firsts d up k (Attribute a ∷ fs) h =
      let both = none_both (one_feature_faults p d up k (Attribute a)) (features_faults p d up (k + 1) fs) h in
      ((not_doubled d up k a both.0).0, firsts d up (k + 1) fs both.1)

  none_above : (d : ClassId) (up : List ClassId) (k : ℕ) (fs : List Feature) → features_faults p d up k fs ≡ [] → AllByRecursion (λ (n : List ℕ). AllByRecursion (λ (o : List ℕ). o ≢ n) (names (attributes_of p up))) (own_names fs)
  unfolding own_names
  none_above d up k [] h = tt
  none_above d up k (Method m ∷ fs) h = none_above d up (k + 1) fs (none_both (one_feature_faults p d up k (Method m)) (features_faults p d up (k + 1) fs) h).1
  none_above d up k (Attribute a ∷ fs) h =
      let both = none_both (one_feature_faults p d up k (Attribute a)) (features_faults p d up (k + 1) fs) h in
      (above_names up a.name (not_doubled d up k a both.0).1, none_above d up (k + 1) fs both.1)

  -- a class whose features have no fault adds attributes of other names
  with_own : (d : ClassId) (up : List ClassId) → features_faults p d up 0 (features_of p d) ≡ [] → AreDifferent (names (attributes_of p up)) → AreDifferent (names (attributes_of p (d ∷ up)))
  with_own d up free h =
      let own : own_names (features_of p d) ≡ names (own_attributes d 0 (features_of p d)) = sym (own_named d 0 (features_of p d) (whole_at d)) in
      subst AreDifferent (sym (names_append (attributes_of p up) (own_attributes d 0 (features_of p d))))
      (different_append (names (attributes_of p up)) (names (own_attributes d 0 (features_of p d))) h
      (subst AreDifferent own (own_different (map attribute_name (features_of p d)) 0 (features_of p d) (firsts d up 0 (features_of p d) free)))
      (subst (AllByRecursion (λ (n : List ℕ). AllByRecursion (λ (o : List ℕ). o ≢ n) (names (attributes_of p up)))) own (none_above d up 0 (features_of p d) free)))

  -- the features of a class have no fault, below its chain
  abbrev IsFaultless : ClassId → Type 0
  IsFaultless d = (up : List ClassId) → IsChain p (parent_of p d) up → features_faults p d up 0 (features_of p d) ≡ []

  -- if the features of no class have a fault, its attributes have different names, those that it inherits among them
  pub attributes_named : IsWholeTable p → ((d : ClassId) → d.0 < length p → IsFaultless d) → (c : ClassId) → c.0 < length p → (ds : List ClassId) → IsChain p (Some c) ds → AreDifferent (names (attributes_of p ds))
  attributes_named whole free c within [] h = absurd h
  attributes_named whole free c within (d ∷ ds) h =
      let d_within : d.0 < length p = subst (λ (x : ClassId). x.0 < length p) (sym h.0) within in
      let up : IsChain p (parent_of p d) ds = subst (λ (x : ClassId). IsChain p (parent_of p x) ds) (sym h.0) h.1 in
      with_own d ds (free d d_within ds up) (by (parent_of p d) refl up (λ q e k. attributes_named whole free q (whole.grounded.above d q d_within e).0 ds k))
    where
      by : (o : Option ClassId) → parent_of p d ≡ o → IsChain p o ds → ((q : ClassId) → parent_of p d ≡ Some q → IsChain p (Some q) ds → AreDifferent (names (attributes_of p ds))) → AreDifferent (names (attributes_of p ds))
      by (Some q) e k more = more q e k
      by None e k more = none_above_all ds k
        where
          none_above_all : (es : List ClassId) → IsChain p None es → AreDifferent (names (attributes_of p es))
          none_above_all [] k = tt
          none_above_all (x ∷ es) k = absurd k

  formals_of_features : (c : ClassId) (up : List ClassId) (k : ℕ) (fs : List Feature) → features_faults p c up k fs ≡ [] → AllByRecursion HasDifferentFormals fs
  formals_of_features c up k [] h = tt
  formals_of_features c up k (Method m ∷ fs) h =
      let both = none_both (one_feature_faults p c up k (Method m)) (features_faults p c up (k + 1) fs) h in
      let anew = none_both (noted (not (is_index k (first_method 0 (features_of p c) m.name))) F1 m.at) _ both.0 in
      let redefined = none_both (noted (redefines_otherwise p m (implementation p up m.name)) F7 m.at) _ anew.1 in
      (formals_different [] m.formals (none_both (formals_faults p [] m.formals) (type_faults p m.result) redefined.1).0, formals_of_features c up (k + 1) fs both.1)
  formals_of_features c up k (Attribute a ∷ fs) h = (tt, formals_of_features c up (k + 1) fs (none_both (one_feature_faults p c up k (Attribute a)) (features_faults p c up (k + 1) fs) h).1)

  rest_of_chain : (c : ClassId) (ds : List ClassId) → IsChain p (Some c) ds → (up : List ClassId) × IsChain p (parent_of p c) up
  rest_of_chain c [] h = absurd h
  rest_of_chain c (d ∷ ds) h = (ds, h.1)

  -- and so have the formals of its methods
  pub formals_named : IsWholeTable p → ((d : ClassId) → d.0 < length p → IsFaultless d) → (c : ClassId) → c.0 < length p → AllByRecursion HasDifferentFormals (features_of p c)
  formals_named whole free c within =
      let (ds, chain) = whole.table.chains c within in
      let up = rest_of_chain c ds chain in
      formals_of_features c up.0 0 (features_of p c) (free c within up.0 up.1)

  -- Methods

  -- the methods among features, from an index on, are each the first of its name
  abbrev AreFirstMethods : List Feature → ℕ → List Feature → Type 0
  AreFirstMethods all k [] = Unit {0}
  AreFirstMethods all k (Method m ∷ fs) = (first_method 0 all m.name ≡ Some k) × AreFirstMethods all (k + 1) fs
  AreFirstMethods all k (Attribute a ∷ fs) = AreFirstMethods all (k + 1) fs

  later_methods : (all : List Feature) (k j : ℕ) (n : List ℕ) (fs : List Feature) → first_method 0 all n ≡ Some j → j < k → AreFirstMethods all k fs → AllByRecursion (λ (o : List ℕ). o ≢ n) (method_names fs)
  later_methods all k j n [] e less h = tt
  later_methods all k j n (Method m ∷ fs) e less h =
      ((λ same. apart (sym (subst (λ (o : List ℕ). first_method 0 all o ≡ Some k) same h.0) ∙ e)), later_methods all (k + 1) j n fs e (omega arith) h.1)
    where
      apart : Some k ≡ Some j → ⊥
      apart same = let is : k ≡ j = cc in omega arith
  later_methods all k j n (Attribute a ∷ fs) e less h = later_methods all (k + 1) j n fs e (omega arith) h

  methods_different : (all : List Feature) (k : ℕ) (fs : List Feature) → AreFirstMethods all k fs → AreDifferent (method_names fs)
  methods_different all k [] h = tt
  methods_different all k (Method m ∷ fs) h = (later_methods all (k + 1) k m.name fs h.0 (omega arith) h.1, methods_different all (k + 1) fs h.1)
  methods_different all k (Attribute a ∷ fs) h = methods_different all (k + 1) fs h

  first_methods : (d : ClassId) (up : List ClassId) (k : ℕ) (fs : List Feature) → features_faults p d up k fs ≡ [] → AreFirstMethods (features_of p d) k fs
  first_methods d up k [] h = tt
  first_methods d up k (Method m ∷ fs) h =
      let both = none_both (one_feature_faults p d up k (Method m)) (features_faults p d up (k + 1) fs) h in
      let twice = not_noted (not (is_index k (first_method 0 (features_of p d) m.name))) F1 m.at (none_both (noted (not (is_index k (first_method 0 (features_of p d) m.name))) F1 m.at) _ both.0).0 in
      (index_is k (first_method 0 (features_of p d) m.name) (not-false (is_index k (first_method 0 (features_of p d) m.name)) twice), first_methods d up (k + 1) fs both.1)
  first_methods d up k (Attribute a ∷ fs) h = first_methods d up (k + 1) fs (none_both (one_feature_faults p d up k (Attribute a)) (features_faults p d up (k + 1) fs) h).1

  -- if the features of no class have a fault, the methods of each have different names
  pub methods_named : IsWholeTable p → ((d : ClassId) → d.0 < length p → IsFaultless d) → (c : ClassId) → c.0 < length p → AreDifferent (method_names (features_of p c))
  methods_named whole free c within =
      let (ds, chain) = whole.table.chains c within in
      let up = rest_of_chain c ds chain in
      methods_different (features_of p c) 0 (features_of p c) (first_methods c up.0 0 (features_of p c) (free c within up.0 up.1))
