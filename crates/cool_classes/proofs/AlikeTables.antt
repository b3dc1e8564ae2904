-- If two class tables differ only in method bodies, initial values and source locations, look-ups in both give the same results.
use Rattle.std.proofs.Common.{◌≡◌, ℕ, zero, suc, ◌+◌, List, [], ◌∷◌, length, take, Option, Some, refl, sym, ap, arith}
use Rattle.std.specs.Prelude.{slice_get, bytes_eq, nat_lt, option_map, if◌then◌else◌}
use Rattle.std.specs.List.{AllByRecursion}
use Rattle.cool_syntax.specs.declared.file_tree.Feature.{Feature}
use Rattle.cool_syntax.specs.declared.file_tree.Feature.TheVariants.{Method, Attribute}
use Rattle.cool_classes.specs.declared.class_id.ClassId.{ClassId}
use Rattle.cool_classes.specs.declared.method.AttributeRef.{AttributeRef}
use Rattle.cool_classes.specs.declared.method.MethodRef.{MethodRef}
use Rattle.cool_classes.specs.declared.method.MethodRef.TheVariants.{Basic, User}
use Rattle.cool_classes.specs.Declarations.{DeclareSame, AllDeclareSame, AreAlike, AreAllAlike}
use Rattle.cool_classes.specs.Chains.{Class, class_at, name_of, parent_of, features_of}
use Rattle.cool_classes.specs.Features.{method_among, basic_methods, user_method, first_method, is_method_named, own_method, own_attributes, name_in, attribute_name, formals_in, formals_of, result_in, result_of}

-- look-ups in two tables find the same
pub record FindSame (p p' : List Class) : Type 0 where
  pub count : length p' ≡ length p
  pub names : (c : ClassId) → name_of p' c ≡ name_of p c
  pub parents : (c : ClassId) → parent_of p' c ≡ parent_of p c
  pub methods : (c : ClassId) (f : List ℕ) → own_method p' c f ≡ own_method p c f
  pub attributes : (c : ClassId) → own_attributes c 0 (features_of p' c) ≡ own_attributes c 0 (features_of p c)
  pub formals : (m : MethodRef) → formals_of p' m ≡ formals_of p m
  pub results : (m : MethodRef) → result_of p' m ≡ result_of p m
  pub attribute_names : (r : AttributeRef) → attribute_name p' r ≡ attribute_name p r

pub flipped : (p p' : List Class) → FindSame p p' → FindSame p' p
flipped p p' s = record {
  count = sym s.count;
  names = λ c. sym (s.names c);
  parents = λ c. sym (s.parents c);
  methods = λ c f. sym (s.methods c f);
  attributes = λ c. sym (s.attributes c);
  formals = λ m. sym (s.formals m);
  results = λ m. sym (s.results m);
  attribute_names = λ r. sym (s.attribute_names r);
}

-- Features

named_alike : (f : List ℕ) (x x' : Feature) → DeclareSame x x' → is_method_named f x' ≡ is_method_named f x
named_alike f (Method m) (Method m') h = ap (λ (n : List ℕ). bytes_eq n f) h.0
named_alike f (Method m) (Attribute a) h = absurd h
named_alike f (Attribute a) (Method m) h = absurd h
named_alike f (Attribute a) (Attribute a') h = refl

pub first_alike : (f : List ℕ) (k : ℕ) (xs xs' : List Feature) → AllDeclareSame xs xs' → first_method k xs' f ≡ first_method k xs f
first_alike f k [] [] h = refl
first_alike f k [] (x' ∷ xs') h = absurd h
first_alike f k (x ∷ xs) [] h = absurd h
first_alike f k (x ∷ xs) (x' ∷ xs') (h, hs) = λ i. if named_alike f x x' h i then Some k else first_alike f (k + 1) xs xs' hs i

own_alike : (c : ClassId) (k : ℕ) (xs xs' : List Feature) → AllDeclareSame xs xs' → own_attributes c k xs' ≡ own_attributes c k xs
own_alike c k [] [] h = refl
own_alike c k [] (x' ∷ xs') h = absurd h
own_alike c k (x ∷ xs) [] h = absurd h
own_alike c k (Method m ∷ xs) (Method m' ∷ xs') (h, hs) = own_alike c (k + 1) xs xs' hs
own_alike c k (Method m ∷ xs) (Attribute a ∷ xs') (h, hs) = absurd h
own_alike c k (Attribute a ∷ xs) (Method m ∷ xs') (h, hs) = absurd h
own_alike c k (Attribute a ∷ xs) (Attribute a' ∷ xs') (h, hs) =
    ap (λ (rs : List AttributeRef). record { owner = c; index = k } ∷ rs) (own_alike c (k + 1) xs xs' hs)

-- the declaration of a feature at an index
record GotAlike (o o' : Option Feature) : Type 0 where
  pub name : name_in o' ≡ name_in o
  pub formals : formals_in o' ≡ formals_in o
  pub result : result_in o' ≡ result_in o

declared_alike : (x x' : Feature) → DeclareSame x x' → GotAlike (Some x) (Some x')
declared_alike (Method m) (Method m') h =
    record { name = h.0; formals = h.1; result = h.2 }
declared_alike (Method m) (Attribute a) h = absurd h
declared_alike (Attribute a) (Method m) h = absurd h
declared_alike (Attribute a) (Attribute a') h = record { name = h.0; formals = refl; result = h.1 }

got_alike : (xs xs' : List Feature) (i : ℕ) → AllDeclareSame xs xs' → GotAlike (slice_get xs i) (slice_get xs' i)
got_alike [] [] i h = record { name = refl; formals = refl; result = refl }
got_alike [] (x' ∷ xs') i h = absurd h
got_alike (x ∷ xs) [] i h = absurd h
got_alike (x ∷ xs) (x' ∷ xs') zero h = declared_alike x x' h.0
got_alike (x ∷ xs) (x' ∷ xs') (suc i) h = got_alike xs xs' i h.1

-- Classes

pub as_many : (p p' : List Class) → AreAllAlike p p' → length p' ≡ length p
as_many [] [] h = refl
as_many [] (d' ∷ ds') h = absurd h
as_many (d ∷ ds) [] h = absurd h
as_many (d ∷ ds) (d' ∷ ds') h = ap suc (as_many ds ds' h.1)

at_alike : (p p' : List Class) (n : ℕ) → AreAllAlike p p' → AreAlike (class_at p (record { 0 = n })) (class_at p' (record { 0 = n }))
at_alike [] [] n h = (refl, refl, tt)
at_alike [] (d' ∷ ds') n h = absurd h
at_alike (d ∷ ds) [] n h = absurd h
at_alike (d ∷ ds) (d' ∷ ds') zero h = h.0
at_alike (d ∷ ds) (d' ∷ ds') (suc n) h = at_alike ds ds' n h.1

-- the features of a class
pub features_alike : (p p' : List Class) (c : ClassId) → AreAllAlike p p' → AllDeclareSame (features_of p c) (features_of p' c)
features_alike p p' c h = let same = at_alike p p' c.0 h in same.2

module _ (p p' : List Class) (h : AreAllAlike p p') where
  class_alike : (c : ClassId) → AreAlike (class_at p c) (class_at p' c)
  class_alike c = at_alike p p' c.0 h

  feature_alike : (c : ClassId) (i : ℕ) → GotAlike (slice_get (features_of p c) i) (slice_get (features_of p' c) i)
  feature_alike c i = got_alike (features_of p c) (features_of p' c) i (class_alike c).2

  formals_alike : (m : MethodRef) → formals_of p' m ≡ formals_of p m
  formals_alike (Basic b) = refl
  formals_alike (User c i) = (feature_alike c i).formals

  results_alike : (m : MethodRef) → result_of p' m ≡ result_of p m
  results_alike (Basic b) = refl
  results_alike (User c i) = (feature_alike c i).result

  pub find_same : FindSame p p'
  find_same = record {
    count = as_many p p' h;
    names = λ c. (class_alike c).0;
    parents = λ c. (class_alike c).1;
    methods = λ c f.
        ap (λ (o : Option ℕ). if nat_lt c.0 5 then option_map Basic (method_among (basic_methods c.0) f) else user_method c o)
        (first_alike f 0 (features_of p c) (features_of p' c) (class_alike c).2);
    attributes = λ c. own_alike c 0 (features_of p c) (features_of p' c) (class_alike c).2;
    formals = formals_alike;
    results = results_alike;
    attribute_names = λ r. (feature_alike r.owner r.index).name;
  }

-- the first classes of both
pub first_alike_classes : (n : ℕ) (ds ds' : List Class) → AreAllAlike ds ds' → AreAllAlike (take n ds) (take n ds')
first_alike_classes zero ds ds' h = tt
first_alike_classes (suc n) [] [] h = tt
first_alike_classes (suc n) [] (d' ∷ ds') h = absurd h
first_alike_classes (suc n) (d ∷ ds) [] h = absurd h
first_alike_classes (suc n) (d ∷ ds) (d' ∷ ds') h = (h.0, first_alike_classes n ds ds' h.1)

empty_alike : (xs xs' : List Feature) → length xs ≡ 0 → AllDeclareSame xs xs' → xs' ≡ xs
empty_alike [] [] e h = refl
empty_alike [] (x' ∷ xs') e h = absurd h
empty_alike (x ∷ xs) xs' e h = absurd (omega arith)

-- classes without features are the same where they are alike
pub bare_same : (ds ds' : List Class) → AllByRecursion (λ (d : Class). length d.features ≡ 0) ds → AreAllAlike ds ds' → ds' ≡ ds
bare_same [] [] none h = refl
bare_same [] (d' ∷ ds') none h = absurd h
bare_same (d ∷ ds) [] none h = absurd h
bare_same (d ∷ ds) (d' ∷ ds') (none, nones) h =
    let features : d'.features ≡ d.features = empty_alike d.features d'.features none h.0.2 in
    let rest = bare_same ds ds' nones h.1 in
    λ i. record { name = h.0.0 i; parent = h.0.1 i; features = features i } ∷ rest i
