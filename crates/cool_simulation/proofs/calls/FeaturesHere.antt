-- The class of each feature of a program is not a basic class, the feature's constants are among those of the program, and the feature is within the compiler's
-- limits.
use Rattle.std.proofs.Common.{◌≡◌, ◌⊎◌, inl, inr, ℕ, zero, suc, ◌+◌, ◌<◌, ◌≤◌, List, [], ◌∷◌, ◌++◌, length, get_or, flat_map, Some, Bool as Truth, true, false, Contains, refl, sym, ap, ◌∙◌, subst, arith}
use Rattle.std.specs.Prelude.{slice_get, nat_eq, bytes_eq, if◌then◌else◌}
use Rattle.std.specs.List.{list_any}
use Rattle.std.proofs.lemmas.List.{get_or-take}
use Rattle.std.proofs.lemmas.Map.Views.{Contains-from_any}
use Rattle.std.proofs.lemmas.List.Elements.{Contains-append_left, Contains-append_right, Contains-push}
use Rattle.std.proofs.lemmas.Slice.Eq.{bytes_eq-Decides}
use Rattle.cool_syntax.specs.declared.file_tree.Feature.{Feature}
use Rattle.cool_syntax.specs.declared.file_tree.Feature.TheVariants.{Method, Attribute}
use Rattle.cool_syntax.specs.FeatureSizes.{IsBoundedFeature}
use Rattle.cool_syntax.specs.TreesWithinLimits.{IsFeatureWithin}
use Rattle.cool_classes.specs.declared.class_id.ClassId.{ClassId}
use Rattle.cool_classes.specs.Chains.{Class, nothing, features_of}
use Rattle.cool_classes.specs.Tables.{basic_classes}
use Rattle.cool_rules.specs.TypedTables.{IsTypedTable}
use Rattle.cool_consts.specs.Constants.{with_integer, with_string}
use Rattle.cool_codegen.specs.Asked.{with_integers, with_strings}
use Rattle.cool_codegen.specs.Features.{feature_integers, feature_strings}
use Rattle.cool_emit.specs.Programs.{Placed, IsBuildable, attributes_from, methods_from, class_features, all_features, program_constants}
use Rattle.cool_emit.proofs.LabelsOfParts.{number_there}
use Rattle.cool_layout.specs.Preorder.{numbers_from}
use Rattle.lists.proofs.AllItems.{all_get}
use Rattle.std.proofs.lemmas.Bool.{eqb-true}
use Rattle.cool_emit.proofs.TextOfPrograms.{integer_stays, string_stays}
use Rattle.lists.proofs.Membership.{later_there}

-- The basic classes have no features

basic_empty : (n : ℕ) → n < 5 → (get_or basic_classes n nothing).features ≡ []
basic_empty zero less = refl
basic_empty (suc zero) less = refl
basic_empty (suc (suc zero)) less = refl
basic_empty (suc (suc (suc zero))) less = refl
basic_empty (suc (suc (suc (suc zero)))) less = refl
basic_empty (suc (suc (suc (suc (suc n))))) less = absurd (omega arith)

module _ (p : List Class) (typed : IsTypedTable p) where
  pub no_features : (c : ClassId) → c.0 < 5 → features_of p c ≡ []
  no_features c less =
      ap (λ (x : Class). x.features) (sym (get_or-take 5 p c.0 nothing less) ∙ ap (λ (cs : List Class). get_or cs c.0 nothing) typed.whole.table.basic) ∙ basic_empty c.0 less

  pub high_class : (c : ClassId) (k : ℕ) (x : Feature) → slice_get (features_of p c) k ≡ Some x → 5 ≤ c.0
  high_class c k x there = by order
    where
      order : (c.0 < 5) ⊎ (5 ≤ c.0)
      order = grind arith

      by : (c.0 < 5) ⊎ (5 ≤ c.0) → 5 ≤ c.0
      by (inl less) = let none : slice_get {X = Feature} [] k ≡ Some x = ap (λ (fs : List Feature). slice_get fs k) (sym (no_features c less)) ∙ there in absurd (nothing_there k none)
        where
          nothing_there : (j : ℕ) → slice_get {X = Feature} [] j ≡ Some x → ⊥
          nothing_there j e = absurd cc
      by (inr more) = more

-- The constants of a feature are among those of its program

added : {X : Type 0} (same : X → X → Truth) → ((x y : X) → same x y ≡ true → x ≡ y) → (xs : List X) (x : X) → Contains (if list_any (same x) xs then xs else xs ++ x ∷ []) x
added same decides xs x = by (list_any (same x) xs) refl
  where
    by : (t : Truth) → list_any (same x) xs ≡ t → Contains (if t then xs else xs ++ x ∷ []) x
    by true e = Contains-from_any decides x xs e
    by false e = Contains-push xs x

stays : {X : Type 0} (t : Truth) (xs : List X) (x y : X) → Contains xs y → Contains (if t then xs else xs ++ x ∷ []) y
stays true xs x y h = h
stays false xs x y h = Contains-append_left xs (x ∷ []) y h

integer_asked : (xs ns : List ℕ) (n : ℕ) → Contains ns n → Contains (with_integers xs ns) n
integer_asked xs [] n (k, less, e) = absurd (omega arith)
integer_asked xs (m ∷ ns) n (zero, less, e) = subst (λ (x : ℕ). Contains (with_integers xs (m ∷ ns)) x) e (integer_stays (with_integer xs m) ns m (added nat_eq eqb-true xs m))
integer_asked xs (m ∷ ns) n (suc k, less, e) = integer_asked (with_integer xs m) ns n (k, omega arith, e)

string_asked : (xs bs : List (List ℕ)) (b : List ℕ) → Contains bs b → Contains (with_strings xs bs) b
string_asked xs [] b (k, less, e) = absurd (omega arith)
string_asked xs (c ∷ bs) b (zero, less, e) =
    subst (λ (x : List ℕ). Contains (with_strings xs (c ∷ bs)) x) e (string_stays (with_string xs c) bs c (added bytes_eq (λ x y same. (bytes_eq-Decides x y).0 same) xs c))
string_asked xs (c ∷ bs) b (suc k, less, e) = string_asked (with_string xs c) bs b (k, omega arith, e)

among : {X Y : Type 0} (f : X → List Y) (xs : List X) (x : X) (y : Y) → Contains xs x → Contains (f x) y → Contains (flat_map f xs) y
among f [] x y (k, less, e) h = absurd (omega arith)
among f (z ∷ xs) x y (zero, less, e) h = Contains-append_left (f z) (flat_map f xs) y (subst (λ (w : _). Contains (f w) y) (sym e) h)
among f (z ∷ xs) x y (suc k, less, e) h = Contains-append_right (f z) (flat_map f xs) y (among f xs x y (k, omega arith, e) h)

-- a feature is among those of its class
placed_there : (j : ℕ) (fs : List Feature) (k : ℕ) (x : Feature) → slice_get fs k ≡ Some x → (i : ℕ) × Contains (attributes_from j fs ++ methods_from j fs) (record { place = i; feature = x })
placed_there j fs k x there = by x (parted j fs k x there)
  where
    IsParted : ℕ → List Feature → Feature → Type 0
    IsParted j fs (Method m) = (i : ℕ) × Contains (methods_from j fs) (record { place = i; feature = Method m })
    IsParted j fs (Attribute a) = (i : ℕ) × Contains (attributes_from j fs) (record { place = i; feature = Attribute a })

    skip : (y : Feature) (fs : List Feature) (j : ℕ) (x : Feature) → IsParted (j + 1) fs x → IsParted j (y ∷ fs) x
    skip (Method n) fs j (Method m) (i, h) = (i, later_there _ (methods_from (j + 1) fs) _ h)
    skip (Method n) fs j (Attribute a) h = h
    skip (Attribute b) fs j (Method m) h = h
    skip (Attribute b) fs j (Attribute a) (i, h) = (i, later_there _ (attributes_from (j + 1) fs) _ h)

    here : (y : Feature) (fs : List Feature) (j : ℕ) → IsParted j (y ∷ fs) y
    here (Method m) fs j = (j, (0, omega arith, refl))
    here (Attribute a) fs j = (j, (0, omega arith, refl))

    parted : (j : ℕ) (fs : List Feature) (k : ℕ) (x : Feature) → slice_get fs k ≡ Some x → IsParted j fs x
    parted j [] k x there = absurd cc
    parted j (y ∷ fs) zero x there = let same : y ≡ x = cc in subst (IsParted j (y ∷ fs)) same (here y fs j)
    parted j (y ∷ fs) (suc k) x there = skip y fs j x (parted (j + 1) fs k x there)

    by : (x : Feature) → IsParted j fs x → (i : ℕ) × Contains (attributes_from j fs ++ methods_from j fs) (record { place = i; feature = x })
    by (Method m) (i, h) = (i, Contains-append_right (attributes_from j fs) (methods_from j fs) _ h)
    by (Attribute a) (i, h) = (i, Contains-append_left (attributes_from j fs) (methods_from j fs) _ h)

module _ (p : List Class) (files : List (List ℕ)) (buildable : IsBuildable p files) (c : ClassId) (k : ℕ) (x : Feature) (within : c.0 < length p) (there : slice_get (features_of p c) k ≡ Some x) where
  all_have : (i : ℕ) × Contains (all_features p) (record { place = i; feature = x })
  all_have =
      let (i, h) = placed_there 0 (features_of p c) k x there in
      (i, among (class_features p) (numbers_from 0 (length p)) c (record { place = i; feature = x }) (number_there 0 (length p) c (omega arith) (omega arith)) h)

  pub integers_here : (n : ℕ) → Contains (feature_integers x) n → Contains (program_constants p files).integers n
  integers_here n h =
      let (i, all) = all_have in
      integer_asked [] (flat_map (λ (f : Placed). feature_integers f.feature) (all_features p)) n (among (λ (f : Placed). feature_integers f.feature) (all_features p) (record { place = i; feature = x }) n all h)

  pub strings_here : (bytes : List ℕ) → Contains (feature_strings files x) bytes → Contains (program_constants p files).strings bytes
  strings_here bytes h =
      let (i, all) = all_have in
      string_asked [] (flat_map (λ (f : Placed). feature_strings files f.feature) (all_features p)) bytes
      (among (λ (f : Placed). feature_strings files f.feature) (all_features p) (record { place = i; feature = x }) bytes all h)

  pub within_here : IsFeatureWithin (length files) x
  within_here = all_get (IsFeatureWithin (length files)) (features_of p c) k x (buildable.fits.within c within) there

  pub bounded_here : IsBoundedFeature x
  bounded_here = all_get IsBoundedFeature (features_of p c) k x (buildable.fits.bounded c within) there
