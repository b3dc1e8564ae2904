-- If class definitions satisfy the limits on sizes, names, constants and source locations, so does their class table.
use Rattle.std.proofs.Common.{◌≡◌, ℕ, ◌≤◌, List, [], ◌∷◌, length, take, drop, refl, ap, sym, subst, arith}
use Rattle.std.specs.List.{AllByRecursion}
use Rattle.std.proofs.lemmas.List.{take-append-drop}
use Rattle.cool_syntax.specs.declared.TheConstants.{MOST_FILES, MOST_SOURCE_BYTES}
use Rattle.cool_syntax.specs.declared.file_tree.ClassDef.{ClassDef}
use Rattle.cool_syntax.specs.declared.file_tree.Feature.{Feature}
use Rattle.cool_syntax.specs.FeatureSizes.{IsBoundedFeature, IsBoundedClass}
use Rattle.cool_syntax.specs.TreesWithinLimits.{IsTypeName, IsFeatureWithin, AreClassesWithin}
use Rattle.cool_syntax.specs.Weights.{classes_weight, features_weight}
use Rattle.cool_classes.specs.Chains.{Class, nothing}
use Rattle.cool_classes.specs.Definitions.{IsTableOf, AreDefinedBy}
use Rattle.cool_classes.specs.Limits.{KeepsLimits}
use Rattle.cool_classes.specs.Tables.{IsTable, basic_classes}
use Rattle.cool_rules.specs.Fits.{Fits, weight_of}
use Rattle.cool_check.specs.Faults.{AreWithin}
use Rattle.lists.proofs.AllItems.{all_append}
use Rattle.cool_classes.proofs.FeaturesChecked.{all_at}

-- a name and features keep the limits, and stand in so many files
pub record IsGoodClass (count : ℕ) (name : List ℕ) (features : List Feature) : Type 0 where
  pub bounded : AllByRecursion IsBoundedFeature features
  pub within : AllByRecursion (IsFeatureWithin count) features
  pub named : IsTypeName name

-- a class keeps them
abbrev pub IsGood : ℕ → Class → Type 0
IsGood count c = IsGoodClass count c.name c.features

-- the basic classes keep the limits
basic_good : (count : ℕ) → AllByRecursion (IsGood count) basic_classes
basic_good count = (
  record { bounded = tt; within = tt; named = refl },
  (
    record { bounded = tt; within = tt; named = refl },
    (
      record { bounded = tt; within = tt; named = refl },
      (
        record { bounded = tt; within = tt; named = refl },
        (
          record { bounded = tt; within = tt; named = refl },
          tt,
        ),
      ),
    ),
  ),
)

-- the classes of definitions keep the limits that these keep
defined_good : (count : ℕ) (p : List Class) (ds : List ClassDef) (cs : List Class) → AllByRecursion IsBoundedClass ds → AreClassesWithin count ds → AreDefinedBy p ds cs
    → AllByRecursion (IsGood count) cs
defined_good count p [] [] bounded within h = tt
defined_good count p [] (c ∷ cs) bounded within h = absurd h
defined_good count p (d ∷ ds) [] bounded within h = absurd h
defined_good count p (d ∷ ds) (c ∷ cs) bounded within h =
    let good : IsGoodClass count d.name d.features = record { bounded = bounded.0; within = within.0.3; named = within.0.1 } in
    let renamed : IsGoodClass count c.name d.features = subst (λ (name : List ℕ). IsGoodClass count name d.features) (sym h.0.0) good in
    (subst (IsGoodClass count c.name) (sym h.0.1) renamed, defined_good count p ds cs bounded.1 within.1 h.1)

-- all classes of the table keep the limits
table_good : (count : ℕ) (p : List Class) (ds : List ClassDef) → IsTable p → AllByRecursion IsBoundedClass ds → AreClassesWithin count ds → IsTableOf ds p → AllByRecursion (IsGood count) p
table_good count p ds t bounded within h =
    let first : AllByRecursion (IsGood count) (take 5 p) = subst (AllByRecursion (IsGood count)) (sym t.basic) (basic_good count) in
    subst (AllByRecursion (IsGood count)) (take-append-drop 5 p) (all_append (IsGood count) (take 5 p) (drop 5 p) first (defined_good count p ds (drop 5 p) bounded within h))

-- the classes of definitions hold as much as these
defined_weight : (p : List Class) (ds : List ClassDef) (cs : List Class) → AreDefinedBy p ds cs → weight_of cs ≡ classes_weight ds
defined_weight p [] [] h = refl
defined_weight p [] (c ∷ cs) h = absurd h
defined_weight p (d ∷ ds) [] h = absurd h
defined_weight p (d ∷ ds) (c ∷ cs) h =
    omega (arith, ap (λ (name : List ℕ). length name) h.0.0, ap features_weight h.0.1, defined_weight p ds cs h.1)

-- the features of the table stand in the files
pub table_within : (count : ℕ) (p : List Class) (ds : List ClassDef) → IsTable p → AllByRecursion IsBoundedClass ds → AreClassesWithin count ds → IsTableOf ds p → AreWithin count p
table_within count p ds t bounded within h = λ c less. (all_at (IsGood count) p c.0 nothing less (table_good count p ds t bounded within h)).within

-- the table fits
pub table_fits : (count : ℕ) (p : List Class) (ds : List ClassDef) → count ≤ MOST_FILES → IsTable p → KeepsLimits p → AllByRecursion IsBoundedClass ds → AreClassesWithin count ds
    → classes_weight ds ≤ MOST_SOURCE_BYTES → IsTableOf ds p → Fits p count
table_fits count p ds few t keeps bounded within light h =
    let all : AllByRecursion (IsGood count) p = table_good count p ds t bounded within h in
    record {
      table = keeps;
      bounded = λ c less. (all_at (IsGood count) p c.0 nothing less all).bounded;
      within = λ c less. (all_at (IsGood count) p c.0 nothing less all).within;
      names = λ c less. (all_at (IsGood count) p c.0 nothing less all).named;
      weight = omega (arith, defined_weight p ds (drop 5 p) h);
      files = few;
    }
