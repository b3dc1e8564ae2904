-- A complete class table that keeps the rules of classes is well typed exactly if the type checker finds no fault (type error) in it.
use Rattle.std.proofs.Common.{◌≡◌, ◌↔◌, ℕ, zero, suc, ◌+◌, ◌<◌, List, [], ◌∷◌, ◌++◌, length, get_or, Some, ap, refl, subst, sym, arith}
use Rattle.std.specs.Prelude.{Ok, Err, slice_get}
use Rattle.cool_syntax.specs.declared.file_tree.Feature.{Feature}
use Rattle.cool_classes.specs.declared.class_id.ClassId.{ClassId}
use Rattle.cool_classes.specs.Chains.{Class, class_number, nothing, features_of}
use Rattle.cool_classes.specs.LawfulTables.{IsLawful, HasDifferentFormals}
use Rattle.cool_classes.specs.Tables.{IsTyped, IsWholeTable}
use Rattle.cool_rules.specs.Typing.{IsTypedFeature}
use Rattle.cool_rules.specs.TypedTables.{IsTypedTable}
use Rattle.cool_rules.proofs.EnteredScopes.{own_differ}
use Rattle.cool_check.specs.FirstFaults.{Checked}
use Rattle.cool_check.specs.TypingFaults.{feature_checked, fault_of, features_faults, classes_faults, typing_faults}
use Rattle.cool_check.proofs.CheckedDecides.{IsDecided, Decides}
use Rattle.cool_check.proofs.FeaturesDecide.{feature_decided}
use Rattle.lists.proofs.JoinedLists.{none_both}
use Rattle.lists.proofs.AllItems.{all_get}

-- a claim that is decided without a fault holds
decided_typed : (r : Checked (Unit {0})) (P : Type 0) → IsDecided r (λ u. P) → fault_of r ≡ [] → P
decided_typed r P d h = by r d.decided h
  where
    by : (r : Checked (Unit {0})) → Decides r (λ u. P) → fault_of r ≡ [] → P
    by (Ok u) d h = d.0
    by (Err f) d h = absurd (cc)

-- a claim that is decided and holds is checked without a fault
decided_ok : (r : Checked (Unit {0})) (P : Type 0) → IsDecided r (λ u. P) → P → r ≡ Ok tt
decided_ok r P d h = by r d.decided
  where
    by : (r : Checked (Unit {0})) → Decides r (λ u. P) → r ≡ Ok tt
    by (Ok u) d = refl
    by (Err f) d = absurd (d tt h)

ok_decided_typed : (r : Checked (Unit {0})) (P : Type 0) → IsDecided r (λ u. P) → r ≡ Ok tt → P
ok_decided_typed r P d e = decided_typed r P d (ap fault_of e)

-- none of two lists
both_none : {X : Type 0} (xs ys : List X) → xs ≡ [] → ys ≡ [] → xs ++ ys ≡ []
both_none [] ys e f = f
both_none (x ∷ xs) ys e f = absurd (cc)

module _ (p : List Class) where
  -- no feature of a class has a fault
  class_typed : (k : ℕ) (cs : List Class) → classes_faults p k cs ≡ [] → (i : ℕ) → i < length cs → (n : ℕ) → n ≡ k + i → features_faults p (class_number n) (get_or cs i nothing).features ≡ []
  class_typed k [] h i less n sum = absurd (omega arith)
  class_typed k (x ∷ cs) h zero less n sum =
      let same : k ≡ n = omega arith in
      subst (λ (m : ℕ). features_faults p (class_number m) x.features ≡ []) same (none_both (features_faults p (class_number k) x.features) (classes_faults p (suc k) cs) h).0
  class_typed k (x ∷ cs) h (suc i) less n sum = class_typed (suc k) cs (none_both (features_faults p (class_number k) x.features) (classes_faults p (suc k) cs) h).1 i (omega arith) n (omega arith)

  feature_typed : (c : ClassId) (fs : List Feature) → features_faults p c fs ≡ [] → (i : ℕ) (x : Feature) → slice_get fs i ≡ Some x → fault_of (feature_checked p c x) ≡ []
  feature_typed c [] h i x e = absurd (cc)
  feature_typed c (y ∷ fs) h zero x e = let same : y ≡ x = cc in subst (λ (z : Feature). fault_of (feature_checked p c z) ≡ []) same (none_both (fault_of (feature_checked p c y)) (features_faults p c fs) h).0
  feature_typed c (y ∷ fs) h (suc i) x e = feature_typed c fs (none_both (fault_of (feature_checked p c y)) (features_faults p c fs) h).1 i x e

  -- checking a feature of a class decides whether the rules type it
  pub decided : IsWholeTable p → IsLawful p → (c : ClassId) (k : ℕ) (x : Feature) → c.0 < length p → slice_get (features_of p c) k ≡ Some x → IsDecided (feature_checked p c x) (λ u. IsTypedFeature p c x)
  decided whole lawful c k x within at =
      feature_decided p whole c within x (own_differ p whole.table lawful c within) (all_get HasDifferentFormals (features_of p c) k x (lawful.formals c within) at)
      (all_get (IsTyped p) (features_of p c) k x (whole.table.types c within) at)

  features_typed : IsWholeTable p → IsLawful p → typing_faults p ≡ [] → (c : ClassId) (k : ℕ) (x : Feature) → c.0 < length p → slice_get (features_of p c) k ≡ Some x → IsTypedFeature p c x
  features_typed whole lawful none c k x within at =
      decided_typed (feature_checked p c x) (IsTypedFeature p c x) (decided whole lawful c k x within at)
      (feature_typed c (features_of p c) (class_typed 0 p none c.0 within c.0 (omega arith)) k x at)

  -- a feature of a class is checked without a fault exactly where the rules type it
  pub checked_exactly : IsWholeTable p → IsLawful p → (c : ClassId) (k : ℕ) (x : Feature) → c.0 < length p → slice_get (features_of p c) k ≡ Some x → (feature_checked p c x ≡ Ok tt) ↔ IsTypedFeature p c x
  checked_exactly whole lawful c k x within at = (
    ok_decided_typed (feature_checked p c x) (IsTypedFeature p c x) (decided whole lawful c k x within at),
    decided_ok (feature_checked p c x) (IsTypedFeature p c x) (decided whole lawful c k x within at),
  )

  -- features and classes without a fault
  features_faultless : (c : ClassId) (fs : List Feature) → ((i : ℕ) (x : Feature) → slice_get fs i ≡ Some x → feature_checked p c x ≡ Ok tt) → features_faults p c fs ≡ []
  features_faultless c [] h = refl
  features_faultless c (x ∷ fs) h = both_none (fault_of (feature_checked p c x)) (features_faults p c fs) (ap fault_of (h zero x refl)) (features_faultless c fs (λ i y e. h (suc i) y e))

  classes_faultless : (k : ℕ) (cs : List Class) → ((i : ℕ) → i < length cs → (n : ℕ) → n ≡ k + i → features_faults p (class_number n) (get_or cs i nothing).features ≡ []) → classes_faults p k cs ≡ []
  classes_faultless k [] h = refl
  classes_faultless k (x ∷ cs) h =
      both_none (features_faults p (class_number k) x.features) (classes_faults p (suc k) cs) (h zero (omega arith) k (omega arith))
      (classes_faultless (suc k) cs (λ i less n sum. h (suc i) (omega arith) n (omega arith)))

  typed_faultless : IsTypedTable p → typing_faults p ≡ []
  typed_faultless typed = classes_faultless 0 p (λ i less n sum.
      let same : i ≡ n = omega arith in
      subst (λ (m : ℕ). features_faults p (class_number n) (get_or p m nothing).features ≡ []) (sym same)
      (features_faultless (class_number n) (features_of p (class_number n)) (λ k x at.
      (checked_exactly typed.whole typed.lawful (class_number n) k x (omega arith) at).1 (typed.features (class_number n) k x (omega arith) at))))

pub accepted_typed : (p : List Class) → IsWholeTable p → IsLawful p → typing_faults p ≡ [] → IsTypedTable p
accepted_typed p whole lawful none = record { whole = whole; lawful = lawful; features = features_typed p whole lawful none }

-- the table is a typed one exactly where no feature of it has a fault
pub typed_exactly : (p : List Class) → IsWholeTable p → IsLawful p → IsTypedTable p ↔ (typing_faults p ≡ [])
typed_exactly p whole lawful = (typed_faultless p, accepted_typed p whole lawful)
