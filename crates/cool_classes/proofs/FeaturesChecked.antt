-- The loop of `feature_faults` keeps its invariant: it has added the faults (compile-time errors) of the first classes, and if they have none, their declared
-- types exist and they keep the limits.
use Rattle.std.proofs.Common.{◌≡◌, ℕ, zero, suc, ◌+◌, ◌-◌, ◌<◌, ◌≤◌, List, [], ◌∷◌, ◌++◌, length, get_or, Some, Bool, true, false, ◌||◌, sym, ◌∙◌, refl, subst, arith, true≢false}
use Rattle.std.specs.Prelude.{nat_lt}
use Rattle.std.specs.List.{AllByRecursion}
use Rattle.std.proofs.lemmas.Bool.{ltb-true, ltb-false}
use Rattle.cool_syntax.specs.declared.place.Place.{Place}
use Rattle.cool_syntax.specs.TokenFacts.{IsPlaced}
use Rattle.cool_classes.specs.declared.TheConstants.{MOST_ATTRIBUTES, MOST_METHODS}
use Rattle.cool_classes.specs.declared.class_id.ClassId.{ClassId}
use Rattle.cool_classes.specs.declared.entry.Entry.{Entry}
use Rattle.cool_classes.specs.declared.fault.ClassFault.{ClassFault}
use Rattle.cool_classes.specs.Chains.{Class, class_number, parent_of, features_of, IsChain}
use Rattle.cool_classes.specs.Entries.{classes}
use Rattle.cool_classes.specs.Features.{attributes_of}
use Rattle.cool_classes.specs.FaultLists.{IsOfFeatures}
use Rattle.cool_classes.specs.FeatureFaults.{class_faults, is_over_limit}
use Rattle.cool_classes.specs.MethodNames.{methods_of}
use Rattle.cool_classes.specs.Resolved.{AreResolved, AreGood, ArePlaced}
use Rattle.cool_classes.specs.Tables.{IsTyped}
use Rattle.cool_classes.proofs.BasicLimits.{KeepsChain, basic_keeps, basic_features}
use Rattle.cool_classes.proofs.Climbs.{chain_unique}
use Rattle.cool_classes.proofs.FaultPlaces.{class_kinds, class_places}
use Rattle.cool_classes.proofs.Faultless.{class_faultless}
use Rattle.cool_classes.proofs.MethodsNamed.{names_fit}
use Rattle.cool_classes.proofs.Seen.{within_classes, within_entries}
use Rattle.lists.proofs.AllItems.{all_append}
use Rattle.lists.proofs.JoinedLists.{none_both}
use Rattle.lists.proofs.Numbers.{below_next}

-- a class's features are typed, and it keeps the limits
pub record IsChecked (p : List Class) (c : ClassId) : Type 0 where
  pub types : AllByRecursion (IsTyped p) (features_of p c)
  pub limits : (ds : List ClassId) → IsChain p (Some c) ds → KeepsChain p ds

-- the faults of the first classes after the basic ones
pub record AreFaults (es : List Entry) (places : List Place) (count : ℕ) (faults : List ClassFault) : Type 0 where
  pub kinds : AllByRecursion IsOfFeatures faults
  pub good : faults ≡ [] → (k : ℕ) → k < count → IsChecked (classes es) (class_number (5 + k))
  pub places_good : (n : ℕ) → ArePlaced n es places → AllByRecursion (λ (f : ClassFault). IsPlaced n f.at) faults

-- at the start there are none
pub no_faults : (es : List Entry) (places : List Place) → AreFaults es places 0 []
no_faults es places = record { kinds = tt; good = λ e k less. absurd (omega arith); places_good = λ n h. tt }

pub within_limits : (a b : ℕ) → (nat_lt MOST_ATTRIBUTES a || nat_lt MOST_METHODS b) ≡ false → (a ≤ MOST_ATTRIBUTES) × (b ≤ MOST_METHODS)
within_limits a b h = by (nat_lt MOST_ATTRIBUTES a) refl h
  where
    by : (x : Bool) → nat_lt MOST_ATTRIBUTES a ≡ x → (x || nat_lt MOST_METHODS b) ≡ false → (a ≤ MOST_ATTRIBUTES) × (b ≤ MOST_METHODS)
    by true e t = absurd (true≢false t)
    by false e t = (ltb-false MOST_ATTRIBUTES a e, ltb-false MOST_METHODS b t)

checked_by : (p : List Class) (c : ClassId) (above : List ClassId) → AllByRecursion (IsTyped p) (features_of p c) → is_over_limit p (c ∷ above) ≡ false → IsChain p (parent_of p c) above → IsChecked p c
checked_by p c above types over chain = record {
  types = types;
  limits = λ ds h. subst (KeepsChain p) (chain_unique p (Some c) (c ∷ above) ds (refl, chain) h) (within_limits (length (attributes_of p (c ∷ above))) (length (methods_of p (c ∷ above))) over);
}

-- the faults of one more class
pub faults_next : (es : List Entry) (places : List Place) (k : ℕ) (faults now : List ClassFault) (above : List ClassId) (at : Place) → AreResolved es → 5 + k < length es
    → ((n : ℕ) → AllByRecursion (IsPlaced n) places → IsPlaced n at) → IsChain (classes es) (parent_of (classes es) (class_number (5 + k))) above
    → AreFaults es places k faults → now ≡ faults ++ class_faults (classes es) (class_number (5 + k)) above at → AreFaults es places (k + 1) now
faults_next es places k faults now above at resolved within placed chain are is =
    let p = classes es in
    let c = class_number (5 + k) in
    let more = class_faults p c above at in
    let there = within_classes es c within in
    record {
      kinds = subst (AllByRecursion IsOfFeatures) (sym is) (all_append IsOfFeatures faults more are.kinds (class_kinds p c above at));
      good = λ e j less.
          let both = none_both faults more (sym is ∙ e) in
          let here = class_faultless p c above at (resolved.few_formals c there) both.1 in
          below_next (λ (i : ℕ). IsChecked p (class_number (5 + i))) k j less (are.good both.0) (checked_by p c above here.0 here.1 chain);
      places_good = λ n h.
          subst (AllByRecursion (λ (f : ClassFault). IsPlaced n f.at)) (sym is)
          (all_append (λ (f : ClassFault). IsPlaced n f.at) faults more (are.places_good n h) (class_places n p c above at (h.0 c there) (placed n h.1)));
    }

-- every class of the table is checked
each_checked : (es : List Entry) (count : ℕ) → AreResolved es → count + 5 ≡ length es → ((k : ℕ) → k < count → IsChecked (classes es) (class_number (5 + k)))
    → (c : ClassId) → c.0 < length (classes es) → IsChecked (classes es) c
each_checked es count resolved number each c within = by (nat_lt c.0 5) refl
  where
    by : (b : Bool) → nat_lt c.0 5 ≡ b → IsChecked (classes es) c
    by true e =
        let less : c.0 < 5 = ltb-true c.0 5 e in
        record {
          types = subst (AllByRecursion (IsTyped (classes es))) (sym (basic_features (classes es) c.0 resolved.basic less)) tt;
          limits = basic_keeps (classes es) c.0 resolved.basic less;
        }
    by false e =
        let past : 5 ≤ c.0 = ltb-false c.0 5 e in
        let inside : c.0 < length es = within_entries es c within in
        let less : c.0 - 5 < count = omega arith in
        let same : 5 + (c.0 - 5) ≡ c.0 = omega arith in
        subst (λ (n : ℕ). IsChecked (classes es) (class_number n)) same (each (c.0 - 5) less)

-- a table whose classes are all checked is good
pub all_good : (es : List Entry) (count : ℕ) → AreResolved es → count + 5 ≡ length es → ((k : ℕ) → k < count → IsChecked (classes es) (class_number (5 + k))) → AreGood (classes es)
all_good es count resolved number each =
    let checked = each_checked es count resolved number each in
    record {
      types = λ c within. (checked c within).types;
      limits = record {
        classes = resolved.few;
        attributes = λ c ds within chain. ((checked c within).limits ds chain).0;
        methods = λ c ds names within chain different implemented.
            let few = ((checked c within).limits ds chain).1 in
            let fit = names_fit (classes es) ds names different implemented in
            omega arith;
      };
    }

-- a property of all holds of one
pub all_at : {X : Type 0} (P : X → Type 0) (xs : List X) (k : ℕ) (d : X) → k < length xs → AllByRecursion P xs → P (get_or xs k d)
all_at P [] k d less h = absurd (omega arith)
all_at P (x ∷ xs) zero d less h = h.0
all_at P (x ∷ xs) (suc k) d less h = let shorter : k < length xs = omega arith in all_at P xs k d shorter h.1
