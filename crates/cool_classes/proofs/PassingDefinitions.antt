-- The loop of `climb`, which follows parents from one class definition, keeps its invariant: the path leads from the first definition to the current one, and
-- each step visits one more.
use Rattle.std.proofs.Common.{◌≡◌, ◌≢◌, ◌⊎◌, inl, inr, ℕ, zero, suc, ◌+◌, ◌-◌, ◌<◌, ◌≤◌, List, ◌∷◌, length, get_or, set, Option, Some, None, Contains, sym, ap, ◌∙◌, refl, subst, cond, arith, get_or-set_other, get_or-set_same, true≢false, []}
use Rattle.std.specs.Prelude.{is_some, is_none, IsSome}
use Rattle.std.specs.List.{AllByRecursion}
use Rattle.std.proofs.lemmas.List.{get_or-map, length-set}
use Rattle.std.proofs.lemmas.List.Sums.{sum_by-set}
use Rattle.cool_classes.specs.declared.class_id.ClassId.{ClassId}
use Rattle.cool_classes.specs.declared.depths.Above.TheVariants.{Known}
use Rattle.cool_classes.specs.Depths.{parents_with_basic, HasDepth}
use Rattle.cool_classes.specs.Walks.{LeadsTo, unpassed, AreFresh, IsClimb}
use Rattle.lists.proofs.AllItems.{all_at}
use Rattle.std.proofs.lemmas.Bool.{cases_eq}
use Rattle.lists.proofs.ItemsAt.{known_set}

-- a climb so far: the path leads to a definition, and has those that the climb passed
pub record Climbing (parents : List ClassId) (before : List (Option ℕ)) (start : ℕ) (passed : List (Option ℕ)) (path : List ℕ) (class : ℕ) : Type 0 where
  pub class_within : class < length parents
  pub same_passed : length passed ≡ length parents
  pub leads : LeadsTo parents path (class + 5)
  pub within : AllByRecursion (λ (k : ℕ). k < length parents) path
  pub noted : (k w : ℕ) → get_or passed k None ≡ Some w → (get_or before k None ≡ Some w) ⊎ ((w ≡ start) × Contains path k)
  pub starts : (class ≡ start) ⊎ IsSome (get_or passed start None)
  pub count : unpassed passed + length path ≡ unpassed before
  pub fresh : AreFresh before passed path

-- a path has its last definition
pub contains_first : (k j : ℕ) (ks : List ℕ) → j ≡ k → Contains (k ∷ ks) j
contains_first k j ks e = (zero, omega arith, sym e)

-- a path has those before its last definition
pub contains_rest : (k j : ℕ) (ks : List ℕ) → Contains ks j → Contains (k ∷ ks) j
contains_rest k j ks (i, less, e) = (suc i, omega arith, e)

-- the parent of a definition, among the parents of all classes
pub parent_there : (parents : List ClassId) (k : ℕ) (d : ClassId) → k < length parents → get_or (parents_with_basic parents) (k + 5) None ≡ Some (get_or parents k d)
parent_there parents k d within =
    let up : k + 5 ≡ suc (suc (suc (suc (suc k)))) = omega arith in
    ap (λ (n : ℕ). get_or (parents_with_basic parents) n None) up ∙ get_or-map Some parents k d None within

-- a path leads on to the parent of its last definition
parent_leads : (parents : List ClassId) (k : ℕ) (ks : List ℕ) (d : ClassId) → k < length parents → LeadsTo parents ks (k + 5) → LeadsTo parents (k ∷ ks) (get_or parents k d).0
parent_leads parents k ks d within leads = (get_or parents k d, parent_there parents k d within, refl, leads)

-- one for a definition that is not passed
abbrev left_of : Option ℕ → ℕ
left_of o = cond (is_none o) 1 0

-- one definition fewer is left
pub count_less : (passed : List (Option ℕ)) (k start : ℕ) → k < length passed → get_or passed k None ≡ None → unpassed (set passed k (Some start)) + 1 ≡ unpassed passed
count_less passed k start within none =
    let one = ap (λ (o : Option ℕ). left_of o) none in
    let all = sum_by-set left_of passed k (Some start) None within in
    omega (arith, one, all)

-- an option that has a value is not None
pub some_or_none : {X : Type 0} (o : Option ℕ) → IsSome o → o ≡ None → X
some_or_none None some none = absurd (true≢false (sym some))
some_or_none (Some w) some none = absurd (cc)

-- nothing was passed that is not passed now
none_before : (b a : Option ℕ) → (IsSome b → IsSome a) → a ≡ None → b ≡ None
none_before None a keeps none = refl
none_before (Some w) a keeps none = some_or_none a (keeps refl) none

-- a passed definition stays passed
all_marked : (passed : List (Option ℕ)) (class start : ℕ) → class < length passed → (path : List ℕ) → AllByRecursion (λ (k : ℕ). IsSome (get_or passed k None)) path
    → AllByRecursion (λ (k : ℕ). IsSome (get_or (set passed class (Some start)) k None)) path
all_marked passed class start within [] all = tt
all_marked passed class start within (k ∷ ks) all = (known_set passed class start k within all.0, all_marked passed class start within ks all.1)

-- a definition that is not passed is none of those that are
apart_by : (passed : List (Option ℕ)) (class : ℕ) → get_or passed class None ≡ None → (path : List ℕ) → AllByRecursion (λ (k : ℕ). IsSome (get_or passed k None)) path → AllByRecursion (λ (k : ℕ). k ≢ class) path
apart_by passed class none [] all = tt
apart_by passed class none (k ∷ ks) all =
    ((λ e. some_or_none (get_or passed k None) all.0 (ap (λ (n : ℕ). get_or passed n None) e ∙ none)), apart_by passed class none ks all.1)

-- one definition more is passed for the first time
fresh_one : (before passed : List (Option ℕ)) (path : List ℕ) (class start : ℕ) → class < length passed → get_or passed class None ≡ None → AreFresh before passed path
    → AreFresh before (set passed class (Some start)) (class ∷ path)
fresh_one before passed path class start within none f = record {
  fresh = (none_before (get_or before class None) (get_or passed class None) (f.kept class) none, f.fresh);
  marked = (ap (λ (o : Option ℕ). is_some o) (get_or-set_same passed class (Some start) None within), all_marked passed class start within path f.marked);
  apart = (apart_by passed class none path f.marked, f.apart);
  kept = λ k some. known_set passed class start k within (f.kept k some);
}

-- the state after a definition is passed
pub record Passing (parents : List ClassId) (before : List (Option ℕ)) (start : ℕ) (passed : List (Option ℕ)) (path : List ℕ) : Type 0 where
  pub same_passed : length passed ≡ length parents
  pub within : AllByRecursion (λ (k : ℕ). k < length parents) path
  pub noted : (k w : ℕ) → get_or passed k None ≡ Some w → (get_or before k None ≡ Some w) ⊎ ((w ≡ start) × Contains path k)
  pub starts : IsSome (get_or passed start None)
  pub count : unpassed passed + length path ≡ unpassed before
  pub fresh : AreFresh before passed path

-- a definition that is passed was so before, or is on the path
noted_by : (before : List (Option ℕ)) (start : ℕ) (passed : List (Option ℕ)) (path : List ℕ) (class : ℕ) → class < length passed
    → ((k w : ℕ) → get_or passed k None ≡ Some w → (get_or before k None ≡ Some w) ⊎ ((w ≡ start) × Contains path k))
    → (k w : ℕ) → get_or (set passed class (Some start)) k None ≡ Some w → (get_or before k None ≡ Some w) ⊎ ((w ≡ start) × Contains (class ∷ path) k)
noted_by before start passed path class within noted k w e =
    elim (cases_eq k class) [
      | inl same ↦
          let here : Some start ≡ Some w = sym (get_or-set_same passed class (Some start) None within) ∙ ap (λ (n : ℕ). get_or (set passed class (Some start)) n None) (sym same) ∙ e in
          let w_is : w ≡ start = cc in
          inr (w_is, contains_first class k path same)
      | inr other ↦
          elim (noted k w (sym (get_or-set_other passed class k (Some start) None other) ∙ e)) [
            | inl old ↦ inl old
            | inr (w_is, there) ↦ inr (w_is, contains_rest class k path there)
          ]
    ]

-- the first definition of a climb is passed
starts_by : (start : ℕ) (passed : List (Option ℕ)) (class : ℕ) → class < length passed → (class ≡ start) ⊎ IsSome (get_or passed start None) → IsSome (get_or (set passed class (Some start)) start None)
starts_by start passed class within starts =
    elim (cases_eq start class) [
      | inl same ↦
          ap (λ (n : ℕ). is_some (get_or (set passed class (Some start)) n None)) same ∙ ap (λ (o : Option ℕ). is_some o) (get_or-set_same passed class (Some start) None within)
      | inr other ↦
          elim starts [
            | inl same ↦ absurd (other (sym same))
            | inr some ↦ ap (λ (o : Option ℕ). is_some o) (get_or-set_other passed class start (Some start) None other) ∙ some
          ]
    ]

-- a climb passes one definition more
pub pass_one : (parents : List ClassId) (before : List (Option ℕ)) (start : ℕ) (passed : List (Option ℕ)) (path : List ℕ) (class : ℕ) → Climbing parents before start passed path class
    → get_or passed class None ≡ None → Passing parents before start (set passed class (Some start)) (class ∷ path)
pass_one parents before start passed path class c none =
    let within : class < length passed = let h = c.class_within in let s = c.same_passed in omega arith in
    record {
      same_passed = length-set passed class (Some start) ∙ c.same_passed;
      within = (c.class_within, c.within);
      noted = noted_by before start passed path class within c.noted;
      starts = starts_by start passed class within c.starts;
      count = let less = count_less passed class start within none in let old = c.count in omega arith;
      fresh = fresh_one before passed path class start within none c.fresh;
    }

-- the climb goes on to a parent that is a definition
pub climb_on : (parents : List ClassId) (before : List (Option ℕ)) (start : ℕ) (passed : List (Option ℕ)) (path : List ℕ) (class : ℕ) (d : ClassId) → Climbing parents before start passed path class
    → get_or passed class None ≡ None → AllByRecursion (λ (q : ClassId). q.0 < length parents + 5) parents → 5 ≤ (get_or parents class d).0
    → Climbing parents before start (set passed class (Some start)) (class ∷ path) ((get_or parents class d).0 - 5)
climb_on parents before start passed path class d c none all high =
    let p = pass_one parents before start passed path class c none in
    let below : (get_or parents class d).0 < length parents + 5 = all_at (λ (q : ClassId). q.0 < length parents + 5) parents class d all c.class_within in
    let same : (get_or parents class d).0 ≡ (get_or parents class d).0 - 5 + 5 = omega arith in
    record {
      class_within = omega arith;
      same_passed = p.same_passed;
      leads = subst (LeadsTo parents (class ∷ path)) same (parent_leads parents class path d c.class_within c.leads);
      within = p.within;
      noted = p.noted;
      starts = inr p.starts;
      count = p.count;
      fresh = p.fresh;
    }

-- the climb comes to a parent that is a basic class
pub climb_done : (parents : List ClassId) (known before : List (Option ℕ)) (start : ℕ) (passed : List (Option ℕ)) (path : List ℕ) (class depth : ℕ) (d : ClassId)
    → Climbing parents before start passed path class → get_or passed class None ≡ None → HasDepth (parents_with_basic parents) (get_or parents class d).0 depth → depth < 2
    → IsClimb parents known before start (set passed class (Some start)) (class ∷ path) (Known depth)
climb_done parents known before start passed path class depth d c none has low =
    let p = pass_one parents before start passed path class c none in
    record {
      comes_to = ((get_or parents class d).0, parent_leads parents class path d c.class_within c.leads, inr (low, has));
      within = p.within;
      passed = p.noted;
      starts = inr p.starts;
      count = p.count;
      fresh = p.fresh;
      comes_back = tt;
    }
