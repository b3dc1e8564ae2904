-- `depths`, which walks from each class definition to its ancestors, finds exactly the definitions that are on cycles of inheritance.
use Rattle.std.proofs.Common.{◌≡◌, ◌≢◌, ◌⊎◌, inl, inr, ℕ, zero, suc, ◌+◌, ◌-◌, ◌<◌, ◌≤◌, List, [], ◌∷◌, ◌++◌, length, get_or, Option, Some, None, Contains, Bool, true, false, sym, ap, ◌∙◌, refl, subst, cond, arith}
use Rattle.std.specs.Prelude.{is_some, IsSome, nat_eq, nat_lt, replicate}
use Rattle.std.specs.List.{AllByRecursion}
use Rattle.std.proofs.lemmas.Bool.{eqb-true, eqb-false, ltb-true, ltb-false, cases_eq}
use Rattle.std.proofs.lemmas.Option.{none-some, same_Some}
use Rattle.cool_classes.specs.declared.class_id.ClassId.{ClassId}
use Rattle.cool_classes.specs.declared.depths.Above.TheVariants.{Known, Cycle, Lost}
use Rattle.cool_classes.specs.Cycles.{StepsTo, IsOnCycle, AreApart, AreCycles}
use Rattle.cool_classes.specs.Depths.{parents_with_basic, HasDepth}
use Rattle.cool_classes.specs.Walks.{LeadsTo, cycle_of, IsClimb, AreCaught}
use Rattle.cool_classes.proofs.PassingDefinitions.{some_or_none, contains_first, contains_rest}
use Rattle.lists.proofs.AllItems.{all_append}
use Rattle.lists.proofs.Options.{value_of}
use Rattle.lists.proofs.Membership.{contains_cases}
use Rattle.std.proofs.lemmas.List.Elements.{Contains-append_left, Contains-append_right, Contains-append_cases}

-- some steps lead from a class to another
abbrev Reaches : List (Option ClassId) → ℕ → ℕ → Type 0
Reaches all a b = (n : ℕ) × StepsTo all a n b

-- one step or more do
abbrev LiesAhead : List (Option ClassId) → ℕ → ℕ → Type 0
LiesAhead all a b = (q : ClassId) × (get_or all a None ≡ Some q) × Reaches all q.0 b

steps_on : (all : List (Option ClassId)) (a n b c : ℕ) → StepsTo all a n b → Reaches all b c → Reaches all a c
steps_on all a zero b c e r = subst (λ (x : ℕ). Reaches all x c) (sym e) r
steps_on all a (suc n) b c (q, is, rest) r = let more = steps_on all q.0 n b c rest r in (suc more.0, (q, is, more.1))

ahead_reaches : (all : List (Option ClassId)) (a b : ℕ) → LiesAhead all a b → Reaches all a b
ahead_reaches all a b (q, is, r) = (suc r.0, (q, is, r.1))

ahead_on : (all : List (Option ClassId)) (a b c : ℕ) → LiesAhead all a b → Reaches all b c → LiesAhead all a c
ahead_on all a b c (q, is, r) more = (q, is, steps_on all q.0 r.0 b c r.1 more)

on_ahead : (all : List (Option ClassId)) (a n b c : ℕ) → StepsTo all a n b → LiesAhead all b c → LiesAhead all a c
on_ahead all a zero b c e ahead = subst (λ (x : ℕ). LiesAhead all x c) (sym e) ahead
on_ahead all a (suc n) b c (q, is, rest) ahead = (q, is, steps_on all q.0 n b c rest (ahead_reaches all b c ahead))

-- a class reached from one that lies ahead of itself lies ahead of itself too, and reaches it
orbit : (all : List (Option ClassId)) (x m y : ℕ) → StepsTo all x m y → LiesAhead all x x → LiesAhead all y y × Reaches all y x
orbit all x zero y e ahead = (subst (λ (z : ℕ). LiesAhead all z z) e ahead, (0, sym e))
orbit all x (suc m) y (q, is, rest) (p, also, back) =
    let same : p ≡ q = same_Some p q (sym also ∙ is) in
    let here : Reaches all q.0 x = subst (λ (c : ClassId). Reaches all c.0 x) same back in
    let next = orbit all q.0 m y rest (on_ahead all q.0 here.0 x q.0 here.1 (q, is, (0, refl))) in
    (next.0, steps_on all y next.1.0 q.0 x next.1.1 here)

-- a class that has a depth does not lie ahead of itself
depth_falls : (all : List (Option ClassId)) (c d m b : ℕ) → HasDepth all c d → StepsTo all c m b → (e : ℕ) × HasDepth all b e × (e + m ≡ d)
depth_falls all c d zero b has e = (d, subst (λ (x : ℕ). HasDepth all x d) e has, omega arith)
depth_falls all c zero (suc m) b has (q, is, rest) = absurd (none-some q (sym has ∙ is))
depth_falls all c (suc d) (suc m) b (p, there, has) (q, is, rest) =
    let w = depth_falls all q.0 d m b (subst (λ (x : ClassId). HasDepth all x.0 d) (same_Some p q (sym there ∙ is)) has) rest in
    (w.0, w.1, let e = w.2 in omega arith)

pub depth_once : (all : List (Option ClassId)) (c d e : ℕ) → HasDepth all c d → HasDepth all c e → d ≡ e
depth_once all c zero zero h k = refl
depth_once all c zero (suc e) h (q, is, k) = absurd (none-some q (sym h ∙ is))
depth_once all c (suc d) zero (q, is, h) k = absurd (none-some q (sym k ∙ is))
depth_once all c (suc d) (suc e) (p, there, h) (q, is, k) =
    let same = depth_once all q.0 d e (subst (λ (x : ClassId). HasDepth all x.0 d) (same_Some p q (sym there ∙ is)) h) k in omega arith

no_depth : {X : Type 0} (all : List (Option ClassId)) (c d : ℕ) → HasDepth all c d → LiesAhead all c c → X
no_depth all c d has (q, is, r) =
    let w = depth_falls all c d (suc r.0) c has (q, is, r.1) in
    let once : w.0 ≡ d = depth_once all c w.0 d w.1 has in
    let e = w.2 in
    absurd (omega arith)

-- no step leads from a basic class to a definition
basic_stays : {X : Type 0} (parents : List ClassId) (c n x : ℕ) → c < 5 → StepsTo (parents_with_basic parents) c n (x + 5) → X
basic_stays parents c zero x low e = absurd (omega arith)
basic_stays parents zero (suc n) x low (q, is, rest) = absurd (none-some q is)
basic_stays parents (suc zero) (suc n) x low (q, is, rest) = basic_stays parents q.0 n x (let z = ap (λ (o : ClassId). o.0) (same_Some (record { 0 = 0 }) q is) in omega arith) rest
basic_stays parents (suc (suc zero)) (suc n) x low (q, is, rest) = basic_stays parents q.0 n x (let z = ap (λ (o : ClassId). o.0) (same_Some (record { 0 = 0 }) q is) in omega arith) rest
basic_stays parents (suc (suc (suc zero))) (suc n) x low (q, is, rest) = basic_stays parents q.0 n x (let z = ap (λ (o : ClassId). o.0) (same_Some (record { 0 = 0 }) q is) in omega arith) rest
basic_stays parents (suc (suc (suc (suc zero)))) (suc n) x low (q, is, rest) = basic_stays parents q.0 n x (let z = ap (λ (o : ClassId). o.0) (same_Some (record { 0 = 0 }) q is) in omega arith) rest
basic_stays parents (suc (suc (suc (suc (suc c))))) (suc n) x low h = absurd (omega arith)

-- each parent of one of these definitions that is a definition is one of them
abbrev IsClosed : List ClassId → List ℕ → Type 0
IsClosed parents xs = (k j : ℕ) (q : ClassId) → Contains xs k → get_or (parents_with_basic parents) (k + 5) None ≡ Some q → q.0 ≡ j + 5 → Contains xs j

-- each definition that they reach is one of them
closed_on : (parents : List ClassId) (xs : List ℕ) → IsClosed parents xs → (n k x : ℕ) → Contains xs k → StepsTo (parents_with_basic parents) (k + 5) n (x + 5) → Contains xs x
closed_on parents xs closed zero k x there e = subst (λ (j : ℕ). Contains xs j) (let same : k ≡ x = omega arith in same) there
closed_on parents xs closed (suc n) k x there (q, is, rest) =
    elim (low_or q.0) [
      | inl low ↦ basic_stays parents q.0 n x low rest
      | inr (j, at) ↦ closed_on parents xs closed n j x (closed k j q there is at) (subst (λ (c : ℕ). StepsTo (parents_with_basic parents) c n (x + 5)) at rest)
    ]
  where
    low_or : (c : ℕ) → (c < 5) ⊎ ((j : ℕ) × (c ≡ j + 5))
    low_or c = elim (nat_lt c 5) as (λ b. nat_lt c 5 ≡ b → (c < 5) ⊎ ((j : ℕ) × (c ≡ j + 5))) [ true ↦ (λ e. inl (ltb-true c 5 e)) | false ↦ (λ e. let past = ltb-false c 5 e in inr (c - 5, omega arith)) ] refl

pub nothing_in : {X : Type 0} (k : ℕ) → Contains {X = ℕ} [] k → X
nothing_in k (i, less, e) = absurd (omega arith)

-- a property of each holds of all, and the other way round
pub all_from : (P : ℕ → Type 0) (xs : List ℕ) → ((k : ℕ) → Contains xs k → P k) → AllByRecursion P xs
all_from P [] h = tt
all_from P (x ∷ xs) h = (h x (contains_first x x xs refl), all_from P xs (λ k there. h k (contains_rest x k xs there)))

pub one_of : (P : ℕ → Type 0) (xs : List ℕ) (k : ℕ) → AllByRecursion P xs → Contains xs k → P k
one_of P [] k h there = nothing_in k there
one_of P (x ∷ xs) k h there = elim (contains_cases x k xs there) [ inl e ↦ subst P e h.0 | inr rest ↦ one_of P xs k h.1 rest ]

-- lists with nothing in common, joined
apart_both : (xs ys : List ℕ) → AreApart xs → AreApart ys → ((k : ℕ) → Contains xs k → Contains ys k → ⊥) → AreApart (xs ++ ys)
apart_both [] ys a b none = b
apart_both (x ∷ xs) ys a b none = (
  all_append (λ (y : ℕ). y ≢ x) xs ys a.0 (all_from (λ (y : ℕ). y ≢ x) ys (λ k there e. none x (contains_first x x xs refl) (subst (λ (j : ℕ). Contains ys j) e there))),
  apart_both xs ys a.1 b (λ k left right. none k (contains_rest x k xs left) right),
)

-- each definition of a path leads to where the path leads
path_ahead : (parents : List ClassId) (path : List ℕ) (c x : ℕ) → LeadsTo parents path c → Contains path x → LiesAhead (parents_with_basic parents) (x + 5) c
path_ahead parents [] c x leads there = nothing_in x there
path_ahead parents (k ∷ ks) c x (q, is, at, leads) there =
    let all = parents_with_basic parents in
    let last : LiesAhead all (k + 5) c = (q, is, (0, at)) in
    elim (contains_cases k x ks there) [
      | inl e ↦ subst (λ (j : ℕ). LiesAhead all (j + 5) c) e last
      | inr rest ↦ ahead_on all (x + 5) (k + 5) c (path_ahead parents ks (k + 5) x leads rest) (ahead_reaches all (k + 5) c last)
    ]

-- the definitions of a cycle are some of its path
cycle_within : (first : ℕ) (path : List ℕ) (k : ℕ) → Contains (cycle_of first path) k → Contains path k
cycle_within first [] k there = nothing_in k there
cycle_within first (p ∷ ps) k there = by (nat_eq p first) there (cycle_within first ps k)
  where
    by : (b : Bool) → Contains (p ∷ cond b [] (cycle_of first ps)) k → (Contains (cycle_of first ps) k → Contains ps k) → Contains (p ∷ ps) k
    by true h more = elim (contains_cases p k [] h) [ inl e ↦ contains_first p k ps (sym e) | inr rest ↦ nothing_in k rest ]
    by false h more = elim (contains_cases p k (cycle_of first ps) h) [ inl e ↦ contains_first p k ps (sym e) | inr rest ↦ contains_rest p k ps (more rest) ]

cycle_apart : (first : ℕ) (path : List ℕ) → AreApart path → AreApart (cycle_of first path)
cycle_apart first [] a = tt
cycle_apart first (p ∷ ps) a = by (nat_eq p first) (cycle_apart first ps a.1)
  where
    by : (b : Bool) → AreApart (cycle_of first ps) → AreApart (p ∷ cond b [] (cycle_of first ps))
    by true h = (tt, tt)
    by false h = (all_from (λ (y : ℕ). y ≢ p) (cycle_of first ps) (λ k there. one_of (λ (y : ℕ). y ≢ p) ps k a.0 (cycle_within first ps k there)), h)

cycle_first : (first : ℕ) (path : List ℕ) → Contains path first → Contains (cycle_of first path) first
cycle_first first [] there = there
cycle_first first (p ∷ ps) there = by (nat_eq p first) refl (cycle_first first ps)
  where
    by : (b : Bool) → nat_eq p first ≡ b → (Contains ps first → Contains (cycle_of first ps) first) → Contains (p ∷ cond b [] (cycle_of first ps)) first
    by true e more = contains_first p first [] (sym (eqb-true p first e))
    by false e more = elim (contains_cases p first ps there) [ inl same ↦ absurd (eqb-false p first e same) | inr rest ↦ contains_rest p first (cycle_of first ps) (more rest) ]

-- the parent of a definition of a cycle is where the path leads, or one of the cycle
cycle_parent : (parents : List ClassId) (first : ℕ) (path : List ℕ) (c k : ℕ) (q : ClassId) → LeadsTo parents path c → Contains (cycle_of first path) k
    → get_or (parents_with_basic parents) (k + 5) None ≡ Some q → (q.0 ≡ c) ⊎ ((j : ℕ) × (q.0 ≡ j + 5) × Contains (cycle_of first path) j)
cycle_parent parents first [] c k q leads there is = nothing_in k there
cycle_parent parents first (p ∷ ps) c k q (r, at_p, at, leads) there is = by (nat_eq p first) there (λ rest. cycle_parent parents first ps (p + 5) k q leads rest is)
  where
    here : p ≡ k → q.0 ≡ c
    here e =
        let same : r ≡ q = same_Some r q (sym at_p ∙ ap (λ (n : ℕ). get_or (parents_with_basic parents) (n + 5) None) e ∙ is) in
        sym (ap (λ (x : ClassId). x.0) same) ∙ at

    by : (b : Bool) → Contains (p ∷ cond b [] (cycle_of first ps)) k → (Contains (cycle_of first ps) k → (q.0 ≡ p + 5) ⊎ ((j : ℕ) × (q.0 ≡ j + 5) × Contains (cycle_of first ps) j))
        → (q.0 ≡ c) ⊎ ((j : ℕ) × (q.0 ≡ j + 5) × Contains (p ∷ cond b [] (cycle_of first ps)) j)
    by true h more = elim (contains_cases p k [] h) [ inl e ↦ inl (here e) | inr rest ↦ nothing_in k rest ]
    by false h more =
        elim (contains_cases p k (cycle_of first ps) h) [
          | inl e ↦ inl (here e)
          | inr rest ↦
              elim (more rest) [
                | inl up ↦ inr (p, up, contains_first p p (cycle_of first ps) refl)
                | inr (j, up, there_j) ↦ inr (j, up, contains_rest p j (cycle_of first ps) there_j)
              ]
        ]

cycle_closed : (parents : List ClassId) (first : ℕ) (path : List ℕ) → LeadsTo parents path (first + 5) → Contains path first → IsClosed parents (cycle_of first path)
cycle_closed parents first path leads there k j q there_k is at =
    elim (cycle_parent parents first path (first + 5) k q leads there_k is) [
      | inl e ↦ subst (λ (i : ℕ). Contains (cycle_of first path) i) (let same : first ≡ j = omega arith in same) (cycle_first first path there)
      | inr (i, e, there_i) ↦ subst (λ (i' : ℕ). Contains (cycle_of first path) i') (let same : i ≡ j = omega arith in same) there_i
    ]

-- the first definition of a cycle reaches each of it
cycle_reached : (parents : List ClassId) (first : ℕ) (path : List ℕ) (c k : ℕ) → LeadsTo parents path c → Contains path first → Contains (cycle_of first path) k
    → Reaches (parents_with_basic parents) (first + 5) (k + 5)
cycle_reached parents first [] c k leads there there_k = nothing_in k there_k
cycle_reached parents first (p ∷ ps) c k (r, at_p, at, leads) there there_k = by (nat_eq p first) refl there_k (λ in_rest rest. cycle_reached parents first ps (p + 5) k leads in_rest rest)
  where
    all : List (Option ClassId)
    all = parents_with_basic parents

    by : (b : Bool) → nat_eq p first ≡ b → Contains (p ∷ cond b [] (cycle_of first ps)) k
        → (Contains ps first → Contains (cycle_of first ps) k → Reaches (parents_with_basic parents) (first + 5) (k + 5)) → Reaches (parents_with_basic parents) (first + 5) (k + 5)
    by true e h more =
        elim (contains_cases p k [] h) [ inl same ↦ (0, let f = eqb-true p first e in let s : first + 5 ≡ k + 5 = omega arith in s) | inr rest ↦ nothing_in k rest ]
    by false e h more =
        elim (contains_cases p first ps there) [
          | inl same ↦ absurd (eqb-false p first e same)
          | inr in_rest ↦
              elim (contains_cases p k (cycle_of first ps) h) [
                | inl same ↦ subst (λ (j : ℕ). Reaches (parents_with_basic parents) (first + 5) (j + 5)) same (ahead_reaches (parents_with_basic parents) (first + 5) (p + 5) (path_ahead parents ps (p + 5) first leads in_rest))
                | inr rest ↦ more in_rest rest
              ]
        ]

-- the definitions of a cycle are on one
cycle_on_cycle : (parents : List ClassId) (first : ℕ) (path : List ℕ) → LeadsTo parents path (first + 5) → Contains path first → (k : ℕ) → Contains (cycle_of first path) k → IsOnCycle parents k
cycle_on_cycle parents first path leads there k there_k =
    let all = parents_with_basic parents in
    let out = path_ahead parents path (first + 5) k leads (cycle_within first path k there_k) in
    let around = ahead_on all (k + 5) (first + 5) (k + 5) out (cycle_reached parents first path (first + 5) k leads there there_k) in
    (around.2.0, (around.0, around.1, around.2.1))

-- a definition on a cycle lies ahead of itself
lies_ahead : (parents : List ClassId) (k : ℕ) → IsOnCycle parents k → LiesAhead (parents_with_basic parents) (k + 5) (k + 5)
lies_ahead parents k (n, (q, is, rest)) = (q, is, (n, rest))

on_cycle : (parents : List ClassId) (k : ℕ) → LiesAhead (parents_with_basic parents) (k + 5) (k + 5) → IsOnCycle parents k
on_cycle parents k (q, is, (n, rest)) = (n, (q, is, rest))

-- the definitions met so far
met_by : (known more passed after : List (Option ℕ)) (start k : ℕ) → k < start + 1 → ((j : ℕ) → j < start → IsSome (get_or known j None) ⊎ IsSome (get_or passed j None))
    → (IsSome (get_or known start None) ⊎ IsSome (get_or after start None)) → ((j : ℕ) → IsSome (get_or known j None) → IsSome (get_or more j None))
    → ((j : ℕ) → IsSome (get_or passed j None) → IsSome (get_or after j None)) → IsSome (get_or more k None) ⊎ IsSome (get_or after k None)
met_by known more passed after start k less met starts knows keeps =
    elim (cases_eq k start) [
      | inl same ↦
          subst (λ (j : ℕ). IsSome (get_or more j None) ⊎ IsSome (get_or after j None)) (sym same) (elim starts [ inl some ↦ inl (knows start some) | inr some ↦ inr some ])
      | inr other ↦ elim (met k (omega arith)) [ inl some ↦ inl (knows k some) | inr some ↦ inr (keeps k some) ]
    ]

-- all that were passed are so still
all_kept : (before after : List (Option ℕ)) (xs : List ℕ) → ((j : ℕ) → IsSome (get_or before j None) → IsSome (get_or after j None)) → AllByRecursion (λ (k : ℕ). IsSome (get_or before k None)) xs
    → AllByRecursion (λ (k : ℕ). IsSome (get_or after k None)) xs
all_kept before after [] keeps h = tt
all_kept before after (x ∷ xs) keeps h = (keeps x h.0, all_kept before after xs keeps h.1)

-- a climb to a known depth catches no cycle
pub caught_known : (parents : List ClassId) (start : ℕ) (known more : List (Option ℕ)) (cyclic : List ℕ) (before after : List (Option ℕ)) (path : List ℕ) (d : ℕ)
    → AreCaught parents start known cyclic before → IsClimb parents known before start after path (Known d) → ((k : ℕ) → IsSome (get_or known k None) → IsSome (get_or more k None))
    → ((k : ℕ) → Contains path k → IsSome (get_or more k None)) → ((k e : ℕ) → get_or more k None ≡ Some e → HasDepth (parents_with_basic parents) (k + 5) e)
    → AreCaught parents (start + 1) more cyclic after
caught_known parents start known more cyclic before after path d w climb keeps knows right = record {
  noted = all_kept before after cyclic climb.fresh.kept w.noted;
  only = w.only;
  once = w.once;
  closed = w.closed;
  caught = λ k some cycle.
      let v = value_of (get_or after k None) some in
      elim (climb.passed k v.0 v.1) [
        | inl old ↦ w.caught k (ap (λ (o : Option ℕ). is_some o) old) cycle
        | inr (is, there) ↦
            let e = value_of (get_or more k None) (knows k there) in
            no_depth (parents_with_basic parents) (k + 5) e.0 (right k e.0 e.1) (lies_ahead parents k cycle)
      ];
  met = λ k less. met_by known more before after start k less w.met climb.starts keeps climb.fresh.kept;
}

-- a climb that comes back to itself catches a cycle
pub caught_cycle : (parents : List ClassId) (start : ℕ) (known : List (Option ℕ)) (cyclic : List ℕ) (before after : List (Option ℕ)) (path : List ℕ) (first : ℕ)
    → AreCaught parents start known cyclic before → IsClimb parents known before start after path (Cycle first) → Contains path first
    → AreCaught parents (start + 1) known (cyclic ++ cycle_of first path) after
caught_cycle parents start known cyclic before after path first w climb there =
    let all = parents_with_basic parents in
    let new = cycle_of first path in
    let leads : LeadsTo parents path (first + 5) = climb.comes_back in
    let closed_new = cycle_closed parents first path leads there in
    record {
      noted = all_append (λ (k : ℕ). IsSome (get_or after k None)) cyclic new (all_kept before after cyclic climb.fresh.kept w.noted)
          (all_from (λ (k : ℕ). IsSome (get_or after k None)) new (λ k there_k. one_of (λ (j : ℕ). IsSome (get_or after j None)) path k climb.fresh.marked (cycle_within first path k there_k)));
      only = all_append (IsOnCycle parents) cyclic new w.only (all_from (IsOnCycle parents) new (cycle_on_cycle parents first path leads there));
      once = apart_both cyclic new w.once (cycle_apart first path climb.fresh.apart)
          (λ k old here. some_or_none (get_or before k None) (one_of (λ (j : ℕ). IsSome (get_or before j None)) cyclic k w.noted old)
          (one_of (λ (j : ℕ). get_or before j None ≡ None) path k climb.fresh.fresh (cycle_within first path k here)));
      closed = λ k j q there_k is at.
          elim (Contains-append_cases cyclic new k there_k) [
            | inl old ↦ Contains-append_left cyclic new j (w.closed k j q old is at)
            | inr here ↦ Contains-append_right cyclic new j (closed_new k j q here is at)
          ];
      caught = λ k some cycle.
          let v = value_of (get_or after k None) some in
          elim (climb.passed k v.0 v.1) [
            | inl old ↦ Contains-append_left cyclic new k (w.caught k (ap (λ (o : Option ℕ). is_some o) old) cycle)
            | inr (is, on_path) ↦
                let out = ahead_reaches all (k + 5) (first + 5) (path_ahead parents path (first + 5) k leads on_path) in
                let back = (orbit all (k + 5) out.0 (first + 5) out.1 (lies_ahead parents k cycle)).1 in
                Contains-append_right cyclic new k (closed_on parents new closed_new back.0 first k (cycle_first first path there) back.1)
          ];
      met = λ k less. met_by known known before after start k less w.met climb.starts (λ j some'. some') climb.fresh.kept;
    }

-- a climb to a definition that was passed before catches no other cycle
pub caught_lost : (parents : List ClassId) (start : ℕ) (known : List (Option ℕ)) (cyclic : List ℕ) (before after : List (Option ℕ)) (path : List ℕ)
    → AreCaught parents start known cyclic before → IsClimb parents known before start after path Lost → AreCaught parents (start + 1) known cyclic after
caught_lost parents start known cyclic before after path w climb =
    let all = parents_with_basic parents in
    let (j, v, leads, passed) = climb.comes_back in
    record {
      noted = all_kept before after cyclic climb.fresh.kept w.noted;
      only = w.only;
      once = w.once;
      closed = w.closed;
      caught = λ k some cycle.
          let u = value_of (get_or after k None) some in
          elim (climb.passed k u.0 u.1) [
            | inl old ↦ w.caught k (ap (λ (o : Option ℕ). is_some o) old) cycle
            | inr (is, on_path) ↦
                let out = ahead_reaches all (k + 5) (j + 5) (path_ahead parents path (j + 5) k leads on_path) in
                let o = orbit all (k + 5) out.0 (j + 5) out.1 (lies_ahead parents k cycle) in
                let there : Contains cyclic j = w.caught j (ap (λ (o' : Option ℕ). is_some o') passed) (on_cycle parents j o.0) in
                closed_on parents cyclic w.closed o.1.0 j k there o.1.1
          ];
      met = λ k less. met_by known known before after start k less w.met climb.starts (λ j' some'. some') climb.fresh.kept;
    }

-- when all were walked from, the cycles are caught
pub all_caught : (parents : List ClassId) (n : ℕ) (known : List (Option ℕ)) (cyclic : List ℕ) (passed : List (Option ℕ)) → length parents ≤ n → AreCaught parents n known cyclic passed
    → ((k d : ℕ) → get_or known k None ≡ Some d → HasDepth (parents_with_basic parents) (k + 5) d) → AreCycles parents cyclic
all_caught parents n known cyclic passed most w right = record {
  only = w.only;
  all = λ k less cycle.
      elim (w.met k (omega arith)) [
        | inl some ↦
            let d = value_of (get_or known k None) some in
            no_depth (parents_with_basic parents) (k + 5) d.0 (right k d.0 d.1) (lies_ahead parents k cycle)
        | inr some ↦ w.caught k some cycle
      ];
  once = w.once;
}

-- nothing is there among so many times None
pub none_there : (n k : ℕ) → get_or {A = Option ℕ} (replicate n None) k None ≡ None
none_there zero k = refl
none_there (suc n) zero = refl
none_there (suc n) (suc k) = none_there n k

-- before the first walk nothing is caught
pub caught_none : (parents : List ClassId) (known : List (Option ℕ)) (n : ℕ) → AreCaught parents 0 known [] (replicate n None)
caught_none parents known n = record {
  noted = tt;
  only = tt;
  once = tt;
  closed = λ k j q there is at. nothing_in k there;
  caught = λ k some cycle. some_or_none (get_or (replicate n None) k None) some (none_there n k);
  met = λ k less. absurd (omega arith);
}
