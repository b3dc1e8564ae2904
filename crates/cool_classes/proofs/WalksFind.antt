-- `walk`, which follows parents from one class definition, finds the right depths (numbers of ancestors) or a cycle of inheritance, and keeps the invariant
-- `AreWalked` of all walks.
use Rattle.std.proofs.Common.{◌≡◌, ◌≢◌, ◌⊎◌, inl, inr, ℕ, suc, ◌+◌, ◌-◌, ◌<◌, ◌≤◌, List, [], ◌∷◌, ◌++◌, length, take, drop, get_or, set, Option, Some, None, Contains, Bool, true, false, sym, ap, ◌∙◌, refl, subst, cond, arith, get_or-set_other, get_or-set_same, true≢false}
use Rattle.std.specs.Prelude.{is_some, is_none, IsSome, nat_eq, replicate}
use Rattle.std.specs.List.{AllByRecursion}
use Rattle.std.proofs.lemmas.List.{length-set, length-replicate}
use Rattle.std.proofs.lemmas.List.Sums.{count_by-le-length}
use Rattle.std.proofs.Math.Seq.{take-append_seam}
use Rattle.cool_classes.specs.declared.class_id.ClassId.{ClassId}
use Rattle.cool_classes.specs.declared.depths.Above.TheVariants.{Known, Cycle, Lost}
use Rattle.cool_classes.specs.Depths.{parents_with_basic, HasDepth, AreDepths}
use Rattle.cool_classes.specs.Walks.{LeadsTo, settled, cycle_of, unpassed, IsClimb, IsFound, AreWalked}
use Rattle.std.proofs.lemmas.Option.{none-some}
use Rattle.cool_classes.proofs.CyclesCaught.{caught_known, caught_cycle, caught_lost, caught_none, none_there}
use Rattle.lists.proofs.AllItems.{all_append}
use Rattle.std.proofs.lemmas.Bool.{cases_eq}
use Rattle.lists.proofs.ItemsAt.{known_set}
use Rattle.lists.proofs.Options.{value_of}
use Rattle.lists.proofs.Membership.{contains_cases}

-- the depths that are known are right, and no greater than a bound
AreRight : List ClassId → ℕ → List (Option ℕ) → Type 0
AreRight parents most known = (k d : ℕ) → get_or known k None ≡ Some d → HasDepth (parents_with_basic parents) (k + 5) d × (d ≤ most)

-- a right depth leaves all depths right
right_set : (parents : List ClassId) (most : ℕ) (known : List (Option ℕ)) (k d : ℕ) → k < length known → HasDepth (parents_with_basic parents) (k + 5) d → d ≤ most
    → AreRight parents most known → AreRight parents most (set known k (Some d))
unfolding AreRight
right_set parents most known k d within has low right j e there =
    elim (cases_eq j k) [
      | inl same ↦
          let here : Some d ≡ Some e = sym (get_or-set_same known k (Some d) None within) ∙ ap (λ (n : ℕ). get_or (set known k (Some d)) n None) (sym same) ∙ there in
          let d_is : d ≡ e = cc in
          (subst (λ (n : ℕ). HasDepth (parents_with_basic parents) n e) (ap (λ (n : ℕ). n + 5) (sym same)) (subst (HasDepth (parents_with_basic parents) (k + 5)) d_is has), omega arith)
      | inr other ↦ right j e (sym (get_or-set_other known k j (Some d) None other) ∙ there)
    ]

-- positions stay within when a depth is noted
all_longer : (known : List (Option ℕ)) (k : ℕ) (o : Option ℕ) (ks : List ℕ) → AllByRecursion (λ (j : ℕ). j < length known) ks → AllByRecursion (λ (j : ℕ). j < length (set known k o)) ks
all_longer known k o ks all = subst (λ (n : ℕ). AllByRecursion (λ (j : ℕ). j < n) ks) (sym (length-set known k o)) all

-- a definition stands one deeper than its parent
one_deeper : (parents : List ClassId) (k c d : ℕ) (q : ClassId) → get_or (parents_with_basic parents) (k + 5) None ≡ Some q → q.0 ≡ c → HasDepth (parents_with_basic parents) c d
    → HasDepth (parents_with_basic parents) (k + 5) (d + 1)
one_deeper parents k c d q is same has =
    let up : suc d ≡ d + 1 = omega arith in
    subst (HasDepth (parents_with_basic parents) (k + 5)) up (q, is, subst (λ (n : ℕ). HasDepth (parents_with_basic parents) n d) (sym same) has)

-- the depths of a path are right
settled_right : (parents : List ClassId) (most : ℕ) (ks : List ℕ) (c d : ℕ) (known : List (Option ℕ)) → AllByRecursion (λ (k : ℕ). k < length known) ks → LeadsTo parents ks c
    → HasDepth (parents_with_basic parents) c d → d + length ks ≤ most → AreRight parents most known → AreRight parents most (settled ks d known)
settled_right parents most [] c d known within leads has low right = right
settled_right parents most (k ∷ ks) c d known within leads has low right =
    let deeper = one_deeper parents k c d leads.0 leads.1 leads.2 has in
    settled_right parents most ks (k + 5) (d + 1) (set known k (Some (d + 1))) (all_longer known k (Some (d + 1)) ks within.1) leads.3 deeper (omega arith)
    (right_set parents most known k (d + 1) within.0 deeper (omega arith) right)

-- noting depths keeps their number
pub settled_length : (ks : List ℕ) (d : ℕ) (known : List (Option ℕ)) → length (settled ks d known) ≡ length known
settled_length [] d known = refl
settled_length (k ∷ ks) d known = settled_length ks (d + 1) (set known k (Some (d + 1))) ∙ length-set known k (Some (d + 1))

-- a depth that is noted is known
known_here : (known : List (Option ℕ)) (k d j : ℕ) → k < length known → k ≡ j → IsSome (get_or (set known k (Some d)) j None)
known_here known k d j within same =
    ap (λ (n : ℕ). is_some (get_or (set known k (Some d)) n None)) (sym same) ∙ ap (λ (o : Option ℕ). is_some o) (get_or-set_same known k (Some d) None within)

-- depths that are known stay known along a path
settled_keeps : (ks : List ℕ) (d j : ℕ) (known : List (Option ℕ)) → AllByRecursion (λ (k : ℕ). k < length known) ks → IsSome (get_or known j None) → IsSome (get_or (settled ks d known) j None)
settled_keeps [] d j known within some = some
settled_keeps (k ∷ ks) d j known within some =
    settled_keeps ks (d + 1) j (set known k (Some (d + 1))) (all_longer known k (Some (d + 1)) ks within.1) (known_set known k (d + 1) j within.0 some)

-- the depths of a path become known
settled_knows : (ks : List ℕ) (d j : ℕ) (known : List (Option ℕ)) → AllByRecursion (λ (k : ℕ). k < length known) ks → Contains ks j → IsSome (get_or (settled ks d known) j None)
settled_knows [] d j known within there = let less : there.0 < 0 = there.1 in absurd (omega arith)
settled_knows (k ∷ ks) d j known within there =
    elim (contains_cases k j ks there) [
      | inl same ↦ settled_keeps ks (d + 1) j (set known k (Some (d + 1))) (all_longer known k (Some (d + 1)) ks within.1) (known_here known k (d + 1) j within.0 same)
      | inr rest ↦ settled_knows ks (d + 1) j (set known k (Some (d + 1))) (all_longer known k (Some (d + 1)) ks within.1) rest
    ]

-- a found definition stays found
found_more : (known more : List (Option ℕ)) (cyclic : List ℕ) (k : ℕ) → (IsSome (get_or known k None) → IsSome (get_or more k None)) → IsFound known cyclic k → IsFound more cyclic k
found_more known more cyclic k keeps found = elim found [ inl some ↦ inl (keeps some) | inr no_more ↦ inr no_more ]

-- the depth of what a climb comes to
record Reaches (parents : List ClassId) (path : List ℕ) (most d : ℕ) : Type 0 where
  number : ℕ
  leads : LeadsTo parents path number
  has : HasDepth (parents_with_basic parents) number d
  low : d + length path ≤ most

-- a definition that was passed, before the climb or on its path
seen_by : (known more : List (Option ℕ)) (cyclic : List ℕ) (before : List (Option ℕ)) (path : List ℕ) (start k w : ℕ) → (IsSome (get_or known k None) → IsSome (get_or more k None))
    → (Contains path k → IsSome (get_or more k None)) → ((j v : ℕ) → get_or before j None ≡ Some v → IsFound known cyclic j)
    → (get_or before k None ≡ Some w) ⊎ ((w ≡ start) × Contains path k) → IsFound more cyclic k
seen_by known more cyclic before path start k w keeps knows seen passed =
    elim passed [ inl old ↦ found_more known more cyclic k keeps (seen k w old) | inr (is, there) ↦ inl (knows there) ]

-- a definition that is passed was passed by a walk so far
before_by : (before : List (Option ℕ)) (path : List ℕ) (start k w : ℕ) → ((j v : ℕ) → get_or before j None ≡ Some v → v < start)
    → (get_or before k None ≡ Some w) ⊎ ((w ≡ start) × Contains path k) → w < start + 1
before_by before path start k w earlier passed =
    elim passed [ inl old ↦ (let less : w < start = earlier k w old in omega arith) | inr (is, there) ↦ omega arith ]

-- the class that a climb comes to has its depth
reaches : (parents : List ClassId) (start : ℕ) (known : List (Option ℕ)) (cyclic : List ℕ) (before after : List (Option ℕ)) (path : List ℕ) (d : ℕ)
    → AreWalked parents start known cyclic before → IsClimb parents known before start after path (Known d) → Reaches parents path (length parents + 1 - unpassed after) d
reaches parents start known cyclic before after path d w climb =
    let count = climb.count in
    let same = w.same_passed in
    let most = count_by-le-length is_none before in
    let above = climb.comes_to in
    elim above.2 [
      | inl (k, at, is) ↦
          let low : d + unpassed before ≤ length parents + 1 = w.low k d is in
          record { number = above.0; leads = above.1; has = subst (λ (n : ℕ). HasDepth (parents_with_basic parents) n d) (sym at) (w.right k d is); low = omega arith }
      | inr (low, has) ↦ record { number = above.0; leads = above.1; has = has; low = omega arith }
    ]

-- the definitions found up to one, and that one
done_by : (known : List (Option ℕ)) (cyclic : List ℕ) (start k : ℕ) → k < start + 1 → (k < start → IsFound known cyclic k) → (k ≡ start → IsFound known cyclic k) → IsFound known cyclic k
done_by known cyclic start k less earlier here =
    elim (cases_eq k start) [ inl same ↦ here same | inr other ↦ earlier (omega arith) ]

-- a definition from which a climb began is found
start_by : (known after : List (Option ℕ)) (cyclic : List ℕ) (start : ℕ) → ((k w : ℕ) → get_or after k None ≡ Some w → IsFound known cyclic k)
    → IsSome (get_or known start None) ⊎ IsSome (get_or after start None) → IsFound known cyclic start
start_by known after cyclic start seen starts =
    elim starts [ inl some ↦ inl some | inr passed ↦ (let w = value_of (get_or after start None) passed in seen start w.0 w.1) ]

-- a walk to a known depth
pub walked_known : (parents : List ClassId) (start : ℕ) (known : List (Option ℕ)) (cyclic : List ℕ) (before after : List (Option ℕ)) (path : List ℕ) (d : ℕ)
    → AreWalked parents start known cyclic before → length after ≡ length parents → IsClimb parents known before start after path (Known d)
    → AreWalked parents (start + 1) (settled path d known) cyclic after
unfolding AreRight
walked_known parents start known cyclic before after path d w same climb =
    let n = length parents in
    let within : AllByRecursion (λ (k : ℕ). k < length known) path = subst (λ (m : ℕ). AllByRecursion (λ (k : ℕ). k < m) path) (sym w.same_known) climb.within in
    let r = reaches parents start known cyclic before after path d w climb in
    let count = climb.count in
    let few = count_by-le-length is_none after in
    let old : AreRight parents (length parents + 1 - unpassed after) known = λ k e is. (w.right k e is, (let low = w.low k e is in omega arith)) in
    let right = settled_right parents (length parents + 1 - unpassed after) path r.number d known within r.leads r.has r.low old in
    let keeps = λ (k : ℕ). settled_keeps path d k known within in
    let seen : (k v : ℕ) → get_or after k None ≡ Some v → IsFound (settled path d known) cyclic k =
    λ k v is. seen_by known (settled path d known) cyclic before path start k v (keeps k) (settled_knows path d k known within) w.seen (climb.passed k v is) in
    record {
      same_known = settled_length path d known ∙ w.same_known;
      same_passed = same;
      right = λ k e is. (right k e is).0;
      low = λ k e is. (let low = (right k e is).1 in omega arith);
      before = λ k v is. before_by before path start k v w.before (climb.passed k v is);
      seen = seen;
      done = λ k less.
          done_by (settled path d known) cyclic start k less (λ earlier. found_more known (settled path d known) cyclic k (keeps k) (w.done k earlier))
          (λ same_start.
          subst (IsFound (settled path d known) cyclic) (sym same_start)
          (start_by (settled path d known) after cyclic start seen
          (elim climb.starts [ inl some ↦ inl (keeps start some) | inr passed ↦ inr passed ])));
      cycles = caught_known parents start known (settled path d known) cyclic before after path d w.cycles climb keeps (λ k. settled_knows path d k known within) (λ k e is. (right k e is).0);
      within = w.within;
    }

-- a cycle has a definition
some_there : (first : ℕ) (path cyclic : List ℕ) → Contains path first → cyclic ++ cycle_of first path ≢ []
some_there first [] cyclic there e = let less : there.0 < 0 = there.1 in absurd (omega arith)
some_there first (k ∷ ks) [] there e = absurd (cc)
some_there first (k ∷ ks) (x ∷ xs) there e = absurd (cc)

-- the definitions of a cycle are on its path
all_on_cycle : (n first : ℕ) (path : List ℕ) → AllByRecursion (λ (k : ℕ). k < n) path → AllByRecursion (λ (k : ℕ). k < n) (cycle_of first path)
all_on_cycle n first [] all = tt
all_on_cycle n first (k ∷ ks) all = (all.0, by (nat_eq k first) (all_on_cycle n first ks all.1))
  where
    by : (b : Bool) → AllByRecursion (λ (j : ℕ). j < n) (cycle_of first ks) → AllByRecursion (λ (j : ℕ). j < n) (cond b [] (cycle_of first ks))
    by true h = tt
    by false h = h

-- a climb that comes back finds the definition on its path
on_path : (before : List (Option ℕ)) (path : List ℕ) (start first : ℕ) → ((j v : ℕ) → get_or before j None ≡ Some v → v < start)
    → (get_or before first None ≡ Some start) ⊎ ((start ≡ start) × Contains path first) → Contains path first
on_path before path start first earlier passed =
    elim passed [ inl old ↦ (let less : start < start = earlier first start old in absurd (omega arith)) | inr (is, there) ↦ there ]

-- a walk that comes back to itself
pub walked_cycle : (parents : List ClassId) (start : ℕ) (known : List (Option ℕ)) (cyclic : List ℕ) (before after : List (Option ℕ)) (path : List ℕ) (first : ℕ)
    → AreWalked parents start known cyclic before → length after ≡ length parents → IsClimb parents known before start after path (Cycle first)
    → AreWalked parents (start + 1) known (cyclic ++ cycle_of first path) after
walked_cycle parents start known cyclic before after path first w same climb =
    let there = on_path before path start first w.before (climb.passed first start climb.comes_to) in
    let found : cyclic ++ cycle_of first path ≢ [] = some_there first path cyclic there in
    let count = climb.count in
    record {
      same_known = w.same_known;
      same_passed = same;
      right = w.right;
      low = λ k e is. (let low = w.low k e is in omega arith);
      before = λ k v is. before_by before path start k v w.before (climb.passed k v is);
      seen = λ k v is. inr found;
      done = λ k less. inr found;
      cycles = caught_cycle parents start known cyclic before after path first w.cycles climb there;
      within = all_append (λ (k : ℕ). k < length parents) cyclic (cycle_of first path) w.within (all_on_cycle (length parents) first path climb.within);
    }

-- a walk that comes to a definition passed by an earlier one
pub walked_lost : (parents : List ClassId) (start : ℕ) (known : List (Option ℕ)) (cyclic : List ℕ) (before after : List (Option ℕ)) (path : List ℕ)
    → AreWalked parents start known cyclic before → length after ≡ length parents → IsClimb parents known before start after path Lost → AreWalked parents (start + 1) known cyclic after
walked_lost parents start known cyclic before after path w same climb =
    let (j, v, none, was) = climb.comes_to in
    let found : cyclic ≢ [] = elim (w.seen j v was) [ inl some ↦ absurd (let d = value_of (get_or known j None) some in none_known (get_or known j None) d.0 d.1 none) | inr there ↦ there ] in
    let count = climb.count in
    record {
      same_known = w.same_known;
      same_passed = same;
      right = w.right;
      low = λ k e is. (let low = w.low k e is in omega arith);
      before = λ k u is. before_by before path start k u w.before (climb.passed k u is);
      seen = λ k u is. inr found;
      done = λ k less. inr found;
      cycles = caught_lost parents start known cyclic before after path w.cycles climb;
      within = w.within;
    }
  where
    none_known : (o : Option ℕ) (d : ℕ) → o ≡ Some d → o ≡ None → ⊥
    none_known o d e n = none-some d (sym n ∙ e)

-- before the first walk no definition is passed
pub walked_none : (parents : List ClassId) (known passed : List (Option ℕ)) (cyclic : List ℕ) (n : ℕ) → n ≡ length parents → known ≡ replicate n None → passed ≡ replicate n None → cyclic ≡ []
    → AreWalked parents 0 known cyclic passed
walked_none parents known passed cyclic n long unknown clear none =
    subst (λ (ks : List (Option ℕ)). AreWalked parents 0 ks cyclic passed) (sym unknown)
    (subst (λ (ps : List (Option ℕ)). AreWalked parents 0 (replicate n None) cyclic ps) (sym clear)
    (subst (λ (xs : List ℕ). AreWalked parents 0 (replicate n None) xs (replicate n None)) (sym none)
    (record {
      same_known = length-replicate n None ∙ long;
      same_passed = length-replicate n None ∙ long;
      right = λ k d is. absurd (none-some d (sym (none_there n k) ∙ is));
      low = λ k d is. absurd (none-some d (sym (none_there n k) ∙ is));
      before = λ k w is. absurd (none-some w (sym (none_there n k) ∙ is));
      seen = λ k w is. absurd (none-some w (sym (none_there n k) ∙ is));
      done = λ k less. absurd (omega arith);
      cycles = caught_none parents (replicate n None) n;
      within = tt;
    })))

-- a slice that was written in place
pub written_back : (n : ℕ) (xs ys : List (Option ℕ)) → length xs ≡ n → take n (xs ++ drop (length xs) ys) ≡ xs
written_back n xs ys e = ap (λ (m : ℕ). take m (xs ++ drop (length xs) ys)) (sym e) ∙ take-append_seam xs (drop (length xs) ys)

-- if no cycle is found, each depth is known
pub all_known : (parents : List ClassId) (known : List (Option ℕ)) (cyclic : List ℕ) (passed : List (Option ℕ)) (n : ℕ) → length parents ≤ n → AreWalked parents n known cyclic passed → cyclic ≡ []
    → AreDepths parents known
all_known parents known cyclic passed n most w none = record {
  same = w.same_known;
  right = λ k less.
      elim (w.done k (omega arith)) [
        | inl some ↦ let d = value_of (get_or known k None) some in (d.0, d.1, w.right k d.0 d.1)
        | inr found ↦ absurd (found none)
      ];
}
