-- Following the parent of each class ends: it finds the classes on inheritance cycles and, if there are none, the depth of each class in the class
-- hierarchy.
use Rattle.std.proofs.Common.{◌≡◌, inl, inr, ℕ, zero, suc, ◌+◌, ◌-◌, ◌<◌, ◌≤◌, List, [], ◌∷◌, ◌++◌, length, get_or, set, Option, Some, None, Bool, true, false, ap, sym, ◌∙◌, refl, subst, arith}
use Rattle.std.specs.Prelude.{IsSome, nat_lt, replicate}
use Rattle.std.specs.List.{AllByRecursion}
use Rattle.std.proofs.lemmas.Bool.{ltb-true, ltb-false, cases_eq}
use Rattle.std.proofs.lemmas.List.{length-set}
use Rattle.cool_classes.specs.declared.class_id.ClassId.{ClassId}
use Rattle.cool_classes.specs.Chains.{class_number}
use Rattle.cool_classes.specs.Cycles.{AreCycles}
use Rattle.cool_classes.specs.Depths.{AreDepths, HasDepth, parents_with_basic}
use Rattle.cool_classes.specs.Walks.{AreWalked, cycle_of, settled, unpassed}
use Rattle.cool_classes.proofs.BasicDepths.{basic_top, basic_below}
use Rattle.cool_classes.proofs.CyclesCaught.{all_caught}
use Rattle.cool_classes.proofs.PassingDefinitions.{Climbing, climb_on, climb_done, count_less}
use Rattle.cool_classes.proofs.WalksFind.{all_known, walked_cycle, walked_known, walked_lost, walked_none}

-- the depth of a basic class
record BasicDepth (parents : List ClassId) (c : ℕ) : Type 0 where
  pub depth : ℕ
  pub has : HasDepth (parents_with_basic parents) c depth
  pub low : depth < 2

basic_depth : (parents : List ClassId) (c : ℕ) → c < 5 → BasicDepth parents c
basic_depth parents c less =
    elim (cases_eq c 0) [
      | inl same ↦ record { depth = 0; has = basic_top parents c same; low = omega arith }
      | inr other ↦ record { depth = 1; has = basic_below parents c less other; low = omega arith }
    ]

module _ (parents : List ClassId) (below : AllByRecursion (λ (q : ClassId). q.0 < length parents + 5) parents) where
  -- the walks from so many definitions
  record Walked (n : ℕ) : Type 0 where
    pub known : List (Option ℕ)
    pub cyclic : List ℕ
    pub passed : List (Option ℕ)
    pub walked : AreWalked parents n known cyclic passed

  known_start : (known : List (Option ℕ)) (start class : ℕ) → IsSome (get_or known class None) → (class ≡ start) → IsSome (get_or known start None)
  known_start known start class some same = subst (λ (k : ℕ). IsSome (get_or known k None)) same some

  some_is : (o : Option ℕ) (d : ℕ) → o ≡ Some d → IsSome o
  some_is o d e = subst (λ (x : Option ℕ). IsSome x) (sym e) refl

  module _ (start : ℕ) (w : Walked start) where
    -- a walk ends where a depth is known, or where it comes to a definition that was passed
    here : (passed : List (Option ℕ)) (path : List ℕ) (class : ℕ) → Climbing parents w.passed start passed path class
        → (get_or passed class None ≡ None → Walked (start + 1)) → Walked (start + 1)
    here passed path class c more = by (get_or w.known class None) refl (get_or passed class None) refl
      where
        by : (k : Option ℕ) → get_or w.known class None ≡ k → (p : Option ℕ) → get_or passed class None ≡ p → Walked (start + 1)
        by (Some depth) e p f = record {
          known = settled path depth w.known;
          cyclic = w.cyclic;
          passed = passed;
          walked = walked_known parents start w.known w.cyclic w.passed passed path depth w.walked c.same_passed (record {
            comes_to = (class + 5, c.leads, inl (class, refl, e));
            within = c.within;
            passed = c.noted;
            starts = elim c.starts [ inl same ↦ inl (known_start w.known start class (some_is (get_or w.known class None) depth e) same) | inr some ↦ inr some ];
            count = c.count;
            fresh = c.fresh;
            comes_back = tt;
          });
        }
        by None e (Some v) f =
            let starts : IsSome (get_or passed start None) = elim c.starts [ inl same ↦ known_start passed start class (some_is (get_or passed class None) v f) same | inr some ↦ some ] in
            elim (c.noted class v f) [
              | inl old ↦ record {
                known = w.known;
                cyclic = w.cyclic;
                passed = passed;
                walked = walked_lost parents start w.known w.cyclic w.passed passed path w.walked c.same_passed (record {
                  comes_to = (class, v, e, old);
                  within = c.within;
                  passed = c.noted;
                  starts = inr starts;
                  count = c.count;
                  fresh = c.fresh;
                  comes_back = (class, v, c.leads, old);
                });
              }
              | inr (is, there) ↦ record {
                known = w.known;
                cyclic = w.cyclic ++ cycle_of class path;
                passed = passed;
                walked = walked_cycle parents start w.known w.cyclic w.passed passed path class w.walked c.same_passed (record {
                  comes_to = f ∙ ap Some is;
                  within = c.within;
                  passed = c.noted;
                  starts = inr starts;
                  count = c.count;
                  fresh = c.fresh;
                  comes_back = c.leads;
                });
              }
            ]
        by None e None f = more f

    -- one definition more is passed: its parent is a basic class, or the walk goes on there
    on : (passed : List (Option ℕ)) (path : List ℕ) (class : ℕ) → Climbing parents w.passed start passed path class → get_or passed class None ≡ None
        → ((next : List (Option ℕ)) (way : List ℕ) (up : ℕ) → Climbing parents w.passed start next way up → unpassed next + 1 ≡ unpassed passed → Walked (start + 1)) → Walked (start + 1)
    on passed path class c none further = by (nat_lt (get_or parents class (class_number 0)).0 5) refl
      where
        within : class < length passed
        within = let h = c.class_within in let s = c.same_passed in omega arith

        by : (b : Bool) → nat_lt (get_or parents class (class_number 0)).0 5 ≡ b → Walked (start + 1)
        by true e =
            let d = basic_depth parents (get_or parents class (class_number 0)).0 (ltb-true (get_or parents class (class_number 0)).0 5 e) in
            record {
              known = settled (class ∷ path) d.depth w.known;
              cyclic = w.cyclic;
              passed = set passed class (Some start);
              walked = walked_known parents start w.known w.cyclic w.passed (set passed class (Some start)) (class ∷ path) d.depth w.walked (length-set passed class (Some start) ∙ c.same_passed)
                  (climb_done parents w.known w.passed start passed path class d.depth (class_number 0) c none d.has d.low);
            }
        by false e =
            further (set passed class (Some start)) (class ∷ path) ((get_or parents class (class_number 0)).0 - 5)
            (climb_on parents w.passed start passed path class (class_number 0) c none below (ltb-false (get_or parents class (class_number 0)).0 5 e))
            (count_less passed class start within none)

    climb : (fuel : ℕ) (passed : List (Option ℕ)) (path : List ℕ) (class : ℕ) → Climbing parents w.passed start passed path class → unpassed passed ≤ fuel → Walked (start + 1)
    climb zero passed path class c few =
        here passed path class c
        (λ f.
        let within : class < length passed = let h = c.class_within in let s = c.same_passed in omega arith in
        let less = count_less passed class start within f in
        absurd (omega arith))
    climb (suc n) passed path class c few =
        here passed path class c (λ f. on passed path class c f (λ next way up going less. climb n next way up going (omega arith)))

    walk : start < length parents → Walked (start + 1)
    walk less = climb (unpassed w.passed) w.passed [] start (record {
      class_within = less;
      same_passed = w.walked.same_passed;
      leads = tt;
      within = tt;
      noted = λ k v e. inl e;
      starts = inl refl;
      count = omega arith;
      fresh = record { fresh = tt; marked = tt; apart = tt; kept = λ k some. some };
    }) (omega arith)

  walks : (n : ℕ) → n ≤ length parents → Walked n
  walks zero most = record {
    known = replicate (length parents) None;
    cyclic = [];
    passed = replicate (length parents) None;
    walked = walked_none parents (replicate (length parents) None) (replicate (length parents) None) [] (length parents) refl refl refl refl;
  }
  walks (suc n) most = let next : n + 1 ≡ suc n = omega arith in subst Walked next (walk n (walks n (omega arith)) (omega arith))

  -- the hierarchy that the walks find
  pub record Hierarchy : Type 0 where
    pub cyclic : List ℕ
    pub depths : List (Option ℕ)
    pub cycles : AreCycles parents cyclic
    pub known : cyclic ≡ [] → AreDepths parents depths

  pub hierarchy : Hierarchy
  hierarchy =
      let n = length parents in
      let w = walks n (omega arith) in
      record {
        cyclic = w.cyclic;
        depths = w.known;
        cycles = all_caught parents n w.known w.cyclic w.passed (omega arith) w.walked.cycles w.walked.right;
        known = λ none. all_known parents w.known w.cyclic w.passed n (omega arith) w.walked none;
      }
