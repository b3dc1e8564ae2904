-- The derived order (`Ord`) of the kinds of type errors is the order of the ranks that the specification gives them.
use Rattle.std.proofs.Common.{◌≡◌, ℕ, zero, suc, Bool, true, List, [], ◌∷◌, Some, refl, subst}
use Rattle.std.specs.Prelude.{◌==◌}
use Rattle.std.specs.List.{AllByRecursion, list_all, slice_get}
use Rattle.std.specs.Ordering.{nat_cmp, ordering_index}
use Rattle.std.specs.declared.cmp.Ordering.{Ordering}
use Rattle.std.specs.declared.cmp.Ordering.TheVariants.{Less, Equal, Greater}
use Rattle.std.proofs.lemmas.List.Elements.{recursion_from_All}
use Rattle.std.proofs.lemmas.List.Sums.{AllPass-from_list_all}
use Rattle.std.proofs.lemmas.Option.{same_Some}
use Rattle.cool_check.specs.declared.fault.TypeKind.{TypeKind}
use Rattle.cool_check.specs.declared.fault.TypeKind.TheVariants.{E1, E2, E3, E4, E5, E6, E7, E8, E9, E10, E11, E12, E13, E14, E15, E16, E17, E18}
use Rattle.cool_check.specs.contracts.fault.TypeKindOrd.TheImpl as order
use Rattle.cool_check.specs.Faults.{rank}

-- the order that is derived
abbrev pub kind_cmp : TypeKind → TypeKind → Ordering
kind_cmp = (order.ghosts).cmp

-- all kinds in their order
abbrev pub all_kinds : List TypeKind
all_kinds = E1 ∷ E2 ∷ E3 ∷ E4 ∷ E5 ∷ E6 ∷ E7 ∷ E8 ∷ E9 ∷ E10 ∷ E11 ∷ E12 ∷ E13 ∷ E14 ∷ E15 ∷ E16 ∷ E17 ∷ E18 ∷ []

-- each kind stands there at its rank
there : (k : TypeKind) → slice_get all_kinds (rank k) ≡ Some k
there E1 = refl
there E2 = refl
there E3 = refl
there E4 = refl
there E5 = refl
there E6 = refl
there E7 = refl
there E8 = refl
there E9 = refl
there E10 = refl
there E11 = refl
there E12 = refl
there E13 = refl
there E14 = refl
there E15 = refl
there E16 = refl
there E17 = refl
there E18 = refl

-- a test that passes at all of some kinds passes at the one of a number
passes : (test : TypeKind → Bool) (ks : List TypeKind) (i : ℕ) (k : TypeKind) → AllByRecursion (λ x. test x ≡ true) ks → slice_get ks i ≡ Some k → test k ≡ true
passes test [] i k h e = absurd (cc)
passes test (x ∷ ks) zero k h e = subst (λ y. test y ≡ true) (same_Some x k e) h.0
passes test (x ∷ ks) (suc i) k h e = passes test ks i k h.1 e

-- a test that passes at all kinds passes at each
at_each : (test : TypeKind → Bool) → list_all test all_kinds ≡ true → (k : TypeKind) → test k ≡ true
at_each test h k = passes test all_kinds (rank k) k (recursion_from_All (λ x. test x ≡ true) all_kinds (AllPass-from_list_all test all_kinds h)) (there k)

-- whether two kinds are ordered as their ranks are
abbrev agrees : TypeKind → TypeKind → Bool
agrees k l = ordering_index (kind_cmp k l) == ordering_index (nat_cmp (rank k) (rank l))

-- all kinds are ordered as their ranks are
all_agree : list_all (λ k. list_all (agrees k) all_kinds) all_kinds ≡ true
all_agree = refl

-- answers of one index are one answer
same : (o p : Ordering) → (ordering_index o == ordering_index p) ≡ true → o ≡ p
same Less Less h = refl
same Less Equal h = absurd (cc)
same Less Greater h = absurd (cc)
same Equal Less h = absurd (cc)
same Equal Equal h = refl
same Equal Greater h = absurd (cc)
same Greater Less h = absurd (cc)
same Greater Equal h = absurd (cc)
same Greater Greater h = refl

-- any two kinds are ordered as their ranks are
pub kinds_by_rank : (k l : TypeKind) → kind_cmp k l ≡ nat_cmp (rank k) (rank l)
kinds_by_rank k l =
    same (kind_cmp k l) (nat_cmp (rank k) (rank l)) (at_each (agrees k) (at_each (λ x. list_all (agrees x) all_kinds) all_agree k) l)
