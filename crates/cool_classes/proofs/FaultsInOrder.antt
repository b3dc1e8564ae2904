-- A list of faults (compile-time errors) that is sorted by file, byte, kind and line is in the order that `AreInOrder` of `FaultOrder.antt` demands.
use Rattle.std.proofs.Common.{◌≡◌, inl, inr, ℕ, suc, ◌+◌, ◌<◌, List, [], ◌∷◌, get_or, false, sym, refl, subst, arith, true≢false}
use Rattle.std.specs.Ordering.{nat_cmp, ordering_then, is_lt, MatchOrdering}
use Rattle.std.specs.Cmp.{ranks}
use Rattle.std.specs.declared.cmp.Ordering.{Ordering}
use Rattle.std.specs.declared.cmp.Ordering.TheVariants.{Less, Equal, Greater}
use Rattle.std.specs.List.Sorted.{IsSortedByKey}
use Rattle.std.proofs.lemmas.Cmp.{ranked}
use Rattle.cool_syntax.specs.FaultOrder.{IsNoLater, AreInOrder}
use Rattle.cool_classes.specs.contracts.fault.ClassKindOrd.TheImpl.{cmp-value}
use Rattle.cool_classes.specs.declared.fault.ClassFault.{ClassFault}
use Rattle.cool_classes.specs.declared.fault.ClassKind.{ClassKind}
use Rattle.cool_classes.specs.declared.fault.ClassKind.TheVariants.{C1, C2, C3, C4, C5, C6, C7, F1, F2, F3, F4, F5, F6, F7, F8, F9}
use Rattle.cool_classes.specs.FaultLists.{rank, standing_of}

-- the key by which faults are sorted
abbrev pub key_of : ClassFault → ℕ × ℕ × ClassKind × ℕ
key_of f = (f.at.file, f.at.byte, f.kind, f.at.line)

-- the order of these keys
abbrev pub key_cmp : ℕ × ℕ × ClassKind × ℕ → ℕ × ℕ × ClassKind × ℕ → Ordering
key_cmp x y = ordering_then (ordering_then (ordering_then (nat_cmp x.0 y.0) (nat_cmp x.1 y.1)) (cmp-value.it x.2 y.2)) (nat_cmp x.3 y.3)

-- two kinds are ordered as their ranks are
abbrev AreRanked : ClassKind → ClassKind → Type 0
AreRanked a b = cmp-value.it a b ≡ nat_cmp (rank a) (rank b)

kinds_by_rank : (a b : ClassKind) → AreRanked a b
kinds_by_rank C1 b = elim b as (AreRanked C1) [ C1 ↦ refl | _ ↦ refl ]
kinds_by_rank C2 b = elim b as (AreRanked C2) [ C1 ↦ refl | _ ↦ refl ]
kinds_by_rank C3 b = elim b as (AreRanked C3) [ C1 ↦ refl | _ ↦ refl ]
kinds_by_rank C4 b = elim b as (AreRanked C4) [ C1 ↦ refl | _ ↦ refl ]
kinds_by_rank C5 b = elim b as (AreRanked C5) [ C1 ↦ refl | _ ↦ refl ]
kinds_by_rank C6 b = elim b as (AreRanked C6) [ C1 ↦ refl | _ ↦ refl ]
kinds_by_rank C7 b = elim b as (AreRanked C7) [ C1 ↦ refl | _ ↦ refl ]
kinds_by_rank F1 b = elim b as (AreRanked F1) [ C1 ↦ refl | _ ↦ refl ]
kinds_by_rank F2 b = elim b as (AreRanked F2) [ C1 ↦ refl | _ ↦ refl ]
kinds_by_rank F3 b = elim b as (AreRanked F3) [ C1 ↦ refl | _ ↦ refl ]
kinds_by_rank F4 b = elim b as (AreRanked F4) [ C1 ↦ refl | _ ↦ refl ]
kinds_by_rank F5 b = elim b as (AreRanked F5) [ C1 ↦ refl | _ ↦ refl ]
kinds_by_rank F6 b = elim b as (AreRanked F6) [ C1 ↦ refl | _ ↦ refl ]
kinds_by_rank F7 b = elim b as (AreRanked F7) [ C1 ↦ refl | _ ↦ refl ]
kinds_by_rank F8 b = elim b as (AreRanked F8) [ C1 ↦ refl | _ ↦ refl ]
kinds_by_rank F9 b = elim b as (AreRanked F9) [ C1 ↦ refl | _ ↦ refl ]

-- the order of two kinds, by their ranks
kinds_ranked : (a b : ClassKind) → MatchOrdering (cmp-value.it a b) (rank a < rank b) (rank a ≡ rank b) (rank b < rank a)
kinds_ranked a b = ranked (rank a) (rank b) (cmp-value.it a b) (kinds_by_rank a b)

-- the order by what four comparisons answer
later_by : (f g : ClassFault) (o p q r : Ordering) → MatchOrdering o (g.at.file < f.at.file) (g.at.file ≡ f.at.file) (f.at.file < g.at.file)
    → MatchOrdering p (g.at.byte < f.at.byte) (g.at.byte ≡ f.at.byte) (f.at.byte < g.at.byte) → MatchOrdering q (rank g.kind < rank f.kind) (rank g.kind ≡ rank f.kind) (rank f.kind < rank g.kind)
    → MatchOrdering r (g.at.line < f.at.line) (g.at.line ≡ f.at.line) (f.at.line < g.at.line) → is_lt (ordering_then (ordering_then (ordering_then o p) q) r) ≡ false
    → IsNoLater (standing_of f) (standing_of g)
later_by f g Less p q r file byte kind line h = absurd (true≢false h)
later_by f g Greater p q r file byte kind line h = inl file
later_by f g Equal Less q r file byte kind line h = absurd (true≢false h)
later_by f g Equal Greater q r file byte kind line h = inr (sym file, inl byte)
later_by f g Equal Equal Less r file byte kind line h = absurd (true≢false h)
later_by f g Equal Equal Greater r file byte kind line h = inr (sym file, inr (sym byte, inl kind))
later_by f g Equal Equal Equal Less file byte kind line h = absurd (true≢false h)
later_by f g Equal Equal Equal Equal file byte kind line h = inr (sym file, inr (sym byte, inr (sym kind, omega arith)))
later_by f g Equal Equal Equal Greater file byte kind line h = inr (sym file, inr (sym byte, inr (sym kind, omega arith)))

-- if the second is not before the first, the first is no later
no_later : (f g : ClassFault) → is_lt (key_cmp (key_of g) (key_of f)) ≡ false → IsNoLater (standing_of f) (standing_of g)
no_later f g h =
    later_by f g (nat_cmp g.at.file f.at.file) (nat_cmp g.at.byte f.at.byte) (cmp-value.it g.kind f.kind) (nat_cmp g.at.line f.at.line) (ranks g.at.file f.at.file) (ranks g.at.byte f.at.byte)
    (kinds_ranked g.kind f.kind) (ranks g.at.line f.at.line) h

-- sorted faults stand in order
pub in_order : (fs : List ClassFault) → IsSortedByKey key_of key_cmp fs → AreInOrder standing_of fs
in_order [] h = tt
in_order (f ∷ []) h = tt
in_order (f ∷ g ∷ fs) h = (
  no_later f g (h 0 f (omega arith) (omega arith)),
  in_order (g ∷ fs) (λ k d low high.
      let up : suc k + 1 ≡ suc (k + 1) = omega arith in
      subst (λ (n : ℕ). is_lt (key_cmp (key_of (get_or (f ∷ g ∷ fs) n d)) (key_of (get_or (g ∷ fs) k d))) ≡ false) up (h (suc k) d (omega arith) (omega arith))),
)
