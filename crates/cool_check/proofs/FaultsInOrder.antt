-- A list of faults (type errors) that is sorted by file, byte, kind and line is in the order that the specification demands.
use Rattle.std.proofs.Common.{◌≡◌, inl, inr, ℕ, zero, suc, ◌<◌, ◌≤◌, false, List, [], ◌∷◌, length, get_or, sym, refl, arith}
use Rattle.std.specs.Ordering.{MatchOrdering, is_lt, nat_cmp, ordering_then}
use Rattle.std.specs.declared.cmp.Ordering.{Ordering}
use Rattle.std.specs.declared.cmp.Ordering.TheVariants.{Less, Equal, Greater}
use Rattle.std.proofs.lemmas.Cmp.{ranked}
use Rattle.cool_syntax.specs.FaultOrder.{IsLessOr, IsNoLater, AreInOrder}
use Rattle.cool_check.specs.declared.fault.TypeFault.{TypeFault}
use Rattle.cool_check.specs.Faults.{rank, standing_of}
use Rattle.cool_check.proofs.OrderOfKinds.{kind_cmp, kinds_by_rank}

-- the order of two faults: by file, then by byte, then by kind, and last by line
abbrev pub fault_cmp : TypeFault → TypeFault → Ordering
fault_cmp x y = ordering_then (ordering_then (ordering_then (nat_cmp x.at.file y.at.file) (nat_cmp x.at.byte y.at.byte)) (kind_cmp x.kind y.kind)) (nat_cmp x.at.line y.at.line)

-- An order by four numbers in turn does not put the second of two rows before the first: then the first is no later.
by_parts : (o p q r : Ordering) (a b c d e f g h : ℕ) → MatchOrdering o (b < a) (b ≡ a) (a < b) → MatchOrdering p (d < c) (d ≡ c) (c < d) → MatchOrdering q (f < e) (f ≡ e) (e < f)
    → MatchOrdering r (h < g) (h ≡ g) (g < h) → is_lt (ordering_then (ordering_then (ordering_then o p) q) r) ≡ false → IsLessOr a b (IsLessOr c d (IsLessOr e f (g ≤ h)))
by_parts Less p q r a b c d e f g h w x y z above = absurd (cc)
by_parts Greater p q r a b c d e f g h w x y z above = inl w
by_parts Equal Less q r a b c d e f g h w x y z above = absurd (cc)
by_parts Equal Greater q r a b c d e f g h w x y z above = inr (sym w, inl x)
by_parts Equal Equal Less r a b c d e f g h w x y z above = absurd (cc)
by_parts Equal Equal Greater r a b c d e f g h w x y z above = inr (sym w, inr (sym x, inl y))
by_parts Equal Equal Equal Less a b c d e f g h w x y z above = absurd (cc)
by_parts Equal Equal Equal Equal a b c d e f g h w x y z above = inr (sym w, inr (sym x, inr (sym y, omega arith)))
by_parts Equal Equal Equal Greater a b c d e f g h w x y z above = inr (sym w, inr (sym x, inr (sym y, omega arith)))

-- a fault that is not less than another stands no earlier
no_later : (x y : TypeFault) → is_lt (fault_cmp y x) ≡ false → IsNoLater (standing_of x) (standing_of y)
no_later x y h =
    by_parts (nat_cmp y.at.file x.at.file) (nat_cmp y.at.byte x.at.byte) (kind_cmp y.kind x.kind) (nat_cmp y.at.line x.at.line) x.at.file y.at.file x.at.byte y.at.byte (rank x.kind) (rank y.kind) x.at.line y.at.line
    (ranked y.at.file x.at.file _ refl) (ranked y.at.byte x.at.byte _ refl) (ranked (rank y.kind) (rank x.kind) _ (kinds_by_rank y.kind x.kind)) (ranked y.at.line x.at.line _ refl) h

-- faults of which none is less than the one before it are in order
pub sorted_in_order : (fs : List TypeFault) → ((k : ℕ) (d : TypeFault) → suc k < length fs → is_lt (fault_cmp (get_or fs (suc k) d) (get_or fs k d)) ≡ false) → AreInOrder standing_of fs
sorted_in_order [] up = tt
sorted_in_order (f ∷ []) up = tt
sorted_in_order (f ∷ g ∷ fs) up = (no_later f g (up zero f (omega arith)), sorted_in_order (g ∷ fs) (λ k d h. up (suc k) d (omega arith)))
