-- The items of a list from a position on are the item there and the rest after it.
use Rattle.std.proofs.Common.{◌≡◌, ℕ, zero, suc, ◌+◌, ◌-◌, ◌<◌, List, [], ◌∷◌, length, take, drop, get_or, ap, sym, subst, take_all, arith}
use native.Mathlib.Numerals.{add-one}

-- the item there, and the rest after it
pub drop_first : {X : Type 0} (xs : List X) (i : ℕ) (x : X) → i < length xs → x ≡ get_or xs i x → drop i xs ≡ x ∷ drop (suc i) xs
drop_first [] i x within is = absurd (omega arith)
drop_first (y ∷ xs) zero x within is = ap (λ z. z ∷ xs) (sym is)
drop_first (y ∷ xs) (suc i) x within is = drop_first xs i x (omega arith) is

pub drop_one : {X : Type 0} (xs : List X) (i : ℕ) (x : X) → i < length xs → x ≡ get_or xs i x → drop i xs ≡ x ∷ drop (i + 1) xs
drop_one xs i x within is = subst (λ (j : ℕ). drop i xs ≡ x ∷ drop j xs) (sym (add-one i)) (drop_first xs i x within is)

-- a list is its first number and those after it
pub first_and_tail : (rest : List ℕ) → 0 < length rest → get_or rest 0 0 ∷ take (length rest - 1) (drop 1 rest) ≡ rest
first_and_tail [] h = absurd (omega arith)
first_and_tail (b ∷ bs) h = ap (λ l. b ∷ l) (take_all _ bs (omega arith))
