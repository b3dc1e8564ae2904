-- The texts of the numbers below n + 1, joined in order, are those of the numbers below n and then the text of n. The debugger prints registers in this order.
use Rattle.std.proofs.Common.{◌≡◌, ◌∙◌, sym, ap, ℕ, suc, ◌+◌, List, ◌++◌, append_assoc, arith}
use Rattle.std.specs.Prelude.{flat_map}
use Rattle.std.specs.List.{range_with_len}
use Rattle.lists.proofs.JoinedLists.{flat_more}

-- the same from 0 on
pub next_number : (f : ℕ → List ℕ) (n : ℕ) → flat_map f (range_with_len 0 (n + 1)) ≡ flat_map f (range_with_len 0 n) ++ f n
next_number f n =
    let one : n + 1 ≡ suc n = omega arith in
    let none : 0 + n ≡ n = omega arith in
    ap (λ (k : ℕ). flat_map f (range_with_len 0 k)) one ∙ flat_more f 0 n ∙ ap (λ (k : ℕ). flat_map f (range_with_len 0 n) ++ f k) none

-- and behind what stands in front of them
pub in_front : (a b : List ℕ) (f : ℕ → List ℕ) (n : ℕ) → (a ++ (b ++ flat_map f (range_with_len 0 n))) ++ f n ≡ a ++ (b ++ flat_map f (range_with_len 0 (n + 1)))
in_front a b f n =
    append_assoc a (b ++ flat_map f (range_with_len 0 n)) (f n)
    ∙ ap (λ (r : List ℕ). a ++ r) (append_assoc b (flat_map f (range_with_len 0 n)) (f n))
    ∙ ap (λ (r : List ℕ). a ++ (b ++ r)) (sym (next_number f n))
