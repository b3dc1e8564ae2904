-- Reading a number digit by digit modulo 2 ^ 32 gives the low 32 bits of the whole number.
use Rattle.std.proofs.Common.{◌≡◌, ℕ, ◌+◌, ◌-◌, ◌*◌, ◌%◌, ◌<◌, ◌≤◌, Bool, true, false, List, [], ◌∷◌, length, get_or, drop, refl, sym, ◌∙◌, ap, arith}
use Rattle.std.proofs.lemmas.List.{at_drop_more}
use Rattle.std.proofs.lemmas.Bool.Decides.{nat_tests}
use Rattle.cool_meaning.specs.Numbers.{digits_from, is_digit}
use Rattle.lists.proofs.Numbers.{digit_same}

-- one more digit keeps the low bits the same, and so do those after it
digits_by : (digit : Bool) (n m b : ℕ) (rest : List ℕ) → is_digit b ≡ digit → n % 4294967296 ≡ m % 4294967296
    → ((n m : ℕ) → n % 4294967296 ≡ m % 4294967296 → digits_from n rest % 4294967296 ≡ digits_from m rest % 4294967296)
    → digits_from n (b ∷ rest) % 4294967296 ≡ digits_from m (b ∷ rest) % 4294967296
digits_by true n m b rest is same later = rw is (later (10 * n + (b - 48)) (10 * m + (b - 48)) (digit_same n m (b - 48) same))
digits_by false n m b rest is same later = rw is same

-- numbers with the same low bits go on to numbers with the same low bits
pub digits_same : (bytes : List ℕ) (n m : ℕ) → n % 4294967296 ≡ m % 4294967296 → digits_from n bytes % 4294967296 ≡ digits_from m bytes % 4294967296
digits_same [] n m same = same
digits_same (b ∷ rest) n m same = digits_by (is_digit b) n m b rest refl same (λ n m same. digits_same rest n m same)

-- the low bits of a number with one more digit
low_bits : (n d b : ℕ) → d ≡ b - 48 → (n * 10 % 4294967296 + d) % 4294967296 % 4294967296 ≡ (10 * n + (b - 48)) % 4294967296
low_bits n d b is = rw is (omega arith)

-- a digit of a text was read
pub digit_read : (text : List ℕ) (k n d whole : ℕ) → k < length text → 48 ≤ get_or text k 0 → get_or text k 0 ≤ 57 → d ≡ get_or text k 0 - 48
    → digits_from n (drop k text) % 4294967296 ≡ whole → digits_from ((n * 10 % 4294967296 + d) % 4294967296) (drop (k + 1) text) % 4294967296 ≡ whole
digit_read text k n d whole within above below is so_far =
    let b = get_or text k 0 in
    let digit : is_digit b ≡ true = grind (arith, nat_tests) in
    let step : digits_from n (b ∷ drop (k + 1) text) ≡ digits_from (10 * n + (b - 48)) (drop (k + 1) text) = rw digit refl in
    digits_same (drop (k + 1) text) _ (10 * n + (b - 48)) (low_bits n d b is)
    ∙ ap (λ m. m % 4294967296) (sym (at_drop_more (digits_from n) text k 0 within ∙ step))
    ∙ so_far
