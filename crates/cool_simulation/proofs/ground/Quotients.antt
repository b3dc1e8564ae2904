-- The machine's quotient of two signed words represents the quotient of the numbers, and the test in the code detects overflow (the smallest number divided by
-- -1).
use Rattle.std.proofs.Common.{◌≡◌, ℕ, zero, suc, ◌+◌, ◌-◌, ◌*◌, ◌/◌, ◌%◌, ◌<◌, ◌≤◌, ◌⊎◌, inl, inr, ℤ, pos, negsuc, neg_ℤ, Bool, true, false, not, refl, ap, ◌∙◌, arith}
use Rattle.std.specs.Prelude.{nat_lt, if◌then◌else◌, int_div}
use Rattle.std.proofs.Math.Nat.{div-le_self}
use Rattle.mips_isa.specs.Machine.{wrap, flag, is_negative, magnitude, with_sign, signed_quotient}
use Rattle.cool_meaning.specs.Numbers.{fits, is_zero, word_of}
use Rattle.cool_simulation.proofs.ground.Sums.{flag_cases, small_of}
use Rattle.cool_simulation.proofs.ground.Products.{big_of, low_sign, high_sign}

-- the sign and the magnitude of a number
abbrev below : ℤ → Bool
below (pos n) = false
below (negsuc n) = true

abbrev size : ℤ → ℕ
size (pos n) = n
size (negsuc n) = suc n

sign_is : (z : ℤ) → fits z ≡ true → is_negative (word_of z) ≡ below z
sign_is (pos n) h = low_sign n (small_of n h)
sign_is (negsuc n) h = high_sign n (small_of n h)

size_is : (z : ℤ) → fits z ≡ true → magnitude (word_of z) ≡ size z
size_is (pos n) h = ap (λ b. if b then 4294967296 - n else n) (low_sign n (small_of n h))
size_is (negsuc n) h = let x = small_of n h in ap (λ b. if b then 4294967296 - (4294967295 - n) else 4294967295 - n) (high_sign n x) ∙ omega arith

-- the quotient of the machine, by signs and magnitudes
abbrev by_parts : Bool → Bool → ℕ → ℕ → ℕ
by_parts s t a b = with_sign (if s then not t else t) (a / b)

quotient_parts : (m n : ℤ) → fits m ≡ true → fits n ≡ true → signed_quotient (word_of m) (word_of n) ≡ by_parts (below m) (below n) (size m) (size n)
quotient_parts m n h k = λ i. with_sign (if sign_is m h i then not (sign_is n k i) else sign_is n k i) (size_is m h i / size_is n k i)

minus_word : (k : ℕ) → k ≤ 2147483648 → wrap (4294967296 - k) ≡ word_of (neg_ℤ (pos k))
minus_word zero h = omega arith
minus_word (suc k) h = omega arith

minus_fits : (k : ℕ) → k ≤ 2147483648 → fits (neg_ℤ (pos k)) ≡ true
minus_fits zero h = refl
minus_fits (suc k) h = let x : k < 2147483648 = omega arith in grind arith

pos_fits : (k : ℕ) → k < 2147483648 → fits (pos k) ≡ true
pos_fits k h = grind arith

-- The quotient of the machine is that of the numbers. It fits, except for the smallest number by -1.
pub quotient_is : (m n : ℤ) → fits m ≡ true → fits n ≡ true → is_zero n ≡ false → signed_quotient (word_of m) (word_of n) ≡ word_of (int_div m n)
quotient_is (pos a) (pos b) h k some = quotient_parts (pos a) (pos b) h k
quotient_is (pos a) (negsuc b) h k some = let x = small_of a h in quotient_parts (pos a) (negsuc b) h k ∙ minus_word (a / suc b) (omega (arith, div-le_self a (suc b)))
quotient_is (negsuc a) (pos b) h k some = let x = small_of a h in quotient_parts (negsuc a) (pos b) h k ∙ minus_word (suc a / b) (omega (arith, div-le_self (suc a) b))
quotient_is (negsuc a) (negsuc b) h k some = quotient_parts (negsuc a) (negsuc b) h k

-- the flag of the code: the dividend is the smallest number, and the divisor is -1
abbrev pub quotient_flag : ℕ → ℕ → ℕ
quotient_flag x y = flag (nat_lt (flag (nat_lt 0 (wrap (y + 1)))) (flag (nat_lt (wrap (x + 2147483648)) 1)))

none : (x y : ℕ) → (0 < wrap (x + 2147483648)) ⊎ (0 < wrap (y + 1)) → quotient_flag x y ≡ 0
none x y (inl h) = omega (arith, flag_cases 0 (wrap (y + 1)), flag_cases (wrap (x + 2147483648)) 1, flag_cases (flag (nat_lt 0 (wrap (y + 1)))) (flag (nat_lt (wrap (x + 2147483648)) 1)))
none x y (inr h) = omega (arith, flag_cases 0 (wrap (y + 1)), flag_cases (wrap (x + 2147483648)) 1, flag_cases (flag (nat_lt 0 (wrap (y + 1)))) (flag (nat_lt (wrap (x + 2147483648)) 1)))

smaller : (a b : ℕ) → 2 ≤ b → a ≤ 2147483648 → a / b < 2147483648
smaller a b h k = by (a / b) (a % b) (omega arith)
  where
    by : (q r : ℕ) → b * q + r ≡ a → q < 2147483648
    by q r e = let twice : 2 * q ≤ b * q = grind arith in omega arith

one_divides : (a : ℕ) → a / 1 ≡ a
one_divides a = omega arith

pub quotient_flags : (m n : ℤ) → fits m ≡ true → fits n ≡ true → is_zero n ≡ false
    → (fits (int_div m n) ≡ true → quotient_flag (word_of m) (word_of n) ≡ 0) × (fits (int_div m n) ≡ false → 0 < quotient_flag (word_of m) (word_of n))
quotient_flags (pos a) (pos b) h k some =
    let x = small_of a h in
    let f = pos_fits (a / b) (omega (arith, div-le_self a b)) in
    ((λ e. none a b (inl (omega arith))), (λ e. absurd cc))
quotient_flags (pos a) (negsuc b) h k some =
    let x = small_of a h in let y = small_of b k in
    let f = minus_fits (a / suc b) (omega (arith, div-le_self a (suc b))) in
    ((λ e. none a (4294967295 - b) (inl (omega arith))), (λ e. absurd cc))
quotient_flags (negsuc a) (pos b) h k some =
    let x = small_of a h in let y = small_of b k in
    let f = minus_fits (suc a / b) (omega (arith, div-le_self (suc a) b)) in
    ((λ e. none (4294967295 - a) b (inr (omega arith))), (λ e. absurd cc))
quotient_flags (negsuc a) (negsuc zero) h k some =
    let x = small_of a h in
    let one = one_divides (suc a) in (
      (λ e. let s = small_of (suc a / 1) e in none (4294967295 - a) 4294967295 (inl (omega arith))),
      (λ e. let s = big_of (suc a / 1) e in let is : a ≡ 2147483647 = omega arith in
          omega (arith, flag_cases 0 (wrap (4294967295 + 1)), flag_cases (wrap (4294967295 - a + 2147483648)) 1, flag_cases (flag (nat_lt 0 (wrap (4294967295 + 1)))) (flag (nat_lt (wrap (4294967295 - a + 2147483648)) 1)))),
    )
quotient_flags (negsuc a) (negsuc (suc b)) h k some =
    let x = small_of a h in let y = small_of (suc b) k in
    let f = pos_fits (suc a / suc (suc b)) (smaller (suc a) (suc (suc b)) (omega arith) (omega arith)) in
    ((λ e. none (4294967295 - a) (4294967295 - suc b) (inr (omega arith))), (λ e. absurd cc))
