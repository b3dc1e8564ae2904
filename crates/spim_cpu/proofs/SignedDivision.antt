-- The quotient and the remainder of two signed numbers can be computed from their absolute values, and then negated where needed.
use Rattle.std.proofs.Common.{◌≡◌, ◌∙◌, refl, sym, ap, ap₂, ℕ, zero, suc, ◌%◌, ◌/◌, ◌-◌, ◌<◌, ◌≤◌, ◌⊎◌, inl, inr, Bool, true, false, not, ℤ, pos, negsuc, if◌then◌else◌, neg_ℤ, unsigned_abs, int_div, int_rem, w32, arith}
use Rattle.std.specs.Int.{cast_signed, cast_unsigned, int_wrapping_div}
use Rattle.std.proofs.lemmas.Int.{of_z-to_z}
use Rattle.std.proofs.lemmas.Bool.{cases_lt}
use Rattle.std.proofs.Math.Nat.{div-le_self, mod-le}
use Rattle.mips_isa.specs.Machine.{wrap, is_negative, magnitude, with_sign, have_two_signs, signed_quotient, signed_remainder}

-- a number with a sign bit of 0
not_negative : (a : ℕ) → a < 2147483648 → is_negative a ≡ false
not_negative a h = grind arith

-- a number with a sign bit of 1
negative : (a : ℕ) → 2147483648 ≤ a → is_negative a ≡ true
negative a h = grind arith

-- a number with a sign bit of 0 is itself, as signed
signed_small : (a : ℕ) → a < 2147483648 → cast_signed w32 a ≡ pos a
signed_small a h = grind arith

-- a number with a sign bit of 1 is negative, as signed
signed_large : (a : ℕ) → 2147483648 ≤ a → a < 4294967296 → cast_signed w32 a ≡ negsuc (4294967295 - a)
signed_large a h k = grind arith

-- its magnitude
opposite : (a : ℕ) → a < 4294967296 → suc (4294967295 - a) ≡ 4294967296 - a
opposite a h = omega arith

-- a signed number that went through its bits
abbrev through_bits : ℤ → ℤ
through_bits z = cast_signed w32 (cast_unsigned w32 z)

-- the number behind the bits a is kept
signed_again : (a : ℕ) (x : ℤ) → a < 4294967296 → x ≡ cast_signed w32 a → through_bits x ≡ cast_signed w32 a
signed_again a x h same = ap through_bits same ∙ ap (cast_signed w32) (of_z-to_z w32 a h)

-- the bits of a number are kept
bits_again : (n : ℕ) (z : ℤ) → n < 4294967296 → cast_unsigned w32 z ≡ n → cast_unsigned w32 (through_bits z) ≡ n
bits_again n z h same = ap (λ m. cast_unsigned w32 (cast_signed w32 m)) same ∙ of_z-to_z w32 n h

-- the bits of a number with the other sign
bits_of_opposite : (n : ℕ) → n < 4294967296 → cast_unsigned w32 (neg_ℤ (pos n)) ≡ wrap (4294967296 - n)
bits_of_opposite zero h = refl
bits_of_opposite (suc n) h = omega arith

-- a magnitude, as the number behind the bits has it
magnitude_is : (a : ℕ) → a < 4294967296 → unsigned_abs (cast_signed w32 a) ≡ magnitude a
magnitude_is a h = grind arith

-- a magnitude has 32 bits
magnitude_small : (a : ℕ) → a < 4294967296 → magnitude a < 4294967296
magnitude_small a h = grind arith

-- a magnitude of 32 bits has 32 bits with its sign
with_sign_small : (s : Bool) (n : ℕ) → n < 4294967296 → with_sign s n < 4294967296
with_sign_small true n h = omega arith
with_sign_small false n h = h

-- a remainder of a by n, by the sign of a
abbrev remainder_by : Bool → ℕ → ℕ → ℕ
remainder_by s a n = with_sign s ((if s then 4294967296 - a else a) % n)

-- a quotient by the signs of the two numbers
abbrev quotient_by : Bool → Bool → ℕ → ℕ → ℕ
quotient_by s t a b = with_sign (if s then not t else t) ((if s then 4294967296 - a else a) / (if t then 4294967296 - b else b))

-- the remainder by the dividend's sign
remainder_at : (a n : ℕ) (d : ℤ) → a < 4294967296 → unsigned_abs d ≡ n → (a < 2147483648) ⊎ (2147483648 ≤ a) → cast_unsigned w32 (int_rem (cast_signed w32 a) d) ≡ remainder_by (is_negative a) a n
remainder_at a n d h same (inl small) =
    ap (λ z. cast_unsigned w32 (int_rem z d)) (signed_small a small)
    ∙ ap (λ m. a % m) same
    ∙ sym (ap (λ s. remainder_by s a n) (not_negative a small))
remainder_at a n d h same (inr large) =
    let le : (4294967296 - a) % n ≤ 4294967296 - a = mod-le (4294967296 - a) n in
    ap (λ z. cast_unsigned w32 (int_rem z d)) (signed_large a large h)
    ∙ ap₂ (λ k m. cast_unsigned w32 (neg_ℤ (pos (k % m)))) (opposite a h) same
    ∙ bits_of_opposite ((4294967296 - a) % n) (omega arith)
    ∙ sym (ap (λ s. remainder_by s a n) (negative a large))

-- a remainder has 32 bits
remainder_small : (a b : ℕ) → a < 4294967296 → signed_remainder a b < 4294967296
remainder_small a b h =
    let le : magnitude a % magnitude b ≤ magnitude a = mod-le (magnitude a) (magnitude b) in
    let lt : magnitude a < 4294967296 = magnitude_small a h in
    let below : magnitude a % magnitude b < 4294967296 = omega arith in
    with_sign_small (is_negative a) (magnitude a % magnitude b) below

-- the remainder of two signed numbers, as the code computes it
pub remainder_is : (a b : ℕ) (x y z : ℤ) → a < 4294967296 → b < 4294967296 → x ≡ cast_signed w32 a → y ≡ cast_signed w32 b → z ≡ int_rem (through_bits x) (through_bits y) → cast_unsigned w32 (through_bits z) ≡ signed_remainder a b
remainder_is a b x y z h k x_is y_is z_is =
    let same : cast_unsigned w32 (int_rem (cast_signed w32 a) (cast_signed w32 b)) ≡ signed_remainder a b = remainder_at a (magnitude b) (cast_signed w32 b) h (magnitude_is b k) (cases_lt a 2147483648) in
    bits_again (signed_remainder a b) z (remainder_small a b h)
    (ap (cast_unsigned w32) (z_is ∙ ap₂ int_rem (signed_again a x h x_is) (signed_again b y k y_is)) ∙ same)

-- the quotient by the signs of the two numbers
quotient_at : (a b : ℕ) → a < 4294967296 → b < 4294967296 → (a < 2147483648) ⊎ (2147483648 ≤ a) → (b < 2147483648) ⊎ (2147483648 ≤ b) → cast_unsigned w32 (int_div (cast_signed w32 a) (cast_signed w32 b)) ≡ quotient_by (is_negative a) (is_negative b) a b
quotient_at a b h k (inl p) (inl q) =
    ap₂ (λ y z. cast_unsigned w32 (int_div y z)) (signed_small a p) (signed_small b q)
    ∙ sym (ap₂ (λ s t. quotient_by s t a b) (not_negative a p) (not_negative b q))
quotient_at a b h k (inl p) (inr q) =
    let le : a / (4294967296 - b) ≤ a = div-le_self a (4294967296 - b) in
    ap₂ (λ y z. cast_unsigned w32 (int_div y z)) (signed_small a p) (signed_large b q k)
    ∙ ap (λ m. cast_unsigned w32 (neg_ℤ (pos (a / m)))) (opposite b k)
    ∙ bits_of_opposite (a / (4294967296 - b)) (omega arith)
    ∙ sym (ap₂ (λ s t. quotient_by s t a b) (not_negative a p) (negative b q))
quotient_at a b h k (inr p) (inl q) =
    let le : (4294967296 - a) / b ≤ 4294967296 - a = div-le_self (4294967296 - a) b in
    ap₂ (λ y z. cast_unsigned w32 (int_div y z)) (signed_large a p h) (signed_small b q)
    ∙ ap (λ m. cast_unsigned w32 (neg_ℤ (pos (m / b)))) (opposite a h)
    ∙ bits_of_opposite ((4294967296 - a) / b) (omega arith)
    ∙ sym (ap₂ (λ s t. quotient_by s t a b) (negative a p) (not_negative b q))
quotient_at a b h k (inr p) (inr q) =
    ap₂ (λ y z. cast_unsigned w32 (int_div y z)) (signed_large a p h) (signed_large b q k)
    ∙ ap₂ (λ m n. m / n) (opposite a h) (opposite b k)
    ∙ sym (ap₂ (λ s t. quotient_by s t a b) (negative a p) (negative b q))

-- a quotient has 32 bits
quotient_small : (a b : ℕ) → a < 4294967296 → signed_quotient a b < 4294967296
quotient_small a b h =
    let le : magnitude a / magnitude b ≤ magnitude a = div-le_self (magnitude a) (magnitude b) in
    let lt : magnitude a < 4294967296 = magnitude_small a h in
    let below : magnitude a / magnitude b < 4294967296 = omega arith in
    with_sign_small (have_two_signs a b) (magnitude a / magnitude b) below

-- the quotient of two signed numbers, as the code computes it
pub quotient_is : (a b : ℕ) (x y z : ℤ) → a < 4294967296 → b < 4294967296 → x ≡ cast_signed w32 a → y ≡ cast_signed w32 b → z ≡ int_wrapping_div w32 (through_bits x) (through_bits y) → cast_unsigned w32 (through_bits z) ≡ signed_quotient a b
quotient_is a b x y z h k x_is y_is z_is =
    let small : signed_quotient a b < 4294967296 = quotient_small a b h in
    let same : cast_unsigned w32 (int_div (cast_signed w32 a) (cast_signed w32 b)) ≡ signed_quotient a b = quotient_at a b h k (cases_lt a 2147483648) (cases_lt b 2147483648) in
    bits_again (signed_quotient a b) z small
    (ap (cast_unsigned w32) (z_is ∙ ap₂ (int_wrapping_div w32) (signed_again a x h x_is) (signed_again b y k y_is))
    ∙ bits_again (signed_quotient a b) (int_div (cast_signed w32 a) (cast_signed w32 b)) small same)
