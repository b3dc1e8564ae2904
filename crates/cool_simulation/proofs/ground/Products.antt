-- The machine's product of two signed words represents the product of the numbers, and the test in the code detects overflow exactly.
use Rattle.std.proofs.Common.{◌≡◌, ℕ, zero, suc, ◌+◌, ◌-◌, ◌*◌, ◌/◌, ◌%◌, ◌<◌, ◌≤◌, ◌⊎◌, inl, inr, ℤ, pos, negsuc, ◌*ℤ◌, neg_ℤ, true, false, refl, ap, ◌∙◌, arith}
use Rattle.std.specs.Prelude.{nat_lt, if◌then◌else◌}
use Rattle.mips_isa.specs.Machine.{wrap, flag, lifted, long, is_negative}
use Rattle.cool_meaning.specs.Numbers.{fits, word_of}
use Rattle.cool_simulation.proofs.ground.Sums.{flag_cases, small_of}

pub big_of : (n : ℕ) → nat_lt n 2147483648 ≡ false → 2147483648 ≤ n
big_of n h = grind arith

pub low_sign : (n : ℕ) → n < 2147483648 → is_negative n ≡ false
low_sign n h = grind arith

pub high_sign : (n : ℕ) → n < 2147483648 → is_negative (4294967295 - n) ≡ true
high_sign n h = grind arith

-- a number of 64 bits with a sign
abbrev pub long_of : ℤ → ℕ
long_of (pos n) = n
long_of (negsuc n) = 18446744073709551615 - n

long_pos : (n : ℕ) → n < 2147483648 → long n ≡ n
long_pos n h = ap (λ b. if b then n + 18446744069414584320 else n) (low_sign n h)

long_neg : (n : ℕ) → n < 2147483648 → long (4294967295 - n) ≡ 18446744073709551615 - n
long_neg n h = ap (λ b. if b then 4294967295 - n + 18446744069414584320 else 4294967295 - n) (high_sign n h) ∙ omega arith

long_minus : (k : ℕ) → k ≤ 4611686018427387904 → (18446744073709551616 - k) % 18446744073709551616 ≡ long_of (neg_ℤ (pos k))
long_minus zero h = omega arith
long_minus (suc k) h = omega arith

-- a product with one of 64 bits below zero
one_below : (a b p : ℕ) → p ≡ a * suc b → b < 2147483648 → p ≤ 4611686018427387904 → a * (18446744073709551615 - b) % 18446744073709551616 ≡ (18446744073709551616 - p) % 18446744073709551616
one_below a b p is small bound =
    let c = 18446744073709551615 - b in
    let whole : c + suc b ≡ 18446744073709551616 = omega arith in
    let times : a * (c + suc b) ≡ a * 18446744073709551616 = ap (λ x. a * x) whole in
    by c times
  where
    by : (c : ℕ) → a * (c + suc b) ≡ a * 18446744073709551616 → a * c % 18446744073709551616 ≡ (18446744073709551616 - p) % 18446744073709551616
    by c times = omega arith

both_below : (a b : ℕ) → a < 2147483648 → b < 2147483648 → suc a * suc b ≤ 4611686018427387904 → (18446744073709551615 - a) * (18446744073709551615 - b) % 18446744073709551616 ≡ suc a * suc b
both_below a b x y bound = by (18446744073709551615 - a) (18446744073709551615 - b) (omega arith) (omega arith)
  where
    by : (c d : ℕ) → c + suc a ≡ 18446744073709551616 → d + suc b ≡ 18446744073709551616 → c * d % 18446744073709551616 ≡ suc a * suc b
    by c d e f =
        let first : c * (d + suc b) ≡ c * 18446744073709551616 = ap (λ z. c * z) f in
        let second : suc b * (c + suc a) ≡ suc b * 18446744073709551616 = ap (λ z. suc b * z) e in
        let more : suc b ≤ c = omega arith in
        omega arith

product_bound : (a b : ℕ) → a ≤ 2147483648 → b ≤ 2147483648 → a * b ≤ 4611686018427387904
product_bound a b h k = grind arith

-- the product of 64 bits
pub long_product : (m n : ℤ) → fits m ≡ true → fits n ≡ true → long (word_of m) * long (word_of n) % 18446744073709551616 ≡ long_of (m *ℤ n)
long_product (pos a) (pos b) h k =
    let x = small_of a h in let y = small_of b k in
    let bound = product_bound a b (omega arith) (omega arith) in
    (λ i. long_pos a x i * long_pos b y i % 18446744073709551616) ∙ omega arith
long_product (pos a) (negsuc b) h k =
    let x = small_of a h in let y = small_of b k in
    let bound = product_bound a (suc b) (omega arith) (omega arith) in
    (λ i. long_pos a x i * long_neg b y i % 18446744073709551616) ∙ one_below a b (a * suc b) refl y bound ∙ long_minus (a * suc b) bound
long_product (negsuc a) (pos b) h k =
    let x = small_of a h in let y = small_of b k in
    let bound = product_bound (suc a) b (omega arith) (omega arith) in
    (λ i. long_neg a x i * long_pos b y i % 18446744073709551616) ∙ omega arith ∙ one_below b a (suc a * b) (omega arith) x bound ∙ long_minus (suc a * b) bound
long_product (negsuc a) (negsuc b) h k =
    let x = small_of a h in let y = small_of b k in
    let bound = product_bound (suc a) (suc b) (omega arith) (omega arith) in
    (λ i. long_neg a x i * long_neg b y i % 18446744073709551616) ∙ both_below a b x y bound

-- the range of a product
abbrev IsProduct : ℤ → Type 0
IsProduct (pos k) = k ≤ 4611686018427387904
IsProduct (negsuc k) = k < 4611686018427387904

minus_product : (p : ℕ) → p ≤ 4611686018427387904 → IsProduct (neg_ℤ (pos p))
minus_product zero h = omega arith
minus_product (suc p) h = omega arith

is_product : (m n : ℤ) → fits m ≡ true → fits n ≡ true → IsProduct (m *ℤ n)
is_product (pos a) (pos b) h k = let x = small_of a h in let y = small_of b k in product_bound a b (omega arith) (omega arith)
is_product (pos a) (negsuc b) h k = let x = small_of a h in let y = small_of b k in minus_product (a * suc b) (product_bound a (suc b) (omega arith) (omega arith))
is_product (negsuc a) (pos b) h k = let x = small_of a h in let y = small_of b k in minus_product (suc a * b) (product_bound (suc a) b (omega arith) (omega arith))
is_product (negsuc a) (negsuc b) h k = let x = small_of a h in let y = small_of b k in product_bound (suc a) (suc b) (omega arith) (omega arith)

-- The flag of a product is 0 exactly where it fits: HI is 0 above a LO that is not negative, or all ones above a negative one.

abbrev pub product_high : ℕ → ℕ → ℕ
product_high x y = long x * long y % 18446744073709551616 / 4294967296

abbrev pub product_flag : ℕ → ℕ → ℕ
product_flag x y = wrap (product_high x y + flag (nat_lt (lifted (wrap (long x * long y))) (lifted 0)))

low_part : (n r : ℕ) → n % 18446744073709551616 ≡ r → wrap n ≡ wrap r
low_part n r e = omega arith

of_flag : (hi lo f : ℕ) (z : ℤ) → IsProduct z → hi ≡ long_of z / 4294967296 → lo ≡ wrap (long_of z) → ((f ≡ 1) × (lifted lo < lifted 0)) ⊎ ((f ≡ 0) × (lifted 0 ≤ lifted lo))
    → (fits z ≡ true → (wrap (hi + f) ≡ 0) × (lo ≡ word_of z)) × (fits z ≡ false → 0 < wrap (hi + f))
of_flag hi lo f (pos k) bound eh el (inl c) = ((λ h. let x = small_of k h in absurd (omega arith)), (λ h. let x = big_of k h in omega arith))
of_flag hi lo f (pos k) bound eh el (inr c) = ((λ h. let x = small_of k h in omega arith), (λ h. let x = big_of k h in omega arith))
of_flag hi lo f (negsuc k) bound eh el (inl c) = ((λ h. let x = small_of k h in omega arith), (λ h. let x = big_of k h in omega arith))
of_flag hi lo f (negsuc k) bound eh el (inr c) = ((λ h. let x = small_of k h in absurd (omega arith)), (λ h. let x = big_of k h in omega arith))

pub product_flags : (m n : ℤ) → fits m ≡ true → fits n ≡ true
    → (fits (m *ℤ n) ≡ true → (product_flag (word_of m) (word_of n) ≡ 0) × (wrap (long (word_of m) * long (word_of n)) ≡ word_of (m *ℤ n)))
    × (fits (m *ℤ n) ≡ false → 0 < product_flag (word_of m) (word_of n))
product_flags m n h k =
    let e = long_product m n h k in
    of_flag _ _ _ (m *ℤ n) (is_product m n h k) (ap (λ r. r / 4294967296) e) (low_part (long (word_of m) * long (word_of n)) _ e) (flag_cases (lifted (wrap (long (word_of m) * long (word_of n)))) (lifted 0))
