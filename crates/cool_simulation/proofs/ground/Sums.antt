-- The machine's sum and difference of two signed words represent those of the numbers, and two comparisons in the code detect overflow exactly.
use Rattle.std.proofs.Common.{◌≡◌, ℕ, zero, suc, ◌+◌, ◌-◌, ◌<◌, ◌≤◌, ◌⊎◌, inl, inr, ℤ, pos, negsuc, ◌+ℤ◌, ◌-ℤ◌, neg_ℤ, Bool, true, false, refl, arith}
use Rattle.std.specs.Prelude.{nat_lt}
use Rattle.mips_isa.specs.Machine.{wrap, flag, lifted}
use Rattle.cool_meaning.specs.Numbers.{fits, word_of}

-- a number moved up by 2 ^ 32
abbrev pub raised : ℤ → ℕ
raised (pos n) = n + 4294967296
raised (negsuc n) = 4294967295 - n

pub flag_cases : (a b : ℕ) → ((flag (nat_lt a b) ≡ 1) × (a < b)) ⊎ ((flag (nat_lt a b) ≡ 0) × (b ≤ a))
flag_cases a b = by (nat_lt a b) refl
  where
    by : (t : Bool) → nat_lt a b ≡ t → ((flag t ≡ 1) × (a < b)) ⊎ ((flag t ≡ 0) × (b ≤ a))
    by true e = inl (refl, grind arith)
    by false e = inr (refl, grind arith)

-- a number fits where its raised one is in the middle
pub raised_fits : (z : ℤ) → fits z ≡ true → (2147483648 ≤ raised z) × (raised z < 6442450944) × (word_of z ≡ wrap (raised z)) × (lifted (word_of z) + 2147483648 ≡ raised z) × (word_of z < 4294967296)
raised_fits (pos n) h = let small : n < 2147483648 = grind arith in omega arith
raised_fits (negsuc n) h = let small : n < 2147483648 = grind arith in omega arith

pub raised_over : (z : ℤ) → fits z ≡ false → (raised z < 2147483648) ⊎ (6442450944 ≤ raised z)
raised_over (pos n) h = let big : 2147483648 ≤ n = grind arith in inr (omega arith)
raised_over (negsuc n) h = let big : 2147483648 ≤ n = grind arith in inl (omega arith)

pub small_of : (n : ℕ) → nat_lt n 2147483648 ≡ true → n < 2147483648
small_of n h = grind arith

-- the raised sum
raised_sub : (a b : ℕ) → a < 2147483648 → b < 2147483648 → raised (pos a +ℤ negsuc b) + suc b ≡ a + 4294967296
raised_sub a b h k = grind arith

pub raised_sum : (m n : ℤ) → fits m ≡ true → fits n ≡ true → raised (m +ℤ n) + 4294967296 ≡ raised m + raised n
raised_sum (pos a) (pos b) h k = omega arith
raised_sum (pos a) (negsuc b) h k = let x = small_of a h in let y = small_of b k in let e = raised_sub a b x y in omega arith
raised_sum (negsuc a) (pos b) h k = let x = small_of a h in let y = small_of b k in let e = raised_sub b a y x in omega arith
raised_sum (negsuc a) (negsuc b) h k = let x = small_of a h in let y = small_of b k in omega arith

-- the raised difference
raised_less : (a b : ℕ) → a < 2147483648 → b < 2147483648 → raised (pos a -ℤ pos b) + b ≡ a + 4294967296
raised_less a zero h k = grind arith
raised_less a (suc b) h k = grind arith

raised_both : (a b : ℕ) → a < 2147483648 → b < 2147483648 → raised (negsuc a -ℤ negsuc b) + a ≡ b + 4294967296
raised_both a b h k = grind arith

raised_far : (a b : ℕ) → a < 2147483648 → b < 2147483648 → raised (negsuc a -ℤ pos b) + a + b ≡ 4294967295
raised_far a zero h k = grind arith
raised_far a (suc b) h k = grind arith

pub raised_difference : (m n : ℤ) → fits m ≡ true → fits n ≡ true → raised (m -ℤ n) + raised n ≡ raised m + 4294967296
raised_difference (pos a) (pos b) h k = let x = small_of a h in let y = small_of b k in let e = raised_less a b x y in omega arith
raised_difference (pos a) (negsuc b) h k = let x = small_of a h in let y = small_of b k in omega arith
raised_difference (negsuc a) (pos b) h k = let x = small_of a h in let y = small_of b k in let e = raised_far a b x y in omega arith
raised_difference (negsuc a) (negsuc b) h k = let x = small_of a h in let y = small_of b k in let e = raised_both a b x y in omega arith

pub raised_negated : (n : ℤ) → fits n ≡ true → raised (neg_ℤ n) + raised n ≡ 8589934592
raised_negated (pos zero) h = omega arith
raised_negated (pos (suc n)) h = let x = small_of (suc n) h in omega arith
raised_negated (negsuc n) h = let x = small_of n h in omega arith

-- The flag of a sum is 0 exactly where it fits: the sum is below its first part where the second one is negative.

abbrev pub sum_flag : ℕ → ℕ → ℕ
sum_flag x y = wrap (flag (nat_lt (lifted (wrap (x + y))) (lifted x)) + 4294967296 - flag (nat_lt (lifted y) (lifted 0)))

pub sum_numbers : (x y sx sy s : ℕ) → x ≡ wrap sx → y ≡ wrap sy → lifted x + 2147483648 ≡ sx → lifted y + 2147483648 ≡ sy → s + 4294967296 ≡ sx + sy
    → ((2147483648 ≤ s) × (s < 6442450944) → sum_flag x y ≡ 0) × ((s < 2147483648) ⊎ (6442450944 ≤ s) → 0 < sum_flag x y)
sum_numbers x y sx sy s ex ey lx ly es = (
  (λ h. omega (arith, flag_cases (lifted (wrap (x + y))) (lifted x), flag_cases (lifted y) (lifted 0))),
  (λ h. by h),
)
  where
    by : (s < 2147483648) ⊎ (6442450944 ≤ s) → 0 < sum_flag x y
    by (inl h) = omega (arith, flag_cases (lifted (wrap (x + y))) (lifted x), flag_cases (lifted y) (lifted 0))
    by (inr h) = omega (arith, flag_cases (lifted (wrap (x + y))) (lifted x), flag_cases (lifted y) (lifted 0))

-- The flag of a difference is 0 exactly where it fits: it is negative where the first part is below the second.

abbrev pub difference_flag : ℕ → ℕ → ℕ
difference_flag x y = wrap (flag (nat_lt (lifted x) (lifted y)) + 4294967296 - flag (nat_lt (lifted (wrap (x + 4294967296 - y))) (lifted 0)))

pub difference_numbers : (x y sx sy s : ℕ) → x ≡ wrap sx → y ≡ wrap sy → lifted x + 2147483648 ≡ sx → lifted y + 2147483648 ≡ sy → s + sy ≡ sx + 4294967296
    → ((2147483648 ≤ s) × (s < 6442450944) → difference_flag x y ≡ 0) × ((s < 2147483648) ⊎ (6442450944 ≤ s) → 0 < difference_flag x y)
difference_numbers x y sx sy s ex ey lx ly es = (
  (λ h. omega (arith, flag_cases (lifted x) (lifted y), flag_cases (lifted (wrap (x + 4294967296 - y))) (lifted 0))),
  (λ h. by h),
)
  where
    by : (s < 2147483648) ⊎ (6442450944 ≤ s) → 0 < difference_flag x y
    by (inl h) = omega (arith, flag_cases (lifted x) (lifted y), flag_cases (lifted (wrap (x + 4294967296 - y))) (lifted 0))
    by (inr h) = omega (arith, flag_cases (lifted x) (lifted y), flag_cases (lifted (wrap (x + 4294967296 - y))) (lifted 0))
