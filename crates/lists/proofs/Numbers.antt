-- Lemmas on the order of numbers, on the bytes of digits, and on the low bits of a number in decimal digits.
use Rattle.std.proofs.Common.{◌≡◌, ◌⊎◌, ℕ, suc, ◌+◌, ◌*◌, ◌%◌, ◌<◌, ◌≤◌, Bool, true, false, nat_eq, nat_lt, inl, inr, refl, sym, ap, ◌∙◌, subst, arith}
use Rattle.std.specs.Char.{is_ascii_digit}
use Rattle.std.proofs.Math.Nat.{mod-add-mod}
use Rattle.std.proofs.lemmas.Bool.{cases_order, ltb-true, ltb-false}
use Rattle.std.proofs.lemmas.Bool.Decides.{nat_tests}
use Rattle.std.proofs.lemmas.Nat.{mul-mod_second}

-- a number is itself
pub nat_eq-same : (n : ℕ) → nat_eq n n ≡ true
nat_eq-same n = grind arith

-- one of two numbers is at most the other
pub le_or_ge : (m n : ℕ) → (m ≤ n) ⊎ (n ≤ m)
le_or_ge m n = elim (cases_order m n) [ inl same ↦ inl (omega arith) | inr other ↦ elim other [ inl less ↦ inl (omega arith) | inr more ↦ inr (omega arith) ] ]

pub le_on : (a b c : ℕ) → a ≤ b → b ≤ c → a ≤ c
le_on a b c h g = omega arith

-- a number is zero or greater
pub none_or_some : (n : ℕ) → (0 < n) ⊎ (n ≤ 0)
none_or_some n = grind arith

pub zero_less : (n : ℕ) → 0 < n → nat_lt 0 n ≡ true
zero_less n h = grind (arith, nat_tests)

-- a number up to the next of another is that, or is at most the other
pub next_or_less : (n k : ℕ) → n ≤ suc k → (n ≡ suc k) ⊎ (n ≤ k)
next_or_less n k h = grind arith

-- a property of each number below one and of that one
pub below_next : (P : ℕ → Type 0) (k c : ℕ) → c < k + 1 → ((j : ℕ) → j < k → P j) → P k → P c
below_next P k c less below here = by (nat_lt c k) refl
  where
    by : (b : Bool) → nat_lt c k ≡ b → P c
    by true e = below c (ltb-true c k e)
    by false e = let past : k ≤ c = ltb-false c k e in let same : k ≡ c = omega arith in subst P same here

-- the byte of a digit is one
pub digit_byte : (n : ℕ) → n < 10 → is_ascii_digit (48 + n) ≡ true
digit_byte n h = grind (arith, nat_tests)

-- one more digit keeps the low bits the same
pub digit_same : (n m d : ℕ) → n % 4294967296 ≡ m % 4294967296 → (10 * n + d) % 4294967296 ≡ (10 * m + d) % 4294967296
digit_same n m d same =
    sym (mod-add-mod (10 * n) 4294967296 d)
    ∙ ap (λ k. (k + d) % 4294967296) (sym (mul-mod_second 10 n 4294967296) ∙ ap (λ k. 10 * k % 4294967296) same ∙ mul-mod_second 10 m 4294967296)
    ∙ mod-add-mod (10 * m) 4294967296 d

-- and nothing more keeps a number
pub nothing_more : (n : ℕ) → n ≡ n + 0
nothing_more n = omega arith
