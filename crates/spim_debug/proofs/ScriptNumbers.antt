-- Bounds on the numbers in a debugger script by the count of their digits: eight hexadecimal digits give a number of 32 bits.
use Rattle.std.proofs.Common.{◌≡◌, ap, sym, ◌∙◌, arith, ℕ, suc, ◌+◌, ◌*◌, ◌^◌, ◌<◌, ◌≤◌, true, List, [], ◌∷◌, length}
use Rattle.std.proofs.Math.Nat as nat
use Rattle.std.specs.List.{fold, list_all}
use Rattle.std.proofs.lemmas.Bool.{and_parts}
use Rattle.std.proofs.lemmas.Bool.Decides.{nat_tests}
use Rattle.mips_text.specs.Letters.{hex_digit}
use Rattle.mips_text.specs.Words.{digit_value, value}
use Rattle.mips_text.proofs.CappedNumbers.{step}

-- a hexadecimal digit is at most 15
digit_small : (b : ℕ) → hex_digit b ≡ true → digit_value b ≤ 15
digit_small b h = grind (arith, nat_tests)

-- one more digit adds at most one place of 16
step_small : (base n d : ℕ) → base ≤ 16 → d ≤ 15 → n * base + d + 1 ≤ (n + 1) * 16
step_small base n d h k = let most : n * base ≤ n * 16 = nat.mul-le-mul_left n h in omega arith

-- digits after a number make it at most so large
small_fold : (base n : ℕ) (ds : List ℕ) → base ≤ 16 → list_all hex_digit ds ≡ true → fold (step base) n ds + 1 ≤ (n + 1) * 16 ^ length ds
small_fold base n [] h all = omega arith
small_fold base n (d ∷ ds) h all =
    let parts = and_parts (hex_digit d) (list_all hex_digit ds) all in
    let here : step base n d + 1 ≤ (n + 1) * 16 = step_small base n (digit_value d) h (digit_small d parts.0) in
    let rest : fold (step base) (step base n d) ds + 1 ≤ (step base n d + 1) * 16 ^ length ds = small_fold base (step base n d) ds h parts.1 in
    let more : (step base n d + 1) * 16 ^ length ds ≤ (n + 1) * 16 * 16 ^ length ds = nat.mul-le-mul_right (16 ^ length ds) here in
    let power : (n + 1) * 16 * 16 ^ length ds ≡ (n + 1) * 16 ^ suc (length ds) =
    nat.mul_assoc (n + 1) 16 (16 ^ length ds) ∙ ap (λ k. (n + 1) * k) (sym (nat.pow-succ' 16 (length ds))) in
    omega arith

-- the number that digits are is at most so large
small_value : (base : ℕ) (ds : List ℕ) → base ≤ 16 → list_all hex_digit ds ≡ true → value base ds + 1 ≤ 16 ^ length ds
small_value base ds h all = let small : value base ds + 1 ≤ (0 + 1) * 16 ^ length ds = small_fold base 0 ds h all in omega arith

-- eight hexadecimal digits are a number of 32 bits
pub address_fits : (ds : List ℕ) → length ds ≡ 8 → list_all hex_digit ds ≡ true → value 16 ds < 4294967296
address_fits ds eight all =
    let small : value 16 ds + 1 ≤ 16 ^ length ds = small_value 16 ds (omega arith) all in
    let size : 16 ^ length ds ≡ 4294967296 = ap (λ n. 16 ^ n) eight in
    omega arith
