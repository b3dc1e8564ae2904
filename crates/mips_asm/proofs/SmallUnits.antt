-- The alignment that `.align` asks for, 2 to the power of its operand, is from 1 to 4,096, because the operand is at most 12.
use Rattle.std.proofs.Common.{◌≡◌, ℕ, ◌*◌, ◌%◌, ◌^◌, ◌<◌, ◌≤◌, arith}
use Rattle.std.proofs.Math.Nat.{pow-le-pow_right, mod-eq_of_lt}
use Rattle.std.proofs.lemmas.Nat.{pow_pos}

-- a one that is shifted by at most twelve
pub shifted_unit : (n : ℕ) → n ≤ 12 → (0 < 1 * 2 ^ n % 4294967296) × (1 * 2 ^ n % 4294967296 ≤ 4096)
shifted_unit n h =
    let two : 0 < 2 = omega arith in
    let low : 0 < 2 ^ n = pow_pos n in
    let high : 2 ^ n ≤ 2 ^ 12 = pow-le-pow_right two h in
    let small : 1 * 2 ^ n < 4294967296 = omega arith in
    let same : 1 * 2 ^ n % 4294967296 ≡ 1 * 2 ^ n = mod-eq_of_lt small in
    (omega arith, omega arith)
