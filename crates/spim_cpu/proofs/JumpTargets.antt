-- The target address of a jump, computed by bit operations, is the start of the current region of 2^28 bytes plus four times the jump's index.
use Rattle.std.proofs.Common.{◌≡◌, ℕ, ◌+◌, ◌*◌, ◌%◌, ◌/◌, ◌<◌, arith}
use Rattle.std.specs.Prelude.{bit_and, bit_or}
use Rattle.std.proofs.lemmas.Nat.{or_shifted}
use Rattle.std.proofs.lemmas.Nat.Bits.{and_high_mask}

-- the upper four bits of an address
upper_bits : (n : ℕ) → n < 4294967296 → bit_and n 4026531840 ≡ n / 268435456 * 268435456
upper_bits n h = and_high_mask 32 28 (omega arith) n h

-- a region and an index do not overlap
pub region_and_index : (n index : ℕ) → n < 4294967296 → index < 67108864 → bit_or (bit_and n 4026531840) (index * 4 % 4294967296) ≡ n / 268435456 * 268435456 + 4 * index
region_and_index n index a b =
    let small : index * 4 % 4294967296 ≡ 4 * index = omega arith in
    rw (upper_bits n a, small) (or_shifted (n / 268435456) 28 (4 * index) (omega arith))
