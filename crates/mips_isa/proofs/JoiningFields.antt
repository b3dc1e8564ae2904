-- If the bit fields of an instruction word do not overlap, joining them by bitwise or gives the same word as adding them.
use Rattle.std.proofs.Common.{◌≡◌, ℕ, ◌+◌, ◌*◌, ◌%◌, ◌^◌, ◌<◌, arith}
use Rattle.std.specs.Prelude.{bit_or}
use Rattle.std.proofs.lemmas.Nat.{or_shifted}
use Rattle.mips_isa.specs.Words.{fields}

or_low : (a k b x : ℕ) → x ≡ a * 2 ^ k → b < 2 ^ k → bit_or x b ≡ x + b
or_low a k b x e h = rw e (or_shifted a k b h)

-- op, rs, rt and the last 16 bits
pub fields_joined : (op rs rt low : ℕ) → op < 64 → rs < 32 → rt < 32 → low < 65536 → bit_or (bit_or (bit_or (op * 67108864 % 4294967296) (rs * 2097152 % 4294967296)) (rt * 65536 % 4294967296)) low ≡ fields op rs rt low
fields_joined op rs rt low a b c d =
    let op_is : op * 67108864 % 4294967296 ≡ op * 67108864 = omega arith in
    let rs_is : rs * 2097152 % 4294967296 ≡ rs * 2097152 = omega arith in
    let rt_is : rt * 65536 % 4294967296 ≡ rt * 65536 = omega arith in
    let one = or_low op 26 (rs * 2097152) (op * 67108864) (omega arith) (omega arith) in
    let two = or_low (op * 32 + rs) 21 (rt * 65536) (op * 67108864 + rs * 2097152) (omega arith) (omega arith) in
    let three = or_low (op * 1024 + rs * 32 + rt) 16 low (op * 67108864 + rs * 2097152 + rt * 65536) (omega arith) (omega arith) in
    rw (op_is, rs_is, rt_is, one, two) three

-- rd, sh and fn
pub low_fields_joined : (rd sh function : ℕ) → rd < 32 → sh < 32 → function < 64 → bit_or (bit_or (rd * 2048 % 4294967296) (sh * 64 % 4294967296)) function ≡ rd * 2048 + sh * 64 + function
low_fields_joined rd sh function a b c =
    let rd_is : rd * 2048 % 4294967296 ≡ rd * 2048 = omega arith in
    let sh_is : sh * 64 % 4294967296 ≡ sh * 64 = omega arith in
    let one = or_low rd 11 (sh * 64) (rd * 2048) (omega arith) (omega arith) in
    let two = or_low (rd * 32 + sh) 6 function (rd * 2048 + sh * 64) (omega arith) (omega arith) in
    rw (rd_is, sh_is, one) two
