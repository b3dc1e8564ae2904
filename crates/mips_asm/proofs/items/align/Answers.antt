use Rattle.std.proofs.Common.{◌≤◌, ◌^◌, arith}
use Rattle.std.proofs.Math.Nat.{pow-le-pow_right}
use Rattle.mips_asm.proofs.items.align.Goals as goal

pub pad-requires-clause-low : goal.pad-requires-clause-low
pad-requires-clause-low c =
    let below : 2 ^ c.args.power ≤ 4096 = pow-le-pow_right (omega arith) c.requires.low in
    omega arith
