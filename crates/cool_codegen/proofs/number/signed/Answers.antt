-- `signed` returns a number below 2 ^ 31 as an `i32` of the same value.
use Rattle.std.proofs.Common.{w32}
use Rattle.std.proofs.lemmas.Int.{to_z_pos}
use Rattle.cool_codegen.proofs.number.signed.Goals as goal

pub returns : goal.returns
returns c = to_z_pos w32 c.args.number c.requires
