-- `pushed` returns the variable whose value is pushed at a depth: its offset from the frame pointer is `-(4 * depth + 4)` bytes.
use Rattle.std.proofs.Common.{◌≡◌, ◌+◌, ◌*◌, suc, ap, negsuc, rules, arith}
use Rattle.cool_codegen.specs.Code.{minus}
use Rattle.cool_codegen.proofs.binding.pushed.Goals as goal

pub returns : goal.returns
returns c =
    let more : 4 * c.args.depth + 4 ≡ suc (4 * c.args.depth + 3) = omega arith in
    let below : minus (4 * c.args.depth + 4) ≡ negsuc (4 * c.args.depth + 3) = ap minus more in
    search (rules, below)
