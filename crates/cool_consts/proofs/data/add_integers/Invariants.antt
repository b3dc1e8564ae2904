-- In the loop of `add_integers`, the Int objects of the integer constants passed so far are appended.
use Rattle.std.proofs.Common.{◌≡◌, ◌++◌, take}
use Rattle.mips_isa.specs.Lines.{lines_of}
use Rattle.cool_consts.specs.LinesOfConstants.{integers_lines}
use Rattle.cool_consts.proofs.data.add_integers.Given as goal

abbrev pub invariant-loop-index : goal.invariant-loop-index
invariant-loop-index l = lines_of l.lines.items ≡ lines_of l.fn.lines.items ++ integers_lines l.tag 0 (take l.index l.integers)
