-- In the loop of `add_strings`, the String objects of the constants passed so far are appended, each after the Int of its length.
use Rattle.std.proofs.Common.{◌≡◌, ◌++◌, take}
use Rattle.mips_isa.specs.Lines.{lines_of}
use Rattle.cool_consts.specs.LinesOfConstants.{strings_lines}
use Rattle.cool_consts.proofs.StringKeys.{bytes_of}
use Rattle.cool_consts.proofs.data.add_strings.Given as goal

abbrev pub invariant-loop-index : goal.invariant-loop-index
invariant-loop-index l = lines_of l.lines.items ≡ lines_of l.fn.lines.items ++ strings_lines l.tags.int l.tags.string 0 (bytes_of (take l.index l.strings))
