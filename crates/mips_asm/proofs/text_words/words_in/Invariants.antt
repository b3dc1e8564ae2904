-- In the loop of `words_in`, the count so far plus the words of the remaining lines is the number of words of all lines.
use Rattle.std.proofs.Common.{◌≡◌, ◌+◌, drop}
use Rattle.mips_isa.specs.Lines.{lines_of}
use Rattle.mips_asm.specs.TextWords.{words_in}
use Rattle.mips_asm.proofs.text_words.words_in.Given as goal

abbrev pub invariant-loop-line : goal.invariant-loop-line
invariant-loop-line l = l.words + words_in (lines_of (drop l.line-index l.lines)) ≡ words_in (lines_of l.lines)
