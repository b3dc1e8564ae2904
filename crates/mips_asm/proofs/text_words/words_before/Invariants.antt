-- In the loop of `words_before`, the count so far plus the words before the label in the remaining lines is the number of words before it in all lines.
use Rattle.std.proofs.Common.{◌≡◌, ◌+◌, ◌≤◌, drop}
use Rattle.mips_isa.specs.Lines.{lines_of}
use Rattle.mips_asm.specs.TextWords.{words_in, words_before}
use Rattle.mips_asm.proofs.text_words.words_before.Given as goal

abbrev pub invariant-loop-line : goal.invariant-loop-line
invariant-loop-line l = record {
  counted : l.words + words_before (lines_of (drop l.line-index l.lines)) l.name ≡ words_before (lines_of l.lines) l.name;
  fits : l.words + words_in (lines_of (drop l.line-index l.lines)) ≤ 66060288;
}
