use Rattle.std.proofs.Common.{◌≡◌, map, drop}
use Rattle.mips_text.specs.Operands.{each_fault}
use Rattle.mips_text.specs.Views.{word_seen}
use Rattle.mips_text.proofs.wanted.each_fault.Given as goal

abbrev pub invariant-loop-word : goal.invariant-loop-word
invariant-loop-word l = each_fault l.wanted (map word_seen (drop l.word-index l.words)) ≡ each_fault l.wanted (map word_seen l.words)
