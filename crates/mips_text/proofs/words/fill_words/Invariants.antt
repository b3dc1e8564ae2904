use Rattle.std.proofs.Common.{◌≡◌, ◌++◌, map, length}
use Rattle.mips_text.specs.Views.{word_seen}
use Rattle.mips_text.specs.Words.{words_of}
use Rattle.mips_text.proofs.words.fill_words.Given as goal

abbrev pub invariant-loop-word : goal.invariant-loop-word
invariant-loop-word l = map word_seen l.words.items ++ words_of l.rest ≡ words_of l.line

abbrev pub decreases-loop-word : goal.decreases-loop-word
decreases-loop-word l = length l.rest
