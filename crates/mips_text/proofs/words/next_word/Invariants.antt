use Rattle.std.proofs.Common.{◌≡◌, ◌≤◌, length}
use Rattle.mips_text.specs.Words.{words_of}
use Rattle.mips_text.proofs.words.next_word.Given as goal

abbrev pub invariant-loop-rest : goal.invariant-loop-rest
invariant-loop-rest l = record {
  same : words_of l.line ≡ words_of l.rest;
  within : length l.rest ≤ length l.line;
}

abbrev pub decreases-loop-rest : goal.decreases-loop-rest
decreases-loop-rest l = length l.rest
