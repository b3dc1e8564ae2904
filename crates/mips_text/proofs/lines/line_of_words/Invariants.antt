use Rattle.std.proofs.Common.{◌≡◌, ◌-◌, ◌≤◌, map, length, drop}
use Rattle.mips_text.specs.Answers.{labelled}
use Rattle.mips_text.specs.Reading.{line_read}
use Rattle.mips_text.specs.Views.{word_seen}
use Rattle.mips_text.proofs.lines.line_of_words.Given as goal

abbrev pub invariant-loop-labels : goal.invariant-loop-labels
invariant-loop-labels l = record {
  within : l.at ≤ length l.words;
  read : labelled l.labels (line_read (drop l.at (map word_seen l.words))) ≡ line_read (map word_seen l.words);
}

abbrev pub decreases-loop-labels : goal.decreases-loop-labels
decreases-loop-labels l = length l.words - l.at
