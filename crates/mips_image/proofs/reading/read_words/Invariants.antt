use Rattle.std.proofs.Common.{◌≡◌, ◌-◌, ◌*◌, ◌≤◌, ◌++◌, length}
use Rattle.mips_image.specs.ImageReading.{words_at}
use Rattle.mips_image.proofs.reading.read_words.Given as goal

-- the words so far and those that are still read are all words
abbrev pub invariant-loop-word : goal.invariant-loop-word
invariant-loop-word l = record {
  all : l.words.items ++ words_at (l.count - l._word) l.rest ≡ words_at l.count l.bytes;
  enough : 4 * (l.count - l._word) ≤ length l.rest;
}
