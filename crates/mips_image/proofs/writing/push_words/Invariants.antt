use Rattle.std.proofs.Common.{◌≡◌, ◌++◌, drop, flat_map}
use Rattle.mips_image.specs.ImageBytes.{word_bytes}
use Rattle.mips_image.proofs.writing.push_words.Given as goal

-- the bytes so far and those of the words left are all bytes
abbrev pub invariant-loop-word : goal.invariant-loop-word
invariant-loop-word l =
    l.bytes.items ++ flat_map word_bytes (drop l.word-index l.words) ≡ l.fn.bytes.items ++ flat_map word_bytes l.words
