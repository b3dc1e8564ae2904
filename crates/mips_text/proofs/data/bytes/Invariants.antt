use Rattle.std.proofs.Common.{◌≡◌, map, take}
use Rattle.mips_text.specs.Statements.{byte_made}
use Rattle.mips_text.specs.Views.{word_seen}
use Rattle.mips_text.proofs.data.bytes.Given as goal

abbrev pub invariant-loop-word : goal.invariant-loop-word
invariant-loop-word l = l.bytes.items ≡ map byte_made (map word_seen (take l.word-index l.words))
