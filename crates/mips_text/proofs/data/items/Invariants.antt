use Rattle.std.proofs.Common.{◌≡◌, map, take}
use Rattle.mips_isa.specs.Lines.{item_of}
use Rattle.mips_text.specs.Statements.{item_made}
use Rattle.mips_text.specs.Views.{word_seen}
use Rattle.mips_text.proofs.data.items.Given as goal

abbrev pub invariant-loop-word : goal.invariant-loop-word
invariant-loop-word l = map item_of l.items.items ≡ map item_made (map word_seen (take l.word-index l.words))
