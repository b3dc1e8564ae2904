use Rattle.std.proofs.Common.{map, drop}
use Rattle.mips_isa.specs.Lines.{item_of}
use Rattle.mips_asm.specs.Places.{places_of}
use Rattle.mips_asm.proofs.ItemsLeft.{ItemsLeft}
use Rattle.mips_asm.proofs.items.add_words.Given as goal

abbrev pub invariant-loop-item : goal.invariant-loop-item
invariant-loop-item l = ItemsLeft (places_of l.labels) (map item_of l.items) l.initial.bytes.items (map item_of (drop l.item-index l.items)) l.bytes.items
