-- The loop of `offsets_of` has added the offsets of the attributes of the classes before the current one.
use Rattle.cool_layout.specs.Offsets.{AreOffsets}
use Rattle.cool_layout.proofs.offsets.offsets_of.Given as goal

abbrev pub invariant-loop-number : goal.invariant-loop-number
invariant-loop-number l = AreOffsets l.t l.number l.all.items
