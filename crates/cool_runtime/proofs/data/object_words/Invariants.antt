-- In the loop of `object_words`, the words so far are those of the object's head, followed by those of the fields before the current one.
use Rattle.std.proofs.Common.{◌≡◌, map}
use Rattle.mips_isa.specs.Lines.{item_of}
use Rattle.cool_runtime.specs.LinesOfData.{object_words}
use Rattle.cool_runtime.proofs.data.object_words.Given as goal

abbrev pub invariant-loop-field : goal.invariant-loop-field
invariant-loop-field l = map item_of l.items.items ≡ object_words l.tag l.size l.table (map item_of l.yielded)
