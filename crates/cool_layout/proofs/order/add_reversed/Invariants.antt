-- The loop of `add_reversed` has added the classes from position `index` to the last one, in reverse order.
use Rattle.std.proofs.Common.{◌≡◌, ◌++◌, drop}
use Rattle.std.specs.Prelude.{reverse}
use Rattle.cool_layout.proofs.order.add_reversed.Given as goal

abbrev pub invariant-loop-index : goal.invariant-loop-index
invariant-loop-index l = l.waiting.items ≡ l.fn.waiting.items ++ reverse (drop l.index l.classes)
