-- The loop of `add_features` has added the methods among the features before the current one to the dispatch table.
use Rattle.std.proofs.Common.{◌≡◌, take}
use Rattle.cool_layout.specs.SlotTables.{Has, user_own}
use Rattle.cool_layout.proofs.slots.add_features.Given as goal

abbrev pub invariant-loop-index : goal.invariant-loop-index
invariant-loop-index l = (l.table.above ≡ l.fn.table.above) × Has l.t (user_own l.class 0 (take l.index l.features)) l.table
