-- The loop of `add_basic` has added the methods of the basic class that come before the current one to the dispatch table.
use Rattle.std.proofs.Common.{◌≡◌, take}
use Rattle.cool_classes.specs.BasicMethods.{named_methods}
use Rattle.cool_layout.specs.SlotTables.{Has, basic_own}
use Rattle.cool_layout.proofs.basic.add_basic.Given as goal

abbrev pub invariant-loop-own : goal.invariant-loop-own
invariant-loop-own l = record {
  above : l.table.above ≡ l.fn.table.above;
  table : Has l.t (basic_own (named_methods (take l.own-index l.methods))) l.table;
}
