-- The loop of `tables_of` has added the dispatch tables of the classes with tags below the current one.
use Rattle.cool_layout.specs.SlotTables.{AreTables}
use Rattle.cool_layout.proofs.slots.tables_of.Given as goal

abbrev pub invariant-loop-tag : goal.invariant-loop-tag
invariant-loop-tag l = AreTables l.t l.tag l.tables.items
