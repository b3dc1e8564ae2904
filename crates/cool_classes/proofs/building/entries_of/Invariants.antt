-- The loop of `entries_of` has added the class-table entries of the class definitions before the current one.
use Rattle.std.proofs.Common.{◌≡◌, ◌++◌, ◌+◌, length, drop}
use Rattle.cool_classes.specs.Settled.{names_with_basic, entries_meant, entries_of}
use Rattle.cool_classes.proofs.building.entries_of.Given as goal

abbrev pub invariant-loop-definition : goal.invariant-loop-definition
invariant-loop-definition l = record {
  entries : l.entries.items ++ entries_meant (names_with_basic l.fn.definitions.items) l.definition-iterator.rest.items (drop l.index l.ancestry.depths.items) ≡ entries_of l.fn.definitions.items l.ancestry.depths.items;
  rest : l.definition-iterator.rest.items ≡ drop l.index l.fn.definitions.items;
  long : l.index + length l.definition-iterator.rest.items ≡ length l.fn.definitions.items;
}
