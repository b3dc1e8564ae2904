-- The loop of `definitions_of` has added the class definitions of the source files before the current one.
use Rattle.std.proofs.Common.{◌≡◌, ◌++◌}
use Rattle.cool_classes.specs.Definitions.{definitions}
use Rattle.cool_classes.proofs.building.definitions_of.Given as goal

abbrev pub invariant-loop-file : goal.invariant-loop-file
invariant-loop-file l = l.all.items ++ definitions l.file-iterator.rest.items ≡ definitions l.fn.files.items
