-- In the loop of `Told::add_features`, the debug information of the features passed so far, if they belong to the part (attributes or methods), is appended.
use Rattle.std.proofs.Common.{take}
use Rattle.cool_classes.specs.Chains.{features_of}
use Rattle.cool_emit.specs.Tellings.{TellsFeatures}
use Rattle.cool_emit.proofs.AddingParts.{part_from}
use Rattle.cool_emit.proofs.code_table.Told.add_features.Given as goal

abbrev pub invariant-loop-index : goal.invariant-loop-index
invariant-loop-index l = TellsFeatures l.emission l.c (part_from l.part 0 (take l.index (features_of l.emission.program.now l.c))) l.fn.self l.self
