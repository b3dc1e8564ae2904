-- In the loop of `Emission::add_features`, the code of the features passed so far, if they belong to the part (attributes or methods), is appended.
use Rattle.std.proofs.Common.{flat_map, take}
use Rattle.mips_isa.specs.Lines.{lines_of}
use Rattle.cool_classes.specs.Chains.{features_of}
use Rattle.cool_emit.specs.Additions.{Adds, files_of}
use Rattle.cool_emit.specs.Programs.{placed_code}
use Rattle.cool_emit.proofs.AddingParts.{part_from}
use Rattle.cool_emit.proofs.emission.Emission.add_features.Given as goal

abbrev pub invariant-loop-index : goal.invariant-loop-index
invariant-loop-index l =
    Adds (files_of l.fn.self) (part_from l.part 0 (take l.index (features_of l.fn.self.program.now l.c)))
    (λ g. flat_map (placed_code l.fn.self.program.now (files_of l.fn.self) g l.c)
    (part_from l.part 0 (take l.index (features_of l.fn.self.program.now l.c))))
    l.fn.consts l.consts (lines_of l.fn.lines.items) (lines_of l.lines.items)
