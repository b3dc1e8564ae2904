-- In the loop of `add_text`, the code of the sections passed so far is appended.
use Rattle.std.proofs.Common.{flat_map, take}
use Rattle.mips_isa.specs.Lines.{lines_of}
use Rattle.cool_emit.specs.Additions.{Adds, files_of}
use Rattle.cool_emit.specs.Sections.{features_in, section_code}
use Rattle.cool_emit.proofs.program.add_text.Given as goal

abbrev pub invariant-loop-section : goal.invariant-loop-section
invariant-loop-section l =
    Adds (files_of l.fn.emission) (flat_map (features_in l.fn.emission.program.now) (take l.section-index l.sections))
    (λ g. flat_map (section_code l.fn.emission.program.now (files_of l.fn.emission) g) (take l.section-index l.sections)) l.fn.consts l.consts (lines_of l.fn.lines.items) (lines_of l.lines.items)
