-- In the loop of `Emission::sections`, the result so far has the section of the run-time routines, and those of the classes passed.
use Rattle.std.proofs.Common.{◌≡◌, ◌∷◌, flat_map}
use Rattle.cool_layout.specs.Preorder.{numbers_from}
use Rattle.cool_emit.specs.declared.section.Section.TheVariants.{Routines}
use Rattle.cool_emit.specs.Sections.{class_sections}
use Rattle.cool_emit.proofs.emission.Emission.sections.Given as goal

abbrev pub invariant-loop-number : goal.invariant-loop-number
invariant-loop-number l = l.sections.items ≡ Routines ∷ flat_map (class_sections l.fn.self.program.now) (numbers_from 0 l.number)
