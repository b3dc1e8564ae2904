-- The loop of `add_class_objects` has appended the lines with the addresses of the prototypes and initializers of the classes before the current one.
use Rattle.std.proofs.Common.{◌≡◌, [], ◌∷◌, ◌++◌, map, take}
use Rattle.mips_isa.specs.Lines.{lines_of, Address}
use Rattle.cool_runtime.specs.LinesOfData.{words}
use Rattle.cool_layout.specs.Labels.{prototype, initializer}
use Rattle.cool_layout.proofs.tables.add_class_objects.Given as goal

abbrev pub invariant-loop-class : goal.invariant-loop-class
invariant-loop-class l = lines_of l.lines.items ≡ lines_of l.initial.lines.items ++ map (λ c. words (Address (prototype l.t c) ∷ Address (initializer l.t c) ∷ [])) (take l.class-index l.order)
