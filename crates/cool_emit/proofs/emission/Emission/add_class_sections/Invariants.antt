-- In the loop of `Emission::add_class_sections`, the result so far has the section of the class's initializer and those of the methods passed.
use Rattle.std.proofs.Common.{◌≡◌, ◌++◌, ◌∷◌, map, take}
use Rattle.cool_classes.specs.Chains.{features_of}
use Rattle.cool_emit.specs.declared.section.Section.TheVariants.{Initializer, Method}
use Rattle.cool_emit.specs.Programs.{methods_from}
use Rattle.cool_emit.proofs.emission.Emission.add_class_sections.Given as goal

abbrev pub invariant-loop-index : goal.invariant-loop-index
invariant-loop-index l =
    l.sections.items ≡ l.fn.sections.items ++ Initializer l.c ∷ map (λ f. Method l.c f.place) (methods_from 0 (take l.index (features_of l.fn.self.program.now l.c)))
