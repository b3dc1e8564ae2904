-- `Emission::sections` returns the sections of a program's text (`sections_in`): the run-time routines, and then the sections of each class in order.
use Rattle.std.proofs.Common.{◌≡◌, ◌∙◌, ◌+◌, ◌++◌, ◌∷◌, ℕ, List, [], length, flat_map, ap, sym, arith, append-nil}
use Rattle.std.proofs.lemmas.Grind.{flat_map-append}
use Rattle.cool_classes.specs.Chains.{class_number}
use Rattle.cool_layout.specs.Preorder.{numbers_from}
use Rattle.cool_emit.specs.declared.section.Section.{Section}
use Rattle.cool_emit.specs.declared.section.Section.TheVariants.{Routines}
use Rattle.cool_emit.specs.Sections.{class_sections}
use Rattle.cool_emit.proofs.PartsAreLight.{numbers_parts}
use Rattle.cool_emit.proofs.emission.Emission.sections.Goals as goal

pub loop-number-preserved : goal.loop-number-preserved
loop-number-preserved c =
    let p = c.args.self.now.program.now in
    let n = c.loop-number.number in
    let front = flat_map (class_sections p) (numbers_from 0 n) in
    let next : numbers_from 0 (n + 1) ≡ numbers_from 0 n ++ class_number n ∷ [] = numbers_parts 0 n 1 (n + 1) n (omega arith) (omega arith) in
    c.in_ok-add_class_sections.ensures
    ∙ ap (λ (xs : List Section). xs ++ class_sections p (class_number n)) c.loop-number.invariant
    ∙ ap (λ (xs : List Section). Routines ∷ (front ++ xs)) (sym (append-nil (class_sections p (class_number n))))
    ∙ ap (λ (xs : List Section). Routines ∷ xs) (sym (ap (flat_map (class_sections p)) next ∙ flat_map-append (class_sections p) (numbers_from 0 n) (class_number n ∷ [])))

pub returns : goal.returns
returns c =
    let p = c.args.self.now.program.now in
    let count = c.count-number-end.ensures.count ∙ ap length c.table.ensures in
    let most = c.loop-number.auto.number-end in
    let least = c.loop-number-test.false in
    let all : c.loop-number.number ≡ length p = omega arith in
    c.loop-number.invariant ∙ ap (λ (n : ℕ). Routines ∷ flat_map (class_sections p) (numbers_from 0 n)) all
