-- `class_table` returns the errors that `table` of `cool_classes` finds, as errors of files, in the same order and with the same source locations.
use Rattle.std.proofs.Common.{List, map, ap, ◌∙◌, sym, subst}
use Rattle.std.specs.List.{AllByRecursion}
use Rattle.cool_syntax.specs.TokenFacts.{IsPlaced}
use Rattle.cool_classes.specs.Definitions.{definitions}
use Rattle.cool_faults.specs.declared.fault.Fault.{Fault}
use Rattle.cool_faults.specs.declared.fault.Fault.TheVariants as phase
use Rattle.cool_faults.specs.Verdicts.{place_of}
use Rattle.cool_faults.proofs.OrderOfFaults.{classes_refusal, classes_placed, table_refusal}
use Rattle.cool_faults.proofs.classes.class_table.Goals as goal

pub returns-in_ok-of_classes-in-Err-Faults-clause-refusal : goal.returns-in_ok-of_classes-in-Err-Faults-clause-refusal
returns-in_ok-of_classes-in-Err-Faults-clause-refusal c =
    let all = c.new.ensures ∙ c.in_ok-of_classes-in-Err-Faults.ensures ∙ ap (map phase.Class) c.as_slice.ensures in
    classes_refusal c.in-Err-Faults.faults c.new.result all (rw c.in-Err-Faults.field-0-is at c.in-Err-Faults.ensures.refusal)

pub returns-in_ok-of_classes-in-Err-Faults-clause-places : goal.returns-in_ok-of_classes-in-Err-Faults-clause-places
returns-in_ok-of_classes-in-Err-Faults-clause-places c =
    λ n some within.
    let all = c.new.ensures ∙ c.in_ok-of_classes-in-Err-Faults.ensures ∙ ap (map phase.Class) c.as_slice.ensures in
    subst (λ (l : List Fault). AllByRecursion (λ f. IsPlaced n (place_of f)) l) (sym all)
    (classes_placed n c.in-Err-Faults.faults (rw c.in-Err-Faults.field-0-is at (c.in-Err-Faults.ensures.places n some within)))

pub returns-in_ok-of_classes-in-Err-Faults-clause-exact : goal.returns-in_ok-of_classes-in-Err-Faults-clause-exact
returns-in_ok-of_classes-in-Err-Faults-clause-exact c =
    let all = c.new.ensures ∙ c.in_ok-of_classes-in-Err-Faults.ensures ∙ ap (map phase.Class) c.as_slice.ensures in
    table_refusal (definitions c.args.trees.items) c.in-Err-Faults.faults c.new.result all (rw c.in-Err-Faults.field-0-is at c.in-Err-Faults.ensures.exact)
