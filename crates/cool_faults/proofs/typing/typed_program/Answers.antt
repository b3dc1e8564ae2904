-- `typed_program` returns the type errors that `check` finds, as errors of files, in the same order and with the same source locations.
use Rattle.std.proofs.Common.{List, map, ap, ◌∙◌, sym, subst}
use Rattle.std.specs.List.{AllByRecursion}
use Rattle.std.specs.List.Sorted.{IsPermutation}
use Rattle.std.proofs.lemmas.List.Sorted.{IsPermutation-map}
use Rattle.cool_syntax.specs.TokenFacts.{IsPlaced}
use Rattle.cool_check.specs.TypingFaults.{typing_faults}
use Rattle.cool_faults.specs.declared.fault.Fault.{Fault}
use Rattle.cool_faults.specs.declared.fault.Fault.TheVariants as phase
use Rattle.cool_faults.specs.Verdicts.{place_of}
use Rattle.cool_faults.proofs.OrderOfFaults.{typing_refusal, typing_placed}
use Rattle.cool_faults.proofs.typing.typed_program.Goals as goal

pub returns-in_ok-of_typing-in-Err-Faults-clause-refusal : goal.returns-in_ok-of_typing-in-Err-Faults-clause-refusal
returns-in_ok-of_typing-in-Err-Faults-clause-refusal c =
    let all = c.new.ensures ∙ c.in_ok-of_typing-in-Err-Faults.ensures ∙ ap (map phase.Typing) c.as_slice.ensures in
    typing_refusal c.in-Err-Faults.faults c.new.result all (rw c.in-Err-Faults.field-0-is at c.in-Err-Faults.ensures.refusal)

pub returns-in_ok-of_typing-in-Err-Faults-clause-places : goal.returns-in_ok-of_typing-in-Err-Faults-clause-places
returns-in_ok-of_typing-in-Err-Faults-clause-places c =
    λ n within.
    let all = c.new.ensures ∙ c.in_ok-of_typing-in-Err-Faults.ensures ∙ ap (map phase.Typing) c.as_slice.ensures in
    subst (λ (l : List Fault). AllByRecursion (λ f. IsPlaced n (place_of f)) l) (sym all)
    (typing_placed n c.in-Err-Faults.faults (rw c.in-Err-Faults.field-0-is at (c.in-Err-Faults.ensures.places n within)))

pub returns-in_ok-of_typing-in-Err-Faults-clause-exact : goal.returns-in_ok-of_typing-in-Err-Faults-clause-exact
returns-in_ok-of_typing-in-Err-Faults-clause-exact c =
    let all = c.new.ensures ∙ c.in_ok-of_typing-in-Err-Faults.ensures ∙ ap (map phase.Typing) c.as_slice.ensures in
    let exact = rw c.in-Err-Faults.field-0-is at c.in-Err-Faults.ensures.exact in
    subst (IsPermutation (map phase.Typing (typing_faults c.args.classes))) (sym all) (IsPermutation-map phase.Typing (typing_faults c.args.classes) c.in-Err-Faults.faults exact.1)
