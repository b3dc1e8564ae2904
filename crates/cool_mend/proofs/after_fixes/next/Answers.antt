-- The errors that `next` explains are among those of the files, and so are at places in the files.
use Rattle.std.proofs.Common.{ℕ, ◌<◌, List, length, subst, sym, ◌∙◌}
use Rattle.std.specs.Global.{Vec}
use Rattle.std.specs.List.{AllByRecursion}
use Rattle.cool_syntax.specs.TokenFacts.{IsPlaced}
use Rattle.cool_faults.specs.Files.{bytes_of}
use Rattle.cool_faults.specs.declared.fault.Fault.{Fault}
use Rattle.cool_faults.specs.Verdicts.{place_of}
use Rattle.cool_mend.specs.declared.explanation.Explanation.{Explanation}
use Rattle.cool_mend.specs.Explanations.{HaveTable}
use Rattle.cool_mend.proofs.NewFaults.{all_explained}
use Rattle.cool_mend.proofs.after_fixes.next.Goals as goal

pub explained_new-requires-clause-classes : goal.explained_new-requires-clause-classes
explained_new-requires-clause-classes c =
    subst (λ (fs : List (Vec ℕ)). HaveTable (bytes_of fs) c.in_ok-classes.classes) (c.deref-4.ensures.value ∙ sym c.deref-5.ensures.value) c.in_ok-classes.ensures

pub returns-clause-placed : goal.returns-clause-placed
returns-clause-placed c = λ some.
    let there = c.deref-3.result.now in
    let inside = subst (λ (fs : List (Vec ℕ)). 0 < length (bytes_of fs)) (sym c.deref-3.ensures.value) some in
    let P = λ (f : Fault). IsPlaced (length (bytes_of there)) (place_of f) in
    subst (λ (fs : List (Vec ℕ)). AllByRecursion (λ (x : Explanation). IsPlaced (length (bytes_of fs)) (place_of x.fault)) c.in-Some.new.explanations.items) c.deref-3.ensures.value
    (all_explained P _ c.in-Some.new _ _ _ _ c.in-Some.is c.in_ok-new.ensures.new (subst (AllByRecursion P) (sym c.deref-6.ensures.value) (c.in_ok-faults.ensures.placed inside)))
