-- `compared_words` returns the expected type, then the words ` is compared with `, then the type that was found.
use Rattle.std.proofs.Common.{◌∙◌, ℕ, List, ◌++◌, codes, ap, append_assoc}
use Rattle.cool_explanations.proofs.facts.compared_words.Goals as goal

pub returns : goal.returns
returns c =
    c.in_ok-extend_from_slice-2.ensures.items
    ∙ ap (λ (text : List ℕ). text ++ c.deref-2.result.now) c.in_ok-extend_from_slice.ensures.items
    ∙ append_assoc c.in_ok-words.words.items (codes " is compared with ") c.deref-2.result.now
    ∙ ap (λ (text : List ℕ). text ++ (codes " is compared with " ++ c.deref-2.result.now)) (c.in_ok-words.ensures.items ∙ c.deref.ensures.value)
    ∙ ap (λ (more : List ℕ). c.args.types.now.due.items ++ (codes " is compared with " ++ more)) c.deref-2.ensures.value
