use Rattle.std.proofs.Common.{ℕ, List, ap, map, ◌∙◌}
use denote.Ref.{Bor}
use Rattle.cool_session.specs.Commands.{asked, command}
use Rattle.cool_session.proofs.command.read_command.Goals as goal

pub returns : goal.returns
unfolding command
returns c =
    c.asked.ensures ∙ ap (λ (words : List (Bor (List ℕ))). asked (map (λ word. word.now) words)) c.as_slice.ensures.value
    ∙ ap asked c.in_ok-words.ensures
