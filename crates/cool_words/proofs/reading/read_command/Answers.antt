use Rattle.std.proofs.Common.{◌∙◌, sym, subst}
use Rattle.cool_words.specs.Plans.{Answers, asked_by}
use Rattle.cool_words.proofs.ParsedWords.{no_plan, plan_of_matches}
use Rattle.cool_words.proofs.reading.read_command.Goals as goal

pub returns-in-Ok-clause-value : goal.returns-in-Ok-clause-value
returns-in-Ok-clause-value c =
    subst (λ wanted. Answers asked_by wanted c.read_matches.result)
    (sym (plan_of_matches _ c.args.command _ _ c.in_ok-parser.ensures c.in-Ok.ensures.matches c.in-Ok.ensures.kinds)) c.read_matches.ensures.value

pub returns-clause-value : goal.returns-clause-value
returns-clause-value c = λ _. no_plan _ c.args.command _ c.in-Err.error c.in_ok-parser.ensures c.in-Err.ensures.kinds (λ memory. c.in_default.not-OutOfMemory (c.kind.ensures ∙ memory))
