use Rattle.std.proofs.Common.{◌∙◌, sym, subst, Some, None}
use Rattle.clap.specs.Words.{found_of}
use Rattle.cool_words.specs.Plans.{Answers}
use Rattle.cool_words.proofs.FoundValues.{value_there}
use Rattle.cool_words.proofs.reading.value_of.Goals as goal

pub returns-in-Some-clause-value : goal.returns-in-Some-clause-value
returns-in-Some-clause-value c =
    subst (λ wanted. Answers (λ n. n) wanted c.number_or_usage.result)
    (value_there (found_of c.args.matches.now) c.args.name.now c.args.low c.args.high c.args.default (Some c.in-Some.text.now) c.in-Some.ensures) c.number_or_usage.ensures.value

pub returns-in-Some-default-clause-value : goal.returns-in-Some-default-clause-value
returns-in-Some-default-clause-value c =
    sym (value_there (found_of c.args.matches.now) c.args.name.now c.args.low c.args.high c.args.default None c.in-None.ensures) ∙ c.in-Some-default.is

pub returns-in-None-default-clause-value : goal.returns-in-None-default-clause-value
returns-in-None-default-clause-value c = λ _.
    sym (value_there (found_of c.args.matches.now) c.args.name.now c.args.low c.args.high c.args.default None c.in-None.ensures) ∙ c.in-None-default.is
