-- `law_failing_rule`, which says that each type error names the typing rule that fails, follows from `rules_named` for each complete class table that keeps the
-- rules of classes.
use Rattle.cool_check.proofs.RulesThatFail.{rules_named}
use Rattle.cool_check.proofs.laws.law_failing_rule.Goals as goal

pub returns : goal.returns
returns c = λ p whole lawful. rules_named p whole lawful
