-- `call_last` returns the closing parenthesis around the only argument of a call, or the token behind the last of several arguments.
use Rattle.std.proofs.Common.{ℕ, ◌+◌, ◌∙◌, ap}
use Rattle.cool_extents.specs.FoundExtents.{outer_last}
use Rattle.cool_extents.proofs.ExtentsMade.{one_argument, more_arguments}
use Rattle.cool_extents.proofs.finding.call_last.Goals as goal

pub returns-in-len1 : goal.returns-in-len1
returns-in-len1 c =
    c.outer_last.ensures.number ∙ ap (outer_last c.args.tokens.now) c.latest.ensures
    ∙ one_argument c.args.tokens.now c.args.at c.args.found.now c.args.args.now c.in-len1.len_at_least c.in-len1.len_below

pub returns-in-len2-up : goal.returns-in-len2-up
returns-in-len2-up c =
    ap (λ (n : ℕ). n + 1) (c.outer_last-in-len2-up.ensures.number ∙ ap (outer_last c.args.tokens.now) c.latest-in-len2-up.ensures)
    ∙ more_arguments c.args.tokens.now c.args.at c.args.found.now c.args.args.now c.in-len2-up.len_at_least
