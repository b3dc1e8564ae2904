-- `from` returns an extent whose last token is a given number of tokens behind the last part of the node, with the parentheses around that part.
use Rattle.std.proofs.Common.{ℕ, ◌+◌, ◌∙◌, ap, refl}
use Rattle.cool_extents.specs.FoundExtents.{token_place, latest, outer_last}
use Rattle.cool_extents.proofs.ExtentsMade.{same_extent}
use Rattle.cool_extents.proofs.finding.from.Goals as goal

pub returns : goal.returns
returns c =
    same_extent c.args.at c.token_place.result c.args.at (token_place c.args.tokens.now (outer_last c.args.tokens.now (latest c.args.found.now) + c.args.more)) refl
    (c.token_place.ensures ∙ ap (λ (n : ℕ). token_place c.args.tokens.now (n + c.args.more)) (c.outer_last.ensures.number ∙ ap (outer_last c.args.tokens.now) c.latest.ensures))
