use Rattle.std.proofs.Common.{◌∙◌, sym, ap, arith}
use Rattle.cool_lexer.specs.Views.{mark_seen}
use Rattle.cool_lexer.proofs.NestingComments.{over_opening, over_closing, over_plain, mark_within}
use Rattle.cool_lexer.proofs.comment.comment_len.Goals as goal

pub loop-at-preserved-in-Opens : goal.loop-at-preserved-in-Opens
loop-at-preserved-in-Opens c =
    let is = sym c.mark_at.ensures ∙ ap mark_seen c.in-Opens.is in
    record {
      within = mark_within c.args.inside.now c.loop-at.at (λ plain. absurd (cc));
      open_still = omega arith;
      few = omega arith;
      rest = sym (over_opening c.args.inside.now c.loop-at.depth c.loop-at.at is) ∙ c.loop-at.invariant.rest;
    }

pub loop-at-preserved-in-Closes-2 : goal.loop-at-preserved-in-Closes-2
loop-at-preserved-in-Closes-2 c =
    let is = sym c.mark_at.ensures ∙ ap mark_seen c.in-Closes-2.is in
    record {
      within = mark_within c.args.inside.now c.loop-at.at (λ plain. absurd (cc));
      open_still = omega arith;
      few = omega arith;
      rest = sym (over_closing c.args.inside.now c.loop-at.depth c.loop-at.at (omega arith) is) ∙ c.loop-at.invariant.rest;
    }

pub loop-at-preserved : goal.loop-at-preserved
loop-at-preserved c =
    let is = sym c.mark_at.ensures ∙ ap mark_seen c.in-Plain.is in
    record {
      within = omega arith;
      open_still = omega arith;
      few = omega arith;
      rest = sym (over_plain c.args.inside.now c.loop-at.depth c.loop-at.at (omega arith) is) ∙ c.loop-at.invariant.rest;
    }

pub returns-in-Closes-clause-within : goal.returns-in-Closes-clause-within
returns-in-Closes-clause-within c =
    let is = sym c.mark_at.ensures ∙ ap mark_seen c.in-Closes.is in
    mark_within c.args.inside.now c.loop-at.at (λ plain. absurd (cc))
