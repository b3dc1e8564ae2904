-- `position` finds the first token at a source location: each step of its loop passes one more token that is not at this location.
use Rattle.std.proofs.Common.{◌≡◌, inl, inr, true≢false, false, true, sym, ap, ◌∙◌, arith}
use Rattle.cool_syntax.specs.declared.token.Token.{Token}
use Rattle.cool_session.specs.KeptFaults.{place_of_token}
use Rattle.cool_session.proofs.ChecksAfterEdits.{place_here, before_or_here}
use Rattle.cool_session.proofs.typed.position.Goals as goal

pub loop-i-preserved : goal.loop-i-preserved
loop-i-preserved c = λ k less is.
    elim (before_or_here k c.loop-i.i less) [
      | inl before ↦ c.loop-i.invariant k before is
      | inr here ↦
          let there = place_here c.args.tokens.now c.loop-i.i c.index-tokens-i.result (omega arith) c.index-tokens-i.is in
          let same : false ≡ true = c.if-same_place.ensures.same.1 (sym (ap (λ (t : Token). t.at) c.index-tokens-i.is) ∙ sym (is
          ∙ (ap (place_of_token c.args.tokens.now) here ∙ there))) in
          absurd (true≢false (sym same))
    ]
