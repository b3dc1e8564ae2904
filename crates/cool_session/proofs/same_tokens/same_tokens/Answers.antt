-- `same_tokens` may return false at the first token whose kind differs: lists with the same kinds have the same kind at each position.
use Rattle.std.proofs.Common.{arith, sym, ap, ◌∙◌}
use Rattle.cool_syntax.specs.declared.token.Token.{Token}
use Rattle.cool_syntax.proofs.ComparingLists.{same_at}
use Rattle.cool_session.proofs.same_tokens.same_tokens.Goals as goal

pub returns-then-not-same_kind : goal.returns-then-not-same_kind
returns-then-not-same_kind c = record {
  same = (
    λ e. absurd (cc),
    λ h.
        c.if-not-same_kind.ensures.same.1
        (sym (ap (λ (t : Token). t.kind) c.index-a-i.is)
        ∙ (same_at (λ (t : Token). t.kind) c.args.a.now c.args.b.now c.loop-i.i c.index-a-i.result c.index-b-i.result (omega arith) (omega arith)
        c.index-a-i.is c.index-b-i.is h ∙ ap (λ (t : Token). t.kind) c.index-b-i.is)),
  );
}
