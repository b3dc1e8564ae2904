-- `known` may call `fault_list`, because the results in a stored check (base) are those of the features of its tokens.
use Rattle.std.proofs.Common.{List, sym, subst}
use Rattle.cool_lexer.specs.declared.lexer.Lexed.{Lexed}
use Rattle.cool_session.specs.KeptChecks.{AreKeptAmong}
use Rattle.cool_session.proofs.KeptAmong.{kept_among}
use Rattle.cool_session.proofs.known.known.Goals as goal

pub fault_list-requires-clause-kept : goal.fault_list-requires-clause-kept
fault_list-requires-clause-kept c =
    let base = c.args.base.now in
    subst (λ (ls : List Lexed). AreKeptAmong ls c.as_slice-2.result.now) (sym c.as_slice.ensures.value)
    (subst (AreKeptAmong base.untyped.lexed.items) (sym c.as_slice-2.ensures.value)
    (kept_among base.untyped base.faults.items base.kept))
