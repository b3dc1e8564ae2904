-- `typed` returns a type error (fault) with the position that `position` finds: the token at this position is at the source location of the error.
use Rattle.std.proofs.Common.{subst}
use Rattle.cool_check.specs.FirstFaults.{IsFirst}
use Rattle.cool_check.specs.TypingFaults.{feature_checked}
use Rattle.cool_session.proofs.ChecksAfterEdits.{kept_where_found}
use Rattle.cool_session.proofs.FaultsAfterEdits.{some_kept}
use Rattle.cool_session.proofs.typed.typed.Goals as goal

pub returns-in-Err-Fault-clause-kept : goal.returns-in-Err-Fault-clause-kept
returns-in-Err-Fault-clause-kept g c = λ x there is.
    kept_where_found c.args.tokens.now (feature_checked c.args.t.now c.args.id.class x) c.in-Err-Fault.fault c.position.result
    (subst (IsFirst (feature_checked c.args.t.now c.args.id.class x)) c.in-Err-Fault.field-0-is
    (c.in-Err-Fault.ensures.first x there))
    (some_kept c.args.t.now c.args.id.class x c.args.tokens.now is.parses is.file 0 is.rising) c.position.ensures.within c.position.ensures.found
