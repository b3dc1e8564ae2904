use Rattle.std.proofs.Common.{◌≡◌, Err, refl, rules}
use Rattle.std.specs.Fmt.{signed_decimal}
use Rattle.cool_eval.specs.declared.ending.Ending.TheVariants.{WriteFault}
use Rattle.cool_eval.specs.Values.{value_of}
use Rattle.cool_eval.proofs.MethodsAct.{acts_put, cuts_put}
use Rattle.cool_eval.proofs.basic.out_int.Goals as goal

pub returns-in_err-print-clause-acts : goal.returns-in_err-print-clause-acts
returns-in_err-print-clause-acts g c = λ p at store first output input n before.
    let same : c.from_residual-in_err-print.result ≡ Err WriteFault = search rules in
    let text : c.as_bytes.result.now ≡ signed_decimal c.in_ok-shown.shown = search rules in
    rw (same, c.in_ok-one.ensures.one, c.in_ok-shown.ensures) (cuts_put (value_of c.args.me) store first _ _ _ _ output input _ n _ before (rw text at c.in_err-print.ensures.prefix) (rw text at c.in_err-print.ensures.pieces_up_to) refl)

pub returns-clause-acts : goal.returns-clause-acts
returns-clause-acts g c = λ p at store first output input n before.
    let text : c.as_bytes.result.now ≡ signed_decimal c.in_ok-shown.shown = search rules in
    rw (c.in_ok-one.ensures.one, c.in_ok-shown.ensures) (acts_put c.args.me store first _ _ _ _ output input _ n _ before (rw text at c.in_ok-print.ensures.put) (rw text at c.in_ok-print.ensures.pieces) refl)
