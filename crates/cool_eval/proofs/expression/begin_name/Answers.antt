-- If `value_named`, which looks up the value of a name, returns an error, so does `begin_name`: the error ends the run, as `Comes` of `Configurations.antt`
-- defines.
use Rattle.std.proofs.Common.{◌≡◌, Err, rules}
use Rattle.cool_meaning.specs.Evaluation.{value_named}
use Rattle.cool_eval.specs.Values.{value_of}
use Rattle.cool_eval.specs.Configurations.{env_of, frames_of}
use Rattle.cool_eval.proofs.ErrorsEnd.{does_end}
use Rattle.cool_eval.proofs.expression.begin_name.Goals as goal

pub returns-in_err-value_named-clause-comes : goal.returns-in_err-value_named-clause-comes
returns-in_err-value_named-clause-comes c = λ input output.
    let p = c.args.setting.now.table.now in
    let m = c.args.machine.now in
    let e = c.in_err-value_named.field-0.0 in
    let same : c.from_residual.result ≡ Err e = search rules in
    rw same (does_end p e (value_named (value_of c.args.scene.value.me) (env_of p c.args.scene.value) c.args.name.now) (frames_of p m) m input output (rw c.deref.ensures at (c.in_err-value_named.ensures.value input output m.left)))
