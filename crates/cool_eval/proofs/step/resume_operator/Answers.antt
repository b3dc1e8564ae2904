-- If `negate`, `operate` or `compare` returns an error, so does `resume_operator`: the error ends the run, as `Comes` of `Configurations.antt` defines.
use Rattle.std.proofs.Common.{◌≡◌, Err, rules}
use Rattle.cool_meaning.specs.Evaluation.{compare}
use Rattle.cool_eval.specs.Values.{value_of}
use Rattle.cool_eval.specs.Configurations.{frames_of, state_of}
use Rattle.cool_eval.specs.StackMachine.{negated, operated, returned}
use Rattle.cool_eval.proofs.ErrorsEnd.{does_end}
use Rattle.cool_eval.proofs.step.resume_operator.Goals as goal

pub returns-in_err-negate-in-Negate-clause-comes : goal.returns-in_err-negate-in-Negate-clause-comes
unfolding returned
returns-in_err-negate-in-Negate-clause-comes c = λ p input output.
    let m = c.args.machine.now in
    let e = c.in_err-negate-in-Negate.field-0.0 in
    let same : c.from_residual.result ≡ Err e = search rules in
    rw (same, c.in-Negate.is) (does_end p e (negated c.in-Negate.at (value_of c.args.value)) (frames_of p m) m input output (c.in_err-negate-in-Negate.ensures.value (state_of m input output) m.left))

pub returns-in_err-operate-in-Operate-clause-comes : goal.returns-in_err-operate-in-Operate-clause-comes
unfolding returned
returns-in_err-operate-in-Operate-clause-comes c = λ p input output.
    let m = c.args.machine.now in
    let e = c.in_err-operate-in-Operate.field-0.0 in
    let same : c.from_residual-in_err-operate-in-Operate.result ≡ Err e = search rules in
    rw (same, c.in-Operate.is)
    (does_end p e (operated c.in-Operate.op c.in-Operate.at (value_of c.in-Operate.left) (value_of c.args.value)) (frames_of p m) m input output (c.in_err-operate-in-Operate.ensures.value (state_of m input output) m.left))

pub returns-in_err-compare-in-CompareTo-clause-comes : goal.returns-in_err-compare-in-CompareTo-clause-comes
unfolding returned
returns-in_err-compare-in-CompareTo-clause-comes c = λ p input output.
    let m = c.args.machine.now in
    let e = c.in_err-compare-in-CompareTo.field-0.0 in
    let same : c.from_residual-in_err-compare-in-CompareTo.result ≡ Err e = search rules in
    rw (same, c.in-CompareTo.is)
    (does_end p e (compare c.in-CompareTo.op (value_of c.in-CompareTo.left) (value_of c.args.value)) (frames_of p m) m input output (c.in_err-compare-in-CompareTo.ensures.value (state_of m input output) m.left))
