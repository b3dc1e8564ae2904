-- If a computation within a step results in an error, the step ends the run with this error, as `Comes` of `Configurations.antt` defines.
use Rattle.std.proofs.Common.{ℕ, List, Err, ap}
use Rattle.cool_classes.specs.Chains.{Class}
use Rattle.cool_meaning.specs.Values as values
use Rattle.cool_meaning.specs.Meters.{Outcome, Computation}
use Rattle.cool_eval.specs.declared.ending.Ending.{Ending}
use Rattle.cool_eval.specs.declared.ending.Ending.TheVariants as ending
use Rattle.cool_eval.specs.declared.machine.Machine.{Machine}
use Rattle.cool_eval.specs.Configurations.{state_of, Comes, IsResultAt}
use Rattle.cool_eval.specs.StackMachine.{Frame, after}

-- an error is the end
pub does_end : (p : List Class) (e : Ending) (d : Computation values.Value) (fs : List Frame) (m : Machine) (input output : List ℕ)
    → IsResultAt (Err e) d (state_of m input output) m.left → Comes p (Err e) m input output (after (d (state_of m input output) m.left).outcome fs)
unfolding after
does_end p (ending.Error e) d fs m input output is = ap (λ (o : Outcome values.Value). after o fs) is
does_end p ending.Stuck d fs m input output is = ap (λ (o : Outcome values.Value). after o fs) is
does_end p ending.Memory d fs m input output is = tt
does_end p ending.StepLimit d fs m input output is = absurd is
does_end p ending.ReadFault d fs m input output is = absurd is
does_end p ending.WriteFault d fs m input output is = absurd is
