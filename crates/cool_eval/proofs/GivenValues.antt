-- If two computations have the same outcome, the value or error that the interpreter returns for one is also right for the other.
use Rattle.std.proofs.Common.{◌≡◌, ℕ, ℤ, false, Result, Ok, Err, ap, ◌∙◌}
use Rattle.std.specs.Prelude.{if◌then◌else◌, int_div}
use Rattle.cool_syntax.specs.declared.place.Place.{Place}
use Rattle.cool_meaning.specs.Values as values
use Rattle.cool_meaning.specs.Values.{State}
use Rattle.cool_meaning.specs.Meters.{Computation, DivisionByZero, stop}
use Rattle.cool_meaning.specs.Numbers.{is_zero}
use Rattle.cool_meaning.specs.Evaluation.{exact, divide}
use Rattle.cool_eval.specs.declared.value.Value.{Value}
use Rattle.cool_eval.specs.declared.ending.Ending.{Ending}
use Rattle.cool_eval.specs.declared.ending.Ending.TheVariants as ending
use Rattle.cool_eval.specs.Configurations.{IsResultAt, IsResultOf}

-- at one state, and at all
does_same : (r : Result Value Ending) (d d' : Computation values.Value) (s : State) (n : ℕ) → (d' s n).outcome ≡ (d s n).outcome → IsResultAt r d s n → IsResultAt r d' s n
does_same (Ok v) d d' s n is does = is ∙ does
does_same (Err (ending.Error e)) d d' s n is does = is ∙ does
does_same (Err ending.Stuck) d d' s n is does = is ∙ does
does_same (Err ending.Memory) d d' s n is does = tt
does_same (Err ending.StepLimit) d d' s n is does = does
does_same (Err ending.ReadFault) d d' s n is does = does
does_same (Err ending.WriteFault) d d' s n is does = does

pub gives_same : (r : Result Value Ending) (d d' : Computation values.Value) → ((s : State) (n : ℕ) → (d' s n).outcome ≡ (d s n).outcome) → IsResultOf r d → IsResultOf r d'
gives_same r d d' same gives = λ s n. does_same r d d' s n (same s n) (gives s n)

-- division by a divisor that is not 0
pub quotient_is : (at : Place) (m n : ℤ) → is_zero n ≡ false → (s : State) (k : ℕ) → (divide at m n s k).outcome ≡ (exact at (int_div m n) s k).outcome
quotient_is at m n some s k = ap (λ b. ((if b then stop (DivisionByZero at) else exact at (int_div m n)) s k).outcome) some
