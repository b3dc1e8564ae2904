-- `Ended` says how the interpreter's loop of steps ends, by the outcome of evaluating the whole program. `Steps` is the postcondition of one step.
use Rattle.std.specs.Prelude.{◌≡◌, ◌≢◌, ℕ, suc, ◌+◌, ◌<◌, ◌≤◌, List, [], ◌++◌, Option, Some, None, Result, Ok, Err}
use Rattle.cool_ports.specs.SinkBytes.{appended}
use Rattle.cool_ports.specs.SinkPuts.{SinkSeen, PutFront}
use Rattle.cool_classes.specs.Chains.{Class}
use Rattle.cool_meaning.specs.Values as values
use Rattle.cool_meaning.specs.Values.{State, start}
use Rattle.cool_meaning.specs.Meters.{Outcome, Val, Stop, On, Stuck}
use Rattle.cool_meaning.specs.Evaluation.{eval, calls_within}
use Rattle.cool_meaning.specs.SourceRun.{main_call}
use Rattle.cool_eval.specs.declared.ending.Ending.{Ending}
use Rattle.cool_eval.specs.declared.ending.Ending.TheVariants as ending
use Rattle.cool_eval.specs.declared.frame.Focus.{Focus}
use Rattle.cool_eval.specs.declared.machine.Machine.{Machine}
use Rattle.cool_eval.specs.Configurations.{state_of, error_of}
use Rattle.cool_eval.specs.StackMachine.{Next, Halt}
use Rattle.cool_eval.specs.Devices.{HasLeft, HasPut, Reaches, sink_before}
use Rattle.cool_eval.specs.Puts.{steps_puts}

-- the outcome of the whole program on an input, with so many steps
unfoldable pub outcome_of : List Class → List ℕ → ℕ → Outcome values.Value
outcome_of p input n = (eval p (calls_within p n) values.Void [] main_call (start input) n).outcome

-- The result of one step, with the machine after it: none if the value of the whole was returned.
abbrev pub Steps : List Class → Result (Option Focus) Ending → Machine → SinkSeen → List ℕ → List ℕ → List ℕ → SinkSeen
    → Next → Type 0
Steps p (Ok (Some f)) m first output input rest sink next = Reaches p (Ok f) m first output input rest sink next
Steps p (Ok None) m first output input rest sink next =
    (v : values.Value) × (n : ℕ) × (sink ≡ sink_before first output) × (next ≡ Halt (Val v (state_of m rest output) n))
Steps p (Err e) m first output input rest sink next = Reaches p (Err e) m first output input rest sink next

-- the output up to an outcome
abbrev pub output_of : Outcome values.Value → List ℕ
output_of (Val v s n) = s.output
output_of (Stop e s) = s.output
output_of (On s) = s.output
output_of Stuck = []

-- the puts of so many steps, of a program that comes to these outcomes
abbrev pub puts_of : (ℕ → Outcome values.Value) → ℕ → List (List ℕ)
puts_of outcomes n = steps_puts (λ k. output_of (outcomes k)) n

-- with each number of steps a rule applies
abbrev pub IsNeverStuck : (ℕ → Outcome values.Value) → Type 0
IsNeverStuck outcomes = (n : ℕ) → outcomes n ≢ Stuck

-- The program comes to the state `s` with all steps: the output up to it was put, step by step, and its input is left.
pub record IsAt (outcomes : ℕ → Outcome values.Value) (steps : ℕ) (s : State) (start : SinkSeen) (rest : List ℕ) (sink : SinkSeen) : Type 0 where
  pub put : sink.held ≡ appended start.held s.output
  pub puts : IsNeverStuck outcomes → sink.puts ≡ start.puts ++ puts_of outcomes steps
  pub left : rest ≡ s.input

-- `holds` is true of the state of an outcome; if no rule applied, there is no state.
abbrev pub OfState : Outcome values.Value → (State → Type 0) → Type 0
OfState (Val v s n) holds = holds s
OfState (Stop e s) holds = holds s
OfState (On s) holds = holds s
OfState Stuck holds = Unit {0}

-- A read failed: with `spent` steps the program stops before the call that reads, at a state whose output was put, step by step. With one step more, the
-- program leaves no more input than `rest`.
pub record FailsReading (outcomes : ℕ → Outcome values.Value) (steps : ℕ) (start : SinkSeen) (rest : List ℕ) (sink : SinkSeen) : Type 0 where
  pub spent : ℕ
  pub fewer : spent < steps
  pub state : State
  pub stops : outcomes spent ≡ On state
  pub put : sink.held ≡ appended start.held state.output
  pub puts : IsNeverStuck outcomes → sink.puts ≡ start.puts ++ puts_of outcomes spent
  pub taken : List ℕ
  pub left : state.input ≡ taken ++ rest
  pub later : OfState (outcomes (spent + 1)) (HasLeft rest)

-- A write failed: the program stops before the call that writes, and a prefix of the output of one step more was put.
pub record FailsWriting (outcomes : ℕ → Outcome values.Value) (steps : ℕ) (start : SinkSeen) (rest : List ℕ) (sink : SinkSeen) : Type 0 where
  pub spent : ℕ
  pub fewer : spent < steps
  pub state : State
  pub stops : outcomes spent ≡ On state
  pub left : rest ≡ state.input
  pub later : OfState (outcomes (spent + 1)) (HasPut start.held state.output sink.held)
  pub puts : IsNeverStuck outcomes → PutFront start.puts (puts_of outcomes (suc spent)) sink.puts

-- the state has this output, and a part of its input was taken
abbrev pub HasTaken : List ℕ → List ℕ → State → Type 0
HasTaken output rest s = (s.output ≡ output) × ((taken : List ℕ) × (s.input ≡ taken ++ rest))

-- Memory ran out: with `spent` steps the program prints exactly the output that was put. With all steps, it leaves no more input than `rest`.
pub record RunsShort (outcomes : ℕ → Outcome values.Value) (steps : ℕ) (start : SinkSeen) (rest : List ℕ) (sink : SinkSeen) : Type 0 where
  pub spent : ℕ
  pub within : spent ≤ steps
  pub output : List ℕ
  pub put : sink.held ≡ appended start.held output
  pub puts : IsNeverStuck outcomes → sink.puts ≡ start.puts ++ puts_of outcomes spent
  pub stands : OfState (outcomes spent) (HasTaken output rest)
  pub later : OfState (outcomes steps) (HasLeft rest)

-- The end of the loop of steps, for a program with these outcomes and so many steps: the outcome of all steps, or an end within them, if a device failed or
-- memory ran out.
abbrev pub Ended : (ℕ → Outcome values.Value) → ℕ → SinkSeen → Result (Unit {0}) Ending → List ℕ → SinkSeen → Type 0
Ended outcomes steps start (Ok x) rest sink =
    (v : values.Value) × (s : State) × (n : ℕ) × (outcomes steps ≡ Val v s n) × IsAt outcomes steps s start rest sink
Ended outcomes steps start (Err (ending.Error e)) rest sink =
    (s : State) × (outcomes steps ≡ Stop (error_of e) s) × IsAt outcomes steps s start rest sink
Ended outcomes steps start (Err ending.StepLimit) rest sink = (s : State) × (outcomes steps ≡ On s) × IsAt outcomes steps s start rest sink
Ended outcomes steps start (Err ending.Stuck) rest sink = outcomes steps ≡ Stuck
Ended outcomes steps start (Err ending.ReadFault) rest sink = FailsReading outcomes steps start rest sink
Ended outcomes steps start (Err ending.WriteFault) rest sink = FailsWriting outcomes steps start rest sink
Ended outcomes steps start (Err ending.Memory) rest sink = RunsShort outcomes steps start rest sink
