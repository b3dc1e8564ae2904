-- `Acts` and `Reaches` are the postconditions of a basic method and of a step of the interpreter on real devices: a source of input and a sink for output,
-- each of which may fail.
use Rattle.std.specs.Prelude.{◌≡◌, ◌⊎◌, ℕ, Bool, true, List, [], ◌++◌, Option, Result, Ok, Err}
use Rattle.cool_ports.specs.Answers.{Past, Leaves}
use Rattle.cool_ports.specs.SinkBytes.{appended, GotPrefix}
use Rattle.cool_ports.specs.SinkPuts.{SinkSeen, seen, pieces_of, PutFront}
use Rattle.cool_classes.specs.Chains.{Class}
use Rattle.cool_meaning.specs.Values as values
use Rattle.cool_meaning.specs.Values.{State}
use Rattle.cool_meaning.specs.Meters.{Outcome, Val, Stop, On, Stuck}
use Rattle.cool_eval.specs.declared.value.Value.{Value}
use Rattle.cool_eval.specs.declared.ending.Ending.{Ending}
use Rattle.cool_eval.specs.declared.ending.Ending.TheVariants as ending
use Rattle.cool_eval.specs.declared.store.Store.{Store}
use Rattle.cool_eval.specs.declared.frame.Focus.{Focus}
use Rattle.cool_eval.specs.declared.machine.Machine.{Machine}
use Rattle.cool_eval.specs.Values.{value_of}
use Rattle.cool_eval.specs.Configurations.{focus_of, frames_of, state_of, error_of}
use Rattle.cool_eval.specs.StackMachine as machine
use Rattle.cool_eval.specs.StackMachine.{Next, Continue, Halt}
use Rattle.cool_eval.specs.Puts.{written_since}

-- the state of a store, an input and an output
abbrev pub state_at : Store → List ℕ → List ℕ → State
state_at store input output = record { store = store.values; input = input; output = output; drawn = store.drawn }

-- A sink before a step, after this output: `first` is what it held before all output, and what it was given to put before the step.
abbrev pub sink_before : SinkSeen → List ℕ → SinkSeen
sink_before first output = seen (appended first.held output) first.puts

-- The sink after the step, when the output is `now`: the bytes that the step wrote were put in pieces.
abbrev pub sink_after : SinkSeen → List ℕ → List ℕ → SinkSeen
sink_after first output now = seen (appended first.held now) (first.puts ++ pieces_of 64 (written_since output now))

-- `holds` is true for each input that the source may have had, of which `rest` is left, and for each output that was put before to a sink that held that of
-- `first`. `ended` says whether the source answered its end before.
abbrev pub OnDevices : Bool → Past → Past → SinkSeen → ((first : SinkSeen) (output input rest : List ℕ) → Type 0) → Type 0
OnDevices ended past past' sink holds =
    (first : SinkSeen) (output input rest : List ℕ) → sink ≡ sink_before first output → Leaves past past' input rest
    → (ended ≡ true → input ≡ [])
    → holds first output input rest

-- at least the input of this state is left
abbrev pub HasLeft : List ℕ → State → Type 0
HasLeft rest s = (kept : List ℕ) × (rest ≡ kept ++ s.input)

-- a prefix of the output up to a state was put, after `output`, to a sink that held `first`
abbrev pub HasPut : Option (List ℕ) → List ℕ → Option (List ℕ) → State → Type 0
HasPut first output held s =
    (printed : List ℕ) × (s.output ≡ output ++ printed) × GotPrefix (appended first output) printed held

-- `HasPut`, and the sink was given the first of the pieces of this output
abbrev pub HasPutSome : SinkSeen → List ℕ → SinkSeen → State → Type 0
HasPutSome first output sink s =
    HasPut first.held output sink.held s × PutFront first.puts (pieces_of 64 (written_since output s.output)) sink.puts

-- the outcome is a value, with so many steps left, and `holds` is true of its state
pub record ToValue (n : ℕ) (o : Outcome values.Value) (holds : State → Type 0) : Type 0 where
  pub value : values.Value
  pub state : State
  pub is : o ≡ Val value state n
  pub there : holds state

-- the machine goes on, with so many steps left, and `holds` is true of its state
pub record ToStep (n : ℕ) (next : Next) (holds : State → Type 0) : Type 0 where
  pub focus : machine.Focus
  pub frames : List machine.Frame
  pub state : State
  pub is : next ≡ Continue focus frames state n
  pub there : holds state

-- The result of a method of a basic class, with the store after it: the outcome, if there was memory and no fault. The sink was that of `first` and
-- `output` before, and is `sink` after it; `rest` is left of `input`. It takes no step. If a read failed or memory ran out, nothing was put; if a write
-- failed, nothing was taken.
abbrev pub Acts : Result Value Ending → Store → SinkSeen → List ℕ → List ℕ → List ℕ → SinkSeen → ℕ
    → Outcome values.Value → Type 0
Acts (Ok v) store first output input rest sink n o =
    (now : List ℕ) × (sink ≡ sink_after first output now) × (o ≡ Val (value_of v) (state_at store rest now) n)
Acts (Err (ending.Error e)) store first output input rest sink n o =
    (now : List ℕ) × (sink ≡ sink_after first output now) × (o ≡ Stop (error_of e) (state_at store rest now))
Acts (Err ending.Stuck) store first output input rest sink n o = o ≡ Stuck
Acts (Err ending.Memory) store first output input rest sink n o =
    (sink ≡ sink_before first output) × ((rest ≡ input) ⊎ ToValue n o (HasLeft rest))
Acts (Err ending.StepLimit) store first output input rest sink n o = ⊥
Acts (Err ending.ReadFault) store first output input rest sink n o =
    (sink ≡ sink_before first output) × ToValue n o (HasLeft rest)
Acts (Err ending.WriteFault) store first output input rest sink n o = (rest ≡ input) × ToValue n o (HasPutSome first output sink)

-- The result of a step, with the machine after it: the next configuration, if there was memory and no fault.
abbrev pub Reaches : List Class → Result Focus Ending → Machine → SinkSeen → List ℕ → List ℕ → List ℕ → SinkSeen
    → Next → Type 0
Reaches p (Ok f) m first output input rest sink next =
    (now : List ℕ) × (sink ≡ sink_after first output now) × (next ≡ Continue (focus_of p f) (frames_of p m) (state_of m rest now) m.left)
Reaches p (Err (ending.Error e)) m first output input rest sink next =
    (now : List ℕ) × (sink ≡ sink_after first output now) × (next ≡ Halt (Stop (error_of e) (state_of m rest now)))
Reaches p (Err ending.StepLimit) m first output input rest sink next =
    (now : List ℕ) × (sink ≡ sink_after first output now) × (next ≡ Halt (On (state_of m rest now)))
Reaches p (Err ending.Stuck) m first output input rest sink next = next ≡ Halt Stuck
Reaches p (Err ending.Memory) m first output input rest sink next =
    (sink ≡ sink_before first output) × ((rest ≡ input) ⊎ ToStep m.left next (HasLeft rest))
Reaches p (Err ending.ReadFault) m first output input rest sink next =
    (sink ≡ sink_before first output) × ToStep m.left next (HasLeft rest)
Reaches p (Err ending.WriteFault) m first output input rest sink next =
    (rest ≡ input) × ToStep m.left next (HasPutSome first output sink)
