-- Postconditions of the functions that implement the methods of the basic classes: `TookLine` for reading a line, and `ActsOnSink` and `ActsOnSource` for the
-- effects on the devices.
use Rattle.std.specs.Prelude.{◌≡◌, ℕ, Bool, List, [], ◌∷◌, ◌++◌, Result, Ok, Err}
use denote.Ref.{Bor}
use Rattle.std.proofs.Common.{Vec}
use Rattle.cool_ports.specs.Answers.{Past}
use Rattle.cool_ports.specs.SinkPuts.{SinkSeen}
use Rattle.cool_meaning.specs.Values as values
use Rattle.cool_meaning.specs.Meters.{Outcome, Computation, Val, Stop, Stuck}
use Rattle.cool_meaning.specs.BasicMethods.{as_string, one, two, line_of}
use Rattle.cool_eval.specs.declared.value.Value.{Value}
use Rattle.cool_eval.specs.declared.ending.Ending.{Ending}
use Rattle.cool_eval.specs.declared.ending.Ending.TheVariants as ending
use Rattle.cool_eval.specs.declared.store.Store.{Store}
use Rattle.cool_eval.specs.Values.{value_of}
use Rattle.cool_eval.specs.Configurations.{error_of}
use Rattle.cool_eval.specs.Devices.{Acts, OnDevices, sink_before, state_at}

-- the bytes of a value that is a string
abbrev pub IsStringOf : Result (Bor (List ℕ)) Ending → values.Value → Type 0
IsStringOf (Ok bytes) v = v ≡ values.Str bytes.now
IsStringOf (Err ending.Stuck) v = (s : values.State) (n : ℕ) → (as_string v s n).outcome ≡ Stuck
IsStringOf (Err (ending.Error e)) v = ⊥
IsStringOf (Err ending.Memory) v = ⊥
IsStringOf (Err ending.StepLimit) v = ⊥
IsStringOf (Err ending.ReadFault) v = ⊥
IsStringOf (Err ending.WriteFault) v = ⊥

-- the one argument of a call
abbrev pub IsOne : Result (Bor Value) Ending → List values.Value → Type 0
IsOne (Ok v) vs = vs ≡ value_of v.now ∷ []
IsOne (Err ending.Stuck) vs = (s : values.State) (n : ℕ) → (one vs s n).outcome ≡ Stuck
IsOne (Err (ending.Error e)) vs = ⊥
IsOne (Err ending.Memory) vs = ⊥
IsOne (Err ending.StepLimit) vs = ⊥
IsOne (Err ending.ReadFault) vs = ⊥
IsOne (Err ending.WriteFault) vs = ⊥

-- the two arguments of a call
abbrev pub AreTwo : Result (Bor Value × Bor Value) Ending → List values.Value → Type 0
AreTwo (Ok (v, w)) vs = vs ≡ value_of v.now ∷ value_of w.now ∷ []
AreTwo (Err ending.Stuck) vs = (s : values.State) (n : ℕ) → (two vs s n).outcome ≡ Stuck
AreTwo (Err (ending.Error e)) vs = ⊥
AreTwo (Err ending.Memory) vs = ⊥
AreTwo (Err ending.StepLimit) vs = ⊥
AreTwo (Err ending.ReadFault) vs = ⊥
AreTwo (Err ending.WriteFault) vs = ⊥

-- a line was taken from an input, of which a rest is left; where a take failed, or memory ran out, at least what the line leaves
abbrev pub TookLine : {A : Type 0} → Result (Vec ℕ A) Ending → List ℕ → List ℕ → Type 0
TookLine (Ok line) input rest = line_of input ≡ record { bytes = line.items; rest = rest }
TookLine (Err ending.ReadFault) input rest = (kept : List ℕ) × (rest ≡ kept ++ (line_of input).rest)
TookLine (Err ending.Memory) input rest = (kept : List ℕ) × (rest ≡ kept ++ (line_of input).rest)
TookLine (Err (ending.Error e)) input rest = ⊥
TookLine (Err ending.Stuck) input rest = ⊥
TookLine (Err ending.StepLimit) input rest = ⊥
TookLine (Err ending.WriteFault) input rest = ⊥

-- The value or the error, with this store and no step taken, and with the same input and output, is this outcome, unless memory ran out.
abbrev pub Makes : Result Value Ending → Store → List ℕ → List ℕ → ℕ → Outcome values.Value → Type 0
Makes (Ok v) store input output n o = o ≡ Val (value_of v) (state_at store input output) n
Makes (Err (ending.Error e)) store input output n o = o ≡ Stop (error_of e) (state_at store input output)
Makes (Err ending.Stuck) store input output n o = o ≡ Stuck
Makes (Err ending.Memory) store input output n o = Unit {0}
Makes (Err ending.StepLimit) store input output n o = ⊥
Makes (Err ending.ReadFault) store input output n o = ⊥
Makes (Err ending.WriteFault) store input output n o = ⊥

-- The effect on a sink of a method that leaves source and store unchanged: this computation, in each state.
abbrev pub ActsOnSink : Result Value Ending → SinkSeen → SinkSeen → Computation values.Value → Type 0
ActsOnSink r sink sink' d =
    (store : Store) (first : SinkSeen) (output input : List ℕ) (n : ℕ) → sink ≡ sink_before first output → Acts r store first output input input sink' n (d (state_at store input output) n).outcome

-- The effect on a source of a method that leaves sink and store unchanged.
abbrev pub ActsOnSource : Result Value Ending → Bool → Past → Past → Computation values.Value → Type 0
ActsOnSource r ended past past' d =
    (store : Store) (sink : SinkSeen) → OnDevices ended past past' sink (λ first output input rest. (n : ℕ) → Acts r store first output input rest sink n (d (state_at store input output) n).outcome)
