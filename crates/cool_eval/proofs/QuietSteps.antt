-- A step or a basic method that uses neither input nor output has its specified effect over a source and a sink that stay the same.
use Rattle.std.proofs.Common.{◌≡◌, ℕ, ◌+◌, Bool, List, Option, Some, Result, Ok, Err, inl, inr, refl, sym, ap, subst, arith}
use Rattle.std.specs.Prelude.{◌⊎◌, IfErr}
use Rattle.cool_ports.specs.Answers.{Past}
use Rattle.cool_ports.specs.SinkPuts.{SinkSeen}
use Rattle.cool_syntax.specs.declared.place.Place.{Place}
use Rattle.cool_classes.specs.declared.method.BasicMethod.{BasicMethod}
use Rattle.cool_classes.specs.declared.method.MethodRef.{MethodRef}
use Rattle.cool_classes.specs.declared.method.MethodRef.TheVariants.{Basic}
use Rattle.cool_classes.specs.Chains.{Class}
use Rattle.cool_meaning.specs.Values as values
use Rattle.cool_meaning.specs.Values.{State}
use Rattle.cool_meaning.specs.Meters.{Outcome}
use Rattle.cool_meaning.specs.BasicMethods.{basic}
use Rattle.cool_eval.specs.declared.value.Value.{Value}
use Rattle.cool_eval.specs.declared.ending.Ending.{Ending}
use Rattle.cool_eval.specs.declared.ending.Ending.TheVariants as ending
use Rattle.cool_eval.specs.declared.frame.Focus.{Focus}
use Rattle.cool_eval.specs.declared.frame.Focus.TheVariants as focus
use Rattle.cool_eval.specs.declared.store.Store.{Store}
use Rattle.cool_eval.specs.declared.machine.Machine.{Machine}
use Rattle.cool_eval.specs.Configurations.{Comes, frames_of}
use Rattle.cool_eval.specs.Counts.{Counted, FaultsInCalls, IsInner}
use Rattle.cool_eval.specs.Devices.{OnDevices, Reaches, Acts, HasLeft, HasPutSome, ToValue, ToStep, sink_before, state_at}
use Rattle.cool_eval.specs.StackMachine.{Frame, Return, Next, after, begin_call}
use Rattle.cool_ports.proofs.InputsInParts.{leaves_same}
use Rattle.cool_eval.proofs.PutsOfSteps.{sink_still}

-- the result, with the sink as it was
pub comes_reach : (p : List Class) (r : Result Focus Ending) (m : Machine) (first : SinkSeen) (output input : List ℕ)
    (next : Next)
    → IfErr r IsInner → Comes p r m input output next → Reaches p r m first output input input (sink_before first output) next
comes_reach p (Ok f) m first output input next inner is = (output, sink_still first output, is)
comes_reach p (Err (ending.Error e)) m first output input next inner is = (output, sink_still first output, is)
comes_reach p (Err ending.StepLimit) m first output input next inner is = (output, sink_still first output, is)
comes_reach p (Err ending.Stuck) m first output input next inner is = is
comes_reach p (Err ending.Memory) m first output input next inner is = (refl, inl refl)
comes_reach p (Err ending.ReadFault) m first output input next inner is = absurd is
comes_reach p (Err ending.WriteFault) m first output input next inner is = absurd is

-- so it is whatever the source and the sink had
pub quiet_reaches : (p : List Class) (r : Result Focus Ending) (m : Machine) (ended : Bool) (past : Past)
    (sink : SinkSeen) (next : List ℕ → List ℕ → Next)
    → IfErr r IsInner → ((input output : List ℕ) → Comes p r m input output (next input output))
    → OnDevices ended past past sink (λ first output input rest. Reaches p r m first output input rest sink (next input output))
quiet_reaches p r m ended past sink next inner comes first output input rest put leaves at_end =
    rw (put, leaves_same past input rest leaves) (comes_reach p r m first output input (next input output) inner (comes input output))

-- no count rose
pub quiet_counts : {A : Type 0} (r : Result A Ending) (source sink : ℕ) → IfErr r IsInner → Counted r source source sink sink
quiet_counts (Err ending.ReadFault) source sink inner = absurd inner
quiet_counts (Err ending.WriteFault) source sink inner = absurd inner
quiet_counts _ source sink inner = (refl, refl)

-- no fault comes
pub quiet_faults : {A : Type 0} (r : Result A Ending) (left left' : ℕ) → IfErr r IsInner → FaultsInCalls r left left'
quiet_faults (Err ending.ReadFault) left left' inner = absurd inner
quiet_faults (Err ending.WriteFault) left left' inner = absurd inner
quiet_faults _ left left' inner = tt

-- the fault counts after a step was spent
pub spent_faults : {A : Type 0} (r : Result A Ending) (left mid left' : ℕ) → left ≡ mid + 1 → left' ≡ mid
    → FaultsInCalls r left left'
spent_faults (Err ending.ReadFault) left mid left' spent same = omega (arith, spent, same)
spent_faults (Err ending.WriteFault) left mid left' spent same = omega (arith, spent, same)
spent_faults _ left mid left' spent same = tt

-- the next action, with equal descriptions
pub reaches_same : (p : List Class) (r : Result Focus Ending) (m : Machine) (ended : Bool) (past past' : Past)
    (sink sink' : SinkSeen) (next next' : List ℕ → List ℕ → Next)
    → ((input output : List ℕ) → next' input output ≡ next input output)
    → OnDevices ended past past' sink (λ first output input rest. Reaches p r m first output input rest sink' (next input output))
    → OnDevices ended past past' sink (λ first output input rest. Reaches p r m first output input rest sink' (next' input output))
reaches_same p r m ended past past' sink sink' next next' same reaches first output input rest put leaves at_end =
    subst (λ (k : Next). Reaches p r m first output input rest sink' k) (sym (same input output)) (reaches first output input rest put leaves at_end)

-- Methods of basic classes

-- an answer of theirs as that of a step
abbrev pub returned_as : Result Value Ending → Result Focus Ending
returned_as (Ok v) = Ok (focus.Return v)
returned_as (Err e) = Err e

value_reaches : (n : ℕ) (o : Outcome values.Value) (fs : List Frame) (holds : State → Type 0) → ToValue n o holds
    → ToStep n (after o fs) holds
unfolding after
value_reaches n o fs holds v =
    record { focus = Return v.value; frames = fs; state = v.state; is = ap (λ (r : Outcome values.Value). after r fs) v.is; there = v.there }

short_reaches : (n : ℕ) (input rest : List ℕ) (o : Outcome values.Value) (fs : List Frame) → (rest ≡ input)
    ⊎ ToValue n o (HasLeft rest) → (rest ≡ input) ⊎ ToStep n (after o fs) (HasLeft rest)
short_reaches n input rest o fs (inl same) = inl same
short_reaches n input rest o fs (inr v) = inr (value_reaches n o fs (HasLeft rest) v)

acts_reach : (p : List Class) (r : Result Value Ending) (m : Machine) (first : SinkSeen) (output input rest : List ℕ)
    (sink : SinkSeen) (o : Outcome values.Value) → Acts r m.store first output input rest sink m.left o
    → Reaches p (returned_as r) m first output input rest sink (after o (frames_of p m))
unfolding after
acts_reach p (Ok v) m first output input rest sink o (now, put, is) =
    (now, put, ap (λ (r : Outcome values.Value). after r (frames_of p m)) is)
acts_reach p (Err (ending.Error e)) m first output input rest sink o (now, put, is) =
    (now, put, ap (λ (r : Outcome values.Value). after r (frames_of p m)) is)
acts_reach p (Err ending.Stuck) m first output input rest sink o is =
    ap (λ (r : Outcome values.Value). after r (frames_of p m)) is
acts_reach p (Err ending.Memory) m first output input rest sink o (put, more) =
    (put, short_reaches m.left input rest o (frames_of p m) more)
acts_reach p (Err ending.StepLimit) m first output input rest sink o is = absurd is
acts_reach p (Err ending.ReadFault) m first output input rest sink o (put, v) =
    (put, value_reaches m.left o (frames_of p m) (HasLeft rest) v)
acts_reach p (Err ending.WriteFault) m first output input rest sink o (left, v) =
    (left, value_reaches m.left o (frames_of p m) (HasPutSome first output sink) v)

-- a method of a basic class is begun and ends
pub basic_reaches : (p : List Class) (r : Result Value Ending) (r' : Result Focus Ending) (m : Machine) (ended : Bool)
    (past past' : Past) (sink sink' : SinkSeen) (at : Place) (v : values.Value) (vs : List values.Value)
    (b : BasicMethod) (o : Option MethodRef) (store : Store)
    → Some (Basic b) ≡ o → r' ≡ returned_as r
    → OnDevices ended past past' sink (λ first output input rest. (n : ℕ) → Acts r m.store first output input rest sink' n (basic p b at v vs (state_at store input output) n).outcome)
    → OnDevices ended past past' sink (λ first output input rest. Reaches p r' m first output input rest sink' (begin_call p at v vs o (frames_of p m) (state_at store input output) m.left))
unfolding begin_call
basic_reaches p r r' m ended past past' sink sink' at v vs b o store is same acts first output input rest put leaves at_end =
    subst (λ (q : Result Focus Ending). Reaches p q m first output input rest sink' (begin_call p at v vs o (frames_of p m) (state_at store input output) m.left)) (sym same)
    (subst (λ (q : Option MethodRef). Reaches p (returned_as r) m first output input rest sink' (begin_call p at v vs q (frames_of p m) (state_at store input output) m.left)) is
    (acts_reach p r m first output input rest sink' (basic p b at v vs (state_at store input output) m.left).outcome (acts first output input rest put leaves at_end m.left)))
