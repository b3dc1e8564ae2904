-- Calls and single steps of the interpreter have their specified effects on an input and an output device (`Acts` and `Reaches` of Devices.antt).
use Rattle.std.proofs.Common.{◌≡◌, ℕ, ◌+◌, Bool, List, [], ◌∷◌, ◌++◌, Option, Some, None, Result, Ok, Err, Vec, sym, ◌∙◌, ap, subst}
use Rattle.std.specs.Prelude.{IfErr}
use Rattle.cool_ports.specs.Answers.{Past}
use Rattle.cool_ports.specs.SinkPuts.{SinkSeen}
use Rattle.cool_ports.proofs.InputsInParts.{leaves_same}
use Rattle.cool_syntax.specs.declared.place.Place.{Place}
use Rattle.cool_syntax.specs.Tree.{Tree}
use Rattle.cool_classes.specs.declared.class_id.ClassId.{ClassId}
use Rattle.cool_classes.specs.declared.method.AttributeRef.{AttributeRef}
use Rattle.cool_classes.specs.declared.method.MethodRef.{MethodRef}
use Rattle.cool_classes.specs.declared.method.MethodRef.TheVariants.{User}
use Rattle.cool_classes.specs.Chains.{Class}
use Rattle.cool_classes.specs.ClimbedChains.{chain}
use Rattle.cool_classes.specs.Features.{implementation}
use Rattle.cool_meaning.specs.Values.{Value, State, Environment, class_of}
use Rattle.cool_meaning.specs.Lookups.{method_at}
use Rattle.cool_meaning.specs.Meters.{Val, On, Stuck}
use Rattle.cool_eval.specs.declared.ending.Ending.{Ending}
use Rattle.cool_eval.specs.declared.ending.Ending.TheVariants as ending
use Rattle.cool_eval.specs.declared.ending.RunError.TheVariants.{DispatchVoid}
use Rattle.cool_eval.specs.declared.frame.Frame.{Frame}
use Rattle.cool_eval.specs.declared.frame.Focus.{Focus}
use Rattle.cool_eval.specs.declared.store.Store.{Store}
use Rattle.cool_eval.specs.declared.machine.Machine.{Machine}
use Rattle.cool_eval.specs.Configurations.{frame_of, stack_of, frames_of, state_of, Comes}
use Rattle.cool_eval.specs.Counts.{IsInner}
use Rattle.cool_eval.specs.Devices.{OnDevices, Reaches, state_at}
use Rattle.cool_eval.specs.StackMachine as machine
use Rattle.cool_eval.specs.StackMachine.{Next, Halt, Return, begin_call, begin_method, call_class, class_called, returned, begun, start_values, step}
use Rattle.cool_eval.specs.Running.{Steps}
use Rattle.cool_eval.proofs.MethodsCalled.{void_called, unfound_called, limit_called, class_called_on, none_begun, user_begun}
use Rattle.cool_eval.proofs.Stacks.{stack_more}
use Rattle.cool_eval.proofs.QuietSteps.{quiet_reaches, reaches_same}

-- Calls

-- a call on void
pub void_reaches : (p : List Class) (m : Machine) (past : Past) (sink : SinkSeen) (at : Place) (class : Option (List ℕ)) (name : List ℕ) (v : Value) (vs : List Value) → class_of v ≡ None
    → OnDevices m.ended past past sink (λ first output input rest. Reaches p (Err (ending.Error (DispatchVoid at))) m first output input rest sink (call_class p at name v vs (class_called p at class v (state_of m input output) m.left).outcome (frames_of p m)))
void_reaches p m past sink at class name v vs none =
    quiet_reaches p (Err (ending.Error (DispatchVoid at))) m m.ended past sink (λ input output. call_class p at name v vs (class_called p at class v (state_of m input output) m.left).outcome (frames_of p m)) tt
    (λ input output. void_called p at class name v vs (frames_of p m) (state_of m input output) m.left none)

-- a call on a class that there is not
pub unfound_reaches : (p : List Class) (m : Machine) (past : Past) (sink : SinkSeen) (at : Place) (class : Option (List ℕ)) (name : List ℕ) (v : Value) (vs : List Value)
    → ((s : State) (n : ℕ) → (class_called p at class v s n).outcome ≡ Stuck)
    → OnDevices m.ended past past sink (λ first output input rest. Reaches p (Err ending.Stuck) m first output input rest sink (call_class p at name v vs (class_called p at class v (state_of m input output) m.left).outcome (frames_of p m)))
unfound_reaches p m past sink at class name v vs stuck =
    quiet_reaches p (Err ending.Stuck) m m.ended past sink (λ input output. call_class p at name v vs (class_called p at class v (state_of m input output) m.left).outcome (frames_of p m)) tt
    (λ input output. unfound_called p at name v vs (state_of m input output) m.left (class_called p at class v (state_of m input output) m.left).outcome (frames_of p m) (stuck (state_of m input output) m.left))

-- a call with no step left
pub limit_reaches : (p : List Class) (m m' : Machine) (past : Past) (sink : SinkSeen) (at : Place) (class : Option (List ℕ)) (name : List ℕ) (v : Value) (vs : List Value) (c : ClassId) (r : Result Focus Ending)
    → r ≡ Err ending.StepLimit → m'.store ≡ m.store → m.left ≡ 0 → ((s : State) (n : ℕ) → (class_called p at class v s n).outcome ≡ Val c s n)
    → OnDevices m.ended past past sink (λ first output input rest. Reaches p r m' first output input rest sink (call_class p at name v vs (class_called p at class v (state_of m input output) m.left).outcome (frames_of p m)))
limit_reaches p m m' past sink at class name v vs c r end same none is =
    rw end (quiet_reaches p (Err ending.StepLimit) m' m.ended past sink (λ input output. call_class p at name v vs (class_called p at class v (state_of m input output) m.left).outcome (frames_of p m)) tt
    (λ input output.
    limit_called p at name v vs (state_of m input output) m.left c (class_called p at class v (state_of m input output) m.left).outcome (frames_of p m) (is (state_of m input output) m.left) none
    ∙ ap (λ (store : Store). Halt (On (state_at store input output))) (sym same)))

-- a call that spends a step
pub spent_reaches : (p : List Class) (r : Result Focus Ending) (m mid m' : Machine) (past past' : Past) (sink sink' : SinkSeen) (at : Place) (class : Option (List ℕ)) (name : List ℕ) (v : Value) (vs : List Value) (c : ClassId) (o : Option MethodRef)
    → o ≡ implementation p (chain p c) name → mid.frames ≡ m.frames → mid.store ≡ m.store → mid.ended ≡ m.ended → m.left ≡ mid.left + 1 → ((s : State) (n : ℕ) → (class_called p at class v s n).outcome ≡ Val c s n)
    → OnDevices mid.ended past past' sink (λ first output input rest. Reaches p r m' first output input rest sink' (begin_call p at v vs o (frames_of p mid) (state_of mid input output) mid.left))
    → OnDevices m.ended past past' sink (λ first output input rest. Reaches p r m' first output input rest sink' (call_class p at name v vs (class_called p at class v (state_of m input output) m.left).outcome (frames_of p m)))
spent_reaches p r m mid m' past past' sink sink' at class name v vs c o found frames store ended spent is reaches first output input rest put leaves at_end =
    let seen : frames_of p mid ≡ frames_of p m = ap (λ (fs : Vec Frame _). stack_of p fs.items) frames in
    let same : call_class p at name v vs (class_called p at class v (state_of m input output) m.left).outcome (frames_of p m) ≡ begin_call p at v vs o (frames_of p mid) (state_of mid input output) mid.left =
    class_called_on p at name v vs (state_of m input output) m.left mid.left c (class_called p at class v (state_of m input output) m.left).outcome (frames_of p m) (is (state_of m input output) m.left) spent
    ∙ ap (λ (fs : List machine.Frame). begin_call p at v vs (implementation p (chain p c) name) fs (state_of m input output) mid.left) (sym seen)
    ∙ ap (λ (st : Store). begin_call p at v vs (implementation p (chain p c) name) (frames_of p mid) (state_at st input output) mid.left) (sym store)
    ∙ ap (λ (q : Option MethodRef). begin_call p at v vs q (frames_of p mid) (state_of mid input output) mid.left) (sym found) in
    subst (λ (k : Next). Reaches p r m' first output input rest sink' k) (sym same) (reaches first output input rest put leaves (λ e. at_end (sym ended ∙ e)))

-- the case that the class has no such method
pub none_reaches : (p : List Class) (m : Machine) (past : Past) (sink : SinkSeen) (at : Place) (v : Value) (vs : List Value) (o : Option MethodRef) → None ≡ o
    → OnDevices m.ended past past sink (λ first output input rest. Reaches p (Err ending.Stuck) m first output input rest sink (begin_call p at v vs o (frames_of p m) (state_of m input output) m.left))
none_reaches p m past sink at v vs o none =
    quiet_reaches p (Err ending.Stuck) m m.ended past sink (λ input output. begin_call p at v vs o (frames_of p m) (state_of m input output) m.left) tt
    (λ input output. none_begun p at v vs o (frames_of p m) (state_of m input output) m.left none)

-- a method of the program
pub user_reaches : (p : List Class) (r : Result Focus Ending) (m m' : Machine) (past : Past) (sink : SinkSeen) (at : Place) (v : Value) (vs : List Value) (o : Option MethodRef) (owner : ClassId) (k : ℕ)
    → Some (User owner k) ≡ o → IfErr r IsInner → ((input output : List ℕ) → Comes p r m' input output (begin_method p v vs (method_at p owner k) (frames_of p m) (state_of m input output) m.left))
    → OnDevices m.ended past past sink (λ first output input rest. Reaches p r m' first output input rest sink (begin_call p at v vs o (frames_of p m) (state_of m input output) m.left))
user_reaches p r m m' past sink at v vs o owner k is inner comes =
    reaches_same p r m' m.ended past past sink sink (λ input output. begin_method p v vs (method_at p owner k) (frames_of p m) (state_of m input output) m.left) (λ input output. begin_call p at v vs o (frames_of p m) (state_of m input output) m.left)
    (λ input output. user_begun p at v vs o owner k (frames_of p m) (state_of m input output) m.left is)
    (quiet_reaches p r m' m.ended past sink (λ input output. begin_method p v vs (method_at p owner k) (frames_of p m) (state_of m input output) m.left) inner comes)

-- Values that come to a call

-- a receiver comes
pub receiver_reaches : (p : List Class) (r : Result Focus Ending) (m m' : Machine) (f : machine.Frame) (past past' : Past) (sink sink' : SinkSeen) (v : Value) (at : Place) (class : Option (List ℕ)) (name : List ℕ) (vs : List Value)
    → f ≡ machine.Receiver at class name vs
    → OnDevices m.ended past past' sink (λ first output input rest. Reaches p r m' first output input rest sink' (call_class p at name v vs (class_called p at class v (state_of m input output) m.left).outcome (frames_of p m)))
    → OnDevices m.ended past past' sink (λ first output input rest. Reaches p r m' first output input rest sink' (returned p f v (frames_of p m) (state_of m input output) m.left))
unfolding returned
receiver_reaches p r m m' f past past' sink sink' v at class name vs is reaches =
    reaches_same p r m' m.ended past past' sink sink' (λ input output. call_class p at name v vs (class_called p at class v (state_of m input output) m.left).outcome (frames_of p m)) (λ input output. returned p f v (frames_of p m) (state_of m input output) m.left)
    (λ input output. ap (λ (g : machine.Frame). returned p g v (frames_of p m) (state_of m input output) m.left) is) reaches

-- Single steps

-- the next action, if there is one
abbrev pub found : Result Focus Ending → Result (Option Focus) Ending
found (Ok f) = Ok (Some f)
found (Err e) = Err e

step_found : (p : List Class) (r : Result Focus Ending) (m : Machine) (first : SinkSeen) (output input rest : List ℕ) (sink : SinkSeen) (next : Next) → Reaches p r m first output input rest sink next → Steps p (found r) m first output input rest sink next
step_found p (Ok f) m first output input rest sink next h = h
step_found p (Err e) m first output input rest sink next h = h

step_reaches : (p : List Class) (r : Result Focus Ending) (r' : Result (Option Focus) Ending) (m : Machine) (ended : Bool) (past past' : Past) (sink sink' : SinkSeen) (next next' : List ℕ → List ℕ → Next)
    → r' ≡ found r → ((input output : List ℕ) → next' input output ≡ next input output) → OnDevices ended past past' sink (λ first output input rest. Reaches p r m first output input rest sink' (next input output))
    → OnDevices ended past past' sink (λ first output input rest. Steps p r' m first output input rest sink' (next' input output))
step_reaches p r r' m ended past past' sink sink' next next' is same reaches first output input rest put leaves at_end =
    subst (λ (q : Result (Option Focus) Ending). Steps p q m first output input rest sink' (next' input output)) (sym is)
    (step_found p r m first output input rest sink' (next' input output) (reaches_same p r m ended past past' sink sink' next next' same reaches first output input rest put leaves at_end))

-- an expression is begun
pub begin_steps : (p : List Class) (f : machine.Focus) (v : Value) (env : Environment) (t : Tree) (r : Result Focus Ending) (r' : Result (Option Focus) Ending) (m m' : Machine) (past : Past) (sink : SinkSeen)
    → f ≡ machine.Begin v env t → r' ≡ found r → IfErr r IsInner → ((input output : List ℕ) → Comes p r m' input output (begun p v env t (frames_of p m) (state_of m input output) m.left))
    → OnDevices m.ended past past sink (λ first output input rest. Steps p r' m' first output input rest sink (step p f (frames_of p m) (state_of m input output) m.left))
unfolding step
begin_steps p f v env t r r' m m' past sink is same inner comes =
    step_reaches p r r' m' m.ended past past sink sink (λ input output. begun p v env t (frames_of p m) (state_of m input output) m.left) (λ input output. step p f (frames_of p m) (state_of m input output) m.left) same
    (λ input output. ap (λ (g : machine.Focus). step p g (frames_of p m) (state_of m input output) m.left) is)
    (quiet_reaches p r m' m.ended past sink (λ input output. begun p v env t (frames_of p m) (state_of m input output) m.left) inner comes)

-- an initial value is begun
pub start_steps : (p : List Class) (f : machine.Focus) (v : Value) (rs : List AttributeRef) (ls : List ℕ) (r : Result Focus Ending) (r' : Result (Option Focus) Ending) (m m' : Machine) (past : Past) (sink : SinkSeen)
    → f ≡ machine.Start v rs ls → r' ≡ found r → IfErr r IsInner → ((input output : List ℕ) → Comes p r m' input output (start_values p v rs ls (frames_of p m) (state_of m input output) m.left))
    → OnDevices m.ended past past sink (λ first output input rest. Steps p r' m' first output input rest sink (step p f (frames_of p m) (state_of m input output) m.left))
unfolding step
start_steps p f v rs ls r r' m m' past sink is same inner comes =
    step_reaches p r r' m' m.ended past past sink sink (λ input output. start_values p v rs ls (frames_of p m) (state_of m input output) m.left) (λ input output. step p f (frames_of p m) (state_of m input output) m.left) same
    (λ input output. ap (λ (g : machine.Focus). step p g (frames_of p m) (state_of m input output) m.left) is)
    (quiet_reaches p r m' m.ended past sink (λ input output. start_values p v rs ls (frames_of p m) (state_of m input output) m.left) inner comes)

-- the value of the whole
pub whole_returned : (p : List Class) (f : machine.Focus) (m m' : Machine) (past : Past) (sink : SinkSeen) (v : Value) → f ≡ Return v → m.frames.items ≡ [] → m'.store ≡ m.store
    → OnDevices m.ended past past sink (λ first output input rest. Steps p (Ok None) m' first output input rest sink (step p f (frames_of p m) (state_of m input output) m.left))
unfolding step stack_of
whole_returned p f m m' past sink v is none same first output input rest put leaves at_end =
    rw (leaves_same past input rest leaves) (
      v,
      m.left,
      put,
      ap (λ (g : machine.Focus). step p g (frames_of p m) (state_of m input output) m.left) is
          ∙ ap (λ (fs : List Frame). step p (Return v) (stack_of p fs) (state_of m input output) m.left) none
          ∙ ap (λ (store : Store). Halt (Val v (state_at store input output) m.left)) (sym same),
    )

-- a value comes to the latest frame
pub given_steps : (p : List Class) (f : machine.Focus) (r : Result Focus Ending) (r' : Result (Option Focus) Ending) (m mid m' : Machine) (frame : Frame) (past past' : Past) (sink sink' : SinkSeen) (v : Value)
    → f ≡ Return v → r' ≡ found r → m.frames.items ≡ mid.frames.items ++ frame ∷ [] → mid.store ≡ m.store → mid.left ≡ m.left
    → OnDevices m.ended past past' sink (λ first output input rest. Reaches p r m' first output input rest sink' (returned p (frame_of p frame) v (frames_of p mid) (state_of mid input output) mid.left))
    → OnDevices m.ended past past' sink (λ first output input rest. Steps p r' m' first output input rest sink' (step p f (frames_of p m) (state_of m input output) m.left))
unfolding step
given_steps p f r r' m mid m' frame past past' sink sink' v is same frames store left reaches =
    step_reaches p r r' m' m.ended past past' sink sink' (λ input output. returned p (frame_of p frame) v (frames_of p mid) (state_of mid input output) mid.left) (λ input output. step p f (frames_of p m) (state_of m input output) m.left) same
    (λ input output.
    ap (λ (g : machine.Focus). step p g (frames_of p m) (state_of m input output) m.left) is
    ∙ ap (λ (fs : List machine.Frame). step p (Return v) fs (state_of m input output) m.left) (ap (stack_of p) frames ∙ stack_more p mid.frames.items frame)
    ∙ ap (λ (st : Store). returned p (frame_of p frame) v (frames_of p mid) (state_at st input output) m.left) (sym store)
    ∙ ap (λ (n : ℕ). returned p (frame_of p frame) v (frames_of p mid) (state_of mid input output) n) (sym left))
    reaches
