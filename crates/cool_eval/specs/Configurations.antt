-- `frames_of` and `state_of` convert the interpreter's data to a configuration of the machine of StackMachine.antt, which evaluates with a stack of frames.
-- `Comes` says that a step of the interpreter is a step of that machine, unless memory ran out.
use Rattle.std.specs.Prelude.{◌≡◌, ℕ, ℤ, slice_get, ◌+◌, List, [], ◌∷◌, ◌++◌, length, map, Contains, Option, Some, None, Result, Ok, Err}
use denote.Ref.{Bor}
use Rattle.cool_syntax.specs.declared.place.Place.{Place}
use Rattle.cool_syntax.specs.Bare.{nowhere}
use Rattle.cool_syntax.specs.Tree.{Tree, Dispatch, StaticDispatch, of_list, of_twigs}
use Rattle.cool_classes.specs.Chains.{Class}
use Rattle.cool_meaning.specs.Values.{State, Environment, Located, location_of}
use Rattle.cool_meaning.specs.Values as values
use Rattle.cool_meaning.specs.Meters.{Outcome, Val, Stop, On, Stuck, Computation}
use Rattle.cool_meaning.specs.Meters as meters
use Rattle.std.proofs.Common.{Vec}
use Rattle.cool_meaning.specs.BasicMethods.{as_number}
use Rattle.cool_meaning.specs.Lookups.{environment_of}
use Rattle.cool_eval.specs.declared.value.Value.{Value}
use Rattle.cool_eval.specs.declared.ending.RunError.{RunError}
use Rattle.cool_eval.specs.declared.ending.RunError.TheVariants.{DispatchVoid, CaseVoid, NoBranch, DivisionByZero, Overflow, Substring, Aborted}
use Rattle.cool_eval.specs.declared.ending.Ending.{Ending}
use Rattle.cool_eval.specs.declared.ending.Ending.TheVariants as ending
use Rattle.cool_eval.specs.declared.scene.Local.{Local}
use Rattle.cool_eval.specs.declared.scene.Scene.{Scene}
use Rattle.cool_eval.specs.declared.frame.Frame.{Frame}
use Rattle.cool_eval.specs.declared.frame.Frame.TheVariants as held
use Rattle.cool_eval.specs.declared.frame.Focus.{Focus}
use Rattle.cool_eval.specs.declared.frame.Focus.TheVariants as focus
use Rattle.cool_eval.specs.declared.machine.Machine.{Machine}
use Rattle.cool_eval.specs.Values.{value_of, locations_from}
use Rattle.cool_eval.specs.StackMachine as machine
use Rattle.cool_eval.specs.StackMachine.{Next, Continue, Halt}

-- variables, the latest last, as an environment, the latest first
abbrev pub located_at : Local → Located
located_at l = record { name = l.name.now; location = l.location }

abbrev pub locals_of : List Local → Environment
locals_of [] = []
locals_of (l ∷ ls) = locals_of ls ++ located_at l ∷ []

abbrev pub env_of : List Class → Scene → Environment
env_of p s = locals_of s.locals.items ++ environment_of p (value_of s.me)

abbrev pub class_name : Option (Bor (List ℕ)) → Option (List ℕ)
class_name None = None
class_name (Some name) = Some name.now

-- the parts of a dispatch; for other expressions the results do not matter
abbrev pub place_of_call : Tree → Place
place_of_call (Dispatch at t name ts) = at
place_of_call (StaticDispatch at t class name ts) = at
place_of_call _ = nowhere

abbrev pub receiver_of_call : Tree → Tree
receiver_of_call (Dispatch at t name ts) = t
receiver_of_call (StaticDispatch at t class name ts) = t
receiver_of_call t = t

abbrev pub class_of_call : Tree → Option (List ℕ)
class_of_call (StaticDispatch at t class name ts) = Some class.name
class_of_call _ = None

abbrev pub name_of_call : Tree → List ℕ
name_of_call (Dispatch at t name ts) = name
name_of_call (StaticDispatch at t class name ts) = name
name_of_call _ = []

-- a frame and what is done next
abbrev pub frame_of : List Class → Frame → machine.Frame
frame_of p (held.AssignTo scene name) = machine.AssignTo (env_of p scene.value) name.now
frame_of p (held.Choose scene a b) = machine.Choose (value_of scene.value.me) (env_of p scene.value) a b
frame_of p (held.Turn scene a b) = machine.Turn (value_of scene.value.me) (env_of p scene.value) a b
frame_of p (held.Again scene a b) = machine.Again (value_of scene.value.me) (env_of p scene.value) a b
frame_of p (held.Items scene rest) = machine.Items (value_of scene.value.me) (env_of p scene.value) (of_list rest)
frame_of p (held.Bind scene name body) = machine.Bind (value_of scene.value.me) (env_of p scene.value) name.now body
frame_of p (held.Pick scene at branches) = machine.Pick (value_of scene.value.me) (env_of p scene.value) at (of_twigs branches)
frame_of p (held.Fill o l rest) = machine.Fill (values.Obj o.class o.identity (locations_from o.first o.count)) l rest.now (locations_from (l + 1) (length rest.now))
frame_of p (held.Argument scene given rest whole) =
    machine.Argument (value_of scene.value.me) (env_of p scene.value) (map value_of given.items) (of_list rest) (place_of_call whole) (receiver_of_call whole) (class_of_call whole) (name_of_call whole)
frame_of p (held.Receiver at class name given) = machine.Receiver at (class_name class) name.now (map value_of given.items)
frame_of p held.TestVoid = machine.TestVoid
frame_of p held.Invert = machine.Invert
frame_of p (held.Negate at) = machine.Negate at
frame_of p (held.Operand scene at op right) = machine.Operand (value_of scene.value.me) (env_of p scene.value) at op right
frame_of p (held.Operate at op left) = machine.Operate at op (value_of left)
frame_of p (held.Compared scene op right) = machine.Compared (value_of scene.value.me) (env_of p scene.value) op right
frame_of p (held.CompareTo op left) = machine.CompareTo op (value_of left)

abbrev pub focus_of : List Class → Focus → machine.Focus
focus_of p (focus.Begin scene part) = machine.Begin (value_of scene.value.me) (env_of p scene.value) part
focus_of p (focus.Return v) = machine.Return (value_of v)
focus_of p (focus.Start o l rest) = machine.Start (values.Obj o.class o.identity (locations_from o.first o.count)) rest.now (locations_from l (length rest.now))

-- the frames of the machine: the interpreter stores the latest last, and the machine has it first
unfoldable pub stack_of : List Class → List Frame → List machine.Frame
stack_of p [] = []
stack_of p (f ∷ fs) = stack_of p fs ++ frame_of p f ∷ []

abbrev pub frames_of : List Class → Machine → List machine.Frame
frames_of p m = stack_of p m.frames.items

abbrev pub state_of : Machine → List ℕ → List ℕ → State
state_of m input output = record { store = m.store.values; input = input; output = output; drawn = m.store.drawn }

abbrev pub error_of : RunError → meters.Error
error_of (DispatchVoid at) = meters.DispatchVoid at
error_of (CaseVoid at) = meters.CaseVoid at
error_of (NoBranch at c) = meters.NoBranch at c
error_of (DivisionByZero at) = meters.DivisionByZero at
error_of (Overflow at) = meters.Overflow at
error_of (Substring at) = meters.Substring at
error_of (Aborted c) = meters.Aborted c

-- The result of a step that touches neither source nor sink, with the machine after it: it is `next`, unless memory ran out.
abbrev pub Comes : List Class → Result Focus Ending → Machine → List ℕ → List ℕ → Next → Type 0
Comes p (Ok f) m input output next = next ≡ Continue (focus_of p f) (frames_of p m) (state_of m input output) m.left
Comes p (Err (ending.Error e)) m input output next = next ≡ Halt (Stop (error_of e) (state_of m input output))
Comes p (Err ending.StepLimit) m input output next = next ≡ Halt (On (state_of m input output))
Comes p (Err ending.Stuck) m input output next = next ≡ Halt Stuck
Comes p (Err ending.Memory) m input output next = Unit {0}
Comes p (Err ending.ReadFault) m input output next = ⊥
Comes p (Err ending.WriteFault) m input output next = ⊥

-- The value or the error is that of this computation, which leaves the state as it is, unless memory ran out.
abbrev pub IsResultAt : Result Value Ending → Computation values.Value → State → ℕ → Type 0
IsResultAt (Ok v) d s n = (d s n).outcome ≡ Val (value_of v) s n
IsResultAt (Err (ending.Error e)) d s n = (d s n).outcome ≡ Stop (error_of e) s
IsResultAt (Err ending.Stuck) d s n = (d s n).outcome ≡ Stuck
IsResultAt (Err ending.Memory) d s n = Unit {0}
IsResultAt (Err ending.StepLimit) d s n = ⊥
IsResultAt (Err ending.ReadFault) d s n = ⊥
IsResultAt (Err ending.WriteFault) d s n = ⊥

-- The value or the error, with the machine after it and the same input and output, is this outcome, unless memory ran out.
abbrev pub IsResultOn : Result Value Ending → Machine → List ℕ → List ℕ → Outcome values.Value → Type 0
IsResultOn (Ok v) m input output o = o ≡ Val (value_of v) (state_of m input output) m.left
IsResultOn (Err (ending.Error e)) m input output o = o ≡ Stop (error_of e) (state_of m input output)
IsResultOn (Err ending.Stuck) m input output o = o ≡ Stuck
IsResultOn (Err ending.Memory) m input output o = Unit {0}
IsResultOn (Err ending.StepLimit) m input output o = ⊥
IsResultOn (Err ending.ReadFault) m input output o = ⊥
IsResultOn (Err ending.WriteFault) m input output o = ⊥

-- `IsResultAt` in every state
abbrev pub IsResultOf : Result Value Ending → Computation values.Value → Type 0
IsResultOf r d = (s : State) (n : ℕ) → IsResultAt r d s n

-- the number of a value
abbrev pub IsNumberOf : Result ℤ Ending → values.Value → Type 0
IsNumberOf (Ok n) v = v ≡ values.Int n
IsNumberOf (Err ending.Stuck) v = (s : State) (n : ℕ) → (as_number v s n).outcome ≡ Stuck
IsNumberOf (Err (ending.Error e)) v = ⊥
IsNumberOf (Err ending.Memory) v = ⊥
IsNumberOf (Err ending.StepLimit) v = ⊥
IsNumberOf (Err ending.ReadFault) v = ⊥
IsNumberOf (Err ending.WriteFault) v = ⊥

-- the value at a location
abbrev pub IsLoaded : List values.Value → ℕ → Result Value Ending → Type 0
IsLoaded vs l (Ok v) = slice_get vs l ≡ Some (value_of v)
IsLoaded vs l (Err ending.Stuck) = slice_get vs l ≡ None
IsLoaded vs l (Err ending.Memory) = Unit {0}
IsLoaded vs l (Err (ending.Error e)) = ⊥
IsLoaded vs l (Err ending.StepLimit) = ⊥
IsLoaded vs l (Err ending.ReadFault) = ⊥
IsLoaded vs l (Err ending.WriteFault) = ⊥

-- the location of a name
abbrev pub IsLocation : Environment → List ℕ → Result ℕ Ending → Type 0
IsLocation env name (Ok l) = location_of env name ≡ Some l
IsLocation env name (Err ending.Stuck) = location_of env name ≡ None
IsLocation env name (Err ending.Memory) = Unit {0}
IsLocation env name (Err (ending.Error e)) = ⊥
IsLocation env name (Err ending.StepLimit) = ⊥
IsLocation env name (Err ending.ReadFault) = ⊥
IsLocation env name (Err ending.WriteFault) = ⊥

-- the values at locations, in order
abbrev pub AreLoaded : {A : Type 0} → List values.Value → List ℕ → Result (Vec Value A) Ending → Type 0
AreLoaded {A = A} vs ls (Ok found) = map (slice_get vs) ls ≡ map (λ v. Some (value_of v)) found.items
AreLoaded {A = A} vs ls (Err ending.Stuck) = Contains (map (slice_get vs) ls) None
AreLoaded {A = A} vs ls (Err ending.Memory) = Unit {0}
AreLoaded {A = A} vs ls (Err (ending.Error e)) = ⊥
AreLoaded {A = A} vs ls (Err ending.StepLimit) = ⊥
AreLoaded {A = A} vs ls (Err ending.ReadFault) = ⊥
AreLoaded {A = A} vs ls (Err ending.WriteFault) = ⊥

-- the frame is not one that waits for the receiver of a call
abbrev pub IsQuiet : Frame → Type 0
IsQuiet (held.Receiver at class name given) = ⊥
IsQuiet _ = Unit {0}
