-- Once a dispatch has evaluated its receiver and arguments, the machine reaches the entry of the method, and then each expression that the call begins
-- (`Shown`).
use Rattle.std.proofs.Common.{◌≡◌, ℕ, zero, suc, ◌<◌, ◌≤◌, List, length, map as each, Option, Some, None, refl, arith}
use Rattle.mips_isa.specs.Bytes.{Bytes}
use Rattle.mips_isa.specs.Calls.{State as Machine}
use Rattle.mips_isa.specs.Lines.{Name}
use Rattle.cool_syntax.specs.declared.place.Place.{Place}
use Rattle.cool_classes.specs.declared.class_id.ClassId.{ClassId}
use Rattle.cool_classes.specs.declared.method.MethodRef.{MethodRef}
use Rattle.cool_classes.specs.declared.method.MethodRef.TheVariants.{Basic, User}
use Rattle.cool_classes.specs.Chains.{Below, class_number}
use Rattle.cool_classes.specs.ClimbedChains.{chain}
use Rattle.cool_classes.specs.Features.{implementation, formals_of}
use Rattle.cool_runtime.specs.Reaches.{Reaches, stands}
use Rattle.cool_runtime.specs.Machines.{Pointers, Console}
use Rattle.cool_layout.specs.Labels.{method_label}
use Rattle.cool_meaning.specs.Values.{Value, Void, Int, Bool, Str, Obj, State, class_of}
use Rattle.cool_meaning.specs.Meters.{Computation, Error, spend, working, ◌>>=◌}
use Rattle.cool_meaning.specs.Evaluation.{Body, Call, Calls, class_or, invoke}
use Rattle.cool_meaning.specs.FittingValues.{AllFit, meant}
use Rattle.cool_meaning.specs.FittingValues as fitting
use Rattle.cool_simulation.specs.Loadings.{Loading, IsLoaded}
use Rattle.cool_simulation.specs.Pictures.{Map}
use Rattle.cool_simulation.specs.Shown.{AllCallsShown, Comes}
use Rattle.cool_simulation.specs.Visits.{Visit, Visits, behind, behind_step, called}
use Rattle.cool_simulation.proofs.forms.CallLines.{AtPlace}
use Rattle.cool_simulation.proofs.forms.Invoking.{callee}
use Rattle.cool_simulation.proofs.forms.Received.{Received, called_of, received_at}
use Rattle.cool_simulation.proofs.shown.Comings.{Ample, ample_as, comes_behind, value_behind}
use Rattle.cool_simulation.specs.Simulation.{Shown}

module _ (l : Loading) where
  -- the visits after the class of a value, and the room for them
  pub class_behind : (e : Error) (v : Value) (V : ClassId → Visits) (G : ClassId → Computation Value) (q : Pointers) (a : ℕ) (st : State) (n : ℕ) (x : Visit) → behind (class_or e v) V st n x → Ample l q a ((class_or e v >>= G) st n)
      → (j : ClassId) × (class_of v ≡ Some j) × V j st n x × Ample l q a (G j st n)
  class_behind e Void V G q a st n x h ample = absurd (value_behind (class_or e Void) V st n x h)
  class_behind e (Int i) V G q a st n x h ample = (class_number 2, refl, value_behind (class_or e (Int i)) V st n x h, ample_as l q q a a ((class_or e (Int i) >>= G) st n) (G (class_number 2) st n) refl (omega arith) (omega arith) (omega arith) (omega arith) ample)
  class_behind e (Bool i) V G q a st n x h ample = (class_number 3, refl, value_behind (class_or e (Bool i)) V st n x h, ample_as l q q a a ((class_or e (Bool i) >>= G) st n) (G (class_number 3) st n) refl (omega arith) (omega arith) (omega arith) (omega arith) ample)
  class_behind e (Str i) V G q a st n x h ample = (class_number 4, refl, value_behind (class_or e (Str i)) V st n x h, ample_as l q q a a ((class_or e (Str i) >>= G) st n) (G (class_number 4) st n) refl (omega arith) (omega arith) (omega arith) (omega arith) ample)
  class_behind e (Obj c i ls) V G q a st n x h ample = (c, refl, value_behind (class_or e (Obj c i ls)) V st n x h, ample_as l q q a a ((class_or e (Obj c i ls) >>= G) st n) (G c st n) refl (omega arith) (omega arith) (omega arith) (omega arith) ample)

module _ (l : Loading) (loaded : IsLoaded l) (calls : Calls) (begun_in : Call → Visits) (b : ℕ) (shown : AllCallsShown l calls begun_in b) where
  -- the method of the program that is called; a basic method begins nothing
  pub dispatched_shown : (at : Place) (self : Value) (j x : ClassId) (vs : List Value) (made : fitting.World) (q : Pointers) (m : Bytes) (map : Map) (console : Console) (st : State) (s : Machine) (n ra : ℕ) (name : List ℕ) (file : Name)
      (o : Option MethodRef) (visit : Visit) → implementation l.table (chain l.table x) name ≡ o → n ≤ b → ra < 4294967296 → x.0 < length l.table → Below l.table j x
      → ((method : MethodRef) → implementation l.table (chain l.table x) name ≡ Some method → AllFit l.table made vs (each (meant l.table j) (formals_of l.table method)))
      → Received l j self vs made q m map console st s
      → ((method : MethodRef) → implementation l.table (chain l.table x) name ≡ Some method
      → Reaches l.world s 1 9 (stands (AtPlace l.world (record q { pc = l.world.place (method_label l.table method); ra = ra }) m console file at.line)))
      → Ample l q 16 (spend (working (length vs) (invoke l.table calls at self vs o)) st n) → behind_step (called l.table calls begun_in self vs o) st n visit → Comes l.world s (Shown l visit)
  dispatched_shown at self j x vs made q m map console st s zero ra name file o visit e le small within below args received lines ample h = absurd h
  dispatched_shown at self j x vs made q m map console st s (suc n) ra name file None visit e le small within below args received lines ample h = absurd h
  dispatched_shown at self j x vs made q m map console st s (suc n) ra name file (Some (Basic method)) visit e le small within below args received lines ample h = absurd h
  dispatched_shown at self j x vs made q m map console st s (suc n) ra name file (Some (User owner i)) visit e le small within below args received lines ample h =
      let label = l.world.place (method_label l.table (User owner i)) in
      let q' : Pointers = record q { pc = label; ra = ra } in
      let (has, below_owner, plain) = callee l loaded j x owner i name e within below in
      let room = ample_as l q q' 16 12 (spend (working (length vs) (invoke l.table calls at self vs (Some (User owner i)))) st (suc n)) (calls (Body owner i self vs) st n) refl (omega arith) (omega arith) (omega arith) (omega arith) ample in
      comes_behind l.world s 1 9 (AtPlace l.world q' m console file at.line) (Shown l visit) (lines (User owner i) e)
      (λ t placed. (shown n (omega arith)).body owner i self j vs made q' m map console st t n visit (omega arith) has below_owner
      (called_of l j self vs made q' m map console st t plain small (received_at l j self vs made q m map console st s t label ra received placed.at)) refl (args (User owner i) e) room.room room.alive h)
