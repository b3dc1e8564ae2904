-- If the code of an expression begins with the code of a subexpression, its run is the run of this subexpression, followed by the run of the remaining
-- instructions.
use Rattle.std.proofs.Common.{◌≡◌, ℕ, ◌+◌, ◌-◌, ◌*◌, ◌≤◌, List, arith}
use Rattle.mips_isa.specs.Bytes.{Bytes}
use Rattle.mips_isa.specs.Calls.{State as Machine}
use Rattle.cool_syntax.specs.Tree.{Tree}
use Rattle.cool_classes.specs.declared.class_id.ClassId.{ClassId}
use Rattle.cool_classes.specs.declared.class_id.Ty.{Ty}
use Rattle.cool_rules.specs.Scopes.{Binding}
use Rattle.cool_rules.specs.Typing.{HasType}
use Rattle.cool_runtime.specs.Standing.{sizes}
use Rattle.cool_runtime.specs.Machines.{Pointers, Console}
use Rattle.cool_codegen.specs.Variables.{Named}
use Rattle.cool_codegen.specs.Code.{code}
use Rattle.cool_meaning.specs.Values.{Value, State, Environment}
use Rattle.cool_meaning.specs.Meters.{Val, Computation, seq, rule, ◌>>=◌}
use Rattle.cool_meaning.specs.Evaluation.{Call, Calls, eval}
use Rattle.cool_meaning.specs.FittingValues as fitting
use Rattle.cool_meaning.proofs.SoundParts.{AllCallsSound}
use Rattle.cool_simulation.specs.Loadings.{Loading, IsLoaded, Watched, constants, context}
use Rattle.cool_simulation.specs.Pictures.{Map}
use Rattle.cool_simulation.specs.Simulation.{Begins, Done, Correct, Runs, Room, CodeAt}
use Rattle.cool_simulation.specs.Visits.{Visit, Visits, begun}
use Rattle.cool_simulation.proofs.ground.PartsOfRuns.{run_wider, run_rule, bind_runs, room_ruled, room_less, Rest}
use Rattle.cool_simulation.proofs.ground.EvaluationLater.{ComesLater}
use Rattle.cool_simulation.proofs.ground.NextParts.{Next, next}

module _ (l : Loading) (loaded : IsLoaded l) (calls : Calls) (begun_in : Call → Visits) (b : ℕ) (sound : AllCallsSound l.table calls b) (c : ClassId) (f : ℕ) (k : ClassId) (self : Value) (scope : List Binding) (vs : List Named)
    (env : Environment) (made : fitting.World) (d first : ℕ) (q : Pointers) (m : Bytes) (map : Map) (console : Console) (st : State) (s : Machine) (n : ℕ) (less : n ≤ b)
    (begins : Begins l c k self scope vs env made d q m map console st s) (t : Tree) (type : Ty) (correct : Correct l calls begun_in b t) (has : HasType l.table c scope t type) (at : CodeAt l c f vs d first q.pc t)
    (watched : (x : Visit) → begun l.table calls begun_in c f self env first t st n x → Watched l.watch x) where
  -- the run after a part that came to a value
  abbrev pub Following : {B : Type 0} → (Value → Computation B) → (B → State → Machine → Type 0) → ℕ → ℕ → Type 0
  Following F L besides extra =
      (v : Value) (t1 : State) (left : ℕ) (u : Machine) → (eval l.table calls self env t st n).outcome ≡ Val v t1 left
      → (j : Done l (record q { pc = q.pc + sizes (code (context l c f) (constants l) vs d first t) }) m map st (eval l.table calls self env t st n).words v t1 u)
      → Next l loaded calls b sound c k self scope vs env made type d (record q { pc = q.pc + sizes (code (context l c f) (constants l) vs d first t); gp = j.gp; acc = j.acc; ra = j.ra }) j.memory j.map' j.console v t1 left n u
      → (seq (eval l.table calls self env t st n) F).words ≡ (eval l.table calls self env t st n).words + (F v t1 left).words → Rest l q besides (eval l.table calls self env t st n).words (F v t1 left)
      → Runs l u left (64 * (F v t1 left).work + extra) L (F v t1 left).outcome

  -- a part, and what follows it
  pub part_runs : {B : Type 0} (F : Value → Computation B) (L : B → State → Machine → Type 0) (besides extra : ℕ) → ((v : Value) → ComesLater (F v)) → Room l q besides (seq (eval l.table calls self env t st n) F)
      → Following F L besides extra → Runs l s n (64 * (seq (eval l.table calls self env t st n) F).work + extra) L (seq (eval l.table calls self env t st n) F).outcome
  part_runs F L besides extra later room more =
      let r = eval l.table calls self env t st n in
      let pc1 = q.pc + sizes (code (context l c f) (constants l) vs d first t) in
      let K = Done l (record q { pc = pc1 }) m map st r.words in
      bind_runs l r F s n extra q besides K L (λ v t1 left. (later v).later t1 left) room
      (λ room1. run_wider l r.outcome s n (64 * r.work - 4) (64 * r.work) K (omega arith) (correct.runs c f k self scope vs env made d first q m map console st s n type less begins has at (room_less l q besides 0 r (omega arith) room1) watched))
      (λ v t1 left u e j sum rest. more v t1 left u e j (next l loaded calls b sound c k self t scope vs env made type d q m map console st t1 s u n left r.words pc1 v begins has less e j) sum rest)

  -- a rule that begins with a part
  pub rule_runs : {B : Type 0} (F : Value → Computation B) (L : B → State → Machine → Type 0) → ((v : Value) → ComesLater (F v)) → Room l q 0 (rule (eval l.table calls self env t >>= F) st n) → Following F L 16 60
      → Runs l s n (64 * (rule (eval l.table calls self env t >>= F) st n).work - 4) L (rule (eval l.table calls self env t >>= F) st n).outcome
  rule_runs F L later room more =
      let r = seq (eval l.table calls self env t st n) F in
      run_rule l r s n L (part_runs F L 16 60 later (room_ruled l q 0 r room) more)
