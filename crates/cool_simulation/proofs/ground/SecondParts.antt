-- If a second subexpression runs after the first one, the changes of both to memory and state are together the change that the whole expression may make.
use Rattle.std.proofs.Common.{◌≡◌, ℕ, ◌+◌, ◌-◌, ◌*◌, ◌%◌, ◌≤◌, List, arith}
use Rattle.mips_isa.specs.Bytes.{Bytes}
use Rattle.mips_isa.specs.Calls.{State as Machine}
use Rattle.cool_syntax.specs.Tree.{Tree}
use Rattle.cool_classes.specs.declared.class_id.ClassId.{ClassId}
use Rattle.cool_classes.specs.declared.class_id.Ty.{Ty}
use Rattle.cool_rules.specs.Scopes.{Binding}
use Rattle.cool_rules.specs.Typing.{HasType}
use Rattle.cool_runtime.specs.Standing.{sizes}
use Rattle.cool_runtime.specs.Machines.{Pointers}
use Rattle.cool_codegen.specs.Variables.{Named}
use Rattle.cool_codegen.specs.Code.{code}
use Rattle.cool_meaning.specs.Values.{Value, State, Environment}
use Rattle.cool_meaning.specs.Evaluation.{Call, Calls, eval}
use Rattle.cool_meaning.specs.FittingValues as fitting
use Rattle.cool_simulation.specs.Loadings.{Loading, Watched, constants, context}
use Rattle.cool_simulation.specs.Pictures.{Map}
use Rattle.cool_simulation.specs.Simulation.{Begins, Done, Correct, Runs, CodeAt}
use Rattle.cool_simulation.specs.Visits.{Visit, Visits, begun}
use Rattle.cool_simulation.proofs.ground.PartsOfRuns.{run_as, Rest, room_rest}
use Rattle.cool_simulation.proofs.ground.PartsBehind.{done_both}

module _ (l : Loading) (calls : Calls) (begun_in : Call → Visits) (b : ℕ) (c : ClassId) (f : ℕ) (k : ClassId) (self : Value) where
  pub second_runs : (scope : List Binding) (vs : List Named) (env : Environment) (made : fitting.World) (d first : ℕ) (q : Pointers) (m : Bytes) (map : Map) (st t1 : State) (u u2 : Machine) (n words whole besides pc1 pc2 acc ra : ℕ) (v : Value)
      (t : Tree) (type : Ty) → q.sp % 4 ≡ 0 → (j : Done l (record q { pc = pc1 }) m map st words v t1 u) → n ≤ b → Begins l c k self scope vs env made d (record q { pc = pc2; gp = j.gp; acc = acc; ra = ra }) j.memory j.map' j.console t1 u2
      → Correct l calls begun_in b t → HasType l.table c scope t type → CodeAt l c f vs d first pc2 t → Rest l q besides words (eval l.table calls self env t t1 n) → words + (eval l.table calls self env t t1 n).words ≤ whole
      → ((x : Visit) → begun l.table calls begun_in c f self env first t t1 n x → Watched l.watch x)
      → Runs l u2 n (64 * (eval l.table calls self env t t1 n).work - 4) (Done l (record q { pc = pc2 + sizes (code (context l c f) (constants l) vs d first t) }) m map st whole) (eval l.table calls self env t t1 n).outcome
  second_runs scope vs env made d first q m map st t1 u u2 n words whole besides pc1 pc2 acc ra v t type even j less begins correct has at rest sum watched =
      let q2 : Pointers = record q { pc = pc2; gp = j.gp; acc = acc; ra = ra } in
      let r = eval l.table calls self env t t1 n in
      let pc3 = pc2 + sizes (code (context l c f) (constants l) vs d first t) in
      let used = j.gp_to in
      run_as l r.outcome u2 n (64 * r.work - 4) (Done l (record q2 { pc = pc3 }) j.memory j.map' t1 r.words) (Done l (record q { pc = pc3 }) m map st whole)
      (λ v2 t2 s2 i. done_both l q m map st words r.words whole v v2 t1 t2 u s2 pc1 pc3 acc ra even j i sum)
      (correct.runs c f k self scope vs env made d first q2 j.memory j.map' j.console t1 u2 n type less begins has at (room_rest l q q2 besides 0 words r used (omega arith) rest) watched)
