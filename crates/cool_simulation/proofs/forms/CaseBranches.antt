-- The code of the branch that a case takes pushes the value as the branch's variable, simulates the body, and pops the value.
use Rattle.std.proofs.Common.{◌≡◌, ℕ, ◌+◌, ◌-◌, ◌*◌, ◌≤◌, List, [], ◌∷◌, ◌++◌, length, Option, Some, None, Bool as Truth, true, false, subst, arith, sym}
use Rattle.std.specs.Prelude.{if◌then◌else◌, bytes_eq}
use Rattle.mips_isa.specs.Bytes.{Bytes, set_word}
use Rattle.mips_isa.specs.Calls.{State as Machine}
use Rattle.mips_isa.specs.Lines.{Name}
use Rattle.cool_syntax.specs.declared.place.Place.{Place}
use Rattle.cool_syntax.specs.Tree.{Tree, Cases, NoCase, CaseOf}
use Rattle.cool_classes.specs.declared.class_id.ClassId.{ClassId}
use Rattle.cool_classes.specs.declared.class_id.Ty.{Ty}
use Rattle.cool_classes.specs.declared.class_id.Ty.TheVariants.{Class as IsClass}
use Rattle.cool_classes.specs.Chains.{Class, name_of}
use Rattle.cool_rules.specs.Scopes.{Binding}
use Rattle.cool_runtime.specs.Standing.{HasLines, sizes}
use Rattle.cool_runtime.specs.Machines.{At, Pointers}
use Rattle.cool_runtime.proofs.Pieces.{next, done}
use Rattle.cool_codegen.specs.Variables.{Named, bind}
use Rattle.cool_codegen.specs.Pieces.{turn_lines, case_end_lines}
use Rattle.cool_meaning.specs.Values.{Value, State, Environment}
use Rattle.cool_meaning.specs.Meters.{Metered, NoBranch, ◌>>=◌, locate}
use Rattle.cool_meaning.specs.Evaluation.{Call, Calls, Branch, or_else, nearest, take_branch, eval, branch_of}
use Rattle.cool_meaning.specs.FittingValues.{Fits}
use Rattle.cool_meaning.specs.FittingValues as fitting
use Rattle.cool_meaning.proofs.MoreSteps.{after_of, locate_alike, stop_alike}
use Rattle.cool_simulation.specs.Loadings.{Loading, IsLoaded, constants, context, Watched}
use Rattle.cool_simulation.specs.Pictures.{Map}
use Rattle.cool_simulation.specs.Simulation.{Begins, Runs, Room, Done, CodeAt}
use Rattle.cool_simulation.specs.Visits.{Visits, Visit, begun}
use Rattle.cool_simulation.proofs.ground.EvaluationLater.{ComesLater, CallsLater, bind_later, eval_later}
use Rattle.cool_simulation.proofs.ground.PartsOfRuns.{run_on}
use Rattle.cool_simulation.proofs.ground.PartsBehind.{done_both}
use Rattle.cool_simulation.proofs.ground.BoundVariables.{bound_begins, bound_done}
use Rattle.cool_simulation.proofs.forms.BranchOrder.{Entry, branch}
use Rattle.cool_simulation.proofs.forms.CaseLines.{branch_ends}
use Rattle.cool_simulation.proofs.forms.CaseArms.{next_of, body_of}
use Rattle.cool_simulation.proofs.forms.CaseParts.{Good}
use Rattle.cool_simulation.proofs.ground.Homes.{homed}
use Rattle.cool_rules.specs.Typing.{with_name}
use Rattle.cool_rules.specs.Conformance.{class_of as class_meant}

-- The outcome of a branch has a later state

abbrev pub IsLater : Option Branch → Type 0
IsLater None = Unit {0}
IsLater (Some f) = (v : Value) → ComesLater (f v)

pub take_later : (at : Place) (c : ClassId) (v : Value) (o : Option Branch) → IsLater o → ComesLater (take_branch at c v o)
take_later at c v None h = record { later = λ s n. after_of (stop_alike {A = Value} (NoBranch at c)) s n }
take_later at c v (Some f) h = h v

or_later : (a b : Option Branch) → IsLater a → IsLater b → IsLater (or_else a b)
or_later None b h k = k
or_later (Some f) b h k = h

module _ (p : List Class) (calls : Calls) (later : CallsLater calls) (self : Value) (env : Environment) where
  bound_later : (name : List ℕ) (t : Tree) (v : Value) → ComesLater (locate v >>= λ l. eval p calls self (record { name = name; location = l } ∷ env) t)
  bound_later name t v = bind_later {d = locate v} {f = λ l. eval p calls self (record { name = name; location = l } ∷ env) t} (record { later = λ s n. after_of (locate_alike v) s n }) (λ l. eval_later p calls later self (record { name = name; location = l } ∷ env) t)

  branch_later : (cs : Cases) (class : List ℕ) → IsLater (branch_of p calls self env cs class)
  branch_later NoCase class = tt
  branch_later (CaseOf at name declared t cs) class = by (bytes_eq declared.name class) (branch_later cs class)
    where
      by : (b : Truth) → IsLater (branch_of p calls self env cs class)
          → IsLater (if b then Some (λ v. locate v >>= λ l. eval p calls self (record { name = name; location = l } ∷ env) t) else branch_of p calls self env cs class)
      by true more = λ v. bound_later name t v
      by false more = more

  pub nearest_later : (cs : Cases) (ds : List ClassId) → IsLater (nearest p (branch_of p calls self env cs) ds)
  nearest_later cs [] = tt
  nearest_later cs (d ∷ ds) = or_later (branch_of p calls self env cs (name_of p d)) (nearest p (branch_of p calls self env cs) ds) (branch_later cs (name_of p d)) (nearest_later cs ds)

  pub entry_later : (o : Option Entry) → IsLater (branch p calls self env o)
  entry_later None = tt
  entry_later (Some e) = λ v. bound_later e.name e.tree v

module _ (l : Loading) (is : IsLoaded l) (calls : Calls) (begun_in : Call → Visits) (b : ℕ) (c : ClassId) (f : ℕ) (k : ClassId) (self : Value) (scope : List Binding) (vs : List Named) (env : Environment) (made : fitting.World) (d : ℕ) (end : Name)
    (q : Pointers) (m : Bytes) (map : Map) (st t1 : State) (u : Machine) (words pc1 : ℕ) (v : Value) (j : Done l (record q { pc = pc1 }) m map st words v t1 u)
    (begins : Begins l c k self scope vs env made d (record q { pc = pc1; gp = j.gp; acc = j.acc; ra = j.ra }) j.memory j.map' j.console t1 u)
  where
    -- the pointers after the value of the case
    abbrev pub behind : Pointers
    behind = record q { pc = pc1; gp = j.gp; acc = j.acc; ra = j.ra }

    -- the pointers after the push of the value
    abbrev pub bound_at : ℕ → Pointers
    bound_at pc = record q { pc = pc; gp = j.gp; acc = j.acc; ra = j.ra; sp = q.sp - 4 }

    abbrev pub bound_memory : Bytes
    bound_memory = set_word j.memory (q.sp - 4) j.acc

    -- the outcome of the body
    abbrev pub body : Entry → ℕ → Metered Value
    body e n = eval l.table calls self (record { name = e.name; location = length t1.store } ∷ env) e.tree (record t1 { store = t1.store ++ v ∷ [] }) n

    pub branch_runs : (e : Entry) → Good l is calls begun_in b c scope d e → Fits l.table made v e.class → (n pc2 pc3 whole : ℕ) (u2 : Machine) → n ≤ b → At l.world (bound_at pc2) bound_memory j.console u2
        → CodeAt l c f (bind d e.name e.bound vs) (d + 1) e.first pc2 e.tree → HasLines l.world (pc2 + sizes (body_of (context l c f) (constants l) vs d end e)) (turn_lines end (next_of (context l c f) (constants l) vs d end e))
        → HasLines l.world pc3 (case_end_lines end) → Room l (bound_at pc2) 0 (body e n) → words + (body e n).words ≤ whole
        → ((x : Visit) → begun l.table calls begun_in c f self (record { name = e.name; location = length t1.store } ∷ env) e.first e.tree (record t1 { store = t1.store ++ v ∷ [] }) n x → Watched l.watch x)
        → Runs l u2 n (64 * (body e n).work - 4 + 2) (Done l (record q { pc = pc3 + 8 }) m map st whole) (body e n).outcome
    branch_runs e good fit n pc2 pc3 whole u2 le at code_at turn ends room sum watched =
        let w = l.world in
        let ctx = context l c f in
        let pc4 = pc2 + sizes (body_of ctx (constants l) vs d end e) in
        let small = good.small in
        let numbers = begins.at.numbers in
        let laid = w.laid in
        let even = numbers.sp_even in
        let back : q.sp - 4 + 4 ≡ q.sp = omega arith in
        let scope' = with_name e.name (IsClass e.class) scope in
        let env' : Environment = record { name = e.name; location = length t1.store } ∷ env in
        let made' = made ++ class_meant k (IsClass e.class) ∷ [] in
        let t1' : State = record t1 { store = t1.store ++ v ∷ [] } in
        let map1 = homed j.map' (length t1.store) (q.sp - 4) in
        let begins2 : Begins l c k self scope' (bind d e.name e.bound vs) env' made' (d + 1) (bound_at pc2) bound_memory map1 j.console t1' u2 =
        subst (λ (x : Ty). Begins l c k self scope' (bind d e.name x vs) env' made' (d + 1) (bound_at pc2) bound_memory map1 j.console t1' u2) (sym good.bound)
        (bound_begins l c k self scope vs env made d behind j.memory j.map' j.console t1 u u2 e.name (IsClass e.class) v pc2 begins j.value fit (omega arith) at) in
        run_on l (body e n).outcome u2 n (64 * (body e n).work - 4) 2 (64 * (body e n).work - 4 + 2) _ _ (omega arith)
        (good.correct.runs c f k self scope' (bind d e.name e.bound vs) env' made' (d + 1) e.first (bound_at pc2) bound_memory map1 j.console t1' u2 n good.type le begins2 good.has code_at room watched)
        (λ v2 t2 u3 i. next w u3 2 0 2 _ _
        (branch_ends w end (next_of ctx (constants l) vs d end e) pc3 (record (bound_at pc2) { pc = pc4; gp = i.gp; acc = i.acc; ra = i.ra }) i.memory i.console u3 turn ends i.at (omega arith)) (omega arith)
        (λ u4 at4. done w 0 u4 _ (done_both l q m map st words (body e n).words whole v v2 t1 t2 u u4 pc1 (pc3 + 8) j.acc j.ra even j
        (bound_done l behind j.memory j.map' j.console t1 v v2 t2 (body e n).words pc4 (pc3 + 8) u u3 u4 begins.at begins.pictures i
        (subst (λ x. At w (record q { pc = pc3 + 8; sp = x; gp = i.gp; acc = i.acc; ra = i.ra }) i.memory i.console u4) back at4)) sum)))
