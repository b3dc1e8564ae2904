-- The code generated for `new` simulates its evaluation for a class and for SELF_TYPE: unless a limit stops it, the machine reaches the object, state or error
-- that the semantics gives.
use Rattle.std.proofs.Common.{ℕ, zero, suc, ◌+◌, ◌-◌, ◌*◌, ◌<◌, ◌≤◌, List, length, Some, sym, ◌∙◌, subst, arith, ◌++◌, ap, refl}
use Rattle.mips_isa.specs.Bytes.{Bytes}
use Rattle.mips_isa.specs.Calls.{State as Machine}
use Rattle.cool_classes.specs.declared.class_id.ClassId.{ClassId}
use Rattle.cool_classes.specs.ClimbedChains.{chain}
use Rattle.cool_classes.specs.LawfulTables.{MayInherit}
use Rattle.cool_runtime.specs.Reaches.{stands, OnTheWay}
use Rattle.cool_runtime.specs.Machines.{At, Pointers, Console}
use Rattle.cool_runtime.proofs.Pieces.{done}
use Rattle.cool_meaning.specs.Values.{Value, State, Obj}
use Rattle.cool_meaning.specs.Meters.{Outcome, Val, Stop, On, Stuck, Computation, working, holding, spend, Metered}
use Rattle.cool_meaning.specs.Lookups.{attributes}
use Rattle.cool_meaning.specs.Evaluation.{Call, Calls, Initials, make, new_object}
use Rattle.cool_meaning.specs.FittingValues as fitting
use Rattle.cool_simulation.specs.Loadings.{Loading, IsLoaded, Watched}
use Rattle.cool_simulation.specs.Pictures.{Map}
use Rattle.cool_simulation.specs.Simulation.{Runs, Way, Room, Done, AllCallsCorrect, Passes}
use Rattle.cool_simulation.specs.Visits.{Visit, Visits, behind, behind_step, made as object_begun}
use Rattle.cool_simulation.proofs.ground.EvaluationLater.{CallsLater}
use Rattle.cool_simulation.proofs.ground.PartsOfRuns.{run_past, unless_stuck, way_of}
use Rattle.cool_simulation.proofs.forms.NewMeaning.{made_object, made_call, outcome_with, object_made, make_plain, made_values, located_all, plain_number}
use Rattle.cool_simulation.proofs.forms.NewRuns.{Making, size_of, entry, copy_of, attributes_many, initializes}
use Rattle.cool_meaning.specs.BasicMethods.{draw, locate_all}
use Rattle.cool_simulation.proofs.ground.LargerMaps.{numbers, with_values}
use Rattle.cool_simulation.proofs.ground.Passages.{passes, passes_wider}

module _ (l : Loading) where
  run_with : (r : Outcome Value) (v : Value) (s : Machine) (n a : ℕ) (K : Value → State → Machine → Type 0) → Runs l s n a (λ x. K v) r → Runs l s n a K (outcome_with v r)
  unfolding outcome_with
  run_with (Val x t left) v s n a K h = h
  run_with (Stop e t) v s n a K h = h
  run_with (On t) v s n a K h = h
  run_with Stuck v s n a K h = h

  pub way_with : (r : Outcome Value) (v : Value) → Way l (outcome_with v r) → Way l r
  unfolding outcome_with
  way_with (Val x t left) v h = h
  way_with (Stop e t) v h = h
  way_with (On t) v h = h
  way_with Stuck v h = h

module _ (l : Loading) (is : IsLoaded l) (calls : Calls) (begun_in : Call → Visits) (b : ℕ) (correct : AllCallsCorrect l calls begun_in b) (later : CallsLater calls)
    (c : ClassId) (within : c.0 < length l.table) (plain : MayInherit c) (made : fitting.World) (q : Pointers) (m : Bytes) (map : Map) (console : Console) (st : State) (s : Machine)
    (making : Making l is made q m map console st s)
  where
    abbrev pub computed : Computation Value
    computed = working 1 (holding (length (chain l.table c)) (spend (new_object l.table calls c)))

    -- the run from the code that copies the prototype and calls the initializer
    abbrev Copies : ℕ → ℕ → Type 0
    Copies ra a = q.gp + 4 * size_of l is c + 4 ≤ l.world.top → OnTheWay l.world console.output console.input
        → Passes l s 1 (7 * size_of l is c + a) (stands (At l.world (entry l is q c ra) (copy_of l is m q c) console))

    -- the visits of the object's initial values
    abbrev begun_by : Visits
    begun_by = behind_step (behind (locate_all (made_values l.table c)) (λ ls. behind draw (λ i. begun_in (Initials c (Obj c i ls)))))

    initial_begun : (n : ℕ) (x : Visit) → begun_in (Initials c (made_object l.table c st)) (with_values st (made_values l.table c)) n x → begun_by st (suc n) x
    initial_begun n x h =
        let vs : List Value = made_values l.table c in
        (numbers (length st.store) (length vs), record st { store = st.store ++ vs }, n, ap (λ (y : Metered (List ℕ)). y.outcome) (located_all vs st n), (st.drawn, with_values st vs, n, refl, h))

    computed_runs : (ra a n : ℕ) → ra < 4294967296 → n ≤ b → a ≤ 30 → Copies ra a → Room l q 0 (computed st n) → ((x : Visit) → begun_by st n x → Watched l.watch x)
        → Runs l s n (64 * (computed st n).work - 4) (Done l (record q { pc = ra }) m map st (computed st n).words) (computed st n).outcome
    computed_runs ra a zero low le few copies room watched =
        let shows = making.shows in
        let at = making.at in
        passes l s 0 60 _ (done l.world 60 s _ (record { output = at.output_is ∙ shows.output; input = at.input_is ∙ shows.input }))
    computed_runs ra a (suc n) low le few copies room watched =
        let p = l.table in
        let r = made_call p calls c st n in
        let v : Value = made_object p c st in
        let this = object_made p calls c st n in
        let M = new_object p calls c st n in
        let many = attributes_many l is c within plain made q m map console st s making in
        let heap = room.heap in
        let stack = room.stack in
        let work = this.work_is in
        let words = this.words_are in
        let peak = this.peak_is in
        let way : Way l r.outcome = way_with l r.outcome v (subst (Way l) this.outcome_is room.way) in
        let shows = making.shows in
        let most : ℕ = 64 * (1 + M.work) - 4 in
        subst (λ (o : Outcome Value). Runs l s (suc n) most (Done l (record q { pc = ra }) m map st M.words) o) (sym this.outcome_is)
        (subst (λ (k : ℕ). Runs l s (suc n) most (Done l (record q { pc = ra }) m map st k) (outcome_with v r.outcome)) (sym words)
        (run_with l r.outcome v s (suc n) most (Done l (record q { pc = ra }) m map st (4 + length (attributes p c) + r.words))
        (unless_stuck l r.outcome s (suc n) most _ (λ some.
        let on_way : OnTheWay l.world st.output st.input = way_of l _ r.outcome ((later (Initials c v)).later _ n) some way in
        let on_console : OnTheWay l.world console.output console.input = subst (λ (o : List ℕ). OnTheWay l.world o console.input) (sym shows.output) (subst (λ (i : List ℕ). OnTheWay l.world st.output i) (sym shows.input) on_way) in
        run_past l r.outcome s (suc n) n (7 * size_of l is c + a) (64 * r.work + 20 * length (chain p c)) most _ _ (omega arith)
        (passes_wider l s 1 (suc n - n) (7 * size_of l is c + a) (7 * size_of l is c + a) _ (omega arith) (omega arith) (copies (omega arith) on_console))
        (λ u at. initializes l is c within plain made q m map console st s making calls begun_in n (correct n (omega arith)) ra u low at (record { heap = omega arith; stack = omega arith; way = way }) (λ x h. watched x (initial_begun n x h)))))))

    pub makes : (ra a n : ℕ) → ra < 4294967296 → n ≤ b → a ≤ 30 → Copies ra a → Room l q 0 (make l.table calls (Some c) st n) → ((x : Visit) → object_begun l.table calls begun_in (Some c) st n x → Watched l.watch x)
        → Runs l s n (64 * (make l.table calls (Some c) st n).work - 4) (Done l (record q { pc = ra }) m map st (make l.table calls (Some c) st n).words) (make l.table calls (Some c) st n).outcome
    makes ra a n low le few copies room watched =
        subst (λ (d : Computation Value). Room l q 0 (d st n) → Runs l s n (64 * (d st n).work - 4) (Done l (record q { pc = ra }) m map st (d st n).words) (d st n).outcome) (sym (make_plain l.table calls c plain))
        (λ room. computed_runs ra a n low le few copies room (λ x h. watched x (plain_number c plain, h))) room
