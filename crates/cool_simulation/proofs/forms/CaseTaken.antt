-- If the value of a case is not void, its code loads the class tag, pushes the value, and reaches the branch that the semantics takes, or an error exit if none
-- matches.
use Rattle.std.proofs.Common.{◌≡◌, ℕ, ◌+◌, ◌-◌, ◌*◌, ◌<◌, ◌≤◌, List, [], ◌∷◌, ◌++◌, length, get_or, Option, Some, None, sym, refl, subst, arith}
use Rattle.std.specs.Prelude.{Contains}
use Rattle.std.specs.List.{AllByRecursion}
use Rattle.mips_isa.specs.Bytes.{Bytes}
use Rattle.mips_isa.specs.Calls.{State as Machine}
use Rattle.mips_isa.specs.Lines.{Name, Line}
use Rattle.cool_syntax.specs.declared.place.Place.{Place}
use Rattle.cool_classes.specs.declared.class_id.ClassId.{ClassId}
use Rattle.cool_classes.specs.ClimbedChains.{chain}
use Rattle.cool_classes.proofs.ChainsOfTables.{chain_is}
use Rattle.cool_rules.specs.Scopes.{Binding}
use Rattle.cool_runtime.specs.Reaches.{OnTheWay, Reaches, stands}
use Rattle.cool_runtime.specs.Standing.{HasLines, sizes}
use Rattle.cool_runtime.specs.Labels.{case_abort}
use Rattle.cool_runtime.specs.Contents.{Same}
use Rattle.cool_runtime.specs.Machines.{Pointers}
use Rattle.cool_runtime.proofs.Pieces.{next}
use Rattle.cool_layout.specs.Preorder.{tag}
use Rattle.cool_codegen.specs.Variables.{Named}
use Rattle.cool_codegen.specs.Code.{file_label}
use Rattle.cool_codegen.specs.Pieces.{case_end_lines}
use Rattle.cool_meaning.specs.Values.{Value, State, Environment, class_of}
use Rattle.cool_meaning.specs.Meters.{Metered}
use Rattle.cool_meaning.specs.Evaluation.{Call, Calls, take_branch}
use Rattle.cool_meaning.specs.FittingValues.{Fits}
use Rattle.cool_meaning.proofs.FittingValues.{fits_above}
use Rattle.cool_meaning.specs.FittingValues as fitting
use Rattle.cool_simulation.specs.Loadings.{Loading, IsLoaded, constants, context, Watched}
use Rattle.cool_simulation.specs.Pictures.{Map, Pic, Pictures}
use Rattle.cool_simulation.specs.Simulation.{Begins, Runs, Done, Placed}
use Rattle.cool_simulation.specs.Visits.{Visits, Visit, begun}
use Rattle.cool_simulation.proofs.ground.EvaluationLater.{CallsLater}
use Rattle.cool_simulation.proofs.ground.PartsOfRuns.{run_after, run_wider, unless_stuck, way_of, Rest}
use Rattle.cool_simulation.proofs.ground.PartsBehind.{push_same}
use Rattle.cool_simulation.proofs.ground.PicturesStay.{pic_stays, staying_same, pictures_same, pictures_lower}
use Rattle.cool_simulation.proofs.ground.Operands.{limits_of}
use Rattle.cool_simulation.proofs.forms.BranchOrder.{Entry, branch, first_among}
use Rattle.cool_simulation.proofs.forms.TagTests.{among_there}
use Rattle.cool_simulation.proofs.forms.CaseLines.{case_takes_tag, case_pushes, goes_to_no_branch}
use Rattle.cool_simulation.proofs.forms.CaseArms.{Found, tries, first_has, told}
use Rattle.cool_simulation.proofs.forms.CaseEnds.{value_tagged, no_branch_stops}
use Rattle.cool_simulation.proofs.forms.CaseParts.{Good}
use Rattle.cool_simulation.proofs.forms.CaseBranches.{take_later, entry_later, behind, bound_at, bound_memory, body, branch_runs}
use Rattle.cool_simulation.proofs.forms.CasePieces.{TestsAt, arms}
use Rattle.cool_simulation.proofs.ground.Passages.{passes}
use Rattle.cool_codegen.specs.Spans.{Span}

module _ (l : Loading) (is : IsLoaded l) (calls : Calls) (begun_in : Call → Visits) (b : ℕ) (later : CallsLater calls) (c : ClassId) (f : ℕ) (k : ClassId) (self : Value) (scope : List Binding) (vs : List Named) (env : Environment) (made : fitting.World) (d : ℕ) (end : Name)
    (q : Pointers) (m : Bytes) (map : Map) (st t1 : State) (u : Machine) (words pc1 : ℕ) (v : Value) (j : Done l (record q { pc = pc1 }) m map st words v t1 u)
    (begins : Begins l c k self scope vs env made d (record q { pc = pc1; gp = j.gp; acc = j.acc; ra = j.ra }) j.memory j.map' j.console t1 u)
    (at : Place) (among_strings : Contains (constants l).strings (get_or l.files at.file [])) (small : at.line < 2147483648) (jc : ClassId) (class : class_of v ≡ Some jc) (jc_in : jc.0 < length l.table) (fits : Fits l.table made v jc)
    (es : List Entry) (good : AllByRecursion (Good l is calls begun_in b c scope d) es)
  where
    abbrev file : Name
    file = file_label (context l c f) (constants l) at

    abbrev branches : List Line
    branches = arms l c f vs d end at es

    abbrev pub Stands : Type 0
    Stands = TestsAt l c f vs d end at es pc1

    -- the spans of the branches
    abbrev pub IsTold : Span → Type 0
    IsTold y = Contains (told (context l c f) (constants l) vs d end (pc1 + 28 + 20) es) y

    -- the visits of the branch that is taken
    abbrev pub AllWatched : ℕ → Type 0
    AllWatched n = (e : Entry) → first_among (chain l.table jc) es ≡ Some e → (x : Visit)
        → begun l.table calls begun_in c f self (record { name = e.name; location = length t1.store } ∷ env) e.first e.tree (record t1 { store = t1.store ++ v ∷ [] }) n x → Watched l.watch x

    -- the outcome of the value
    abbrev pub taken : Option Entry → ℕ → Metered Value
    taken o n = take_branch at jc v (branch l.table calls self env o) t1 n

    -- the address at which the case ends
    abbrev pub final : ℕ
    final = pc1 + 28 + 20 + sizes branches + 8

    pub few_classes : length l.table < 32768
    few_classes = let few = is.buildable.fits.table.classes in omega arith

    -- the state that is pictured after the push of the value
    pushed_pictures : Pictures l.table l.world l.memory (bound_memory l is calls begun_in b c f k self scope vs env made d end q m map st t1 u words pc1 v j begins) j.map' t1 j.gp (q.sp - 4)
    pushed_pictures =
        let laid = l.world.laid in
        let numbers = begins.at.numbers in
        let same : Same j.memory _ j.gp q.sp = push_same l.world j.memory j.gp q.sp j.acc (omega arith) in
        pictures_lower l.world l.table l.memory _ j.map' t1 j.gp q.sp (q.sp - 4) (omega arith) (pictures_same l.world l.table l.memory j.memory _ j.map' t1 j.gp j.gp q.sp numbers.gp_from (omega arith) same j.pictures)

    pushed_pic : Pic l.world (bound_memory l is calls begun_in b c f k self scope vs env made d end q m map st t1 u words pc1 v j begins) j.map' t1.drawn j.gp v j.acc
    pushed_pic =
        let laid = l.world.laid in
        let numbers = begins.at.numbers in
        let same : Same j.memory _ j.gp q.sp = push_same l.world j.memory j.gp q.sp j.acc (omega arith) in
        pic_stays l.world j.memory _ j.map' j.map' t1.drawn t1.drawn j.gp j.gp v j.acc (omega arith) (omega arith) (staying_same l.world j.memory _ j.map' t1.drawn j.gp q.sp same) j.value

    in_table : (xs : List Entry) → AllByRecursion (Good l is calls begun_in b c scope d) xs → AllByRecursion (λ e. e.class.0 < length l.table) xs
    in_table [] h = tt
    in_table (e ∷ xs) h = (h.0.within, in_table xs h.1)

    found_runs : (n whole : ℕ) (u2 : Machine) (o : Option Entry) → first_among (chain l.table jc) es ≡ o → n ≤ b → HasLines l.world (pc1 + 28 + 20 + sizes branches) (case_end_lines end)
        → Found (context l c f) (constants l) vs d end l is.buildable.typed.whole few_classes file at.line jc jc_in (bound_memory l is calls begun_in b c f k self scope vs env made d end q m map st t1 u words pc1 v j begins) j.console
        (bound_at l is calls begun_in b c f k self scope vs env made d end q m map st t1 u words pc1 v j begins 0) IsTold (pc1 + 28 + 20 + sizes branches) o u2
        → Rest l q 16 words (taken o n) → words + (taken o n).words ≤ whole → ((y : Span) → IsTold y → Placed l c f y) → AllWatched n
        → Runs l u2 n (64 * (taken o n).work + 40) (Done l (record q { pc = final }) m map st whole) (taken o n).outcome
    found_runs n whole u2 None e le ends there rest sum placed watched =
        let low = begins.at.numbers.gp_from in
        passes l u2 0 40 _
        (next l.world u2 1 27 40 _ _
        (goes_to_no_branch l.world file at.line (tag l.table jc) end (bound_at l is calls begun_in b c f k self scope vs env made d end q m map st t1 u words pc1 v j begins (pc1 + 28 + 20 + sizes branches)) _ j.console u2 ends there) (omega arith)
        (λ u3 at3. no_branch_stops l is _ j.map' t1 (bound_at l is calls begun_in b c f k self scope vs env made d end q m map st t1 u words pc1 v j begins (l.world.place case_abort)) low pushed_pictures at c f v jc j.console u3 jc_in class pushed_pic
        among_strings small j.shows at3))
    found_runs n whole u2 (Some e) eq le ends (pc2, lines, turn, inside, there) rest sum placed watched =
        let p = l.table in
        let typed = is.buildable.typed in
        let has = first_has (Good l is calls begun_in b c scope d) (chain p jc) es e good eq in
        let fit : Fits p made v e.class = fits_above p typed made v jc e.class fits (chain p jc, chain_is p jc typed.whole.table jc_in, among_there (chain p jc) e.class has.1) in
        let r = body l is calls begun_in b c f k self scope vs env made d end q m map st t1 u words pc1 v j begins e n in
        let heap = rest.heap in
        let stack = rest.stack in
        let used = j.gp_to in
        run_wider l r.outcome u2 n (64 * r.work - 4 + 2) (64 * (0 + r.work) + 40) _ (omega arith)
        (branch_runs l is calls begun_in b c f k self scope vs env made d end q m map st t1 u words pc1 v j begins e has.0 fit n pc2 (pc1 + 28 + 20 + sizes branches) whole u2 le there.at
        (record { lines = lines; integers = has.0.asks.integers_there; strings = has.0.asks.strings_there; within = has.0.limits; small = has.0.small; spans = λ y h. placed y (inside y h) }) turn ends
        (record { heap = omega arith; stack = omega arith; way = rest.way }) (omega arith) (watched e eq))

    -- the target of the tests: the code of a branch, or the code after all
    abbrev pub Taken : Option Entry → Machine → Type 0
    Taken =
        Found (context l c f) (constants l) vs d end l is.buildable.typed.whole few_classes file at.line jc jc_in (bound_memory l is calls begun_in b c f k self scope vs env made d end q m map st t1 u words pc1 v j begins) j.console
        (bound_at l is calls begun_in b c f k self scope vs env made d end q m map st t1 u words pc1 v j begins 0) IsTold (pc1 + 28 + 20 + sizes branches)

    -- the tag, the push and the tests
    pub finds : Stands → l.world.low + 4 ≤ q.sp → OnTheWay l.world j.console.output j.console.input → Reaches l.world u 0 (15 + 4 * length es) (stands (Taken (first_among (chain l.table jc) es)))
    finds stand high on_console =
        let w = l.world in
        let laid = w.laid in
        let numbers = begins.at.numbers in
        let q1 : Pointers = behind l is calls begun_in b c f k self scope vs env made d end q m map st t1 u words pc1 v j begins in
        let m2 : Bytes = bound_memory l is calls begun_in b c f k self scope vs env made d end q m map st t1 u words pc1 v j begins in
        let tagged = value_tagged l is j.memory j.map' t1 q1 numbers.gp_from j.pictures v jc j.acc class j.value in
        next w u 7 (8 + 4 * length es) (15 + 4 * length es) _ _ (case_takes_tag w file at.line (tag l.table jc) q1 j.memory j.console u stand.begins j.at (omega arith) tagged.lies tagged.tag_is) (omega arith)
        (λ u1 g1. next w u1 8 (4 * length es) (8 + 4 * length es) _ _ (case_pushes w file at.line (tag l.table jc) (record q1 { pc = pc1 + 28 }) j.memory j.console u1 (limits_of l is) stand.pushes g1 (omega arith) on_console) (omega arith)
        (λ u2 g2. tries (context l c f) (constants l) vs d end l is.buildable.typed.whole few_classes file at.line jc jc_in m2 j.console
        (bound_at l is calls begun_in b c f k self scope vs env made d end q m map st t1 u words pc1 v j begins 0) IsTold es (in_table es good) (pc1 + 28 + 20) stand.bodies stand.free (λ y h. h) u2 g2))

    -- the run from the lines after the value
    pub taken_runs : (n nB whole : ℕ) → n ≤ b → length es ≤ nB → Stands → Rest l q 16 words (taken (first_among (chain l.table jc) es) n) → words + (taken (first_among (chain l.table jc) es) n).words ≤ whole
        → ((y : Span) → IsTold y → Placed l c f y) → AllWatched n
        → Runs l u n (64 * (nB + (taken (first_among (chain l.table jc) es) n).work) + 60) (Done l (record q { pc = final }) m map st whole) (taken (first_among (chain l.table jc) es) n).outcome
    taken_runs n nB whole le many stand rest sum placed watched =
        let w = l.world in
        let o = first_among (chain l.table jc) es in
        let D = taken o n in
        let laid = w.laid in
        let numbers = begins.at.numbers in
        let stack = rest.stack in
        let shows = j.shows in
        unless_stuck l D.outcome u n _ _ (λ some.
        let way : OnTheWay w t1.output t1.input = way_of l t1 D.outcome ((take_later at jc v _ (entry_later l.table calls later self env o)).later t1 n) some rest.way in
        let on_console : OnTheWay w j.console.output j.console.input = subst (λ (x : List ℕ). OnTheWay w x j.console.input) (sym shows.output) (subst (λ (i : List ℕ). OnTheWay w t1.output i) (sym shows.input) way) in
        run_after l D.outcome u n (15 + 4 * length es) (64 * D.work + 40) (64 * (nB + D.work) + 60) _ _ (omega arith)
        (finds stand (omega arith) on_console)
        (λ u2 found. found_runs n whole u2 o refl le stand.ends found rest sum placed watched))
