-- In the code of a case, the machine reaches the case's value, and then the body of the branch that is taken, each with the correct values of all names in
-- scope (`Shown`).
use Rattle.std.proofs.Common.{◌≡◌, ℕ, ◌+◌, ◌-◌, ◌*◌, ◌<◌, List, [], ◌∷◌, ◌++◌, length, get_or, Option, Some, ap, sym, ◌∙◌, refl, subst, arith, None}
use Rattle.std.specs.Prelude.{Contains}
use Rattle.std.specs.List.{AllByRecursion}
use Rattle.std.proofs.lemmas.List.Elements.{Contains-append_left, Contains-append_right}
use Rattle.mips_isa.specs.Bytes.{set_word}
use Rattle.cool_syntax.specs.declared.place.Place.{Place}
use Rattle.cool_syntax.specs.Tree.{Tree, Cases, NoCase, CaseOf, tree_size}
use Rattle.cool_syntax.specs.Tree as trees
use Rattle.cool_classes.specs.declared.class_id.ClassId.{ClassId}
use Rattle.cool_classes.specs.declared.class_id.Ty.{Ty}
use Rattle.cool_classes.specs.declared.class_id.Ty.TheVariants.{Class as IsClass}
use Rattle.cool_classes.specs.ClimbedChains.{chain}
use Rattle.cool_classes.proofs.ChainsOfTables.{chain_is}
use Rattle.cool_rules.specs.Conformance.{class_of as class_meant}
use Rattle.cool_rules.specs.Typing.{with_name}
use Rattle.cool_runtime.specs.Standing.{sizes}
use Rattle.cool_runtime.specs.Machines.{Pointers}
use Rattle.cool_codegen.specs.Asked.{integers_in, strings_in, integers_in_cases, strings_in_cases, file_of}
use Rattle.cool_codegen.specs.Code.{code}
use Rattle.cool_codegen.specs.Spans.{Span, span, spans}
use Rattle.cool_codegen.specs.Variables.{bind}
use Rattle.cool_meaning.specs.Values.{Value, State, Environment}
use Rattle.cool_meaning.specs.Meters.{CaseVoid, Computation, Metered, given, locate, seq, working, ◌>>=◌}
use Rattle.cool_meaning.specs.Evaluation.{Branch, Call, Calls, branch_count, branch_of, class_or, eval, nearest, take_branch}
use Rattle.cool_meaning.specs.FittingValues.{Fits}
use Rattle.cool_meaning.proofs.FittingValues.{class_fits, fits_above}
use Rattle.cool_meaning.proofs.SoundParts.{AllCallsSound}
use Rattle.cool_simulation.specs.Loadings.{Loading, IsLoaded, constants, context}
use Rattle.cool_simulation.specs.Simulation.{Begins, Correct, Shown}
use Rattle.cool_simulation.specs.Shown.{AllShown}
use Rattle.cool_simulation.specs.Visits.{Visits, behind, begun, branch_begun, nearest_name}
use Rattle.cool_simulation.proofs.forms.BranchOrder.{Entry, branch, entries, first_among, nearest_is}
use Rattle.cool_simulation.proofs.forms.CaseArms.{all_entries, first_has}
use Rattle.cool_simulation.proofs.forms.CaseBranches.{nearest_later, take_later}
use Rattle.cool_simulation.proofs.forms.CaseCorrect.{class_or_later, rest_of}
use Rattle.cool_simulation.proofs.forms.CaseParts.{BodiesCorrect, Good, all_good}
use Rattle.cool_simulation.proofs.forms.CaseTaken.{Taken, finds}
use Rattle.cool_simulation.proofs.forms.TagTests.{among_there, chain_all}
use Rattle.cool_simulation.proofs.ground.BoundVariables.{bound_begins}
use Rattle.cool_simulation.proofs.ground.CodeOfParts.{Asks, asks_back, asks_of, in_rest}
use Rattle.cool_simulation.proofs.ground.EvaluationLater.{CallsLater, ComesLater, bind_later}
use Rattle.cool_simulation.proofs.ground.Homes.{homed}
use Rattle.cool_simulation.proofs.ground.Operands.{shown_way}
use Rattle.cool_simulation.proofs.ground.PartsOfRuns.{way_of}
use Rattle.cool_simulation.proofs.shown.CallsBegun.{class_behind}
use Rattle.cool_simulation.proofs.shown.CaseChoice.{entry_begun, given_behind}
use Rattle.cool_simulation.proofs.shown.Comings.{Ample, ample_as, ample_ruled, ample_then, cases, comes_behind, room_first, value_behind}
use Rattle.cool_simulation.proofs.shown.PartsShown.{ample_of, comes_behind_part, own_shown, part_code, part_shown}
use Rattle.cool_simulation.proofs.forms.CasePieces.{end_of, sorted, tests_at, told_inside}
use Rattle.cool_simulation.proofs.forms.NamedBranches.{chosen}

-- `Shown` for the bodies of branches
abbrev pub BodiesShown : Loading → Calls → (Call → Visits) → ℕ → Cases → Type 0
BodiesShown l calls begun_in b NoCase = Unit {0}
BodiesShown l calls begun_in b (CaseOf at name declared t cs) = AllShown l calls begun_in b t × BodiesShown l calls begun_in b cs

module _ (l : Loading) (loaded : IsLoaded l) (none : l.watch ≡ None) (calls : Calls) (begun_in : Call → Visits) (b : ℕ) (sound : AllCallsSound l.table calls b) (later : CallsLater calls) where
  entries_shown : (c : ClassId) (k : ℕ) (cs : Cases) → BodiesShown l calls begun_in b cs → AllByRecursion (λ (e : Entry). AllShown l calls begun_in b e.tree) (entries l.table c k cs)
  entries_shown c k NoCase h = tt
  entries_shown c k (CaseOf at name declared t cs) h = (h.0, entries_shown c (k + tree_size t) cs h.1)

  pub case_shown : (at : Place) (t : Tree) (cs : Cases) → Correct l calls begun_in b t → BodiesCorrect l loaded calls begun_in b cs → AllShown l calls begun_in b t → BodiesShown l calls begun_in b cs → AllShown l calls begun_in b (trees.Case at t cs)
  case_shown at t cs correct bodies shown bodies_shown = record {
    shown = λ c f k self scope vs env made d first q m map console st s n type x less begins (type1, ts, has, have, different, join) code_at room among visit.
        let p = l.table in
        let w = l.world in
        let typed = loaded.buildable.typed in
        let small = code_at.small in
        let ctx = context l c f in
        let whole = trees.Case at t cs in
        let end = end_of l c f vs d first q.pc at t cs in
        let lt = code ctx (constants l) vs d first t in
        let k1 = first + tree_size t in
        let es : List Entry = sorted l c f vs d first q.pc at t cs in
        let pc1 = q.pc + sizes lt in
        let own = span vs d first q.pc whole in
        let xt = spans sizes ctx (constants l) vs d first q.pc t in
        let F : Value → Computation Value = λ v. class_or (CaseVoid at) v >>= rest_of l loaded calls begun_in b sound later self env at cs v in
        let F_later : (v : Value) → ComesLater (F v) =
        λ v. bind_later (class_or_later (CaseVoid at) v) (λ c'. record { later = (take_later at c' v (nearest p (branch_of p calls self env cs) (chain p c')) (nearest_later p calls later self env cs (chain p c'))).later }) in
        let r = eval p calls self env t st n in
        let ample : Ample l q 16 (seq r F) = ample_ruled l q 0 (seq r F) (ample_of l loaded none calls begun_in b sound c f k self scope vs env made d first q m map console st s n less begins whole type (type1, ts, has, have, different, join) room) in
        let room1 = room_first l r F q 16 (λ v t1 left. (F_later v).later t1 left) ample in
        let in_t : (y : Span) → Contains xt y → Contains (spans sizes ctx (constants l) vs d first q.pc whole) y = λ y i. in_rest own _ y (Contains-append_left xt _ y i) in
        let asks = asks_of l c f vs d first q.pc whole code_at in
        let ic = integers_in_cases cs in
        let xf = file_of l.files at in
        let xc = strings_in_cases l.files cs in
        let asks1 : Asks l ic (xf ++ xc) = asks_back l (integers_in t) ic (strings_in l.files t) (xf ++ xc) asks in
        let asks2 : Asks l ic xc = record { integers_there = asks1.integers_there; strings_there = λ bytes there. asks1.strings_there bytes (Contains-append_right xf xc bytes there) } in
        let named : Contains (constants l).strings (get_or l.files at.file []) = asks1.strings_there (get_or l.files at.file []) (Contains-append_left xf xc (get_or l.files at.file []) (0, omega arith, refl)) in
        let placed = code_at.within.0.1 in
        let line_small : at.line < 2147483648 = omega arith in
        let good : AllByRecursion (Good l loaded calls begun_in b c scope d) es =
        all_entries (Good l loaded calls begun_in b c scope d) p [] (entries p c k1 cs) tt (all_good l loaded calls begun_in b c scope d k1 cs ts have asks2 code_at.within.2 (omega arith) bodies) in
        let all_shown : AllByRecursion (λ (e : Entry). AllShown l calls begun_in b e.tree) es = all_entries (λ (e : Entry). AllShown l calls begun_in b e.tree) p [] (entries p c k1 cs) tt (entries_shown c k1 cs bodies_shown) in
        cases visit
        (λ e. own_shown l loaded none calls begun_in b sound c f k self scope vs env made d first q m map console st s n less begins whole x (among own (0, omega arith, refl)) e)
        (λ more. cases more
        (λ h. part_shown l calls begun_in b c f vs d first q.pc whole code_at among t shown k self scope vs env made d first q m map console st s n type1 x in_t less begins has room1 h)
        (λ (v, t1, left, e, h). comes_behind_part l loaded none calls begun_in b sound c f k self scope vs env made d first q m map console st s n less begins t type1 (Shown l x) v t1 left correct has
        (part_code l calls begun_in b c f vs d first q.pc whole code_at among vs d first q.pc t in_t) room1 e
        (λ u j behind1.
        let fewer = behind1.fewer in
        let used = j.gp_to in
        let q1 : Pointers = record q { pc = pc1; gp = j.gp; acc = j.acc; ra = j.ra } in
        let rest : Ample l q1 16 (F v t1 left) = ample_then l r F q q1 16 16 v t1 left e ample used (omega arith) in
        let (jc, is, h2, rest2) = class_behind l (CaseVoid at) v (λ y. behind (given (nearest_name p calls begun_in cs (chain p y))) (λ name. branch_begun p calls begun_in c f self env k1 v name cs))
        (rest_of l loaded calls begun_in b sound later self env at cs v) q1 16 t1 left x h rest in
        let (name, near, h3) = given_behind (nearest_name p calls begun_in cs (chain p jc)) (λ name. branch_begun p calls begun_in c f self env k1 v name cs) t1 left x h2 in
        let (y, there, h4') = entry_begun p c calls begun_in c f self env k1 v name cs t1 left x h3 in
        let (below, jc_in, fits) = class_fits p typed behind1.made' v (class_meant k type1) jc behind1.value_fits is in
        let all_in = chain_all p typed.whole jc jc_in in
        let is_first : first_among (chain p jc) es ≡ Some y = chosen p c calls begun_in typed.whole.table cs k1 scope ts have jc jc_in all_in name y near there in
        let has_y = first_has (Good l loaded calls begun_in b c scope d) (chain p jc) es y good is_first in
        let shown_y = first_has (λ (z : Entry). AllShown l calls begun_in b z.tree) (chain p jc) es y all_shown is_first in
        let fit : Fits p behind1.made' v y.class = fits_above p typed behind1.made' v jc y.class fits (chain p jc, chain_is p jc typed.whole.table jc_in, among_there (chain p jc) y.class has_y.1) in
        let env' : Environment = record { name = y.name; location = length t1.store } ∷ env in
        let t1' : State = record t1 { store = t1.store ++ v ∷ [] } in
        let taken : Option Branch → Metered Value = λ o. working (branch_count cs * length (chain p jc)) (take_branch at jc v o) t1 left in
        let nearest_one = nearest_is p typed.whole.table calls self env c cs k1 scope ts have jc jc_in all_in ∙ ap (branch p calls self env) is_first in
        let rest3 : Ample l q1 16 (taken (branch p calls self env (Some y))) = subst (λ o. Ample l q1 16 (taken o)) nearest_one rest2 in
        let numbers = begins.at.numbers in
        let laid = w.laid in
        let stack = rest.room.stack in
        let way1 = shown_way l t1 j.console j.shows (way_of l t1 (F v t1 left).outcome ((F_later v).later t1 left) rest.alive rest.room.way) in
        comes_behind w u 0 (15 + 4 * length es)
        (Taken l loaded calls begun_in b later c f k self scope vs env behind1.made' d end q m map st t1 u r.words pc1 v j behind1.begins at named line_small jc is jc_in fits es good (first_among (chain p jc) es)) (Shown l x)
        (finds l loaded calls begun_in b later c f k self scope vs env behind1.made' d end q m map st t1 u r.words pc1 v j behind1.begins at named line_small jc is jc_in fits es good (tests_at l c f vs d first q.pc at t cs code_at) (omega arith) way1)
        (λ u2 found.
        let (pc2, lines2, turn2, in_y, tagged) = subst (λ o. Taken l loaded calls begun_in b later c f k self scope vs env behind1.made' d end q m map st t1 u r.words pc1 v j behind1.begins at named line_small jc is jc_in fits es good o u2) is_first found in
        let q2 : Pointers = record q { pc = pc2; gp = j.gp; sp = q.sp - 4; acc = j.acc; ra = j.ra } in
        let m1 = set_word j.memory (q.sp - 4) j.acc in
        let map1 = homed j.map' (length t1.store) (q.sp - 4) in
        let scope' = with_name y.name (IsClass y.class) scope in
        let made' = behind1.made' ++ class_meant k (IsClass y.class) ∷ [] in
        let small_y = has_y.0.small in
        let begins2 : Begins l c k self scope' (bind d y.name y.bound vs) env' made' (d + 1) q2 m1 map1 j.console t1' u2 =
        subst (λ (z : Ty). Begins l c k self scope' (bind d y.name z vs) env' made' (d + 1) q2 m1 map1 j.console t1' u2) (sym has_y.0.bound)
        (bound_begins l c k self scope vs env behind1.made' d q1 j.memory j.map' j.console t1 u u2 y.name (IsClass y.class) v pc2 behind1.begins j.value fit (omega arith) tagged.at) in
        let ry = eval p calls self env' y.tree t1' left in
        let rest4 : Ample l q2 0 ry = ample_as l q1 q2 16 0 (taken (branch p calls self env (Some y))) ry refl (omega arith) (omega arith) (omega arith) (omega arith) rest3 in
        part_shown l calls begun_in b c f vs d first q.pc whole code_at among y.tree shown_y.0 k self scope' (bind d y.name y.bound vs) env' made' (d + 1) y.first q2 m1 map1 j.console t1' u2 left has_y.0.type x
        (λ z i. told_inside l c f vs d first q.pc at t cs z (in_y z i)) (omega arith) begins2 has_y.0.has rest4.room
        (value_behind (locate v) (λ i. begun p calls begun_in c f self (record { name = y.name; location = i } ∷ env) y.first y.tree) t1 left x h4')))));
  }
