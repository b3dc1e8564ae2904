-- In the code of `if`, the machine reaches the test, and then the branch that is taken, each with the correct values of all names in scope (`Shown`).
use Rattle.std.proofs.Common.{◌≡◌, ℕ, ◌+◌, List, ◌++◌, refl, subst, arith, None}
use Rattle.std.specs.Prelude.{Bool as Truth, true, false, codes, if◌then◌else◌}
use Rattle.std.proofs.lemmas.List.Elements.{Contains-append_left, Contains-append_right}
use Rattle.mips_isa.specs.Lines.{Line}
use Rattle.cool_syntax.specs.declared.place.Place.{Place}
use Rattle.cool_syntax.specs.Tree.{Tree, tree_size}
use Rattle.cool_syntax.specs.Tree as trees
use Rattle.cool_syntax.specs.NodeLists.{root}
use Rattle.cool_rules.specs.Typing.{bool_type}
use Rattle.cool_runtime.specs.Standing.{HasLines, sizes}
use Rattle.cool_runtime.specs.Machines.{At, Pointers}
use Rattle.cool_runtime.proofs.Pieces.{has_front, has_back}
use Rattle.cool_codegen.specs.Pieces.{test_lines, turn_lines, mark_lines}
use Rattle.cool_codegen.specs.Code.{code, label_at}
use Rattle.cool_codegen.specs.Spans.{span, spans}
use Rattle.cool_meaning.specs.Values.{Value, Bool}
use Rattle.cool_meaning.specs.Meters.{seq, ◌>>=◌}
use Rattle.cool_meaning.specs.BasicMethods.{as_truth}
use Rattle.cool_meaning.specs.Evaluation.{Call, Calls, eval}
use Rattle.cool_meaning.proofs.SoundParts.{AllCallsSound}
use Rattle.cool_simulation.specs.Loadings.{Loading, IsLoaded, constants, context}
use Rattle.cool_simulation.specs.Pictures.{Pic}
use Rattle.cool_simulation.specs.Simulation.{Correct, Shown}
use Rattle.cool_simulation.specs.Shown.{AllShown}
use Rattle.cool_simulation.specs.Visits.{Visits}
use Rattle.cool_simulation.proofs.ground.Walks.{tests_true, tests_false}
use Rattle.cool_simulation.proofs.ground.EvaluationLater.{CallsLater, bind_later, if_later, truth_later, eval_later}
use Rattle.cool_simulation.proofs.ground.NextParts.{begins_at}
use Rattle.cool_simulation.proofs.shown.Comings.{Ample, ample_as, ample_ruled, ample_then, cases, comes_behind, room_first}
use Rattle.cool_simulation.proofs.shown.PartsShown.{ample_of, comes_behind_part, own_shown, part_code, part_shown}
use Rattle.cool_simulation.proofs.ground.CodeOfParts.{in_rest}
use Rattle.cool_simulation.proofs.ground.Passages.{plain_lines}

module _ (l : Loading) (loaded : IsLoaded l) (none : l.watch ≡ None) (calls : Calls) (begun_in : Call → Visits) (b : ℕ) (sound : AllCallsSound l.table calls b) (later : CallsLater calls) where
  pub if_shown : (at : Place) (t y z : Tree) → Correct l calls begun_in b t → AllShown l calls begun_in b t → AllShown l calls begun_in b y → AllShown l calls begun_in b z → AllShown l calls begun_in b (trees.If at t y z)
  unfolding test_lines turn_lines mark_lines
  if_shown at t y z correct shown shown1 shown2 = record {
    shown = λ c f k self scope vs env made d first q m map console st s n type x less begins (type1, type2, has, has1, has2, join) code_at room among visit.
        let w = l.world in
        let ctx = context l c f in
        let whole = trees.If at t y z in
        let other = label_at ctx (codes "else") (root first whole) in
        let end = label_at ctx (codes "end") (root first whole) in
        let lt = code ctx (constants l) vs d first t in
        let ly = code ctx (constants l) vs d (first + tree_size t) y in
        let lz = code ctx (constants l) vs d (first + tree_size t + tree_size y) z in
        let r4 : List Line = lz ++ mark_lines end in
        let r3 : List Line = turn_lines end other ++ r4 in
        let r2 : List Line = ly ++ r3 in
        let r1 : List Line = test_lines other ++ r2 in
        let pc1 = q.pc + sizes lt in
        let pc2 = pc1 + 12 in
        let pc3 = pc2 + sizes ly in
        let pc4 = pc3 + 4 in
        let h1 : HasLines w pc1 r1 = has_back w lt r1 q.pc pc1 refl (plain_lines l none q.pc _ code_at.lines) in
        let h2 : HasLines w pc2 r2 = has_back w (test_lines other) r2 pc1 pc2 refl h1 in
        let h3 : HasLines w pc3 r3 = has_back w ly r3 pc2 pc3 refl h2 in
        let tests : HasLines w pc1 (test_lines other) = has_front w (test_lines other) r2 pc1 h1 in
        let at_other : w.place other ≡ pc4 = h3.1.0.labels.0 in
        let own = span vs d first q.pc whole in
        let xt = spans sizes ctx (constants l) vs d first q.pc t in
        let xy = spans sizes ctx (constants l) vs d (first + tree_size t) pc2 y in
        let xz = spans sizes ctx (constants l) vs d (first + tree_size t + tree_size y) pc4 z in
        let F = λ (v : Value). as_truth v >>= λ (o : Truth). if o then eval l.table calls self env y else eval l.table calls self env z in
        let r = eval l.table calls self env t st n in
        let ample : Ample l q 16 (seq r F) = ample_ruled l q 0 (seq r F) (ample_of l loaded none calls begun_in b sound c f k self scope vs env made d first q m map console st s n less begins whole type (type1, type2, has, has1, has2, join) room) in
        let room1 = room_first l r F q 16 (λ v t1 left. (bind_later (truth_later v) (λ o. if_later o (eval_later l.table calls later self env y) (eval_later l.table calls later self env z))).later t1 left) ample in
        cases visit
        (λ e. own_shown l loaded none calls begun_in b sound c f k self scope vs env made d first q m map console st s n less begins whole x (among own (0, omega arith, refl)) e)
        (λ more. cases more
        (λ h. part_shown l calls begun_in b c f vs d first q.pc whole code_at among t shown k self scope vs env made d first q m map console st s n bool_type x
        (λ i h. in_rest own (xt ++ (xy ++ xz)) i (Contains-append_left xt (xy ++ xz) i h)) less begins has room1 h)
        (λ (v, t1, left, e, taken). comes_behind_part l loaded none calls begun_in b sound c f k self scope vs env made d first q m map console st s n less begins t bool_type (Shown l x) v t1 left correct has
        (part_code l calls begun_in b c f vs d first q.pc whole code_at among vs d first q.pc t (λ i h. in_rest own (xt ++ (xy ++ xz)) i (Contains-append_left xt (xy ++ xz) i h))) room1 e
        (λ u j behind.
        let fewer = behind.fewer in
        let used = j.gp_to in
        let q1 : Pointers = record q { pc = pc1; gp = j.gp; acc = j.acc; ra = j.ra } in
        let rest : Ample l q1 16 (F v t1 left) = ample_then l r F q q1 16 16 v t1 left e ample used (omega arith) in
        cases taken
        (λ (is, h).
        let pic : Pic w j.memory j.map' t1.drawn j.gp (Bool true) j.acc = subst (λ o. Pic w j.memory j.map' t1.drawn j.gp o j.acc) is j.value in
        let q2 : Pointers = record q1 { pc = pc2 } in
        let ry = eval l.table calls self env y t1 left in
        let room2 : Ample l q2 0 ry = ample_as l q1 q2 16 0 (F (Bool true) t1 left) ry refl (omega arith) (omega arith) (omega arith) (omega arith) (subst (λ o. Ample l q1 16 (F o t1 left)) is rest) in
        comes_behind w u 1 3 (At w q2 j.memory j.console) (Shown l x) (tests_true w other q1 j.memory j.console u tests j.at pic.0)
        (λ u2 there. part_shown l calls begun_in b c f vs d first q.pc whole code_at among y shown1 k self scope vs env behind.made' d (first + tree_size t) q2 j.memory j.map' j.console t1 u2 left type1 x
        (λ i h. in_rest own (xt ++ (xy ++ xz)) i (Contains-append_right xt (xy ++ xz) i (Contains-append_left xy xz i h))) (omega arith)
        (begins_at l loaded calls b sound c k self scope vs env behind.made' d q1 j.memory j.map' j.console t1 u u2 pc2 j.acc j.ra behind.begins there) has1 room2.room h))
        (λ (is, h).
        let pic : Pic w j.memory j.map' t1.drawn j.gp (Bool false) j.acc = subst (λ o. Pic w j.memory j.map' t1.drawn j.gp o j.acc) is j.value in
        let q2 : Pointers = record q1 { pc = pc4 } in
        let rz = eval l.table calls self env z t1 left in
        let room2 : Ample l q2 0 rz = ample_as l q1 q2 16 0 (F (Bool false) t1 left) rz refl (omega arith) (omega arith) (omega arith) (omega arith) (subst (λ o. Ample l q1 16 (F o t1 left)) is rest) in
        comes_behind w u 0 3 (At w (record q1 { pc = w.place other }) j.memory j.console) (Shown l x) (tests_false w other q1 j.memory j.console u tests j.at pic.0)
        (λ u2 there. part_shown l calls begun_in b c f vs d first q.pc whole code_at among z shown2 k self scope vs env behind.made' d (first + tree_size t + tree_size y) q2 j.memory j.map' j.console t1 u2 left type2 x
        (λ i h. in_rest own (xt ++ (xy ++ xz)) i (Contains-append_right xt (xy ++ xz) i (Contains-append_right xy xz i h))) (omega arith)
        (begins_at l loaded calls b sound c k self scope vs env behind.made' d q1 j.memory j.map' j.console t1 u u2 pc4 j.acc j.ra behind.begins
        (subst (λ a. At w (record q1 { pc = a }) j.memory j.console u2) at_other there)) has2 room2.room h)))));
  }
