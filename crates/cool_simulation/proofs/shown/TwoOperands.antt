-- In the code of an operator with two operands, the machine reaches the first operand, and after the push of its value the second, each in the correct state
-- (`Shown`).
use Rattle.std.proofs.Common.{ℕ, ◌+◌, ◌-◌, ◌≤◌, List, ◌++◌, ◌⊎◌, refl, arith, ◌≡◌, None}
use Rattle.std.specs.Prelude.{Contains}
use Rattle.std.proofs.lemmas.List.Elements.{Contains-append_left, Contains-append_right}
use Rattle.mips_isa.specs.Bytes.{Bytes, set_word}
use Rattle.mips_isa.specs.Calls.{State as Machine}
use Rattle.mips_isa.specs.Lines.{Line}
use Rattle.cool_syntax.specs.declared.place.Place.{Place}
use Rattle.cool_syntax.specs.declared.operator.ArithOp.{ArithOp}
use Rattle.cool_syntax.specs.declared.operator.CompareOp.{CompareOp}
use Rattle.cool_syntax.specs.Tree.{Tree, tree_size}
use Rattle.cool_syntax.specs.Tree as trees
use Rattle.cool_syntax.specs.NodeLists.{root}
use Rattle.cool_classes.specs.declared.class_id.ClassId.{ClassId}
use Rattle.cool_classes.specs.declared.class_id.Ty.{Ty}
use Rattle.cool_rules.specs.Scopes.{Binding}
use Rattle.cool_rules.specs.Typing.{HasType, int_type}
use Rattle.cool_runtime.specs.Standing.{HasLines, sizes}
use Rattle.cool_runtime.specs.Machines.{At, Pointers, Console}
use Rattle.cool_runtime.specs.Routines.{push_lines}
use Rattle.cool_runtime.proofs.Allocating.{push}
use Rattle.cool_runtime.proofs.Pieces.{has_front, has_back}
use Rattle.cool_codegen.specs.Code.{arith_code, code, compare_code}
use Rattle.cool_codegen.specs.Spans.{Span, span, spans}
use Rattle.cool_codegen.specs.Variables.{Named}
use Rattle.cool_meaning.specs.Values.{Value, State, Environment}
use Rattle.cool_meaning.specs.Meters.{Computation, seq, rule, ◌>>=◌}
use Rattle.cool_meaning.specs.BasicMethods.{as_number}
use Rattle.cool_meaning.specs.Evaluation.{Call, Calls, arithmetic, compare, eval}
use Rattle.cool_meaning.specs.FittingValues as fitting
use Rattle.cool_meaning.proofs.SoundParts.{AllCallsSound}
use Rattle.cool_simulation.specs.Loadings.{Loading, IsLoaded, constants, context}
use Rattle.cool_simulation.specs.Pictures.{Map}
use Rattle.cool_simulation.specs.Simulation.{Begins, CodeAt, Correct, IsSpan, Shown}
use Rattle.cool_simulation.specs.Shown.{AllShown, Comes}
use Rattle.cool_simulation.specs.Visits.{Visit, Visits, behind, begun}
use Rattle.cool_simulation.proofs.ground.EvaluationLater.{CallsLater, ComesLater, arithmetic_later, bind_later, compare_later, eval_later, number_later}
use Rattle.cool_simulation.proofs.ground.NextParts.{begins_pushed}
use Rattle.cool_simulation.proofs.ground.Operands.{limits_of, shown_way}
use Rattle.cool_simulation.proofs.ground.PartsOfRuns.{way_of}
use Rattle.cool_simulation.proofs.shown.Comings.{Ample, ample_ruled, ample_then, cases, comes_behind, room_first}
use Rattle.cool_simulation.proofs.shown.OnePart.{first_shown}
use Rattle.cool_simulation.proofs.shown.PartsShown.{ample_of, comes_behind_part, own_shown, part_code, part_shown}
use Rattle.cool_simulation.proofs.ground.CodeOfParts.{in_rest}
use Rattle.cool_simulation.proofs.ground.Passages.{plain_lines}

module _ (l : Loading) (loaded : IsLoaded l) (none : l.watch ≡ None) (calls : Calls) (begun_in : Call → Visits) (b : ℕ) (sound : AllCallsSound l.table calls b) (later : CallsLater calls) where
  -- the operands of an expression whose code has the first, a push, and the second
  pub operands_shown : (whole ta tb : Tree) (G : Value → Value → Computation Value) → ((v w : Value) → ComesLater (G v w)) → Correct l calls begun_in b ta → AllShown l calls begun_in b ta → AllShown l calls begun_in b tb → (c : ClassId) (f : ℕ)
      (k : ClassId) (self : Value) (scope : List Binding) (vs : List Named) (env : Environment) (made : fitting.World) (d first : ℕ) (q : Pointers) (m : Bytes) (map : Map) (console : Console) (st : State) (s : Machine) (n : ℕ)
      (type type' : Ty) (x : Visit) (more : List Line) → n ≤ b → Begins l c k self scope vs env made d q m map console st s → HasType l.table c scope ta type → HasType l.table c scope tb type'
      → CodeAt l c f vs d first q.pc whole → HasLines l.world q.pc (code (context l c f) (constants l) vs d first ta ++ (push_lines ++ more))
      → Ample l q 0 (rule (eval l.table calls self env ta >>= λ v. eval l.table calls self env tb >>= λ w. G v w) st n)
      → ((y : Span) → Contains (spans sizes (context l c f) (constants l) vs d first q.pc whole) y → IsSpan l c f y)
      → ((y : Span)
      → Contains (spans sizes (context l c f) (constants l) vs d first q.pc ta
      ++ spans sizes (context l c f) (constants l) vs (d + 1) (first + tree_size ta) (q.pc + sizes (code (context l c f) (constants l) vs d first ta) + 20) tb) y
      → Contains (spans sizes (context l c f) (constants l) vs d first q.pc whole) y)
      → begun l.table calls begun_in c f self env first ta st n x
      ⊎ behind (eval l.table calls self env ta) (λ v. begun l.table calls begun_in c f self env (first + tree_size ta) tb) st n x → Comes l.world s (Shown l x)
  operands_shown whole ta tb G comes correct shown shown' c f k self scope vs env made d first q m map console st s n type type' x more less begins has has' code_at lines ample among inside visit =
      let w = l.world in
      let la = code (context l c f) (constants l) vs d first ta in
      let pc1 = q.pc + sizes la in
      let pc2 = pc1 + 20 in
      let F = λ (v : Value). eval l.table calls self env tb >>= λ u. G v u in
      let F_later = λ (v : Value). bind_later (eval_later l.table calls later self env tb) (λ u. comes v u) in
      let r = eval l.table calls self env ta st n in
      let xa = spans sizes (context l c f) (constants l) vs d first q.pc ta in
      let xb = spans sizes (context l c f) (constants l) vs (d + 1) (first + tree_size ta) pc2 tb in
      let ample1 : Ample l q 16 (seq r F) = ample_ruled l q 0 (seq r F) ample in
      let room1 = room_first l r F q 16 (λ v t1 left. (F_later v).later t1 left) ample1 in
      let in_a : (y : Span) → Contains xa y → Contains (spans sizes (context l c f) (constants l) vs d first q.pc whole) y = λ y i. inside y (Contains-append_left xa xb y i) in
      let numbers = begins.at.numbers in
      let depth = begins.depth in
      let laid = l.world.laid in
      cases visit
      (λ h. first_shown l loaded none calls begun_in b sound whole ta F F_later shown c f k self scope vs env made d first q m map console st s n type x less begins has code_at ample among in_a h)
      (λ (v, t1, left, e, h). comes_behind_part l loaded none calls begun_in b sound c f k self scope vs env made d first q m map console st s n less begins ta type (Shown l x) v t1 left correct has
      (part_code l calls begun_in b c f vs d first q.pc whole code_at among vs d first q.pc ta in_a) room1 e
      (λ u j behind'.
      let fewer = behind'.fewer in
      let used = j.gp_to in
      let numbers1 = j.at.numbers in
      let q1 : Pointers = record q { pc = pc1; gp = j.gp; acc = j.acc; ra = j.ra } in
      let q2 : Pointers = record q { pc = pc2; gp = j.gp; sp = q.sp - 4; acc = j.acc; ra = j.ra } in
      let m1 = set_word j.memory (q.sp - 4) j.acc in
      let rest1 : Ample l q1 16 (F v t1 left) = ample_then l r F q q1 16 16 v t1 left e ample1 used (omega arith) in
      let stack = rest1.room.stack in
      let room2 : j.gp + 4 ≤ q.sp = omega arith in
      let rest2 : Ample l q2 12 (F v t1 left) = ample_then l r F q q2 16 12 v t1 left e ample1 used (omega arith) in
      let way1 = shown_way l t1 j.console j.shows (way_of l t1 (F v t1 left).outcome ((F_later v).later t1 left) rest1.alive rest1.room.way) in
      comes_behind w u 0 8 (At w q2 m1 j.console) (Shown l x) (push w q1 j.memory j.console u (limits_of l loaded) (has_front w push_lines more pc1 (has_back w la (push_lines ++ more) q.pc pc1 refl lines)) j.at (omega arith) way1)
      (λ u2 there. part_shown l calls begun_in b c f vs d first q.pc whole code_at among tb shown' k self scope vs env behind'.made' (d + 1) (first + tree_size ta) q2 m1 j.map' j.console t1 u2 left type' x
      (λ y i. inside y (Contains-append_right xa xb y i)) (omega arith)
      (begins_pushed l loaded calls b sound c k self scope vs env behind'.made' d q1 j.memory j.map' j.console t1 u u2 pc2 room2 behind'.begins there) has'
      (room_first l (eval l.table calls self env tb t1 left) (λ u. G v u) q2 12 (λ w t2 left2. (comes v w).later t2 left2) rest2) h)))

  pub arith_shown : (at : Place) (op : ArithOp) (ta tb : Tree) → Correct l calls begun_in b ta → AllShown l calls begun_in b ta → AllShown l calls begun_in b tb → AllShown l calls begun_in b (trees.Arith at op ta tb)
  arith_shown at op ta tb correct shown shown' = record {
    shown = λ c f k self scope vs env made d first q m map console st s n type x less begins (has, has', is) code_at room among visit.
        let whole = trees.Arith at op ta tb in
        let own = span vs d first q.pc whole in
        let pc2 = q.pc + sizes (code (context l c f) (constants l) vs d first ta) + 20 in
        let xs = spans sizes (context l c f) (constants l) vs d first q.pc ta ++ spans sizes (context l c f) (constants l) vs (d + 1) (first + tree_size ta) pc2 tb in
        cases visit
        (λ e. own_shown l loaded none calls begun_in b sound c f k self scope vs env made d first q m map console st s n less begins whole x (among own (0, omega arith, refl)) e)
        (λ h. operands_shown whole ta tb (λ v u. as_number v >>= λ i. as_number u >>= λ j. arithmetic op at i j)
        (λ v u. bind_later (number_later v) (λ i. bind_later (number_later u) (λ j. arithmetic_later op at i j))) correct shown shown' c f k self scope vs env made d first q m map console st s n int_type int_type x (code (context l c f) (constants l) vs (d + 1) (first + tree_size ta) tb ++ arith_code (context l c f) (constants l) op at (root first whole)) less begins has has'
        code_at (plain_lines l none q.pc _ code_at.lines) (ample_of l loaded none calls begun_in b sound c f k self scope vs env made d first q m map console st s n less begins whole type (has, has', is) room) among (λ y i. in_rest own xs y i) h);
  }

  pub compare_shown : (at : Place) (op : CompareOp) (ta tb : Tree) → Correct l calls begun_in b ta → AllShown l calls begun_in b ta → AllShown l calls begun_in b tb → AllShown l calls begun_in b (trees.Compare at op ta tb)
  compare_shown at op ta tb correct shown shown' = record {
    shown = λ c f k self scope vs env made d first q m map console st s n type x less begins (type1, type2, has, has', comparable, is) code_at room among visit.
        let whole = trees.Compare at op ta tb in
        let own = span vs d first q.pc whole in
        let pc2 = q.pc + sizes (code (context l c f) (constants l) vs d first ta) + 20 in
        let xs = spans sizes (context l c f) (constants l) vs d first q.pc ta ++ spans sizes (context l c f) (constants l) vs (d + 1) (first + tree_size ta) pc2 tb in
        cases visit
        (λ e. own_shown l loaded none calls begun_in b sound c f k self scope vs env made d first q m map console st s n less begins whole x (among own (0, omega arith, refl)) e)
        (λ h. operands_shown whole ta tb (compare op) (compare_later op) correct shown shown' c f k self scope vs env made d first q m map console st s n type1 type2 x (code (context l c f) (constants l) vs (d + 1) (first + tree_size ta) tb ++ compare_code (context l c f) op (root first whole)) less begins has has'
        code_at (plain_lines l none q.pc _ code_at.lines) (ample_of l loaded none calls begun_in b sound c f k self scope vs env made d first q m map console st s n less begins whole type (type1, type2, has, has', comparable, is) room) among
        (λ y i. in_rest own xs y i) h);
  }
