-- In the code of `while`, the machine reaches the test in each iteration, and the body if the test is true, each in the correct state (`Shown`).
use Rattle.std.proofs.Common.{◌≡◌, ℕ, zero, suc, ◌+◌, ◌≤◌, List, ◌++◌, refl, subst, arith, None}
use Rattle.std.specs.Prelude.{Bool as Truth, true, codes, if◌then◌else◌, Contains}
use Rattle.std.proofs.lemmas.List.Elements.{Contains-append_left, Contains-append_right}
use Rattle.mips_isa.specs.Bytes.{Bytes}
use Rattle.mips_isa.specs.Calls.{State as Machine}
use Rattle.mips_isa.specs.Lines.{Name, Line}
use Rattle.cool_syntax.specs.declared.place.Place.{Place}
use Rattle.cool_syntax.specs.Tree.{Tree, tree_size}
use Rattle.cool_syntax.specs.Tree as trees
use Rattle.cool_syntax.specs.NodeLists.{root}
use Rattle.cool_classes.specs.declared.class_id.ClassId.{ClassId}
use Rattle.cool_classes.specs.declared.class_id.Ty.{Ty}
use Rattle.cool_rules.specs.Scopes.{Binding}
use Rattle.cool_rules.specs.Typing.{HasType, bool_type}
use Rattle.cool_runtime.specs.Reaches.{Reaches, stands}
use Rattle.cool_runtime.specs.Standing.{HasLines, sizes}
use Rattle.cool_runtime.specs.Machines.{At, Pointers, Console}
use Rattle.cool_runtime.proofs.Pieces.{has_front, has_back}
use Rattle.cool_codegen.specs.Pieces.{mark_lines, test_lines, repeat_lines}
use Rattle.cool_codegen.specs.Code.{code, label_at}
use Rattle.cool_codegen.specs.Spans.{Span, span, spans}
use Rattle.cool_codegen.specs.Variables.{Named}
use Rattle.cool_meaning.specs.Values.{Value, Void, Bool, State, Environment}
use Rattle.cool_meaning.specs.Meters.{Metered, Computation, give, seq, spend, working, ◌>>=◌, ◌>>◌}
use Rattle.cool_meaning.specs.BasicMethods.{as_truth}
use Rattle.cool_meaning.specs.Evaluation.{Call, Calls, eval, turns}
use Rattle.cool_meaning.specs.FittingValues as fitting
use Rattle.cool_meaning.proofs.SoundParts.{AllCallsSound}
use Rattle.cool_simulation.specs.Loadings.{Loading, IsLoaded, constants, context}
use Rattle.cool_simulation.specs.Pictures.{Map, Pic}
use Rattle.cool_simulation.specs.Simulation.{Begins, CodeAt, Correct, IsSpan, Shown}
use Rattle.cool_simulation.specs.Shown.{AllShown, Comes}
use Rattle.cool_simulation.specs.Visits.{Visit, Visits, begun, behind, behind_step, turns_begun, ◌or◌}
use Rattle.cool_simulation.proofs.ground.Walks.{tests_true, repeats}
use Rattle.cool_simulation.proofs.ground.EvaluationLater.{CallsLater, ComesLater, bind_later, eval_later, give_later, if_later, spend_later, then_later, truth_later, turns_later}
use Rattle.cool_simulation.proofs.ground.NextParts.{begins_at}
use Rattle.cool_simulation.proofs.shown.Comings.{Ample, ample_as, ample_ruled, ample_then, cases, comes_behind, room_first}
use Rattle.cool_simulation.proofs.shown.PartsShown.{ample_of, comes_behind_part, own_shown, part_code, part_shown}
use Rattle.cool_simulation.proofs.ground.CodeOfParts.{in_rest}
use Rattle.cool_simulation.proofs.ground.Passages.{plain_lines}

module _ (l : Loading) (loaded : IsLoaded l) (none : l.watch ≡ None) (calls : Calls) (begun_in : Call → Visits) (b : ℕ) (sound : AllCallsSound l.table calls b) (later : CallsLater calls) where
  module _ (c : ClassId) (f : ℕ) (k : ClassId) (self : Value) (scope : List Binding) (vs : List Named) (env : Environment) (d first pc : ℕ) (whole test body : Tree) (type : Ty) (begin end : Name)
      (code_at : CodeAt l c f vs d first pc whole) (among : (y : Span) → Contains (spans sizes (context l c f) (constants l) vs d first pc whole) y → IsSpan l c f y) (correct : Correct l calls begun_in b test)
      (correct' : Correct l calls begun_in b body) (shown : AllShown l calls begun_in b test) (shown' : AllShown l calls begun_in b body) (has : HasType l.table c scope test bool_type) (has' : HasType l.table c scope body type) where
    abbrev T : Computation Value
    T = eval l.table calls self env test

    abbrev B : Computation Value
    B = eval l.table calls self env body

    abbrev V : Visits
    V = begun l.table calls begun_in c f self env first test

    abbrev W : Visits
    W = begun l.table calls begun_in c f self env (first + tree_size test) body

    abbrev pc1 : ℕ
    pc1 = pc + sizes (code (context l c f) (constants l) vs d first test)

    abbrev pc2 : ℕ
    pc2 = pc + sizes (code (context l c f) (constants l) vs d first test) + 12

    abbrev pc3 : ℕ
    pc3 = pc + sizes (code (context l c f) (constants l) vs d first test) + 12 + sizes (code (context l c f) (constants l) vs d (first + tree_size test) body)

    -- a turn, where the test was true
    abbrev G : ℕ → Truth → Computation Value
    G j x = if x then spend (working 1 (B >> turns j T B)) else give Void

    all_later : (j : ℕ) → ComesLater (turns j T B)
    all_later j = turns_later j T B (eval_later l.table calls later self env test) (eval_later l.table calls later self env body)

    G_later : (j : ℕ) (x : Truth) → ComesLater (G j x)
    G_later j x = if_later x (spend_later (record { later = (then_later (eval_later l.table calls later self env body) (all_later j)).later })) (give_later Void)

    module _ (in_test : (y : Span) → Contains (spans sizes (context l c f) (constants l) vs d first pc test) y → Contains (spans sizes (context l c f) (constants l) vs d first pc whole) y)
        (in_body : (y : Span) → Contains (spans sizes (context l c f) (constants l) vs d (first + tree_size test) pc2 body) y → Contains (spans sizes (context l c f) (constants l) vs d first pc whole) y)
        (tests : HasLines l.world pc1 (test_lines end)) (ends : HasLines l.world pc3 (repeat_lines begin end)) (at_begin : l.world.place begin ≡ pc) where
      -- `Shown` for at most so many iterations, from a state at the begin of the loop
      abbrev TurnsShown : ℕ → Type 0
      TurnsShown j =
          (made : fitting.World) (q : Pointers) (m : Bytes) (map : Map) (console : Console) (st : State) (s : Machine) (n : ℕ) (x : Visit) → n ≤ b → Begins l c k self scope vs env made d (record q { pc = pc }) m map console st s
          → Ample l q 16 (turns j T B st n) → turns_begun l.table calls begun_in j T B V W st n x → Comes l.world s (Shown l x)

      -- a turn: the body, and what follows it
      turn : (j : ℕ) → TurnsShown j → (made : fitting.World) (q : Pointers) (m : Bytes) (map : Map) (console : Console) (t1 : State) (u : Machine) (left : ℕ) (x : Visit) → left ≤ b
          → Begins l c k self scope vs env made d (record q { pc = pc1 }) m map console t1 u → Pic l.world m map t1.drawn q.gp (Bool true) q.acc → Ample l q 16 (spend (working 1 (B >> turns j T B)) t1 left)
          → behind_step (W or behind B (λ w. turns_begun l.table calls begun_in j T B V W)) t1 left x → Comes l.world u (Shown l x)
      turn j again made q m map console t1 u zero x less begins pic ample h = absurd h
      turn j again made q m map console t1 u (suc left) x less begins pic ample h =
          let w = l.world in
          let q1 : Pointers = record q { pc = pc1 } in
          let q2 : Pointers = record q { pc = pc2 } in
          let r1 = B t1 left in
          let r2 : Metered Value = seq r1 (λ v. turns j T B) in
          let ample2 : Ample l q2 16 r2 = ample_as l q q2 16 16 (spend (working 1 (B >> turns j T B)) t1 (suc left)) r2 refl (omega arith) (omega arith) (omega arith) (omega arith) ample in
          let room1 = room_first l r1 (λ v. turns j T B) q2 16 (λ v t2 left2. (all_later j).later t2 left2) ample2 in
          comes_behind w u 1 3 (At w q2 m console) (Shown l x) (tests_true w end q1 m console u tests begins.at pic.0)
          (λ u2 there.
          let begins2 = begins_at l loaded calls b sound c k self scope vs env made d q1 m map console t1 u u2 pc2 q.acc q.ra begins there in
          cases h
          (λ i. part_shown l calls begun_in b c f vs d first pc whole code_at among body shown' k self scope vs env made d (first + tree_size test) q2 m map console t1 u2 left type x in_body (omega arith) begins2 has' room1 i)
          (λ (v2, t2, left2, e2, i). comes_behind_part l loaded none calls begun_in b sound c f k self scope vs env made d (first + tree_size test) q2 m map console t1 u2 left (omega arith) begins2 body type (Shown l x) v2 t2 left2 correct' has'
          (part_code l calls begun_in b c f vs d first pc whole code_at among vs d (first + tree_size test) pc2 body in_body) room1 e2
          (λ u3 j2 behind2.
          let fewer = behind2.fewer in
          let used = j2.gp_to in
          let q3 : Pointers = record q { pc = pc3; gp = j2.gp; acc = j2.acc; ra = j2.ra } in
          let q4 : Pointers = record q { pc = pc; gp = j2.gp; acc = j2.acc; ra = j2.ra } in
          comes_behind w u3 0 2 (At w q4 j2.memory j2.console) (Shown l x)
          (subst (λ a. Reaches w u3 0 2 (stands (At w (record q3 { pc = a }) j2.memory j2.console))) at_begin (repeats w begin end q3 j2.memory j2.console u3 ends j2.at))
          (λ u4 there4. again behind2.made' q4 j2.memory j2.map' j2.console t2 u4 left2 x (omega arith)
          (begins_at l loaded calls b sound c k self scope vs env behind2.made' d q3 j2.memory j2.map' j2.console t2 u3 u4 pc j2.acc j2.ra behind2.begins there4)
          (ample_then l r1 (λ v. turns j T B) q2 q4 16 16 v2 t2 left2 e2 ample2 used (omega arith)) i))))

      pub turns_shown : (j : ℕ) (made : fitting.World) (q : Pointers) (m : Bytes) (map : Map) (console : Console) (st : State) (s : Machine) (n : ℕ) (x : Visit) → n ≤ b
          → Begins l c k self scope vs env made d (record q { pc = pc }) m map console st s → Ample l q 16 (turns j T B st n) → turns_begun l.table calls begun_in j T B V W st n x → Comes l.world s (Shown l x)
      turns_shown zero made q m map console st s n x less begins ample h = absurd h
      turns_shown (suc j) made q m map console st s n x less begins ample visit =
          let r = T st n in
          let F = λ (v : Value). as_truth v >>= G j in
          let q0 : Pointers = record q { pc = pc } in
          let ample0 : Ample l q0 16 (seq r F) = ample_as l q q0 16 16 (seq r F) (seq r F) refl (omega arith) (omega arith) (omega arith) (omega arith) ample in
          let room1 = room_first l r F q0 16 (λ v t1 left. (bind_later (truth_later v) (λ o. G_later j o)).later t1 left) ample0 in
          cases visit
          (λ h. part_shown l calls begun_in b c f vs d first pc whole code_at among test shown k self scope vs env made d first q0 m map console st s n bool_type x in_test less begins has room1 h)
          (λ (v, t1, left, e, (is, h)). comes_behind_part l loaded none calls begun_in b sound c f k self scope vs env made d first q0 m map console st s n less begins test bool_type (Shown l x) v t1 left correct has
          (part_code l calls begun_in b c f vs d first pc whole code_at among vs d first pc test in_test) room1 e
          (λ u i behind1.
          let fewer = behind1.fewer in
          let used = i.gp_to in
          let q1 : Pointers = record q { pc = pc1; gp = i.gp; acc = i.acc; ra = i.ra } in
          let rest : Ample l q1 16 (F v t1 left) = ample_then l r F q0 q1 16 16 v t1 left e ample0 used (omega arith) in
          turn j (turns_shown j) behind1.made' q1 i.memory i.map' i.console t1 u left x (omega arith) behind1.begins (subst (λ o. Pic l.world i.memory i.map' t1.drawn i.gp o i.acc) is i.value)
          (ample_as l q1 q1 16 16 (F (Bool true) t1 left) (G j true t1 left) refl (omega arith) (omega arith) (omega arith) (omega arith) (subst (λ o. Ample l q1 16 (F o t1 left)) is rest)) h))

  pub while_shown : (at : Place) (test body : Tree) → Correct l calls begun_in b test → Correct l calls begun_in b body → AllShown l calls begun_in b test → AllShown l calls begun_in b body → AllShown l calls begun_in b (trees.While at test body)
  unfolding mark_lines test_lines repeat_lines
  while_shown at test body correct correct' shown shown' = record {
    shown = λ c f k self scope vs env made d first q m map console st s n type x less begins (type1, has, has', is) code_at room among visit.
        let w = l.world in
        let ctx = context l c f in
        let whole = trees.While at test body in
        let loop = label_at ctx (codes "loop") (root first whole) in
        let end = label_at ctx (codes "end") (root first whole) in
        let lt = code ctx (constants l) vs d first test in
        let lb = code ctx (constants l) vs d (first + tree_size test) body in
        let r4 : List Line = repeat_lines loop end in
        let r3 : List Line = lb ++ r4 in
        let r2 : List Line = test_lines end ++ r3 in
        let r1 : List Line = lt ++ r2 in
        let a1 = q.pc + sizes lt in
        let a2 = a1 + 12 in
        let a3 = a2 + sizes lb in
        let h1 : HasLines w q.pc r1 = has_back w (mark_lines loop) r1 q.pc q.pc (omega arith) (plain_lines l none q.pc (mark_lines loop ++ r1) code_at.lines) in
        let h2 : HasLines w a1 r2 = has_back w lt r2 q.pc a1 refl h1 in
        let h3 : HasLines w a2 r3 = has_back w (test_lines end) r3 a1 a2 refl h2 in
        let h4 : HasLines w a3 r4 = has_back w lb r4 a2 a3 refl h3 in
        let own = span vs d first q.pc whole in
        let p0 = q.pc + sizes (mark_lines loop) in
        let p2 = p0 + sizes lt + sizes (test_lines end) in
        let same0 : q.pc ≡ p0 = omega arith in
        let same2 : a2 ≡ p2 = omega arith in
        let xt = spans sizes ctx (constants l) vs d first p0 test in
        let xb = spans sizes ctx (constants l) vs d (first + tree_size test) p2 body in
        let r = turns (suc n) (eval l.table calls self env test) (eval l.table calls self env body) st n in
        cases visit
        (λ e. own_shown l loaded none calls begun_in b sound c f k self scope vs env made d first q m map console st s n less begins whole x (among own (0, omega arith, refl)) e)
        (λ h. turns_shown c f k self scope vs env d first q.pc whole test body type1 loop end code_at among correct correct' shown shown' has has'
        (λ y i. in_rest own (xt ++ xb) y (Contains-append_left xt xb y (subst (λ a. Contains (spans sizes ctx (constants l) vs d first a test) y) same0 i)))
        (λ y i. in_rest own (xt ++ xb) y (Contains-append_right xt xb y (subst (λ a. Contains (spans sizes ctx (constants l) vs d (first + tree_size test) a body) y) same2 i)))
        (has_front w (test_lines end) r3 a1 h2) h4 code_at.lines.0.labels.0 (suc n) made q m map console st s n x less begins
        (ample_ruled l q 0 r (ample_of l loaded none calls begun_in b sound c f k self scope vs env made d first q m map console st s n less begins whole type (type1, has, has', is) room)) h);
  }
