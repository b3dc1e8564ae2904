-- During a call, the machine reaches the code of each argument after the value of the preceding one is pushed, with the correct values of all names in scope
-- (`Shown`).
use Rattle.std.proofs.Common.{ℕ, ◌+◌, ◌-◌, ◌≤◌, List, [], ◌∷◌, ◌++◌, refl, arith, ◌≡◌, None}
use Rattle.std.specs.Prelude.{Contains}
use Rattle.std.proofs.lemmas.List.Elements.{Contains-append_left, Contains-append_right}
use Rattle.mips_isa.specs.Bytes.{Bytes, set_word}
use Rattle.mips_isa.specs.Calls.{State as Machine}
use Rattle.cool_syntax.specs.Tree.{Tree, Trees, Last, More, tree_size}
use Rattle.cool_classes.specs.declared.class_id.ClassId.{ClassId}
use Rattle.cool_classes.specs.declared.class_id.Ty.{Ty}
use Rattle.cool_rules.specs.Scopes.{Binding}
use Rattle.cool_rules.specs.Typing.{HaveTypes}
use Rattle.cool_runtime.specs.Standing.{HasLines, sizes}
use Rattle.cool_runtime.specs.Machines.{At, Pointers, Console}
use Rattle.cool_runtime.specs.Routines.{push_lines}
use Rattle.cool_runtime.proofs.Allocating.{push}
use Rattle.cool_runtime.proofs.Pieces.{has_front, has_back}
use Rattle.cool_codegen.specs.Code.{arguments_code, code}
use Rattle.cool_codegen.specs.Spans.{Span, arguments_spans, spans}
use Rattle.cool_codegen.specs.Variables.{Named}
use Rattle.cool_meaning.specs.Values.{Value, State, Environment}
use Rattle.cool_meaning.specs.Meters.{Computation, give, holding, seq, ◌>>=◌}
use Rattle.cool_meaning.specs.Evaluation.{Call, Calls, eval, eval_all}
use Rattle.cool_meaning.specs.FittingValues as fitting
use Rattle.cool_meaning.proofs.SoundParts.{AllCallsSound}
use Rattle.cool_simulation.specs.Loadings.{Loading, IsLoaded, constants, context}
use Rattle.cool_simulation.specs.Pictures.{Map}
use Rattle.cool_simulation.specs.Simulation.{Begins, CodeAt, IsSpan, Shown}
use Rattle.cool_simulation.specs.Shown.{Comes}
use Rattle.cool_simulation.specs.Visits.{Visit, Visits, all_begun}
use Rattle.cool_simulation.proofs.forms.Blocks.{EachCorrect}
use Rattle.cool_simulation.proofs.ground.CallsLater.{all_later, held_later}
use Rattle.cool_simulation.proofs.ground.EvaluationLater.{CallsLater, ComesLater, bind_later, give_later}
use Rattle.cool_simulation.proofs.ground.NextParts.{begins_pushed}
use Rattle.cool_simulation.proofs.ground.Operands.{limits_of, shown_way}
use Rattle.cool_simulation.proofs.ground.PartsOfRuns.{way_of}
use Rattle.cool_simulation.proofs.shown.Blocks.{EachShown}
use Rattle.cool_simulation.proofs.shown.Comings.{Ample, ample_first, ample_held, ample_then, cases, comes_behind, room_first}
use Rattle.cool_simulation.proofs.shown.PartsShown.{comes_behind_part, part_code, part_shown}

module _ (l : Loading) (loaded : IsLoaded l) (none : l.watch ≡ None) (calls : Calls) (begun_in : Call → Visits) (b : ℕ) (sound : AllCallsSound l.table calls b) (later : CallsLater calls) (c : ClassId) (f : ℕ) (k : ClassId) (self : Value)
    (scope : List Binding) (vs : List Named) (env : Environment) (d0 first pc : ℕ) (whole : Tree) (code_at : CodeAt l c f vs d0 first pc whole)
    (among : (y : Span) → Contains (spans sizes (context l c f) (constants l) vs d0 first pc whole) y → IsSpan l c f y) where
  -- the computation after a first argument
  abbrev F : Trees → Value → Computation (List Value)
  F ts v = holding 1 (eval_all l.table calls self env ts >>= λ us. give (v ∷ us))

  F_later : (ts : Trees) (v : Value) → ComesLater (F ts v)
  F_later ts v = held_later 1 (bind_later (all_later l.table calls later self env ts) (λ us. give_later (v ∷ us)))

  pub arguments_shown : (ts : Trees) → EachCorrect l calls begun_in b ts → EachShown l calls begun_in b ts → (made : fitting.World) (d first' : ℕ) (q : Pointers) (m : Bytes) (map : Map) (console : Console) (st : State) (s : Machine) (n : ℕ)
      (types : List Ty) (x : Visit) → n ≤ b → Begins l c k self scope vs env made d q m map console st s → HaveTypes l.table c scope ts types
      → HasLines l.world q.pc (arguments_code (context l c f) (constants l) vs d first' ts) → Ample l q 16 (eval_all l.table calls self env ts st n)
      → ((y : Span) → Contains (arguments_spans sizes (context l c f) (constants l) vs d first' q.pc ts) y → Contains (spans sizes (context l c f) (constants l) vs d0 first pc whole) y)
      → all_begun l.table calls begun_in c f self env first' ts st n x → Comes l.world s (Shown l x)
  arguments_shown Last correct each made d first' q m map console st s n types x less begins have lines ample inside h = absurd h
  arguments_shown (More t ts) correct each made d first' q m map console st s n [] x less begins have lines ample inside visit = absurd have
  arguments_shown (More t ts) correct each made d first' q m map console st s n (type ∷ types) x less begins (has, have) lines ample inside visit =
      let w = l.world in
      let la = code (context l c f) (constants l) vs d first' t in
      let lb = arguments_code (context l c f) (constants l) vs (d + 1) (first' + tree_size t) ts in
      let pc1 = q.pc + sizes la in
      let pc2 = pc1 + 20 in
      let r = eval l.table calls self env t st n in
      let xt = spans sizes (context l c f) (constants l) vs d first' q.pc t in
      let xs = arguments_spans sizes (context l c f) (constants l) vs (d + 1) (first' + tree_size t) pc2 ts in
      let room1 = room_first l r (F ts) q 16 (λ v t1 left. (F_later ts v).later t1 left) ample in
      let in_t : (y : Span) → Contains xt y → Contains (spans sizes (context l c f) (constants l) vs d0 first pc whole) y = λ y i. inside y (Contains-append_left xt xs y i) in
      let h1 : HasLines w pc1 (push_lines ++ lb) = has_back w la (push_lines ++ lb) q.pc pc1 refl lines in
      let numbers = begins.at.numbers in
      let laid = l.world.laid in
      cases visit
      (λ h. part_shown l calls begun_in b c f vs d0 first pc whole code_at among t each.0 k self scope vs env made d first' q m map console st s n type x in_t less begins has room1 h)
      (λ (v, t1, left, e, h). comes_behind_part l loaded none calls begun_in b sound c f k self scope vs env made d first' q m map console st s n less begins t type (Shown l x) v t1 left correct.0 has
      (part_code l calls begun_in b c f vs d0 first pc whole code_at among vs d first' q.pc t in_t) room1 e
      (λ u j behind.
      let fewer = behind.fewer in
      let used = j.gp_to in
      let numbers1 = j.at.numbers in
      let q1 : Pointers = record q { pc = pc1; gp = j.gp; acc = j.acc; ra = j.ra } in
      let q2 : Pointers = record q { pc = pc2; gp = j.gp; sp = q.sp - 4; acc = j.acc; ra = j.ra } in
      let m1 = set_word j.memory (q.sp - 4) j.acc in
      let r2 = eval_all l.table calls self env ts t1 left in
      let G = λ (us : List Value). give (v ∷ us) in
      let rest1 : Ample l q1 16 (F ts v t1 left) = ample_then l r (F ts) q q1 16 16 v t1 left e ample used (omega arith) in
      let stack = rest1.room.stack in
      let room2 : j.gp + 4 ≤ q.sp = omega arith in
      let rest2 : Ample l q2 16 (seq r2 G) = ample_held l q1 q2 16 1 16 (seq r2 G) (omega arith) (omega arith) rest1 in
      let way1 = shown_way l t1 j.console j.shows (way_of l t1 (F ts v t1 left).outcome ((F_later ts v).later t1 left) rest1.alive rest1.room.way) in
      comes_behind w u 0 8 (At w q2 m1 j.console) (Shown l x) (push w q1 j.memory j.console u (limits_of l loaded) (has_front w push_lines lb pc1 h1) j.at (omega arith) way1)
      (λ u2 there. arguments_shown ts correct.1 each.1 behind.made' (d + 1) (first' + tree_size t) q2 m1 j.map' j.console t1 u2 left types x (omega arith)
      (begins_pushed l loaded calls b sound c k self scope vs env behind.made' d q1 j.memory j.map' j.console t1 u u2 pc2 room2 behind.begins there) have (has_back w push_lines lb pc1 pc2 refl h1)
      (ample_first l r2 G q2 16 (λ us t2 left2. (give_later (v ∷ us)).later t2 left2) rest2) (λ y i. inside y (Contains-append_right xt xs y i)) h)))
