-- In the code of `let`, the machine reaches the initial value if there is one, and after the push of the value the body, each in the correct state (`Shown`).
use Rattle.std.proofs.Common.{◌≡◌, ℕ, ◌+◌, ◌-◌, ◌<◌, ◌≤◌, List, [], ◌∷◌, ◌++◌, length, refl, sym, subst, arith, None}
use Rattle.std.specs.Prelude.{Contains}
use Rattle.std.proofs.lemmas.List.Elements.{Contains-append_left, Contains-append_right}
use Rattle.mips_isa.specs.Bytes.{Bytes, set_word}
use Rattle.mips_isa.specs.Calls.{State as Machine}
use Rattle.mips_isa.specs.Lines.{Line}
use Rattle.cool_syntax.specs.declared.place.Place.{Place}
use Rattle.cool_syntax.specs.declared.type_ref.TypeRef.{TypeRef}
use Rattle.cool_syntax.specs.Tree.{Tree, Without, With, tree_size}
use Rattle.cool_syntax.specs.Tree as trees
use Rattle.cool_classes.specs.declared.class_id.ClassId.{ClassId}
use Rattle.cool_classes.specs.declared.class_id.Ty.{Ty}
use Rattle.cool_classes.specs.Features.{Denotes}
use Rattle.cool_rules.specs.Conformance.{class_of as class_meant}
use Rattle.cool_rules.specs.Rules.{type_meant}
use Rattle.cool_rules.specs.Scopes.{Binding}
use Rattle.cool_rules.specs.Typing.{HasType, with_name}
use Rattle.cool_rules.proofs.RulesOfTables.{meant_is}
use Rattle.cool_runtime.specs.Standing.{HasLines, sizes}
use Rattle.cool_runtime.specs.Routines.{push_lines}
use Rattle.cool_runtime.specs.Machines.{At, Pointers, Console}
use Rattle.cool_runtime.proofs.Allocating.{push}
use Rattle.cool_runtime.proofs.Pieces.{has_front, has_back}
use Rattle.cool_codegen.specs.Variables.{Named, bind}
use Rattle.cool_codegen.specs.Pieces.{pop_lines}
use Rattle.cool_codegen.specs.Code.{code, default_code}
use Rattle.cool_codegen.specs.Spans.{Span, span, spans}
use Rattle.cool_meaning.specs.Values.{Value, State, Environment, default_of}
use Rattle.cool_meaning.specs.Meters.{Metered, give, locate, seq, ◌>>=◌}
use Rattle.cool_meaning.specs.Evaluation.{Call, Calls, eval}
use Rattle.cool_meaning.specs.FittingValues.{Fits}
use Rattle.cool_meaning.proofs.FittingValues.{fits_conforming}
use Rattle.cool_meaning.specs.FittingValues as fitting
use Rattle.cool_meaning.proofs.SoundParts.{AllCallsSound, default_fits}
use Rattle.cool_simulation.specs.Loadings.{Loading, IsLoaded, constants, context}
use Rattle.cool_simulation.specs.Pictures.{Map, Pic}
use Rattle.cool_simulation.specs.Simulation.{Begins, CodeAt, Correct, Done, IsSpan, Shown}
use Rattle.cool_simulation.specs.Shown.{AllShown, Comes}
use Rattle.cool_simulation.specs.Visits.{Visit, Visits, behind, begun}
use Rattle.cool_simulation.proofs.ground.BoundVariables.{bound_begins}
use Rattle.cool_simulation.proofs.ground.EvaluationLater.{CallsLater}
use Rattle.cool_simulation.proofs.ground.Homes.{homed}
use Rattle.cool_simulation.proofs.ground.NextParts.{begins_done}
use Rattle.cool_simulation.proofs.ground.Operands.{limits_of, shown_way}
use Rattle.cool_simulation.proofs.ground.PartsOfRuns.{way_of}
use Rattle.cool_simulation.proofs.forms.Defaults.{default_runs}
use Rattle.cool_simulation.proofs.forms.Lets.{bound_body, body_later}
use Rattle.cool_simulation.proofs.shown.Comings.{Ample, ample_as, ample_ruled, ample_then, cases, comes_behind, room_first, value_behind}
use Rattle.cool_simulation.proofs.shown.PartsShown.{ample_of, comes_behind_part, own_shown, part_code, part_shown}
use Rattle.cool_simulation.proofs.ground.CodeOfParts.{in_rest}
use Rattle.cool_simulation.proofs.ground.Passages.{plain_lines}

module _ (l : Loading) (loaded : IsLoaded l) (none : l.watch ≡ None) (calls : Calls) (begun_in : Call → Visits) (b : ℕ) (sound : AllCallsSound l.table calls b) (later : CallsLater calls) where
  module _ (c : ClassId) (f : ℕ) (k : ClassId) (self : Value) (scope : List Binding) (vs : List Named) (env : Environment) (d first pc : ℕ) (whole : Tree) (code_at : CodeAt l c f vs d first pc whole)
      (among : (y : Span) → Contains (spans sizes (context l c f) (constants l) vs d first pc whole) y → IsSpan l c f y) (name : List ℕ) (t : Ty) (body : Tree) (type : Ty) where
    -- the push of the value, and the body
    body_shown : AllShown l calls begun_in b body → (made : fitting.World) (first' : ℕ) (q : Pointers) (m : Bytes) (map : Map) (console : Console) (t1 : State) (u : Machine) (left : ℕ) (v : Value) (x : Visit) (more : List Line) → left ≤ b
        → Begins l c k self scope vs env made d q m map console t1 u → Pic l.world m map t1.drawn q.gp v q.acc → Fits l.table made v (class_meant k t) → d < 8000 → HasLines l.world q.pc (push_lines ++ more)
        → HasType l.table c (with_name name t scope) body type → Ample l q 16 (bound_body l loaded calls begun_in b sound later c f k self scope vs env name t body type v t1 left)
        → ((y : Span) → Contains (spans sizes (context l c f) (constants l) (bind d name t vs) (d + 1) first' (q.pc + 20) body) y → Contains (spans sizes (context l c f) (constants l) vs d first pc whole) y)
        → behind (locate v) (λ i. begun l.table calls begun_in c f self (record { name = name; location = i } ∷ env) first' body) t1 left x → Comes l.world u (Shown l x)
    body_shown shown made first' q m map console t1 u left v x more less begins pic fit small lines has ample inside visit =
        let w = l.world in
        let env' : Environment = record { name = name; location = length t1.store } ∷ env in
        let t1' : State = record t1 { store = t1.store ++ v ∷ [] } in
        let r = eval l.table calls self env' body t1' left in
        let q2 : Pointers = record q { pc = q.pc + 20; sp = q.sp - 4 } in
        let m1 = set_word m (q.sp - 4) q.acc in
        let whole_body = bound_body l loaded calls begun_in b sound later c f k self scope vs env name t body type v t1 left in
        let laid = w.laid in
        let numbers = begins.at.numbers in
        let stack = ample.room.stack in
        let depth = begins.depth in
        let ample2 : Ample l q2 0 r = ample_as l q q2 16 0 whole_body r refl (omega arith) (omega arith) (omega arith) (omega arith) ample in
        comes_behind w u 0 8 (At w q2 m1 console) (Shown l x)
        (push w q m console u (limits_of l loaded) (has_front w push_lines more q.pc lines) begins.at (omega arith)
        (shown_way l t1 console begins.shows (way_of l t1 whole_body.outcome ((body_later l loaded calls begun_in b sound later c f k self scope vs env name t body type v).later t1 left) ample.alive ample.room.way)))
        (λ u2 there. part_shown l calls begun_in b c f vs d first pc whole code_at among body shown k self (with_name name t scope) (bind d name t vs) env' (made ++ class_meant k t ∷ []) (d + 1) first' q2 m1
        (homed map (length t1.store) (q.sp - 4)) console t1' u2 left type x inside less
        (bound_begins l c k self scope vs env made d q m map console t1 u u2 name t v (q.pc + 20) begins pic fit (omega arith) there) has ample2.room
        (value_behind (locate v) (λ i. begun l.table calls begun_in c f self (record { name = name; location = i } ∷ env) first' body) t1 left x visit))

  pub let_shown : (at : Place) (name : List ℕ) (declared : TypeRef) (init body : Tree) → Correct l calls begun_in b init → AllShown l calls begun_in b init → AllShown l calls begun_in b body
      → AllShown l calls begun_in b (trees.Let at name declared (With init) body)
  let_shown at name declared init body correct shown shown' = record {
    shown = λ c f k self scope vs env made d first q m map console st s n type x less begins (bound, other, denotes, (type1, has, conforms), has1) code_at room among visit.
        let small = code_at.small in
        let w = l.world in
        let whole = trees.Let at name declared (With init) body in
        let t = type_meant l.table declared.name in
        let meant : t ≡ bound = meant_is l.table loaded.buildable.typed.whole.table declared.name bound denotes in
        let la = code (context l c f) (constants l) vs d first init in
        let r2 : List Line = code (context l c f) (constants l) (bind d name t vs) (d + 1) (first + tree_size init) body ++ pop_lines in
        let pc1 = q.pc + sizes la in
        let own = span vs d first q.pc whole in
        let xa = spans sizes (context l c f) (constants l) vs d first q.pc init in
        let xb = spans sizes (context l c f) (constants l) (bind d name t vs) (d + 1) (first + tree_size init) (pc1 + 20) body in
        let F = bound_body l loaded calls begun_in b sound later c f k self scope vs env name t body type in
        let F_later = body_later l loaded calls begun_in b sound later c f k self scope vs env name t body type in
        let r = eval l.table calls self env init st n in
        let ample : Ample l q 16 (seq r F) =
        ample_ruled l q 0 (seq r F) (ample_of l loaded none calls begun_in b sound c f k self scope vs env made d first q m map console st s n less begins whole type (bound, other, denotes, (type1, has, conforms), has1) room) in
        let room1 = room_first l r F q 16 (λ v t1 left. (F_later v).later t1 left) ample in
        let in_a : (y : Span) → Contains xa y → Contains (own ∷ xa ++ xb) y = λ y i. in_rest own (xa ++ xb) y (Contains-append_left xa xb y i) in
        cases visit
        (λ e. own_shown l loaded none calls begun_in b sound c f k self scope vs env made d first q m map console st s n less begins whole x (among own (0, omega arith, refl)) e)
        (λ more. cases more
        (λ h. part_shown l calls begun_in b c f vs d first q.pc whole code_at among init shown k self scope vs env made d first q m map console st s n type1 x in_a less begins has room1 h)
        (λ (v, t1, left, e, h). comes_behind_part l loaded none calls begun_in b sound c f k self scope vs env made d first q m map console st s n less begins init type1 (Shown l x) v t1 left correct has
        (part_code l calls begun_in b c f vs d first q.pc whole code_at among vs d first q.pc init in_a) room1 e
        (λ u j behind1.
        let fewer = behind1.fewer in
        let used = j.gp_to in
        let q1 : Pointers = record q { pc = pc1; gp = j.gp; acc = j.acc; ra = j.ra } in
        let scene = behind1.begins.scene in
        let fit : Fits l.table behind1.made' v (class_meant k t) =
        subst (λ y. Fits l.table behind1.made' v (class_meant k y)) (sym meant) (fits_conforming l.table loaded.buildable.typed c k scene.k_within scene.below behind1.made' v type1 bound behind1.value_fits conforms) in
        body_shown c f k self scope vs env d first q.pc whole code_at among name t body type shown' behind1.made' (first + tree_size init) q1 j.memory j.map' j.console t1 u left v x r2 (omega arith) behind1.begins j.value fit (omega arith)
        (has_back w la (push_lines ++ r2) q.pc pc1 refl (plain_lines l none q.pc _ code_at.lines)) (subst (λ y. HasType l.table c (with_name name y scope) body type) (sym meant) has1)
        (ample_then l r F q q1 16 16 v t1 left e ample used (omega arith)) (λ y i. in_rest own (xa ++ xb) y (Contains-append_right xa xb y i)) h)));
  }

  pub let_default_shown : (at : Place) (name : List ℕ) (declared : TypeRef) (body : Tree) → AllShown l calls begun_in b body → AllShown l calls begun_in b (trees.Let at name declared Without body)
  let_default_shown at name declared body shown' = record {
    shown = λ c f k self scope vs env made d first q m map console st s n type x less begins (bound, other, denotes, without, has1) code_at room among visit.
        let small = code_at.small in
        let w = l.world in
        let whole = trees.Let at name declared Without body in
        let t = type_meant l.table declared.name in
        let meant : t ≡ bound = meant_is l.table loaded.buildable.typed.whole.table declared.name bound denotes in
        let la = default_code t in
        let r2 : List Line = code (context l c f) (constants l) (bind d name t vs) (d + 1) (first + 0) body ++ pop_lines in
        let pc1 = q.pc + sizes la in
        let own = span vs d first q.pc whole in
        let xb = spans sizes (context l c f) (constants l) (bind d name t vs) (d + 1) (first + 0) (pc1 + 20) body in
        let v = default_of declared.name in
        let F = bound_body l loaded calls begun_in b sound later c f k self scope vs env name t body type in
        let r : Metered Value = (give v >>= F) st n in
        let ample : Ample l q 16 r = ample_ruled l q 0 r (ample_of l loaded none calls begun_in b sound c f k self scope vs env made d first q m map console st s n less begins whole type (bound, other, denotes, without, has1) room) in
        let scene = begins.scene in
        let fit : Fits l.table made v (class_meant k t) =
        subst (λ y. Fits l.table made v (class_meant k y)) (sym meant) (default_fits l.table loaded.buildable.typed made k declared.name bound scene.k_within scene.plain denotes) in
        cases visit
        (λ e. own_shown l loaded none calls begun_in b sound c f k self scope vs env made d first q m map console st s n less begins whole x (among own (0, omega arith, refl)) e)
        (λ more. cases more
        (λ h. absurd h)
        (λ visit'. comes_behind w s 0 2 (Done l (record q { pc = pc1 }) m map st 0 v st) (Shown l x)
        (default_runs l loaded q m map console st s begins.at begins.shows begins.pictures declared.name t (subst (λ y. Denotes l.table declared.name y) (sym meant) denotes) (has_front w la (push_lines ++ r2) q.pc (plain_lines l none q.pc _ code_at.lines)))
        (λ u j.
        let used = j.gp_to in
        let q1 : Pointers = record q { pc = pc1; gp = j.gp; acc = j.acc; ra = j.ra } in
        body_shown c f k self scope vs env d first q.pc whole code_at among name t body type shown' made (first + 0) q1 j.memory j.map' j.console st u n v x r2 less
        (begins_done l loaded calls b sound c k self scope vs env made d q m map console st s u pc1 0 v begins j) j.value fit (omega arith) (has_back w la (push_lines ++ r2) q.pc pc1 refl (plain_lines l none q.pc _ code_at.lines))
        (subst (λ y. HasType l.table c (with_name name y scope) body type) (sym meant) has1) (ample_as l q q1 16 16 r (F v st n) refl (omega arith) (omega arith) (omega arith) (omega arith) ample)
        (λ y i. in_rest own xb y i)
        (value_behind (give v) (λ v. behind (locate v) (λ i. begun l.table calls begun_in c f self (record { name = name; location = i } ∷ env) (first + 0) body)) st n x visit'))));
  }
