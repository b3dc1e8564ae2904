-- The code generated for `let` simulates its evaluation: unless a limit stops it, the machine reaches the value, state or error that the semantics gives.
use Rattle.std.proofs.Common.{◌≡◌, ℕ, ◌+◌, ◌-◌, ◌*◌, ◌%◌, ◌≤◌, List, [], ◌∷◌, ◌++◌, length, refl, sym, subst, arith, inl, inr}
use Rattle.mips_isa.specs.Bytes.{Bytes, set_word}
use Rattle.mips_isa.specs.Calls.{State as Machine}
use Rattle.mips_isa.specs.Lines.{Line}
use Rattle.cool_syntax.specs.declared.place.Place.{Place}
use Rattle.cool_syntax.specs.declared.type_ref.TypeRef.{TypeRef}
use Rattle.cool_syntax.specs.Tree.{Tree, Without, With, tree_size}
use Rattle.cool_syntax.specs.Tree as trees
use Rattle.cool_classes.specs.declared.class_id.ClassId.{ClassId}
use Rattle.cool_classes.specs.declared.class_id.Ty.{Ty}
use Rattle.cool_classes.specs.Features.{Denotes}
use Rattle.cool_rules.specs.Conformance.{class_of as class_meant}
use Rattle.cool_rules.specs.Rules.{type_meant}
use Rattle.cool_rules.specs.Scopes.{Binding}
use Rattle.cool_rules.specs.Typing.{HasType, with_name}
use Rattle.cool_rules.proofs.RulesOfTables.{meant_is}
use Rattle.cool_runtime.specs.Standing.{HasLines, sizes}
use Rattle.cool_runtime.specs.Routines.{push_lines}
use Rattle.cool_runtime.specs.Machines.{At, Pointers}
use Rattle.cool_runtime.proofs.Allocating.{push}
use Rattle.cool_runtime.proofs.Pieces.{next, done, has_front, has_back, sizes_append}
use Rattle.cool_codegen.specs.Variables.{Named, bind}
use Rattle.cool_codegen.specs.Pieces.{pop_lines}
use Rattle.cool_codegen.specs.Asked.{integers_in, strings_in}
use Rattle.cool_codegen.specs.Code.{code, default_code}
use Rattle.cool_meaning.specs.Values.{Value, State, Environment, default_of}
use Rattle.cool_meaning.specs.Meters.{Metered, Computation, locate, give, ◌>>=◌}
use Rattle.cool_meaning.specs.Evaluation.{Call, Calls, eval}
use Rattle.cool_meaning.specs.FittingValues.{Fits}
use Rattle.cool_meaning.proofs.FittingValues.{fits_conforming}
use Rattle.cool_meaning.specs.FittingValues as fitting
use Rattle.cool_meaning.proofs.SoundParts.{AllCallsSound, default_fits}
use Rattle.cool_simulation.specs.Loadings.{Loading, IsLoaded, constants, context, whole, Watched}
use Rattle.cool_simulation.specs.Pictures.{Map}
use Rattle.cool_simulation.specs.Simulation.{Begins, Done, Correct, Runs, Room, CodeAt}
use Rattle.cool_simulation.specs.Visits.{Visit, Visits, begun, behind}
use Rattle.cool_simulation.proofs.ground.Walks.{pops}
use Rattle.cool_simulation.proofs.ground.PartsOfRuns.{run_after, run_from, run_wider, run_on, run_rule, unless_stuck, way_of, Rest, same_rest, room_rest, room_ruled}
use Rattle.cool_simulation.proofs.ground.EvaluationLater.{CallsLater, ComesLater, bind_later, locate_later, eval_later}
use Rattle.cool_simulation.proofs.ground.PartsBehind.{done_both}
use Rattle.cool_simulation.proofs.ground.NextParts.{begins_done}
use Rattle.cool_simulation.proofs.ground.BoundVariables.{bound_begins, bound_done}
use Rattle.cool_simulation.proofs.ground.Homes.{homed}
use Rattle.cool_simulation.proofs.ground.CodeOfParts.{Asks, asks_of, asks_front, asks_back, part_at, in_rest, own_placed}
use Rattle.cool_simulation.proofs.ground.FirstParts.{rule_runs}
use Rattle.cool_simulation.proofs.ground.Operands.{limits_of, shown_way}
use Rattle.cool_simulation.proofs.forms.Defaults.{default_words, head_default}
use Rattle.std.proofs.lemmas.List.Elements.{Contains-append_left, Contains-append_right}
use Rattle.cool_codegen.specs.Spans.{span, spans}
use Rattle.cool_simulation.proofs.ground.Passages.{quiet}
use Rattle.cool_simulation.proofs.ground.Heads.{visit, visit_shown}

module _ (l : Loading) (loaded : IsLoaded l) (calls : Calls) (begun_in : Call → Visits) (b : ℕ) (sound : AllCallsSound l.table calls b) (later : CallsLater calls) (c : ClassId) (f : ℕ) (k : ClassId) (self : Value) (scope : List Binding) (vs : List Named)
    (env : Environment) (name : List ℕ) (t : Ty) (body : Tree) (type : Ty) where
  -- the body of a let, with its value
  abbrev pub bound_body : Value → Computation Value
  bound_body v = locate v >>= λ i. eval l.table calls self (record { name = name; location = i } ∷ env) body

  pub body_later : (v : Value) → ComesLater (bound_body v)
  body_later v = bind_later (locate_later v) (λ i. eval_later l.table calls later self (record { name = name; location = i } ∷ env) body)

  -- the push of the value, the body, and the pop
  pub body_runs : (made : fitting.World) (d first : ℕ) (q : Pointers) (m : Bytes) (map : Map) (st t1 : State) (u : Machine) (left words whole pc1 final : ℕ) (v : Value) → left ≤ b → q.sp % 4 ≡ 0 → (j : Done l (record q { pc = pc1 }) m map st words v t1 u)
      → Begins l c k self scope vs env made d (record q { pc = pc1; gp = j.gp; acc = j.acc; ra = j.ra }) j.memory j.map' j.console t1 u → Fits l.table made v (class_meant k t) → d + 1 + tree_size body ≤ 8000
      → HasLines l.world pc1 push_lines → HasLines l.world (pc1 + 20 + sizes (code (context l c f) (constants l) (bind d name t vs) (d + 1) first body)) pop_lines
      → CodeAt l c f (bind d name t vs) (d + 1) first (pc1 + 20) body → Correct l calls begun_in b body → HasType l.table c (with_name name t scope) body type → Rest l q 16 words (bound_body v t1 left) → words + (bound_body v t1 left).words ≡ whole
      → pc1 + 20 + sizes (code (context l c f) (constants l) (bind d name t vs) (d + 1) first body) + 4 ≡ final
      → ((x : Visit) → behind (locate v) (λ i. begun l.table calls begun_in c f self (record { name = name; location = i } ∷ env) first body) t1 left x → Watched l.watch x)
      → Runs l u left (64 * (bound_body v t1 left).work + 58) (Done l (record q { pc = final }) m map st whole) (bound_body v t1 left).outcome
  unfolding pop_lines
  body_runs made d first q m map st t1 u left words whole pc1 final v less even j begins fit small pushed popped at correct has rest sum e watched =
      let w = l.world in
      let lb = code (context l c f) (constants l) (bind d name t vs) (d + 1) first body in
      let env' : Environment = record { name = name; location = length t1.store } ∷ env in
      let t1' : State = record t1 { store = t1.store ++ v ∷ [] } in
      let r = eval l.table calls self env' body t1' left in
      let pc2 = pc1 + 20 in
      let pc3 = pc2 + sizes lb in
      let q1 : Pointers = record q { pc = pc1; gp = j.gp; acc = j.acc; ra = j.ra } in
      let q2 : Pointers = record q { pc = pc2; gp = j.gp; sp = q.sp - 4; acc = j.acc; ra = j.ra } in
      let m1 = set_word j.memory (q.sp - 4) j.acc in
      let map1 = homed j.map' (length t1.store) (q.sp - 4) in
      let L = Done l (record q { pc = final }) m map st whole in
      let K = Done l (record q2 { pc = pc3 }) m1 map1 t1' r.words in
      let rest' : Rest l q 16 words r = same_rest l q 16 words r rest in
      let laid = w.laid in
      let numbers = j.at.numbers in
      let stack = rest'.stack in
      let used = j.gp_to in
      let up : q.sp - 4 + 4 ≡ q.sp = omega arith in
      unless_stuck l r.outcome u left (64 * (0 + r.work) + 58) L (λ some.
      run_after l r.outcome u left 8 (64 * r.work - 4 + 1) (64 * (0 + r.work) + 58) (At w q2 m1 j.console) L (omega arith)
      (push w q1 j.memory j.console u (limits_of l loaded) pushed j.at (omega arith)
      (shown_way l t1 j.console j.shows (way_of l t1 r.outcome ((body_later v).later t1 left) some rest'.way)))
      (λ u2 there. run_on l r.outcome u2 left (64 * r.work - 4) 1 (64 * r.work - 4 + 1) K L (omega arith)
      (correct.runs c f k self (with_name name t scope) (bind d name t vs) env' (made ++ class_meant k t ∷ []) (d + 1) first q2 m1 map1 j.console t1' u2 left type less
      (bound_begins l c k self scope vs env made d q1 j.memory j.map' j.console t1 u u2 name t v pc2 begins j.value fit (omega arith) there) has at (room_rest l q q2 16 0 words r used (omega arith) rest')
      (λ x h. watched x (length t1.store, t1', left, refl, h)))
      (λ v2 t2 u3 i. next w u3 1 0 1 _ _ (pops w (record q2 { pc = pc3; gp = i.gp; acc = i.acc; ra = i.ra }) i.memory i.console u3 popped i.at (omega arith)) (omega arith)
      (λ u4 at4. done w 0 u4 _ (done_both l q m map st words r.words whole v v2 t1 t2 u u4 pc1 final j.acc j.ra even j
      (bound_done l q1 j.memory j.map' j.console t1 v v2 t2 r.words pc3 final u u3 u4 j.at j.pictures i
      (subst (λ a. At w (record q { pc = a; gp = i.gp; acc = i.acc; ra = i.ra }) i.memory i.console u4) e
      (subst (λ z. At w (record q { pc = pc3 + 4; gp = i.gp; sp = z; acc = i.acc; ra = i.ra }) i.memory i.console u4) up at4))) (omega arith))))))

module _ (l : Loading) (loaded : IsLoaded l) (calls : Calls) (begun_in : Call → Visits) (b : ℕ) (sound : AllCallsSound l.table calls b) (later : CallsLater calls) where
  pub let_correct : (at : Place) (name : List ℕ) (declared : TypeRef) (init body : Tree) → Correct l calls begun_in b init → Correct l calls begun_in b body → Correct l calls begun_in b (trees.Let at name declared (With init) body)
  unfolding pop_lines
  let_correct at name declared init body correct correct' = record {
    runs = λ c f k self scope vs env made d first q m map console st s n type less begins (bound, other, denotes, (type1, has, conforms), has1) code_at room watched.
        let small = code_at.small in
        let w = l.world in
        let o = whole l in
        let t = type_meant l.table declared.name in
        let meant : t ≡ bound = meant_is l.table loaded.buildable.typed.whole.table declared.name bound denotes in
        let la = code (context l c f) (constants l) vs d first init in
        let lb = code (context l c f) (constants l) (bind d name t vs) (d + 1) (first + tree_size init) body in
        let r2 : List Line = lb ++ pop_lines in
        let r1 : List Line = push_lines ++ r2 in
        let pc1 = q.pc + sizes la in
        let pc2 = pc1 + 20 in
        let pc3 = pc2 + sizes lb in
        let final = q.pc + sizes (la ++ r1) in
        let h1 : HasLines o pc1 r1 = has_back o la r1 q.pc pc1 refl code_at.lines in
        let h2 : HasLines o pc2 r2 = has_back o push_lines r2 pc1 pc2 refl h1 in
        let same : pc3 + 4 ≡ final = (let a = sizes_append o la r1 in let z = sizes_append o lb pop_lines in omega arith) in
        let free = (own_placed l c f vs d first q.pc (trees.Let at name declared (With init) body) code_at).quiet in
        let pushed : HasLines w pc1 push_lines = quiet l push_lines pc1 pc2 (omega arith) free.0 (has_front o push_lines r2 pc1 h1) in
        let popped : HasLines w pc3 pop_lines = quiet l pop_lines pc3 final (omega (arith, same)) free.1 (has_back o lb pop_lines pc2 pc3 refl h2) in
        let own = span vs d first q.pc (trees.Let at name declared (With init) body) in
        let at_a = spans sizes (context l c f) (constants l) vs d first q.pc init in
        let at_b = spans sizes (context l c f) (constants l) (bind d name t vs) (d + 1) (first + tree_size init) pc2 body in
        let ia = integers_in init in let ib = integers_in body in
        let xa = strings_in l.files init in let xb = strings_in l.files body in
        let asks : Asks l (ia ++ ib) (xa ++ xb) = asks_of l c f vs d first q.pc (trees.Let at name declared (With init) body) code_at in
        let whole = (eval l.table calls self env (trees.Let at name declared (With init) body) st n).words in
        let L = Done l (record q { pc = final }) m map st whole in
        let even = begins.at.numbers.sp_even in
        rule_runs l loaded calls begun_in b sound c f k self scope vs env made d first q m map console st s n less begins init type1 correct has
        (part_at l c f vs d first q.pc init (has_front o la r1 q.pc code_at.lines) (asks_front l ia ib xa xb asks) code_at.within.3 (omega arith)
        (λ x h. code_at.spans x (in_rest own (at_a ++ at_b) x (Contains-append_left at_a at_b x h)))) (λ x h. watched x (inr (inl h)))
        (bound_body l loaded calls begun_in b sound later c f k self scope vs env name t body type) L (body_later l loaded calls begun_in b sound later c f k self scope vs env name t body type) room
        (λ v t1 left u e j x sum rest.
        let fewer = x.fewer in
        let r = bound_body l loaded calls begun_in b sound later c f k self scope vs env name t body type v t1 left in
        let scene = x.begins.scene in
        let fit : Fits l.table x.made' v (class_meant k t) =
        subst (λ y. Fits l.table x.made' v (class_meant k y)) (sym meant) (fits_conforming l.table loaded.buildable.typed c k scene.k_within scene.below x.made' v type1 bound x.value_fits conforms) in
        run_wider l r.outcome u left (64 * r.work + 58) (64 * r.work + 60) L (omega arith)
        (body_runs l loaded calls begun_in b sound later c f k self scope vs env name t body type x.made' d (first + tree_size init) q m map st t1 u left _ whole pc1 final v (omega arith) even j x.begins fit (omega arith) pushed popped
        (part_at l c f (bind d name t vs) (d + 1) (first + tree_size init) pc2 body (has_front o lb pop_lines pc2 h2) (asks_back l ia ib xa xb asks) code_at.within.4 (omega arith)
        (λ x h. code_at.spans x (in_rest own (at_a ++ at_b) x (Contains-append_right at_a at_b x h)))) correct'
        (subst (λ y. HasType l.table c (with_name name y scope) body type) (sym meant) has1) rest (omega arith) same (λ x h. watched x (inr (inr (v, t1, left, e, h))))));
  }

  pub let_default_correct : (at : Place) (name : List ℕ) (declared : TypeRef) (body : Tree) → Correct l calls begun_in b body → Correct l calls begun_in b (trees.Let at name declared Without body)
  unfolding pop_lines
  let_default_correct at name declared body correct' = record {
    runs = λ c f k self scope vs env made d first q m map console st s n type less begins (bound, other, denotes, none, has1) code_at room watched.
        let small = code_at.small in
        let w = l.world in
        let o = whole l in
        let t = type_meant l.table declared.name in
        let meant : t ≡ bound = meant_is l.table loaded.buildable.typed.whole.table declared.name bound denotes in
        let la = default_code t in
        let lb = code (context l c f) (constants l) (bind d name t vs) (d + 1) (first + 0) body in
        let r2 : List Line = lb ++ pop_lines in
        let r1 : List Line = push_lines ++ r2 in
        let pc1 = q.pc + sizes la in
        let pc2 = pc1 + 20 in
        let pc3 = pc2 + sizes lb in
        let final = q.pc + sizes (la ++ r1) in
        let h1 : HasLines o pc1 r1 = has_back o la r1 q.pc pc1 refl code_at.lines in
        let h2 : HasLines o pc2 r2 = has_back o push_lines r2 pc1 pc2 refl h1 in
        let same : pc3 + 4 ≡ final = (let a = sizes_append o la r1 in let z = sizes_append o lb pop_lines in omega arith) in
        let placed = own_placed l c f vs d first q.pc (trees.Let at name declared Without body) code_at in
        let free = placed.quiet in
        let pushed : HasLines w pc1 push_lines = quiet l push_lines pc1 pc2 (omega arith) (λ i even from to. free.0 i even (let four = default_words t in omega arith) to) (has_front o push_lines r2 pc1 h1) in
        let popped : HasLines w pc3 pop_lines = quiet l pop_lines pc3 final (omega (arith, same)) free.1 (has_back o lb pop_lines pc2 pc3 refl h2) in
        let own = span vs d first q.pc (trees.Let at name declared Without body) in
        let at_b = spans sizes (context l c f) (constants l) (bind d name t vs) (d + 1) (first + 0) pc2 body in
        let x = visit c f first (trees.Let at name declared Without body) self env st n in
        let asks : Asks l (integers_in body) (strings_in l.files body) = asks_of l c f vs d first q.pc (trees.Let at name declared Without body) code_at in
        let v = default_of declared.name in
        let F = bound_body l loaded calls begun_in b sound later c f k self scope vs env name t body type in
        let whole = (eval l.table calls self env (trees.Let at name declared Without body) st n).words in
        let L = Done l (record q { pc = final }) m map st whole in
        let even = begins.at.numbers.sp_even in
        let r = F v st n in
        let r' : Metered Value = (give v >>= F) st n in
        let room' : Room l q 16 r' = room_ruled l q 0 r' room in
        let rest : Rest l q 16 0 r = (let heap = room'.heap in let stack = room'.stack in record { heap = omega arith; stack = omega arith; way = room'.way }) in
        let scene = begins.scene in
        let fit : Fits l.table made v (class_meant k t) =
        subst (λ y. Fits l.table made v (class_meant k y)) (sym meant) (default_fits l.table loaded.buildable.typed made k declared.name bound scene.k_within scene.plain denotes) in
        run_rule l r' s n L
        (run_from l r.outcome s n 2 (64 * r.work + 58) (64 * (0 + r.work) + 60) (Done l (record q { pc = pc1 }) m map st 0 v st) L (omega arith)
        (head_default l loaded q m map console st s begins.at begins.shows begins.pictures x (watched x (inl refl))
        (visit_shown l c f k self scope vs env made d first q m map console st s n (trees.Let at name declared Without body) begins placed) declared.name t
        (subst (λ y. Denotes l.table declared.name y) (sym meant) denotes) (has_front o la r1 q.pc code_at.lines) (λ i even from to. free.0 i even from (omega arith)))
        (λ u j. body_runs l loaded calls begun_in b sound later c f k self scope vs env name t body type made d (first + 0) q m map st st u n 0 whole pc1 final v less even j
        (begins_done l loaded calls b sound c k self scope vs env made d q m map console st s u pc1 0 v begins j) fit (omega arith) pushed popped
        (part_at l c f (bind d name t vs) (d + 1) (first + 0) pc2 body (has_front o lb pop_lines pc2 h2) asks code_at.within.4 (omega arith)
        (λ x h. code_at.spans x (in_rest own at_b x h))) correct'
        (subst (λ y. HasType l.table c (with_name name y scope) body type) (sym meant) has1) rest refl same (λ x h. watched x (inr (inr (v, st, n, refl, h))))));
  }
