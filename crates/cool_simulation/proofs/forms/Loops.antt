-- The code generated for `while` simulates its evaluation: unless a limit stops it, the machine reaches the value, state or error that the semantics gives.
use Rattle.std.proofs.Common.{◌≡◌, ℕ, zero, suc, ◌+◌, ◌-◌, ◌*◌, ◌≤◌, List, ◌++◌, refl, ap, ◌∙◌, subst, arith, inl, inr}
use Rattle.std.specs.Prelude.{Bool as Truth, true, false, codes, if◌then◌else◌, Contains}
use Rattle.mips_isa.specs.Bytes.{Bytes}
use Rattle.mips_isa.specs.Calls.{State as Machine}
use Rattle.mips_isa.specs.Lines.{Name, Line}
use Rattle.cool_syntax.specs.declared.place.Place.{Place}
use Rattle.cool_syntax.specs.Tree.{Tree, tree_size}
use Rattle.cool_syntax.specs.Tree as trees
use Rattle.cool_syntax.specs.NodeLists.{root}
use Rattle.cool_classes.specs.declared.class_id.ClassId.{ClassId}
use Rattle.cool_classes.specs.declared.class_id.Ty.{Ty}
use Rattle.cool_rules.specs.Scopes.{Binding}
use Rattle.cool_rules.specs.Typing.{HasType, bool_type}
use Rattle.cool_runtime.specs.Reaches.{World, Reaches, stands}
use Rattle.cool_runtime.specs.Standing.{HasLines, sizes}
use Rattle.cool_runtime.specs.Machines.{At, Pointers, Console}
use Rattle.cool_runtime.proofs.Runs.{wider}
use Rattle.cool_runtime.proofs.Pieces.{next, done, has_front, has_back, has_at, sizes_append}
use Rattle.cool_codegen.specs.Variables.{Named}
use Rattle.cool_codegen.specs.Pieces.{mark_lines, test_lines, repeat_lines, take_void_lines}
use Rattle.cool_codegen.specs.Asked.{integers_in, strings_in}
use Rattle.cool_codegen.specs.Code.{code, label_at}
use Rattle.cool_meaning.specs.Values.{Value, Void, Bool, State, Environment}
use Rattle.cool_meaning.specs.Meters.{Metered, Computation, give, spend, working, seq, ◌>>=◌, ◌>>◌}
use Rattle.cool_meaning.specs.BasicMethods.{as_truth}
use Rattle.cool_meaning.specs.Evaluation.{Call, Calls, eval, turns}
use Rattle.cool_meaning.specs.FittingValues as fitting
use Rattle.cool_meaning.proofs.SoundParts.{AllCallsSound}
use Rattle.cool_simulation.specs.Loadings.{Loading, IsLoaded, constants, context, whole, Watched}
use Rattle.cool_simulation.specs.Pictures.{Map, Pic}
use Rattle.cool_simulation.specs.Simulation.{Begins, Done, Correct, Runs, Room, CodeAt, Paused}
use Rattle.cool_simulation.specs.Visits.{Visit, Visits, begun, behind, behind_step, turns_begun, ◌or◌}
use Rattle.cool_simulation.proofs.ground.Walks.{tests_true, tests_false, repeats, takes_void}
use Rattle.cool_simulation.proofs.ground.PartsOfRuns.{run_behind, run_after, run_wider, run_as, run_gives, run_rule, bind_runs, truth_cases, Rest, room_rest, room_ruled, room_less}
use Rattle.cool_simulation.proofs.ground.EvaluationLater.{CallsLater, ComesLater, bind_later, then_later, spend_later, if_later, give_later, truth_later, turns_later, eval_later}
use Rattle.cool_simulation.proofs.ground.PartsBehind.{gone_of, gone_then, done_of, done_on}
use Rattle.cool_simulation.proofs.ground.NextParts.{Next, next as following, begins_at}
use Rattle.cool_simulation.proofs.ground.CodeOfParts.{Asks, asks_of, asks_front, asks_back, part_at, in_rest, own_placed}
use Rattle.cool_simulation.proofs.ground.FirstParts.{part_runs}
use Rattle.std.proofs.lemmas.List.Elements.{Contains-append_left, Contains-append_right}
use Rattle.cool_codegen.specs.Spans.{span, spans}
use Rattle.cool_simulation.proofs.ground.Passages.{passes, quiet}

module _ (l : Loading) (loaded : IsLoaded l) (calls : Calls) (begun_in : Call → Visits) (b : ℕ) (sound : AllCallsSound l.table calls b) (later : CallsLater calls) (c : ClassId) (f : ℕ) (k : ClassId) (self : Value) (scope : List Binding) (vs : List Named)
    (env : Environment) (d first pc : ℕ) (test body : Tree) (type : Ty) (begin end : Name) (correct : Correct l calls begun_in b test) (correct' : Correct l calls begun_in b body) (has : HasType l.table c scope test bool_type)
    (has' : HasType l.table c scope body type) where
  abbrev T : Computation Value
  T = eval l.table calls self env test

  abbrev B : Computation Value
  B = eval l.table calls self env body

  abbrev V : Visits
  V = begun l.table calls begun_in c f self env first test

  abbrev W : Visits
  W = begun l.table calls begun_in c f self env (first + tree_size test) body

  abbrev lt : List Line
  lt = code (context l c f) (constants l) vs d first test

  abbrev lb : List Line
  lb = code (context l c f) (constants l) vs d (first + tree_size test) body

  abbrev pc1 : ℕ
  pc1 = pc + sizes lt

  abbrev pc2 : ℕ
  pc2 = pc + sizes lt + 12

  abbrev pc3 : ℕ
  pc3 = pc + sizes lt + 12 + sizes lb

  abbrev final : ℕ
  final = pc + sizes lt + 12 + sizes lb + 8

  -- a turn, where the test was true, and the end
  abbrev G : ℕ → Truth → Computation Value
  G j x = if x then spend (working 1 (B >> turns j T B)) else give Void

  G_later : (j : ℕ) (x : Truth) → ComesLater (G j x)
  G_later j x =
      if_later x (spend_later (record { later = (then_later (eval_later l.table calls later self env body) (turns_later j T B (eval_later l.table calls later self env test) (eval_later l.table calls later self env body))).later }))
      (give_later Void)

  module _ (at : CodeAt l c f vs d first pc test) (at' : CodeAt l c f vs d (first + tree_size test) pc2 body) (tests : HasLines l.world pc1 (test_lines end)) (ends : HasLines l.world pc3 (repeat_lines begin end))
      (at_begin : l.world.place begin ≡ pc) where
    -- so many turns at most, from a state at the begin of the loop
    abbrev TurnsRun : ℕ → Type 0
    TurnsRun j =
        (made : fitting.World) (q : Pointers) (m : Bytes) (map : Map) (console : Console) (st : State) (s : Machine) (n : ℕ) → n ≤ b → Begins l c k self scope vs env made d (record q { pc = pc }) m map console st s
        → Room l q 16 (turns j T B st n) → ((x : Visit) → turns_begun l.table calls begun_in j T B V W st n x → Watched l.watch x)
        → Runs l s n (64 * (turns j T B st n).work + 60) (Done l (record q { pc = final }) m map st (turns j T B st n).words) (turns j T B st n).outcome

    pub turns_run : (j : ℕ) (made : fitting.World) (q : Pointers) (m : Bytes) (map : Map) (console : Console) (st : State) (s : Machine) (n : ℕ) → n ≤ b → Begins l c k self scope vs env made d (record q { pc = pc }) m map console st s
        → Room l q 16 (turns j T B st n) → ((x : Visit) → turns_begun l.table calls begun_in j T B V W st n x → Watched l.watch x)
        → Runs l s n (64 * (turns j T B st n).work + 60) (Done l (record q { pc = final }) m map st (turns j T B st n).words) (turns j T B st n).outcome
    unfolding repeat_lines take_void_lines
    turns_run zero made q m map console st s n less begins room watched = tt
    turns_run (suc j) made q m map console st s n less begins room watched =
        part_runs l loaded calls begun_in b sound c f k self scope vs env made d first (record q { pc = pc }) m map console st s n less begins test bool_type correct has at (λ x h. watched x (inl h)) (λ v. as_truth v >>= G j) L 16 60
        (λ v. bind_later (truth_later v) (λ x. G_later j x)) (record { heap = room.heap; stack = room.stack; way = room.way })
        (λ v t1 left u e i x sum rest. truth_cases l v (G j) u t1 left 60 q 16 _ L (record { heap = rest.heap; stack = rest.stack; way = rest.way })
        (λ is words rest2. turn (turns_run j) v t1 left u i (subst (λ o. Pic w i.memory i.map' t1.drawn i.gp o i.acc) is i.value) x (sum ∙ ap (λ z. (T st n).words + z) words) rest2 (λ x h. watched x (inr (v, t1, left, e, (is, h)))))
        (λ is words rest2. run_gives l Void t1 u left 4 60 L (omega arith)
        (let pic : Pic w i.memory i.map' t1.drawn i.gp (Bool false) i.acc = subst (λ o. Pic w i.memory i.map' t1.drawn i.gp o i.acc) is i.value in
        let q1 : Pointers = record q { pc = pc1; gp = i.gp; acc = i.acc; ra = i.ra } in
        next w u 3 1 4 _ _ (tests_false w end q1 i.memory i.console u tests i.at pic.0) (omega arith)
        (λ u2 there. next w u2 1 0 1 _ _
        (takes_void w (record q1 { pc = pc3 + 4 }) i.memory i.console u2 (has_at w take_void_lines _ (pc3 + 4) (omega arith) ends.1.1)
        (subst (λ a. At w (record q1 { pc = a }) i.memory i.console u2) ends.1.0.labels.0 there)) (omega arith)
        (λ u3 there3. done w 0 u3 _ (done_on l q m map st _ whole v Void t1 u u3 pc1 final 0 i.ra i (omega arith)
        (subst (λ a. At w (record q1 { pc = a; acc = 0 }) i.memory i.console u3) (omega arith) there3) refl))))))
      where
        w : World
        w = l.world

        whole : ℕ
        whole = (turns (suc j) T B st n).words

        L : Value → State → Machine → Type 0
        L = Done l (record q { pc = final }) m map st whole

        turn : TurnsRun j → (v : Value) (t1 : State) (left : ℕ) (u : Machine) → (i : Done l (record q { pc = pc1 }) m map st (T st n).words v t1 u) → Pic w i.memory i.map' t1.drawn i.gp (Bool true) i.acc
            → Next l loaded calls b sound c k self scope vs env made bool_type d (record q { pc = pc1; gp = i.gp; acc = i.acc; ra = i.ra }) i.memory i.map' i.console v t1 left n u
            → whole ≡ (T st n).words + (spend (working 1 (B >> turns j T B)) t1 left).words → Rest l q 16 (T st n).words (spend (working 1 (B >> turns j T B)) t1 left)
            → ((x : Visit) → behind_step (W or behind B (λ w. turns_begun l.table calls begun_in j T B V W)) t1 left x → Watched l.watch x)
            → Runs l u left (64 * (spend (working 1 (B >> turns j T B)) t1 left).work + 60) L (spend (working 1 (B >> turns j T B)) t1 left).outcome
        turn again v t1 zero u i pic x sum rest watched = passes l u 0 60 _ (done w 60 u (Paused t1) (record { output = i.at.output_is ∙ i.shows.output; input = i.at.input_is ∙ i.shows.input }))
        turn again v t1 (suc left) u i pic x sum rest watched =
            let q1 : Pointers = record q { pc = pc1; gp = i.gp; acc = i.acc; ra = i.ra } in
            let q2 : Pointers = record q { pc = pc2; gp = i.gp; acc = i.acc; ra = i.ra } in
            let r1 = B t1 left in
            let r2 : Metered Value = seq r1 (λ v2. turns j T B) in
            let fewer = x.fewer in
            let used = i.gp_to in
            let even = i.at.numbers.sp_even in
            let heap = rest.heap in
            let stack = rest.stack in
            let K = Done l (record q2 { pc = pc3 }) i.memory i.map' t1 r1.words in
            let room2 : Room l q2 16 r2 = record { heap = omega arith; stack = stack; way = rest.way } in
            run_behind l r2.outcome u (suc left) left 3 (64 * r2.work + 62) (64 * (1 + r2.work) + 60) (At w q2 i.memory i.console) L (omega arith)
            (wider w u 1 (suc left - left) 3 3 _ (omega arith) (omega arith) (tests_true w end q1 i.memory i.console u tests i.at pic.0))
            (λ u2 there.
            let begins2 = begins_at l loaded calls b sound c k self scope vs env x.made' d q1 i.memory i.map' i.console t1 u u2 pc2 i.acc i.ra x.begins there in
            bind_runs l r1 (λ v2. turns j T B) u2 left 62 q2 16 K L
            (λ v2 t2 left2. (turns_later j T B (eval_later l.table calls later self env test) (eval_later l.table calls later self env body)).later t2 left2) room2
            (λ room3. run_wider l r1.outcome u2 left (64 * r1.work - 4) (64 * r1.work) K (omega arith)
            (correct'.runs c f k self scope vs env x.made' d (first + tree_size test) q2 i.memory i.map' i.console t1 u2 left type (omega arith) begins2 has' at' (room_less l q2 16 0 r1 (omega arith) room3) (λ x h. watched x (inl h))))
            (λ v2 t2 left2 u3 e2 i2 sum2 rest2.
            let x2 = following l loaded calls b sound c k self body scope vs env x.made' type d q2 i.memory i.map' i.console t1 t2 u2 u3 left left2 r1.words pc3 v2 begins2 has' (omega arith) e2 i2 in
            let r3 = turns j T B t2 left2 in
            let q3 : Pointers = record q { pc = pc3; gp = i2.gp; acc = i2.acc; ra = i2.ra } in
            let q4 : Pointers = record q { pc = pc; gp = i2.gp; acc = i2.acc; ra = i2.ra } in
            let fewer2 = x2.fewer in
            let used2 = i2.gp_to in
            run_after l r3.outcome u3 left2 2 (64 * r3.work + 60) (64 * r3.work + 62) (At w q4 i2.memory i2.console) L (omega arith)
            (subst (λ a. Reaches w u3 0 2 (stands (At w (record q3 { pc = a }) i2.memory i2.console))) at_begin (repeats w begin end q3 i2.memory i2.console u3 ends i2.at))
            (λ u4 there4.
            run_as l r3.outcome u4 left2 (64 * r3.work + 60) (Done l (record q4 { pc = final }) i2.memory i2.map' t2 r3.words) L
            (λ v3 t3 u5 i3. done_of l (record q { pc = final }) m map st whole v3 t3 u5 i3.gp i3.acc i3.ra i3.memory i3.map' i3.console i3.at i3.shows i3.pictures i3.value
            (gone_then w m i.memory i3.memory map i.map' i3.map' st t1 t3 q.gp i.gp i3.gp q.sp q.sp (T st n).words (r1.words + r3.words) whole (omega arith) even (gone_of l (record q { pc = pc1 }) m map st (T st n).words v t1 u i)
            (gone_then w i.memory i2.memory i3.memory i.map' i2.map' i3.map' t1 t2 t3 i.gp i2.gp i3.gp q.sp q.sp r1.words r3.words (r1.words + r3.words) (omega arith) even
            (gone_of l (record q2 { pc = pc3 }) i.memory i.map' t1 r1.words v2 t2 u3 i2) (gone_of l (record q4 { pc = final }) i2.memory i2.map' t2 r3.words v3 t3 u5 i3) (omega arith)) (omega arith)))
            (again x2.made' q4 i2.memory i2.map' i2.console t2 u4 left2 (omega arith)
            (begins_at l loaded calls b sound c k self scope vs env x2.made' d q3 i2.memory i2.map' i2.console t2 u3 u4 pc i2.acc i2.ra x2.begins there4) (room_rest l q2 q4 16 16 r1.words r3 used2 (omega arith) rest2)
            (λ x h. watched x (inr (v2, t2, left2, e2, h)))))))

module _ (l : Loading) (loaded : IsLoaded l) (calls : Calls) (begun_in : Call → Visits) (b : ℕ) (sound : AllCallsSound l.table calls b) (later : CallsLater calls) where
  pub while_correct : (at : Place) (test body : Tree) → Correct l calls begun_in b test → Correct l calls begun_in b body → Correct l calls begun_in b (trees.While at test body)
  unfolding mark_lines test_lines repeat_lines
  while_correct at test body correct correct' = record {
    runs = λ c f k self scope vs env made d first q m map console st s n type less begins (type1, has, has', is) code_at room watched.
        let small = code_at.small in
        let w = l.world in
        let o = whole l in
        let ctx = context l c f in
        let loop = label_at ctx (codes "loop") (root first (trees.While at test body)) in
        let end = label_at ctx (codes "end") (root first (trees.While at test body)) in
        let lt' = code ctx (constants l) vs d first test in
        let lb' = code ctx (constants l) vs d (first + tree_size test) body in
        let r4 : List Line = repeat_lines loop end in
        let r3 : List Line = lb' ++ r4 in
        let r2 : List Line = test_lines end ++ r3 in
        let r1 : List Line = lt' ++ r2 in
        let a1 = q.pc + sizes lt' in
        let a2 = a1 + 12 in
        let a3 = a2 + sizes lb' in
        let last = a3 + 8 in
        let h1 : HasLines o q.pc r1 = has_back o (mark_lines loop) r1 q.pc q.pc (omega arith) code_at.lines in
        let h2 : HasLines o a1 r2 = has_back o lt' r2 q.pc a1 refl h1 in
        let h3 : HasLines o a2 r3 = has_back o (test_lines end) r3 a1 a2 refl h2 in
        let h4 : HasLines o a3 r4 = has_back o lb' r4 a2 a3 refl h3 in
        let ia = integers_in test in let ib = integers_in body in
        let xa = strings_in l.files test in let xb = strings_in l.files body in
        let asks : Asks l (ia ++ ib) (xa ++ xb) = asks_of l c f vs d first q.pc (trees.While at test body) code_at in
        let p0 = q.pc + sizes (mark_lines loop) in
        let p2 = p0 + sizes lt' + sizes (test_lines end) in
        let same0 : q.pc ≡ p0 = omega arith in
        let same2 : a2 ≡ p2 = omega arith in
        let own = span vs d first q.pc (trees.While at test body) in
        let at_t = spans sizes ctx (constants l) vs d first p0 test in
        let at_b = spans sizes ctx (constants l) vs d (first + tree_size test) p2 body in
        let T' = eval l.table calls self env test in
        let B' = eval l.table calls self env body in
        let r = turns (suc n) T' B' st n in
        let same : last ≡ q.pc + sizes (mark_lines loop ++ r1) = (let x = sizes_append o lt' r2 in let y = sizes_append o lb' r4 in omega arith) in
        let free = (own_placed l c f vs d first q.pc (trees.While at test body) code_at).quiet in
        let tests : HasLines w a1 (test_lines end) = quiet l (test_lines end) a1 a2 (omega arith) (λ i even from to. free.0 i even (omega arith) (omega arith)) (has_front o (test_lines end) r3 a1 h2) in
        let ends : HasLines w a3 r4 = quiet l r4 a3 last (omega arith) (λ i even from to. free.1 i even (omega arith) (omega (arith, same))) h4 in
        subst (λ a. Runs l s n (64 * (1 + r.work) - 4) (Done l (record q { pc = a }) m map st r.words) r.outcome) same
        (run_rule l r s n (Done l (record q { pc = last }) m map st r.words)
        (turns_run l loaded calls begun_in b sound later c f k self scope vs env d first q.pc test body type1 loop end correct correct' has has'
        (part_at l c f vs d first q.pc test (has_front o lt' r2 q.pc h1) (asks_front l ia ib xa xb asks) code_at.within.1 (omega arith)
        (λ x h. code_at.spans x (in_rest own (at_t ++ at_b) x (Contains-append_left at_t at_b x (subst (λ a. Contains (spans sizes ctx (constants l) vs d first a test) x) same0 h)))))
        (part_at l c f vs d (first + tree_size test) a2 body (has_front o lb' r4 a2 h3) (asks_back l ia ib xa xb asks) code_at.within.2 (omega arith)
        (λ x h. code_at.spans x (in_rest own (at_t ++ at_b) x (Contains-append_right at_t at_b x (subst (λ a. Contains (spans sizes ctx (constants l) vs d (first + tree_size test) a body) x) same2 h)))))
        tests ends code_at.lines.0.labels.0 (suc n) made q m map console st s n less begins (room_ruled l q 0 r room) (λ x h. watched x (inr h))));
  }
