-- The code generated for `if` simulates its evaluation: unless a limit stops it, the machine reaches the value, state or error that the semantics gives.
use Rattle.std.proofs.Common.{◌≡◌, ℕ, ◌+◌, ◌-◌, ◌*◌, List, ◌++◌, inl, inr, refl, ◌∙◌, subst, arith}
use Rattle.std.specs.Prelude.{Bool as Truth, true, false, codes, if◌then◌else◌}
use Rattle.std.proofs.lemmas.List.Elements.{Contains-append_left, Contains-append_right}
use Rattle.mips_isa.specs.Lines.{Line}
use Rattle.cool_syntax.specs.declared.place.Place.{Place}
use Rattle.cool_syntax.specs.Tree.{Tree, tree_size}
use Rattle.cool_syntax.specs.Tree as trees
use Rattle.cool_syntax.specs.NodeLists.{root}
use Rattle.cool_rules.specs.Typing.{bool_type}
use Rattle.cool_runtime.specs.Standing.{HasLines, sizes}
use Rattle.cool_runtime.specs.Machines.{At, Pointers}
use Rattle.cool_runtime.proofs.Runs.{wider}
use Rattle.cool_runtime.proofs.Pieces.{next, done, has_front, has_back, sizes_append}
use Rattle.cool_codegen.specs.Pieces.{test_lines, turn_lines, mark_lines}
use Rattle.cool_codegen.specs.Code.{code, label_at}
use Rattle.cool_codegen.specs.Spans.{span, spans}
use Rattle.cool_codegen.specs.Asked.{integers_in, strings_in}
use Rattle.cool_meaning.specs.Values.{Bool}
use Rattle.cool_meaning.specs.Meters.{◌>>=◌}
use Rattle.cool_meaning.specs.BasicMethods.{as_truth}
use Rattle.cool_meaning.specs.Evaluation.{Call, Calls, eval}
use Rattle.cool_meaning.proofs.SoundParts.{AllCallsSound}
use Rattle.cool_simulation.specs.Loadings.{Loading, IsLoaded, constants, context, whole}
use Rattle.cool_simulation.specs.Pictures.{Pic}
use Rattle.cool_simulation.specs.Simulation.{Done, Correct}
use Rattle.cool_simulation.specs.Visits.{Visits}
use Rattle.cool_simulation.proofs.ground.Walks.{tests_true, tests_false, turns_to}
use Rattle.cool_simulation.proofs.ground.PartsOfRuns.{run_on, run_after, run_as, run_wider, truth_cases}
use Rattle.cool_simulation.proofs.ground.EvaluationLater.{CallsLater, bind_later, if_later, truth_later, eval_later}
use Rattle.cool_simulation.proofs.ground.PartsBehind.{done_on}
use Rattle.cool_simulation.proofs.forms.Blocks.{done_at}
use Rattle.cool_simulation.proofs.ground.NextParts.{begins_at}
use Rattle.cool_simulation.proofs.ground.CodeOfParts.{Asks, asks_of, asks_front, asks_back, in_rest, own_placed, part_at}
use Rattle.cool_simulation.proofs.ground.Passages.{quiet}
use Rattle.cool_simulation.proofs.ground.FirstParts.{rule_runs}
use Rattle.cool_simulation.proofs.ground.SecondParts.{second_runs}

module _ (l : Loading) (loaded : IsLoaded l) (calls : Calls) (begun_in : Call → Visits) (b : ℕ) (sound : AllCallsSound l.table calls b) (later : CallsLater calls) where
  pub if_correct : (at : Place) (t y z : Tree) → Correct l calls begun_in b t → Correct l calls begun_in b y → Correct l calls begun_in b z → Correct l calls begun_in b (trees.If at t y z)
  unfolding test_lines turn_lines mark_lines
  if_correct at t y z correct correct1 correct2 = record {
    runs = λ c f k self scope vs env made d first q m map console st s n type less begins (type1, type2, has, has1, has2, join) code_at room watched.
        let small = code_at.small in
        let w = l.world in
        let o = whole l in
        let ctx = context l c f in
        let other = label_at ctx (codes "else") (root first (trees.If at t y z)) in
        let end = label_at ctx (codes "end") (root first (trees.If at t y z)) in
        let lt = code ctx (constants l) vs d first t in
        let ly = code ctx (constants l) vs d (first + tree_size t) y in
        let lz = code ctx (constants l) vs d (first + tree_size t + tree_size y) z in
        let r4 : List Line = lz ++ mark_lines end in
        let r3 : List Line = turn_lines end other ++ r4 in
        let r2 : List Line = ly ++ r3 in
        let r1 : List Line = test_lines other ++ r2 in
        let pc1 = q.pc + sizes lt in
        let pc2 = pc1 + 12 in
        let pc3 = pc2 + sizes ly in
        let pc4 = pc3 + 4 in
        let pc5 = pc4 + sizes lz in
        let final = q.pc + sizes (lt ++ r1) in
        let same : pc5 ≡ final = (let a = sizes_append o lt r1 in let b = sizes_append o ly r3 in let c = sizes_append o lz (mark_lines end) in omega arith) in
        let h1 : HasLines o pc1 r1 = has_back o lt r1 q.pc pc1 refl code_at.lines in
        let h2 : HasLines o pc2 r2 = has_back o (test_lines other) r2 pc1 pc2 refl h1 in
        let h3 : HasLines o pc3 r3 = has_back o ly r3 pc2 pc3 refl h2 in
        let h4 : HasLines o pc4 r4 = has_back o (turn_lines end other) r4 pc3 pc4 (omega arith) h3 in
        let h5 : HasLines o pc5 (mark_lines end) = has_back o lz (mark_lines end) pc4 pc5 refl h4 in
        let at_other : w.place other ≡ pc4 = h3.1.0.labels.0 in
        let at_end : w.place end ≡ pc5 = h5.0.labels.0 in
        let free = (own_placed l c f vs d first q.pc (trees.If at t y z) code_at).quiet in
        let test : HasLines w pc1 (test_lines other) = quiet l (test_lines other) pc1 pc2 (omega arith) free.0 (has_front o (test_lines other) r2 pc1 h1) in
        let turn : HasLines w pc3 (turn_lines end other) = quiet l (turn_lines end other) pc3 pc4 (omega arith) free.1 (has_front o (turn_lines end other) r4 pc3 h3) in
        let own = span vs d first q.pc (trees.If at t y z) in
        let at_t = spans sizes ctx (constants l) vs d first q.pc t in
        let at_y = spans sizes ctx (constants l) vs d (first + tree_size t) pc2 y in
        let at_z = spans sizes ctx (constants l) vs d (first + tree_size t + tree_size y) pc4 z in
        let asks = asks_of l c f vs d first q.pc (trees.If at t y z) code_at in
        let it = integers_in t in let iy = integers_in y in let iz = integers_in z in let files = l.files in
        let xt = strings_in files t in let xy = strings_in files y in let xz = strings_in files z in
        let asks1 : Asks l (iy ++ iz) (xy ++ xz) = asks_back l it (iy ++ iz) xt (xy ++ xz) asks in
        let whole = (eval l.table calls self env (trees.If at t y z) st n).words in
        let G = λ (x : Truth). if x then eval l.table calls self env y else eval l.table calls self env z in
        let L = Done l (record q { pc = final }) m map st whole in
        let even = begins.at.numbers.sp_even in
        rule_runs l loaded calls begun_in b sound c f k self scope vs env made d first q m map console st s n less begins t bool_type correct has
        (part_at l c f vs d first q.pc t (has_front o lt r1 q.pc code_at.lines) (asks_front l it (iy ++ iz) xt (xy ++ xz) asks) code_at.within.1 (omega arith)
        (λ x h. code_at.spans x (in_rest own (at_t ++ (at_y ++ at_z)) x (Contains-append_left at_t (at_y ++ at_z) x h)))) (λ x h. watched x (inr (inl h)))
        (λ v. as_truth v >>= G) L (λ v. bind_later (truth_later v) (λ x. if_later x (eval_later l.table calls later self env y) (eval_later l.table calls later self env z))) room
        (λ v t1 left u e j x sum rest.
        let fewer = x.fewer in
        let q1 : Pointers = record q { pc = pc1; gp = j.gp; acc = j.acc; ra = j.ra } in
        truth_cases l v G u t1 left 60 q 16 _ L rest
        (λ is words rest2.
        let pic : Pic w j.memory j.map' t1.drawn j.gp (Bool true) j.acc = subst (λ o. Pic w j.memory j.map' t1.drawn j.gp o j.acc) is j.value in
        let r = eval l.table calls self env y t1 left in
        run_after l r.outcome u left 3 (64 * r.work - 4 + 1) (64 * r.work + 60) (At w (record q1 { pc = pc2 }) j.memory j.console) L (omega arith)
        (wider w u 1 0 3 3 _ (omega arith) (omega arith) (tests_true w other q1 j.memory j.console u test j.at pic.0))
        (λ u2 there.
        run_on l r.outcome u2 left (64 * r.work - 4) 1 (64 * r.work - 4 + 1) (Done l (record q { pc = pc3 }) m map st whole) L (omega arith)
        (second_runs l calls begun_in b c f k self scope vs env x.made' d (first + tree_size t) q m map st t1 u u2 left _ whole 16 pc1 pc2 j.acc j.ra v y type1 even j (omega arith)
        (begins_at l loaded calls b sound c k self scope vs env x.made' d q1 j.memory j.map' j.console t1 u u2 pc2 j.acc j.ra x.begins there) correct1 has1
        (part_at l c f vs d (first + tree_size t) pc2 y (has_front o ly r3 pc2 h2) (asks_front l iy iz xy xz asks1) code_at.within.2 (omega arith)
        (λ x h. code_at.spans x (in_rest own (at_t ++ (at_y ++ at_z)) x (Contains-append_right at_t (at_y ++ at_z) x (Contains-append_left at_y at_z x h))))) rest2 (omega arith)
        (λ x h. watched x (inr (inr (v, t1, left, e, inl (is, h))))))
        (λ v2 t2 u3 i. next w u3 1 0 1 _ _ (turns_to w end other (record q { pc = pc3; gp = i.gp; acc = i.acc; ra = i.ra }) i.memory i.console u3 turn i.at) (omega arith)
        (λ u4 there2. done w 0 u4 _ (done_on l q m map st whole whole v2 v2 t2 u3 u4 pc3 final i.acc i.ra i (omega arith)
        (subst (λ a. At w (record q { pc = a; gp = i.gp; acc = i.acc; ra = i.ra }) i.memory i.console u4) (at_end ∙ same) there2) i.value)))))
        (λ is words rest2.
        let pic : Pic w j.memory j.map' t1.drawn j.gp (Bool false) j.acc = subst (λ o. Pic w j.memory j.map' t1.drawn j.gp o j.acc) is j.value in
        let r = eval l.table calls self env z t1 left in
        run_after l r.outcome u left 3 (64 * r.work - 4 + 1) (64 * r.work + 60) (At w (record q1 { pc = w.place other }) j.memory j.console) L (omega arith)
        (tests_false w other q1 j.memory j.console u test j.at pic.0)
        (λ u2 there.
        run_wider l r.outcome u2 left (64 * r.work - 4) (64 * r.work - 4 + 1) L (omega arith)
        (run_as l r.outcome u2 left (64 * r.work - 4) (Done l (record q { pc = pc5 }) m map st whole) L (λ v2 t2 u3 i. done_at l q m map st whole pc5 final v2 t2 u3 same i)
        (second_runs l calls begun_in b c f k self scope vs env x.made' d (first + tree_size t + tree_size y) q m map st t1 u u2 left _ whole 16 pc1 pc4 j.acc j.ra v z type2 even j (omega arith)
        (begins_at l loaded calls b sound c k self scope vs env x.made' d q1 j.memory j.map' j.console t1 u u2 pc4 j.acc j.ra x.begins
        (subst (λ a. At w (record q1 { pc = a }) j.memory j.console u2) at_other there)) correct2 has2
        (part_at l c f vs d (first + tree_size t + tree_size y) pc4 z (has_front o lz (mark_lines end) pc4 h4) (asks_back l iy iz xy xz asks1) code_at.within.3 (omega arith)
        (λ x h. code_at.spans x (in_rest own (at_t ++ (at_y ++ at_z)) x (Contains-append_right at_t (at_y ++ at_z) x (Contains-append_right at_y at_z x h))))) rest2 (omega arith)
        (λ x h. watched x (inr (inr (v, t1, left, e, inr (is, h))))))))));
  }
