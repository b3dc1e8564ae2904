-- The code generated for `=` simulates its evaluation: unless a limit stops it, the machine reaches the value, state or error that the semantics gives.
use Rattle.std.proofs.Common.{◌≡◌, ℕ, ◌+◌, ◌-◌, ◌*◌, ◌≤◌, ◌⊎◌, inl, inr, List, ◌++◌, length, refl, sym, ap, ◌∙◌, subst, arith}
use Rattle.std.specs.Prelude.{Bool as Truth, true, false}
use Rattle.mips_isa.specs.declared.address_map.TheConstants.{HEAP_START}
use Rattle.mips_isa.specs.Bytes.{Bytes, word}
use Rattle.mips_isa.specs.Calls.{State as Machine}
use Rattle.mips_isa.specs.Lines.{Line}
use Rattle.cool_syntax.specs.declared.place.Place.{Place}
use Rattle.cool_syntax.specs.declared.operator.CompareOp.TheVariants.{Equal}
use Rattle.cool_syntax.specs.Tree.{Tree, tree_size}
use Rattle.cool_syntax.specs.Tree as trees
use Rattle.cool_runtime.specs.Reaches.{World, Reaches, stands}
use Rattle.cool_runtime.specs.Standing.{HasLines, sizes}
use Rattle.cool_runtime.specs.Routines.{push_lines}
use Rattle.cool_runtime.specs.Labels.{equality}
use Rattle.cool_runtime.specs.Comparison.{Operands, constant_place}
use Rattle.cool_runtime.specs.Machines.{At, Pointers, Console}
use Rattle.cool_runtime.specs.declared.catalogue.Routine.TheVariants as routines
use Rattle.cool_runtime.proofs.MeaningsMet.{means}
use Rattle.cool_runtime.proofs.Pieces.{next, done, has_front, has_back, sizes_append}
use Rattle.cool_codegen.specs.Pieces.{compare_equal_lines}
use Rattle.cool_codegen.specs.Asked.{integers_in, strings_in}
use Rattle.cool_codegen.specs.Code.{code, truth_label}
use Rattle.cool_meaning.specs.Values.{Value, Void, Int, Bool, Str, Obj, State}
use Rattle.cool_meaning.specs.Evaluation.{Call, Calls, eval, compare, same, bytes_compared}
use Rattle.cool_meaning.proofs.SoundParts.{AllCallsSound}
use Rattle.cool_simulation.specs.Loadings.{Loading, IsLoaded, constants, context, whole}
use Rattle.cool_simulation.specs.Pictures.{Map, Pic, Pictures, Shows}
use Rattle.cool_simulation.specs.Simulation.{Done, Correct}
use Rattle.cool_simulation.specs.Visits.{Visits}
use Rattle.cool_simulation.proofs.ground.FlagWalks.{operands}
use Rattle.cool_simulation.proofs.ground.PartsOfRuns.{run_gives}
use Rattle.cool_simulation.proofs.ground.EvaluationLater.{CallsLater, compare_later}
use Rattle.cool_simulation.proofs.ground.PartsBehind.{Gone, done_of}
use Rattle.cool_simulation.proofs.ground.DataHere.{prototypes_here, truth_pic}
use Rattle.cool_simulation.proofs.ground.CodeOfParts.{Asks, asks_of, asks_front, asks_back, part_at, in_rest, own_placed}
use Rattle.cool_simulation.proofs.ground.Operands.{operands_run}
use Rattle.cool_simulation.proofs.forms.Arithmetic.{popped}
use Rattle.cool_simulation.proofs.ground.KindsOfValues.{kind, tag_of, number_of, first_bytes, second_bytes, int_kind, bool_kind, string_kind, tagged, value_at}
use Rattle.cool_simulation.proofs.forms.Verdicts.{verdict_same, strings_at}
use Rattle.cool_simulation.proofs.ground.Passages.{quiet}
use Rattle.cool_codegen.specs.Spans.{span, spans}
use Rattle.std.proofs.lemmas.List.Elements.{Contains-append_left, Contains-append_right}

-- the routine's work is the meaning's
compared_bound : (v u : Value) → length (first_bytes v u) ≤ bytes_compared v u
compared_bound (Str xs) (Str ys) = omega arith
compared_bound (Str xs) Void = omega arith
compared_bound (Str xs) (Int n) = omega arith
compared_bound (Str xs) (Bool n) = omega arith
compared_bound (Str xs) (Obj c i ls) = omega arith
compared_bound Void u = omega arith
compared_bound (Int n) u = omega arith
compared_bound (Bool n) u = omega arith
compared_bound (Obj c i ls) u = omega arith

constant_is : (w : World) (t : Truth) → constant_place w t ≡ w.place (truth_label t)
constant_is w true = refl
constant_is w false = refl

module _ (l : Loading) (loaded : IsLoaded l) where
  -- two values are compared by the routine
  compared : (v u : Value) (q : Pointers) (m0 m : Bytes) (map0 map : Map) (console : Console) (st t : State) (words whole a b gp ra : ℕ) (s : Machine)
      → Operands l.world (record q { pc = l.world.place equality; gp = gp; acc = b; ra = ra }) m console a b s → Shows t console → Pictures l.table l.world l.memory m map t gp q.sp → Pic l.world m map t.drawn gp v a
      → Pic l.world m map t.drawn gp u b → Gone m0 map0 st q.gp q.sp words m map t gp → words ≤ whole
      → Reaches l.world s 0 (10 * length (first_bytes v u) + 47) (stands (Done l (record q { pc = ra }) m0 map0 st whole (Bool (same v u)) t))
  compared v u q m0 m map0 map console st t words whole a b gp ra s two shows pictures pv pu gone le =
      let w = l.world in
      let numbers = two.at.numbers in
      let from = numbers.gp_from in
      let to = gone.gp_to in
      next w s (10 * length (first_bytes v u) + 47) 0 (10 * length (first_bytes v u) + 47) _ _
      (means w routines.Equal (record q { pc = w.place equality; gp = gp; acc = b; ra = ra }) m console s a b (tag_of w l.table v) (tag_of w l.table u) (number_of v) (number_of u) (first_bytes v u) (second_bytes v u)
      (loaded.routines routines.Equal) two refl (tagged l loaded m map t gp q.sp from pictures v a pv) (tagged l loaded m map t gp q.sp from pictures u b pu) (prototypes_here l loaded m map t gp q.sp from pictures)
      (λ one which. (value_at l loaded m map t gp q.sp from pictures v a pv (numbered v a pv from pictures which), value_at l loaded m map t gp q.sp from pictures u b pu (numbered u b pu from pictures (moved one which))))
      (λ one string. strings_at l loaded m map t gp q.sp from pictures v u a b pv pu (string_kind l loaded m map t gp q.sp from pictures v a pv string) (string_kind l loaded m map t gp q.sp from pictures u b pu (sym one ∙ string))))
      (omega arith)
      (λ r ends.
      let is : ends.0 ≡ same v u = verdict_same l loaded m map t gp q.sp from pictures v u a b ends.0 pv pu ends.1.0 in
      done w 0 r _ (done_of l (record q { pc = ra }) m0 map0 st whole (Bool (same v u)) t r gp (w.place (truth_label (same v u))) ra m map console
      (subst (λ x. At w (record q { pc = ra; gp = gp; acc = x; ra = ra }) m console r) (constant_is w ends.0 ∙ ap (λ x. w.place (truth_label x)) is) ends.1.1) shows pictures (truth_pic l loaded m map t gp q.sp from pictures (same v u))
      (record { kept = gone.kept; grown = gone.grown; drawn = gone.drawn; located = gone.located; gp_from = gone.gp_from; gp_to = omega arith })))
    where
      numbered : (x : Value) (c : ℕ) → Pic l.world m map t.drawn gp x c → HEAP_START ≤ gp → Pictures l.table l.world l.memory m map t gp q.sp
          → (tag_of l.world l.table x ≡ l.world.tags.int) ⊎ (tag_of l.world l.table x ≡ l.world.tags.bool) → (kind x ≡ 1) ⊎ (kind x ≡ 2)
      numbered x c px from pictures (inl int) = inl (int_kind l loaded m map t gp q.sp from pictures x c px int)
      numbered x c px from pictures (inr bool) = inr (bool_kind l loaded m map t gp q.sp from pictures x c px bool)

      moved : {i j ta tb : ℕ} → ta ≡ tb → (ta ≡ i) ⊎ (ta ≡ j) → (tb ≡ i) ⊎ (tb ≡ j)
      moved e (inl h) = inl (sym e ∙ h)
      moved e (inr h) = inr (sym e ∙ h)

module _ (l : Loading) (loaded : IsLoaded l) (calls : Calls) (begun_in : Call → Visits) (b : ℕ) (sound : AllCallsSound l.table calls b) (later : CallsLater calls) where
  pub equal_correct : (at : Place) (ta tb : Tree) → Correct l calls begun_in b ta → Correct l calls begun_in b tb → Correct l calls begun_in b (trees.Compare at Equal ta tb)
  unfolding compare_equal_lines
  equal_correct at ta tb correct correct' = record {
    runs = λ c f k self scope vs env made d first q m map console st s n type less' begins (type1, type2, has, has', comparable, is) code_at room watched.
        let small = code_at.small in
        let w = l.world in
        let o = whole l in
        let ctx = context l c f in
        let la = code ctx (constants l) vs d first ta in
        let lb = code ctx (constants l) vs (d + 1) (first + tree_size ta) tb in
        let r3 : List Line = compare_equal_lines in
        let r2 : List Line = lb ++ r3 in
        let r1 : List Line = push_lines ++ r2 in
        let pc1 = q.pc + sizes la in
        let pc2 = pc1 + 20 in
        let pc3 = pc2 + sizes lb in
        let final = q.pc + sizes (la ++ r1) in
        let h1 : HasLines o pc1 r1 = has_back o la r1 q.pc pc1 refl code_at.lines in
        let h2 : HasLines o pc2 r2 = has_back o push_lines r2 pc1 pc2 refl h1 in
        let free = (own_placed l c f vs d first q.pc (trees.Compare at Equal ta tb) code_at).quiet in
        let push_there : HasLines w pc1 push_lines = quiet l push_lines pc1 pc2 (omega arith) free.0 (has_front o push_lines r2 pc1 h1) in
        let h3 : HasLines w pc3 r3 = quiet l r3 pc3 final (let a = sizes_append w la r1 in let e = sizes_append w lb r3 in omega arith) free.1 (has_back o lb r3 pc2 pc3 refl h2) in
        let own = span vs d first q.pc (trees.Compare at Equal ta tb) in
        let at_a = spans sizes ctx (constants l) vs d first q.pc ta in
        let at_b = spans sizes ctx (constants l) vs (d + 1) (first + tree_size ta) pc2 tb in
        let ia = integers_in ta in let ib = integers_in tb in
        let xa = strings_in l.files ta in let xb = strings_in l.files tb in
        let asks : Asks l (ia ++ ib) (xa ++ xb) = asks_of l c f vs d first q.pc (trees.Compare at Equal ta tb) code_at in
        let whole = (eval l.table calls self env (trees.Compare at Equal ta tb) st n).words in
        let L = Done l (record q { pc = final }) m map st whole in
        let numbers = begins.at.numbers in
        let high : 4 ≤ q.sp = (let laid = w.laid in omega arith) in
        let same_end : pc3 + 16 ≡ final = (let a = sizes_append w la r1 in let e = sizes_append w lb r3 in omega arith) in
        operands_run l loaded calls begun_in b sound later c f k self scope vs env made d first q m map console st s n less' begins ta tb type1 type2 correct correct' has has'
        (part_at l c f vs d first q.pc ta (has_front o la r1 q.pc code_at.lines) (asks_front l ia ib xa xb asks) code_at.within.1 (omega arith)
        (λ x h. code_at.spans x (in_rest own (at_a ++ at_b) x (Contains-append_left at_a at_b x h)))) push_there
        (part_at l c f vs (d + 1) (first + tree_size ta) pc2 tb (has_front o lb r3 pc2 h2) (asks_back l ia ib xa xb asks) code_at.within.2 (omega arith)
        (λ x h. code_at.spans x (in_rest own (at_a ++ at_b) x (Contains-append_right at_a at_b x h)))) (λ x h. watched x (inr (inl h))) (λ v t1 left e x h. watched x (inr (inr (v, t1, left, e, h))))
        (compare Equal) L (compare_later Equal) room
        (λ v u t2 left2 words s2 i total heap way.
        let q3 : Pointers = record q { pc = pc3; gp = i.gp; sp = q.sp - 4; acc = i.acc; ra = i.ra } in
        let q4 : Pointers = record q { pc = w.place equality; gp = i.gp; acc = i.acc; ra = final } in
        let up : q.sp - 4 + 4 ≡ q.sp = omega arith in
        let bound = compared_bound v u in
        run_gives l (Bool (same v u)) t2 s2 left2 (10 * length (first_bytes v u) + 51) (64 * (bytes_compared v u + 0) + 52) L (omega arith)
        (next w s2 4 (10 * length (first_bytes v u) + 47) (10 * length (first_bytes v u) + 51) _ _
        (subst (λ z. Reaches w s2 0 4 (stands (Operands w (record q4 { sp = z }) i.memory i.console (word i.memory (q.sp - 4)) i.acc))) up
        (subst (λ z. Reaches w s2 0 4 (stands (Operands w (record q4 { sp = q.sp - 4 + 4; ra = z }) i.memory i.console (word i.memory (q.sp - 4)) i.acc))) same_end
        (operands w q3 i.memory i.console s2 h3 i.at (omega arith)))) (omega arith)
        (λ s3 two. compared l loaded v u q m i.memory map i.map' i.console st t2 words whole (word i.memory (q.sp - 4)) i.acc i.gp final s3 two i.shows (popped l q pc3 m map st words v u t2 s2 numbers.sp_even high i)
        i.first i.second i.gone (omega arith))));
  }
