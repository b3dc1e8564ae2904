-- The code generated for `~` (the negative of a number) simulates its evaluation: unless a limit stops it, the machine reaches the value, state or error that
-- the semantics gives.
use Rattle.std.proofs.Common.{◌≡◌, ℕ, ◌+◌, ◌-◌, ◌*◌, ◌<◌, ℤ, neg_ℤ, List, [], ◌++◌, get_or, refl, subst, arith, inr}
use Rattle.std.specs.Prelude.{true, false, Contains, codes}
use Rattle.mips_isa.specs.Machine.{wrap}
use Rattle.mips_isa.specs.Lines.{Line}
use Rattle.cool_syntax.specs.declared.place.Place.{Place}
use Rattle.cool_syntax.specs.Tree.{Tree}
use Rattle.cool_syntax.specs.Tree as trees
use Rattle.cool_syntax.specs.NodeLists.{root}
use Rattle.cool_rules.specs.Typing.{int_type}
use Rattle.cool_runtime.specs.Standing.{HasLines, sizes}
use Rattle.cool_runtime.specs.Machines.{Pointers}
use Rattle.cool_runtime.proofs.Pieces.{has_front, has_back, sizes_append}
use Rattle.cool_codegen.specs.Pieces.{negate_lines, ends_where_lines}
use Rattle.cool_codegen.specs.Asked.{integers_in, strings_in, file_of}
use Rattle.cool_codegen.specs.Code.{code, int_code, label_at}
use Rattle.cool_meaning.specs.Meters.{◌>>=◌}
use Rattle.cool_meaning.specs.BasicMethods.{as_number}
use Rattle.cool_meaning.specs.Numbers.{fits, word_of}
use Rattle.cool_meaning.specs.Evaluation.{Call, Calls, eval, exact}
use Rattle.cool_meaning.proofs.SoundParts.{AllCallsSound}
use Rattle.cool_simulation.specs.Loadings.{Loading, IsLoaded, constants, context, whole}
use Rattle.cool_simulation.specs.Pictures.{Pic}
use Rattle.cool_simulation.specs.Simulation.{Done, Correct}
use Rattle.cool_simulation.specs.Visits.{Visits}
use Rattle.cool_simulation.proofs.ground.Sums.{raised, raised_fits, raised_over, raised_negated, difference_flag, difference_numbers}
use Rattle.cool_simulation.proofs.ground.OperatorWalks.{Result, negates}
use Rattle.cool_simulation.proofs.ground.PartsOfRuns.{run_after, number_runs}
use Rattle.cool_simulation.proofs.ground.EvaluationLater.{CallsLater, bind_later, number_later, exact_later}
use Rattle.cool_simulation.proofs.ground.PartsBehind.{gone_of}
use Rattle.cool_simulation.proofs.ground.CodeOfParts.{Asks, asks_of, asks_part, part_at, in_rest, own_placed}
use Rattle.cool_simulation.proofs.ground.FirstParts.{rule_runs}
use Rattle.cool_simulation.proofs.forms.ExactResults.{exact_runs}
use Rattle.std.proofs.lemmas.List.Elements.{Contains-append_right}
use Rattle.cool_simulation.proofs.ground.Passages.{quiet}
use Rattle.cool_codegen.specs.Spans.{span, spans}

negative_word : (y : ℤ) → fits y ≡ true → fits (neg_ℤ y) ≡ true → wrap (0 + 4294967296 - word_of y) ≡ word_of (neg_ℤ y)
negative_word y k e = let b = raised_fits y k in let c = raised_fits (neg_ℤ y) e in let s = raised_negated y k in omega arith

negative_says : (y : ℤ) → fits y ≡ true
    → (fits (neg_ℤ y) ≡ true → (difference_flag 0 (word_of y) ≡ 0) × (wrap (0 + 4294967296 - word_of y) ≡ word_of (neg_ℤ y))) × (fits (neg_ℤ y) ≡ false → 0 < difference_flag 0 (word_of y))
negative_says y k =
    let b = raised_fits y k in
    let n = difference_numbers 0 (word_of y) 4294967296 (raised y) (raised (neg_ℤ y)) (omega arith) b.2 (omega arith) b.3 (let s = raised_negated y k in omega arith) in
    ((λ e. (n.0 (let c = raised_fits (neg_ℤ y) e in (c.0, c.1)), negative_word y k e)), (λ e. n.1 (raised_over (neg_ℤ y) e)))

module _ (l : Loading) (loaded : IsLoaded l) (calls : Calls) (begun_in : Call → Visits) (b : ℕ) (sound : AllCallsSound l.table calls b) (later : CallsLater calls) where
  pub neg_correct : (at : Place) (t : Tree) → Correct l calls begun_in b t → Correct l calls begun_in b (trees.Neg at t)
  unfolding negate_lines ends_where_lines
  neg_correct at t correct = record {
    runs = λ c f k self scope vs env made d first q m map console st s n type less begins (has, is) code_at room watched.
        let small = code_at.small in
        let w = l.world in
        let o = whole l in
        let ctx = context l c f in
        let id = root first (trees.Neg at t) in
        let lt = code ctx (constants l) vs d first t in
        let ints = int_code ctx (constants l) at id in
        let r1 : List Line = negate_lines ++ ints in
        let pc1 = q.pc + sizes lt in
        let final = q.pc + sizes (lt ++ r1) in
        let same : pc1 + 20 + 28 + 68 ≡ final = (let a = sizes_append w lt r1 in omega arith) in
        let free = (own_placed l c f vs d first q.pc (trees.Neg at t) code_at).quiet in
        let h1 : HasLines w pc1 r1 = quiet l r1 pc1 final (let a = sizes_append w lt r1 in omega arith) free (has_back o lt r1 q.pc pc1 refl code_at.lines) in
        let h2 : HasLines w (pc1 + 20) ints = has_back w negate_lines ints pc1 (pc1 + 20) refl h1 in
        let xs = strings_in l.files t in
        let asks : Asks l (integers_in t) (xs ++ file_of l.files at) = asks_of l c f vs d first q.pc (trees.Neg at t) code_at in
        let named : Contains (constants l).strings (get_or l.files at.file []) = asks.strings_there _ (Contains-append_right xs (file_of l.files at) _ (0, omega arith, refl)) in
        let whole = (eval l.table calls self env (trees.Neg at t) st n).words in
        let L = Done l (record q { pc = final }) m map st whole in
        let numbers = begins.at.numbers in
        let line = code_at.within.0.1 in
        let own = span vs d first q.pc (trees.Neg at t) in
        let at_t = spans sizes ctx (constants l) vs d first q.pc t in
        rule_runs l loaded calls begun_in b sound c f k self scope vs env made d first q m map console st s n less begins t int_type correct has
        (part_at l c f vs d first q.pc t (has_front o lt r1 q.pc code_at.lines) (asks_part l (integers_in t) xs (file_of l.files at) asks) code_at.within.1 (omega arith)
        (λ x h. code_at.spans x (in_rest own at_t x h))) (λ x h. watched x (inr h))
        (λ v. as_number v >>= λ x. exact at (neg_ℤ x)) L (λ v. bind_later (number_later v) (λ x. exact_later at (neg_ℤ x))) room
        (λ v t1 left u e j x sum rest. number_runs l v (λ y. exact at (neg_ℤ y)) u t1 left 60 q 16 _ L rest (λ y is_y same_words rest2.
        let r = exact at (neg_ℤ y) t1 left in
        let heap = rest2.heap in
        let used = j.gp_to in
        let q1 : Pointers = record q { pc = pc1; gp = j.gp; acc = j.acc; ra = j.ra } in
        let pic_y = subst (λ o. Pic w j.memory j.map' t1.drawn j.gp o j.acc) is_y j.value in
        let says = negative_says y pic_y.1 in
        run_after l r.outcome u left 5 (64 * r.work + 27) (64 * r.work + 60) (Result w (record q1 { pc = pc1 + 20 }) j.memory j.console (wrap (0 + 4294967296 - word_of y)) (difference_flag 0 (word_of y))) L (omega arith)
        (negates w q1 j.memory j.console u (word_of y) (has_front w negate_lines ints pc1 h1) j.at pic_y.0)
        (λ u2 result. exact_runs l loaded at (neg_ℤ y) (label_at ctx (codes "fits") id) q m j.memory map j.map' j.console st t1 left _ _ _ whole j.gp (pc1 + 20) final j.acc j.ra u2 (omega arith) named h2 result says.0 says.1
        j.shows j.pictures (gone_of l (record q { pc = pc1 }) m map st _ v t1 u j) (omega arith) (omega arith) rest2.way numbers.sp_even same)));
  }
