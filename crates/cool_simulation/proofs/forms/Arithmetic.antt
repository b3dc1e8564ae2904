-- The code generated for `+`, `-`, `*` and `/` simulates their evaluation: unless a limit stops it, the machine reaches the value, state or error that the
-- semantics gives.
use Rattle.std.proofs.Common.{◌≡◌, ℕ, ◌+◌, ◌-◌, ◌*◌, ◌/◌, ◌%◌, ◌≤◌, List, [], ◌++◌, get_or, refl, ap, ◌∙◌, subst, arith, inl, inr}
use Rattle.std.specs.Prelude.{Contains}
use Rattle.mips_isa.specs.Bytes.{Bytes, word}
use Rattle.mips_isa.specs.Calls.{State as Machine}
use Rattle.mips_isa.specs.Lines.{Line}
use Rattle.cool_syntax.specs.declared.place.Place.{Place}
use Rattle.cool_syntax.specs.declared.operator.ArithOp.{ArithOp}
use Rattle.cool_syntax.specs.declared.operator.ArithOp.TheVariants.{Add, Sub, Mul, Div}
use Rattle.cool_syntax.specs.Tree.{Tree, tree_size}
use Rattle.cool_syntax.specs.Tree as trees
use Rattle.cool_syntax.specs.NodeLists.{root}
use Rattle.cool_rules.specs.Typing.{int_type}
use Rattle.cool_runtime.specs.Reaches.{Reaches, stands}
use Rattle.cool_runtime.specs.Standing.{HasLines, sizes}
use Rattle.cool_runtime.specs.Machines.{Pointers}
use Rattle.cool_runtime.specs.Routines.{push_lines}
use Rattle.cool_runtime.proofs.Pieces.{has_front, has_back, sizes_append}
use Rattle.cool_codegen.specs.Pieces.{values_lines, ends_where_lines}
use Rattle.cool_codegen.specs.Asked.{integers_in, strings_in, files_of}
use Rattle.cool_codegen.specs.Code.{code, operation_code, int_code}
use Rattle.cool_meaning.specs.Values.{Value, State}
use Rattle.cool_meaning.specs.Meters.{◌>>=◌}
use Rattle.cool_meaning.specs.BasicMethods.{as_number}
use Rattle.cool_meaning.specs.Evaluation.{Call, Calls, eval, arithmetic}
use Rattle.cool_meaning.proofs.SoundParts.{AllCallsSound}
use Rattle.cool_meaning.specs.Numbers.{word_of}
use Rattle.cool_simulation.specs.Loadings.{Loading, IsLoaded, constants, context, whole}
use Rattle.cool_simulation.specs.Pictures.{Map, Pic, Pictures}
use Rattle.cool_simulation.specs.Simulation.{Done, Correct, Way}
use Rattle.cool_simulation.specs.Visits.{Visits}
use Rattle.cool_simulation.proofs.ground.OperatorWalks.{Both, values}
use Rattle.cool_simulation.proofs.ground.PartsOfRuns.{run_after, numbers_runs}
use Rattle.cool_simulation.proofs.ground.EvaluationLater.{CallsLater, bind_later, number_later, arithmetic_later}
use Rattle.cool_simulation.proofs.ground.PicturesStay.{pictures_higher}
use Rattle.cool_simulation.proofs.ground.CodeOfParts.{Asks, asks_of, asks_front, asks_back, asks_part, part_at, in_rest, own_placed}
use Rattle.cool_simulation.proofs.ground.Operands.{TwoDone, operands_run}
use Rattle.cool_simulation.proofs.forms.Operators.{operation_runs}
use Rattle.std.proofs.lemmas.List.Elements.{Contains-append_right, Contains-append_left}
use Rattle.cool_simulation.proofs.ground.Passages.{quiet}
use Rattle.cool_codegen.specs.Spans.{span, spans}

-- an operation names its file
file_there : (files : List (List ℕ)) (op : ArithOp) (at : Place) → Contains (files_of files op at) (get_or files at.file [])
file_there files Add at = (0, omega arith, refl)
file_there files Sub at = (0, omega arith, refl)
file_there files Mul at = (0, omega arith, refl)
file_there files Div at = (0, omega arith, refl)

module _ (l : Loading) where
  -- the word of the first operand is popped
  pub popped : (q : Pointers) (pc : ℕ) (m : Bytes) (map : Map) (st : State) (words : ℕ) (v w : Value) (t : State) (s : Machine) → q.sp % 4 ≡ 0 → 4 ≤ q.sp → (i : TwoDone l q pc m map st words v w t s)
      → Pictures l.table l.world l.memory i.memory i.map' t i.gp q.sp
  popped q pc m map st words v w t s even high i =
      pictures_higher l.world l.table l.memory i.memory i.map' t i.gp (q.sp - 4) q.sp (λ k from to. let same : k ≡ (q.sp - 4) / 4 = omega arith in ap i.map'.marked same ∙ i.unmarked) i.pictures

module _ (l : Loading) (loaded : IsLoaded l) (calls : Calls) (begun_in : Call → Visits) (b : ℕ) (sound : AllCallsSound l.table calls b) (later : CallsLater calls) where
  pub arith_correct : (at : Place) (op : ArithOp) (ta tb : Tree) → Correct l calls begun_in b ta → Correct l calls begun_in b tb → Correct l calls begun_in b (trees.Arith at op ta tb)
  unfolding values_lines ends_where_lines
  arith_correct at op ta tb correct correct' = record {
    runs = λ c f k self scope vs env made d first q m map console st s n type less begins (has, has', is) code_at room watched.
        let small = code_at.small in
        let w = l.world in
        let o = whole l in
        let ctx = context l c f in
        let id = root first (trees.Arith at op ta tb) in
        let la = code ctx (constants l) vs d first ta in
        let lb = code ctx (constants l) vs (d + 1) (first + tree_size ta) tb in
        let operation = operation_code ctx (constants l) op at id in
        let ints = int_code ctx (constants l) at id in
        let r4 : List Line = operation ++ ints in
        let r3 : List Line = values_lines ++ r4 in
        let r2 : List Line = lb ++ r3 in
        let r1 : List Line = push_lines ++ r2 in
        let pc1 = q.pc + sizes la in
        let pc2 = pc1 + 20 in
        let pc3 = pc2 + sizes lb in
        let final = q.pc + sizes (la ++ r1) in
        let h1 : HasLines o pc1 r1 = has_back o la r1 q.pc pc1 refl code_at.lines in
        let h2 : HasLines o pc2 r2 = has_back o push_lines r2 pc1 pc2 refl h1 in
        let free = (own_placed l c f vs d first q.pc (trees.Arith at op ta tb) code_at).quiet in
        let push_there : HasLines w pc1 push_lines = quiet l push_lines pc1 pc2 (omega arith) free.0 (has_front o push_lines r2 pc1 h1) in
        let h3 : HasLines w pc3 r3 = quiet l r3 pc3 final (let a = sizes_append w la r1 in let e = sizes_append w lb r3 in omega arith) free.1 (has_back o lb r3 pc2 pc3 refl h2) in
        let own = span vs d first q.pc (trees.Arith at op ta tb) in
        let at_a = spans sizes ctx (constants l) vs d first q.pc ta in
        let at_b = spans sizes ctx (constants l) vs (d + 1) (first + tree_size ta) pc2 tb in
        let h4 : HasLines w (pc3 + 16) r4 = has_back w values_lines r4 pc3 (pc3 + 16) refl h3 in
        let ia = integers_in ta in let ib = integers_in tb in
        let xa = strings_in l.files ta in let xb = strings_in l.files tb in let xo = files_of l.files op at in
        let asks : Asks l (ia ++ ib) (xa ++ (xb ++ xo)) = asks_of l c f vs d first q.pc (trees.Arith at op ta tb) code_at in
        let asks_a : Asks l ia xa = asks_front l ia ib xa (xb ++ xo) asks in
        let asks_b : Asks l ib xb = asks_part l ib xb xo (asks_back l ia ib xa (xb ++ xo) asks) in
        let named : Contains (constants l).strings (get_or l.files at.file []) = asks.strings_there _ (Contains-append_right xa (xb ++ xo) _ (Contains-append_right xb xo _ (file_there l.files op at))) in
        let G = λ (v u : Value). as_number v >>= λ x. as_number u >>= λ y. arithmetic op at x y in
        let whole = (eval l.table calls self env (trees.Arith at op ta tb) st n).words in
        let L = Done l (record q { pc = final }) m map st whole in
        let numbers = begins.at.numbers in
        let line = code_at.within.0.1 in
        let high : 4 ≤ q.sp = (let laid = w.laid in omega arith) in
        let same : pc3 + 16 + sizes operation + 28 + 68 ≡ final =
        (let a = sizes_append w la r1 in let e = sizes_append w lb r3 in let o = sizes_append w operation ints in omega arith) in
        operands_run l loaded calls begun_in b sound later c f k self scope vs env made d first q m map console st s n less begins ta tb int_type int_type correct correct' has has'
        (part_at l c f vs d first q.pc ta (has_front o la r1 q.pc code_at.lines) asks_a code_at.within.1 (omega arith)
        (λ x h. code_at.spans x (in_rest own (at_a ++ at_b) x (Contains-append_left at_a at_b x h)))) push_there
        (part_at l c f vs (d + 1) (first + tree_size ta) pc2 tb (has_front o lb r3 pc2 h2) asks_b code_at.within.2 (omega arith)
        (λ x h. code_at.spans x (in_rest own (at_a ++ at_b) x (Contains-append_right at_a at_b x h)))) (λ x h. watched x (inr (inl h))) (λ v t1 left e x h. watched x (inr (inr (v, t1, left, e, h))))
        G L
        (λ v u. bind_later (number_later v) (λ x. bind_later (number_later u) (λ y. arithmetic_later op at x y))) room
        (λ v u t2 left2 words s2 i total heap way.
        numbers_runs l v u (λ x y. arithmetic op at x y) s2 t2 left2 52 L (λ x y is_x is_y same_words same_outcome.
        let r = arithmetic op at x y t2 left2 in
        let q3 : Pointers = record q { pc = pc3; gp = i.gp; sp = q.sp - 4; acc = i.acc; ra = i.ra } in
        let q4 : Pointers = record q { pc = pc3 + 16; gp = i.gp; acc = i.acc; ra = i.ra } in
        let pic_x = subst (λ o. Pic w i.memory i.map' t2.drawn i.gp o (word i.memory (q.sp - 4))) is_x i.first in
        let pic_y = subst (λ o. Pic w i.memory i.map' t2.drawn i.gp o i.acc) is_y i.second in
        let up : q.sp - 4 + 4 ≡ q.sp = omega arith in
        run_after l r.outcome s2 left2 4 (64 * r.work + 48) (64 * r.work + 52) (Both w q4 i.memory i.console (word_of x) (word_of y)) L (omega arith)
        (subst (λ z. Reaches w s2 0 4 (stands (Both w (record q4 { sp = z }) i.memory i.console (word_of x) (word_of y)))) up
        (values w q3 i.memory i.console s2 (word_of x) (word_of y) (has_front w values_lines r4 pc3 h3) i.at (omega arith) pic_x.0 pic_y.0))
        (λ s3 both. operation_runs l loaded c f at id (omega arith) named op x y q m i.memory map i.map' i.console st t2 left2 words whole i.gp (pc3 + 16) final i.acc i.ra s3 pic_x.1 pic_y.1 h4 both i.shows
        (popped l q pc3 m map st words v u t2 s2 numbers.sp_even high i) i.gone (omega arith) (omega arith) (subst (λ o. Way l o) same_outcome way) numbers.sp_even same)));
  }
