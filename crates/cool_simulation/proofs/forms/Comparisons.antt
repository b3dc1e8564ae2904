-- The code generated for `<` and `<=` simulates their evaluation: unless a limit stops it, the machine reaches the value, state or error that the semantics
-- gives.
use Rattle.std.proofs.Common.{◌≡◌, ℕ, ◌+◌, ◌-◌, ◌≤◌, ℤ, pos, negsuc, List, ◌++◌, refl, sym, ap, ◌∙◌, subst, arith, not, inl, inr}
use Rattle.std.specs.Prelude.{Bool as Truth, true, false, nat_lt, int_lt, int_le}
use Rattle.mips_isa.specs.Bytes.{Bytes, word}
use Rattle.mips_isa.specs.Machine.{flag, lifted}
use Rattle.mips_isa.specs.Calls.{State as Machine}
use Rattle.mips_isa.specs.Lines.{Name, Line}
use Rattle.cool_syntax.specs.declared.place.Place.{Place}
use Rattle.cool_syntax.specs.declared.operator.CompareOp.TheVariants.{Less, LessEqual}
use Rattle.cool_syntax.specs.Tree.{Tree, tree_size}
use Rattle.cool_syntax.specs.Tree as trees
use Rattle.cool_syntax.specs.NodeLists.{root}
use Rattle.cool_runtime.specs.Reaches.{Reaches, stands}
use Rattle.cool_runtime.specs.Standing.{HasLines, sizes}
use Rattle.cool_runtime.specs.Routines.{push_lines}
use Rattle.cool_runtime.specs.Machines.{At, Pointers, Console}
use Rattle.cool_runtime.proofs.Pieces.{next, done, has_front, has_back, sizes_append}
use Rattle.cool_codegen.specs.Pieces.{values_lines, less_lines, less_equal_lines, flag_lines}
use Rattle.cool_codegen.specs.Asked.{integers_in, strings_in}
use Rattle.cool_codegen.specs.Code.{code, bool_code, truth_label}
use Rattle.cool_meaning.specs.Values.{Bool, State}
use Rattle.cool_meaning.specs.Meters.{give}
use Rattle.cool_meaning.specs.Numbers.{fits, word_of}
use Rattle.cool_meaning.specs.Evaluation.{Call, Calls, eval, compare}
use Rattle.cool_meaning.proofs.SoundParts.{AllCallsSound}
use Rattle.cool_simulation.specs.Loadings.{Loading, IsLoaded, constants, context, whole}
use Rattle.cool_simulation.specs.Pictures.{Map, Pic, Pictures, Shows}
use Rattle.cool_simulation.specs.Simulation.{Done, Correct}
use Rattle.cool_simulation.specs.Visits.{Visits}
use Rattle.cool_simulation.proofs.ground.Sums.{raised_fits}
use Rattle.cool_simulation.proofs.ground.OperatorWalks.{Both, Flagged, values, less, less_equal}
use Rattle.cool_simulation.proofs.ground.FlagWalks.{flags}
use Rattle.cool_simulation.proofs.ground.PartsOfRuns.{run_gives, numbers_runs}
use Rattle.cool_simulation.proofs.ground.EvaluationLater.{CallsLater, compare_later}
use Rattle.cool_simulation.proofs.ground.PartsBehind.{Gone, done_of}
use Rattle.cool_simulation.proofs.ground.DataHere.{truth_pic}
use Rattle.cool_simulation.proofs.ground.CodeOfParts.{Asks, asks_of, asks_front, asks_back, part_at, in_rest, own_placed}
use Rattle.cool_simulation.proofs.ground.Operands.{operands_run}
use Rattle.cool_simulation.proofs.forms.Arithmetic.{popped}
use Rattle.std.proofs.lemmas.Bool.{ltb-true, ltb-false, lt-ltb, le-ltb}
use Rattle.cool_simulation.proofs.ground.Passages.{quiet}
use Rattle.cool_codegen.specs.Spans.{span, spans}
use Rattle.std.proofs.lemmas.List.Elements.{Contains-append_left, Contains-append_right}

-- Orders of words

-- the order of lifted words is that of the numbers
pub less_is : (x y : ℤ) → fits x ≡ true → fits y ≡ true → nat_lt (lifted (word_of x)) (lifted (word_of y)) ≡ int_lt x y
less_is (pos a) (pos b) h k = by (nat_lt a b) refl
  where
    by : (t : Truth) → nat_lt a b ≡ t → nat_lt (lifted a) (lifted b) ≡ nat_lt a b
    by true e = let m = raised_fits (pos a) h in let n = raised_fits (pos b) k in let o = ltb-true a b e in lt-ltb (lifted a) (lifted b) (omega arith) ∙ sym e
    by false e = let m = raised_fits (pos a) h in let n = raised_fits (pos b) k in let o = ltb-false a b e in le-ltb (lifted a) (lifted b) (omega arith) ∙ sym e
less_is (pos a) (negsuc b) h k = let m = raised_fits (pos a) h in let n = raised_fits (negsuc b) k in le-ltb (lifted a) (lifted (4294967295 - b)) (omega arith)
less_is (negsuc a) (pos b) h k = let m = raised_fits (negsuc a) h in let n = raised_fits (pos b) k in lt-ltb (lifted (4294967295 - a)) (lifted b) (omega arith)
less_is (negsuc a) (negsuc b) h k = by (nat_lt b a) refl
  where
    by : (t : Truth) → nat_lt b a ≡ t → nat_lt (lifted (4294967295 - a)) (lifted (4294967295 - b)) ≡ nat_lt b a
    by true e = let m = raised_fits (negsuc a) h in let n = raised_fits (negsuc b) k in let o = ltb-true b a e in lt-ltb (lifted (4294967295 - a)) (lifted (4294967295 - b)) (omega arith) ∙ sym e
    by false e = let m = raised_fits (negsuc a) h in let n = raised_fits (negsuc b) k in let o = ltb-false b a e in le-ltb (lifted (4294967295 - a)) (lifted (4294967295 - b)) (omega arith) ∙ sym e

-- at most is not more
not_more : (x y : ℤ) → not (int_lt y x) ≡ int_le x y
not_more (pos a) (pos b) = grind arith
not_more (pos a) (negsuc b) = refl
not_more (negsuc a) (pos b) = refl
not_more (negsuc a) (negsuc b) = grind arith

flag_not : (t : Truth) → flag (nat_lt (flag t) 1) ≡ flag (not t)
flag_not true = refl
flag_not false = refl

pub at_most_is : (x y : ℤ) → fits x ≡ true → fits y ≡ true → flag (nat_lt (flag (nat_lt (lifted (word_of y)) (lifted (word_of x)))) 1) ≡ flag (int_le x y)
at_most_is x y h k = ap (λ t. flag (nat_lt (flag t) 1)) (less_is y x k h) ∙ (flag_not (int_lt y x) ∙ ap flag (not_more x y))

module _ (l : Loading) (loaded : IsLoaded l) where
  -- the Bool of a flag behind two operands
  pub flagged_done : (end : Name) (x : Truth) (q : Pointers) (m0 m : Bytes) (map0 map : Map) (console : Console) (st t : State) (words whole gp pc final acc ra : ℕ) (s : Machine) → HasLines l.world pc (flag_lines end)
      → Flagged l.world (record q { pc = pc; gp = gp; acc = acc; ra = ra }) m console (flag x) s → Shows t console → Pictures l.table l.world l.memory m map t gp q.sp → Gone m0 map0 st q.gp q.sp words m map t gp → words ≤ whole → pc + 24 ≡ final
      → Reaches l.world s 0 6 (stands (Done l (record q { pc = final }) m0 map0 st whole (Bool x) t))
  flagged_done end x q m0 m map0 map console st t words whole gp pc final acc ra s lines flagged shows pictures gone le e =
      let numbers = flagged.at.numbers in
      let to = gone.gp_to in
      next l.world s 6 0 6 _ _ (flags l.world end x (record q { pc = pc; gp = gp; acc = acc; ra = ra }) m console s lines flagged) (omega arith)
      (λ u there. done l.world 0 u _ (done_of l (record q { pc = final }) m0 map0 st whole (Bool x) t u gp (l.world.place (truth_label x)) ra m map console
      (subst (λ y. At l.world (record q { pc = y; gp = gp; acc = l.world.place (truth_label x); ra = ra }) m console u) e there) shows pictures (truth_pic l loaded m map t gp q.sp numbers.gp_from pictures x)
      (record { kept = gone.kept; grown = gone.grown; drawn = gone.drawn; located = gone.located; gp_from = gone.gp_from; gp_to = omega arith })))

module _ (l : Loading) (loaded : IsLoaded l) (calls : Calls) (begun_in : Call → Visits) (b : ℕ) (sound : AllCallsSound l.table calls b) (later : CallsLater calls) where
  pub less_correct : (at : Place) (ta tb : Tree) → Correct l calls begun_in b ta → Correct l calls begun_in b tb → Correct l calls begun_in b (trees.Compare at Less ta tb)
  unfolding values_lines less_lines flag_lines
  less_correct at ta tb correct correct' = record {
    runs = λ c f k self scope vs env made d first q m map console st s n type less' begins (type1, type2, has, has', comparable, is) code_at room watched.
        let small = code_at.small in
        let w = l.world in
        let o = whole l in
        let ctx = context l c f in
        let la = code ctx (constants l) vs d first ta in
        let lb = code ctx (constants l) vs (d + 1) (first + tree_size ta) tb in
        let end_lines = bool_code ctx (root first (trees.Compare at Less ta tb)) in
        let r4 : List Line = less_lines ++ end_lines in
        let r3 : List Line = values_lines ++ r4 in
        let r2 : List Line = lb ++ r3 in
        let r1 : List Line = push_lines ++ r2 in
        let pc1 = q.pc + sizes la in
        let pc2 = pc1 + 20 in
        let pc3 = pc2 + sizes lb in
        let final = q.pc + sizes (la ++ r1) in
        let h1 : HasLines o pc1 r1 = has_back o la r1 q.pc pc1 refl code_at.lines in
        let h2 : HasLines o pc2 r2 = has_back o push_lines r2 pc1 pc2 refl h1 in
        let free = (own_placed l c f vs d first q.pc (trees.Compare at Less ta tb) code_at).quiet in
        let push_there : HasLines w pc1 push_lines = quiet l push_lines pc1 pc2 (omega arith) free.0 (has_front o push_lines r2 pc1 h1) in
        let h3 : HasLines w pc3 r3 = quiet l r3 pc3 final (let a = sizes_append w la r1 in let e = sizes_append w lb r3 in omega arith) free.1 (has_back o lb r3 pc2 pc3 refl h2) in
        let own = span vs d first q.pc (trees.Compare at Less ta tb) in
        let at_a = spans sizes ctx (constants l) vs d first q.pc ta in
        let at_b = spans sizes ctx (constants l) vs (d + 1) (first + tree_size ta) pc2 tb in
        let h4 : HasLines w (pc3 + 16) r4 = has_back w values_lines r4 pc3 (pc3 + 16) refl h3 in
        let h5 : HasLines w (pc3 + 16 + 4) end_lines = has_back w less_lines end_lines (pc3 + 16) (pc3 + 16 + 4) refl h4 in
        let ia = integers_in ta in let ib = integers_in tb in
        let xa = strings_in l.files ta in let xb = strings_in l.files tb in
        let asks : Asks l (ia ++ ib) (xa ++ xb) = asks_of l c f vs d first q.pc (trees.Compare at Less ta tb) code_at in
        let whole = (eval l.table calls self env (trees.Compare at Less ta tb) st n).words in
        let L = Done l (record q { pc = final }) m map st whole in
        let numbers = begins.at.numbers in
        let high : 4 ≤ q.sp = (let laid = w.laid in omega arith) in
        let same : pc3 + 16 + 4 + 24 ≡ final = (let a = sizes_append w la r1 in let e = sizes_append w lb r3 in omega arith) in
        operands_run l loaded calls begun_in b sound later c f k self scope vs env made d first q m map console st s n less' begins ta tb type1 type2 correct correct' has has'
        (part_at l c f vs d first q.pc ta (has_front o la r1 q.pc code_at.lines) (asks_front l ia ib xa xb asks) code_at.within.1 (omega arith)
        (λ x h. code_at.spans x (in_rest own (at_a ++ at_b) x (Contains-append_left at_a at_b x h)))) push_there
        (part_at l c f vs (d + 1) (first + tree_size ta) pc2 tb (has_front o lb r3 pc2 h2) (asks_back l ia ib xa xb asks) code_at.within.2 (omega arith)
        (λ x h. code_at.spans x (in_rest own (at_a ++ at_b) x (Contains-append_right at_a at_b x h)))) (λ x h. watched x (inr (inl h))) (λ v t1 left e x h. watched x (inr (inr (v, t1, left, e, h))))
        (compare Less) L (compare_later Less) room
        (λ v u t2 left2 words s2 i total heap way.
        numbers_runs l v u (λ x y. give (Bool (int_lt x y))) s2 t2 left2 52 L (λ x y is_x is_y same_words same_outcome.
        let q3 : Pointers = record q { pc = pc3; gp = i.gp; sp = q.sp - 4; acc = i.acc; ra = i.ra } in
        let q4 : Pointers = record q { pc = pc3 + 16; gp = i.gp; acc = i.acc; ra = i.ra } in
        let pic_x = subst (λ o. Pic w i.memory i.map' t2.drawn i.gp o (word i.memory (q.sp - 4))) is_x i.first in
        let pic_y = subst (λ o. Pic w i.memory i.map' t2.drawn i.gp o i.acc) is_y i.second in
        let up : q.sp - 4 + 4 ≡ q.sp = omega arith in
        run_gives l (Bool (int_lt x y)) t2 s2 left2 11 52 L (omega arith)
        (next w s2 4 7 11 _ _ (subst (λ z. Reaches w s2 0 4 (stands (Both w (record q4 { sp = z }) i.memory i.console (word_of x) (word_of y)))) up
        (values w q3 i.memory i.console s2 (word_of x) (word_of y) (has_front w values_lines r4 pc3 h3) i.at (omega arith) pic_x.0 pic_y.0)) (omega arith)
        (λ s3 both. next w s3 1 6 7 _ _ (less w q4 i.memory i.console s3 (word_of x) (word_of y) (has_front w less_lines end_lines (pc3 + 16) h4) both) (omega arith)
        (λ s4 flagged. flagged_done l loaded _ (int_lt x y) q m i.memory map i.map' i.console st t2 words whole i.gp (pc3 + 16 + 4) final i.acc i.ra s4 h5
        (subst (λ z. Flagged w (record q4 { pc = pc3 + 16 + 4 }) i.memory i.console z s4) (ap flag (less_is x y pic_x.1 pic_y.1)) flagged) i.shows (popped l q pc3 m map st words v u t2 s2 numbers.sp_even high i) i.gone (omega arith) same)))));
  }

  pub less_equal_correct : (at : Place) (ta tb : Tree) → Correct l calls begun_in b ta → Correct l calls begun_in b tb → Correct l calls begun_in b (trees.Compare at LessEqual ta tb)
  unfolding values_lines less_equal_lines flag_lines
  less_equal_correct at ta tb correct correct' = record {
    runs = λ c f k self scope vs env made d first q m map console st s n type less' begins (type1, type2, has, has', comparable, is) code_at room watched.
        let small = code_at.small in
        let w = l.world in
        let o = whole l in
        let ctx = context l c f in
        let la = code ctx (constants l) vs d first ta in
        let lb = code ctx (constants l) vs (d + 1) (first + tree_size ta) tb in
        let end_lines = bool_code ctx (root first (trees.Compare at LessEqual ta tb)) in
        let r4 : List Line = less_equal_lines ++ end_lines in
        let r3 : List Line = values_lines ++ r4 in
        let r2 : List Line = lb ++ r3 in
        let r1 : List Line = push_lines ++ r2 in
        let pc1 = q.pc + sizes la in
        let pc2 = pc1 + 20 in
        let pc3 = pc2 + sizes lb in
        let final = q.pc + sizes (la ++ r1) in
        let h1 : HasLines o pc1 r1 = has_back o la r1 q.pc pc1 refl code_at.lines in
        let h2 : HasLines o pc2 r2 = has_back o push_lines r2 pc1 pc2 refl h1 in
        let free = (own_placed l c f vs d first q.pc (trees.Compare at LessEqual ta tb) code_at).quiet in
        let push_there : HasLines w pc1 push_lines = quiet l push_lines pc1 pc2 (omega arith) free.0 (has_front o push_lines r2 pc1 h1) in
        let h3 : HasLines w pc3 r3 = quiet l r3 pc3 final (let a = sizes_append w la r1 in let e = sizes_append w lb r3 in omega arith) free.1 (has_back o lb r3 pc2 pc3 refl h2) in
        let own = span vs d first q.pc (trees.Compare at LessEqual ta tb) in
        let at_a = spans sizes ctx (constants l) vs d first q.pc ta in
        let at_b = spans sizes ctx (constants l) vs (d + 1) (first + tree_size ta) pc2 tb in
        let h4 : HasLines w (pc3 + 16) r4 = has_back w values_lines r4 pc3 (pc3 + 16) refl h3 in
        let h5 : HasLines w (pc3 + 16 + 8) end_lines = has_back w less_equal_lines end_lines (pc3 + 16) (pc3 + 16 + 8) refl h4 in
        let ia = integers_in ta in let ib = integers_in tb in
        let xa = strings_in l.files ta in let xb = strings_in l.files tb in
        let asks : Asks l (ia ++ ib) (xa ++ xb) = asks_of l c f vs d first q.pc (trees.Compare at LessEqual ta tb) code_at in
        let whole = (eval l.table calls self env (trees.Compare at LessEqual ta tb) st n).words in
        let L = Done l (record q { pc = final }) m map st whole in
        let numbers = begins.at.numbers in
        let high : 4 ≤ q.sp = (let laid = w.laid in omega arith) in
        let same : pc3 + 16 + 8 + 24 ≡ final = (let a = sizes_append w la r1 in let e = sizes_append w lb r3 in omega arith) in
        operands_run l loaded calls begun_in b sound later c f k self scope vs env made d first q m map console st s n less' begins ta tb type1 type2 correct correct' has has'
        (part_at l c f vs d first q.pc ta (has_front o la r1 q.pc code_at.lines) (asks_front l ia ib xa xb asks) code_at.within.1 (omega arith)
        (λ x h. code_at.spans x (in_rest own (at_a ++ at_b) x (Contains-append_left at_a at_b x h)))) push_there
        (part_at l c f vs (d + 1) (first + tree_size ta) pc2 tb (has_front o lb r3 pc2 h2) (asks_back l ia ib xa xb asks) code_at.within.2 (omega arith)
        (λ x h. code_at.spans x (in_rest own (at_a ++ at_b) x (Contains-append_right at_a at_b x h)))) (λ x h. watched x (inr (inl h))) (λ v t1 left e x h. watched x (inr (inr (v, t1, left, e, h))))
        (compare LessEqual) L (compare_later LessEqual) room
        (λ v u t2 left2 words s2 i total heap way.
        numbers_runs l v u (λ x y. give (Bool (int_le x y))) s2 t2 left2 52 L (λ x y is_x is_y same_words same_outcome.
        let q3 : Pointers = record q { pc = pc3; gp = i.gp; sp = q.sp - 4; acc = i.acc; ra = i.ra } in
        let q4 : Pointers = record q { pc = pc3 + 16; gp = i.gp; acc = i.acc; ra = i.ra } in
        let pic_x = subst (λ o. Pic w i.memory i.map' t2.drawn i.gp o (word i.memory (q.sp - 4))) is_x i.first in
        let pic_y = subst (λ o. Pic w i.memory i.map' t2.drawn i.gp o i.acc) is_y i.second in
        let up : q.sp - 4 + 4 ≡ q.sp = omega arith in
        run_gives l (Bool (int_le x y)) t2 s2 left2 12 52 L (omega arith)
        (next w s2 4 8 12 _ _ (subst (λ z. Reaches w s2 0 4 (stands (Both w (record q4 { sp = z }) i.memory i.console (word_of x) (word_of y)))) up
        (values w q3 i.memory i.console s2 (word_of x) (word_of y) (has_front w values_lines r4 pc3 h3) i.at (omega arith) pic_x.0 pic_y.0)) (omega arith)
        (λ s3 both. next w s3 2 6 8 _ _ (less_equal w q4 i.memory i.console s3 (word_of x) (word_of y) (has_front w less_equal_lines end_lines (pc3 + 16) h4) both) (omega arith)
        (λ s4 flagged. flagged_done l loaded _ (int_le x y) q m i.memory map i.map' i.console st t2 words whole i.gp (pc3 + 16 + 8) final i.acc i.ra s4 h5
        (subst (λ z. Flagged w (record q4 { pc = pc3 + 16 + 8 }) i.memory i.console z s4) (at_most_is x y pic_x.1 pic_y.1) flagged) i.shows (popped l q pc3 m map st words v u t2 s2 numbers.sp_even high i) i.gone (omega arith) same)))));
  }
