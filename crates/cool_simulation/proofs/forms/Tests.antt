-- The code generated for `not` and of `isvoid` simulates their evaluation: unless a limit stops it, the machine reaches the value, state or error that the
-- semantics gives.
use Rattle.std.proofs.Common.{◌≡◌, ℕ, ◌+◌, ◌*◌, ◌≤◌, List, ◌++◌, refl, ap, subst, arith, not, inr}
use Rattle.std.specs.Prelude.{Bool as Truth, true, false, nat_lt}
use Rattle.mips_isa.specs.Bytes.{Bytes}
use Rattle.mips_isa.specs.Machine.{flag}
use Rattle.mips_isa.specs.Calls.{State as Machine}
use Rattle.mips_isa.specs.Lines.{Name}
use Rattle.cool_syntax.specs.declared.place.Place.{Place}
use Rattle.cool_syntax.specs.Tree.{Tree}
use Rattle.cool_syntax.specs.Tree as trees
use Rattle.cool_syntax.specs.NodeLists.{root}
use Rattle.cool_classes.specs.Chains.{Class}
use Rattle.cool_runtime.specs.Reaches.{World, Reaches, stands}
use Rattle.cool_runtime.specs.Standing.{HasLines, sizes}
use Rattle.cool_runtime.specs.Machines.{At, Pointers}
use Rattle.cool_runtime.proofs.Pieces.{next, done, has_front, has_back, sizes_append}
use Rattle.cool_codegen.specs.Pieces.{complement_lines, is_void_lines, flag_lines}
use Rattle.cool_codegen.specs.Code.{code, truth_label, bool_code}
use Rattle.cool_meaning.specs.Values.{Value, Void, Int, Bool, Str, Obj, State}
use Rattle.cool_meaning.specs.Meters.{give, ◌>>=◌}
use Rattle.cool_meaning.specs.BasicMethods.{as_truth}
use Rattle.cool_meaning.specs.Evaluation.{Call, Calls, eval, is_void}
use Rattle.cool_meaning.proofs.SoundParts.{AllCallsSound}
use Rattle.cool_rules.specs.Typing.{bool_type}
use Rattle.cool_simulation.specs.Loadings.{Loading, IsLoaded, constants, context, whole}
use Rattle.cool_simulation.specs.Pictures.{Map, Pic, Pictures, bit}
use Rattle.cool_simulation.specs.Simulation.{Done, Correct}
use Rattle.cool_simulation.specs.Visits.{Visits}
use Rattle.cool_simulation.proofs.ground.OperatorWalks.{Flagged, complements, tests_void}
use Rattle.cool_simulation.proofs.ground.FlagWalks.{flags}
use Rattle.cool_simulation.proofs.ground.PartsOfRuns.{run_gives, truth_runs}
use Rattle.cool_simulation.proofs.ground.EvaluationLater.{CallsLater, bind_later, give_later, truth_later}
use Rattle.cool_simulation.proofs.ground.PartsBehind.{done_on}
use Rattle.cool_simulation.proofs.ground.CodeOfParts.{asks_of, part_at, in_rest, own_placed}
use Rattle.cool_simulation.proofs.ground.FirstParts.{rule_runs}
use Rattle.cool_simulation.proofs.ground.DataHere.{truth_pic}
use Rattle.cool_simulation.proofs.forms.Operators.{no_flag}
use Rattle.cool_simulation.proofs.ground.Passages.{quiet}
use Rattle.cool_codegen.specs.Spans.{span, spans}

not_flag : (x : Truth) → flag (nat_lt (bit x) 1) ≡ flag (not x)
not_flag true = refl
not_flag false = refl

module _ (p : List Class) (w : World) (loaded m : Bytes) (map : Map) (st : State) (gp sp : ℕ) (pictures : Pictures p w loaded m map st gp sp) where
  -- only void is the address 0
  void_flag : (v : Value) (a : ℕ) → Pic w m map st.drawn gp v a → flag (nat_lt a 1) ≡ flag (is_void v)
  void_flag Void a pic = ap (λ x. flag (nat_lt x 1)) pic
  void_flag (Int n) a pic = let from = pic.0.lies.from in no_flag a (omega arith)
  void_flag (Bool b) a pic = let from = pic.0.lies.from in no_flag a (omega arith)
  void_flag (Str bytes) a pic = let from = pic.0.lies.from in no_flag a (omega arith)
  void_flag (Obj c i ls) a pic = let from = (pictures.objects i pic.1).from in let is = pic.0 in no_flag a (omega arith)

module _ (l : Loading) (loaded : IsLoaded l) where
  -- the Bool of a flag is the value
  pub bool_done : (end : Name) (x : Truth) (q : Pointers) (m : Bytes) (map : Map) (st : State) (a words : ℕ) (v : Value) (t : State) (u s : Machine) (pc pc1 pc2 : ℕ) → (j : Done l (record q { pc = pc }) m map st a v t u) → a ≤ words
      → HasLines l.world pc1 (flag_lines end) → Flagged l.world (record q { pc = pc1; gp = j.gp; acc = j.acc; ra = j.ra }) j.memory j.console (flag x) s → pc1 + 24 ≡ pc2
      → Reaches l.world s 0 6 (stands (Done l (record q { pc = pc2 }) m map st words (Bool x) t))
  bool_done end x q m map st a words v t u s pc pc1 pc2 j le has flagged e =
      let numbers = j.at.numbers in
      next l.world s 6 0 6 _ _ (flags l.world end x (record q { pc = pc1; gp = j.gp; acc = j.acc; ra = j.ra }) j.memory j.console s has flagged) (omega arith)
      (λ u2 there. done l.world 0 u2 _ (done_on l q m map st a words v (Bool x) t u u2 pc pc2 (l.world.place (truth_label x)) j.ra j le
      (subst (λ y. At l.world (record q { pc = y; gp = j.gp; acc = l.world.place (truth_label x); ra = j.ra }) j.memory j.console u2) e there)
      (truth_pic l loaded j.memory j.map' t j.gp q.sp numbers.gp_from j.pictures x)))

module _ (l : Loading) (loaded : IsLoaded l) (calls : Calls) (begun_in : Call → Visits) (b : ℕ) (sound : AllCallsSound l.table calls b) (later : CallsLater calls) where
  pub not_correct : (at : Place) (t : Tree) → Correct l calls begun_in b t → Correct l calls begun_in b (trees.Not at t)
  unfolding complement_lines flag_lines
  not_correct at t correct = record {
    runs = λ c f k self scope vs env made d first q m map console st s n type less begins has code_at room watched.
        let small = code_at.small in
        let w = l.world in
        let o = whole l in
        let mine = code (context l c f) (constants l) vs d first t in
        let end_lines = bool_code (context l c f) (root first (trees.Not at t)) in
        let pc1 = q.pc + sizes mine in
        let pc2 = q.pc + sizes (mine ++ (complement_lines ++ end_lines)) in
        let F = λ (v : Value). as_truth v >>= λ x. give (Bool (not x)) in
        let whole = (eval l.table calls self env (trees.Not at t) st n).words in
        let L = Done l (record q { pc = pc2 }) m map st whole in
        let free = (own_placed l c f vs d first q.pc (trees.Not at t) code_at).quiet in
        let own = span vs d first q.pc (trees.Not at t) in
        let at_t = spans sizes (context l c f) (constants l) vs d first q.pc t in
        let h1 : HasLines w pc1 (complement_lines ++ end_lines) =
        quiet l (complement_lines ++ end_lines) pc1 pc2 (let h = sizes_append w mine (complement_lines ++ end_lines) in omega arith) free (has_back o mine (complement_lines ++ end_lines) q.pc pc1 refl code_at.lines) in
        let h2 : HasLines w (pc1 + 8) end_lines = has_back w complement_lines end_lines pc1 (pc1 + 8) refl h1 in
        rule_runs l loaded calls begun_in b sound c f k self scope vs env made d first q m map console st s n less begins t bool_type correct has.0
        (part_at l c f vs d first q.pc t (has_front o mine (complement_lines ++ end_lines) q.pc code_at.lines) (asks_of l c f vs d first q.pc (trees.Not at t) code_at) code_at.within.1 (omega arith)
        (λ x h. code_at.spans x (in_rest own at_t x h))) (λ x h. watched x (inr h))
        F L (λ v. bind_later (truth_later v) (λ x. give_later (Bool (not x)))) room
        (λ v t1 left u e j x sum rest. truth_runs l v (λ x. give (Bool (not x))) u t1 left 60 q 16 _ L rest (λ y is same rest2.
        let q1 : Pointers = record q { pc = pc1; gp = j.gp; acc = j.acc; ra = j.ra } in
        let pic : Pic w j.memory j.map' t1.drawn j.gp (Bool y) j.acc = subst (λ z. Pic w j.memory j.map' t1.drawn j.gp z j.acc) is j.value in
        run_gives l (Bool (not y)) t1 u left 8 (64 * 0 + 60) L (omega arith)
        (next w u 2 6 8 _ _ (complements w q1 j.memory j.console u (bit y) (has_front w complement_lines end_lines pc1 h1) j.at pic.0) (omega arith)
        (λ u2 flagged. bool_done l loaded _ (not y) q m map st _ whole v t1 u u2 pc1 (pc1 + 8) pc2 j (omega arith) h2
        (subst (λ z. Flagged w (record q1 { pc = pc1 + 8 }) j.memory j.console z u2) (not_flag y) flagged) (let h = sizes_append w mine (complement_lines ++ end_lines) in omega arith)))));
  }

  pub is_void_correct : (at : Place) (t : Tree) → Correct l calls begun_in b t → Correct l calls begun_in b (trees.IsVoid at t)
  unfolding is_void_lines flag_lines
  is_void_correct at t correct = record {
    runs = λ c f k self scope vs env made d first q m map console st s n type less begins has code_at room watched.
        let small = code_at.small in
        let w = l.world in
        let o = whole l in
        let mine = code (context l c f) (constants l) vs d first t in
        let end_lines = bool_code (context l c f) (root first (trees.IsVoid at t)) in
        let pc1 = q.pc + sizes mine in
        let pc2 = q.pc + sizes (mine ++ (is_void_lines ++ end_lines)) in
        let F = λ (v : Value). give (Bool (is_void v)) in
        let whole = (eval l.table calls self env (trees.IsVoid at t) st n).words in
        let L = Done l (record q { pc = pc2 }) m map st whole in
        let free = (own_placed l c f vs d first q.pc (trees.IsVoid at t) code_at).quiet in
        let own = span vs d first q.pc (trees.IsVoid at t) in
        let at_t = spans sizes (context l c f) (constants l) vs d first q.pc t in
        let h1 : HasLines w pc1 (is_void_lines ++ end_lines) =
        quiet l (is_void_lines ++ end_lines) pc1 pc2 (let h = sizes_append w mine (is_void_lines ++ end_lines) in omega arith) free (has_back o mine (is_void_lines ++ end_lines) q.pc pc1 refl code_at.lines) in
        let h2 : HasLines w (pc1 + 4) end_lines = has_back w is_void_lines end_lines pc1 (pc1 + 4) refl h1 in
        rule_runs l loaded calls begun_in b sound c f k self scope vs env made d first q m map console st s n less begins t has.0 correct has.1
        (part_at l c f vs d first q.pc t (has_front o mine (is_void_lines ++ end_lines) q.pc code_at.lines) (asks_of l c f vs d first q.pc (trees.IsVoid at t) code_at) code_at.within.1 (omega arith)
        (λ x h. code_at.spans x (in_rest own at_t x h))) (λ x h. watched x (inr h))
        F L (λ v. give_later (Bool (is_void v))) room
        (λ v t1 left u e j x sum rest.
        let q1 : Pointers = record q { pc = pc1; gp = j.gp; acc = j.acc; ra = j.ra } in
        run_gives l (Bool (is_void v)) t1 u left 7 (64 * 0 + 60) L (omega arith)
        (next w u 1 6 7 _ _ (tests_void w q1 j.memory j.console u (has_front w is_void_lines end_lines pc1 h1) j.at) (omega arith)
        (λ u2 flagged. bool_done l loaded _ (is_void v) q m map st _ whole v t1 u u2 pc1 (pc1 + 4) pc2 j (omega arith) h2
        (subst (λ z. Flagged w (record q1 { pc = pc1 + 4 }) j.memory j.console z u2) (void_flag l.table w l.memory j.memory j.map' t1 j.gp q.sp j.pictures v j.acc j.value) flagged)
        (let h = sizes_append w mine (is_void_lines ++ end_lines) in omega arith))));
  }
