-- The code of the arguments of a call evaluates them in order and pushes each value.
use Rattle.std.proofs.Common.{◌≡◌, ℕ, zero, suc, ◌+◌, ◌-◌, ◌*◌, ◌/◌, ◌%◌, ◌<◌, ◌≤◌, ◌⊎◌, inl, inr, List, [], ◌∷◌, ◌++◌, length, Some, false, refl, sym, ap, ◌∙◌, subst, arith}
use Rattle.std.specs.Prelude.{slice_get}
use Rattle.std.proofs.lemmas.List.Elements.{Contains-append_left, Contains-append_right}
use Rattle.mips_isa.specs.Bytes.{Bytes, word, set_word}
use Rattle.mips_isa.specs.Calls.{State as Machine}
use Rattle.cool_syntax.specs.Tree.{Tree, Trees, Last, More, tree_size}
use Rattle.cool_syntax.proofs.TreesHaveNodes.{one_le_size}
use Rattle.cool_classes.specs.declared.class_id.ClassId.{ClassId}
use Rattle.cool_classes.specs.declared.class_id.Ty.{Ty}
use Rattle.cool_rules.specs.Scopes.{Binding}
use Rattle.cool_rules.specs.Typing.{HaveTypes}
use Rattle.cool_runtime.specs.Reaches.{OnTheWay}
use Rattle.cool_runtime.specs.Standing.{HasLines, sizes}
use Rattle.cool_runtime.specs.Contents.{Same}
use Rattle.cool_runtime.specs.Machines.{At, Pointers, Console}
use Rattle.cool_runtime.specs.Premises.{Limits}
use Rattle.cool_runtime.specs.Routines.{push_lines}
use Rattle.cool_runtime.specs.declared.catalogue.Routine.TheVariants as routines
use Rattle.cool_runtime.proofs.Pieces.{done, has_front, has_back, sizes_append}
use Rattle.cool_runtime.proofs.Words.{word_same, word_equal}
use Rattle.cool_codegen.specs.Variables.{Named}
use Rattle.cool_codegen.specs.Code.{code, arguments_code}
use Rattle.cool_codegen.specs.Asked.{integers_in, integers_in_all, strings_in, strings_in_all}
use Rattle.cool_meaning.specs.Values.{Value, State, Environment}
use Rattle.cool_meaning.specs.Meters.{Outcome, Val, Stop, On, Stuck, Computation, ◌>>=◌, seq_of, give, holding}
use Rattle.cool_meaning.specs.Evaluation.{Call, Calls, eval, eval_all}
use Rattle.cool_meaning.specs.FittingValues as fitting
use Rattle.cool_meaning.proofs.SoundParts.{AllCallsSound}
use Rattle.cool_meaning.proofs.SoundEvaluation.{eval_sound}
use Rattle.cool_simulation.specs.Loadings.{Loading, IsLoaded, constants, context, Watched, whole}
use Rattle.cool_simulation.specs.Pictures.{Map, Pic, Pictures, Kept, Shows}
use Rattle.cool_simulation.specs.Simulation.{Begins, Done, AllDone, Runs, Room, CodeAt, AllCodeAt, Correct, AllCorrect}
use Rattle.cool_simulation.specs.Visits.{Visits, Visit, all_begun}
use Rattle.cool_simulation.proofs.ground.Pushing.{pushes_past}
use Rattle.cool_simulation.proofs.ground.PicturesStay.{pic_stays, staying_of, staying_same, kept_same, kept_then, grown_then, not_grown, pictures_same, pictures_lower}
use Rattle.cool_simulation.proofs.ground.PartsOfRuns.{run_wider}
use Rattle.cool_simulation.proofs.ground.ReservedParts.{bind_reserved, none_spent, with_way}
use Rattle.cool_simulation.proofs.ground.EvaluationLater.{ComesLater, CallsLater, bind_later, give_later}
use Rattle.cool_simulation.proofs.ground.CallsLater.{held_later, all_later}
use Rattle.cool_simulation.proofs.ground.ScenesLater.{begins_later, under_stack, fine_value, eval_works}
use Rattle.cool_simulation.proofs.ground.Passages.{passes, quiet}
use Rattle.cool_codegen.specs.Spans.{spans}

module _ (l : Loading) (loaded : IsLoaded l) where
  pub limits : Limits l.world
  limits = record { heap = loaded.routines routines.HeapLimit; stack = loaded.routines routines.StackLimit }

  -- a push, and what then runs
  pub push_runs : {A : Type 0} (p : Pointers) (m : Bytes) (c : Console) (s : Machine) (n b : ℕ) (K : A → State → Machine → Type 0) (o : Outcome A) → HasLines l.world p.pc push_lines → At l.world p m c s
      → l.world.low + 4 ≤ p.sp → OnTheWay l.world c.output c.input → 3 ≤ b
      → ((t : Machine) → At l.world (record p { pc = p.pc + 20; sp = p.sp - 4 }) (set_word m (p.sp - 4) p.acc) c t → Runs l t n b K o) → Runs l s n (4 + b) K o
  push_runs p m c s n b K (Val v t left) has at room way enough more = pushes_past l p m c s (n - left) b _ limits has at room way enough more
  push_runs p m c s n b K (Stop e t) has at room way enough more = pushes_past l p m c s 0 b _ limits has at room way enough more
  push_runs p m c s n b K (On t) has at room way enough more = pushes_past l p m c s n b _ limits has at room way enough more
  push_runs p m c s n b K Stuck has at room way enough more = tt

  -- the code of the first argument, and that of the others
  first_code : (c : ClassId) (f : ℕ) (vs : List Named) (d first pc : ℕ) (t : Tree) (ts : Trees) → AllCodeAt l c f vs d first pc (More t ts) → CodeAt l c f vs d first pc t
  first_code c f vs d first pc t ts code_at = record {
    lines = has_front (whole l) (code (context l c f) (constants l) vs d first t) _ pc code_at.lines;
    integers = λ n there. code_at.integers n (Contains-append_left (integers_in t) (integers_in_all ts) n there);
    strings = λ bytes there. code_at.strings bytes (Contains-append_left (strings_in l.files t) (strings_in_all l.files ts) bytes there);
    within = code_at.within.0;
    small = (let z = code_at.small in omega arith);
    spans = λ x h. code_at.spans x (Contains-append_left (spans sizes (context l c f) (constants l) vs d first pc t) _ x h);
  }

  later_code : (c : ClassId) (f : ℕ) (vs : List Named) (d first pc : ℕ) (t : Tree) (ts : Trees) → AllCodeAt l c f vs d first pc (More t ts)
      → AllCodeAt l c f vs (d + 1) (first + tree_size t) (pc + sizes (code (context l c f) (constants l) vs d first t) + 20) ts
  later_code c f vs d first pc t ts code_at = record {
    lines =
        let la = code (context l c f) (constants l) vs d first t in
        let lb = arguments_code (context l c f) (constants l) vs (d + 1) (first + tree_size t) ts in
        has_back (whole l) push_lines lb (pc + sizes la) (pc + sizes la + 20) refl (has_back (whole l) la (push_lines ++ lb) pc (pc + sizes la) refl code_at.lines);
    integers = λ n there. code_at.integers n (Contains-append_right (integers_in t) (integers_in_all ts) n there);
    strings = λ bytes there. code_at.strings bytes (Contains-append_right (strings_in l.files t) (strings_in_all l.files ts) bytes there);
    within = code_at.within.1;
    small = (let z = code_at.small in let some = one_le_size t in omega arith);
    spans = λ x h. code_at.spans x (Contains-append_right (spans sizes (context l c f) (constants l) vs d first pc t) _ x h);
    pushes = code_at.pushes.1;
  }

  module _ (calls : Calls) (begun_in : Call → Visits) (b : ℕ) (later : CallsLater calls) (sound : AllCallsSound l.table calls b) where
    pub none_correct : AllCorrect l calls begun_in b Last
    none_correct = record {
      runs = λ c f k self scope vs env made d first q m map console st s n types le begins typed code_at room watched.
          passes l s (n - n) 3 _ (none_spent l s n 3 _ (done l.world 3 s _ (record {
            gp = q.gp;
            acc = q.acc;
            ra = q.ra;
            memory = m;
            map' = map;
            console = console;
            at = let at = begins.at in record { numbers = omega arith; memory_is = at.memory_is; input_is = at.input_is; ended_is = at.ended_is; output_is = at.output_is };
            room = omega arith;
            shows = begins.shows;
            pictures = pictures_lower l.world l.table l.memory m map st q.gp q.sp (q.sp - 0) (omega arith) begins.pictures;
            values = λ j v there. absurd (cc);
            unmarked = λ k from to. absurd (omega arith);
            kept = record { below = λ q h un. refl; over = λ q h un. refl };
            grown = not_grown l.world map st.drawn (length st.store) q.gp q.sp;
            drawn = omega arith;
            located = omega arith;
            gp_from = omega arith;
            gp_to = omega arith;
          })));
    }

  seq_words : {A B : Type 0} (o : Outcome A) (wk ws pk : ℕ) (F : A → Computation B) → ws ≤ (seq_of o wk ws pk F).words
  seq_words (Val v t n) wk ws pk F = omega arith
  seq_words (Stop e t) wk ws pk F = omega arith
  seq_words (On t) wk ws pk F = omega arith
  seq_words Stuck wk ws pk F = omega arith

  pub console_way : (st : State) (c : Console) → Shows st c → OnTheWay l.world st.output st.input → OnTheWay l.world c.output c.input
  console_way st c shows way =
      subst (λ (o : List ℕ). OnTheWay l.world o c.input) (sym shows.output) (subst (λ (i : List ℕ). OnTheWay l.world st.output i) (sym shows.input) way)

  -- the memory after the push of a part's value
  abbrev pub with_pushed : Bytes → Pointers → ℕ → Bytes
  with_pushed m q acc = set_word m (q.sp - 4) acc

  -- the state after a push
  pub record IsPushed (q : Pointers) (m : Bytes) (map : Map) (st : State) (gp acc : ℕ) (v : Value) : Type 0 where
    pub same : Same m (with_pushed m q acc) gp q.sp
    pub pictures : Pictures l.table l.world l.memory (with_pushed m q acc) map st gp (q.sp - 4)
    pub value : Pic l.world (with_pushed m q acc) map st.drawn gp v acc
    pub top : word (with_pushed m q acc) (q.sp - 4) ≡ acc
    pub unmarked : map.marked ((q.sp - 4) / 4) ≡ false
    pub even : q.sp % 4 ≡ 0
    pub low : gp + 1000000 ≤ q.sp

  pub is_pushed : (q : Pointers) (m : Bytes) (map : Map) (st : State) (v : Value) (gp acc pc ra : ℕ) (c : Console) (s : Machine) → At l.world (record q { pc = pc; gp = gp; acc = acc; ra = ra }) m c s
      → Pictures l.table l.world l.memory m map st gp q.sp → Pic l.world m map st.drawn gp v acc → IsPushed q m map st gp acc v
  is_pushed q m map st v gp acc pc ra c s at pictures value =
      let laid = l.world.laid in
      let numbers = at.numbers in
      let low : gp + 1000000 ≤ q.sp = omega arith in
      let same : Same m (with_pushed m q acc) gp q.sp = under_stack l m gp q.sp acc (omega arith) in
      record {
        same = same;
        pictures = pictures_lower l.world l.table l.memory (with_pushed m q acc) map st gp q.sp (q.sp - 4) (omega arith) (pictures_same l.world l.table l.memory m (with_pushed m q acc) map st gp gp q.sp (omega arith) (omega arith) same pictures);
        value = pic_stays l.world m (with_pushed m q acc) map map st.drawn st.drawn gp gp v acc (omega arith) (omega arith) (staying_same l.world m (with_pushed m q acc) map st.drawn gp q.sp same) value;
        top = word_same m (q.sp - 4) acc (omega arith);
        unmarked = pictures.unmarked_room ((q.sp - 4) / 4) (omega arith) (omega arith);
        even = omega arith;
        low = low;
      }

  -- the first argument and the others
  arguments_joined : (q : Pointers) (m : Bytes) (map : Map) (st st1 st2 : State) (v : Value) (vs : List Value) (pc1 pc2 pc3 words1 words2 words : ℕ) (s1 s2 : Machine) → (d1 : Done l (record q { pc = pc1 }) m map st words1 v st1 s1)
      → AllDone l (record q { pc = pc2; gp = d1.gp; sp = q.sp - 4; acc = d1.acc; ra = d1.ra }) (with_pushed d1.memory q d1.acc) d1.map' st1 words2 vs st2 s2 → 4 ≤ q.sp → pc2 ≡ pc3 → words1 + words2 ≤ words
      → AllDone l (record q { pc = pc3 }) m map st words (v ∷ vs) st2 s2
  arguments_joined q m map st st1 st2 v vs pc1 pc2 pc3 words1 words2 words s1 s2 d1 d2 some same_pc few =
      let m1 = with_pushed d1.memory q d1.acc in
      let pushed = is_pushed q d1.memory d1.map' st1 v d1.gp d1.acc pc1 d1.ra d1.console s1 d1.at d1.pictures d1.value in
      let even = pushed.even in
      let at = d2.at in
      let room = d2.room in
      let from1 = d1.gp_from in let to1 = d1.gp_to in let from2 = d2.gp_from in let to2 = d2.gp_to in
      let drawn1 = d1.drawn in let drawn2 = d2.drawn in let located1 = d1.located in let located2 = d2.located in
      let kept1 : Kept m m1 map.marked q.gp q.sp =
      kept_then l.world m d1.memory m1 map d1.map' st.drawn (length st.store) q.gp d1.gp q.sp q.sp from1 (omega arith) even d1.grown d1.kept (kept_same l.world d1.memory m1 d1.map'.marked d1.gp q.sp q.sp (omega arith) pushed.same) in
      record {
        gp = d2.gp;
        acc = d2.acc;
        ra = d2.ra;
        memory = d2.memory;
        map' = d2.map';
        console = d2.console;
        at = record { numbers = let numbers = at.numbers in omega arith; memory_is = at.memory_is; input_is = at.input_is; ended_is = at.ended_is; output_is = at.output_is };
        room = omega arith;
        shows = d2.shows;
        pictures = let same_sp : q.sp - 4 - 4 * length vs ≡ q.sp - 4 * length (v ∷ vs) = omega arith in
            subst (λ (x : ℕ). Pictures l.table l.world l.memory d2.memory d2.map' st2 d2.gp x) same_sp d2.pictures;
        values = λ j u there. value_at j u there d1 d2 pushed;
        unmarked = λ k from to. mark_at k from to d1 d2 pushed (order k);
        kept = kept_then l.world m m1 d2.memory map d1.map' st.drawn (length st.store) q.gp d1.gp q.sp (q.sp - 4) from1 (omega arith) even d1.grown kept1 d2.kept;
        grown = grown_then l.world map d1.map' d2.map' st.drawn st1.drawn (length st.store) (length st1.store) q.gp d1.gp q.sp (q.sp - 4) drawn1 located1 from1 (omega arith) d1.grown d2.grown;
        drawn = omega arith;
        located = omega arith;
        gp_from = omega arith;
        gp_to = omega arith;
      }
    where
      order : (k : ℕ) → (4 * k < q.sp - 4) ⊎ (q.sp - 4 ≤ 4 * k)
      order k = grind arith

      mark_at : (k : ℕ) → q.sp ≤ 4 * k + 4 * length (v ∷ vs) → 4 * k < q.sp → (d1 : Done l (record q { pc = pc1 }) m map st words1 v st1 s1)
          → (d2 : AllDone l (record q { pc = pc2; gp = d1.gp; sp = q.sp - 4; acc = d1.acc; ra = d1.ra }) (with_pushed d1.memory q d1.acc) d1.map' st1 words2 vs st2 s2) → IsPushed q d1.memory d1.map' st1 d1.gp d1.acc v
          → (4 * k < q.sp - 4) ⊎ (q.sp - 4 ≤ 4 * k) → d2.map'.marked k ≡ false
      mark_at k from to d1 d2 pushed (inl less) = d2.unmarked k (omega arith) less
      mark_at k from to d1 d2 pushed (inr more) =
          let even = pushed.even in
          let here : k ≡ (q.sp - 4) / 4 = omega arith in
          d2.grown.over k more ∙ ap (λ (i : ℕ). d1.map'.marked i) here ∙ pushed.unmarked

      value_at : (j : ℕ) (u : Value) → slice_get (v ∷ vs) j ≡ Some u → (d1 : Done l (record q { pc = pc1 }) m map st words1 v st1 s1)
          → (d2 : AllDone l (record q { pc = pc2; gp = d1.gp; sp = q.sp - 4; acc = d1.acc; ra = d1.ra }) (with_pushed d1.memory q d1.acc) d1.map' st1 words2 vs st2 s2) → IsPushed q d1.memory d1.map' st1 d1.gp d1.acc v
          → Pic l.world d2.memory d2.map' st2.drawn d2.gp u (word d2.memory (q.sp - 4 * (j + 1)))
      value_at zero u there d1 d2 pushed =
          let same : v ≡ u = cc in
          let even = pushed.even in
          let m1 = with_pushed d1.memory q d1.acc in
          let mark : (a : ℕ) → q.sp - 4 ≤ a → a < q.sp - 4 + 4 → d1.map'.marked (a / 4) ≡ false = λ a low high. let here : a / 4 ≡ (q.sp - 4) / 4 = omega arith in ap (λ (i : ℕ). d1.map'.marked i) here ∙ pushed.unmarked in
          let stays : word d2.memory (q.sp - 4) ≡ d1.acc = word_equal m1 d2.memory (q.sp - 4) (λ a low high. d2.kept.over a low (mark a low high)) ∙ pushed.top in
          let stay = staying_of l.world m1 d2.memory d1.map' d2.map' st1.drawn (length st1.store) d1.gp (q.sp - 4) d2.kept d2.grown in
          subst (λ (x : Value). Pic l.world d2.memory d2.map' st2.drawn d2.gp x (word d2.memory (q.sp - 4))) same
          (subst (λ (a : ℕ). Pic l.world d2.memory d2.map' st2.drawn d2.gp v a) (sym stays) (pic_stays l.world m1 d2.memory d1.map' d2.map' st1.drawn st2.drawn d1.gp d2.gp v d1.acc d2.gp_from d2.drawn stay pushed.value))
      value_at (suc j) u there d1 d2 pushed =
          let same : q.sp - 4 - 4 * (j + 1) ≡ q.sp - 4 * (suc j + 1) = omega arith in
          subst (λ (a : ℕ). Pic l.world d2.memory d2.map' st2.drawn d2.gp u (word d2.memory a)) same (d2.values j u there)

  module _ (calls : Calls) (begun_in : Call → Visits) (b : ℕ) (later : CallsLater calls) (sound : AllCallsSound l.table calls b) where
    rest_later : (self : Value) (env : Environment) (ts : Trees) (v : Value) → ComesLater (holding 1 (eval_all l.table calls self env ts >>= λ vs. give (v ∷ vs)))
    rest_later self env ts v = held_later 1 (bind_later (all_later l.table calls later self env ts) (λ vs. give_later (v ∷ vs)))

    -- an argument in front of others
    pub more_correct : (t : Tree) (ts : Trees) → Correct l calls begun_in b t → AllCorrect l calls begun_in b ts → AllCorrect l calls begun_in b (More t ts)
    more_correct t ts head tail = record { runs = by }
      where
        by : (c : ClassId) (f : ℕ) (k : ClassId) (self : Value) (scope : List Binding) (vs : List Named) (env : Environment) (made : fitting.World) (d first : ℕ) (q : Pointers) (m : Bytes) (map : Map) (console : Console)
            (st : State) (s : Machine) (n : ℕ) (types : List Ty) → n ≤ b → Begins l c k self scope vs env made d q m map console st s → HaveTypes l.table c scope (More t ts) types
            → AllCodeAt l c f vs d first q.pc (More t ts) → Room l q 0 (eval_all l.table calls self env (More t ts) st n)
            → ((x : Visit) → all_begun l.table calls begun_in c f self env first (More t ts) st n x → Watched l.watch x)
            → Runs l s n (64 * (eval_all l.table calls self env (More t ts) st n).work + 3)
            (AllDone l (record q { pc = q.pc + sizes (arguments_code (context l c f) (constants l) vs d first (More t ts)) }) m map st (eval_all l.table calls self env (More t ts) st n).words)
            (eval_all l.table calls self env (More t ts) st n).outcome
        by c f k self scope vs env made d first q m map console st s n [] le begins have code_at room watched = absurd have
        by c f k self scope vs env made d first q m map console st s n (type ∷ types) le begins have code_at room watched =
            let p = l.table in
            let la = code (context l c f) (constants l) vs d first t in
            let lb = arguments_code (context l c f) (constants l) vs (d + 1) (first + tree_size t) ts in
            let pc1 = q.pc + sizes la in
            let pc2 = pc1 + 20 + sizes lb in
            let o = eval p calls self env t st n in
            let F : Value → Computation (List Value) = λ v. holding 1 (eval_all p calls self env ts >>= λ vs. give (v ∷ vs)) in
            let total = (eval_all p calls self env (More t ts) st n).words in
            let pc3 = q.pc + sizes (arguments_code (context l c f) (constants l) vs d first (More t ts)) in
            let sum : pc2 ≡ pc3 = omega (arith, sizes_append l.world la (push_lines ++ lb), sizes_append l.world push_lines lb) in
            let fine = (eval_sound p loaded.buildable.typed calls b sound c k self t made scope env type begins.scene have.0).sound st n le begins.fits in
            let push_here : HasLines l.world pc1 push_lines = quiet l push_lines pc1 (pc1 + 20) (omega arith) code_at.pushes.0 (has_front (whole l) push_lines lb pc1 (has_back (whole l) la (push_lines ++ lb) q.pc pc1 refl code_at.lines)) in
            let K2 : List Value → State → Machine → Type 0 = λ us u. AllDone l (record q { pc = pc3 }) m map st total us u in
            bind_reserved l o.outcome o.work o.words o.peak F s n (64 * o.work - 4) 7 3 q.gp 0 q.sp (λ v u. Done l (record q { pc = pc1 }) m map st o.words v u) K2
            (omega arith) (λ v u left e. let some = eval_works p calls self env t st n v u left e in omega arith)
            (λ v u left. (rest_later self env ts v).later u left) room.heap room.stack room.way
            (λ heap stack way. head.runs c f k self scope vs env made d first q m map console st s n type le begins have.0 (first_code c f vs d first q.pc t ts code_at) (record { heap = heap; stack = stack; way = way }) (λ x h. watched x (inl h)))
            (λ v st1 left m1 e d1 heap stack way.
            let good = fine_value p made n _ o.outcome v st1 left e fine in
            let r = eval_all p calls self env ts st1 left in
            let G : List Value → Computation (List Value) = λ us. give (v ∷ us) in
            let more : r.words ≤ (F v st1 left).words = seq_words r.outcome r.work r.words r.peak G in
            let split : total ≡ o.words + (F v st1 left).words = ap (λ (x : Outcome Value). (seq_of x o.work o.words o.peak F).words) e in
            let pushed = is_pushed q d1.memory d1.map' st1 v d1.gp d1.acc pc1 d1.ra d1.console m1 d1.at d1.pictures d1.value in
            let low = pushed.low in
            let even = pushed.even in
            let depth = begins.depth in
            let from1 = d1.gp_from in
            let to1 = d1.gp_to in
            let fewer = good.fewer in
            let memory1 = with_pushed d1.memory q d1.acc in
            let kept1 : Kept m memory1 map.marked q.gp q.sp =
            kept_then l.world m d1.memory memory1 map d1.map' st.drawn (length st.store) q.gp d1.gp q.sp q.sp from1 (omega arith) even d1.grown d1.kept (kept_same l.world d1.memory memory1 d1.map'.marked d1.gp q.sp q.sp (omega arith) pushed.same) in
            with_way l st1 m1 left _ K2 (F v st1 left).outcome ((rest_later self env ts v).later st1 left) way (λ on.
            run_wider l (F v st1 left).outcome m1 left (4 + (64 * (F v st1 left).work + 3)) (64 * (F v st1 left).work + 7) K2 (omega arith)
            (push_runs (record q { pc = pc1; gp = d1.gp; acc = d1.acc; ra = d1.ra }) d1.memory d1.console m1 left (64 * (F v st1 left).work + 3) K2 (F v st1 left).outcome push_here d1.at (omega arith) (console_way st1 d1.console d1.shows on) (omega arith) (λ m2 at2.
            let begins2 = begins_later l c k self scope vs env made good.world d (d + 1) q m memory1 map d1.map' console d1.console st st1 s m2 (pc1 + 20) d1.gp (q.sp - 4) d1.acc d1.ra begins at2 d1.shows pushed.pictures
            kept1 d1.grown from1 d1.drawn (omega arith) good.grown good.store in
            bind_reserved l r.outcome r.work r.words r.peak G m2 left (64 * r.work + 3) 0 3 d1.gp 0 (q.sp - 4)
            (λ us u. AllDone l (record q { pc = pc2; gp = d1.gp; sp = q.sp - 4; acc = d1.acc; ra = d1.ra }) memory1 d1.map' st1 r.words us u) K2
            (omega arith) (λ us u left2 e2. omega arith) (λ us u left2. (give_later (v ∷ us)).later u left2) (omega arith) (omega arith) way
            (λ heap2 stack2 way2. tail.runs c f k self scope vs env good.world (d + 1) (first + tree_size t) (record q { pc = pc1 + 20; gp = d1.gp; sp = q.sp - 4; acc = d1.acc; ra = d1.ra }) memory1 d1.map' d1.console st1 m2 left types
            (omega arith) begins2 have.1 (later_code c f vs d first q.pc t ts code_at) (record { heap = heap2; stack = stack2; way = way2 }) (λ x h. watched x (inr (v, st1, left, e, h))))
            (λ us st2 left2 m3 e2 d2 heap2 stack2 way2.
            passes l m3 (left2 - left2) 0 _ (none_spent l m3 left2 0 _ (done l.world 0 m3 _ (arguments_joined q m map st st1 st2 v us pc1 pc2 pc3 o.words r.words total m1 m3 d1 d2 (omega arith) sum (omega arith)))))))))
