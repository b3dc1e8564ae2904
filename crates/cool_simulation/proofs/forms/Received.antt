-- `Received` describes the machine after the code of a receiver and its arguments, before the call. The outcome of the call is then the outcome of the whole
-- dispatch.
use Rattle.std.proofs.Common.{◌≡◌, ℕ, ◌+◌, ◌-◌, ◌*◌, ◌/◌, ◌%◌, ◌<◌, ◌≤◌, List, [], length, get_or, Some, false, sym, ◌∙◌, subst, arith}
use Rattle.std.specs.Prelude.{slice_get}
use Rattle.mips_isa.specs.declared.address_map.TheConstants.{STACK_END}
use Rattle.mips_isa.specs.Bytes.{Bytes, word}
use Rattle.mips_isa.specs.Calls.{State as Machine}
use Rattle.cool_classes.specs.declared.class_id.ClassId.{ClassId}
use Rattle.cool_classes.specs.declared.method.MethodRef.TheVariants.{Basic}
use Rattle.cool_classes.specs.declared.method.BasicMethod.{BasicMethod}
use Rattle.cool_classes.specs.Features.{basic_formals}
use Rattle.cool_classes.specs.LawfulTables.{MayInherit}
use Rattle.cool_syntax.specs.declared.place.Place.{Place}
use Rattle.cool_runtime.specs.Contents.{StringAt}
use Rattle.cool_runtime.specs.Machines.{At, Pointers, Console}
use Rattle.cool_runtime.proofs.Words.{word_equal}
use Rattle.cool_layout.specs.Labels.{method_label}
use Rattle.cool_meaning.specs.Values.{Value, State, class_of}
use Rattle.cool_meaning.specs.BasicMethods.{basic}
use Rattle.cool_meaning.specs.FittingValues.{AllFit, Fits}
use Rattle.cool_meaning.specs.FittingValues as fitting
use Rattle.cool_simulation.specs.Loadings.{Loading}
use Rattle.cool_simulation.specs.Pictures.{Map, Pic, Pictures, Kept, Grown, Shows}
use Rattle.cool_simulation.specs.Simulation.{Done, AllDone, Called, Runs, Room}
use Rattle.cool_simulation.proofs.ground.PicturesStay.{pic_stays, staying_of, kept_then, grown_then}
use Rattle.std.proofs.lemmas.Option.{slice_get_within}

-- the receiver, an object of class j, is in $a0, and the arguments are on the stack, the last one lowest
pub record Received (l : Loading) (j : ClassId) (self : Value) (vs : List Value) (made : fitting.World) (q : Pointers) (m : Bytes) (map : Map) (console : Console) (st : State) (s : Machine) : Type 0 where
  pub at : At l.world q m console s
  pub shows : Shows st console
  pub pictures : Pictures l.table l.world l.memory m map st q.gp q.sp
  pub self_is : Pic l.world m map st.drawn q.gp self q.acc
  pub room : q.sp + 4 * length vs + 4 ≤ STACK_END
  pub frame : (q.fp < 4294967296) × (q.self < 4294967296)
  pub values : (i : ℕ) (v : Value) → slice_get vs i ≡ Some v → Pic l.world m map st.drawn q.gp v (word m (q.sp + 4 * (length vs - (i + 1))))
  pub unmarked : (i : ℕ) → q.sp ≤ 4 * i → 4 * i < q.sp + 4 * length vs → map.marked i ≡ false
  pub class : class_of self ≡ Some j
  pub within : j.0 < length l.table
  pub self_fits : Fits l.table made self j
  pub fits : AllFit l.table made st.store made

-- The routine of a basic method does the same as the method means: with its receiver and its arguments, and with the place of its call.
abbrev pub BasicCorrect : Loading → Type 0
BasicCorrect l = (x : BasicMethod) (at : Place) (self : Value) (j : ClassId) (vs : List Value) (made : fitting.World) (q : Pointers) (m : Bytes) (map : Map) (console : Console) (st : State) (s : Machine) (n : ℕ)
    → Received l j self vs made q m map console st s → q.pc ≡ l.world.place (method_label l.table (Basic x))
    → StringAt l.world m q.gp (s.core.registers 24) (get_or l.files at.file []) → s.core.registers 25 ≡ at.line → at.line < 2147483648 → length vs ≡ length (basic_formals x)
    → Room l q 0 (basic l.table x at self vs st n)
    → Runs l s n (64 * (length vs + (basic l.table x at self vs st n).work) + 51)
    (Done l (record q { pc = q.ra; sp = q.sp + 4 * length vs }) m map st (basic l.table x at self vs st n).words) (basic l.table x at self vs st n).outcome

module _ (l : Loading) where
  -- at the entry of a method of the program
  pub called_of : (j : ClassId) (self : Value) (vs : List Value) (made : fitting.World) (q : Pointers) (m : Bytes) (map : Map) (console : Console) (st : State) (s : Machine) → MayInherit j
      → q.ra < 4294967296 → Received l j self vs made q m map console st s → Called l j self vs made q m map console st s
  called_of j self vs made q m map console st s plain small h = record {
    at = h.at;
    shows = h.shows;
    pictures = h.pictures;
    self_is = h.self_is;
    room = (let room = h.room in omega arith);
    saved = (small, h.frame.0, h.frame.1);
    values = h.values;
    unmarked = h.unmarked;
    class = h.class;
    within = h.within;
    plain = plain;
    self_fits = h.self_fits;
    fits = h.fits;
  }

  -- pc and $ra are no part of it
  pub received_at : (j : ClassId) (self : Value) (vs : List Value) (made : fitting.World) (q : Pointers) (m : Bytes) (map : Map) (console : Console) (st : State) (s t : Machine) (pc ra : ℕ)
      → Received l j self vs made q m map console st s → At l.world (record q { pc = pc; ra = ra }) m console t → Received l j self vs made (record q { pc = pc; ra = ra }) m map console st t
  received_at j self vs made q m map console st s t pc ra h at = record {
    at = at;
    shows = h.shows;
    pictures = h.pictures;
    self_is = h.self_is;
    room = h.room;
    frame = h.frame;
    values = h.values;
    unmarked = h.unmarked;
    class = h.class;
    within = h.within;
    self_fits = h.self_fits;
    fits = h.fits;
  }

  -- the state after the code of the arguments and of the receiver
  pub receives : (j : ClassId) (self : Value) (vs : List Value) (made : fitting.World) (q : Pointers) (m : Bytes) (map : Map) (st st1 st2 : State) (pc1 pc2 words1 words2 : ℕ) (s1 s2 : Machine)
      → (d1 : AllDone l (record q { pc = pc1 }) m map st words1 vs st1 s1)
      → (d2 : Done l (record q { pc = pc2; gp = d1.gp; sp = q.sp - 4 * length vs; acc = d1.acc; ra = d1.ra }) d1.memory d1.map' st1 words2 self st2 s2)
      → q.sp + 4 ≤ STACK_END → (q.fp < 4294967296) × (q.self < 4294967296) → class_of self ≡ Some j → j.0 < length l.table → Fits l.table made self j → AllFit l.table made st2.store made
      → Received l j self vs made (record q { pc = pc2; gp = d2.gp; sp = q.sp - 4 * length vs; acc = d2.acc; ra = d2.ra }) d2.memory d2.map' d2.console st2 s2
  receives j self vs made q m map st st1 st2 pc1 pc2 words1 words2 s1 s2 d1 d2 high frame class within self_fits fits =
      let room = d1.room in
      let numbers = d1.at.numbers in
      let sp1 = q.sp - 4 * length vs in
      let even : sp1 % 4 ≡ 0 = omega arith in
      let stay = staying_of l.world d1.memory d2.memory d1.map' d2.map' st1.drawn (length st1.store) d1.gp sp1 d2.kept d2.grown in
      record {
        at = d2.at;
        shows = d2.shows;
        pictures = d2.pictures;
        self_is = d2.value;
        room = omega arith;
        frame = frame;
        values = λ i v there.
            let less = slice_get_within vs i v there in
            let a = q.sp - 4 * (i + 1) in
            let here : sp1 + 4 * (length vs - (i + 1)) ≡ a = omega arith in
            let stays : word d2.memory a ≡ word d1.memory a = word_equal d1.memory d2.memory a (λ b low high. d2.kept.over b (omega arith) (d1.unmarked (b / 4) (omega arith) (omega arith))) in
            subst (λ (b : ℕ). Pic l.world d2.memory d2.map' st2.drawn d2.gp v (word d2.memory b)) (sym here)
            (subst (λ (b : ℕ). Pic l.world d2.memory d2.map' st2.drawn d2.gp v b) (sym stays) (pic_stays l.world d1.memory d2.memory d1.map' d2.map' st1.drawn st2.drawn d1.gp d2.gp v _ d2.gp_from d2.drawn stay (d1.values i v there)));
        unmarked = λ i from to. d2.grown.over i from ∙ d1.unmarked i (omega arith) (omega arith);
        class = class;
        within = within;
        self_fits = self_fits;
        fits = fits;
      }

  -- the whole dispatch, by its call
  pub dispatch_done : (self v : Value) (vs : List Value) (q : Pointers) (m : Bytes) (map : Map) (st st1 st2 st3 : State) (pc1 pc2 pc3 pc4 ra words1 words2 words3 words : ℕ) (s1 s2 s3 : Machine)
      → (d1 : AllDone l (record q { pc = pc1 }) m map st words1 vs st1 s1)
      → (d2 : Done l (record q { pc = pc2; gp = d1.gp; sp = q.sp - 4 * length vs; acc = d1.acc; ra = d1.ra }) d1.memory d1.map' st1 words2 self st2 s2)
      → Done l (record q { pc = pc3; gp = d2.gp; sp = q.sp - 4 * length vs + 4 * length vs; acc = d2.acc; ra = ra }) d2.memory d2.map' st2 words3 v st3 s3 → pc3 ≡ pc4 → words1 + (words2 + words3) ≤ words
      → Done l (record q { pc = pc4 }) m map st words v st3 s3
  dispatch_done self v vs q m map st st1 st2 st3 pc1 pc2 pc3 pc4 ra words1 words2 words3 words s1 s2 s3 d1 d2 d3 same few =
      let room = d1.room in
      let numbers = d3.at.numbers in
      let popped : q.sp - 4 * length vs + 4 * length vs ≡ q.sp = omega arith in
      let even : q.sp % 4 ≡ 0 = omega arith in
      let at = d3.at in
      let from1 = d1.gp_from in let to1 = d1.gp_to in let from2 = d2.gp_from in let to2 = d2.gp_to in let from3 = d3.gp_from in let to3 = d3.gp_to in
      let drawn1 = d1.drawn in let drawn2 = d2.drawn in let drawn3 = d3.drawn in let located1 = d1.located in let located2 = d2.located in let located3 = d3.located in
      let grown2 : Grown map d2.map' st.drawn (length st.store) q.gp q.sp =
      grown_then l.world map d1.map' d2.map' st.drawn st1.drawn (length st.store) (length st1.store) q.gp d1.gp q.sp (q.sp - 4 * length vs) drawn1 located1 from1 (omega arith) d1.grown d2.grown in
      let kept2 : Kept m d2.memory map.marked q.gp q.sp =
      kept_then l.world m d1.memory d2.memory map d1.map' st.drawn (length st.store) q.gp d1.gp q.sp (q.sp - 4 * length vs) from1 (omega arith) even d1.grown d1.kept d2.kept in
      record {
        gp = d3.gp;
        acc = d3.acc;
        ra = d3.ra;
        memory = d3.memory;
        map' = d3.map';
        console = d3.console;
        at = record { numbers = omega arith; memory_is = at.memory_is; input_is = at.input_is; ended_is = at.ended_is; output_is = at.output_is };
        shows = d3.shows;
        pictures = subst (λ (x : ℕ). Pictures l.table l.world l.memory d3.memory d3.map' st3 d3.gp x) popped d3.pictures;
        value = d3.value;
        kept = kept_then l.world m d2.memory d3.memory map d2.map' st.drawn (length st.store) q.gp d2.gp q.sp (q.sp - 4 * length vs + 4 * length vs) (omega arith) (omega arith) even grown2 kept2 d3.kept;
        grown = grown_then l.world map d2.map' d3.map' st.drawn st2.drawn (length st.store) (length st2.store) q.gp d2.gp q.sp (q.sp - 4 * length vs + 4 * length vs) (omega arith) (omega arith) (omega arith) (omega arith) grown2 d3.grown;
        drawn = omega arith;
        located = omega arith;
        gp_from = omega arith;
        gp_to = omega arith;
      }
