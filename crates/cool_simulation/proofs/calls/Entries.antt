-- The entry of a method saves the registers in a new stack frame, with the arguments as variables above it. The return removes the frame and leaves the rest of
-- memory unchanged.
use Rattle.std.proofs.Common.{◌≡◌, ℕ, ◌+◌, ◌-◌, ◌*◌, ◌/◌, ◌%◌, ◌<◌, ◌≤◌, inl, inr, List, ◌++◌, length, Bool as Truth, false, refl, ap, ◌∙◌, arith}
use Rattle.mips_isa.specs.Bytes.{Bytes, word, set_word}
use Rattle.mips_isa.specs.Calls.{State as Machine}
use Rattle.cool_classes.specs.declared.class_id.ClassId.{ClassId}
use Rattle.cool_runtime.specs.Reaches.{World}
use Rattle.cool_runtime.specs.Contents.{Same}
use Rattle.cool_runtime.specs.Machines.{At, Pointers, Console}
use Rattle.cool_runtime.proofs.Words.{byte_other, word_same, word_other, word_equal}
use Rattle.cool_runtime.proofs.Calling.{with_frame, FrameAt}
use Rattle.cool_meaning.specs.Values.{Value, State}
use Rattle.cool_meaning.specs.FittingValues as fitting
use Rattle.cool_simulation.specs.Loadings.{Loading}
use Rattle.cool_simulation.specs.Pictures.{Map, Pic, Pictures, Kept, Grown}
use Rattle.cool_simulation.specs.Simulation.{Called, Done}
use Rattle.cool_simulation.proofs.ground.PicturesStay.{kept_same, kept_then, grown_then}
use Rattle.cool_simulation.proofs.ground.PicturesStay.{pic_stays}
use Rattle.cool_simulation.proofs.ground.Between.{below_it, behind_it}
use Rattle.cool_simulation.proofs.calls.Frames.{with_arguments, without_arguments, AtEntry, home_new, home_old, mark_out, staying, pictures_entered}
use Rattle.cool_simulation.proofs.calls.LeftFrames.{AtReturn, home_stays, mark_stays, left_staying, pictures_left}
use Rattle.std.proofs.lemmas.List.{length-append}

-- the pointers behind the entry
abbrev pub entry_of : Pointers → Pointers
entry_of q = record q { pc = q.pc + 36; sp = q.sp - 12; fp = q.sp - 12; self = q.acc }

-- the state in which the body begins
abbrev pub located_in : State → List Value → State
located_in st vs = record st { store = st.store ++ vs }

abbrev pub entry_map : Map → State → List Value → Pointers → Map
entry_map map st vs q = with_arguments map (length st.store) (length vs) q.sp

-- the frame's words

frame_below : (m : Bytes) (q : Pointers) (a : ℕ) → a + 12 < q.sp → with_frame m q a ≡ m a
unfolding with_frame
frame_below m q a low =
    byte_other _ (q.sp - 12) q.self a (inl (omega arith)) ∙ byte_other _ (q.sp - 8) q.fp a (inl (omega arith)) ∙ byte_other m (q.sp - 4) q.ra a (inl (omega arith))

frame_over : (m : Bytes) (q : Pointers) (a : ℕ) → 12 ≤ q.sp → q.sp ≤ a → with_frame m q a ≡ m a
unfolding with_frame
frame_over m q a some high =
    byte_other _ (q.sp - 12) q.self a (inr (omega arith)) ∙ byte_other _ (q.sp - 8) q.fp a (inr (omega arith)) ∙ byte_other m (q.sp - 4) q.ra a (inr (omega arith))

frame_words : (w : World) (m : Bytes) (q : Pointers) → 12 ≤ q.sp → q.ra < 4294967296 → q.fp < 4294967296 → q.self < 4294967296 → FrameAt w (with_frame m q) (q.sp - 12) q.ra q.fp q.self
unfolding with_frame
frame_words w m q some ra fp self =
    let m1 = set_word m (q.sp - 4) q.ra in
    let m2 = set_word m1 (q.sp - 8) q.fp in
    let m3 = set_word m2 (q.sp - 12) q.self in
    let at8 : q.sp - 12 + 8 ≡ q.sp - 4 = omega arith in
    let at4 : q.sp - 12 + 4 ≡ q.sp - 8 = omega arith in
    record {
      ra_is = ap (word m3) at8 ∙ word_other m2 (q.sp - 12) (q.sp - 4) q.self (inr (omega arith)) ∙ word_other m1 (q.sp - 8) (q.sp - 4) q.fp (inr (omega arith)) ∙ word_same m (q.sp - 4) q.ra ra;
      fp_is = ap (word m3) at4 ∙ word_other m2 (q.sp - 12) (q.sp - 8) q.self (inr (omega arith)) ∙ word_same m1 (q.sp - 8) q.fp fp;
      self_is = word_same m2 (q.sp - 12) q.self self;
    }

-- words of the stack that are no homes stay
stack_word : (m m' : Bytes) (marked : ℕ → Truth) (gp fp a : ℕ) → Kept m m' marked gp fp → fp ≤ a → a % 4 ≡ 0 → marked (a / 4) ≡ false → word m' a ≡ word m a
stack_word m m' marked gp fp a kept from even un = word_equal m m' a (λ q low high. let same : q / 4 ≡ a / 4 = omega arith in kept.over q (omega arith) (ap marked same ∙ un))

pub frame_stays : (w : World) (m m' : Bytes) (marked : ℕ → Truth) (gp fp ra old self : ℕ) → Kept m m' marked gp fp → fp % 4 ≡ 0 → ((i : ℕ) → fp ≤ 4 * i → 4 * i < fp + 12 → marked i ≡ false) → FrameAt w m fp ra old self
    → FrameAt w m' fp ra old self
frame_stays w m m' marked gp fp ra old self kept even un at = record {
  ra_is = stack_word m m' marked gp fp (fp + 8) kept (omega arith) (omega arith) (un ((fp + 8) / 4) (omega arith) (omega arith)) ∙ at.ra_is;
  fp_is = stack_word m m' marked gp fp (fp + 4) kept (omega arith) (omega arith) (un ((fp + 4) / 4) (omega arith) (omega arith)) ∙ at.fp_is;
  self_is = stack_word m m' marked gp fp fp kept (omega arith) even (un (fp / 4) (omega arith) (omega arith)) ∙ at.self_is;
}

module _ (l : Loading) (k : ClassId) (self : Value) (vs : List Value) (made : fitting.World) (q : Pointers) (m : Bytes) (map : Map) (console : Console) (st : State) (s : Machine) (called : Called l k self vs made q m map console st s) where
  pub entry : AtEntry l.world m (with_frame m q) map st.drawn q.gp q.sp vs
  entry =
      let laid = l.world.laid in
      let numbers = called.at.numbers in
      record {
        from = numbers.gp_from;
        room = omega arith;
        to = called.room;
        even = numbers.sp_even;
        values = called.values;
        unmarked = called.unmarked;
        below = λ a low. frame_below m q a low;
        over = λ a high. frame_over m q a (omega arith) high;
      }

  pub entered_pictures : Pictures l.table l.world l.memory (with_frame m q) (entry_map map st vs q) (located_in st vs) q.gp (q.sp - 12)
  entered_pictures = pictures_entered l.table l.world l.memory m (with_frame m q) map st q.gp q.sp vs called.pictures entry

  pub entered_self : Pic l.world (with_frame m q) (entry_map map st vs q) st.drawn q.gp self q.acc
  entered_self =
      pic_stays l.world m (with_frame m q) map (entry_map map st vs q) st.drawn st.drawn q.gp q.gp self q.acc (omega arith) (omega arith)
      (staying l.table l.world l.memory m (with_frame m q) map st q.gp q.sp vs called.pictures entry) called.self_is

  pub entered_argument : (j : ℕ) → j < length vs → (entry_map map st vs q).home (length st.store + j) ≡ q.sp - 12 + 12 + 4 * (length vs - (j + 1))
  entered_argument j less =
      let laid = l.world.laid in
      let numbers = called.at.numbers in
      home_new l.table l.world l.memory m (with_frame m q) map st q.gp q.sp vs called.pictures entry (length st.store + j) (omega arith) (omega arith) ∙ omega arith

  pub entered_frame : FrameAt l.world (with_frame m q) (q.sp - 12) q.ra q.fp q.self
  entered_frame =
      let laid = l.world.laid in
      let numbers = called.at.numbers in
      frame_words l.world m q (omega arith) called.saved.0 called.saved.1 called.saved.2

  -- the frame's words are no homes
  pub frame_unmarked : (i : ℕ) → q.sp - 12 ≤ 4 * i → 4 * i < q.sp - 12 + 12 → (entry_map map st vs q).marked i ≡ false
  frame_unmarked i from to =
      let laid = l.world.laid in
      let numbers = called.at.numbers in
      mark_out l.table l.world l.memory m (with_frame m q) map st q.gp q.sp vs called.pictures entry i (below_it q.sp (q.sp + 4 * length vs) (4 * i) (omega arith)) ∙ called.pictures.unmarked_room i (omega arith) (omega arith)

  -- the changes of the entry, seen from above the arguments
  entry_grown : Grown map (entry_map map st vs q) st.drawn (length st.store) q.gp (q.sp + 4 * length vs)
  entry_grown =
      let laid = l.world.laid in
      let numbers = called.at.numbers in
      record {
        address = λ i less. refl;
        class = λ i less. refl;
        locations = λ i less. refl;
        home = λ i less. home_old l.table l.world l.memory m (with_frame m q) map st q.gp q.sp vs called.pictures entry i less;
        below = λ i less. mark_out l.table l.world l.memory m (with_frame m q) map st q.gp q.sp vs called.pictures entry i (below_it q.sp (q.sp + 4 * length vs) (4 * i) (omega arith));
        over = λ i more. mark_out l.table l.world l.memory m (with_frame m q) map st q.gp q.sp vs called.pictures entry i (behind_it q.sp (q.sp + 4 * length vs) (4 * i) (omega arith));
      }

  entry_same : Same m (with_frame m q) q.gp q.sp
  entry_same =
      let laid = l.world.laid in
      let numbers = called.at.numbers in
      record { below = λ a less. frame_below m q a (omega arith); over = λ a more. frame_over m q a (omega arith) more }

  -- The state after the body and the return.
  pub returned : (words pc : ℕ) (v : Value) (t : State) (u u' : Machine) → (done : Done l (record (entry_of q) { pc = pc }) (with_frame m q) (entry_map map st vs q) (located_in st vs) words v t u)
      → At l.world (record q { pc = q.ra; gp = done.gp; sp = q.sp + 4 * length vs; acc = done.acc }) done.memory done.console u'
      → Done l (record q { pc = q.ra; sp = q.sp + 4 * length vs }) m map st words v t u'
  returned words pc v t u u' done at =
      let laid = l.world.laid in
      let numbers = called.at.numbers in
      let limits = done.at.numbers in
      let located = length st.store in
      let count = length vs in
      let long : length (st.store ++ vs) ≡ located + count = length-append st.store vs in
      let low = q.sp - 12 in
      let high = q.sp + 4 * count in
      let map1 = entry_map map st vs q in
      let from = done.gp_from in
      let drawn = done.drawn in
      let more = done.located in
      let ends : AtReturn done.map' t done.gp low q.sp located count = record {
        from = omega arith;
        room = omega arith;
        high = omega arith;
        even = numbers.sp_even;
        frame = λ i a b. done.grown.over i a ∙ frame_unmarked i a (omega arith);
        arguments = λ i a b. done.grown.home i (omega arith) ∙ home_new l.table l.world l.memory m (with_frame m q) map st q.gp q.sp vs called.pictures entry i a b;
      } in
      let gone = without_arguments done.map' located count low high in
      let grown2 : Grown map done.map' st.drawn located q.gp high =
      grown_then l.world map map1 done.map' st.drawn st.drawn located (length (st.store ++ vs)) q.gp q.gp high low (omega arith) (omega arith) (omega arith) (omega arith) entry_grown done.grown in
      let kept2 : Kept m done.memory map.marked q.gp high =
      kept_then l.world m (with_frame m q) done.memory map map1 st.drawn located q.gp q.gp high low (omega arith) (omega arith) (omega arith) entry_grown
      (kept_same l.world m (with_frame m q) map.marked q.gp q.sp high (omega arith) entry_same) done.kept in
      record {
        gp = done.gp;
        acc = done.acc;
        ra = q.ra;
        memory = done.memory;
        map' = gone;
        console = done.console;
        at = at;
        shows = done.shows;
        pictures = pictures_left l.table l.world l.memory done.memory done.map' t done.gp low q.sp located count done.pictures ends;
        value = pic_stays l.world done.memory done.memory done.map' gone t.drawn t.drawn done.gp done.gp v done.acc (omega arith) (omega arith)
            (left_staying l.table l.world l.memory done.memory done.map' t done.gp low q.sp located count done.pictures ends) done.value;
        kept = kept2;
        grown = record {
          address = grown2.address;
          class = grown2.class;
          locations = grown2.locations;
          home = λ i less. home_stays l.table l.world l.memory done.memory done.map' t done.gp low q.sp located count done.pictures ends i (below_it located (located + count) i less) ∙ grown2.home i less;
          below = λ i less. mark_stays l.table l.world l.memory done.memory done.map' t done.gp low q.sp located count done.pictures ends i (below_it low high (4 * i) (omega arith)) ∙ grown2.below i less;
          over = λ i over. mark_stays l.table l.world l.memory done.memory done.map' t done.gp low q.sp located count done.pictures ends i (behind_it low high (4 * i) over) ∙ grown2.over i over;
        };
        drawn = drawn;
        located = omega arith;
        gp_from = done.gp_from;
        gp_to = done.gp_to;
      }
