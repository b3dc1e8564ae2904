-- The simulation relation is preserved if, below the end of the heap, memory changes only at addresses of variables, and if only stack words that hold no
-- variable are pushed or popped.
use Rattle.std.proofs.Common.{◌≡◌, ℕ, ◌+◌, ◌*◌, ◌/◌, ◌%◌, ◌<◌, ◌≤◌, ◌⊎◌, inl, inr, List, length, Bool as Truth, true, false, refl, sym, ◌∙◌, subst, arith, true≢false}
use Rattle.mips_isa.specs.declared.address_map.TheConstants.{HEAP_START, STACK_END}
use Rattle.mips_isa.specs.Bytes.{Bytes, word}
use Rattle.cool_classes.specs.Chains.{Class}
use Rattle.cool_runtime.specs.Reaches.{World}
use Rattle.cool_runtime.specs.Contents.{IntAt, BoolAt, StringAt, Same, words_of_bytes}
use Rattle.cool_runtime.proofs.Words.{word_equal}
use Rattle.cool_runtime.proofs.MadeStrings.{head_moved}
use Rattle.cool_meaning.specs.Values.{Value, Void, Int, Bool, Str, Obj, State}
use Rattle.cool_simulation.specs.Pictures.{Map, Pic, ObjectStands, Pictures, Kept, Grown, Unmarked}

-- unchanged data below gp: unmarked bytes, marks, and the map of the identities that were drawn
pub record Staying (m m' : Bytes) (map map' : Map) (drawn gp : ℕ) : Type 0 where
  pub bytes : (q : ℕ) → q < gp → map.marked (q / 4) ≡ false → m' q ≡ m q
  pub marks : (k : ℕ) → 4 * k < gp → map'.marked k ≡ map.marked k
  pub address : (i : ℕ) → i < drawn → map'.address i ≡ map.address i
  pub class : (i : ℕ) → i < drawn → map'.class i ≡ map.class i
  pub locations : (i : ℕ) → i < drawn → map'.locations i ≡ map.locations i

module _ (w : World) where
  pub unmarked_stays : (m m' : Bytes) (map map' : Map) (drawn gp a size : ℕ) → Staying m m' map map' drawn gp → a + size ≤ gp → Unmarked map.marked a size → Unmarked map'.marked a size
  unmarked_stays m m' map map' drawn gp a size stay room un = λ q from to. stay.marks (q / 4) (omega arith) ∙ un q from to

  pub int_stays : (m m' : Bytes) (map map' : Map) (drawn gp gp' a v : ℕ) → gp ≤ gp' → Staying m m' map map' drawn gp → Unmarked map.marked a 16 → IntAt w m gp a v → IntAt w m' gp' a v
  int_stays m m' map map' drawn gp gp' a v le stay un at =
      let lies = at.lies in
      let same : (q : ℕ) → a ≤ q + 4 → q < a + 16 → m' q ≡ m q = λ q from to. stay.bytes q (omega arith) (un q from to) in
      record {
        lies = omega arith;
        head = head_moved m m' a _ _ _ (omega arith) (λ q from to. same q from (omega arith)) at.head;
        head_fits = at.head_fits;
        value = word_equal m m' (a + 12) (λ q from to. same q (omega arith) (omega arith)) ∙ at.value;
        fits = at.fits;
      }

  pub bool_stays : (m m' : Bytes) (map map' : Map) (drawn gp gp' a v : ℕ) → gp ≤ gp' → Staying m m' map map' drawn gp → Unmarked map.marked a 16 → BoolAt w m gp a v → BoolAt w m' gp' a v
  bool_stays m m' map map' drawn gp gp' a v le stay un at =
      let lies = at.lies in
      let same : (q : ℕ) → a ≤ q + 4 → q < a + 16 → m' q ≡ m q = λ q from to. stay.bytes q (omega arith) (un q from to) in
      record {
        lies = omega arith;
        head = head_moved m m' a _ _ _ (omega arith) (λ q from to. same q from (omega arith)) at.head;
        head_fits = at.head_fits;
        value = word_equal m m' (a + 12) (λ q from to. same q (omega arith) (omega arith)) ∙ at.value;
        bit = at.bit;
      }

  pub string_stays : (m m' : Bytes) (map map' : Map) (drawn gp gp' a : ℕ) (bytes : List ℕ) → gp ≤ gp' → Staying m m' map map' drawn gp → Unmarked map.marked a (4 * (4 + words_of_bytes (length bytes)))
      → Unmarked map.marked (word m (a + 12)) 16 → StringAt w m gp a bytes → StringAt w m' gp' a bytes × (word m' (a + 12) ≡ word m (a + 12))
  string_stays m m' map map' drawn gp gp' a bytes le stay un un' at =
      let n = words_of_bytes (length bytes) in
      let lies = at.lies in
      let same : (q : ℕ) → a ≤ q + 4 → q < a + 4 * (4 + n) → m' q ≡ m q = λ q from to. stay.bytes q (omega arith) (un q from to) in
      let third : word m' (a + 12) ≡ word m (a + 12) = word_equal m m' (a + 12) (λ q from to. same q (omega arith) (omega arith)) in (
        record {
          lies = omega arith;
          head = head_moved m m' a _ _ _ (omega arith) (λ q from to. same q from (omega arith)) at.head;
          head_fits = at.head_fits;
          length_is = subst (λ b. IntAt w m' gp' b (length bytes)) (sym third) (int_stays m m' map map' drawn gp gp' (word m (a + 12)) (length bytes) le stay un' at.length_is);
          holds = λ i h. same (a + 16 + i) (omega arith) (omega arith) ∙ at.holds i h;
          text = at.text;
        },
        third,
      )

  -- a picture stays
  pub pic_stays : (m m' : Bytes) (map map' : Map) (drawn drawn' gp gp' : ℕ) (v : Value) (a : ℕ) → gp ≤ gp' → drawn ≤ drawn' → Staying m m' map map' drawn gp → Pic w m map drawn gp v a → Pic w m' map' drawn' gp' v a
  pic_stays m m' map map' drawn drawn' gp gp' Void a le more stay pic = pic
  pic_stays m m' map map' drawn drawn' gp gp' (Int v) a le more stay pic =
      (int_stays m m' map map' drawn gp gp' a _ le stay pic.2 pic.0, pic.1, unmarked_stays m m' map map' drawn gp a 16 stay pic.0.lies.to pic.2)
  pic_stays m m' map map' drawn drawn' gp gp' (Bool b) a le more stay pic =
      (bool_stays m m' map map' drawn gp gp' a _ le stay pic.1 pic.0, unmarked_stays m m' map map' drawn gp a 16 stay pic.0.lies.to pic.1)
  pic_stays m m' map map' drawn drawn' gp gp' (Str bytes) a le more stay pic =
      let kept = string_stays m m' map map' drawn gp gp' a bytes le stay pic.1 pic.2 pic.0 in (
        kept.0,
        unmarked_stays m m' map map' drawn gp a _ stay pic.0.lies.to pic.1,
        subst (λ b. Unmarked map'.marked b 16) (sym kept.1) (unmarked_stays m m' map map' drawn gp (word m (a + 12)) 16 stay pic.0.length_is.lies.to pic.2),
      )
  pic_stays m m' map map' drawn drawn' gp gp' (Obj c i ls) a le more stay pic =
      let less = pic.1 in
      (pic.0 ∙ sym (stay.address i less), omega arith, pic.2 ∙ sym (stay.class i less), pic.3 ∙ sym (stay.locations i less))

  -- Kept and grown

  pub staying_of : (m m' : Bytes) (map map' : Map) (drawn located gp sp : ℕ) → Kept m m' map.marked gp sp → Grown map map' drawn located gp sp → Staying m m' map map' drawn gp
  staying_of m m' map map' drawn located gp sp kept grown = record { bytes = kept.below; marks = grown.below; address = grown.address; class = grown.class; locations = grown.locations }

  pub staying_same : (m m' : Bytes) (map : Map) (drawn gp sp : ℕ) → Same m m' gp sp → Staying m m' map map drawn gp
  staying_same m m' map drawn gp sp same = record { bytes = λ q h un. same.below q h; marks = λ k h. refl; address = λ i h. refl; class = λ i h. refl; locations = λ i h. refl }

  pub kept_same : (m m' : Bytes) (marked : ℕ → Truth) (gp sp sp' : ℕ) → sp ≤ sp' → Same m m' gp sp → Kept m m' marked gp sp'
  kept_same m m' marked gp sp sp' le same = record { below = λ q h un. same.below q h; over = λ q h un. same.over q (omega arith) }

  pub not_grown : (map : Map) (drawn located gp sp : ℕ) → Grown map map drawn located gp sp
  not_grown map drawn located gp sp = record { address = λ i h. refl; class = λ i h. refl; locations = λ i h. refl; home = λ i h. refl; below = λ k h. refl; over = λ k h. refl }

  pub kept_then : (m m1 m2 : Bytes) (map map1 : Map) (drawn located gp gp1 sp sp1 : ℕ) → gp ≤ gp1 → sp1 ≤ sp → sp % 4 ≡ 0 → Grown map map1 drawn located gp sp → Kept m m1 map.marked gp sp
      → Kept m1 m2 map1.marked gp1 sp1 → Kept m m2 map.marked gp sp
  kept_then m m1 m2 map map1 drawn located gp gp1 sp sp1 le ge even grown a b = record {
    below = λ q h un. b.below q (omega arith) (grown.below (q / 4) (omega arith) ∙ un) ∙ a.below q h un;
    over = λ q h un. b.over q (omega arith) (grown.over (q / 4) (omega arith) ∙ un) ∙ a.over q h un;
  }

  pub grown_then : (map map1 map2 : Map) (drawn drawn1 located located1 gp gp1 sp sp1 : ℕ) → drawn ≤ drawn1 → located ≤ located1 → gp ≤ gp1 → sp1 ≤ sp → Grown map map1 drawn located gp sp
      → Grown map1 map2 drawn1 located1 gp1 sp1 → Grown map map2 drawn located gp sp
  grown_then map map1 map2 drawn drawn1 located located1 gp gp1 sp sp1 more further le ge a b = record {
    address = λ i h. b.address i (omega arith) ∙ a.address i h;
    class = λ i h. b.class i (omega arith) ∙ a.class i h;
    locations = λ i h. b.locations i (omega arith) ∙ a.locations i h;
    home = λ l h. b.home l (omega arith) ∙ a.home l h;
    below = λ k h. b.below k (omega arith) ∙ a.below k h;
    over = λ k h. b.over k (omega arith) ∙ a.over k h;
  }

  -- Pictures

  -- an object stays where the map is the same
  pub object_same : (p : List Class) (m m' : Bytes) (map : Map) (gp gp' sp i : ℕ) → gp ≤ gp' → Same m m' gp sp → ObjectStands p w m map gp i → ObjectStands p w m' map gp' i
  object_same p m m' map gp gp' sp i le same at =
      let to = at.to in
      let from = at.from in
      record {
        within = at.within;
        plain = at.plain;
        long = at.long;
        even = at.even;
        from = at.from;
        to = omega arith;
        head = head_moved m m' (map.address i) _ _ _ (omega arith) (λ q low high. same.below q (omega arith)) at.head;
        unmarked = at.unmarked;
        homes = at.homes;
      }

  home_word : (m m' : Bytes) (gp sp a : ℕ) → Same m m' gp sp → ((HEAP_START ≤ a) × (a + 4 ≤ gp)) ⊎ ((sp ≤ a) × (a + 4 ≤ STACK_END)) → word m' a ≡ word m a
  home_word m m' gp sp a same (inl in_heap) = word_equal m m' a (λ q low high. let to = in_heap.1 in same.below q (omega arith))
  home_word m m' gp sp a same (inr in_stack) = word_equal m m' a (λ q low high. let from = in_stack.0 in same.over q (omega arith))

  home_room : (gp gp' sp a : ℕ) → gp ≤ gp' → ((HEAP_START ≤ a) × (a + 4 ≤ gp)) ⊎ ((sp ≤ a) × (a + 4 ≤ STACK_END)) → ((HEAP_START ≤ a) × (a + 4 ≤ gp')) ⊎ ((sp ≤ a) × (a + 4 ≤ STACK_END))
  home_room gp gp' sp a le (inl in_heap) = let to = in_heap.1 in inl (in_heap.0, omega arith)
  home_room gp gp' sp a le (inr in_stack) = inr in_stack

  pub pictures_same : (p : List Class) (loaded m m' : Bytes) (map : Map) (st : State) (gp gp' sp : ℕ) → HEAP_START ≤ gp → gp ≤ gp' → Same m m' gp sp → Pictures p w loaded m map st gp sp → Pictures p w loaded m' map st gp' sp
  pictures_same p loaded m m' map st gp gp' sp from le same at = record {
    objects = λ i h. object_same p m m' map gp gp' sp i le same (at.objects i h);
    injective = at.injective;
    homes = λ l h. let home = at.homes l h in
        record {
          even = home.even;
          marked = home.marked;
          room = home_room gp gp' sp (map.home l) le home.room;
          value = home.value;
          stored = home.stored;
          picture =
              subst (λ (x : ℕ). Pic w m' map st.drawn gp' home.value x) (sym (home_word m m' gp sp (map.home l) same home.room))
              (pic_stays m m' map map st.drawn st.drawn gp gp' home.value _ le (omega arith) (staying_same m m' map st.drawn gp sp same) home.picture);
        };
    apart = at.apart;
    fresh = at.fresh;
    as_loaded = λ q h. same.below q (omega arith) ∙ at.as_loaded q h;
    unmarked_data = at.unmarked_data;
    unmarked_room = λ k h less. at.unmarked_room k (omega arith) less;
  }

  -- output and input are no part of pictures
  pub pictures_console : (p : List Class) (loaded m : Bytes) (map : Map) (st : State) (input output : List ℕ) (gp sp : ℕ) → Pictures p w loaded m map st gp sp
      → Pictures p w loaded m map (record st { input = input; output = output }) gp sp
  pictures_console p loaded m map st input output gp sp at = record {
    objects = at.objects;
    injective = at.injective;
    homes = λ l h. let home = at.homes l h in record { even = home.even; marked = home.marked; room = home.room; value = home.value; stored = home.stored; picture = home.picture };
    apart = at.apart;
    fresh = at.fresh;
    as_loaded = at.as_loaded;
    unmarked_data = at.unmarked_data;
    unmarked_room = at.unmarked_room;
  }

  -- words are pushed
  pub pictures_lower : (p : List Class) (loaded m : Bytes) (map : Map) (st : State) (gp sp sp' : ℕ) → sp' ≤ sp → Pictures p w loaded m map st gp sp → Pictures p w loaded m map st gp sp'
  pictures_lower p loaded m map st gp sp sp' le at = record {
    objects = at.objects;
    injective = at.injective;
    homes = λ l h. let home = at.homes l h in record { even = home.even; marked = home.marked; room = lower (map.home l) home.room; value = home.value; stored = home.stored; picture = home.picture };
    apart = at.apart;
    fresh = at.fresh;
    as_loaded = at.as_loaded;
    unmarked_data = at.unmarked_data;
    unmarked_room = λ k h less. at.unmarked_room k h (omega arith);
  }
    where
      lower : (a : ℕ) → ((HEAP_START ≤ a) × (a + 4 ≤ gp)) ⊎ ((sp ≤ a) × (a + 4 ≤ STACK_END)) → ((HEAP_START ≤ a) × (a + 4 ≤ gp)) ⊎ ((sp' ≤ a) × (a + 4 ≤ STACK_END))
      lower a (inl h) = inl h
      lower a (inr h) = let from = h.0 in inr (omega arith, h.1)

  -- words that are no homes are popped
  pub pictures_higher : (p : List Class) (loaded m : Bytes) (map : Map) (st : State) (gp sp sp' : ℕ) → ((i : ℕ) → sp ≤ 4 * i → 4 * i < sp' → map.marked i ≡ false) → Pictures p w loaded m map st gp sp
      → Pictures p w loaded m map st gp sp'
  pictures_higher p loaded m map st gp sp sp' none at = record {
    objects = at.objects;
    injective = at.injective;
    homes = λ l h. let home = at.homes l h in record { even = home.even; marked = home.marked; room = higher (map.home l) home.even home.marked home.room; value = home.value; stored = home.stored; picture = home.picture };
    apart = at.apart;
    fresh = at.fresh;
    as_loaded = at.as_loaded;
    unmarked_data = at.unmarked_data;
    unmarked_room = λ k h less. room k h less (order k);
  }
    where
      order : (k : ℕ) → (4 * k < sp) ⊎ (sp ≤ 4 * k)
      order k = grind arith

      room : (k : ℕ) → gp ≤ 4 * k → 4 * k < sp' → (4 * k < sp) ⊎ (sp ≤ 4 * k) → map.marked k ≡ false
      room k h less (inl low) = at.unmarked_room k h low
      room k h less (inr high) = none k high less

      sides : (a : ℕ) → (a < sp') ⊎ (sp' ≤ a)
      sides a = grind arith

      by : (a : ℕ) → a % 4 ≡ 0 → map.marked (a / 4) ≡ true → sp ≤ a → a + 4 ≤ STACK_END → (a < sp') ⊎ (sp' ≤ a) → ((HEAP_START ≤ a) × (a + 4 ≤ gp)) ⊎ ((sp' ≤ a) × (a + 4 ≤ STACK_END))
      by a even marked from to (inl less) = absurd (true≢false (sym marked ∙ none (a / 4) (omega arith) (omega arith)))
      by a even marked from to (inr more) = inr (more, to)

      higher : (a : ℕ) → a % 4 ≡ 0 → map.marked (a / 4) ≡ true → ((HEAP_START ≤ a) × (a + 4 ≤ gp)) ⊎ ((sp ≤ a) × (a + 4 ≤ STACK_END)) → ((HEAP_START ≤ a) × (a + 4 ≤ gp)) ⊎ ((sp' ≤ a) × (a + 4 ≤ STACK_END))
      higher a even marked (inl h) = inl h
      higher a even marked (inr h) = by a even marked h.0 h.1 (sides a)
