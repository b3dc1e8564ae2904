-- The simulation relation is preserved if a value is stored at the address of a variable, if a variable gets a stack word as its address, or if it loses its
-- address.
use Rattle.std.proofs.Common.{◌≡◌, ◌≢◌, ℕ, ◌+◌, ◌/◌, ◌%◌, ◌<◌, ◌≤◌, ◌⊎◌, inl, inr, List, [], ◌∷◌, ◌++◌, length, get_or, true, false, refl, sym, ap, ◌∙◌, subst, arith, true≢false}
use Rattle.std.specs.Prelude.{slice_get, slice_set, Some, nat_eq, if◌then◌else◌}
use Rattle.mips_isa.specs.declared.address_map.TheConstants.{HEAP_START, STACK_END}
use Rattle.mips_isa.specs.Bytes.{Bytes, word, set_word}
use Rattle.cool_classes.specs.Chains.{Class}
use Rattle.cool_runtime.specs.Reaches.{World}
use Rattle.cool_runtime.proofs.Words.{byte_other, word_same, word_other}
use Rattle.cool_meaning.specs.Values.{Value, State}
use Rattle.cool_simulation.specs.Pictures.{Map, Pic, HomeStands, Pictures, Kept, Grown}
use Rattle.cool_simulation.proofs.ground.PicturesStay.{Staying, pic_stays, staying_of, not_grown}
use Rattle.cool_simulation.proofs.ground.ObjectsStay.{if_same, if_other, if_either, set_there, set_other, set_long, got_last, object_stays, home_stays}
use Rattle.std.proofs.lemmas.Bool.{cases_eq}
use Rattle.lists.proofs.ItemsAt.{front_get}
use Rattle.std.proofs.lemmas.List.{length-append}
use Rattle.std.proofs.lemmas.Option.{slice_get_within}

-- the map with a home of a location at an address
abbrev pub homed : Map → ℕ → ℕ → Map
homed map l a = record map { home = λ k. if nat_eq k l then a else map.home k; marked = λ k. if nat_eq k (a / 4) then true else map.marked k }

-- the map where a location has no home any more
abbrev pub dropped : Map → ℕ → Map
dropped map l = record map { home = λ k. if nat_eq k l then 0 else map.home k; marked = λ k. if nat_eq k (map.home l / 4) then false else map.marked k }

module _ (w : World) where
  -- the map only grew, and the mark of the new home stands between heap and stack
  pub homed_grown : (map map1 : Map) (drawn located gp sp l a : ℕ) → Grown map map1 drawn located gp sp → located ≤ l → gp ≤ a → a < sp → a % 4 ≡ 0 → Grown map (homed map1 l a) drawn located gp sp
  homed_grown map map1 drawn located gp sp l a grown le low high even = record {
    address = grown.address;
    class = grown.class;
    locations = grown.locations;
    home = λ k h. if_other k l a (map1.home k) (λ e. omega arith) ∙ grown.home k h;
    below = λ k h. if_other k (a / 4) true (map1.marked k) (λ e. omega arith) ∙ grown.below k h;
    over = λ k h. if_other k (a / 4) true (map1.marked k) (λ e. omega arith) ∙ grown.over k h;
  }

  pub dropped_grown : (map map1 : Map) (drawn located gp sp l : ℕ) → Grown map map1 drawn located gp sp → located ≤ l → gp ≤ map1.home l → map1.home l < sp → map1.home l % 4 ≡ 0
      → Grown map (dropped map1 l) drawn located gp sp
  dropped_grown map map1 drawn located gp sp l grown le low high even = record {
    address = grown.address;
    class = grown.class;
    locations = grown.locations;
    home = λ k h. if_other k l 0 (map1.home k) (λ e. omega arith) ∙ grown.home k h;
    below = λ k h. if_other k (map1.home l / 4) false (map1.marked k) (λ e. omega arith) ∙ grown.below k h;
    over = λ k h. if_other k (map1.home l / 4) false (map1.marked k) (λ e. omega arith) ∙ grown.over k h;
  }

  -- the word of a home that was dropped is unmarked, and the others are as before
  pub dropped_word : (map : Map) (l : ℕ) → (dropped map l).marked (map.home l / 4) ≡ false
  dropped_word map l = if_same (map.home l / 4) (map.home l / 4) false (map.marked (map.home l / 4)) refl

  -- Stores

  order : (a b : ℕ) → (a < b) ⊎ (b ≤ a)
  order a b = grind arith

  apart_by : (q a : ℕ) → a % 4 ≡ 0 → (q / 4 ≡ a / 4 → ⊥) → (q < a) ⊎ (a ≤ q) → (q < a + 4) ⊎ (a + 4 ≤ q) → (q < a) ⊎ (a + 4 ≤ q)
  apart_by q a even other (inl less) more = inl less
  apart_by q a even other (inr near) (inl less) = absurd (other (omega arith))
  apart_by q a even other (inr near) (inr far) = inr far

  words_apart : (a b : ℕ) → a % 4 ≡ 0 → b % 4 ≡ 0 → a ≢ b → (b + 4 ≤ a) ⊎ (a + 4 ≤ b)
  words_apart a b ea eb other = by (order a b) (order b a)
    where
      by : (a < b) ⊎ (b ≤ a) → (b < a) ⊎ (a ≤ b) → (b + 4 ≤ a) ⊎ (a + 4 ≤ b)
      by (inl less) h = inr (omega arith)
      by (inr le) (inl less) = inl (omega arith)
      by (inr le) (inr ge) = absurd (other (omega arith))

  -- a word of a home is stored
  pub store_kept : (p : List Class) (loaded m : Bytes) (map : Map) (st : State) (gp sp l a : ℕ) → Pictures p w loaded m map st gp sp → 0 < map.home l → Kept m (set_word m (map.home l) a) map.marked gp sp
  store_kept p loaded m map st gp sp l a at some =
      let home = at.homes l some in
      let h = map.home l in
      let byte : (q : ℕ) → map.marked (q / 4) ≡ false → set_word m h a q ≡ m q =
      λ q un. byte_other m h a q (apart_by q h home.even (λ e. true≢false (sym home.marked ∙ ap map.marked (sym e) ∙ un)) (order q h) (order q (h + 4))) in
      record { below = λ q less un. byte q un; over = λ q less un. byte q un }

  high_home : (gp sp a : ℕ) → HEAP_START ≤ sp → ((HEAP_START ≤ a) × (a + 4 ≤ gp)) ⊎ ((sp ≤ a) × (a + 4 ≤ STACK_END)) → HEAP_START ≤ a
  high_home gp sp a high (inl h) = h.0
  high_home gp sp a high (inr h) = let from = h.0 in omega arith

  -- the store with the value set
  pub store_pictures : (p : List Class) (loaded m : Bytes) (map : Map) (st : State) (gp sp l a : ℕ) (v : Value) → HEAP_START ≤ sp → Pictures p w loaded m map st gp sp → 0 < map.home l → a < 4294967296
      → Pic w m map st.drawn gp v a → Pictures p w loaded (set_word m (map.home l) a) map (record st { store = slice_set st.store l v }) gp sp
  store_pictures p loaded m map st gp sp l a v high at some fits pic =
      let kept = store_kept p loaded m map st gp sp l a at some in
      let m' = set_word m (map.home l) a in
      let stay = staying_of w m m' map map st.drawn (length st.store) gp sp kept (not_grown w map st.drawn (length st.store) gp sp) in
      let long : length (slice_set st.store l v) ≡ length st.store = set_long st.store l v in
      let up = high_home gp sp (map.home l) high (at.homes l some).room in
      record {
        objects = λ i less. object_stays w p m m' map map st.drawn gp gp i (omega arith) less stay (λ j few. refl) (at.objects i less);
        injective = at.injective;
        homes = λ k there. by stay k there (cases_eq k l);
        apart = at.apart;
        fresh = λ k h. at.fresh k (omega arith);
        as_loaded = λ q h. byte_other m (map.home l) a q (inl (omega arith)) ∙ at.as_loaded q h;
        unmarked_data = at.unmarked_data;
        unmarked_room = at.unmarked_room;
      }
    where
      s' : State
      s' = record st { store = slice_set st.store l v }

      by : Staying m (set_word m (map.home l) a) map map st.drawn gp → (k : ℕ) → 0 < map.home k → (k ≡ l) ⊎ (k ≢ l) → HomeStands w (set_word m (map.home l) a) map s' gp sp k
      by stay k there (inl same) =
          let home = at.homes k there in
          let word_is : word (set_word m (map.home l) a) (map.home k) ≡ a = ap (λ i. word (set_word m (map.home l) a) (map.home i)) same ∙ word_same m (map.home l) a fits in
          record {
            even = home.even;
            marked = home.marked;
            room = home.room;
            value = v;
            stored = subst (λ i. slice_get (slice_set st.store l v) i ≡ Some v) (sym same) (set_there st.store l v (at.homes l some).value (at.homes l some).stored);
            picture = subst (λ x. Pic w (set_word m (map.home l) a) map st.drawn gp v x) (sym word_is)
                (pic_stays w m (set_word m (map.home l) a) map map st.drawn st.drawn gp gp v a (omega arith) (omega arith) stay pic);
          }
      by stay k there (inr other) =
          let home = at.homes k there in
          home_stays w m (set_word m (map.home l) a) map map st s' gp gp sp sp k (omega arith) (omega arith) (omega arith) stay refl home.marked (set_other st.store l k v other)
          (word_other m (map.home l) (map.home k) a (words_apart (map.home l) (map.home k) (at.homes l some).even home.even (λ e. other (at.apart k l there (sym e))))) home

  -- New homes

  homed_stays : (m : Bytes) (map : Map) (drawn gp l a : ℕ) → gp ≤ a → a % 4 ≡ 0 → Staying m m map (homed map l a) drawn gp
  homed_stays m map drawn gp l a low even = record {
    bytes = λ q h un. refl;
    marks = λ k h. if_other k (a / 4) true (map.marked k) (λ e. omega arith);
    address = λ i h. refl;
    class = λ i h. refl;
    locations = λ i h. refl;
  }

  -- a picture of any value stays one
  pub homed_pic : (m : Bytes) (map : Map) (drawn gp l a : ℕ) (u : Value) (b : ℕ) → gp ≤ a → a % 4 ≡ 0 → Pic w m map drawn gp u b → Pic w m (homed map l a) drawn gp u b
  homed_pic m map drawn gp l a u b low even pic = pic_stays w m m map (homed map l a) drawn drawn gp gp u b (omega arith) (omega arith) (homed_stays m map drawn gp l a low even) pic

  -- a pushed word that pictures a value becomes the home of a new location
  pub homed_pictures : (p : List Class) (loaded m : Bytes) (map : Map) (st : State) (gp sp a : ℕ) (v : Value) → HEAP_START ≤ gp → gp ≤ sp → Pictures p w loaded m map st gp sp → a % 4 ≡ 0 → sp ≤ a → a + 4 ≤ STACK_END
      → map.marked (a / 4) ≡ false → Pic w m map st.drawn gp v (word m a) → Pictures p w loaded m (homed map (length st.store) a) (record st { store = st.store ++ v ∷ [] }) gp sp
  homed_pictures p loaded m map st gp sp a v start room at even from to free pic =
      let stay = homed_stays m map st.drawn gp (length st.store) a (omega arith) even in
      let long : length (st.store ++ v ∷ []) ≡ length st.store + 1 = length-append st.store (v ∷ []) in
      record {
        objects = λ i less.
            let object = at.objects i less in
            let low = object.from in
            object_stays w p m m map map' st.drawn gp gp i (omega arith) less stay
            (λ j few. let is = object.homes j few in let none = at.fresh (get_or (map.locations i) j 0) in if_other _ (length st.store) a _ (λ e. let zero_is = none (omega arith) in omega arith)) object;
        injective = at.injective;
        homes = λ k there. by stay k there (cases_eq k (length st.store));
        apart = λ l k there e. apart_at l k there e (cases_eq l (length st.store)) (cases_eq k (length st.store));
        fresh = λ k h. if_other k (length st.store) a (map.home k) (λ e. omega arith) ∙ at.fresh k (omega arith);
        as_loaded = at.as_loaded;
        unmarked_data = λ k h. if_other k (a / 4) true (map.marked k) (λ e. omega arith) ∙ at.unmarked_data k h;
        unmarked_room = λ k h less. if_other k (a / 4) true (map.marked k) (λ e. omega arith) ∙ at.unmarked_room k h less;
      }
    where
      map' : Map
      map' = homed map (length st.store) a

      s' : State
      s' = record st { store = st.store ++ v ∷ [] }

      there_is : (k : ℕ) → k ≡ length st.store → map'.home k ≡ a
      there_is k same = if_same k (length st.store) a (map.home k) same

      as_before : (k : ℕ) → k ≢ length st.store → map'.home k ≡ map.home k
      as_before k other = if_other k (length st.store) a (map.home k) other

      by : Staying m m map map' st.drawn gp → (k : ℕ) → 0 < map'.home k → (k ≡ length st.store) ⊎ (k ≢ length st.store) → HomeStands w m map' s' gp sp k
      by stay k there (inl same) =
          let e = there_is k same in
          record {
            even = omega arith;
            marked = ap (λ x. map'.marked (x / 4)) e ∙ if_same (a / 4) (a / 4) true (map.marked (a / 4)) refl;
            room = inr (omega arith, omega arith);
            value = v;
            stored = subst (λ i. slice_get (st.store ++ v ∷ []) i ≡ Some v) (sym same) (got_last st.store v);
            picture = subst (λ x. Pic w m map' st.drawn gp v (word m x)) (sym e) (pic_stays w m m map map' st.drawn st.drawn gp gp v (word m a) (omega arith) (omega arith) stay pic);
          }
      by stay k there (inr other) =
          let e = as_before k other in
          let home = at.homes k (omega arith) in
          home_stays w m m map map' st s' gp gp sp sp k (omega arith) (omega arith) (omega arith) stay e (if_either (nat_eq (map.home k / 4) (a / 4)) true (map.marked (map.home k / 4)) home.marked)
          (front_get st.store (v ∷ []) k (slice_get_within st.store k home.value home.stored)) refl home

      -- no other location is at home there
      no_other : (k : ℕ) → 0 < map.home k → map.home k ≡ a → ⊥
      no_other k there e = true≢false (sym (at.homes k there).marked ∙ ap (λ x. map.marked (x / 4)) e ∙ free)

      apart_at : (l k : ℕ) → 0 < map'.home l → map'.home l ≡ map'.home k → (l ≡ length st.store) ⊎ (l ≢ length st.store) → (k ≡ length st.store) ⊎ (k ≢ length st.store) → l ≡ k
      apart_at l k there e (inl a1) (inl a2) = omega arith
      apart_at l k there e (inl a1) (inr b2) = let h = there_is l a1 in let g = as_before k b2 in absurd (no_other k (omega arith) (omega arith))
      apart_at l k there e (inr b1) (inl a2) = let h = as_before l b1 in let g = there_is k a2 in absurd (no_other l (omega arith) (omega arith))
      apart_at l k there e (inr b1) (inr b2) = let h = as_before l b1 in let g = as_before k b2 in at.apart l k (omega arith) (omega arith)

  -- Homes that are left

  dropped_stays : (m : Bytes) (map : Map) (drawn gp l : ℕ) → gp ≤ map.home l → map.home l % 4 ≡ 0 → Staying m m map (dropped map l) drawn gp
  dropped_stays m map drawn gp l low even = record {
    bytes = λ q h un. refl;
    marks = λ k h. if_other k (map.home l / 4) false (map.marked k) (λ e. omega arith);
    address = λ i h. refl;
    class = λ i h. refl;
    locations = λ i h. refl;
  }

  pub dropped_pic : (m : Bytes) (map : Map) (drawn gp l : ℕ) (u : Value) (b : ℕ) → gp ≤ map.home l → map.home l % 4 ≡ 0 → Pic w m map drawn gp u b → Pic w m (dropped map l) drawn gp u b
  dropped_pic m map drawn gp l u b low even pic = pic_stays w m m map (dropped map l) drawn drawn gp gp u b (omega arith) (omega arith) (dropped_stays m map drawn gp l low even) pic

  -- a home on the stack is left
  pub dropped_pictures : (p : List Class) (loaded m : Bytes) (map : Map) (st : State) (gp sp l : ℕ) → gp ≤ sp → Pictures p w loaded m map st gp sp → 0 < map.home l → sp ≤ map.home l
      → Pictures p w loaded m (dropped map l) st gp sp
  dropped_pictures p loaded m map st gp sp l room at some from =
      let even = (at.homes l some).even in
      let stay = dropped_stays m map st.drawn gp l (omega arith) even in
      record {
        objects = λ i less.
            let object = at.objects i less in
            let to = object.to in
            object_stays w p m m map map' st.drawn gp gp i (omega arith) less stay
            (λ j few. let is = object.homes j few in if_other _ l 0 _ (λ e. let same = ap map.home e in omega arith)) object;
        injective = at.injective;
        homes = λ k there. by stay k there (cases_eq k l);
        apart = λ i k there e. apart_at i k there e (cases_eq i l) (cases_eq k l);
        fresh = λ k h. if_either (nat_eq k l) 0 (map.home k) (at.fresh k h);
        as_loaded = at.as_loaded;
        unmarked_data = λ k h. if_either (nat_eq k (map.home l / 4)) false (map.marked k) (at.unmarked_data k h);
        unmarked_room = λ k h less. if_either (nat_eq k (map.home l / 4)) false (map.marked k) (at.unmarked_room k h less);
      }
    where
      map' : Map
      map' = dropped map l

      none : (k : ℕ) → k ≡ l → map'.home k ≡ 0
      none k same = if_same k l 0 (map.home k) same

      as_before : (k : ℕ) → k ≢ l → map'.home k ≡ map.home k
      as_before k other = if_other k l 0 (map.home k) other

      by : Staying m m map map' st.drawn gp → (k : ℕ) → 0 < map'.home k → (k ≡ l) ⊎ (k ≢ l) → HomeStands w m map' st gp sp k
      by stay k there (inl same) = let e = none k same in absurd (omega arith)
      by stay k there (inr other) =
          let e = as_before k other in
          let home = at.homes k (omega arith) in
          let even = home.even in
          let even' = (at.homes l some).even in
          let apart = at.apart k l (omega arith) in
          home_stays w m m map map' st st gp gp sp sp k (omega arith) (omega arith) (omega arith) stay e
          (if_other (map.home k / 4) (map.home l / 4) false (map.marked (map.home k / 4)) (λ same. other (apart (omega arith))) ∙ home.marked) refl refl home

      apart_at : (i k : ℕ) → 0 < map'.home i → map'.home i ≡ map'.home k → (i ≡ l) ⊎ (i ≢ l) → (k ≡ l) ⊎ (k ≢ l) → i ≡ k
      apart_at i k there e (inl a1) h = let z = none i a1 in absurd (omega arith)
      apart_at i k there e (inr b1) (inl a2) = let z = none k a2 in absurd (omega arith)
      apart_at i k there e (inr b1) (inr b2) = let h = as_before i b1 in let g = as_before k b2 in at.apart i k (omega arith) (omega arith)
