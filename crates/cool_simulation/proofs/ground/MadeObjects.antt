-- After a new object is written at the end of the heap, memory represents the state with this object, whose attributes have the object's words as addresses,
-- and all earlier data is unchanged.
use Rattle.std.proofs.Common.{◌≡◌, ℕ, ◌+◌, ◌-◌, ◌*◌, ◌/◌, ◌%◌, ◌<◌, ◌≤◌, ◌⊎◌, inl, inr, List, ◌++◌, length, get_or, sym, ap, ◌∙◌, subst, arith, length-append}
use Rattle.std.specs.Prelude.{slice_get, Some}
use Rattle.mips_isa.specs.declared.address_map.TheConstants.{HEAP_START, STACK_END}
use Rattle.mips_isa.specs.Bytes.{Bytes, word}
use Rattle.cool_classes.specs.declared.class_id.ClassId.{ClassId}
use Rattle.cool_classes.specs.Chains.{Class}
use Rattle.cool_classes.specs.LawfulTables.{MayInherit}
use Rattle.cool_runtime.specs.Reaches.{World}
use Rattle.cool_runtime.specs.Contents.{HeadAt, Same}
use Rattle.cool_runtime.proofs.Words.{word_equal}
use Rattle.cool_runtime.proofs.MadeStrings.{head_moved}
use Rattle.cool_layout.specs.Preorder.{tag}
use Rattle.cool_layout.specs.Labels.{dispatch_table}
use Rattle.cool_meaning.specs.Values.{Value, Obj, State}
use Rattle.cool_meaning.specs.Lookups.{attributes}
use Rattle.cool_simulation.specs.Pictures.{Map, Pic, ObjectStands, HomeStands, Pictures, Kept, Grown}
use Rattle.cool_simulation.proofs.ground.LargerMaps.{numbers, numbers_long, number_at, instead_there, instead_other, with_object, with_values, home_new, home_old, home_past, marked_new, marked_below, marked_behind, stored_new, head_as}
use Rattle.cool_simulation.proofs.ground.PicturesStay.{Staying, pic_stays, kept_same}
use Rattle.lists.proofs.ItemsAt.{after_get, there_is}

module _ (p : List Class) (w : World) (loaded m m' : Bytes) (map : Map) (st : State) (c : ClassId) (vs : List Value) (gp gp' sp : ℕ)
    (from : HEAP_START ≤ gp) (even : gp % 4 ≡ 0) (ends : gp' ≡ gp + 16 + 4 * length vs) (under : gp' ≤ sp)
    (within : c.0 < length p) (plain : MayInherit c) (long : length vs ≡ length (attributes p c))
    (same : Same m m' gp sp) (head : HeadAt m' (gp + 4) (tag p c) (3 + length vs) (w.place (dispatch_table p c)))
    (values : (j : ℕ) (v : Value) → slice_get vs j ≡ Some v → Pic w m map st.drawn gp v (word m' (gp + 16 + 4 * j)))
    (at : Pictures p w loaded m map st gp sp)
  where
    abbrev pub map' : Map
    map' = with_object map c st (length vs) gp

    abbrev pub n : ℕ
    n = length st.store

    abbrev pub k : ℕ
    k = length vs

    pub object_staying : Staying m m' map map' st.drawn gp
    object_staying = record {
      bytes = λ q h un. same.below q h;
      marks = λ i h. marked_below (gp + 16) (gp + 16 + 4 * k) map.marked i (omega arith);
      address = λ i h. instead_other st.drawn (gp + 4) map.address i h;
      class = λ i h. instead_other st.drawn c map.class i h;
      locations = λ i h. instead_other st.drawn (numbers n k) map.locations i h;
    }

    home_kept : (l : ℕ) → 0 < map.home l → map'.home l ≡ map.home l
    home_kept l some = by order
      where
        order : (l < n) ⊎ (n ≤ l)
        order = grind arith

        by : (l < n) ⊎ (n ≤ l) → map'.home l ≡ map.home l
        by (inl less) = home_old n k (gp + 16) map.home l less
        by (inr past) = let none = at.fresh l past in absurd (omega arith)

    old_object : (i : ℕ) → i < st.drawn → ObjectStands p w m map gp i → ObjectStands p w m' map' gp' i
    old_object i less o =
        let ea : map'.address i ≡ map.address i = object_staying.address i less in
        let ec : map'.class i ≡ map.class i = object_staying.class i less in
        let el : map'.locations i ≡ map.locations i = object_staying.locations i less in
        let en : length (map'.locations i) ≡ length (map.locations i) = ap length el in
        let to = o.to in
        let start = o.from in
        let round = o.even in
        let many = o.long in
        record {
          within = subst (λ (x : ClassId). x.0 < length p) (sym ec) o.within;
          plain = subst MayInherit (sym ec) o.plain;
          long = en ∙ many ∙ ap (λ (x : ClassId). length (attributes p x)) (sym ec);
          even = omega arith;
          from = omega arith;
          to = omega arith;
          head =
              head_as m' (map.address i) (map'.address i) _ _ _ _ _ _ ea (ap (tag p) ec) (ap (λ x. 3 + x) en) (ap (λ (x : ClassId). w.place (dispatch_table p x)) ec)
              (head_moved m m' (map.address i) _ _ _ (omega arith) (λ q low high. same.below q (omega arith)) o.head);
          unmarked = λ q low high. object_staying.marks (q / 4) (omega arith) ∙ o.unmarked q (omega arith) (omega arith);
          homes = λ j few.
              let h = o.homes j (omega arith) in
              let e : get_or (map'.locations i) j 0 ≡ get_or (map.locations i) j 0 = ap (λ (xs : List ℕ). get_or xs j 0) el in
              ap map'.home e ∙ (home_kept (get_or (map.locations i) j 0) (omega arith) ∙ (h ∙ ap (λ x. x + 12 + 4 * j) (sym ea)));
        }

    new_object : ObjectStands p w m' map' gp' st.drawn
    new_object =
        let ea : map'.address st.drawn ≡ gp + 4 = instead_there st.drawn (gp + 4) map.address in
        let ec : map'.class st.drawn ≡ c = instead_there st.drawn c map.class in
        let el : map'.locations st.drawn ≡ numbers n k = instead_there st.drawn (numbers n k) map.locations in
        let en : length (map'.locations st.drawn) ≡ k = ap length el ∙ numbers_long n k in
        record {
          within = subst (λ (x : ClassId). x.0 < length p) (sym ec) within;
          plain = subst MayInherit (sym ec) plain;
          long = en ∙ long ∙ ap (λ (x : ClassId). length (attributes p x)) (sym ec);
          even = omega arith;
          from = omega arith;
          to = omega arith;
          head = head_as m' (gp + 4) (map'.address st.drawn) _ _ _ _ _ _ ea (ap (tag p) ec) (ap (λ x. 3 + x) en) (ap (λ (x : ClassId). w.place (dispatch_table p x)) ec) head;
          unmarked = λ q low high. marked_below (gp + 16) (gp + 16 + 4 * k) map.marked (q / 4) (omega arith) ∙ at.unmarked_room (q / 4) (omega arith) (omega arith);
          homes = λ j few.
              let e : get_or (map'.locations st.drawn) j 0 ≡ n + j = ap (λ (xs : List ℕ). get_or xs j 0) el ∙ number_at n k j (omega arith) in
              let back : n + j - n ≡ j = omega arith in
              ap map'.home e ∙ (home_new n k (gp + 16) map.home (n + j) (omega arith) (omega arith) ∙ omega arith);
        }

    -- a location is an old one, or the object's at this position
    data Place (l : ℕ) : Type 0 where
      Old : map.home l ≡ map'.home l → 0 < map.home l → Place l
      New : (j : ℕ) → j < k → l ≡ n + j → map'.home l ≡ gp + 16 + 4 * j → Place l

    placed : (l : ℕ) → 0 < map'.home l → Place l
    placed l some = by order
      where
        order : (l < n) ⊎ ((n ≤ l) × (l < n + k)) ⊎ (n + k ≤ l)
        order = grind arith

        by : (l < n) ⊎ ((n ≤ l) × (l < n + k)) ⊎ (n + k ≤ l) → Place l
        by (inl less) = let e = home_old n k (gp + 16) map.home l less in Old (sym e) (omega arith)
        by (inr (inl (low, high))) = New (l - n) (omega arith) (omega arith) (home_new n k (gp + 16) map.home l low high)
        by (inr (inr past)) = let e = home_past n k (gp + 16) map.home l past in Old (sym e) (omega arith)

    old_home : (l : ℕ) → map.home l ≡ map'.home l → 0 < map.home l → HomeStands w m' map' (with_values st vs) gp' sp l
    old_home l e some =
        let h = at.homes l some in
        let round = h.even in
        record {
          even = omega arith;
          marked = ap (λ x. map'.marked (x / 4)) (sym e) ∙ (stays (map.home l) h.even h.room ∙ h.marked);
          room = subst (λ x. ((HEAP_START ≤ x) × (x + 4 ≤ gp')) ⊎ ((sp ≤ x) × (x + 4 ≤ STACK_END))) e (room (map.home l) h.room);
          value = h.value;
          stored = after_get st.store vs l h.value h.stored;
          picture = subst (λ x. Pic w m' map' (st.drawn + 1) gp' h.value (word m' x)) e
              (subst (λ x. Pic w m' map' (st.drawn + 1) gp' h.value x) (sym (same_there (map.home l) h.room))
              (pic_stays w m m' map map' st.drawn (st.drawn + 1) gp gp' h.value (word m (map.home l)) (omega arith) (omega arith) object_staying h.picture));
        }
      where
        room : (a : ℕ) → ((HEAP_START ≤ a) × (a + 4 ≤ gp)) ⊎ ((sp ≤ a) × (a + 4 ≤ STACK_END)) → ((HEAP_START ≤ a) × (a + 4 ≤ gp')) ⊎ ((sp ≤ a) × (a + 4 ≤ STACK_END))
        room a (inl h) = let to = h.1 in inl (h.0, omega arith)
        room a (inr h) = inr h

        same_there : (a : ℕ) → ((HEAP_START ≤ a) × (a + 4 ≤ gp)) ⊎ ((sp ≤ a) × (a + 4 ≤ STACK_END)) → word m' a ≡ word m a
        same_there a (inl h) = word_equal m m' a (λ q low high. let to = h.1 in same.below q (omega arith))
        same_there a (inr h) = word_equal m m' a (λ q low high. let start = h.0 in same.over q (omega arith))

        stays : (a : ℕ) → a % 4 ≡ 0 → ((HEAP_START ≤ a) × (a + 4 ≤ gp)) ⊎ ((sp ≤ a) × (a + 4 ≤ STACK_END)) → map'.marked (a / 4) ≡ map.marked (a / 4)
        stays a round (inl h) = let to = h.1 in marked_below (gp + 16) (gp + 16 + 4 * k) map.marked (a / 4) (omega arith)
        stays a round (inr h) = let start = h.0 in marked_behind (gp + 16) (gp + 16 + 4 * k) map.marked (a / 4) (omega arith)

    new_home : (l j : ℕ) → j < k → l ≡ n + j → map'.home l ≡ gp + 16 + 4 * j → HomeStands w m' map' (with_values st vs) gp' sp l
    new_home l j less is e =
        let (v, there) = there_is vs j less in
        let back : l - n ≡ j = omega arith in
        record {
          even = omega arith;
          marked = ap (λ x. map'.marked (x / 4)) e ∙ marked_new (gp + 16) (gp + 16 + 4 * k) map.marked ((gp + 16 + 4 * j) / 4) (omega arith) (omega arith);
          room = inl (omega arith, omega arith);
          value = v;
          stored = stored_new st.store vs l (omega arith) ∙ (ap (slice_get vs) back ∙ there);
          picture = subst (λ x. Pic w m' map' (st.drawn + 1) gp' v (word m' x)) (sym e)
              (pic_stays w m m' map map' st.drawn (st.drawn + 1) gp gp' v (word m' (gp + 16 + 4 * j)) (omega arith) (omega arith) object_staying (values j v there));
        }

    old_apart : (l : ℕ) → 0 < map.home l → (map.home l + 4 ≤ gp) ⊎ (sp ≤ map.home l)
    old_apart l some = by (at.homes l some).room
      where
        by : ((HEAP_START ≤ map.home l) × (map.home l + 4 ≤ gp)) ⊎ ((sp ≤ map.home l) × (map.home l + 4 ≤ STACK_END)) → (map.home l + 4 ≤ gp) ⊎ (sp ≤ map.home l)
        by (inl h) = inl h.1
        by (inr h) = inr h.0

    apart : (l i : ℕ) → map'.home l ≡ map'.home i → Place l → Place i → l ≡ i
    apart l i e (Old x s) (Old y t) = at.apart l i s (x ∙ (e ∙ sym y))
    apart l i e (New j less is x) (New j' less' is' y) = omega arith
    apart l i e (Old x s) (New j less is y) = absurd (let h = old_apart l s in grind arith)
    apart l i e (New j less is x) (Old y s) = absurd (let h = old_apart i s in grind arith)

    object_there : (i : ℕ) → (i < st.drawn) ⊎ (i ≡ st.drawn) → ObjectStands p w m' map' gp' i
    object_there i (inl less) = old_object i less (at.objects i less)
    object_there i (inr is) = subst (λ x. ObjectStands p w m' map' gp' x) (sym is) new_object

    injective : (i j : ℕ) → (i < st.drawn) ⊎ (i ≡ st.drawn) → (j < st.drawn) ⊎ (j ≡ st.drawn) → map'.address i ≡ map'.address j → i ≡ j
    injective i j (inl less) (inl less') e = at.injective i j less less' (sym (object_staying.address i less) ∙ (e ∙ object_staying.address j less'))
    injective i j (inr is) (inr is') e = is ∙ sym is'
    injective i j (inl less) (inr is) e = let a = object_staying.address i less in let b : map'.address j ≡ gp + 4 = ap map'.address is ∙ instead_there st.drawn (gp + 4) map.address in let to = (at.objects i less).to in absurd (omega arith)
    injective i j (inr is) (inl less) e = let a = object_staying.address j less in let b : map'.address i ≡ gp + 4 = ap map'.address is ∙ instead_there st.drawn (gp + 4) map.address in let to = (at.objects j less).to in absurd (omega arith)

    order_of : (i : ℕ) → i < st.drawn + 1 → (i < st.drawn) ⊎ (i ≡ st.drawn)
    order_of i h = grind arith

    home_there : (l : ℕ) → Place l → HomeStands w m' map' (with_values st vs) gp' sp l
    home_there l (Old e some) = old_home l e some
    home_there l (New j less is e) = new_home l j less is e

    -- memory pictures the state with the object
    pub made_pictures : Pictures p w loaded m' map' (with_values st vs) gp' sp
    made_pictures = record {
      objects = λ i h. object_there i (order_of i h);
      injective = λ i j h g e. injective i j (order_of i h) (order_of j g) e;
      homes = λ l h. home_there l (placed l h);
      apart = λ l i h e. apart l i e (placed l h) (placed i (subst (λ x. 0 < x) e h));
      fresh = λ l h. let e : length (st.store ++ vs) ≡ n + k = length-append st.store vs in home_past n k (gp + 16) map.home l (omega arith) ∙ at.fresh l (omega arith);
      as_loaded = λ q h. same.below q (omega arith) ∙ at.as_loaded q h;
      unmarked_data = λ i h. marked_below (gp + 16) (gp + 16 + 4 * k) map.marked i (omega arith) ∙ at.unmarked_data i h;
      unmarked_room = λ i low high. marked_behind (gp + 16) (gp + 16 + 4 * k) map.marked i (omega arith) ∙ at.unmarked_room i (omega arith) high;
    }

    pub made_kept : Kept m m' map.marked gp sp
    made_kept = kept_same w m m' map.marked gp sp sp (omega arith) same

    pub made_grown : Grown map map' st.drawn (length st.store) gp sp
    made_grown = record {
      address = object_staying.address;
      class = object_staying.class;
      locations = object_staying.locations;
      home = λ l h. home_old n k (gp + 16) map.home l h;
      below = λ i h. marked_below (gp + 16) (gp + 16 + 4 * k) map.marked i (omega arith);
      over = λ i h. marked_behind (gp + 16) (gp + 16 + 4 * k) map.marked i (omega arith);
    }

    -- and the object is the picture of its value
    pub made_value : Pic w m' map' (st.drawn + 1) gp' (Obj c st.drawn (numbers n k)) (gp + 4)
    made_value = (sym (instead_there st.drawn (gp + 4) map.address), omega arith, sym (instead_there st.drawn c map.class), sym (instead_there st.drawn (numbers n k) map.locations))
