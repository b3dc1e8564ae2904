-- An object, and the address of a variable, are still represented correctly after memory changes only as `Staying` permits (below the end of the heap, only
-- variables change).
use Rattle.std.proofs.Common.{◌≡◌, ◌≢◌, ℕ, zero, suc, ◌+◌, ◌*◌, ◌/◌, ◌<◌, ◌≤◌, ◌⊎◌, inl, inr, List, [], ◌∷◌, ◌++◌, length, get_or, Bool as Truth, true, false, refl, sym, ap, ◌∙◌, subst, arith}
use Rattle.std.specs.Prelude.{slice_get, slice_set, Some, nat_eq, if◌then◌else◌}
use Rattle.mips_isa.specs.declared.address_map.TheConstants.{HEAP_START, STACK_END}
use Rattle.mips_isa.specs.Bytes.{Bytes, word}
use Rattle.cool_classes.specs.declared.class_id.ClassId.{ClassId}
use Rattle.cool_classes.specs.Chains.{Class}
use Rattle.cool_classes.specs.LawfulTables.{MayInherit}
use Rattle.cool_runtime.specs.Reaches.{World}
use Rattle.cool_runtime.specs.Contents.{HeadAt}
use Rattle.cool_runtime.proofs.MadeStrings.{head_moved}
use Rattle.cool_layout.specs.Preorder.{tag}
use Rattle.cool_layout.specs.Labels.{dispatch_table}
use Rattle.cool_meaning.specs.Values.{State}
use Rattle.cool_meaning.specs.Lookups.{attributes}
use Rattle.cool_simulation.specs.Pictures.{Map, Pic, ObjectStands, HomeStands, Unmarked}
use Rattle.cool_simulation.proofs.ground.PicturesStay.{Staying, pic_stays, unmarked_stays}

-- Numbers that differ

pub if_same : {A : Type 0} (a b : ℕ) (x y : A) → a ≡ b → (if nat_eq a b then x else y) ≡ x
if_same a b x y e = let same : nat_eq a b ≡ true = grind arith in ap (λ t. if t then x else y) same

pub if_other : {A : Type 0} (a b : ℕ) (x y : A) → a ≢ b → (if nat_eq a b then x else y) ≡ y
if_other a b x y e = let other : nat_eq a b ≡ false = grind arith in ap (λ t. if t then x else y) other

pub if_either : {A : Type 0} (t : Truth) (x y : A) → y ≡ x → (if t then x else y) ≡ x
if_either true x y e = refl
if_either false x y e = e

-- Stores

pub set_there : {X : Type 0} (xs : List X) (i : ℕ) (x y : X) → slice_get xs i ≡ Some y → slice_get (slice_set xs i x) i ≡ Some x
set_there [] i x y e = absurd cc
set_there (z ∷ xs) zero x y e = refl
set_there (z ∷ xs) (suc i) x y e = set_there xs i x y e

pub set_other : {X : Type 0} (xs : List X) (i j : ℕ) (x : X) → j ≢ i → slice_get (slice_set xs i x) j ≡ slice_get xs j
set_other [] i j x e = refl
set_other (z ∷ xs) zero zero x e = absurd (e refl)
set_other (z ∷ xs) zero (suc j) x e = refl
set_other (z ∷ xs) (suc i) zero x e = refl
set_other (z ∷ xs) (suc i) (suc j) x e = set_other xs i j x (λ same. e (ap suc same))

pub set_long : {X : Type 0} (xs : List X) (i : ℕ) (x : X) → length (slice_set xs i x) ≡ length xs
set_long [] i x = refl
set_long (z ∷ xs) zero x = refl
set_long (z ∷ xs) (suc i) x = ap suc (set_long xs i x)

pub got_last : {X : Type 0} (xs : List X) (x : X) → slice_get (xs ++ x ∷ []) (length xs) ≡ Some x
got_last [] x = refl
got_last (z ∷ xs) x = got_last xs x

module _ (w : World) where
  -- an object, where its locations keep their homes
  pub object_stays : (p : List Class) (m m' : Bytes) (map map' : Map) (drawn gp gp' i : ℕ) → gp ≤ gp' → i < drawn → Staying m m' map map' drawn gp
      → ((j : ℕ) → j < length (map.locations i) → map'.home (get_or (map.locations i) j 0) ≡ map.home (get_or (map.locations i) j 0)) → ObjectStands p w m map gp i → ObjectStands p w m' map' gp' i
  object_stays p m m' map map' drawn gp gp' i le less stay homes at =
      let ea : map'.address i ≡ map.address i = stay.address i less in
      let ec : map'.class i ≡ map.class i = stay.class i less in
      let el : map'.locations i ≡ map.locations i = stay.locations i less in
      let long : length (map'.locations i) ≡ length (map.locations i) = ap length el in
      let from = at.from in
      let to = at.to in
      let even = at.even in
      let head : HeadAt m' (map.address i) (tag p (map.class i)) (3 + length (map.locations i)) (w.place (dispatch_table p (map.class i))) =
      head_moved m m' (map.address i) _ _ _ (omega arith) (λ q low high. stay.bytes q (omega arith) (at.unmarked q low high)) at.head in
      record {
        within = subst (λ (c : ClassId). c.0 < length p) (sym ec) at.within;
        plain = subst MayInherit (sym ec) at.plain;
        long = long ∙ at.long ∙ ap (λ (c : ClassId). length (attributes p c)) (sym ec);
        even = omega arith;
        from = omega arith;
        to = omega arith;
        head =
            subst (λ a. HeadAt m' a (tag p (map'.class i)) (3 + length (map'.locations i)) (w.place (dispatch_table p (map'.class i)))) (sym ea)
            (subst (λ (c : ClassId). HeadAt m' (map.address i) (tag p c) (3 + length (map'.locations i)) (w.place (dispatch_table p c))) (sym ec)
            (subst (λ (n : ℕ). HeadAt m' (map.address i) (tag p (map.class i)) (3 + n) (w.place (dispatch_table p (map.class i)))) (sym long) head));
        unmarked = subst (λ a. Unmarked map'.marked a 12) (sym ea) (λ q low high. stay.marks (q / 4) (omega arith) ∙ at.unmarked q low high);
        homes = λ j few.
            ap (λ (ls : List ℕ). map'.home (get_or ls j 0)) el ∙ homes j (omega arith) ∙ at.homes j (omega arith) ∙ ap (λ a. a + 12 + 4 * j) (sym ea);
      }

  room_stays : (gp gp' sp sp' a : ℕ) → gp ≤ gp' → sp' ≤ sp → ((HEAP_START ≤ a) × (a + 4 ≤ gp)) ⊎ ((sp ≤ a) × (a + 4 ≤ STACK_END)) → ((HEAP_START ≤ a) × (a + 4 ≤ gp')) ⊎ ((sp' ≤ a) × (a + 4 ≤ STACK_END))
  room_stays gp gp' sp sp' a le ge (inl h) = let to = h.1 in inl (h.0, omega arith)
  room_stays gp gp' sp sp' a le ge (inr h) = let from = h.0 in inr (omega arith, h.1)

  -- a home whose word and value are as before
  pub home_stays : (m m' : Bytes) (map map' : Map) (s s' : State) (gp gp' sp sp' l : ℕ) → gp ≤ gp' → sp' ≤ sp → s.drawn ≤ s'.drawn → Staying m m' map map' s.drawn gp → map'.home l ≡ map.home l
      → map'.marked (map.home l / 4) ≡ true → slice_get s'.store l ≡ slice_get s.store l → word m' (map.home l) ≡ word m (map.home l) → HomeStands w m map s gp sp l → HomeStands w m' map' s' gp' sp' l
  home_stays m m' map map' s s' gp gp' sp sp' l le ge more stay there marked stored same at =
      let even = at.even in
      record {
        even = omega arith;
        marked = ap (λ a. map'.marked (a / 4)) there ∙ marked;
        room = subst (λ a. ((HEAP_START ≤ a) × (a + 4 ≤ gp')) ⊎ ((sp' ≤ a) × (a + 4 ≤ STACK_END))) (sym there) (room_stays gp gp' sp sp' (map.home l) le ge at.room);
        value = at.value;
        stored = stored ∙ at.stored;
        picture =
            subst (λ a. Pic w m' map' s'.drawn gp' at.value a) (sym (ap (word m') there ∙ same))
            (pic_stays w m m' map map' s.drawn s'.drawn gp gp' at.value (word m (map.home l)) le more stay at.picture);
      }

  -- the same if only homes and marks are others
  pub object_remapped : (p : List Class) (m m' : Bytes) (map : Map) (home' : ℕ → ℕ) (marked' : ℕ → Truth) (drawn gp i : ℕ) → i < drawn → Staying m m' map (record map { home = home'; marked = marked' }) drawn gp
      → ((l : ℕ) → 0 < map.home l → map.home l < gp → home' l ≡ map.home l) → ObjectStands p w m map gp i → ObjectStands p w m' (record map { home = home'; marked = marked' }) gp i
  object_remapped p m m' map home' marked' drawn gp i less stay homes at =
      let to = at.to in
      let from = at.from in
      let a = map.address i in
      let same : (q : ℕ) → a ≤ q + 4 → q < a + 12 → m' q ≡ m q = λ q low high. stay.bytes q (omega arith) (at.unmarked q low high) in
      record {
        within = at.within;
        plain = at.plain;
        long = at.long;
        even = at.even;
        from = at.from;
        to = at.to;
        head = head_moved m m' a _ _ _ (omega arith) same at.head;
        unmarked = unmarked_stays w m m' map (record map { home = home'; marked = marked' }) drawn gp a 12 stay (omega arith) at.unmarked;
        homes = λ j few. let h = at.homes j few in homes _ (omega arith) (omega arith) ∙ h;
      }
