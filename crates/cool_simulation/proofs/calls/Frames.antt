-- At the entry of a call, the stack words of its arguments become the addresses of new variables; at its return these variables lose their addresses.
use Rattle.std.proofs.Common.{◌≡◌, ℕ, zero, suc, ◌+◌, ◌-◌, ◌*◌, ◌/◌, ◌%◌, ◌<◌, ◌≤◌, ◌⊎◌, inl, inr, List, [], ◌∷◌, ◌++◌, length, Bool as Truth, true, false, refl, sym, ap, ◌∙◌, subst, arith, true≢false}
use Rattle.std.specs.Prelude.{slice_get, Some, if◌then◌else◌}
use Rattle.mips_isa.specs.declared.address_map.TheConstants.{HEAP_START, STACK_END}
use Rattle.mips_isa.specs.Bytes.{Bytes, word}
use Rattle.cool_classes.specs.Chains.{Class}
use Rattle.cool_runtime.specs.Reaches.{World}
use Rattle.cool_runtime.proofs.Words.{word_equal}
use Rattle.cool_meaning.specs.Values.{Value, State}
use Rattle.cool_simulation.specs.Pictures.{Map, Pic, HomeStands, Pictures}
use Rattle.cool_simulation.proofs.ground.Between.{is_between, between, below_it, behind_it, is_in}
use Rattle.cool_simulation.proofs.ground.PicturesStay.{Staying, pic_stays}
use Rattle.cool_simulation.proofs.ground.ObjectsStay.{object_remapped}
use Rattle.lists.proofs.ItemsAt.{after_get, there_is}
use Rattle.std.proofs.lemmas.List.{length-append}

-- the home of location number located + j, argument number j of so many: the last one is lowest
abbrev pub argument_home : ℕ → ℕ → ℕ → ℕ → ℕ
argument_home located count sp l = sp + 4 * (count - (l - located + 1))

abbrev pub with_arguments : Map → ℕ → ℕ → ℕ → Map
with_arguments map located count sp = record map {
  home = λ l. if is_between located (located + count) l then argument_home located count sp l else map.home l;
  marked = λ k. if is_between sp (sp + 4 * count) (4 * k) then true else map.marked k;
}

-- the same without these locations, and without marks between two words of the stack
abbrev pub without_arguments : Map → ℕ → ℕ → ℕ → ℕ → Map
without_arguments map located count low high = record map {
  home = λ l. if is_between located (located + count) l then 0 else map.home l;
  marked = λ k. if is_between low high (4 * k) then false else map.marked k;
}

-- Lists

pub got_back : {X : Type 0} (xs ys : List X) (l j : ℕ) (x : X) → l ≡ length xs + j → slice_get ys j ≡ Some x → slice_get (xs ++ ys) l ≡ Some x
got_back [] ys l j x n e = let same : j ≡ l = omega arith in subst (λ i. slice_get ys i ≡ Some x) same e
got_back (z ∷ xs) ys zero j x n e = absurd (omega arith)
got_back (z ∷ xs) ys (suc l) j x n e = got_back xs ys l j x (omega arith) e

-- Facts at the entry: the arguments picture values and are no homes, and the memory changes only within the frame's three words.
pub record AtEntry (w : World) (m m' : Bytes) (map : Map) (drawn gp sp : ℕ) (vs : List Value) : Type 0 where
  pub from : HEAP_START ≤ gp
  pub room : gp + 12 ≤ sp
  pub to : sp + 4 * length vs ≤ STACK_END
  pub even : sp % 4 ≡ 0
  pub values : (j : ℕ) (v : Value) → slice_get vs j ≡ Some v → Pic w m map drawn gp v (word m (sp + 4 * (length vs - (j + 1))))
  pub unmarked : (i : ℕ) → sp ≤ 4 * i → 4 * i < sp + 4 * length vs → map.marked i ≡ false
  pub below : (q : ℕ) → q + 12 < sp → m' q ≡ m q
  pub over : (q : ℕ) → sp ≤ q → m' q ≡ m q

pub either : (a b x : ℕ) → (is_between a b x ≡ true) ⊎ (is_between a b x ≡ false)
either a b x = by (is_between a b x) refl
  where
    by : (t : Truth) → is_between a b x ≡ t → (is_between a b x ≡ true) ⊎ (is_between a b x ≡ false)
    by true e = inl e
    by false e = inr e

module _ (p : List Class) (w : World) (loaded m m' : Bytes) (map : Map) (s : State) (gp sp : ℕ) (vs : List Value) (pictures : Pictures p w loaded m map s gp sp) (entry : AtEntry w m m' map s.drawn gp sp vs) where
  located : ℕ
  located = length s.store

  pub home_new : (l : ℕ) → length s.store ≤ l → l < length s.store + length vs → (with_arguments map (length s.store) (length vs) sp).home l ≡ argument_home (length s.store) (length vs) sp l
  home_new l from to = ap (λ b. if b then argument_home (length s.store) (length vs) sp l else map.home l) (between (length s.store) (length s.store + length vs) l from to)

  home_out : (l : ℕ) → is_between (length s.store) (length s.store + length vs) l ≡ false → (with_arguments map (length s.store) (length vs) sp).home l ≡ map.home l
  home_out l e = ap (λ b. if b then argument_home (length s.store) (length vs) sp l else map.home l) e

  pub home_old : (l : ℕ) → l < length s.store → (with_arguments map (length s.store) (length vs) sp).home l ≡ map.home l
  home_old l less = home_out l (below_it (length s.store) (length s.store + length vs) l less)

  mark_in : (k : ℕ) → sp ≤ 4 * k → 4 * k < sp + 4 * length vs → (with_arguments map (length s.store) (length vs) sp).marked k ≡ true
  mark_in k from to = ap (λ b. if b then true else map.marked k) (between sp (sp + 4 * length vs) (4 * k) from to)

  pub mark_out : (k : ℕ) → is_between sp (sp + 4 * length vs) (4 * k) ≡ false → (with_arguments map (length s.store) (length vs) sp).marked k ≡ map.marked k
  mark_out k e = ap (λ b. if b then true else map.marked k) e

  pub staying : Staying m m' map (with_arguments map (length s.store) (length vs) sp) s.drawn gp
  staying =
      let room = entry.room in
      record {
        bytes = λ q less un. entry.below q (omega arith);
        marks = λ k less. mark_out k (below_it sp (sp + 4 * length vs) (4 * k) (omega arith));
        address = λ i less. refl;
        class = λ i less. refl;
        locations = λ i less. refl;
      }

  -- a location with a home is one of the store
  pub homed : (l : ℕ) → 0 < map.home l → l < length s.store
  homed l home = by (order l (length s.store))
    where
      order : (a b : ℕ) → (a < b) ⊎ (b ≤ a)
      order a b = grind arith

      by : (l < length s.store) ⊎ (length s.store ≤ l) → l < length s.store
      by (inl less) = less
      by (inr more) = let none = pictures.fresh l more in absurd (omega arith)

  old_home : (l : ℕ) → 0 < map.home l → (with_arguments map (length s.store) (length vs) sp).home l ≡ map.home l → HomeStands w m' (with_arguments map (length s.store) (length vs) sp) (record s { store = s.store ++ vs }) gp (sp - 12) l
  old_home l home same =
      let h = pictures.homes l home in
      let even = h.even in
      let marked = h.marked in
      let a = map.home l in
      let room = entry.room in
      let whole : map.home l ≡ 4 * (map.home l / 4) = omega arith in
      let out : is_between sp (sp + 4 * length vs) (4 * (map.home l / 4)) ≡ false = out_of (either sp (sp + 4 * length vs) (4 * (map.home l / 4))) marked in
      let same_bytes : (q : ℕ) → map.home l ≤ q → q < map.home l + 4 → m' q ≡ m q = λ q from to. elim h.room [ inl x ↦ let y = x.1 in entry.below q (omega arith) | inr x ↦ let y = x.0 in entry.over q (omega arith) ] in
      let same_word : word m' ((with_arguments map (length s.store) (length vs) sp).home l) ≡ word m (map.home l) = ap (word m') same ∙ word_equal m m' (map.home l) same_bytes in
      record {
        even = omega arith;
        marked = ap (λ b. (with_arguments map (length s.store) (length vs) sp).marked (b / 4)) same ∙ (mark_out (map.home l / 4) out ∙ marked);
        room = elim h.room [ inl x ↦ let y = x.1 in let z = x.0 in inl (omega arith, omega arith) | inr x ↦ let y = x.1 in let z = x.0 in inr (omega arith, omega arith) ];
        value = h.value;
        stored = after_get s.store vs l h.value h.stored;
        picture = subst (λ a. Pic w m' (with_arguments map (length s.store) (length vs) sp) s.drawn gp h.value a) (sym same_word)
            (pic_stays w m m' map (with_arguments map (length s.store) (length vs) sp) s.drawn s.drawn gp gp h.value (word m (map.home l)) (omega arith) (omega arith) staying h.picture);
      }
    where
      out_of : (is_between sp (sp + 4 * length vs) (4 * (map.home l / 4)) ≡ true) ⊎ (is_between sp (sp + 4 * length vs) (4 * (map.home l / 4)) ≡ false) → map.marked (map.home l / 4) ≡ true
          → is_between sp (sp + 4 * length vs) (4 * (map.home l / 4)) ≡ false
      out_of (inl e) marked = let (from, to) = is_in sp (sp + 4 * length vs) (4 * (map.home l / 4)) e in absurd (true≢false (sym marked ∙ entry.unmarked (map.home l / 4) from to))
      out_of (inr e) marked = e

  new_home : (l : ℕ) → length s.store ≤ l → l < length s.store + length vs → HomeStands w m' (with_arguments map (length s.store) (length vs) sp) (record s { store = s.store ++ vs }) gp (sp - 12) l
  new_home l from to =
      let same = home_new l from to in
      let even = entry.even in
      let room = entry.room in
      let high = entry.to in
      let j = l - length s.store in
      let a = sp + 4 * (length vs - (j + 1)) in
      let (v, got) = there_is vs (l - length s.store) (omega arith) in
      let pic = entry.values (l - length s.store) v got in
      let same_word : word m' ((with_arguments map (length s.store) (length vs) sp).home l) ≡ word m (sp + 4 * (length vs - (l - length s.store + 1))) = ap (word m') same ∙ word_equal m m' (argument_home (length s.store) (length vs) sp l) (λ q low up. entry.over q (omega arith)) in
      record {
        even = omega arith;
        marked = ap (λ b. (with_arguments map (length s.store) (length vs) sp).marked (b / 4)) same ∙ mark_in (argument_home (length s.store) (length vs) sp l / 4) (omega arith) (omega arith);
        room = inr (omega arith, omega arith);
        value = v;
        stored = got_back s.store vs l (l - length s.store) v (omega arith) got;
        picture = subst (λ a. Pic w m' (with_arguments map (length s.store) (length vs) sp) s.drawn gp v a) (sym same_word)
            (pic_stays w m m' map (with_arguments map (length s.store) (length vs) sp) s.drawn s.drawn gp gp v _ (omega arith) (omega arith) staying pic);
      }

  homes_entered : (l : ℕ) → 0 < (with_arguments map (length s.store) (length vs) sp).home l → HomeStands w m' (with_arguments map (length s.store) (length vs) sp) (record s { store = s.store ++ vs }) gp (sp - 12) l
  homes_entered l home = elim (either (length s.store) (length s.store + length vs) l) [
    | inl e ↦ let (from, to) = is_in (length s.store) (length s.store + length vs) l e in new_home l from to
    | inr e ↦ let same = home_out l e in old_home l (omega arith) same
  ]

  -- an old home is none of the words of the arguments
  old_apart : (l k : ℕ) → 0 < map.home l → length s.store ≤ k → k < length s.store + length vs → map.home l ≡ argument_home (length s.store) (length vs) sp k → ⊥
  old_apart l k home from to same =
      let h = pictures.homes l home in
      let even = h.even in
      true≢false (sym h.marked ∙ entry.unmarked (map.home l / 4) (omega arith) (omega arith))

  apart_entered : (l k : ℕ) → 0 < (with_arguments map (length s.store) (length vs) sp).home l → (with_arguments map (length s.store) (length vs) sp).home l ≡ (with_arguments map (length s.store) (length vs) sp).home k → l ≡ k
  apart_entered l k home same = elim (either (length s.store) (length s.store + length vs) l) [
    | inl e ↦ let (from, to) = is_in (length s.store) (length s.store + length vs) l e in
        elim (either (length s.store) (length s.store + length vs) k) [
          | inl f ↦ let (from', to') = is_in (length s.store) (length s.store + length vs) k f in let a = home_new l from to in let b = home_new k from' to' in omega arith
          | inr f ↦ let a = home_new l from to in let b = home_out k f in absurd (old_apart k l (omega arith) from to (sym b ∙ (sym same ∙ a)))
        ]
    | inr e ↦
        elim (either (length s.store) (length s.store + length vs) k) [
          | inl f ↦ let (from', to') = is_in (length s.store) (length s.store + length vs) k f in let a = home_out l e in let b = home_new k from' to' in absurd (old_apart l k (omega arith) from' to' (sym a ∙ (same ∙ b)))
          | inr f ↦ let a = home_out l e in let b = home_out k f in pictures.apart l k (omega arith) (sym a ∙ (same ∙ b))
        ]
  ]

  -- the memory at the body pictures the state with the arguments at new locations
  pub pictures_entered : Pictures p w loaded m' (with_arguments map (length s.store) (length vs) sp) (record s { store = s.store ++ vs }) gp (sp - 12)
  pictures_entered =
      let room = entry.room in
      let from = entry.from in
      record {
        objects = λ i less. object_remapped w p m m' map (with_arguments map (length s.store) (length vs) sp).home (with_arguments map (length s.store) (length vs) sp).marked s.drawn gp i less staying
            (λ l home low. home_old l (homed l home)) (pictures.objects i less);
        injective = pictures.injective;
        homes = homes_entered;
        apart = apart_entered;
        fresh = λ l more. let both = length-append s.store vs in home_out l (behind_it (length s.store) (length s.store + length vs) l (omega arith)) ∙ pictures.fresh l (omega arith);
        as_loaded = λ q less. entry.below q (omega arith) ∙ pictures.as_loaded q less;
        unmarked_data = λ k less. mark_out k (below_it sp (sp + 4 * length vs) (4 * k) (omega arith)) ∙ pictures.unmarked_data k less;
        unmarked_room = λ k low up. mark_out k (below_it sp (sp + 4 * length vs) (4 * k) (omega arith)) ∙ pictures.unmarked_room k low (omega arith);
      }
