-- At the return of a call, memory still represents the state of the source when the argument words no longer hold variables and the frame is free again.
use Rattle.std.proofs.Common.{◌≡◌, ℕ, ◌+◌, ◌-◌, ◌*◌, ◌/◌, ◌%◌, ◌<◌, ◌≤◌, ◌⊎◌, inl, inr, List, false, refl, sym, ap, ◌∙◌, subst, arith, true≢false}
use Rattle.std.specs.Prelude.{if◌then◌else◌}
use Rattle.mips_isa.specs.declared.address_map.TheConstants.{HEAP_START}
use Rattle.mips_isa.specs.Bytes.{Bytes, word}
use Rattle.cool_classes.specs.Chains.{Class}
use Rattle.cool_runtime.specs.Reaches.{World}
use Rattle.cool_meaning.specs.Values.{State}
use Rattle.cool_simulation.specs.Pictures.{Map, Pic, HomeStands, Pictures}
use Rattle.cool_simulation.proofs.ground.Between.{is_between, between, below_it, behind_it, is_in}
use Rattle.cool_simulation.proofs.ground.PicturesStay.{Staying, pic_stays}
use Rattle.cool_simulation.proofs.ground.ObjectsStay.{object_remapped}
use Rattle.cool_simulation.proofs.calls.Frames.{argument_home, without_arguments, either}

-- Facts at the return: the frame's words from low to sp are no homes, and those from sp on are homes of these locations.
pub record AtReturn (map : Map) (t : State) (gp low sp located count : ℕ) : Type 0 where
  pub from : HEAP_START ≤ gp
  pub room : gp ≤ low
  pub high : low ≤ sp
  pub even : sp % 4 ≡ 0
  pub frame : (k : ℕ) → low ≤ 4 * k → 4 * k < sp → map.marked k ≡ false
  pub arguments : (l : ℕ) → located ≤ l → l < located + count → map.home l ≡ argument_home located count sp l

module _ (p : List Class) (w : World) (loaded m : Bytes) (map : Map) (t : State) (gp low sp located count : ℕ) (pictures : Pictures p w loaded m map t gp low) (ends : AtReturn map t gp low sp located count) where
  pub home_stays : (l : ℕ) → is_between located (located + count) l ≡ false → (without_arguments map located count low (sp + 4 * count)).home l ≡ map.home l
  home_stays l e = ap (λ b. if b then 0 else map.home l) e

  pub mark_stays : (k : ℕ) → is_between low (sp + 4 * count) (4 * k) ≡ false → (without_arguments map located count low (sp + 4 * count)).marked k ≡ map.marked k
  mark_stays k e = ap (λ b. if b then false else map.marked k) e

  mark_gone : (k : ℕ) → low ≤ 4 * k → 4 * k < sp + 4 * count → (without_arguments map located count low (sp + 4 * count)).marked k ≡ false
  mark_gone k from to = ap (λ b. if b then false else map.marked k) (between low (sp + 4 * count) (4 * k) from to)

  pub left_staying : Staying m m map (without_arguments map located count low (sp + 4 * count)) t.drawn gp
  left_staying =
      let room = ends.room in
      record {
        bytes = λ q less un. refl;
        marks = λ k less. mark_stays k (below_it low (sp + 4 * count) (4 * k) (omega arith));
        address = λ i less. refl;
        class = λ i less. refl;
        locations = λ i less. refl;
      }

  order : (a b : ℕ) → (a < b) ⊎ (b ≤ a)
  order a b = grind arith

  -- a home of the stack is above the arguments
  above : (l : ℕ) → 0 < map.home l → is_between located (located + count) l ≡ false → low ≤ map.home l → sp + 4 * count ≤ map.home l
  above l home out from = elim (order (map.home l) sp) [
    | inl less ↦
        let even = h.even in
        absurd (true≢false (sym h.marked ∙ ends.frame (map.home l / 4) (omega arith) (omega arith)))
    | inr more ↦
        elim (order (map.home l) (sp + 4 * count)) [
          | inl less ↦
              let even = h.even in
              let even_sp = ends.even in
              let j = count - ((map.home l - sp) / 4 + 1) in
              let k = located + (count - ((map.home l - sp) / 4 + 1)) in
              let there = ends.arguments k (omega arith) (omega arith) in
              let same : l ≡ k = pictures.apart l k home (omega arith) in
              absurd (true≢false (sym (between located (located + count) l (omega arith) (omega arith)) ∙ out))
          | inr far ↦ far
        ]
  ]
    where
      h : HomeStands w m map t gp low l
      h = pictures.homes l home

  left_home : (l : ℕ) → 0 < map.home l → is_between located (located + count) l ≡ false → HomeStands w m (without_arguments map located count low (sp + 4 * count)) t gp (sp + 4 * count) l
  left_home l home out =
      let h = pictures.homes l home in
      let same = home_stays l out in
      let even = h.even in
      let room = ends.room in
      let high = ends.high in
      let outside : is_between low (sp + 4 * count) (4 * (map.home l / 4)) ≡ false = elim h.room [
        | inl x ↦ let y = x.1 in below_it low (sp + 4 * count) (4 * (map.home l / 4)) (omega arith)
        | inr x ↦ let y = above l home out x.0 in behind_it low (sp + 4 * count) (4 * (map.home l / 4)) (omega arith)
      ] in
      record {
        even = omega arith;
        marked = ap (λ b. (without_arguments map located count low (sp + 4 * count)).marked (b / 4)) same ∙ (mark_stays (map.home l / 4) outside ∙ h.marked);
        room = elim h.room [ inl x ↦ let y = x.1 in let z = x.0 in inl (omega arith, omega arith) | inr x ↦ let y = above l home out x.0 in let z = x.1 in inr (omega arith, omega arith) ];
        value = h.value;
        stored = h.stored;
        picture = subst (λ a. Pic w m (without_arguments map located count low (sp + 4 * count)) t.drawn gp h.value a) (sym (ap (word m) same))
            (pic_stays w m m map (without_arguments map located count low (sp + 4 * count)) t.drawn t.drawn gp gp h.value (word m (map.home l)) (omega arith) (omega arith) left_staying h.picture);
      }

  homes_left : (l : ℕ) → 0 < (without_arguments map located count low (sp + 4 * count)).home l → HomeStands w m (without_arguments map located count low (sp + 4 * count)) t gp (sp + 4 * count) l
  homes_left l home = elim (either located (located + count) l) [
    | inl e ↦ let none : (without_arguments map located count low (sp + 4 * count)).home l ≡ 0 = ap (λ b. if b then 0 else map.home l) e in absurd (omega arith)
    | inr e ↦ let same = home_stays l e in left_home l (omega arith) e
  ]

  apart_left : (l k : ℕ) → 0 < (without_arguments map located count low (sp + 4 * count)).home l → (without_arguments map located count low (sp + 4 * count)).home l ≡ (without_arguments map located count low (sp + 4 * count)).home k → l ≡ k
  apart_left l k home same = elim (either located (located + count) l) [
    | inl e ↦ let none : (without_arguments map located count low (sp + 4 * count)).home l ≡ 0 = ap (λ b. if b then 0 else map.home l) e in absurd (omega arith)
    | inr e ↦
        elim (either located (located + count) k) [
          | inl f ↦ let none : (without_arguments map located count low (sp + 4 * count)).home k ≡ 0 = ap (λ b. if b then 0 else map.home k) f in absurd (omega arith)
          | inr f ↦ let a = home_stays l e in let b = home_stays k f in pictures.apart l k (omega arith) (sym a ∙ (same ∙ b))
        ]
  ]

  -- homes in the heap stay
  heap_homes : (l : ℕ) → 0 < map.home l → map.home l < gp → (without_arguments map located count low (sp + 4 * count)).home l ≡ map.home l
  heap_homes l home less = elim (either located (located + count) l) [
    | inl e ↦ let (from, to) = is_in located (located + count) l e in let is = ends.arguments l from to in let room = ends.room in let high = ends.high in absurd (omega arith)
    | inr e ↦ home_stays l e
  ]

  -- the memory pictures the state that the call leaves
  pub pictures_left : Pictures p w loaded m (without_arguments map located count low (sp + 4 * count)) t gp (sp + 4 * count)
  pictures_left =
      let room = ends.room in
      let from = ends.from in
      let high = ends.high in
      record {
        objects = λ i less. object_remapped w p m m map (without_arguments map located count low (sp + 4 * count)).home (without_arguments map located count low (sp + 4 * count)).marked t.drawn gp i less left_staying heap_homes (pictures.objects i less);
        injective = pictures.injective;
        homes = homes_left;
        apart = apart_left;
        fresh = λ l more. elim (either located (located + count) l) [
          | inl e ↦ ap (λ b. if b then 0 else map.home l) e
          | inr e ↦ home_stays l e ∙ pictures.fresh l more
        ];
        as_loaded = pictures.as_loaded;
        unmarked_data = λ k less. mark_stays k (below_it low (sp + 4 * count) (4 * k) (omega arith)) ∙ pictures.unmarked_data k less;
        unmarked_room = λ k above' up. elim (order (4 * k) low) [
          | inl less ↦ mark_stays k (below_it low (sp + 4 * count) (4 * k) less) ∙ pictures.unmarked_room k above' less
          | inr more ↦ mark_gone k more up
        ];
      }
