-- The numbers that code takes from a class table are below 2 ^ 15: offsets of slots, class tags, and the number of tags of a class and its descendants.
use Rattle.std.proofs.Common.{◌≡◌, ℕ, ◌+◌, ◌-◌, ◌*◌, ◌<◌, ◌≤◌, List, [], ◌∷◌, ◌++◌, length, map, flat_map}
use Rattle.std.proofs.Common.{Option, Some, None, Bool, false, refl, ap, ◌∙◌, arith, length-append, ⊎_elim}
use Rattle.std.specs.Prelude.{bytes_eq, nat_lt, position, unwrap_or, if◌then◌else◌}
use Rattle.std.proofs.lemmas.Bool.{cases_lt}
use Rattle.std.proofs.lemmas.List.{get_or_past}
use Rattle.std.proofs.lemmas.List.Quantifiers.{position-Some}
use Rattle.cool_classes.specs.declared.class_id.ClassId.{ClassId}
use Rattle.cool_classes.specs.Chains.{Class, nothing, class_at, parent_of, features_of}
use Rattle.cool_classes.specs.ClimbedChains.{climbed, above, chain}
use Rattle.cool_classes.specs.Features.{basic_methods}
use Rattle.cool_classes.specs.Limits.{KeepsLimits}
use Rattle.cool_layout.specs.Preorder.{preorder, family, tag, last_tag}
use Rattle.cool_layout.specs.Members.{method_name, own_names, with_new, slots_of, slots, slot}
use Rattle.cool_layout.specs.Roots.{IsRooted}
use Rattle.cool_layout.proofs.BasicNames.{five}
use Rattle.cool_layout.proofs.TagRanges.{at_tag, tag_cut, preorder_long, head_first}
use Rattle.cool_emit.proofs.SlotsInLimits.{few_slots}
use Rattle.cool_layout.proofs.Counting.{climb_none}

-- a place that is found is one of the list
place_found : {X : Type 0} (q : X → Bool) (xs : List X) → unwrap_or (position q xs) 0 ≤ length xs
place_found q [] = omega arith
place_found q (x ∷ xs) = by (position q (x ∷ xs)) refl
  where
    by : (o : Option ℕ) → position q (x ∷ xs) ≡ o → unwrap_or o 0 ≤ length (x ∷ xs)
    by None e = omega arith
    by (Some k) e = let low = (position-Some q (x ∷ xs) k x e).0 in omega arith

-- past a table no class has slots

slots_past : (p : List Class) (c : ClassId) → 5 ≤ length p → length p ≤ c.0 → slots p c ≡ []
unfolding above chain
slots_past p c five past =
    let is : class_at p c ≡ nothing = get_or_past p c.0 nothing past in
    let up : parent_of p c ≡ None = ap (λ (x : Class). x.parent) is in
    let high : nat_lt c.0 5 ≡ false = grind arith in
    let own : own_names p c ≡ [] =
    ap (λ (b : Bool). if b then map (λ m. m.name) (basic_methods c.0) else flat_map method_name (features_of p c)) high ∙ ap
    (λ (x : Class). flat_map method_name x.features) is in
    ap (λ (o : Option ClassId). with_new (slots_of p (climbed (length p) p o)) (own_names p c)) up ∙ ap
    (λ (ds : List ClassId). with_new (slots_of p ds) (own_names p c)) (climb_none p (length p))
    ∙ ap (with_new []) own

module _ (p : List Class) (r : IsRooted p) (limits : KeepsLimits p) where
  few_classes : length p ≤ 1005
  few_classes = let low = limits.classes in omega arith

  -- a slot is an offset of 16 bits
  few_slots_anywhere : (c : ClassId) → length (slots p c) ≤ 2000
  few_slots_anywhere c =
      ⊎_elim (λ within. few_slots p r limits c within) (λ past. let none : length (slots p c) ≡ 0 = ap length
      (slots_past p c (five p r.table.basic) past) in omega arith) (cases_lt c.0 (length p))

  pub slot_low : (c : ClassId) (f : List ℕ) → 4 * unwrap_or (slot p c f) 0 < 32768
  slot_low c f = let place = place_found (bytes_eq f) (slots p c) in let few = few_slots_anywhere c in omega arith

  -- so are tags, and how many tags a family has

  pub tag_low : (c : ClassId) → c.0 < length p → tag p c < 32768
  tag_low c within = let low = (at_tag p r c within).0 in let few = few_classes in omega arith

  pub family_low : (c : ClassId) → c.0 < length p → last_tag p c - tag p c + 1 < 32768
  family_low c within =
      let cut = tag_cut p r c within in
      let front = cut.0 in
      let back = cut.1 in
      let all : length (preorder p) ≡ length front + (length (family p c) + length back) =
      ap length cut.2 ∙ length-append front (family p c ++ back) ∙ ap (λ n. length front + n) (length-append (family p c) back) in
      let long : length (preorder p) ≡ length p = preorder_long p r in
      let some : 1 ≤ length (family p c) = (head_first p r c within).2 in
      let few = few_classes in
      omega arith
