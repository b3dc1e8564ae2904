-- The last tag of a class (the greatest tag among the class and those below it) is one less than the tag of the next class in preorder that is not below it. If
-- there is none, it is the greatest tag of all.
use Rattle.std.proofs.Common.{◌≡◌, ℕ, zero, suc, ◌+◌, ◌-◌, ◌<◌, ◌≤◌, List, [], ◌∷◌, ◌++◌, length, get_or, Option, Some, None, refl, sym, ap, ◌∙◌, subst, arith, length-append}
use Rattle.std.specs.Prelude.{slice_get}
use Rattle.std.proofs.lemmas.Option.{slice_get_within, get_or_from_slice_get}
use Rattle.cool_classes.specs.declared.class_id.ClassId.{ClassId}
use Rattle.cool_classes.specs.Chains.{Class, class_number}
use Rattle.cool_layout.specs.declared.order.Walk.{Walk}
use Rattle.cool_layout.specs.Preorder.{family, preorder, tag, last_tag}
use Rattle.cool_layout.specs.Roots.{IsRooted}
use Rattle.cool_layout.specs.Walks.{IsWalk, AreTagsOf}
use Rattle.cool_layout.proofs.TagRanges.{at_tag, tag_at, tag_cut, preorder_long, head_first}

module _ (p : List Class) (r : IsRooted p) (walk : Walk) (w : IsWalk p walk) (tags : List ℕ) (are : AreTagsOf p tags) (c : ClassId) (within : c.0 < length p) where
  pub tag_low : get_or tags c.0 0 < length walk.next.items
  tag_low =
      let a : get_or tags c.0 0 ≡ tag p c = are.tag_is c within in
      let b : tag p c < length p = (at_tag p r c within).0 in
      let long : length (preorder p) ≡ length p = preorder_long p r in
      let same : length walk.next.items ≡ length walk.order.items = w.same in
      let order : length walk.order.items ≡ length (preorder p) = ap length w.order in
      omega arith

  next_is : get_or walk.next.items (tag p c) None ≡ slice_get (preorder p) (tag p c + length (family p c))
  next_is =
      let at = at_tag p r c within in
      let long : length (preorder p) ≡ length p = preorder_long p r in
      let low : tag p c < length p = at.0 in
      let order : length walk.order.items ≡ length (preorder p) = ap length w.order in
      w.next (tag p c) (omega arith) ∙ ap (λ (xs : List ClassId). slice_get (preorder p) (tag p c + length (family p (get_or xs (tag p c) (class_number 0))))) w.order
      ∙ ap (λ (d : ClassId). slice_get (preorder p) (tag p c + length (family p d))) at.1

  pub read_next : (o : Option ClassId) → o ≡ get_or walk.next.items (get_or tags c.0 0) o → o ≡ slice_get (preorder p) (tag p c + length (family p c))
  read_next o e =
      let long : length walk.next.items ≡ length walk.next.items = refl in
      e ∙ defaults walk.next.items (get_or tags c.0 0) o None tag_low ∙ ap (λ n. get_or walk.next.items n None) (are.tag_is c within) ∙ next_is
    where
      defaults : (xs : List (Option ClassId)) (i : ℕ) (a b : Option ClassId) → i < length xs → get_or xs i a ≡ get_or xs i b
      defaults [] i a b l = absurd (omega arith)
      defaults (x ∷ xs) zero a b l = refl
      defaults (x ∷ xs) (suc i) a b l = defaults xs i a b (omega arith)

  pub some_next : (s : ClassId) → Some s ≡ slice_get (preorder p) (tag p c + length (family p c)) → (s.0 < length tags) × (1 ≤ get_or tags s.0 0) × (get_or tags s.0 0 - 1 ≡ last_tag p c)
  some_next s e =
      let k : ℕ = tag p c + length (family p c) in
      let long : length (preorder p) ≡ length p = preorder_long p r in
      let low : k < length (preorder p) = slice_get_within (preorder p) k s (sym e) in
      let is : get_or (preorder p) k (class_number 0) ≡ s = get_or_from_slice_get (preorder p) k s (class_number 0) (sym e) in
      let at = tag_at p r k (omega arith) in
      let tag_s : tag p s ≡ k = ap (tag p) (sym is) ∙ at.0 in
      let s_in : s.0 < length p = subst (λ (d : ClassId). d.0 < length p) is at.1 in
      let read : get_or tags s.0 0 ≡ tag p s = are.tag_is s s_in in
      let some : 1 ≤ length (family p c) = (head_first p r c within).2 in
      let same : length tags ≡ length p = are.same in
      (omega arith, omega arith, omega arith)

  pub none_next : None ≡ slice_get (preorder p) (tag p c + length (family p c)) → length p - 1 ≡ last_tag p c
  none_next e =
      let k : ℕ = tag p c + length (family p c) in
      let long : length (preorder p) ≡ length p = preorder_long p r in
      let cut = tag_cut p r c within in
      let front = cut.0 in
      let back = cut.1 in
      let all : length (preorder p) ≡ length front + (length (family p c) + length back) =
      ap length cut.2 ∙ length-append front (family p c ++ back) ∙ ap (λ n. length front + n) (length-append (family p c) back) in
      let first : tag p c ≡ length front = cut.3 in
      let past : length (preorder p) ≤ k = beyond (preorder p) k (sym e) in
      omega arith
    where
      beyond : (xs : List ClassId) (i : ℕ) → slice_get xs i ≡ None → length xs ≤ i
      beyond [] i e = omega arith
      beyond (x ∷ xs) zero e = absurd (cc)
      beyond (x ∷ xs) (suc i) e = let h : length xs ≤ i = beyond xs i e in omega arith
