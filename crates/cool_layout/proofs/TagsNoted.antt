-- Each step of the loop of `tags_of` stores the position of the next class in preorder as the tag of this class.
use Rattle.std.proofs.Common.{◌≡◌, ◌≢◌, ℕ, ◌+◌, ◌<◌, List, length, get_or, set, sym, ap, ◌∙◌, subst, arith, inl, inr}
use Rattle.std.proofs.lemmas.List.{get_or_read, get_or-set_same, get_or-set_other}
use Rattle.std.proofs.lemmas.Bool.{cases_eq}
use Rattle.cool_classes.specs.declared.class_id.ClassId.{ClassId}
use Rattle.cool_classes.specs.Chains.{Class, class_number}
use Rattle.cool_layout.specs.Preorder.{preorder, tag}
use Rattle.cool_layout.specs.Roots.{IsRooted}
use Rattle.cool_layout.proofs.TagRanges.{tag_at, at_tag, preorder_long}

-- the class that is read at a place of the preorder
pub class_read : (p : List Class) → IsRooted p → (order : List ClassId) → order ≡ preorder p → (k : ℕ) → k < length p → (d : ClassId) → d ≡ get_or order k d → (d.0 < length p) × (tag p d ≡ k)
class_read p r order is k low d read =
    let long : length (preorder p) ≡ length p = preorder_long p r in
    let same : length order ≡ length (preorder p) = ap length is in
    let at : d ≡ get_or (preorder p) k (class_number 0) = get_or_read order k d (omega arith) read (class_number 0) ∙ ap (λ (xs : List ClassId). get_or xs k (class_number 0)) is in
    let found = tag_at p r k low in
    (subst (λ (x : ClassId). x.0 < length p) (sym at) found.1, ap (tag p) at ∙ found.0)

abbrev pub AreNoted : List Class → ℕ → List ℕ → Type 0
AreNoted p n tags = (c : ClassId) → c.0 < length p → tag p c < n → get_or tags c.0 0 ≡ tag p c

-- one class more
pub noted : (p : List Class) → IsRooted p → (tags : List ℕ) (n : ℕ) (d : ClassId) → length tags ≡ length p → n < length p → d.0 < length p → tag p d ≡ n → AreNoted p n tags → AreNoted p (n + 1) (set tags d.0 n)
noted p r tags n d long low d_in is before c c_in less = elim (cases_eq c.0 d.0) [
  | inl e ↦
      let same : c ≡ d = (λ i. record { 0 = e i }) in
      ap (λ k. get_or (set tags d.0 n) k 0) e ∙ get_or-set_same tags d.0 n 0 (omega arith) ∙ sym is ∙ ap (tag p) (sym same)
  | inr other ↦
      let different : tag p c ≢ n = λ e. other (ap (λ (x : ClassId). x.0) (one c d c_in d_in (e ∙ sym is))) in
      get_or-set_other tags d.0 c.0 n 0 other ∙ before c c_in (omega arith)
]
  where
    one : (c d : ClassId) → c.0 < length p → d.0 < length p → tag p c ≡ tag p d → c ≡ d
    one c d c_in d_in e = sym (at_tag p r c c_in).1 ∙ ap (λ k. get_or (preorder p) k (class_number 0)) e ∙ (at_tag p r d d_in).1
