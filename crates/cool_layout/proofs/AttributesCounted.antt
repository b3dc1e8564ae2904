-- The number that `counts_of` stores at the tag of a class's parent is the number of attributes that the class inherits, which is 0 for a class without a
-- parent.
use Rattle.std.proofs.Common.{◌≡◌, ◌≢◌, ℕ, ◌+◌, ◌<◌, ◌≤◌, List, [], ◌∷◌, ◌++◌, length, get_or, take, Some, None, refl, sym, ap, ◌∙◌, arith, inl, inr}
use Rattle.std.proofs.lemmas.Bool.{cases_eq}
use Rattle.std.proofs.lemmas.List.{length_push, get_or_push, get_or_append_left}
use Rattle.cool_syntax.specs.declared.file_tree.Feature.{Feature}
use Rattle.cool_syntax.specs.declared.file_tree.Feature.TheVariants.{Method, Attribute}
use Rattle.cool_syntax.specs.declared.file_tree.AttributeDef.{AttributeDef}
use Rattle.cool_syntax.specs.declared.file_tree.MethodDef.{MethodDef}
use Rattle.cool_classes.specs.declared.class_id.ClassId.{ClassId}
use Rattle.cool_classes.specs.Chains.{Class, parent_of, features_of}
use Rattle.cool_classes.specs.ClimbedChains.{chain}
use Rattle.cool_classes.specs.Limits.{KeepsLimits}
use Rattle.cool_layout.specs.Members.{attributes}
use Rattle.cool_layout.specs.Offsets.{AreCounts, above_count, attribute_count, attributes_above, offsets_among}
use Rattle.cool_layout.specs.Preorder.{tag}
use Rattle.cool_layout.specs.Roots.{IsRooted}
use Rattle.cool_layout.specs.SlotTables.{class_of, IsAbove}
use Rattle.cool_layout.proofs.AttributePlaces.{attribute_pushed, counted, method_pushed}
use Rattle.cool_layout.proofs.ShortChains.{chain_is}
use Rattle.cool_layout.proofs.TagRanges.{at_tag}

-- a class has as many attributes above as the class of its parent's tag has
pub above_by_tag : (p : List Class) → IsRooted p → (c : ClassId) → c.0 < length p → (j : ℕ) → IsAbove p (tag p c) (Some j) → above_count p c ≡ length (attributes p (class_of p j))
above_by_tag p r c within j up = ap (attributes_above p) (ap (parent_of p) (sym (at_tag p r c within).1) ∙ up.1)

-- a class with no parent has none above
pub none_above : (p : List Class) → IsRooted p → (c : ClassId) → c.0 < length p → IsAbove p (tag p c) None → above_count p c ≡ 0
none_above p r c within top = ap (attributes_above p) (ap (parent_of p) (sym (at_tag p r c within).1) ∙ top)

-- a class has no more attributes than the limit
pub few : (p : List Class) → IsRooted p → KeepsLimits p → (c : ClassId) → c.0 < length p → above_count p c + attribute_count (features_of p c) ≤ 2000
few p r limits c within =
    let all : length (attributes p c) ≡ above_count p c + attribute_count (features_of p c) = counted p r c within in
    let most : length (attributes p c) ≤ 2000 = limits.attributes c (chain p c) within (chain_is p r c within) in
    omega arith

-- one feature more
pub attribute_counted : (i : ℕ) (fs : List Feature) (f : Feature) (a : AttributeDef) → i < length fs → f ≡ get_or fs i f → f ≡ Attribute a → attribute_count (take (i + 1) fs) ≡ attribute_count (take i fs) + 1
attribute_counted i fs f a low read is =
    let more : attribute_count (take i fs) + 1 ≡ 0 + attribute_count (take (i + 1) fs) = (attribute_pushed 0 i fs f a low read is (offsets_among 0 (take i fs)) (attribute_count (take i fs)) refl (omega arith)).1 in
    omega arith

pub method_counted : (i : ℕ) (fs : List Feature) (f : Feature) (m : MethodDef) → i < length fs → f ≡ get_or fs i f → f ≡ Method m → attribute_count (take (i + 1) fs) ≡ attribute_count (take i fs)
method_counted i fs f m low read is =
    let more : attribute_count (take i fs) ≡ 0 + attribute_count (take (i + 1) fs) = (method_pushed 0 i fs f m low read is (offsets_among 0 (take i fs)) (attribute_count (take i fs)) refl (omega arith)).1 in
    omega arith

-- one class more
pub counts_more : (p : List Class) (counts : List ℕ) (n count : ℕ) → length counts ≡ n → AreCounts p counts → count ≡ length (attributes p (class_of p n)) → AreCounts p (counts ++ count ∷ [])
counts_more p counts n count same are is k d less = elim (cases_eq k n) [
  | inl e ↦
      ap (λ j. get_or (counts ++ count ∷ []) j d) e ∙ get_or_push counts count d n same ∙ is ∙ ap (λ j. length (attributes p (class_of p j))) (sym e)
  | inr other ↦
      let l : length (counts ++ count ∷ []) ≡ length counts + 1 = length_push counts count in
      let low : k < length counts = apart k n (length counts) same other (omega arith) in
      get_or_append_left counts (count ∷ []) d k low ∙ are k d low
]
  where
    apart : (k n m : ℕ) → m ≡ n → k ≢ n → k < m + 1 → k < m
    apart k n m same other less = omega arith
