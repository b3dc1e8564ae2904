-- The attributes of a class are those of its parent and then its own, and each of them exists in the class table.
use Rattle.std.proofs.Common.{◌≡◌, ◌≢◌, ℕ, ◌+◌, ◌<◌, List, [], ◌∷◌, ◌++◌, length, get_or, Some, None, sym, ap, ◌∙◌, arith, inl, inr}
use Rattle.std.specs.List.{AllByRecursion}
use Rattle.std.specs.Global.{Vec}
use Rattle.std.proofs.lemmas.Bool.{cases_eq}
use Rattle.std.proofs.lemmas.List.{length_push, get_or_push, get_or_append_left}
use Rattle.cool_classes.specs.declared.class_id.ClassId.{ClassId}
use Rattle.cool_classes.specs.declared.method.AttributeRef.{AttributeRef}
use Rattle.cool_classes.specs.Chains.{Class, parent_of, features_of}
use Rattle.cool_classes.specs.Features.{own_attributes, HasAttribute}
use Rattle.cool_classes.specs.ClimbedChains.{chain}
use Rattle.cool_classes.proofs.AttributesOfChains.{attributes_have}
use Rattle.cool_layout.specs.AttributeLists.{AreAttributes}
use Rattle.cool_layout.specs.Members.{attributes}
use Rattle.cool_layout.specs.Roots.{IsRooted}
use Rattle.cool_layout.specs.SlotTables.{class_of, IsAbove}
use Rattle.cool_layout.proofs.ShortChains.{chain_in, chain_is}
use Rattle.cool_layout.proofs.AttributePlaces.{attributes_step, attributes_top}
use Rattle.lists.proofs.AllItems.{all_at}

-- the attributes of a class are there
pub attributes_there : (p : List Class) → IsRooted p → (c : ClassId) → c.0 < length p → AllByRecursion (HasAttribute p) (attributes p c)
attributes_there p r c within = attributes_have p (chain p c) (λ k d less. all_at (λ (e : ClassId). e.0 < length p) (chain p c) k d (chain_in p r (Some c) within (chain p c) (chain_is p r c within)) less)

-- the attributes of a class whose parent has a tag
pub next_is : (p : List Class) → IsRooted p → (c : ClassId) → c.0 < length p → (k j : ℕ) → c ≡ class_of p k → IsAbove p k (Some j) → attributes p c ≡ attributes p (class_of p j) ++ own_attributes c 0 (features_of p c)
next_is p r c within k j is up = attributes_step p r c (class_of p j) within (ap (parent_of p) is ∙ up.1)

-- the attributes of a class with no parent
pub first_is : (p : List Class) → IsRooted p → (c : ClassId) → c.0 < length p → (k : ℕ) → c ≡ class_of p k → IsAbove p k None → attributes p c ≡ own_attributes c 0 (features_of p c)
first_is p r c within k is top = attributes_top p r c within (ap (parent_of p) is ∙ top)

-- one class more
pub attributes_more : (p : List Class) (known : List (Vec AttributeRef)) (v : Vec AttributeRef) (n : ℕ) → length known ≡ n → AreAttributes p known → v.items ≡ attributes p (class_of p n) → AreAttributes p (known ++ v ∷ [])
attributes_more p known v n same are is k d less = elim (cases_eq k n) [
  | inl e ↦
      ap (λ j. (get_or (known ++ v ∷ []) j d).items) e ∙ ap (λ (x : Vec AttributeRef). x.items) (get_or_push known v d n same) ∙ is ∙ ap (λ j. attributes p (class_of p j)) (sym e)
  | inr other ↦
      let l : length (known ++ v ∷ []) ≡ length known + 1 = length_push known v in
      let low : k < length known = apart k n (length known) same other (omega arith) in
      ap (λ (x : Vec AttributeRef). x.items) (get_or_append_left known (v ∷ []) d k low) ∙ are k d low
]
  where
    apart : (k n m : ℕ) → m ≡ n → k ≢ n → k < m + 1 → k < m
    apart k n m same other less = omega arith
