-- If the depths (numbers of ancestors) of all classes are right, each class is one deeper than its parent, and only Object has no parent.
use Rattle.std.proofs.Common.{◌≡◌, ℕ, zero, suc, ◌+◌, ◌<◌, List, [], ◌∷◌, length, map, get_or, Option, Some, None, sym, ◌∙◌, refl, subst, arith}
use Rattle.std.specs.List.{AllByRecursion}
use Rattle.cool_classes.specs.declared.class_id.ClassId.{ClassId}
use Rattle.cool_classes.specs.Chains.{Class, class_number, parent_of}
use Rattle.cool_classes.specs.Tables.{IsGrounded}
use Rattle.cool_classes.specs.Depths.{parents_with_basic, HasDepth}
use Rattle.cool_classes.proofs.CyclesCaught.{depth_once}

-- a parent is one of the classes
some_parent : (P : ClassId → Type 0) (ps : List ClassId) (k : ℕ) (q : ClassId) → AllByRecursion P ps → get_or (map Some ps) k None ≡ Some q → P q
some_parent P [] k q all e = absurd (cc)
some_parent P (p ∷ ps) zero q all e = let same : p ≡ q = cc in subst P same all.0
some_parent P (p ∷ ps) (suc k) q all e = some_parent P ps k q all.1 e

-- Object is one of the classes
object_low : (m : ℕ) (q : ClassId) → Some (class_number 0) ≡ Some q → 0 < m → q.0 < m
object_low m q e some = let same : class_number 0 ≡ q = cc in subst (λ (c : ClassId). c.0 < m) same some

-- the parent of a class is one of the classes
pub parents_low_by : (ps : List ClassId) (m : ℕ) → 0 < m → AllByRecursion (λ (q : ClassId). q.0 < m) ps → (n : ℕ) (q : ClassId) → get_or (parents_with_basic ps) n None ≡ Some q → q.0 < m
parents_low_by ps m some all zero q e = absurd (cc)
parents_low_by ps m some all (suc zero) q e = object_low m q e some
parents_low_by ps m some all (suc (suc zero)) q e = object_low m q e some
parents_low_by ps m some all (suc (suc (suc zero))) q e = object_low m q e some
parents_low_by ps m some all (suc (suc (suc (suc zero)))) q e = object_low m q e some
parents_low_by ps m some all (suc (suc (suc (suc (suc k))))) q e = some_parent (λ (c : ClassId). c.0 < m) ps k q all e

-- only Object has no parent
no_parent : (ps : List ClassId) (k : ℕ) → k < length ps → get_or (map Some ps) k None ≡ None → ⊥
no_parent [] k less e = absurd (omega arith)
no_parent (p ∷ ps) zero less e = absurd (cc)
no_parent (p ∷ ps) (suc k) less e = no_parent ps k (omega arith) e

-- only Object has no parent
pub only_object : (ps : List ClassId) (n : ℕ) → n < length ps + 5 → get_or (parents_with_basic ps) n None ≡ None → n ≡ 0
only_object ps zero less e = refl
only_object ps (suc zero) less e = absurd (cc)
only_object ps (suc (suc zero)) less e = absurd (cc)
only_object ps (suc (suc (suc zero))) less e = absurd (cc)
only_object ps (suc (suc (suc (suc zero)))) less e = absurd (cc)
only_object ps (suc (suc (suc (suc (suc k))))) less e = absurd (no_parent ps k (omega arith) e)

-- a class stands one deeper than its parent
deeper : (all : List (Option ClassId)) (c : ℕ) (q : ClassId) (d e : ℕ) → get_or all c None ≡ Some q → HasDepth all c d → HasDepth all q.0 e → d ≡ e + 1
deeper all c q zero e is has above = absurd (cc)
deeper all c q (suc d) e is has above =
    let has_is = has.1 in
    let same : has.0 ≡ q = cc in
    let equal : d ≡ e = depth_once all q.0 d e (subst (λ (x : ClassId). HasDepth all x.0 d) same has.2) above in
    omega arith

-- right depths put the classes above one another
pub grounded_by : (p : List Class) (ps : List ClassId) (depth : ClassId → ℕ) → length p ≡ length ps + 5 → ((c : ClassId) → parent_of p c ≡ get_or (parents_with_basic ps) c.0 None)
    → AllByRecursion (λ (q : ClassId). q.0 < length ps + 5) ps → ((c : ClassId) → c.0 < length ps + 5 → HasDepth (parents_with_basic ps) c.0 (depth c)) → IsGrounded p depth
grounded_by p ps depth long parents all has = record {
  above = λ c q within e.
      let is : get_or (parents_with_basic ps) c.0 None ≡ Some q = sym (parents c) ∙ e in
      let low : q.0 < length ps + 5 = parents_low_by ps (length ps + 5) (omega arith) all c.0 q is in
      (omega arith, deeper (parents_with_basic ps) c.0 q (depth c) (depth q) is (has c (omega arith)) (has q low));
  top = λ c within e.
      let is : get_or (parents_with_basic ps) c.0 None ≡ None = sym (parents c) ∙ e in
      let first : c.0 ≡ 0 = only_object ps c.0 (omega arith) is in
      ((λ i. record { 0 = first i }), depth_once (parents_with_basic ps) c.0 (depth c) 0 (has c (omega arith)) is);
}
