-- Each step of the loop of `tables_of` adds the dispatch table of the next class in preorder, and the tag of the parent of this class is smaller.
use Rattle.std.proofs.Common.{◌≡◌, ◌≢◌, ℕ, suc, ◌+◌, ◌<◌, ◌≤◌, List, [], ◌∷◌, ◌++◌, length, get_or, Option, Some, None, refl, sym, ap, ◌∙◌, subst, arith, inl, inr, Contains}
use Rattle.std.specs.Prelude.{IfSome}
use Rattle.std.proofs.lemmas.List.{length_push, get_or_push, get_or_append_left}
use Rattle.std.proofs.lemmas.Bool.{cases_eq}
use Rattle.cool_classes.specs.declared.class_id.ClassId.{ClassId}
use Rattle.cool_classes.specs.Chains.{Class, parent_of, IsChain, Below}
use Rattle.cool_classes.specs.ClimbedChains.{chain}
use Rattle.cool_layout.specs.declared.slots.Table.{Table}
use Rattle.cool_layout.specs.Preorder.{tag}
use Rattle.cool_layout.specs.Roots.{IsRooted}
use Rattle.cool_layout.specs.SlotTables.{IsTableAt, AreTables, class_of, IsAbove}
use Rattle.cool_layout.proofs.ShortChains.{chain_is, new_above}
use Rattle.cool_layout.proofs.TagRanges.{at_tag, are_tags}

-- the tag of a parent is smaller
pub parent_tag : (p : List Class) → IsRooted p → (c q : ClassId) → c.0 < length p → parent_of p c ≡ Some q → IsAbove p (tag p c) (Some (tag p q))
parent_tag p r c q within up =
    let q_in : q.0 < length p = r.above c q within up in
    let here : class_of p (tag p c) ≡ c = (at_tag p r c within).1 in
    let there : class_of p (tag p q) ≡ q = (at_tag p r q q_in).1 in
    let chain_q = chain_is p r q q_in in
    let first : Contains (chain p q) q = at (chain p q) chain_q in
    let below : Below p c q = (c ∷ chain p q, (refl, subst (λ (o : Option ClassId). IsChain p o (chain p q)) (sym up) chain_q), after (chain p q) first) in
    let le = ((are_tags p r).below q c q_in within below).0 in
    let other : tag p c ≢ tag p q = λ e.
    let same : c ≡ q = (are_tags p r).one c q within q_in e in
    new_above p c (chain p q) (subst (λ (o : Option ClassId). IsChain p o (chain p q)) (sym up) chain_q) (subst (Contains (chain p q)) (sym same) first) in
    (apart (tag p c) (tag p q) le other, ap (parent_of p) here ∙ up ∙ ap Some (sym there))
  where
    at : (ds : List ClassId) → IsChain p (Some q) ds → Contains ds q
    at [] h = absurd h
    at (d ∷ ds) h = (0, omega arith, h.0)

    after : (ds : List ClassId) → Contains ds q → Contains (c ∷ ds) q
    after ds (k, l, e) = (suc k, omega arith, e)

    apart : (m n : ℕ) → n ≤ m → m ≢ n → n < m
    apart m n l other = omega arith

pub above_in : (p : List Class) (k : ℕ) (o : Option ℕ) → IsAbove p k o → IfSome o (λ j. j < k)
above_in p k None h = tt
above_in p k (Some j) h = h.0

-- one table more
pub tables_more : (p : List Class) (n : ℕ) (all : List Table) (t : Table) → AreTables p n all → n < length p → IsTableAt p n t → AreTables p (n + 1) (all ++ t ∷ [])
tables_more p n all t are low is = record {
  same = (let l = length_push all t in let s = are.same in omega arith);
  low = omega arith;
  tables = λ k d l. elim (cases_eq k n) [
    | inl e ↦ subst (λ j. IsTableAt p j (get_or (all ++ t ∷ []) j d)) (sym e) (subst (IsTableAt p n) (sym (get_or_push all t d n are.same)) is)
    | inr other ↦ subst (IsTableAt p k) (sym (get_or_append_left all (t ∷ []) d k (let s = are.same in omega arith))) (are.tables k d (omega arith))
  ];
}
