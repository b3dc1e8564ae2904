-- The basic classes of a class table have no features of their own, and keep the compiler's limits on the attributes and methods of a class.
use Rattle.std.proofs.Common.{◌≡◌, ℕ, zero, suc, ◌<◌, ◌≤◌, List, [], ◌∷◌, ◌++◌, length, take, get_or, Option, Some, ap, sym, ◌∙◌, refl, subst, length-take, arith}
use Rattle.std.proofs.lemmas.List.{get_or-take}
use Rattle.cool_syntax.specs.declared.file_tree.Feature.{Feature}
use Rattle.cool_classes.specs.declared.TheConstants.{MOST_ATTRIBUTES, MOST_METHODS}
use Rattle.cool_classes.specs.declared.class_id.ClassId.{ClassId}
use Rattle.cool_classes.specs.declared.method.AttributeRef.{AttributeRef}
use Rattle.cool_classes.specs.Chains.{Class, class_number, class_at, parent_of, features_of, nothing, IsChain}
use Rattle.cool_classes.specs.Features.{own_attributes, attributes_of}
use Rattle.cool_classes.specs.MethodNames.{methods_of}
use Rattle.cool_classes.specs.Tables.{basic_classes, IsTable}
use Rattle.cool_classes.proofs.Climbs.{chain_unique}

-- there are five of them
pub five_classes : (p : List Class) → IsTable p → 5 ≤ length p
five_classes p table = omega (arith, ap length table.basic, length-take 5 p)

-- a basic class is what it is in every table
pub class_there : (p : List Class) (n : ℕ) → take 5 p ≡ basic_classes → n < 5 → class_at p (class_number n) ≡ class_at basic_classes (class_number n)
class_there p n basic h = sym (get_or-take 5 p n nothing h) ∙ ap (λ (q : List Class). get_or q n nothing) basic

no_features : (n : ℕ) → n < 5 → features_of basic_classes (class_number n) ≡ []
no_features zero h = refl
no_features (suc zero) h = refl
no_features (suc (suc zero)) h = refl
no_features (suc (suc (suc zero))) h = refl
no_features (suc (suc (suc (suc zero)))) h = refl
no_features (suc (suc (suc (suc (suc n))))) h = absurd (omega arith)

pub basic_features : (p : List Class) (n : ℕ) → take 5 p ≡ basic_classes → n < 5 → features_of p (class_number n) ≡ []
basic_features p n basic h = ap (λ (c : Class). c.features) (class_there p n basic h) ∙ no_features n h

-- a chain keeps the limits
abbrev pub KeepsChain : List Class → List ClassId → Type 0
KeepsChain p ds = (length (attributes_of p ds) ≤ MOST_ATTRIBUTES) × (length (methods_of p ds) ≤ MOST_METHODS)

own_none : (p : List Class) (n : ℕ) → take 5 p ≡ basic_classes → n < 5 → own_attributes (class_number n) 0 (features_of p (class_number n)) ≡ []
own_none p n basic h = ap (λ (fs : List Feature). own_attributes (class_number n) 0 fs) (basic_features p n basic h)

no_attributes : (p : List Class) (n : ℕ) → take 5 p ≡ basic_classes → n < 5 → attributes_of p (class_number n ∷ class_number 0 ∷ []) ≡ []
no_attributes p n basic h =
    ap (λ (xs : List AttributeRef). ([] ++ xs) ++ own_attributes (class_number n) 0 (features_of p (class_number n))) (own_none p 0 basic (omega arith)) ∙ own_none p n basic h

object_chain : (p : List Class) → take 5 p ≡ basic_classes → IsChain p (Some (class_number 0)) (class_number 0 ∷ [])
object_chain p basic = (refl, subst (λ (o : Option ClassId). IsChain p o []) (sym (ap (λ (c : Class). c.parent) (class_there p 0 basic (omega arith)))) tt)

lower_chain : (p : List Class) (n : ℕ) → take 5 p ≡ basic_classes → n < 5 → parent_of basic_classes (class_number n) ≡ Some (class_number 0) → (ds : List ClassId) → IsChain p (Some (class_number n)) ds
    → ds ≡ class_number n ∷ class_number 0 ∷ []
lower_chain p n basic h up ds chain =
    chain_unique p (Some (class_number n)) ds (class_number n ∷ class_number 0 ∷ []) chain
    (refl, subst (λ (o : Option ClassId). IsChain p o (class_number 0 ∷ [])) (sym (ap (λ (c : Class). c.parent) (class_there p n basic h) ∙ up)) (object_chain p basic))

lower_keeps : (p : List Class) (n : ℕ) → take 5 p ≡ basic_classes → n < 5 → parent_of basic_classes (class_number n) ≡ Some (class_number 0)
    → length (methods_of p (class_number n ∷ class_number 0 ∷ [])) ≤ MOST_METHODS → (ds : List ClassId) → IsChain p (Some (class_number n)) ds → KeepsChain p ds
lower_keeps p n basic h up few ds chain =
    let none = ap (length {A = AttributeRef}) (no_attributes p n basic h) in
    subst (KeepsChain p) (sym (lower_chain p n basic h up ds chain)) (omega (arith, none), few)

object_keeps : (p : List Class) → take 5 p ≡ basic_classes → (ds : List ClassId) → IsChain p (Some (class_number 0)) ds → KeepsChain p ds
object_keeps p basic ds chain =
    let none = ap (length {A = AttributeRef}) (own_none p 0 basic (omega arith)) in
    subst (KeepsChain p) (sym (chain_unique p (Some (class_number 0)) ds (class_number 0 ∷ []) chain (object_chain p basic))) (omega (arith, none), omega arith)

-- the chain of a basic class keeps the limits
pub basic_keeps : (p : List Class) (n : ℕ) → take 5 p ≡ basic_classes → n < 5 → (ds : List ClassId) → IsChain p (Some (class_number n)) ds → KeepsChain p ds
basic_keeps p zero basic h = object_keeps p basic
basic_keeps p (suc zero) basic h = lower_keeps p 1 basic (omega arith) refl (omega arith)
basic_keeps p (suc (suc zero)) basic h = lower_keeps p 2 basic (omega arith) refl (omega arith)
basic_keeps p (suc (suc (suc zero))) basic h = lower_keeps p 3 basic (omega arith) refl (omega arith)
basic_keeps p (suc (suc (suc (suc zero)))) basic h = lower_keeps p 4 basic (omega arith) refl (omega arith)
basic_keeps p (suc (suc (suc (suc (suc n))))) basic h = absurd (omega arith)
