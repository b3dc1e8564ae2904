-- Lemmas for a loop that adds the list of attributes of one class of the class table in each step: each list so far is that of the class with its number.
use Rattle.std.proofs.Common.{◌≡◌, ℕ, zero, suc, ◌+◌, ◌<◌, List, [], ◌∷◌, ◌++◌, length, Some, ◌⊎◌, inl, inr, Vec, ap, sym, ◌∙◌, refl, subst, arith, length-append}
use Rattle.std.proofs.lemmas.Option.{none-some}
use Rattle.std.specs.Prelude.{slice_get}
use Rattle.std.specs.List.{AllByRecursion}
use Rattle.cool_classes.specs.declared.class_id.ClassId.{ClassId}
use Rattle.cool_classes.specs.declared.method.AttributeRef.{AttributeRef}
use Rattle.cool_classes.specs.Chains.{Class, class_number, IsChain}
use Rattle.cool_classes.specs.ClimbedChains.{chain}
use Rattle.cool_classes.specs.Features.{HasAttribute, attributes_of}
use Rattle.cool_classes.specs.Tables.{IsTable}
use Rattle.cool_classes.proofs.ChainsOfTables.{chain_is}
use Rattle.cool_meaning.specs.Lookups.{attributes}

-- the attributes of a class
abbrev pub IsLayout : {A : Type 0} → List Class → ClassId → Vec AttributeRef A → Type 0
IsLayout {A = A} p c v = (v.items ≡ attributes p c) × AllByRecursion (HasAttribute p) v.items

abbrev pub AreOf : {A : Type 0} → List Class → List (Vec AttributeRef A) → Type 0
AreOf {A = A} p vs = (c : ClassId) (w : Vec AttributeRef A) → slice_get vs c.0 ≡ Some w → IsLayout p c w

-- an item of a list with one item more was an item before, or is the last one
at_more : {X : Type 0} (xs : List X) (x y : X) (k : ℕ) → slice_get (xs ++ x ∷ []) k ≡ Some y → (slice_get xs k ≡ Some y) ⊎ ((k ≡ length xs) × (x ≡ y))
at_more [] x y zero is = inr (refl, cc)
at_more [] x y (suc k) is = absurd (none-some y is)
at_more (z ∷ xs) x y zero is = inl is
at_more (z ∷ xs) x y (suc k) is = elim (at_more xs x y k is) [ inl before ↦ inl before | inr last ↦ inr (let same = last.0 in omega arith, last.1) ]

-- with the attributes of the next class, there are those of so many classes
pub layouts_more : {A : Type 0} (p : List Class) (vs ws : List (Vec AttributeRef A)) (v : Vec AttributeRef A) (k : ℕ) → ws ≡ vs ++ v ∷ [] → IsTable p → k < length p → length vs ≡ k
    → AreOf p vs
    → ((ds : List ClassId) → IsChain p (Some (class_number k)) ds → v.items ≡ attributes_of p ds) → AllByRecursion (HasAttribute p) v.items
    → (length ws ≡ k + 1) × AreOf p ws
layouts_more {A} p vs ws v k more h low long before gives has = (
  ap length more ∙ (omega (arith, length-append vs (v ∷ []))),
  subst (AreOf p) (sym more) (λ c w is. elim (at_more vs v w c.0 is) [
    | inl there ↦ before c w there
    | inr last ↦
        let here : k ≡ c.0 = sym (last.0 ∙ long) in
        let class : class_number k ≡ c = ap class_number here in
        let all : v.items ≡ attributes p (class_number k) = gives (chain p (class_number k)) (chain_is p (class_number k) h low) in
        subst (λ (x : Vec AttributeRef A). IsLayout p c x) last.1 (all ∙ ap (attributes p) class, has)
  ]),
)
