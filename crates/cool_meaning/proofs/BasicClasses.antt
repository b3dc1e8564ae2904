-- Lemmas on the basic classes in class tables without type errors: their names, parents and methods, and that Int, Bool and String have no subclasses.
use Rattle.std.proofs.Common.{◌≡◌, inl, inr, ℕ, zero, suc, ◌<◌, ◌≤◌, List, [], ◌∷◌, length, get_or, take, Option, Some, None, ap, sym, ◌∙◌, refl, subst, arith, length-take}
use Rattle.std.specs.Prelude.{Contains}
use Rattle.std.proofs.lemmas.List.{get_or-take}
use Rattle.cool_classes.specs.declared.class_id.ClassId.{ClassId}
use Rattle.cool_classes.specs.Chains.{Class, class_number, class_at, nothing, name_of, parent_of, IsChain, Below}
use Rattle.cool_classes.specs.Tables.{basic_classes}
use Rattle.cool_classes.specs.LawfulTables.{MayInherit}
use Rattle.cool_rules.specs.TypedTables.{IsTypedTable}
use Rattle.cool_rules.proofs.ChainsOfTables.{nothing_in, below_alone}
use Rattle.lists.proofs.Membership.{contains_cases}

-- a class by its number
pub by_number : (c : ClassId) (n : ℕ) → c.0 ≡ n → c ≡ class_number n
by_number c n e = λ i. record { 0 = e i }

module _ (p : List Class) (typed : IsTypedTable p) where
  pub five_within : 5 ≤ length p
  five_within =
      let five : length (take 5 p) ≡ 5 = ap length typed.whole.table.basic in
      let least = length-take 5 p in
      omega arith

  pub basic_within : (n : ℕ) → n < 5 → (class_number n).0 < length p
  basic_within n less = let five = five_within in omega arith

  basic_at : (n : ℕ) → n < 5 → class_at p (class_number n) ≡ get_or basic_classes n nothing
  basic_at n less = sym (get_or-take 5 p n nothing less) ∙ ap (λ (cs : List Class). get_or cs n nothing) typed.whole.table.basic

  pub basic_name : (n : ℕ) → n < 5 → name_of p (class_number n) ≡ (get_or basic_classes n nothing).name
  basic_name n less = ap (λ (c : Class). c.name) (basic_at n less)

  basic_parent : (n : ℕ) → n < 5 → parent_of p (class_number n) ≡ (get_or basic_classes n nothing).parent
  basic_parent n less = ap (λ (c : Class). c.parent) (basic_at n less)

  -- Int, Bool and String may not be inherited
  int_shut : MayInherit (class_number 2) → ⊥
  int_shut h = h.no_int refl

  bool_shut : MayInherit (class_number 3) → ⊥
  bool_shut h = h.no_bool refl

  string_shut : MayInherit (class_number 4) → ⊥
  string_shut h = h.no_string refl

  pub only_int : (c : ClassId) → c.0 < length p → Below p c (class_number 2) → c ≡ class_number 2
  only_int c within below = below_alone p typed c (class_number 2) int_shut within below

  pub only_bool : (c : ClassId) → c.0 < length p → Below p c (class_number 3) → c ≡ class_number 3
  only_bool c within below = below_alone p typed c (class_number 3) bool_shut within below

  pub only_string : (c : ClassId) → c.0 < length p → Below p c (class_number 4) → c ≡ class_number 4
  only_string c within below = below_alone p typed c (class_number 4) string_shut within below

  -- the classes above one that may be inherited may be inherited
  pub inherits_above : (d e : ClassId) → d.0 < length p → MayInherit d → Below p d e → MayInherit e
  inherits_above d e within may below = record {
    no_int = λ is. may.no_int (ap (λ (c : ClassId). c.0) (only_int d within (subst (λ (c : ClassId). Below p d c) (by_number e 2 is) below)));
    no_bool = λ is. may.no_bool (ap (λ (c : ClassId). c.0) (only_bool d within (subst (λ (c : ClassId). Below p d c) (by_number e 3 is) below)));
    no_string = λ is. may.no_string (ap (λ (c : ClassId). c.0) (only_string d within (subst (λ (c : ClassId). Below p d c) (by_number e 4 is) below)));
  }

  -- only Object is above Int, Bool and String
  top_chain : (c : ClassId) (ds : List ClassId) → parent_of p c ≡ None → IsChain p (Some c) ds → ds ≡ c ∷ []
  top_chain c [] e h = absurd h
  top_chain c (d ∷ ds) e h = by d ds h.0 (subst (λ (o : Option ClassId). IsChain p o ds) e h.1)
    where
      by : (d : ClassId) (ds : List ClassId) → d ≡ c → IsChain p None ds → d ∷ ds ≡ c ∷ []
      by d [] e h = ap (λ (x : ClassId). x ∷ []) e
      by d (x ∷ ds) e h = absurd h

  value_chain : (n : ℕ) (ds : List ClassId) → parent_of p (class_number n) ≡ Some (class_number 0) → IsChain p (Some (class_number n)) ds → ds ≡ class_number n ∷ class_number 0 ∷ []
  value_chain n [] e h = absurd h
  value_chain n (d ∷ ds) e h =
      let rest : ds ≡ class_number 0 ∷ [] = top_chain (class_number 0) ds (basic_parent 0 (omega arith)) (subst (λ (o : Option ClassId). IsChain p o ds) e h.1) in
      let first : d ≡ class_number n = h.0 in
      λ i. first i ∷ rest i

  low_on : (n : ℕ) → 1 ≤ n → n < 5 → (d : ClassId) → Below p (class_number n) d → d.0 < 5
  low_on n above less d (ds, chain, there) = by (subst (λ (xs : List ClassId). Contains xs d) (value_chain n ds (parent n above less) chain) there)
    where
      parent : (n : ℕ) → 1 ≤ n → n < 5 → parent_of p (class_number n) ≡ Some (class_number 0)
      parent zero h k = absurd (omega arith)
      parent (suc zero) h k = basic_parent 1 (omega arith)
      parent (suc (suc zero)) h k = basic_parent 2 (omega arith)
      parent (suc (suc (suc zero))) h k = basic_parent 3 (omega arith)
      parent (suc (suc (suc (suc zero)))) h k = basic_parent 4 (omega arith)
      parent (suc (suc (suc (suc (suc n))))) h k = absurd (omega arith)

      by : Contains (class_number n ∷ class_number 0 ∷ []) d → d.0 < 5
      by there = elim (contains_cases (class_number n) d (class_number 0 ∷ []) there) [
        | inl e ↦ let same : n ≡ d.0 = ap (λ (c : ClassId). c.0) e in omega arith
        | inr t ↦ elim (contains_cases (class_number 0) d [] t) [ inl e ↦ let same : 0 ≡ d.0 = ap (λ (c : ClassId). c.0) e in omega arith | inr u ↦ nothing_in d u ]
      ]

  -- no value of Int, Bool or String has a class with methods of the program above it
  pub high_inherits : (c d : ClassId) → Below p c d → 5 ≤ d.0 → MayInherit c
  high_inherits c d below high = record {
    no_int = λ is. let low = low_on 2 (omega arith) (omega arith) d (subst (λ (x : ClassId). Below p x d) (by_number c 2 is) below) in omega arith;
    no_bool = λ is. let low = low_on 3 (omega arith) (omega arith) d (subst (λ (x : ClassId). Below p x d) (by_number c 3 is) below) in omega arith;
    no_string = λ is. let low = low_on 4 (omega arith) (omega arith) d (subst (λ (x : ClassId). Below p x d) (by_number c 4 is) below) in omega arith;
  }
