-- The branch that a `case` takes for a class is that of the first class on its chain of ancestors that has one: the class itself, or one above it.
use Rattle.std.proofs.Common.{◌≡◌, ℕ, suc, ◌+◌, ◌-◌, ◌<◌, ◌≤◌, List, ◌∷◌, length, Option, Some, None, ap, sym, ◌∙◌, refl, arith}
use Rattle.cool_syntax.specs.Tree.{Cases}
use Rattle.cool_classes.specs.declared.class_id.ClassId.{ClassId}
use Rattle.cool_classes.specs.Chains.{Class, name_of, parent_of}
use Rattle.cool_classes.specs.ClimbedChains.{climbed, above, chain}
use Rattle.cool_eval.specs.StackMachine.{Taken, branch_named, first_branch, nearest_branch}
use Rattle.cool_eval.proofs.AttributesInTables.{nothing_past, climbed_none}

-- the nearest branch of a class and of so many above it
unfoldable pub nearest_up : List Class → Cases → ℕ → Option ClassId → Option Taken
nearest_up p cs n o = nearest_branch p cs (climbed n p o)

pub nearest_begins : (p : List Class) (cs : Cases) (c : ClassId) (n k : ℕ) → n ≡ length p → k ≡ 0 → nearest_branch p cs (chain p c) ≡ nearest_up p cs (suc (n - k)) (Some c)
unfolding nearest_up chain above climbed
nearest_begins p cs c n k is none = let all : length p ≡ n - k = omega arith in ap (λ (m : ℕ). nearest_branch p cs (c ∷ climbed m p (parent_of p c))) all

-- the branch of a class itself is the nearest
pub nearest_here : (p : List Class) (cs : Cases) (c : ClassId) (n : ℕ) (b : Taken) → Some b ≡ branch_named cs (name_of p c) → Some b ≡ nearest_up p cs (suc n) (Some c)
unfolding nearest_up climbed
nearest_here p cs c n b is = ap (λ (o : Option Taken). first_branch o (nearest_branch p cs (climbed n p (parent_of p c)))) is

-- if a class has no branch, it is that of the classes above
pub nearest_above : (p : List Class) (cs : Cases) (c : ClassId) (n : ℕ) → None ≡ branch_named cs (name_of p c) → nearest_up p cs (suc n) (Some c) ≡ nearest_up p cs n (parent_of p c)
unfolding nearest_up climbed
nearest_above p cs c n is = ap (λ (o : Option Taken). first_branch o (nearest_branch p cs (climbed n p (parent_of p c)))) (sym is)

-- the same where there is a class above
pub nearest_next : (p : List Class) (cs : Cases) (c q : ClassId) (n k : ℕ) → k < n → None ≡ branch_named cs (name_of p c) → Some q ≡ parent_of p c
    → nearest_up p cs (suc (n - k)) (Some c) ≡ nearest_up p cs (suc (n - (k + 1))) (Some q)
nearest_next p cs c q n k low is parent =
    let left : n - k ≡ suc (n - (k + 1)) = omega arith in
    nearest_above p cs c (n - k) is ∙ ap (nearest_up p cs (n - k)) (sym parent) ∙ ap (λ (m : ℕ). nearest_up p cs m (Some q)) left

-- and where there is none above
pub nearest_none : (p : List Class) (cs : Cases) (c : ClassId) (n : ℕ) → None ≡ branch_named cs (name_of p c) → None ≡ parent_of p c → None ≡ nearest_up p cs (suc n) (Some c)
unfolding nearest_up
nearest_none p cs c n is top =
    sym (nearest_above p cs c n is ∙ ap (nearest_up p cs n) (sym top) ∙ ap (nearest_branch p cs) (climbed_none n p))

-- a class that is none of the table has none above
pub nearest_past : (p : List Class) (cs : Cases) (c : ClassId) (n : ℕ) → None ≡ branch_named cs (name_of p c) → length p ≤ c.0 → None ≡ nearest_up p cs (suc n) (Some c)
nearest_past p cs c n is past = nearest_none p cs c n is (sym (ap (λ (x : Class). x.parent) (nothing_past p c past)))

-- the last class has its own branch or none
pub nearest_last : (p : List Class) (cs : Cases) (c : ClassId) (n k : ℕ) → n ≤ k → branch_named cs (name_of p c) ≡ nearest_up p cs (suc (n - k)) (Some c)
unfolding nearest_up climbed
nearest_last p cs c n k past =
    let none : n - k ≡ 0 = omega arith in
    sym (ap (λ (m : ℕ). first_branch (branch_named cs (name_of p c)) (nearest_branch p cs (climbed m p (parent_of p c)))) none ∙ last (branch_named cs (name_of p c)))
  where
    last : (o : Option Taken) → first_branch o None ≡ o
    last None = refl
    last (Some b) = refl
