-- The cycles of inheritance: the class definitions from which following parents leads back to the same definition (the Cool manual, section 3).
use Rattle.std.specs.Prelude.{◌≡◌, ◌≢◌, ℕ, zero, suc, ◌+◌, ◌<◌, List, [], ◌∷◌, length, get_or, Contains, Option, Some, None, refl}
use Rattle.std.specs.List.{AllByRecursion}
use Rattle.cool_classes.specs.declared.class_id.ClassId.{ClassId}
use Rattle.cool_classes.specs.Chains.{class_number}
use Rattle.cool_classes.specs.Depths.{parents_with_basic}

-- so many steps up, each to the parent, lead from one class to another
abbrev pub StepsTo : List (Option ClassId) → ℕ → ℕ → ℕ → Type 0
StepsTo all c zero b = c ≡ b
StepsTo all c (suc n) b = (q : ClassId) × (get_or all c None ≡ Some q) × StepsTo all q.0 n b

-- one step or more lead from a definition back to it
abbrev pub IsOnCycle : List ClassId → ℕ → Type 0
IsOnCycle parents k = (n : ℕ) × StepsTo (parents_with_basic parents) (k + 5) (suc n) (k + 5)

-- no number stands twice
abbrev pub AreApart : List ℕ → Type 0
AreApart [] = Unit {0}
AreApart (x ∷ xs) = AllByRecursion (λ y. y ≢ x) xs × AreApart xs

-- these are the definitions on cycles, each once
pub record AreCycles (parents : List ClassId) (cyclic : List ℕ) : Type 0 where
  pub only : AllByRecursion (IsOnCycle parents) cyclic
  pub all : (k : ℕ) → k < length parents → IsOnCycle parents k → Contains cyclic k
  pub once : AreApart cyclic

-- Worked example: a class that is its own parent.
own_parent : IsOnCycle (class_number 5 ∷ []) 0
own_parent = (0, (class_number 5, refl, refl))
