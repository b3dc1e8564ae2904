-- `chain` is the chain of a class as a function of the class table: the list of the class, its parent, and so on up to Object (the Cool manual, section 3.2).
use Rattle.std.specs.Prelude.{◌≡◌, ℕ, zero, suc, List, [], ◌∷◌, length, Option, Some, None, refl}
use Rattle.cool_classes.specs.declared.class_id.ClassId.{ClassId}
use Rattle.cool_classes.specs.Chains.{Class, class_number, parent_of, three}

-- the classes from one up, at most `n` of them
unfoldable pub climbed : ℕ → List Class → Option ClassId → List ClassId
climbed zero p o = []
climbed (suc n) p None = []
climbed (suc n) p (Some c) = c ∷ climbed n p (parent_of p c)

-- the classes above a class, of which there are at most as many as the table has
unfoldable pub above : List Class → ClassId → List ClassId
above p c = climbed (length p) p (parent_of p c)

-- a class and those above it
unfoldable pub chain : List Class → ClassId → List ClassId
chain p c = c ∷ above p c

-- Worked example: the chain of B, which inherits from Object.
climbed_from_b : climbed 3 three (Some (class_number 2)) ≡ class_number 2 ∷ class_number 0 ∷ []
unfolding climbed
climbed_from_b = refl
