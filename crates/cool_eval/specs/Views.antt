-- Functions that convert small data of the interpreter to the data of its contracts: the first element of a list, a branch of a case, and the attribute that a
-- feature is.
use Rattle.std.specs.Prelude.{◌≡◌, ℕ, List, [], ◌∷◌, Option, Some, None}
use Rattle.cool_syntax.specs.Tree.{Tree}
use Rattle.cool_syntax.specs.declared.file_tree.AttributeDef.{AttributeDef}
use Rattle.cool_syntax.specs.declared.file_tree.Feature.{Feature}
use Rattle.cool_syntax.specs.declared.file_tree.Feature.TheVariants.{Method, Attribute}
use denote.Ref.{Bor}
use Rattle.cool_eval.specs.StackMachine.{Taken}

-- the first of a list and the others, or none where the list is empty
abbrev pub IsFirst : {X : Type 0} → List X → Option (X × List X) → Type 0
IsFirst xs None = xs ≡ []
IsFirst xs (Some (x, rest)) = xs ≡ x ∷ rest

-- a branch, by references
abbrev pub taken_of : Option (Bor (List ℕ) × Tree) → Option Taken
taken_of None = None
taken_of (Some (name, t)) = Some (record { name = name.now; body = t })

-- the attribute that a feature is, if it is one
abbrev pub attribute_in : Option Feature → Option AttributeDef
attribute_in None = None
attribute_in (Some (Method m)) = None
attribute_in (Some (Attribute a)) = Some a
