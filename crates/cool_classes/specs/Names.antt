-- `first_named` is the class that a name denotes: the first with this name in the order of definitions. `self_type` is the name SELF_TYPE, which no class has.
use Rattle.std.specs.Prelude.{◌≡◌, ℕ, List, [], ◌∷◌, Option, Some, codes, bytes_eq, refl}
use Rattle.cool_classes.specs.declared.class_id.ClassId.{ClassId}
use Rattle.cool_classes.specs.Chains.{class_number}
use Rattle.cool_classes.specs.FirstNames.{first_with}

-- the first class of a name, where the names begin with that of the class at a number
abbrev pub first_named : ℕ → List (List ℕ) → List ℕ → Option ClassId
first_named k names f = first_with (bytes_eq f) class_number k names

-- the word for the type of the object itself, which is the name of no class
abbrev pub self_type : List ℕ
self_type = codes "SELF_TYPE"

-- Worked example: of two classes A the first one counts.
first_a : first_named 5 (codes "A" ∷ codes "B" ∷ codes "A" ∷ []) (codes "A") ≡ Some (class_number 5)
first_a = refl
