-- `DeclareSame` says that two features declare the same names and types, and `AreAlike` that two classes differ at most in method bodies, initial values and
-- source locations.
use Rattle.std.specs.Prelude.{◌≡◌, refl, ℕ, List, [], ◌∷◌, map, codes, Option, Some, None}
use Rattle.cool_syntax.specs.declared.file_tree.Feature.{Feature}
use Rattle.cool_syntax.specs.declared.file_tree.Feature.TheVariants.{Method, Attribute}
use Rattle.cool_syntax.specs.declared.file_tree.Formal.{Formal}
use Rattle.cool_syntax.specs.declared.place.Place.{Place}
use Rattle.cool_syntax.specs.Tree.{Tree}
use Rattle.cool_classes.specs.Chains.{Class}

-- the names of formals, and those of their types
abbrev pub formal_names : List Formal → List (List ℕ)
formal_names = map (λ (f : Formal). f.name)

abbrev pub formal_types : List Formal → List (List ℕ)
formal_types = map (λ (f : Formal). f.declared.name)

-- two features declare the same: methods a name, the types of the formals, a result and the names of the formals, attributes a name and a type
abbrev pub DeclareSame : Feature → Feature → Type 0
DeclareSame (Method m) (Method m') =
    (m'.name ≡ m.name) × (formal_types m'.formals ≡ formal_types m.formals) × (m'.result.name ≡ m.result.name)
    × (formal_names m'.formals ≡ formal_names m.formals)
DeclareSame (Method m) (Attribute a) = ⊥
DeclareSame (Attribute a) (Method m) = ⊥
DeclareSame (Attribute a) (Attribute a') = (a'.name ≡ a.name) × (a'.declared.name ≡ a.declared.name)

-- there is a feature, and the other declares the same
abbrev pub IsDeclaredBy : Feature → Option Feature → Type 0
IsDeclaredBy x None = ⊥
IsDeclaredBy x (Some y) = DeclareSame y x

-- the features of two classes, in order, declare the same
abbrev pub AllDeclareSame : List Feature → List Feature → Type 0
AllDeclareSame [] [] = Unit {0}
AllDeclareSame [] (x' ∷ xs') = ⊥
AllDeclareSame (x ∷ xs) [] = ⊥
AllDeclareSame (x ∷ xs) (x' ∷ xs') = DeclareSame x x' × AllDeclareSame xs xs'

-- classes that differ only in bodies, initial values and places
abbrev pub AreAlike : Class → Class → Type 0
AreAlike d d' = (d'.name ≡ d.name) × (d'.parent ≡ d.parent) × AllDeclareSame d.features d'.features

abbrev pub AreAllAlike : List Class → List Class → Type 0
AreAllAlike [] [] = Unit {0}
AreAllAlike [] (d' ∷ ds') = ⊥
AreAllAlike (d ∷ ds) [] = ⊥
AreAllAlike (d ∷ ds) (d' ∷ ds') = AreAlike d d' × AreAllAlike ds ds'

-- Worked example: an attribute `a : B` declares the same at another place, with another value.
moved : (p q : Place) (v w : Option Tree)
    → DeclareSame (Attribute (record { name = codes "a"; at = p; declared = record { name = codes "B"; at = p }; init = v }))
    (Attribute (record { name = codes "a"; at = q; declared = record { name = codes "B"; at = q }; init = w }))
moved p q v w = (refl, refl)
