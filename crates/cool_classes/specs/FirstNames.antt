-- `first_index` is the index of the first item with a given name in a list in which some items have no name. `FindsFirst` says that a map gives this index for
-- every name.
use Rattle.std.specs.Prelude.{◌≡◌, ℕ, ◌+◌, List, [], ◌∷◌, map, Option, Some, None, Bool, false, nat_eq, codes, bytes_eq, if◌then◌else◌, refl}
use Rattle.std.specs.Map.{lookup}
use Rattle.std.specs.Global.{Vec}
use Rattle.cool_syntax.specs.declared.file_tree.Feature.{Feature}
use Rattle.cool_syntax.specs.declared.file_tree.Feature.TheVariants.{Method, Attribute}

-- the value at the number of the first item of a list for which a test holds, if the list begins at a number
abbrev pub first_with : {X Y : Type 0} → (X → Bool) → (ℕ → Y) → ℕ → List X → Option Y
first_with has at k [] = None
first_with has at k (x ∷ xs) = if has x then Some (at k) else first_with has at (k + 1) xs

-- an item has this name
abbrev pub is_named : List ℕ → Option (List ℕ) → Bool
is_named f None = false
is_named f (Some name) = bytes_eq f name

-- the first index of a name, where the row begins at a number
abbrev pub first_index : ℕ → List (Option (List ℕ)) → List ℕ → Option ℕ
first_index k row f = first_with (is_named f) (λ (n : ℕ). n) k row

-- the first index of a name is this
abbrev pub is_index : ℕ → Option ℕ → Bool
is_index k None = false
is_index k (Some j) = nat_eq j k

-- the entries of a map, with each key as the list of its bytes
abbrev pub shown_names : List (Vec ℕ × ℕ) → List (List ℕ × ℕ)
shown_names = map (λ entry. (entry.0.items, entry.1))

-- a look-up of any name finds its first index
abbrev pub FindsFirst : List (List ℕ × ℕ) → List (Option (List ℕ)) → Type 0
FindsFirst entries row = (f : List ℕ) → lookup (bytes_eq f) entries ≡ first_index 0 row f

-- a look-up of any name finds its first index among these names
abbrev pub FindsNames : List (Vec ℕ × ℕ) → List (List ℕ) → Type 0
FindsNames entries names = FindsFirst (shown_names entries) (map Some names)

-- the names of the methods among features, and those of the attributes
abbrev pub method_name : Feature → Option (List ℕ)
method_name (Method m) = Some m.name
method_name (Attribute a) = None

abbrev pub attribute_name : Feature → Option (List ℕ)
attribute_name (Method m) = None
attribute_name (Attribute a) = Some a.name

-- Worked example: of two items named a the first one counts.
first_index_of_a : first_index 0 (None ∷ Some (codes "a") ∷ Some (codes "a") ∷ []) (codes "a") ≡ Some 1
first_index_of_a = refl
