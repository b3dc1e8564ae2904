-- `AreDefiners` says that the code's map has, for each name, the classes that define a method of this name themselves.
use Rattle.std.specs.Prelude.{◌≡◌, ℕ, ◌&&◌, ◌||◌, Bool as Truth, List, [], length, Option, Some, None, is_some, bytes_eq}
use Rattle.std.specs.List.{list_any}
use Rattle.std.specs.Borrow.{Bor}
use Rattle.std.specs.Global.{Vec}
use Rattle.std.specs.Map.{lookup}
use Rattle.cool_classes.specs.declared.class_id.ClassId.{ClassId}
use Rattle.cool_classes.specs.Chains.{Class}
use Rattle.cool_classes.specs.Features.{NamedMethod, own_method}
use Rattle.cool_fold.specs.declared.definers.Definers.{Definers}
use Rattle.cool_fold.specs.Folding.{classes_from}

abbrev pub classes_in : Option (Vec ClassId) → List ClassId
classes_in None = []
classes_in (Some classes) = classes.items

-- the classes that the map has for a name
abbrev pub definers_in : List (Bor (List ℕ) × Vec ClassId) → List ℕ → List ClassId
definers_in entries name = classes_in (lookup (λ key. bytes_eq name key.now) entries)

-- a basic method has this name
abbrev pub is_basic_named : List ℕ → NamedMethod → Truth
is_basic_named name m = bytes_eq m.name name

-- A class was added to the names for which a test holds.
abbrev pub Adds : ClassId → (List ℕ → Truth) → List (Bor (List ℕ) × Vec ClassId) → List (Bor (List ℕ) × Vec ClassId) → Type 0
Adds c has old new =
    (f : ClassId → Truth) (name : List ℕ) → list_any f (definers_in new name) ≡ (list_any f (definers_in old name) || (f c && has name))

-- For each name, the map has the classes of the table that have their own method of this name.
abbrev pub AreDefiners : List Class → Definers → Type 0
AreDefiners p d =
    (f : ClassId → Truth) (name : List ℕ)
    → list_any f (definers_in d.by_name.entries name) ≡ list_any (λ c. f c && is_some (own_method p c name)) (classes_from 0 (length p))
