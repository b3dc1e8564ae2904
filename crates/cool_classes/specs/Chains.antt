-- `Class` is a class of a class table as pre- and postconditions see it, and `IsChain` says which classes lead from one up to Object (the Cool manual, sections
-- 3.2 and 4). `Below` says that a class is another or inherits from it, and `IsJoin` defines the least common ancestor.
use Rattle.std.specs.Prelude.{◌≡◌, ℕ, List, [], ◌∷◌, get_or, Contains, Option, Some, None, codes, refl}
use Rattle.cool_syntax.specs.declared.file_tree.Feature.{Feature}
use Rattle.cool_classes.specs.declared.class_id.ClassId.{ClassId}

-- a class: its name, the class that it inherits from, and its features in textual order
pub record Class : Type 0 where
  pub name : List ℕ
  pub parent : Option ClassId
  pub features : List Feature

abbrev pub class_number : ℕ → ClassId
class_number n = record { 0 = n }

abbrev pub nothing : Class
nothing = record { name = []; parent = None; features = [] }

abbrev pub class_at : List Class → ClassId → Class
class_at p c = get_or p c.0 nothing

abbrev pub name_of : List Class → ClassId → List ℕ
name_of p c = (class_at p c).name

abbrev pub parent_of : List Class → ClassId → Option ClassId
parent_of p c = (class_at p c).parent

abbrev pub features_of : List Class → ClassId → List Feature
features_of p c = (class_at p c).features

-- the classes from one up to a class with no parent, each followed by its parent
abbrev pub IsChain : List Class → Option ClassId → List ClassId → Type 0
IsChain p None [] = Unit {0}
IsChain p None (d ∷ ds) = ⊥
IsChain p (Some c) [] = ⊥
IsChain p (Some c) (d ∷ ds) = (d ≡ c) × IsChain p (parent_of p c) ds

-- b stands on the chain of a
abbrev pub Below : List Class → ClassId → ClassId → Type 0
Below p a b = (ds : List ClassId) × IsChain p (Some a) ds × Contains ds b

-- the least class that both are below
pub record IsJoin (p : List Class) (a b j : ClassId) : Type 0 where
  pub left : Below p a j
  pub right : Below p b j
  pub least : (k : ClassId) → Below p a k → Below p b k → Below p j k

-- Worked examples: with A and B that inherit from Object, the chain of B is B, Object.
abbrev pub three : List Class
three =
    record { name = codes "Object"; parent = None; features = [] }
    ∷ record { name = codes "A"; parent = Some (class_number 0); features = [] }
    ∷ record { name = codes "B"; parent = Some (class_number 0); features = [] } ∷ []

chain_of_b : IsChain three (Some (class_number 2)) (class_number 2 ∷ class_number 0 ∷ [])
chain_of_b = (refl, (refl, tt))

name_of_a : name_of three (class_number 1) ≡ codes "A"
name_of_a = refl
