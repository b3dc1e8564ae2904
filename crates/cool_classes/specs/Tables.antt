-- `IsTable` says which lists of classes are the class table of a program, and `IsWholeTable` adds that every chain of parents ends at Object (the Cool
-- manual, sections 3 to 8).
use Rattle.std.specs.Prelude.{◌≡◌, ◌≢◌, ℕ, ◌+◌, ◌<◌, ◌^◌, List, [], ◌∷◌, length, take, Option, Some, None, codes}
use Rattle.std.specs.List.{AllByRecursion}
use Rattle.cool_syntax.specs.declared.file_tree.Feature.{Feature}
use Rattle.cool_syntax.specs.declared.file_tree.Feature.TheVariants.{Method, Attribute}
use Rattle.cool_syntax.specs.declared.file_tree.Formal.{Formal}
use Rattle.cool_classes.specs.declared.class_id.ClassId.{ClassId}
use Rattle.cool_classes.specs.declared.class_id.Ty.{Ty}
use Rattle.cool_classes.specs.Chains.{Class, class_number, name_of, parent_of, features_of, IsChain}
use Rattle.cool_classes.specs.Features.{Denotes}
use Rattle.cool_classes.specs.Names.{self_type}

-- the basic classes
abbrev pub basic_classes : List Class
basic_classes =
    record { name = codes "Object"; parent = None; features = [] }
    ∷ record { name = codes "IO"; parent = Some (class_number 0); features = [] }
    ∷ record { name = codes "Int"; parent = Some (class_number 0); features = [] }
    ∷ record { name = codes "Bool"; parent = Some (class_number 0); features = [] }
    ∷ record { name = codes "String"; parent = Some (class_number 0); features = [] }
    ∷ []

-- a name is that of a class
abbrev pub IsClassName : List Class → List ℕ → Type 0
IsClassName p name = (c : ClassId) × (c.0 < length p) × (name_of p c ≡ name)

-- a name is that of a class or SELF_TYPE
abbrev pub IsTypeName : List Class → List ℕ → Type 0
IsTypeName p name = (t : Ty) × Denotes p name t

-- the type names of a feature are classes or SELF_TYPE, and those of its formals are classes
abbrev pub IsTyped : List Class → Feature → Type 0
IsTyped p (Method m) = (length m.formals < 2 ^ 32) × AllByRecursion (λ (f : Formal). IsClassName p f.declared.name) m.formals × IsTypeName p m.result.name
IsTyped p (Attribute a) = IsTypeName p a.declared.name

-- The five basic classes stand first. Each class has a chain. No two classes have one name, none is named SELF_TYPE, and the types of
-- features are types. There are fewer than 2^32 classes, features of
-- each class and formals of each method.
pub record IsTable (p : List Class) : Type 0 where
  pub basic : take 5 p ≡ basic_classes
  pub chains : (c : ClassId) → c.0 < length p → (ds : List ClassId) × IsChain p (Some c) ds
  pub names : (c d : ClassId) → c.0 < length p → d.0 < length p → name_of p c ≡ name_of p d → c ≡ d
  pub no_self_type : (c : ClassId) → c.0 < length p → name_of p c ≢ self_type
  pub types : (c : ClassId) → c.0 < length p → AllByRecursion (IsTyped p) (features_of p c)
  pub few : length p < 2 ^ 32
  pub few_features : (c : ClassId) → c.0 < length p → length (features_of p c) < 2 ^ 32

-- Each class but Object stands one deeper than its parent.
pub record IsGrounded (p : List Class) (depth : ClassId → ℕ) : Type 0 where
  pub above : (c q : ClassId) → c.0 < length p → parent_of p c ≡ Some q → (q.0 < length p) × (depth c ≡ depth q + 1)
  pub top : (c : ClassId) → c.0 < length p → parent_of p c ≡ None → (c ≡ class_number 0) × (depth c ≡ 0)

-- a whole table: a table in which every chain of parents ends at Object
pub record IsWholeTable (p : List Class) : Type 0 where
  pub table : IsTable p
  pub depth : ClassId → ℕ
  pub grounded : IsGrounded p depth

-- the class of a name, or none where no class has it
abbrev pub IsNamed : List Class → List ℕ → Option ClassId → Type 0
IsNamed p name None = (c : ClassId) → c.0 < length p → name_of p c ≢ name
IsNamed p name (Some c) = (c.0 < length p) × (name_of p c ≡ name)
