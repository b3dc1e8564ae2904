-- `Conforms` says which type conforms to which in a class, and `IsJoinOfTypes` which type is the join of two types: the least to which both conform (the Cool
-- manual, section 4).
use Rattle.std.specs.Prelude.{ℕ, ◌<◌, List, length, Option, Some, None}
use Rattle.cool_classes.specs.declared.class_id.ClassId.{ClassId}
use Rattle.cool_classes.specs.declared.class_id.Ty.{Ty}
use Rattle.cool_classes.specs.declared.class_id.Ty.TheVariants.{Class as IsClass, SelfType}
use Rattle.cool_classes.specs.Chains.{Class, Below}
use Rattle.cool_classes.specs.Features.{Denotes}

-- a type of a table: one of its classes, or SELF_TYPE
abbrev pub IsType : List Class → Ty → Type 0
IsType p (IsClass a) = a.0 < length p
IsType p SelfType = Unit {0}

-- the type of a name, or none where it is no class and not SELF_TYPE
abbrev pub IsTypeNamed : List Class → List ℕ → Option Ty → Type 0
IsTypeNamed p name (Some a) = Denotes p name a
IsTypeNamed p name None = (a : Ty) → Denotes p name a → ⊥

-- the class that a type stands for in a class
abbrev pub class_of : ClassId → Ty → ClassId
class_of c (IsClass a) = a
class_of c SelfType = c

-- In class c, the first type conforms to the second: a class to itself and those above it, SELF_TYPE to itself and to the types that c conforms to.
abbrev pub Conforms : List Class → ClassId → Ty → Ty → Type 0
Conforms p c SelfType SelfType = Unit {0}
Conforms p c SelfType (IsClass b) = Below p c b
Conforms p c (IsClass a) SelfType = ⊥
Conforms p c (IsClass a) (IsClass b) = Below p a b

-- Both conform to the join, and it conforms to every type to which both do.
pub record IsJoinOfTypes (p : List Class) (c : ClassId) (a b join : Ty) : Type 0 where
  pub left : Conforms p c a join
  pub right : Conforms p c b join
  pub least : (other : Ty) → Conforms p c a other → Conforms p c b other → Conforms p c join other
