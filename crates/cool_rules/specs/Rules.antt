-- The typing rules as functions of a class table: conformance, joins (least common supertypes), and the types and methods that names denote (the Cool manual,
-- sections 4, 7 and 12).
use Rattle.std.specs.Prelude.{ℕ, List, [], ◌∷◌, map, Bool, true, false, ◌||◌, nat_eq, bytes_eq, if◌then◌else◌, Option, Some, option_map, unwrap_or}
use Rattle.cool_syntax.specs.declared.file_tree.Formal.{Formal}
use Rattle.cool_classes.specs.declared.class_id.ClassId.{ClassId}
use Rattle.cool_classes.specs.declared.class_id.Ty.{Ty}
use Rattle.cool_classes.specs.declared.class_id.Ty.TheVariants.{Class as IsClass, SelfType}
use Rattle.cool_classes.specs.declared.method.MethodRef.{MethodRef}
use Rattle.cool_classes.specs.declared.method.AttributeRef.{AttributeRef}
use Rattle.cool_classes.specs.Chains.{Class, class_number}
use Rattle.cool_classes.specs.ClimbedChains.{chain}
use Rattle.cool_classes.specs.Features.{implementation, attribute_name, attribute_type}
use Rattle.cool_classes.specs.Names.{first_named, self_type}
use Rattle.cool_rules.specs.Scopes.{Binding}

-- a class is among some
unfoldable pub is_among : List ClassId → ClassId → Bool
is_among [] c = false
is_among (d ∷ ds) c = nat_eq d.0 c.0 || is_among ds c

-- the first of some classes that is among others; Object where there is none
unfoldable pub first_among : List ClassId → List ClassId → ClassId
first_among [] es = class_number 0
first_among (d ∷ ds) es = if is_among es d then d else first_among ds es

-- two types are the same
abbrev pub same_type : Ty → Ty → Bool
same_type SelfType SelfType = true
same_type SelfType (IsClass b) = false
same_type (IsClass a) SelfType = false
same_type (IsClass a) (IsClass b) = nat_eq a.0 b.0

-- one type conforms to another in a class
unfoldable pub do_conform : List Class → ClassId → Ty → Ty → Bool
do_conform p c SelfType SelfType = true
do_conform p c SelfType (IsClass b) = is_among (chain p c) b
do_conform p c (IsClass a) SelfType = false
do_conform p c (IsClass a) (IsClass b) = is_among (chain p a) b

-- the join of two types in a class
unfoldable pub join_in : List Class → ClassId → Ty → Ty → Ty
join_in p c SelfType SelfType = SelfType
join_in p c SelfType (IsClass b) = IsClass (first_among (chain p c) (chain p b))
join_in p c (IsClass a) SelfType = IsClass (first_among (chain p a) (chain p c))
join_in p c (IsClass a) (IsClass b) = IsClass (first_among (chain p a) (chain p b))

-- the class of a name, if there is one
abbrev pub class_named : List Class → List ℕ → Option ClassId
class_named p name = first_named 0 (map (λ (c : Class). c.name) p) name

-- the type of a name, if it has one
unfoldable pub type_of_name : List Class → List ℕ → Option Ty
type_of_name p name = if bytes_eq name self_type then Some SelfType else option_map IsClass (class_named p name)

-- the type that a name of the table means
unfoldable pub type_meant : List Class → List ℕ → Ty
type_meant p name = unwrap_or (type_of_name p name) (IsClass (class_number 0))

-- the method of a name that a class has, the nearest on its chain
unfoldable pub method_of : List Class → ClassId → List ℕ → Option MethodRef
method_of p c name = implementation p (chain p c) name

-- attributes and formals as names in scope
abbrev pub attribute_binding : List Class → AttributeRef → Binding
attribute_binding p a = record { name = attribute_name p a; value = type_meant p (attribute_type p a) }

abbrev pub formal_binding : List Class → Formal → Binding
formal_binding p f = record { name = f.name; value = type_meant p f.declared.name }
