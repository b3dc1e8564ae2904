-- The methods and attributes of a class with those that it inherits, and the types that they declare (the Cool manual, sections 5, 6 and
-- 8).
use Rattle.std.specs.Prelude.{◌≡◌, ℕ, zero, suc, ◌+◌, ◌<◌, List, [], ◌∷◌, ◌++◌, map, length, slice_get, Option, Some, None, option_map, Bool, false, codes, bytes_eq, nat_lt, if◌then◌else◌, refl}
use Rattle.cool_syntax.specs.declared.file_tree.Feature.{Feature}
use Rattle.cool_syntax.specs.declared.file_tree.Feature.TheVariants.{Method, Attribute}
use Rattle.cool_classes.specs.declared.class_id.ClassId.{ClassId}
use Rattle.cool_classes.specs.declared.class_id.Ty.{Ty}
use Rattle.cool_classes.specs.declared.class_id.Ty.TheVariants.{Class as IsClass, SelfType}
use Rattle.cool_classes.specs.declared.method.BasicMethod.{BasicMethod}
use Rattle.cool_classes.specs.declared.method.BasicMethod.TheVariants.{Abort, TypeName, Copy, OutString, OutInt, InString, InInt, Length, Concat, Substr}
use Rattle.cool_classes.specs.declared.method.MethodRef.{MethodRef}
use Rattle.cool_classes.specs.declared.method.MethodRef.TheVariants.{Basic, User}
use Rattle.cool_classes.specs.declared.method.AttributeRef.{AttributeRef}
use Rattle.cool_classes.specs.Chains.{Class, class_number, name_of, features_of}
use Rattle.cool_classes.specs.FirstNames.{first_with}
use Rattle.cool_classes.specs.Names.{self_type}

-- the methods of the basic classes (section 8)
pub record NamedMethod : Type 0 where
  pub name : List ℕ
  pub method : BasicMethod

abbrev pub object_methods : List NamedMethod
object_methods =
    record { name = codes "abort"; method = Abort }
    ∷ record { name = codes "type_name"; method = TypeName }
    ∷ record { name = codes "copy"; method = Copy }
    ∷ []

abbrev pub io_methods : List NamedMethod
io_methods =
    record { name = codes "out_string"; method = OutString }
    ∷ record { name = codes "out_int"; method = OutInt }
    ∷ record { name = codes "in_string"; method = InString }
    ∷ record { name = codes "in_int"; method = InInt }
    ∷ []

abbrev pub string_methods : List NamedMethod
string_methods =
    record { name = codes "length"; method = Length }
    ∷ record { name = codes "concat"; method = Concat }
    ∷ record { name = codes "substr"; method = Substr }
    ∷ []

-- the methods of Object, IO, Int, Bool and String, by the number of the class
abbrev pub basic_methods : ℕ → List NamedMethod
basic_methods zero = object_methods
basic_methods (suc zero) = io_methods
basic_methods (suc (suc zero)) = []
basic_methods (suc (suc (suc zero))) = []
basic_methods (suc (suc (suc (suc zero)))) = string_methods
basic_methods (suc (suc (suc (suc (suc n))))) = []

abbrev pub method_among : List NamedMethod → List ℕ → Option BasicMethod
method_among [] f = None
method_among (m ∷ ms) f = if bytes_eq m.name f then Some m.method else method_among ms f

-- a feature is a method of this name
abbrev pub is_method_named : List ℕ → Feature → Bool
is_method_named f (Method m) = bytes_eq m.name f
is_method_named f (Attribute a) = false

-- the index of the first method of a name among features, which begin at a number
abbrev pub first_method : ℕ → List Feature → List ℕ → Option ℕ
first_method k fs f = first_with (is_method_named f) (λ (n : ℕ). n) k fs

abbrev pub user_method : ClassId → Option ℕ → Option MethodRef
user_method c None = None
user_method c (Some k) = Some (User c k)

-- the first method of a name that a class has of its own
abbrev pub own_method : List Class → ClassId → List ℕ → Option MethodRef
own_method p c f =
    if nat_lt c.0 5 then option_map Basic (method_among (basic_methods c.0) f) else user_method c (first_method 0 (features_of p c) f)

abbrev pub first_of : Option MethodRef → Option MethodRef → Option MethodRef
first_of None o = o
first_of (Some m) o = Some m

-- the method of a name that the classes of a chain have, the nearest first
abbrev pub implementation : List Class → List ClassId → List ℕ → Option MethodRef
implementation p [] f = None
implementation p (d ∷ ds) f = first_of (own_method p d f) (implementation p ds f)

-- the attributes of a class of its own, in textual order
abbrev pub own_attributes : ClassId → ℕ → List Feature → List AttributeRef
own_attributes c k [] = []
own_attributes c k (Method m ∷ fs) = own_attributes c (k + 1) fs
own_attributes c k (Attribute a ∷ fs) = record { owner = c; index = k } ∷ own_attributes c (k + 1) fs

-- the attributes of the classes of a chain, from the greatest ancestor down
abbrev pub attributes_of : List Class → List ClassId → List AttributeRef
attributes_of p [] = []
attributes_of p (d ∷ ds) = attributes_of p ds ++ own_attributes d 0 (features_of p d)

-- the types that a basic method declares
abbrev pub basic_formals : BasicMethod → List (List ℕ)
basic_formals OutString = codes "String" ∷ []
basic_formals OutInt = codes "Int" ∷ []
basic_formals Concat = codes "String" ∷ []
basic_formals Substr = codes "Int" ∷ codes "Int" ∷ []
basic_formals _ = []

abbrev pub basic_result : BasicMethod → List ℕ
basic_result Abort = codes "Object"
basic_result TypeName = codes "String"
basic_result Copy = self_type
basic_result OutString = self_type
basic_result OutInt = self_type
basic_result InString = codes "String"
basic_result InInt = codes "Int"
basic_result Length = codes "Int"
basic_result Concat = codes "String"
basic_result Substr = codes "String"

-- the types that a feature declares
abbrev pub formals_in : Option Feature → List (List ℕ)
formals_in None = []
formals_in (Some (Method m)) = map (λ f. f.declared.name) m.formals
formals_in (Some (Attribute a)) = []

abbrev pub result_in : Option Feature → List ℕ
result_in None = []
result_in (Some (Method m)) = m.result.name
result_in (Some (Attribute a)) = a.declared.name

-- the types of the formals of a method, as the source names them, and its result
abbrev pub formals_of : List Class → MethodRef → List (List ℕ)
formals_of p (Basic b) = basic_formals b
formals_of p (User c k) = formals_in (slice_get (features_of p c) k)

abbrev pub result_of : List Class → MethodRef → List ℕ
result_of p (Basic b) = basic_result b
result_of p (User c k) = result_in (slice_get (features_of p c) k)

abbrev pub IsMethod : Option Feature → Type 0
IsMethod None = ⊥
IsMethod (Some (Method m)) = Unit {0}
IsMethod (Some (Attribute a)) = ⊥

-- the table has this method
abbrev pub HasMethod : List Class → MethodRef → Type 0
HasMethod p (Basic b) = Unit {0}
HasMethod p (User c k) = (c.0 < length p) × IsMethod (slice_get (features_of p c) k)

abbrev pub IsAttribute : Option Feature → Type 0
IsAttribute None = ⊥
IsAttribute (Some (Method m)) = ⊥
IsAttribute (Some (Attribute a)) = Unit {0}

-- The table has this attribute. Next: its name, and its type as the source names it.
abbrev pub HasAttribute : List Class → AttributeRef → Type 0
HasAttribute p a = (a.owner.0 < length p) × IsAttribute (slice_get (features_of p a.owner) a.index)

abbrev pub name_in : Option Feature → List ℕ
name_in None = []
name_in (Some (Method m)) = m.name
name_in (Some (Attribute a)) = a.name

abbrev pub attribute_name : List Class → AttributeRef → List ℕ
attribute_name p a = name_in (slice_get (features_of p a.owner) a.index)

abbrev pub attribute_type : List Class → AttributeRef → List ℕ
attribute_type p a = result_in (slice_get (features_of p a.owner) a.index)

-- a name of the source denotes a type
abbrev pub Denotes : List Class → List ℕ → Ty → Type 0
Denotes p name (IsClass c) = (c.0 < length p) × (name_of p c ≡ name)
Denotes p name SelfType = name ≡ self_type

-- Worked examples: `substr` is a method of String and none of Object.
substr_of_string : own_method [] (class_number 4) (codes "substr") ≡ Some (Basic Substr)
substr_of_string = refl

substr_of_object : own_method [] (class_number 0) (codes "substr") ≡ None
substr_of_object = refl

copy_on_the_chain : implementation [] (class_number 4 ∷ class_number 0 ∷ []) (codes "copy") ≡ Some (Basic Copy)
copy_on_the_chain = refl
