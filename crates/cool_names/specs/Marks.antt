-- `marks_of` lists the marks of an expression: each occurrence of a name, with its source location, its role and the definition that it refers to, in the order
-- of the text (the Cool manual, sections 7 and 12).
use Rattle.std.specs.Prelude.{◌≡◌, refl, ℕ, List, [], ◌∷◌, ◌++◌, Bool, not, Option, Some, None, option_map, codes, bytes_eq, nat_eq, if◌then◌else◌}
use Rattle.std.specs.Option.{option_or}
use Rattle.cool_syntax.specs.declared.place.Place.{Place}
use Rattle.cool_syntax.specs.declared.type_ref.TypeRef.{TypeRef}
use Rattle.cool_syntax.specs.declared.file_tree.ClassDef.{ClassDef}
use Rattle.cool_syntax.specs.Tree.{Tree, Trees, MaybeTree, Cases, Last, More, Without, With, NoCase, CaseOf, place_of}
use Rattle.cool_syntax.specs.Tree as trees
use Rattle.cool_classes.specs.declared.class_id.ClassId.{ClassId}
use Rattle.cool_classes.specs.declared.class_id.Ty.{Ty}
use Rattle.cool_classes.specs.declared.class_id.Ty.TheVariants.{SelfType}
use Rattle.cool_classes.specs.declared.method.MethodRef.{MethodRef}
use Rattle.cool_classes.specs.Chains.{Class}
use Rattle.cool_classes.specs.Features.{result_of}
use Rattle.cool_rules.specs.Conformance.{class_of}
use Rattle.cool_rules.specs.Rules.{method_of, type_meant, type_of_name}
use Rattle.cool_rules.specs.Scopes.{Bound, found}
use Rattle.cool_rules.specs.Typing.{bool_type, int_type, object_type, result_on, string_type}
use Rattle.cool_names.specs.declared.mark.Mark.{Mark}
use Rattle.cool_names.specs.declared.mark.Meaning.{Meaning}
use Rattle.cool_names.specs.declared.mark.Role.{Role}
use Rattle.cool_names.specs.declared.mark.Role.TheVariants as role
use Rattle.cool_names.specs.declared.mark.Target.TheVariants.{At}
use Rattle.cool_names.specs.Scopes.{Variable}
use Rattle.cool_names.specs.Meanings.{call_meaning, name_meaning, type_meaning}

-- the context of an expression: the class table and the definitions of its classes, the class whose feature it is, and the attributes of that class
pub record Context : Type 0 where
  pub table : List Class
  pub definitions : List ClassDef
  pub class : ClassId
  pub attributes : List (Bound Variable)

abbrev pub mark : Place → Role → List ℕ → Meaning → Mark
mark at kind name meaning = record { at = at; role = kind; name = name; meaning = meaning }

-- the name of a type where the text uses it
abbrev pub type_mark : List Class → List ClassDef → TypeRef → Mark
type_mark p ds r = mark r.at role.Type r.name (type_meaning p ds r.name)

-- a variable where it is declared, which means itself, and its type
abbrev pub declared_marks : List Class → List ClassDef → Role → Place → List ℕ → TypeRef → List Mark
declared_marks p ds kind at name declared = mark at kind name (record { declared = declared.name; target = At at }) ∷ type_mark p ds declared ∷ []

abbrev pub with_variable : List ℕ → TypeRef → Place → List (Bound Variable) → List (Bound Variable)
with_variable name declared at scope = record { name = name; value = record { declared = declared.name; at = at } } ∷ scope

-- The rules type a whole feature or nothing of it, and a text that is being edited is often not typed yet. So a call's method is found by the type that its
-- receiver has at first sight; if the rules give the receiver a type, it is that one (`law_seen_type`).
--
-- The type that an expression has at first sight: a name, a constant, a new object, an operator and a call have one. A conditional, a block, a `let` and a
-- `case` have none, nor has an expression whose name or method is unknown.

abbrev pub type_declared : List Class → Option Variable → Option Ty
type_declared p None = None
type_declared p (Some v) = type_of_name p v.declared

abbrev pub type_of_variable : Context → List (Bound Variable) → List ℕ → Option Ty
type_of_variable s scope name =
    if bytes_eq name (codes "self") then Some SelfType else type_declared s.table (option_or (found scope name) (found s.attributes name))

abbrev pub type_of_result : List Class → Ty → Option MethodRef → Option Ty
type_of_result p receiver None = None
type_of_result p receiver (Some m) = Some (result_on receiver (type_meant p (result_of p m)))

-- the type of a call on a receiver of this type, of a method that is looked for in the class of another
abbrev pub type_of_call : Context → Option Ty → Option Ty → List ℕ → Option Ty
type_of_call s None owner name = None
type_of_call s (Some receiver) None name = None
type_of_call s (Some receiver) (Some owner) name = type_of_result s.table receiver (method_of s.table (class_of s.class owner) name)

abbrev pub seen_type : Context → List (Bound Variable) → Tree → Option Ty
seen_type s scope (trees.Id at name) = type_of_variable s scope name
seen_type s scope (trees.Assign at name t) = seen_type s scope t
seen_type s scope (trees.Dispatch at t name ts) = type_of_call s (seen_type s scope t) (seen_type s scope t) name
seen_type s scope (trees.StaticDispatch at t class name ts) = type_of_call s (seen_type s scope t) (type_of_name s.table class.name) name
seen_type s scope (trees.If at t y n) = None
seen_type s scope (trees.While at t b) = Some object_type
seen_type s scope (trees.Block at ts) = None
seen_type s scope (trees.Let at name declared o t) = None
seen_type s scope (trees.Case at t cs) = None
seen_type s scope (trees.New at class) = type_of_name s.table class.name
seen_type s scope (trees.IsVoid at t) = Some bool_type
seen_type s scope (trees.Arith at op a b) = Some int_type
seen_type s scope (trees.Neg at t) = Some int_type
seen_type s scope (trees.Compare at op a b) = Some bool_type
seen_type s scope (trees.Not at t) = Some bool_type
seen_type s scope (trees.Int at value) = Some int_type
seen_type s scope (trees.Str at bytes) = Some string_type
seen_type s scope (trees.Bool at value) = Some bool_type

-- a call of a method, by the type whose class has it
abbrev pub call_mark : Context → Place → List ℕ → Option Ty → Mark
call_mark s at name owner = mark at role.Call name (call_meaning s.table (option_map (class_of s.class) owner) name)

-- The receiver stands in the text: where a call has none, its tree has self at the place of the method's name.
abbrev pub is_written : Place → Tree → Bool
is_written at t = not (nat_eq (place_of t).byte at.byte)

abbrev mutual
  -- the marks of an expression, with these variables in scope
  pub marks_of : Context → List (Bound Variable) → Tree → List Mark
  marks_of s scope (trees.Id at name) = mark at role.Variable name (name_meaning scope s.attributes name) ∷ []
  marks_of s scope (trees.Assign at name t) = mark at role.Assigned name (name_meaning scope s.attributes name) ∷ marks_of s scope t
  marks_of s scope (trees.Dispatch at t name ts) =
      (if is_written at t then marks_of s scope t else []) ++ (call_mark s at name (seen_type s scope t) ∷ marks_of_all s scope ts)
  marks_of s scope (trees.StaticDispatch at t class name ts) =
      marks_of s scope t ++ (type_mark s.table s.definitions class ∷ call_mark s at name (type_of_name s.table class.name) ∷ marks_of_all s scope ts)
  marks_of s scope (trees.If at t y n) = marks_of s scope t ++ (marks_of s scope y ++ marks_of s scope n)
  marks_of s scope (trees.While at t b) = marks_of s scope t ++ marks_of s scope b
  marks_of s scope (trees.Block at ts) = marks_of_all s scope ts
  marks_of s scope (trees.Let at name declared o t) =
      declared_marks s.table s.definitions role.Let at name declared ++ (marks_of_maybe s scope o ++ marks_of s (with_variable name declared at scope) t)
  marks_of s scope (trees.Case at t cs) = marks_of s scope t ++ marks_of_cases s scope cs
  marks_of s scope (trees.New at class) = type_mark s.table s.definitions class ∷ []
  marks_of s scope (trees.IsVoid at t) = marks_of s scope t
  marks_of s scope (trees.Arith at op a b) = marks_of s scope a ++ marks_of s scope b
  marks_of s scope (trees.Neg at t) = marks_of s scope t
  marks_of s scope (trees.Compare at op a b) = marks_of s scope a ++ marks_of s scope b
  marks_of s scope (trees.Not at t) = marks_of s scope t
  marks_of s scope (trees.Int at value) = []
  marks_of s scope (trees.Str at bytes) = []
  marks_of s scope (trees.Bool at value) = []

  -- the marks of expressions in order
  pub marks_of_all : Context → List (Bound Variable) → Trees → List Mark
  marks_of_all s scope Last = []
  marks_of_all s scope (More t ts) = marks_of s scope t ++ marks_of_all s scope ts

  -- the marks of an initial value, if there is one
  pub marks_of_maybe : Context → List (Bound Variable) → MaybeTree → List Mark
  marks_of_maybe s scope Without = []
  marks_of_maybe s scope (With t) = marks_of s scope t

  -- the marks of the branches of a case, each with its variable in scope
  pub marks_of_cases : Context → List (Bound Variable) → Cases → List Mark
  marks_of_cases s scope NoCase = []
  marks_of_cases s scope (CaseOf at name declared t cs) =
      declared_marks s.table s.definitions role.Case at name declared ++ (marks_of s (with_variable name declared at scope) t ++ marks_of_cases s scope cs)

-- Worked example: in `let x : Int in x`, the use of x means the let, and is an Int.
use_of_let : (s : Context) (p q : Place) (r : TypeRef) → marks_of s [] (trees.Let p (codes "x") r Without (trees.Id q (codes "x")))
    ≡ mark p role.Let (codes "x") (record { declared = r.name; target = At p }) ∷ type_mark s.table s.definitions r
    ∷ mark q role.Variable (codes "x") (record { declared = r.name; target = At p }) ∷ []
use_of_let s p q r = refl
