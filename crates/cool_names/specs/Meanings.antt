-- `Meaning` describes the definition that an occurrence of a name refers to: the type that the definition declares, and its source location (the Cool manual,
-- sections 3 to 8 and 12).
use Rattle.std.specs.Prelude.{◌≡◌, refl, ℕ, ◌-◌, List, [], ◌∷◌, ◌++◌, map, get_or, slice_get, Option, Some, None, codes, bytes_eq, nat_lt, if◌then◌else◌}
use Rattle.std.specs.Option.{option_or}
use Rattle.cool_syntax.specs.declared.file_tree.ClassDef.{ClassDef}
use Rattle.cool_syntax.specs.declared.file_tree.Feature.{Feature}
use Rattle.cool_syntax.specs.declared.file_tree.Feature.TheVariants.{Method, Attribute}
use Rattle.cool_syntax.specs.Bare.{nowhere}
use Rattle.cool_classes.specs.declared.class_id.ClassId.{ClassId}
use Rattle.cool_classes.specs.declared.class_id.Ty.{Ty}
use Rattle.cool_classes.specs.declared.class_id.Ty.TheVariants.{Class as IsClass, SelfType}
use Rattle.cool_classes.specs.declared.method.BasicMethod.TheVariants.{Substr}
use Rattle.cool_classes.specs.declared.method.MethodRef.{MethodRef}
use Rattle.cool_classes.specs.declared.method.MethodRef.TheVariants.{Basic, User}
use Rattle.cool_classes.specs.Chains.{Class, features_of}
use Rattle.cool_classes.specs.Features.{basic_formals, basic_result}
use Rattle.cool_classes.specs.Names.{self_type}
use Rattle.cool_rules.specs.Rules.{method_of, type_of_name}
use Rattle.cool_rules.specs.Scopes.{Bound, found}
use Rattle.cool_names.specs.declared.mark.Target.{Target}
use Rattle.cool_names.specs.declared.mark.Target.TheVariants.{Unknown, Given, At}
use Rattle.cool_names.specs.declared.mark.Meaning.{Meaning}
use Rattle.cool_names.specs.Scopes.{Variable}

-- a name that is bound to nothing
abbrev pub unknown : Meaning
unknown = record { declared = codes "?"; target = Unknown }

-- Variables

abbrev pub variable_meaning : Option Variable → Meaning
variable_meaning None = unknown
variable_meaning (Some v) = record { declared = v.declared; target = At v.at }

-- the object itself, whose type is SELF_TYPE
abbrev pub self_meaning : Meaning
self_meaning = record { declared = self_type; target = Given }

-- a name among the variables of an expression and then the attributes of its class
abbrev pub name_meaning : List (Bound Variable) → List (Bound Variable) → List ℕ → Meaning
name_meaning locals attributes name =
    if bytes_eq name (codes "self") then self_meaning else variable_meaning (option_or (found locals name) (found attributes name))

-- Classes

-- the place of a class's definition: the five basic ones come first and are given
abbrev pub class_target : List ClassDef → ClassId → Target
class_target ds c = if nat_lt c.0 5 then Given else At (get_or (map (λ (d : ClassDef). d.at) ds) (c.0 - 5) nowhere)

abbrev pub type_meaning_of : List ClassDef → List ℕ → Option Ty → Meaning
type_meaning_of ds name None = unknown
type_meaning_of ds name (Some SelfType) = record { declared = name; target = Given }
type_meaning_of ds name (Some (IsClass c)) = record { declared = name; target = class_target ds c }

-- the name of a class, or SELF_TYPE
abbrev pub type_meaning : List Class → List ClassDef → List ℕ → Meaning
type_meaning p ds name = type_meaning_of ds name (type_of_name p name)

-- Methods

-- names with a sign before each but the first, which has this one
abbrev pub separated : List ℕ → List (List ℕ) → List ℕ
separated sign [] = []
separated sign (name ∷ names) = sign ++ (name ++ separated (codes ",") names)

-- a method's signature: (FORMAL,FORMAL):RESULT
abbrev pub signature : List (List ℕ) → List ℕ → List ℕ
signature formals result = codes "(" ++ (separated [] formals ++ (codes "):" ++ result))

-- the meaning of a feature: its declaration
abbrev pub feature_meaning : Feature → Meaning
feature_meaning (Method m) = record { declared = signature (map (λ f. f.declared.name) m.formals) m.result.name; target = At m.at }
feature_meaning (Attribute a) = record { declared = a.declared.name; target = At a.at }

abbrev pub meaning_there : Option Feature → Meaning
meaning_there None = unknown
meaning_there (Some f) = feature_meaning f

abbrev pub method_meaning : List Class → MethodRef → Meaning
method_meaning p (Basic b) = record { declared = signature (basic_formals b) (basic_result b); target = Given }
method_meaning p (User c k) = meaning_there (slice_get (features_of p c) k)

abbrev pub found_method : List Class → Option MethodRef → Meaning
found_method p None = unknown
found_method p (Some m) = method_meaning p m

-- a method's name in a call on an object of a class, where the class is known
abbrev pub call_meaning : List Class → Option ClassId → List ℕ → Meaning
call_meaning p None name = unknown
call_meaning p (Some c) name = found_method p (method_of p c name)

-- Worked example: the signature of String's `substr`.
signature_of_substr : signature (basic_formals Substr) (basic_result Substr) ≡ codes "(Int,Int):String"
signature_of_substr = refl
