-- `types_told` and `methods_told` are the types and the methods that an explanation tells: functions of the class table of the files, and of the fault.
use Rattle.std.specs.Prelude.{◌≡◌, refl, ℕ, List, [], ◌∷◌, ◌++◌, length, get_or, take, drop, codes, bytes_eq, ◌&&◌, not, nat_lt, if◌then◌else◌, Option, Some, None}
use Rattle.std.specs.List.{flat_map, list_any}
use Rattle.cool_classes.specs.declared.class_id.ClassId.{ClassId}
use Rattle.cool_classes.specs.declared.class_id.Ty.{Ty}
use Rattle.cool_classes.specs.declared.class_id.Ty.TheVariants.{Class as IsClass, SelfType}
use Rattle.cool_classes.specs.declared.method.MethodRef.{MethodRef}
use Rattle.cool_classes.specs.Chains.{Class, features_of, name_of}
use Rattle.cool_classes.specs.ClimbedChains.{chain}
use Rattle.cool_classes.specs.Features.{basic_methods}
use Rattle.cool_classes.specs.LawfulTables.{method_names}
use Rattle.cool_classes.specs.MethodNames.{method_names as basic_names}
use Rattle.cool_classes.specs.Names.{self_type}
use Rattle.cool_rules.specs.Rules.{method_of}
use Rattle.cool_faults.specs.declared.fault.Fault.{Fault}
use Rattle.cool_faults.specs.declared.fault.Fault.TheVariants.{Lex, Syntax, Class as OfClasses, Typing}
use Rattle.cool_faults.specs.Files.{bytes_of}
use Rattle.cool_faults.specs.Verdicts.{place_of}
use Rattle.cool_names.specs.Meanings.{method_meaning}
use Rattle.cool_mend.specs.declared.explanation.Methods.{Methods}
use Rattle.cool_mend.specs.declared.explanation.Types.{Types}
use Rattle.cool_mend.specs.declared.types.TheConstants.{MOST_METHODS}

-- Types

-- how a type is written
abbrev pub type_text : List Class → Ty → List ℕ
type_text p SelfType = self_type
type_text p (IsClass c) = name_of p c

-- the type that was found and the one that was due, of a fault of typing that tells them
abbrev pub found_type : Fault → Option Ty
found_type (Lex f) = None
found_type (Syntax f) = None
found_type (OfClasses f) = None
found_type (Typing f) = f.found

abbrev pub due_type : Fault → Option Ty
due_type (Lex f) = None
due_type (Syntax f) = None
due_type (OfClasses f) = None
due_type (Typing f) = f.due

-- two types, as they are written
pub record TypeTexts : Type 0 where
  pub found : List ℕ
  pub due : List ℕ

-- a found type and one that was due, if there are both
abbrev pub both_texts : List Class → Option Ty → Option Ty → Option TypeTexts
both_texts p None due = None
both_texts p (Some found) None = None
both_texts p (Some found) (Some due) = Some (record { found = type_text p found; due = type_text p due })

-- the types that are told of a fault: both of its types, if there is a class table and the fault has both
abbrev pub types_told : Option (List Class) → Fault → Option TypeTexts
types_told None fault = None
types_told (Some p) fault = both_texts p (found_type fault) (due_type fault)

-- Methods

-- how a method is written: its name and its signature
abbrev pub method_text : List Class → List ℕ → MethodRef → List ℕ
method_text p name method = name ++ (method_meaning p method).declared

-- texts with one more, unless it is one of them or they are `MOST_METHODS`
abbrev pub with_text : List (List ℕ) → List ℕ → List (List ℕ)
with_text all text = if nat_lt (length all) MOST_METHODS && not (list_any (λ other. bytes_eq other text) all) then all ++ text ∷ [] else all

-- the same with the text of a method of this name, if there is one
abbrev pub with_found : List Class → List ℕ → List (List ℕ) → Option MethodRef → List (List ℕ)
with_found p name all None = all
with_found p name all (Some method) = with_text all (method_text p name method)

-- the same with the method of each of these names that a class has
abbrev pub with_methods : List Class → ClassId → List (List ℕ) → List (List ℕ) → List (List ℕ)
with_methods p c all [] = all
with_methods p c all (name ∷ names) = with_methods p c (with_found p name all (method_of p c name)) names

-- the names of the methods that a class defines: those of its features, in their order, or those of a basic class
abbrev pub own_names : List Class → ClassId → List (List ℕ)
own_names p c = method_names (features_of p c) ++ basic_names (basic_methods c.0)

-- the methods that a class has: its own, and then those of its ancestors, from its parent up
abbrev pub all_methods : List Class → ClassId → List (List ℕ)
all_methods p c = with_methods p c [] (flat_map (own_names p) (chain p c))

-- the method of this name that was found in a class, or all methods of the class if none was found
abbrev pub found_or_all : List Class → ClassId → List ℕ → Option MethodRef → List (List ℕ)
found_or_all p c name None = all_methods p c
found_or_all p c name (Some method) = method_text p name method ∷ []

-- a class and methods of it, as they are written
pub record MethodTexts : Type 0 where
  pub class : List ℕ
  pub all : List (List ℕ)

-- the methods of a found class, if no type was due
abbrev pub class_texts : List Class → List ℕ → Option Ty → Option Ty → Option MethodTexts
class_texts p word None due = None
class_texts p word (Some SelfType) due = None
class_texts p word (Some (IsClass c)) (Some due) = None
class_texts p word (Some (IsClass c)) None = Some (record { class = name_of p c; all = found_or_all p c word (method_of p c word) })

-- The methods that are told of a fault, at which this word stands, if there is a class table and the fault looked for a method in a class: the method that
-- the word names, or all methods of the class.
abbrev pub methods_told : Option (List Class) → Fault → List ℕ → Option MethodTexts
methods_told None fault word = None
methods_told (Some p) fault word = class_texts p word (found_type fault) (due_type fault)

-- Explanations

-- the bytes from `start` up to `end`, in the file of a fault
abbrev pub word_at : List (List ℕ) → Fault → ℕ → ℕ → List ℕ
word_at files fault start end = drop start (take end (get_or files (place_of fault).file []))

-- the types and the methods in an explanation, as they are written
abbrev pub type_texts : Types → TypeTexts
type_texts told = record { found = told.found.items; due = told.due.items }

abbrev pub method_texts : Methods → MethodTexts
method_texts told = record { class = told.class.items; all = bytes_of told.all.items }

-- Worked examples: a text that is there is not added, and another one is.
told_once : with_text (codes "copy():SELF_TYPE" ∷ []) (codes "copy():SELF_TYPE") ≡ codes "copy():SELF_TYPE" ∷ []
told_once = refl

one_more_told : with_text (codes "copy():SELF_TYPE" ∷ []) (codes "abort():Object") ≡ codes "copy():SELF_TYPE" ∷ codes "abort():Object" ∷ []
one_more_told = refl
