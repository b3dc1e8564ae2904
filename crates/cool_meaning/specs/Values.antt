-- `Value` is a value of a running program, and `State` its state: its store, its input and output (console), and the number of object identities given out so
-- far (the Cool manual, section 13).
use Rattle.std.specs.Prelude.{◌≡◌, refl, ℕ, ℤ, pos, Bool as Truth, false, List, [], ◌∷◌, Option, Some, None, codes, bytes_eq, if◌then◌else◌}
use Rattle.cool_classes.specs.declared.class_id.ClassId.{ClassId}
use Rattle.cool_classes.specs.Chains.{class_number}

-- No object; a number of 32 bits; a truth; a string; an object of a class, with its identity and a location for each of its attributes.
pub data Value : Type 0 where
  Void : Value
  Int : (number : ℤ) → Value
  Bool : (truth : Truth) → Value
  Str : (bytes : List ℕ) → Value
  Obj : (class : ClassId) (identity : ℕ) (locations : List ℕ) → Value

-- the class of an object; void has none
abbrev pub class_of : Value → Option ClassId
class_of Void = None
class_of (Int n) = Some (class_number 2)
class_of (Bool b) = Some (class_number 3)
class_of (Str bytes) = Some (class_number 4)
class_of (Obj c i ls) = Some c

-- the value that a variable of a type begins with
abbrev pub default_of : List ℕ → Value
default_of type =
    if bytes_eq type (codes "Int") then Int (pos 0)
    else (if bytes_eq type (codes "Bool") then Bool false
    else (if bytes_eq type (codes "String") then Str [] else Void))

-- The values at locations 0, 1 and so on, the input that is left, the output, and the number of identities drawn.
pub record State : Type 0 where
  pub store : List Value
  pub input : List ℕ
  pub output : List ℕ
  pub drawn : ℕ

-- the state at the start
abbrev pub start : List ℕ → State
start input = record { store = []; input = input; output = []; drawn = 0 }

-- names with their locations, a later binding in front of an earlier one
pub record Located : Type 0 where
  pub name : List ℕ
  pub location : ℕ

abbrev pub Environment : Type 0
Environment = List Located

-- the location of a name
abbrev pub location_of : Environment → List ℕ → Option ℕ
location_of [] name = None
location_of (b ∷ bs) name = if bytes_eq b.name name then Some b.location else location_of bs name

-- Worked examples: a variable of type String begins empty, one of a class of the program void.
empty_string : default_of (codes "String") ≡ Str []
empty_string = refl

no_object : default_of (codes "Main") ≡ Void
no_object = refl
