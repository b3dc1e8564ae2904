-- If all names in scope have types of the class table, each name that is looked up there has a type of the class table.
use Rattle.std.proofs.Common.{ℕ, List, [], ◌∷◌, Bool, true, false, Option, Some, None}
use Rattle.std.specs.Prelude.{bytes_eq, if◌then◌else◌, IfSome}
use Rattle.std.specs.Option.{option_or}
use Rattle.cool_classes.specs.declared.class_id.Ty.{Ty}
use Rattle.cool_classes.specs.Chains.{Class}
use Rattle.cool_rules.specs.Conformance.{IsType}
use Rattle.cool_rules.specs.Scopes.{AreTypes, Binding, found}

-- the type that the latest binding of a name gives is a type
pub found_type : (p : List Class) (bs : List Binding) (name : List ℕ) → AreTypes p bs → IfSome (found bs name) (IsType p)
found_type p [] name h = tt
found_type p (b ∷ bs) name h = by (bytes_eq b.name name) (found_type p bs name h.1)
  where
    by : (same : Bool) → IfSome (found bs name) (IsType p) → IfSome (if same then Some b.value else found bs name) (IsType p)
    by true later = h.0
    by false later = later

-- and so is the first of two such answers
either_type : (p : List Class) (a b : Option Ty) → IfSome a (IsType p) → IfSome b (IsType p) → IfSome (option_or a b) (IsType p)
either_type p (Some x) b h k = h
either_type p None b h k = k

-- the type of a name in one scope or else in another
pub found_in_either : (p : List Class) (locals attributes : List Binding) (name : List ℕ) → AreTypes p locals → AreTypes p attributes
    → IfSome (option_or (found locals name) (found attributes name)) (IsType p)
found_in_either p locals attributes name h k = either_type p (found locals name) (found attributes name) (found_type p locals name h) (found_type p attributes name k)
