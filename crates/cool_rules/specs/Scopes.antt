-- The scope of an expression, as a list of bindings of names to their types or to other values, the latest first (the Cool manual, section 12).
use Rattle.std.specs.Prelude.{◌≡◌, ℕ, List, [], ◌∷◌, ◌++◌, codes, bytes_eq, if◌then◌else◌, Option, Some, None, refl}
use Rattle.std.specs.List.{AllByRecursion}
use Rattle.cool_classes.specs.declared.class_id.Ty.{Ty}
use Rattle.cool_classes.specs.declared.class_id.Ty.TheVariants.{SelfType}
use Rattle.cool_classes.specs.Chains.{Class}
use Rattle.cool_rules.specs.Conformance.{IsType}
use Rattle.cool_rules.specs.declared.scope.Entry.{Entry}

-- a name and its value
pub record Bound (T : Type 0) : Type 0 where
  pub name : List ℕ
  pub value : T

-- a name and its type
abbrev pub Binding : Type 0
Binding = Bound Ty

-- the types of names in scope are types of the table
abbrev pub AreTypes : List Class → List Binding → Type 0
AreTypes p scope = AllByRecursion (λ b. IsType p b.value) scope

-- the value of the latest binding of a name
abbrev pub found : {T : Type 0} → List (Bound T) → List ℕ → Option T
found [] name = None
found (b ∷ bs) name = if bytes_eq b.name name then Some b.value else found bs name

-- the bindings without the latest
abbrev pub left : {B : Type 0} → List B → List B
left [] = []
left (b ∷ bs) = bs

-- bindings entered one after the other into a scope
abbrev pub entered : {B : Type 0} → List B → List B → List B
entered [] o = o
entered (b ∷ bs) o = entered bs (b ∷ o)

-- entries in the order in which they were made, seen with the latest first
abbrev pub binding_of : {T : Type 0} → Entry T → Bound T
binding_of e = record { name = e.name.now; value = e.value }

abbrev pub latest_first : {T : Type 0} → List (Entry T) → List (Bound T)
latest_first [] = []
latest_first (e ∷ es) = latest_first es ++ binding_of e ∷ []

-- Worked example: a name that is bound twice has its later type.
shadowed : (a b : Ty) → found (record { name = codes "x"; value = a } ∷ record { name = codes "y"; value = SelfType } ∷ record { name = codes "x"; value = b } ∷ []) (codes "x") ≡ Some a
shadowed a b = refl
