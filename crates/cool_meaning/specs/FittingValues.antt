-- `Fits` says that a value has a given class or a subclass, or is void where void is allowed. A `World` lists the class for which each store location was made.
-- `Scene` is the setting in which an expression is evaluated: an object, and a location for each name in scope that was made for its type.
use Rattle.std.specs.Prelude.{◌≡◌, ℕ, ◌<◌, List, [], ◌∷◌, map, length, slice_get, Some}
use Rattle.cool_classes.specs.declared.class_id.ClassId.{ClassId}
use Rattle.cool_classes.specs.declared.method.AttributeRef.{AttributeRef}
use Rattle.cool_classes.specs.Chains.{Class, class_number, Below}
use Rattle.cool_classes.specs.Features.{attribute_type}
use Rattle.cool_classes.specs.LawfulTables.{MayInherit}
use Rattle.cool_rules.specs.Conformance.{class_of as class_meant}
use Rattle.cool_rules.specs.Rules.{type_meant}
use Rattle.cool_rules.specs.Scopes.{Binding}
use Rattle.cool_meaning.specs.Values.{Value, Void, Int, Bool as Truth, Str, Obj, Environment, class_of}
use Rattle.cool_meaning.specs.Lookups.{attributes}

-- the class that each location was made for, in order
abbrev pub World : Type 0
World = List ClassId

-- these locations were made for these classes
abbrev pub AreMade : World → List ℕ → List ClassId → Type 0
AreMade w [] [] = Unit {0}
AreMade w [] (d ∷ ds) = ⊥
AreMade w (l ∷ ls) [] = ⊥
AreMade w (l ∷ ls) (d ∷ ds) = (slice_get w l ≡ Some d) × AreMade w ls ds

-- the class that a type's name means for an object of a class
abbrev pub meant : List Class → ClassId → List ℕ → ClassId
meant p k name = class_meant k (type_meant p name)

abbrev pub attribute_classes : List Class → ClassId → List AttributeRef → List ClassId
attribute_classes p k rs = map (λ (r : AttributeRef). meant p k (attribute_type p r)) rs

-- an object of a class that is not Int, Bool or String, with locations made for the types of its attributes
pub record IsObject (p : List Class) (w : World) (k : ClassId) (ls : List ℕ) : Type 0 where
  pub within : k.0 < length p
  pub plain : MayInherit k
  pub made : AreMade w ls (attribute_classes p k (attributes p k))

-- a value fits a class; void fits each class but Int, Bool and String
abbrev pub Fits : List Class → World → Value → ClassId → Type 0
Fits p w Void d = MayInherit d × (d.0 < length p)
Fits p w (Int n) d = Below p (class_number 2) d
Fits p w (Truth b) d = Below p (class_number 3) d
Fits p w (Str bytes) d = Below p (class_number 4) d
Fits p w (Obj k i ls) d = IsObject p w k ls × Below p k d

abbrev pub AllFit : List Class → World → List Value → List ClassId → Type 0
AllFit p w [] [] = Unit {0}
AllFit p w [] (d ∷ ds) = ⊥
AllFit p w (v ∷ vs) [] = ⊥
AllFit p w (v ∷ vs) (d ∷ ds) = Fits p w v d × AllFit p w vs ds

-- names in scope are at locations made for their types, as an object of class k has them
abbrev pub Holds : World → ClassId → List Binding → Environment → Type 0
Holds w k [] env = Unit {0}
Holds w k (b ∷ scope) [] = ⊥
Holds w k (b ∷ scope) (e ∷ env) = (b.name ≡ e.name) × (slice_get w e.location ≡ Some (class_meant k b.value)) × Holds w k scope env

-- The setting in which an expression of class c is evaluated: by an object of a class k below it, with each name in scope at a location made for its type.
pub record Scene (p : List Class) (w : World) (c k : ClassId) (self : Value) (scope : List Binding) (env : Environment) : Type 0 where
  pub c_within : c.0 < length p
  pub k_within : k.0 < length p
  pub below : Below p k c
  pub plain : MayInherit k
  pub class : class_of self ≡ Some k
  pub fits : Fits p w self k
  pub holds : Holds w k scope env
