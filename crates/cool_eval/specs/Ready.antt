-- `IsReady` is the precondition of a run: its class table is complete, and the interpreter has the right list of attributes for each class.
use Rattle.std.specs.Prelude.{◌≡◌, List, Some, length, slice_get}
use Rattle.std.specs.List.{AllByRecursion}
use Rattle.std.proofs.Common.{Vec}
use Rattle.cool_classes.specs.declared.class_id.ClassId.{ClassId}
use Rattle.cool_classes.specs.declared.method.AttributeRef.{AttributeRef}
use Rattle.cool_classes.specs.Chains.{Class}
use Rattle.cool_classes.specs.Features.{HasAttribute}
use Rattle.cool_classes.specs.Tables.{IsWholeTable}
use Rattle.cool_meaning.specs.Lookups.{attributes}

-- the attributes of each class, by its number
abbrev pub AreLayouts : {A : Type 0} → List Class → List (Vec AttributeRef A) → Type 0
AreLayouts {A = A} p layouts =
    (length layouts ≡ length p)
    × ((c : ClassId) (v : Vec AttributeRef A) → slice_get layouts c.0 ≡ Some v → (v.items ≡ attributes p c) × AllByRecursion (HasAttribute p) v.items)

-- a whole table, with the attributes of its classes
pub record IsReady {A : Type 0} (p : List Class) (held : List (Vec AttributeRef A)) : Type 0 where
  pub whole : IsWholeTable p
  pub layouts : AreLayouts p held
