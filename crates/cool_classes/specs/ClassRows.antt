-- `IsClassFault` says for each rule of classes (the Cool manual, section 3), and for the limit on their number, which fault (compile-time error) a violation
-- has, and its location. `HasRows` says that a returned error has exactly these faults, or exactly those of the features.
use Rattle.std.specs.Prelude.{◌≡◌, ◌≢◌, ◌⊎◌, ℕ, ◌+◌, List, ◌++◌, take, slice_get, Contains, Some, codes}
use Rattle.cool_syntax.specs.declared.place.Place.{Place}
use Rattle.cool_syntax.specs.declared.type_ref.TypeRef.{TypeRef}
use Rattle.cool_syntax.specs.declared.file_tree.ClassDef.{ClassDef}
use Rattle.cool_classes.specs.declared.TheConstants.{MOST_CLASSES}
use Rattle.cool_classes.specs.declared.fault.ClassKind.{ClassKind}
use Rattle.cool_classes.specs.declared.fault.ClassKind.TheVariants.{C1, C2, C3, C4, C5, C6, C7}
use Rattle.cool_classes.specs.declared.fault.TableError.{TableError}
use Rattle.cool_classes.specs.declared.fault.TableError.TheVariants as error
use Rattle.cool_classes.specs.Chains.{Class, class_number}
use Rattle.cool_classes.specs.ClassFaults.{classes_meant, places}
use Rattle.cool_classes.specs.ClimbedChains.{above}
use Rattle.cool_classes.specs.Cycles.{IsOnCycle}
use Rattle.cool_classes.specs.FeatureRows.{IsFeatureFault, AreRows}
use Rattle.cool_classes.specs.Names.{self_type}
use Rattle.cool_classes.specs.Settled.{basic_names, names_in, names_with_basic, parents_meant}

-- the definition at a position, and its parent
abbrev pub IsClassAt : List ClassDef → ℕ → ClassDef → Type 0
IsClassAt ds k d = slice_get ds k ≡ Some d

abbrev pub HasParent : List ClassDef → ℕ → TypeRef → Type 0
HasParent ds k r = (d : ClassDef) × IsClassAt ds k d × (d.parent ≡ Some r)

-- a basic class or a definition before this one has the name
abbrev pub IsNamedBefore : List ClassDef → ℕ → List ℕ → Type 0
IsNamedBefore ds k name = Contains (basic_names ++ take k (names_in ds)) name

-- no class has the name
abbrev pub IsUnnamed : List ClassDef → List ℕ → Type 0
IsUnnamed ds name = Contains (names_with_basic ds) name → ⊥

abbrev pub IsBarredName : List ℕ → Type 0
IsBarredName name = (name ≡ codes "Int") ⊎ ((name ≡ codes "Bool") ⊎ (name ≡ codes "String"))

-- a fault of these definitions
pub data IsClassFault (ds : List ClassDef) : ClassKind → Place → Type 0 where
  -- a definition whose name is that of a basic class or of an earlier definition, and not SELF_TYPE
  twice : (k : ℕ) (d : ClassDef) → IsClassAt ds k d → d.name ≢ self_type → IsNamedBefore ds k d.name → IsClassFault ds C1 d.at
  -- a class or a parent named SELF_TYPE
  named_self_type : (k : ℕ) (d : ClassDef) → IsClassAt ds k d → d.name ≡ self_type → IsClassFault ds C2 d.at
  parent_self_type : (k : ℕ) (r : TypeRef) → HasParent ds k r → r.name ≡ self_type → IsClassFault ds C2 r.at
  -- a parent that is no class and not SELF_TYPE
  no_parent : (k : ℕ) (r : TypeRef) → HasParent ds k r → r.name ≢ self_type → IsUnnamed ds r.name → IsClassFault ds C3 r.at
  -- the parent Int, Bool or String
  barred_parent : (k : ℕ) (r : TypeRef) → HasParent ds k r → IsBarredName r.name → IsClassFault ds C4 r.at
  -- a definition whose chain of parents comes back to itself
  cycle : (k : ℕ) (d : ClassDef) → IsClassAt ds k d → IsOnCycle (parents_meant (names_with_basic ds) ds) k → IsClassFault ds C5 d.at
  -- no class Main
  no_main : IsUnnamed ds (codes "Main") → IsClassFault ds C6 (record { file = 0; line = 1; byte = 0 })
  -- the definition past the most
  too_many : (d : ClassDef) → IsClassAt ds MOST_CLASSES d → IsClassFault ds C7 d.at

-- a fault of a feature of one of the classes that definitions make, from the class of a number on
abbrev pub IsFaultFrom : List Class → ℕ → List Place → ClassKind → Place → Type 0
IsFaultFrom p k stand kind at = (i : ℕ) × (here : Place) × (slice_get stand i ≡ Some here) × IsFeatureFault p (class_number (k + i)) (above p (class_number (k + i))) here kind at

abbrev pub IsTableFault : List ClassDef → ClassKind → Place → Type 0
IsTableFault ds = IsFaultFrom (classes_meant ds) 5 (places ds)

-- an error is out of memory, or has exactly the faults of the rows of classes, or exactly those of the rows of features
abbrev pub HasRows : List ClassDef → TableError → Type 0
HasRows ds error.Memory = Unit {0}
HasRows ds (error.Faults faults) = AreRows (IsClassFault ds) faults ⊎ AreRows (IsTableFault ds) faults

-- no row holds
abbrev pub HasNoRow : List ClassDef → Type 0
HasNoRow ds = ((kind : ClassKind) (at : Place) → IsClassFault ds kind at → ⊥) × ((kind : ClassKind) (at : Place) → IsTableFault ds kind at → ⊥)
