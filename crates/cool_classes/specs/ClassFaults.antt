-- `class_phase` lists the faults (compile-time errors) of the classes of a program, and `feature_phase` those of their features (the Cool manual, sections 3 to
-- 8, and the limits of this compiler). `HasTableFaults` says which of these lists the compiler returns, and in which order.
use Rattle.std.specs.Prelude.{◌≡◌, ◌≢◌, ◌⊎◌, ℕ, suc, List, [], ◌∷◌, ◌++◌, map, drop, get_or, Option, Some, None, is_some, is_none, Bool, ◌||◌, nat_eq, codes, bytes_eq, if◌then◌else◌}
use Rattle.std.specs.List.Sorted.{IsPermutation}
use Rattle.cool_syntax.specs.declared.place.Place.{Place}
use Rattle.cool_syntax.specs.declared.type_ref.TypeRef.{TypeRef}
use Rattle.cool_syntax.specs.declared.file_tree.ClassDef.{ClassDef}
use Rattle.cool_syntax.specs.FaultOrder.{AreInOrder}
use Rattle.cool_classes.specs.declared.TheConstants.{MOST_CLASSES}
use Rattle.cool_classes.specs.declared.class_id.ClassId.{ClassId}
use Rattle.cool_classes.specs.declared.fault.ClassFault.{ClassFault}
use Rattle.cool_classes.specs.declared.fault.ClassKind.{ClassKind}
use Rattle.cool_classes.specs.declared.fault.ClassKind.TheVariants.{C1, C2, C3, C4, C5, C6, C7}
use Rattle.cool_classes.specs.declared.fault.TableError.{TableError}
use Rattle.cool_classes.specs.declared.fault.TableError.TheVariants as error
use Rattle.cool_classes.specs.Chains.{Class, class_number}
use Rattle.cool_classes.specs.ClimbedChains.{above}
use Rattle.cool_classes.specs.Cycles.{AreCycles}
use Rattle.cool_classes.specs.FaultLists.{standing_of}
use Rattle.cool_classes.specs.FeatureFaults.{class_faults}
use Rattle.cool_classes.specs.Names.{first_named, self_type}
use Rattle.cool_classes.specs.Settled.{basic_names, names_with_basic, parent_meant, parents_meant}
use Rattle.cool_classes.specs.Tables.{basic_classes}

-- a fault of this kind, where there is one
abbrev pub of_kind : Option ClassKind → Place → List ClassFault
of_kind None at = []
of_kind (Some kind) at = record { kind = kind; at = at } ∷ []

-- C2 of a class named SELF_TYPE, else C1 where an earlier class has its name
abbrev pub name_kind : List ℕ → Bool → Option ClassKind
name_kind name known = if bytes_eq name self_type then Some C2 else (if known then Some C1 else None)

-- the faults of the names of definitions after classes of these names
abbrev pub names_faults : List (List ℕ) → List ClassDef → List ClassFault
names_faults before [] = []
names_faults before (d ∷ ds) = of_kind (name_kind d.name (is_some (first_named 0 before d.name))) d.at ++ names_faults (before ++ d.name ∷ []) ds

-- Int, Bool and String, from which no class may inherit
abbrev pub is_barred : ClassId → Bool
is_barred c = nat_eq c.0 2 || (nat_eq c.0 3 || nat_eq c.0 4)

-- C3 where the parent is no class, C4 where none may inherit from it
abbrev pub class_kind : Option ClassId → Option ClassKind
class_kind None = Some C3
class_kind (Some c) = if is_barred c then Some C4 else None

-- C2 of a parent named SELF_TYPE, else C3 and C4
abbrev pub parent_kind : List ℕ → Option ClassId → Option ClassKind
parent_kind name class = if bytes_eq name self_type then Some C2 else class_kind class

abbrev pub parent_faults : List (List ℕ) → Option TypeRef → List ClassFault
parent_faults names None = []
parent_faults names (Some r) = of_kind (parent_kind r.name (first_named 0 names r.name)) r.at

-- the faults of the parents of definitions, where the classes have these names
abbrev pub parents_faults : List (List ℕ) → List ClassDef → List ClassFault
parents_faults names [] = []
parents_faults names (d ∷ ds) = parent_faults names d.parent ++ parents_faults names ds

-- C6 where no class has the name Main
abbrev pub main_faults : List (List ℕ) → List ClassFault
main_faults names = of_kind (if is_none (first_named 0 names (codes "Main")) then Some C6 else None) (record { file = 0; line = 1; byte = 0 })

-- C7 of the definition past the most
abbrev pub first_fault : List ClassDef → List ClassFault
first_fault [] = []
first_fault (d ∷ ds) = record { kind = C7; at = d.at } ∷ []

abbrev pub number_faults : List ClassDef → List ClassFault
number_faults ds = first_fault (drop MOST_CLASSES ds)

-- the place of the definition at a position
abbrev pub places : List ClassDef → List Place
places = map (λ d. d.at)

abbrev pub place_at : List ClassDef → ℕ → Place
place_at ds k = get_or (places ds) k (record { file = 0; line = 0; byte = 0 })

-- C5 of the definitions at these positions
abbrev pub cycle_faults : List ClassDef → List ℕ → List ClassFault
cycle_faults ds = map (λ k. record { kind = C5; at = place_at ds k })

-- these are the positions of the definitions on cycles, each once
abbrev pub AreOnCycles : List ClassDef → List ℕ → Type 0
AreOnCycles ds cyclic = AreCycles (parents_meant (names_with_basic ds) ds) cyclic

-- the faults of classes, where the definitions at these positions stand on cycles
abbrev pub class_phase : List ClassDef → List ℕ → List ClassFault
class_phase ds cyclic =
    names_faults basic_names ds ++ (parents_faults (names_with_basic ds) ds ++ (cycle_faults ds cyclic ++ (main_faults (names_with_basic ds) ++ number_faults ds)))

-- the classes that definitions make, where none of them has a fault
abbrev pub class_meant : List (List ℕ) → ClassDef → Class
class_meant names d = record { name = d.name; parent = Some (parent_meant names d.parent); features = d.features }

abbrev pub classes_meant : List ClassDef → List Class
classes_meant ds = basic_classes ++ map (class_meant (names_with_basic ds)) ds

-- the faults of the features of classes, from the one of a number on, whose names stand at these places
abbrev pub features_from : List Class → ℕ → List Place → List ClassFault
features_from p k [] = []
features_from p k (at ∷ ats) = class_faults p (class_number k) (above p (class_number k)) at ++ features_from p (suc k) ats

abbrev pub feature_phase : List ClassDef → List ClassFault
feature_phase ds = features_from (classes_meant ds) 5 (places ds)

-- these are the faults of classes
abbrev pub HasClassPhase : List ClassDef → List ClassFault → Type 0
HasClassPhase ds faults = (cyclic : List ℕ) × AreOnCycles ds cyclic × (faults ≡ class_phase ds cyclic)

-- an error is out of memory, or has the faults of classes, at least one, in order
abbrev pub HasClassFaults : List ClassDef → TableError → Type 0
HasClassFaults ds error.Memory = Unit {0}
HasClassFaults ds (error.Faults faults) =
    (faults ≢ []) × AreInOrder standing_of faults × ((fs : List ClassFault) × HasClassPhase ds fs × IsPermutation fs faults)

-- an error is out of memory, or has the faults of classes if there are any, and else those of features
abbrev pub HasTableFaults : List ClassDef → TableError → Type 0
HasTableFaults ds error.Memory = Unit {0}
HasTableFaults ds (error.Faults faults) =
    (faults ≢ []) × AreInOrder standing_of faults
    × (((fs : List ClassFault) × HasClassPhase ds fs × IsPermutation fs faults) ⊎ (HasClassPhase ds [] × IsPermutation (feature_phase ds) faults))
