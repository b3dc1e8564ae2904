-- `AreSettled` says that the classes of class definitions have no fault (compile-time error), and that given numbers are their depths (numbers of ancestors).
-- `entries_of` are the entries of the class table that the definitions make (the Cool manual, section 3).
use Rattle.std.specs.Prelude.{◌≡◌, ◌≢◌, ℕ, ◌≤◌, ◌<◌, List, [], ◌∷◌, ◌++◌, map, take, length, get_or, Option, Some, None, IsSome}
use Rattle.std.specs.List.{AllByRecursion}
use Rattle.cool_syntax.specs.declared.place.Place.{Place}
use Rattle.cool_syntax.specs.declared.type_ref.TypeRef.{TypeRef}
use Rattle.cool_syntax.specs.declared.file_tree.ClassDef.{ClassDef}
use Rattle.cool_syntax.specs.TokenFacts.{IsPlaced}
use Rattle.cool_classes.specs.declared.TheConstants.{MOST_CLASSES}
use Rattle.cool_classes.specs.declared.class_id.ClassId.{ClassId}
use Rattle.cool_classes.specs.declared.entry.Entry.{Entry}
use Rattle.cool_classes.specs.declared.fault.ClassFault.{ClassFault}
use Rattle.cool_classes.specs.declared.fault.ClassKind.{ClassKind}
use Rattle.cool_classes.specs.Chains.{Class, class_number}
use Rattle.cool_classes.specs.Entries.{basic_entries}
use Rattle.cool_classes.specs.Names.{first_named, self_type}
use Rattle.cool_classes.specs.Tables.{basic_classes}
use Rattle.cool_classes.specs.Depths.{AreDepths}
use Rattle.cool_classes.specs.FaultLists.{IsOfClasses}

abbrev pub basic_names : List (List ℕ)
basic_names = map (λ (c : Class). c.name) basic_classes

abbrev pub names_in : List ClassDef → List (List ℕ)
names_in definitions = map (λ (d : ClassDef). d.name) definitions

-- the names of all classes in the order of their numbers
abbrev pub names_with_basic : List ClassDef → List (List ℕ)
names_with_basic definitions = basic_names ++ names_in definitions

abbrev pub or_object : Option ClassId → ClassId
or_object None = class_number 0
or_object (Some c) = c

-- the class that a parent's name means: Object where there is no such class, or no parent is named
abbrev pub parent_meant : List (List ℕ) → Option TypeRef → ClassId
parent_meant names None = class_number 0
parent_meant names (Some r) = or_object (first_named 0 names r.name)

abbrev pub parents_meant : List (List ℕ) → List ClassDef → List ClassId
parents_meant names definitions = map (λ (d : ClassDef). parent_meant names d.parent) definitions

-- the parent that is named is a class
abbrev pub IsParentKnown : List (List ℕ) → Option TypeRef → Type 0
IsParentKnown names None = Unit {0}
IsParentKnown names (Some r) = IsSome (first_named 0 names r.name)

-- no class before a definition has its name, and that is not SELF_TYPE
pub record IsNamedAnew (definitions : List ClassDef) (k : ℕ) : Type 0 where
  pub anew : first_named 0 (basic_names ++ take k (names_in definitions)) (get_or (names_in definitions) k []) ≡ None
  pub no_self_type : get_or (names_in definitions) k [] ≢ self_type

abbrev pub AreNamedAnew : List ClassDef → ℕ → Type 0
AreNamedAnew definitions n = (k : ℕ) → k < n → IsNamedAnew definitions k

-- The classes of these definitions have no fault, and these are their depths.
pub record AreSettled (definitions : List ClassDef) (depths : List (Option ℕ)) : Type 0 where
  pub names : AreNamedAnew definitions (length definitions)
  pub parents : AllByRecursion (λ (d : ClassDef). IsParentKnown (names_with_basic definitions) d.parent) definitions
  pub few : length definitions ≤ MOST_CLASSES
  pub grounded : AreDepths (parents_meant (names_with_basic definitions) definitions) depths

abbrev pub or_zero : Option ℕ → ℕ
or_zero None = 0
or_zero (Some d) = d

-- the entries of definitions, with these depths
abbrev pub entries_meant : List (List ℕ) → List ClassDef → List (Option ℕ) → List Entry
entries_meant names [] depths = []
entries_meant names (d ∷ ds) [] = []
entries_meant names (d ∷ ds) (o ∷ os) =
    record { name = d.name; parent = Some (parent_meant names d.parent); depth = or_zero o; features = d.features } ∷ entries_meant names ds os

-- the entries of all classes
abbrev pub entries_of : List ClassDef → List (Option ℕ) → List Entry
entries_of definitions depths = basic_entries ++ entries_meant (names_with_basic definitions) definitions depths

-- the faults, followed by a fault of this kind at this place, if there is one
abbrev pub with_fault : Option ClassKind → Place → List ClassFault → List ClassFault
with_fault None at faults = faults
with_fault (Some kind) at faults = faults ++ record { kind = kind; at = at } ∷ []

-- Only faults of classes were added, at places in files whose number keeps the condition `AreFilesOf`.
pub record AddsFaults (AreFilesOf : ℕ → Type 0) (before after : List ClassFault) : Type 0 where
  pub kept : after ≡ [] → before ≡ []
  pub phase : AllByRecursion IsOfClasses before → AllByRecursion IsOfClasses after
  pub places : (files : ℕ) → AreFilesOf files → AllByRecursion (λ (f : ClassFault). IsPlaced files f.at) before → AllByRecursion (λ (f : ClassFault). IsPlaced files f.at) after
