-- `program_uses` lists the uses of names in a typed program, in the order of files and text. `AreProgramUsesTold` says that the marks of the program (records
-- of the occurrences of names, Programs.antt) give each use once, in this order.
use Rattle.std.specs.Prelude.{ℕ, ◌+◌, List, [], ◌∷◌, ◌++◌, drop}
use Rattle.std.specs.List.{AllByRecursion}
use Rattle.cool_syntax.specs.declared.file_tree.ClassDef.{ClassDef}
use Rattle.cool_syntax.specs.declared.file_tree.Feature.{Feature}
use Rattle.cool_classes.specs.declared.class_id.ClassId.{ClassId}
use Rattle.cool_classes.specs.Chains.{Class, class_number}
use Rattle.cool_classes.specs.Definitions.{IsTableOf}
use Rattle.cool_rules.specs.Typing.{IsTypedFeature}
use Rattle.cool_names.specs.Programs.{program_marks}
use Rattle.cool_names.specs.Uses.{AreTold, Use, uses_among, uses_of}

-- the features of a class are typed
abbrev pub AreTypedFeatures : List Class → ClassId → List Feature → Type 0
AreTypedFeatures p c = AllByRecursion (IsTypedFeature p c)

-- the typed classes whose numbers begin at this one
abbrev pub AreTypedClasses : List Class → ℕ → List Class → Type 0
AreTypedClasses p k [] = Unit {0}
AreTypedClasses p k (c ∷ cs) = AreTypedFeatures p (class_number k) c.features × AreTypedClasses p (k + 1) cs

-- a typed program, whose classes come after the five basic ones
abbrev pub IsTypedProgram : List Class → Type 0
IsTypedProgram p = AreTypedClasses p 5 (drop 5 p)

-- the uses in typed features
abbrev pub uses_of_features : (p : List Class) (c : ClassId) (xs : List Feature) → AreTypedFeatures p c xs → List Use
uses_of_features p c [] typed = []
uses_of_features p c (x ∷ xs) (first, more) = uses_of p c x first ++ uses_of_features p c xs more

-- the uses in typed classes
abbrev pub uses_of_classes : (p : List Class) (k : ℕ) (cs : List Class) → AreTypedClasses p k cs → List Use
uses_of_classes p k [] typed = []
uses_of_classes p k (c ∷ cs) (first, more) = uses_of_features p (class_number k) c.features first ++ uses_of_classes p (k + 1) cs more

-- the uses in a typed program
abbrev pub program_uses : (p : List Class) → IsTypedProgram p → List Use
program_uses p typed = uses_of_classes p 5 (drop 5 p) typed

-- The marks of the program with these definitions tell its uses, each once, in order.
abbrev pub AreProgramUsesTold : List Class → Type 0
AreProgramUsesTold p = (ds : List ClassDef) → IsTableOf ds p → (typed : IsTypedProgram p) → AreTold p (uses_among (program_marks p ds)) (program_uses p typed)
