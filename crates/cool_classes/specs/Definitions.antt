-- `IsTableOf` says which class table the definitions of a program make: after the basic classes, one class for each definition, in the order of files and
-- text (the Cool manual, sections 3 and 11).
use Rattle.std.specs.Prelude.{◌≡◌, ◌-◌, ◌<◌, ◌^◌, List, [], ◌∷◌, ◌++◌, length, drop, Option, Some, None}
use Rattle.std.specs.List.{AllByRecursion}
use Rattle.cool_syntax.specs.declared.type_ref.TypeRef.{TypeRef}
use Rattle.cool_syntax.specs.declared.file_tree.ClassDef.{ClassDef}
use Rattle.cool_syntax.specs.declared.file_tree.Feature.{Feature}
use Rattle.cool_syntax.specs.declared.file_tree.Feature.TheVariants.{Method, Attribute}
use Rattle.cool_syntax.specs.declared.file_tree.FileTree.{FileTree}
use Rattle.cool_classes.specs.declared.class_id.ClassId.{ClassId}
use Rattle.cool_classes.specs.Chains.{Class, class_number, name_of}

-- the definitions of files
abbrev pub definitions : List FileTree → List ClassDef
definitions [] = []
definitions (file ∷ files) = file.classes ++ definitions files

-- the definitions are so few that a 32-bit number can name each class, each feature of a class and each formal of a method
abbrev pub HasFewFormals : Feature → Type 0
HasFewFormals (Method m) = length m.formals < 2 ^ 32
HasFewFormals (Attribute a) = Unit {0}

abbrev pub HasFewFeatures : ClassDef → Type 0
HasFewFeatures d = (length d.features < 2 ^ 32) × AllByRecursion HasFewFormals d.features

abbrev pub AreFew : List ClassDef → Type 0
AreFew defs = (length defs < 2 ^ 32 - 5) × AllByRecursion HasFewFeatures defs

-- a class inherits from the class that its definition names, and from Object where it names none
abbrev pub InheritsAs : List Class → Option TypeRef → Option ClassId → Type 0
InheritsAs p None q = q ≡ Some (class_number 0)
InheritsAs p (Some r) None = ⊥
InheritsAs p (Some r) (Some q) = (q.0 < length p) × (name_of p q ≡ r.name)

abbrev pub IsDefinedBy : List Class → ClassDef → Class → Type 0
IsDefinedBy p d c = (c.name ≡ d.name) × (c.features ≡ d.features) × InheritsAs p d.parent c.parent

abbrev pub AreDefinedBy : List Class → List ClassDef → List Class → Type 0
AreDefinedBy p [] [] = Unit {0}
AreDefinedBy p [] (c ∷ cs) = ⊥
AreDefinedBy p (d ∷ ds) [] = ⊥
AreDefinedBy p (d ∷ ds) (c ∷ cs) = IsDefinedBy p d c × AreDefinedBy p ds cs

-- the table of these definitions
abbrev pub IsTableOf : List ClassDef → List Class → Type 0
IsTableOf defs p = AreDefinedBy p defs (drop 5 p)
