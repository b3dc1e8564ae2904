-- `FitsClass` says that a class of a program has the features of a class definition, and `FitsBody` that a column (array of types) has one type for each
-- node of an expression. `IsAdded` says that the lines of one more file were added to a listing of syntax trees.
use Rattle.std.specs.Prelude.{◌≡◌, ℕ, suc, ◌+◌, ◌<◌, List, [], ◌∷◌, ◌++◌, Option, Some, None, IfSome, length}
use Rattle.std.specs.Option.{option_map}
use Rattle.cool_classes.specs.Chains.{Class, class_number, features_of}
use Rattle.cool_syntax.specs.Tree.{Tree, tree_size}
use Rattle.cool_syntax.specs.declared.file_tree.ClassDef.{ClassDef}
use Rattle.cool_syntax.specs.declared.file_tree.Feature.{Feature}
use Rattle.cool_syntax.specs.declared.file_tree.Feature.TheVariants.{Method, Attribute}
use Rattle.cool_faults.specs.Verdicts.{IsAccepted}
use Rattle.cool_listings.specs.declared.trees.Column.{Column}
use Rattle.cool_listings.specs.TreeLines.{AreTreesOf}
use Rattle.cool_listings.specs.TreeLines as lines

-- the column that the code holds
abbrev pub column_seen : Option Column → Option lines.Column
column_seen None = None
column_seen (Some column) = Some (record { classes = column.table.now; types = column.types.now })

-- a column has a type for each node of an expression
abbrev pub FitsBody : Option Column → Tree → Type 0
FitsBody None t = Unit {0}
FitsBody (Some column) t = length column.types.now ≡ tree_size t

abbrev pub FitsInit : Option Column → Option Tree → Type 0
FitsInit column None = Unit {0}
FitsInit column (Some t) = FitsBody column t

abbrev pub FitsFeature : Option Column → Feature → Type 0
FitsFeature column (Method m) = FitsBody column m.body
FitsFeature column (Attribute a) = FitsInit column a.init

-- the class of this number in the program has the features of the definition
abbrev pub FitsClass : Option (List Class) → ℕ → ClassDef → Type 0
FitsClass None number d = Unit {0}
FitsClass (Some p) number d = (number < length p) × (features_of p (class_number number) ≡ d.features)

-- and so have those of classes in order
abbrev pub FitsClasses : Option (List Class) → ℕ → List ClassDef → Type 0
FitsClasses p number [] = Unit {0}
FitsClasses p number (d ∷ ds) = FitsClass p number d × FitsClasses p (suc number) ds

-- the program, where there is one, is that of the files
abbrev pub IsOfFiles : Option (List Class) → List (List ℕ) → Type 0
IsOfFiles None files = Unit {0}
IsOfFiles (Some p) files = IsAccepted files p

-- The lines of a file were added to those so far, and the number of the next class is that behind its classes: with what is told of the files behind
-- it, its lines are what is told of it and them.
abbrev pub IsAdded : Option (List Class) → ℕ → List ℕ → ℕ → ℕ → List ℕ → List ℕ → Type 0
IsAdded p file bytes number next old new =
    (piece : List ℕ) × (new ≡ old ++ piece) × ((files : List (List ℕ)) (rest : List ℕ) → AreTreesOf p (file + 1) next files rest → AreTreesOf p file number (bytes ∷ files) (piece ++ rest))
