-- `integers_in` and `strings_in` list the constants that the code of an expression names, in the order in which it adds them to the constant table. The strings
-- are those of the source, and the names of the files with a location at which a run may end with an error.
use Rattle.std.specs.Prelude.{ℕ, ◌<◌, ◌≤◌, List, [], ◌∷◌, ◌++◌, ◌≡◌, get_or, length, slice_get}
use Rattle.cool_syntax.specs.declared.place.Place.{Place}
use Rattle.cool_syntax.specs.declared.operator.ArithOp.{ArithOp}
use Rattle.cool_syntax.specs.declared.operator.ArithOp.TheVariants as arith
use Rattle.cool_syntax.specs.Tree.{Tree, Trees, MaybeTree, Cases, Last, More, Without, With, NoCase, CaseOf, integer_or, string_or}
use Rattle.cool_syntax.specs.Tree as trees
use Rattle.cool_consts.specs.Constants.{Constants, with_integer, with_string}

-- the integers after some are used, and the strings
abbrev pub with_integers : List ℕ → List ℕ → List ℕ
with_integers integers [] = integers
with_integers integers (n ∷ ns) = with_integers (with_integer integers n) ns

abbrev pub with_strings : List (List ℕ) → List (List ℕ) → List (List ℕ)
with_strings strings [] = strings
with_strings strings (b ∷ bs) = with_strings (with_string strings b) bs

-- a table with more constants after its own
pub record Extends (table more : Constants) : Type 0 where
  pub integers : (rest : List ℕ) × (more.integers ≡ table.integers ++ rest)
  pub strings : (rest : List (List ℕ)) × (more.strings ≡ table.strings ++ rest)

-- each constant of `table` has the same number in `more`
pub record Keeps (table more : Constants) : Type 0 where
  pub no_fewer_integers : length table.integers ≤ length more.integers
  pub no_fewer_strings : length table.strings ≤ length more.strings
  pub integers : (k : ℕ) → k < length table.integers → slice_get more.integers k ≡ slice_get table.integers k
  pub strings : (k : ℕ) → k < length table.strings → slice_get more.strings k ≡ slice_get table.strings k

abbrev mutual
  pub integers_in : Tree → List ℕ
  integers_in (trees.leaf at form) = integer_or [] (λ value. value ∷ []) form
  integers_in (trees.unary at form t) = integers_in t
  integers_in (trees.binary at form a b) = integers_in a ++ integers_in b
  integers_in (trees.call at form t ts) = integers_in_all ts ++ integers_in t
  integers_in (trees.If at t y n) = integers_in t ++ (integers_in y ++ integers_in n)
  integers_in (trees.Block at ts) = integers_in_all ts
  integers_in (trees.Let at name declared o t) = integers_in_maybe o ++ integers_in t
  integers_in (trees.Case at t cs) = integers_in t ++ integers_in_cases cs

  pub integers_in_all : Trees → List ℕ
  integers_in_all Last = []
  integers_in_all (More t ts) = integers_in t ++ integers_in_all ts

  pub integers_in_maybe : MaybeTree → List ℕ
  integers_in_maybe Without = []
  integers_in_maybe (With t) = integers_in t

  pub integers_in_cases : Cases → List ℕ
  integers_in_cases NoCase = []
  integers_in_cases (CaseOf at name declared t cs) = integers_in t ++ integers_in_cases cs

-- the name of the file of a place
abbrev pub file_of : List (List ℕ) → Place → List (List ℕ)
file_of files at = get_or files at.file [] ∷ []

-- an operation names its file for the error if its result does not fit, and a division also for the error if the divisor is 0
abbrev pub files_of : List (List ℕ) → ArithOp → Place → List (List ℕ)
files_of files arith.Add at = file_of files at
files_of files arith.Sub at = file_of files at
files_of files arith.Mul at = file_of files at
files_of files arith.Div at = file_of files at ++ file_of files at

abbrev mutual
  pub strings_in : List (List ℕ) → Tree → List (List ℕ)
  strings_in files (trees.leaf at form) = string_or [] (λ bytes. bytes ∷ []) form
  strings_in files (trees.Assign at name t) = strings_in files t
  strings_in files (trees.IsVoid at t) = strings_in files t
  strings_in files (trees.Neg at t) = strings_in files t ++ file_of files at
  strings_in files (trees.Not at t) = strings_in files t
  strings_in files (trees.Arith at op a b) = strings_in files a ++ (strings_in files b ++ files_of files op at)
  strings_in files (trees.Compare at op a b) = strings_in files a ++ strings_in files b
  strings_in files (trees.While at t b) = strings_in files t ++ strings_in files b
  strings_in files (trees.call at form t ts) = strings_in_all files ts ++ (strings_in files t ++ file_of files at)
  strings_in files (trees.If at t y n) = strings_in files t ++ (strings_in files y ++ strings_in files n)
  strings_in files (trees.Block at ts) = strings_in_all files ts
  strings_in files (trees.Let at name declared o t) = strings_in_maybe files o ++ strings_in files t
  strings_in files (trees.Case at t cs) = strings_in files t ++ (file_of files at ++ strings_in_cases files cs)

  pub strings_in_all : List (List ℕ) → Trees → List (List ℕ)
  strings_in_all files Last = []
  strings_in_all files (More t ts) = strings_in files t ++ strings_in_all files ts

  pub strings_in_maybe : List (List ℕ) → MaybeTree → List (List ℕ)
  strings_in_maybe files Without = []
  strings_in_maybe files (With t) = strings_in files t

  pub strings_in_cases : List (List ℕ) → Cases → List (List ℕ)
  strings_in_cases files NoCase = []
  strings_in_cases files (CaseOf at name declared t cs) = strings_in files t ++ strings_in_cases files cs
