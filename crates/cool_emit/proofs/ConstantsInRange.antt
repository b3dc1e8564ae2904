-- The integer constants of a program's code are 32-bit numbers of the source, and its string constants are strings of the source or names of files.
use Rattle.std.proofs.Common.{ℕ, zero, suc, ◌+◌, ◌≤◌, ◌<◌, List, [], ◌∷◌, ◌++◌, length, get_or}
use Rattle.std.proofs.Common.{flat_map, Option, Some, None, Bool, true, false, arith}
use Rattle.std.specs.Prelude.{nat_eq, bytes_eq, if◌then◌else◌, IfSome}
use Rattle.std.specs.List.{AllByRecursion, list_any}
use Rattle.cool_syntax.specs.declared.TheConstants.{MOST_BYTES}
use Rattle.cool_syntax.specs.declared.place.Place.{Place}
use Rattle.cool_syntax.specs.declared.operator.ArithOp.{ArithOp}
use Rattle.cool_syntax.specs.declared.operator.ArithOp.TheVariants as arith_op
use Rattle.cool_syntax.specs.declared.file_tree.Feature.{Feature}
use Rattle.cool_syntax.specs.declared.file_tree.Feature.TheVariants.{Method, Attribute}
use Rattle.cool_syntax.specs.Tree.{Tree, Trees, MaybeTree, Cases, Last, More, Without, With, NoCase, CaseOf}
use Rattle.cool_syntax.specs.Tree as trees
use Rattle.cool_syntax.specs.TreesWithinLimits.{IsTreeWithin, AreTreesWithin, IsMaybeWithin, AreCasesWithin, IsFeatureWithin}
use Rattle.cool_classes.specs.declared.class_id.ClassId.{ClassId}
use Rattle.cool_classes.specs.Chains.{Class, features_of}
use Rattle.cool_classes.proofs.AllOfLists.{all_with}
use Rattle.cool_layout.specs.Preorder.{numbers_from}
use Rattle.cool_consts.specs.Constants.{with_integer, with_string}
use Rattle.cool_codegen.specs.Asked.{with_integers, with_strings, integers_in, integers_in_all}
use Rattle.cool_codegen.specs.Asked.{integers_in_maybe, integers_in_cases, file_of, files_of}
use Rattle.cool_codegen.specs.Asked.{strings_in, strings_in_all, strings_in_maybe, strings_in_cases}
use Rattle.cool_codegen.specs.Features.{feature_integers, initial_integers, feature_strings, initial_strings}
use Rattle.cool_emit.specs.declared.TheConstants.{MOST_FILE_NAME}
use Rattle.cool_emit.specs.FileNames.{AreShortNames}
use Rattle.cool_emit.specs.Programs.{Placed, attributes_from, methods_from, class_features, all_features, program_constants, IsBuildable}
use Rattle.lists.proofs.AllItems.{all_append}

-- a property of the lists that are made for the elements of a list holds for the joined list
pub all_flat : {X Y : Type 0} (P : X → Type 0) (Q : Y → Type 0) (f : X → List Y) (xs : List X) → ((x : X) → P x → AllByRecursion Q (f x))
    → AllByRecursion P xs → AllByRecursion Q (flat_map f xs)
all_flat P Q f [] each all = tt
all_flat P Q f (x ∷ xs) each all = all_append Q (f x) (flat_map f xs) (each x all.0) (all_flat P Q f xs each all.1)

-- a property of the constants that are there and of those that are added holds for both together
all_with_integers : (P : ℕ → Type 0) (xs ys : List ℕ) → AllByRecursion P xs → AllByRecursion P ys → AllByRecursion P (with_integers xs ys)
all_with_integers P xs [] all more = all
all_with_integers P xs (y ∷ ys) all more = all_with_integers P (with_integer xs y) ys (by (list_any (nat_eq y) xs)) more.1
  where
    by : (t : Bool) → AllByRecursion P (if t then xs else xs ++ y ∷ [])
    by true = all
    by false = all_with P xs y all more.0

pub all_with_strings : (P : List ℕ → Type 0) (xs ys : List (List ℕ)) → AllByRecursion P xs → AllByRecursion P ys
    → AllByRecursion P (with_strings xs ys)
all_with_strings P xs [] all more = all
all_with_strings P xs (y ∷ ys) all more = all_with_strings P (with_string xs y) ys (by (list_any (bytes_eq y) xs)) more.1
  where
    by : (t : Bool) → AllByRecursion P (if t then xs else xs ++ y ∷ [])
    by true = all
    by false = all_with P xs y all more.0

-- an integer, as a word
abbrev pub IsInt : ℕ → Type 0
IsInt n = n < 4294967296

-- a string of the source, or the name of a file
abbrev pub IsShort : List ℕ → Type 0
IsShort bytes = length bytes ≤ MOST_BYTES

-- the integers of a tree
mutual
  integers_low : (n : ℕ) (t : Tree) → IsTreeWithin n t → AllByRecursion IsInt (integers_in t)
  integers_low n (trees.Int at value) h = (h.1, tt)
  integers_low n (trees.leaf at form) h = tt
  integers_low n (trees.Assign at name t) h = integers_low n t h.2
  integers_low n (trees.unary at form t) h = integers_low n t h.1
  integers_low n (trees.While at t b) h = all_append IsInt (integers_in t) (integers_in b) (integers_low n t h.1) (integers_low n b h.2)
  integers_low n (trees.binary at form a b) h = all_append IsInt (integers_in a) (integers_in b) (integers_low n a h.1) (integers_low n b h.2)
  integers_low n (trees.Dispatch at t name ts) h =
      all_append IsInt (integers_in_all ts) (integers_in t) (all_low n ts h.3) (integers_low n t h.1)
  integers_low n (trees.StaticDispatch at t class name ts) h =
      all_append IsInt (integers_in_all ts) (integers_in t) (all_low n ts h.4) (integers_low n t h.1)
  integers_low n (trees.If at t y e) h =
      all_append IsInt (integers_in t) (integers_in y ++ integers_in e) (integers_low n t h.1)
      (all_append IsInt (integers_in y) (integers_in e) (integers_low n y h.2) (integers_low n e h.3))
  integers_low n (trees.Block at ts) h = all_low n ts h.1
  integers_low n (trees.Let at name declared o t) h =
      all_append IsInt (integers_in_maybe o) (integers_in t) (maybe_low n o h.3) (integers_low n t h.4)
  integers_low n (trees.Case at t cs) h =
      all_append IsInt (integers_in t) (integers_in_cases cs) (integers_low n t h.1) (cases_low n cs h.2)

  all_low : (n : ℕ) (ts : Trees) → AreTreesWithin n ts → AllByRecursion IsInt (integers_in_all ts)
  all_low n Last h = tt
  all_low n (More t ts) h = all_append IsInt (integers_in t) (integers_in_all ts) (integers_low n t h.0) (all_low n ts h.1)

  maybe_low : (n : ℕ) (o : MaybeTree) → IsMaybeWithin n o → AllByRecursion IsInt (integers_in_maybe o)
  maybe_low n Without h = tt
  maybe_low n (With t) h = integers_low n t h

  cases_low : (n : ℕ) (cs : Cases) → AreCasesWithin n cs → AllByRecursion IsInt (integers_in_cases cs)
  cases_low n NoCase h = tt
  cases_low n (CaseOf at name declared t cs) h =
      all_append IsInt (integers_in t) (integers_in_cases cs) (integers_low n t h.3) (cases_low n cs h.4)

module _ (files : List (List ℕ)) (named : AreShortNames files) where
  -- the name of a file is short
  file_short : (at : Place) → AllByRecursion IsShort (file_of files at)
  file_short at = (by files named at.file, tt)
    where
      by : (names : List (List ℕ)) → AreShortNames names → (k : ℕ) → length (get_or names k []) ≤ MOST_BYTES
      by [] all k = omega arith
      by (name ∷ names) all zero = let few : length name ≤ MOST_FILE_NAME = all.0 in omega arith
      by (name ∷ names) all (suc k) = by names all.1 k

  files_short : (op : ArithOp) (at : Place) → AllByRecursion IsShort (files_of files op at)
  files_short arith_op.Add at = file_short at
  files_short arith_op.Sub at = file_short at
  files_short arith_op.Mul at = file_short at
  files_short arith_op.Div at = all_append IsShort (file_of files at) (file_of files at) (file_short at) (file_short at)

  -- the strings of a tree
  mutual
    strings_short : (n : ℕ) (t : Tree) → IsTreeWithin n t → AllByRecursion IsShort (strings_in files t)
    strings_short n (trees.Str at bytes) h = (h.1.0, tt)
    strings_short n (trees.leaf at form) h = tt
    strings_short n (trees.Assign at name t) h = strings_short n t h.2
    strings_short n (trees.Neg at t) h = all_append IsShort (strings_in files t) (file_of files at) (strings_short n t h.1) (file_short at)
    strings_short n (trees.unary at form t) h = strings_short n t h.1
    strings_short n (trees.Arith at op a b) h =
        all_append IsShort (strings_in files a) (strings_in files b ++ files_of files op at) (strings_short n a h.1)
        (all_append IsShort (strings_in files b) (files_of files op at) (strings_short n b h.2) (files_short op at))
    strings_short n (trees.binary at form a b) h =
        all_append IsShort (strings_in files a) (strings_in files b) (strings_short n a h.1) (strings_short n b h.2)
    strings_short n (trees.Dispatch at t name ts) h =
        all_append IsShort (strings_in_all files ts) (strings_in files t ++ file_of files at) (all_short n ts h.3)
        (all_append IsShort (strings_in files t) (file_of files at) (strings_short n t h.1) (file_short at))
    strings_short n (trees.StaticDispatch at t class name ts) h =
        all_append IsShort (strings_in_all files ts) (strings_in files t ++ file_of files at) (all_short n ts h.4)
        (all_append IsShort (strings_in files t) (file_of files at) (strings_short n t h.1) (file_short at))
    strings_short n (trees.If at t y e) h =
        all_append IsShort (strings_in files t) (strings_in files y ++ strings_in files e) (strings_short n t h.1)
        (all_append IsShort (strings_in files y) (strings_in files e) (strings_short n y h.2) (strings_short n e h.3))
    strings_short n (trees.Block at ts) h = all_short n ts h.1
    strings_short n (trees.Let at name declared o t) h =
        all_append IsShort (strings_in_maybe files o) (strings_in files t) (maybe_short n o h.3) (strings_short n t h.4)
    strings_short n (trees.Case at t cs) h =
        all_append IsShort (strings_in files t) (file_of files at ++ strings_in_cases files cs) (strings_short n t h.1)
        (all_append IsShort (file_of files at) (strings_in_cases files cs) (file_short at) (cases_short n cs h.2))

    all_short : (n : ℕ) (ts : Trees) → AreTreesWithin n ts → AllByRecursion IsShort (strings_in_all files ts)
    all_short n Last h = tt
    all_short n (More t ts) h =
        all_append IsShort (strings_in files t) (strings_in_all files ts) (strings_short n t h.0) (all_short n ts h.1)

    maybe_short : (n : ℕ) (o : MaybeTree) → IsMaybeWithin n o → AllByRecursion IsShort (strings_in_maybe files o)
    maybe_short n Without h = tt
    maybe_short n (With t) h = strings_short n t h

    cases_short : (n : ℕ) (cs : Cases) → AreCasesWithin n cs → AllByRecursion IsShort (strings_in_cases files cs)
    cases_short n NoCase h = tt
    cases_short n (CaseOf at name declared t cs) h =
        all_append IsShort (strings_in files t) (strings_in_cases files cs) (strings_short n t h.3) (cases_short n cs h.4)

  -- the strings of a feature
  feature_short : (n : ℕ) (x : Feature) → IsFeatureWithin n x → AllByRecursion IsShort (feature_strings files x)
  feature_short n (Method m) h = strings_short n m.body h.4
  feature_short n (Attribute a) h = by a.init h.3
    where
      by : (o : Option Tree) → IfSome o (IsTreeWithin n) → AllByRecursion IsShort (initial_strings files o)
      by None h = tt
      by (Some t) h = strings_short n t h

-- the integers of a feature
feature_low : (n : ℕ) (x : Feature) → IsFeatureWithin n x → AllByRecursion IsInt (feature_integers x)
feature_low n (Method m) h = integers_low n m.body h.4
feature_low n (Attribute a) h = by a.init h.3
  where
    by : (o : Option Tree) → IfSome o (IsTreeWithin n) → AllByRecursion IsInt (initial_integers o)
    by None h = tt
    by (Some t) h = integers_low n t h

-- a property of all features of a class holds for those that are placed

abbrev IsPlacedWithin : ℕ → Placed → Type 0
IsPlacedWithin n f = IsFeatureWithin n f.feature

attributes_within : (n j : ℕ) (fs : List Feature) → AllByRecursion (IsFeatureWithin n) fs
    → AllByRecursion (IsPlacedWithin n) (attributes_from j fs)
attributes_within n j [] all = tt
attributes_within n j (Method m ∷ fs) all = attributes_within n (j + 1) fs all.1
attributes_within n j (Attribute a ∷ fs) all = (all.0, attributes_within n (j + 1) fs all.1)

methods_within : (n j : ℕ) (fs : List Feature) → AllByRecursion (IsFeatureWithin n) fs
    → AllByRecursion (IsPlacedWithin n) (methods_from j fs)
methods_within n j [] all = tt
methods_within n j (Method m ∷ fs) all = (all.0, methods_within n (j + 1) fs all.1)
methods_within n j (Attribute a ∷ fs) all = methods_within n (j + 1) fs all.1

-- the numbers of classes are below their end
pub numbers_low : (k n m : ℕ) → k + n ≤ m → AllByRecursion (λ (c : ClassId). c.0 < m) (numbers_from k n)
numbers_low k zero m l = tt
numbers_low k (suc n) m l = (omega arith, numbers_low (k + 1) n m (omega arith))

module _ (p : List Class) (files : List (List ℕ)) (b : IsBuildable p files) where
  features_within : AllByRecursion (IsPlacedWithin (length files)) (all_features p)
  features_within =
      all_flat (λ (c : ClassId). c.0 < length p) (IsPlacedWithin (length files)) (class_features p) (numbers_from 0 (length p))
      (λ c within. all_append (IsPlacedWithin (length files)) (attributes_from 0 (features_of p c)) (methods_from 0 (features_of p c))
      (attributes_within (length files) 0 (features_of p c) (b.fits.within c within))
      (methods_within (length files) 0 (features_of p c) (b.fits.within c within)))
      (numbers_low 0 (length p) (length p) (omega arith))

  -- the integers of a program, and its strings
  pub integers_in_range : AllByRecursion IsInt (program_constants p files).integers
  integers_in_range =
      all_with_integers IsInt [] (flat_map (λ f. feature_integers f.feature) (all_features p)) tt
      (all_flat (IsPlacedWithin (length files)) IsInt (λ f. feature_integers f.feature) (all_features p)
      (λ f within. feature_low (length files) f.feature within) features_within)

  pub strings_in_range : AllByRecursion IsShort (program_constants p files).strings
  strings_in_range =
      all_with_strings IsShort [] (flat_map (λ f. feature_strings files f.feature) (all_features p)) tt
      (all_flat (IsPlacedWithin (length files)) IsShort (λ f. feature_strings files f.feature) (all_features p)
      (λ f within. feature_short files b.names (length files) f.feature within) features_within)
