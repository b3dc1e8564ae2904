-- The features of a program use at most as many integer constants as the weight of its class table (an upper bound of its size), and at most twice as many
-- string constants.
use Rattle.std.proofs.Common.{◌≡◌, ℕ, ◌+◌, ◌*◌, ◌≤◌, List, [], ◌∷◌, ◌++◌, length, flat_map}
use Rattle.std.proofs.Common.{Option, Some, None, Bool, true, false, ap, arith, length-append}
use Rattle.std.specs.Prelude.{nat_eq, bytes_eq, if◌then◌else◌}
use Rattle.std.specs.List.{list_any}
use Rattle.cool_syntax.specs.declared.place.Place.{Place}
use Rattle.cool_syntax.specs.declared.operator.ArithOp.{ArithOp}
use Rattle.cool_syntax.specs.declared.operator.ArithOp.TheVariants as arith_op
use Rattle.cool_syntax.specs.declared.file_tree.Feature.{Feature}
use Rattle.cool_syntax.specs.declared.file_tree.Feature.TheVariants.{Method, Attribute}
use Rattle.cool_syntax.specs.Tree.{Tree, Trees, MaybeTree, Cases, Last, More, Without, With}
use Rattle.cool_syntax.specs.Tree.{NoCase, CaseOf, tree_size, trees_size, maybe_size, cases_size}
use Rattle.cool_syntax.specs.Tree as trees
use Rattle.cool_syntax.specs.FeatureSizes.{value_size}
use Rattle.cool_syntax.specs.Weights.{feature_weight, text_of_value}
use Rattle.cool_consts.specs.Constants.{with_integer, with_string}
use Rattle.cool_classes.specs.Chains.{Class}
use Rattle.cool_codegen.specs.Asked.{with_integers, with_strings, integers_in, integers_in_all}
use Rattle.cool_codegen.specs.Asked.{integers_in_maybe, integers_in_cases, strings_in, strings_in_all}
use Rattle.cool_codegen.specs.Asked.{strings_in_maybe, strings_in_cases, files_of}
use Rattle.cool_codegen.specs.Features.{feature_integers, feature_strings, initial_integers, initial_strings}
use Rattle.cool_emit.specs.Programs.{Placed, all_features, program_constants, IsBuildable}
use Rattle.cool_emit.proofs.Totals.{total, total-append}
use Rattle.cool_emit.proofs.ClassesInTurn.{placed_weight, features_weigh, table_weight}

-- a tree asks for no more integers than it has nodes
mutual
  pub few_integers_in : (t : Tree) → length (integers_in t) ≤ tree_size t
  few_integers_in (trees.Int at value) = omega arith
  few_integers_in (trees.leaf at form) = omega arith
  few_integers_in (trees.unary at form t) = omega (arith, few_integers_in t)
  few_integers_in (trees.binary at form a b) = simp length-append (omega (arith, few_integers_in a, few_integers_in b))
  few_integers_in (trees.call at form t ts) = simp length-append (omega (arith, few_integers_in t, few_integers_in_all ts))
  few_integers_in (trees.If at t y n) =
      simp length-append (omega (arith, few_integers_in t, few_integers_in y, few_integers_in n))
  few_integers_in (trees.Block at ts) = omega (arith, few_integers_in_all ts)
  few_integers_in (trees.Let at name declared o t) = simp length-append (omega (arith, few_integers_in_maybe o, few_integers_in t))
  few_integers_in (trees.Case at t cs) = simp length-append (omega (arith, few_integers_in t, few_integers_in_cases cs))

  few_integers_in_all : (ts : Trees) → length (integers_in_all ts) ≤ trees_size ts
  few_integers_in_all Last = omega arith
  few_integers_in_all (More t ts) = simp length-append (omega (arith, few_integers_in t, few_integers_in_all ts))

  few_integers_in_maybe : (o : MaybeTree) → length (integers_in_maybe o) ≤ maybe_size o
  few_integers_in_maybe Without = omega arith
  few_integers_in_maybe (With t) = few_integers_in t

  few_integers_in_cases : (cs : Cases) → length (integers_in_cases cs) ≤ cases_size cs
  few_integers_in_cases NoCase = omega arith
  few_integers_in_cases (CaseOf at name declared t cs) = simp length-append (omega (arith, few_integers_in t, few_integers_in_cases cs))

-- an operation names its file at most twice
few_files : (files : List (List ℕ)) (op : ArithOp) (at : Place) → length (files_of files op at) ≤ 2
few_files files arith_op.Add at = omega arith
few_files files arith_op.Sub at = omega arith
few_files files arith_op.Mul at = omega arith
few_files files arith_op.Div at = omega arith

-- a tree asks for no more strings than twice its nodes
mutual
  pub few_strings_in : (files : List (List ℕ)) (t : Tree) → length (strings_in files t) ≤ 2 * tree_size t
  few_strings_in files (trees.Str at bytes) = omega arith
  few_strings_in files (trees.leaf at form) = omega arith
  few_strings_in files (trees.Neg at t) = simp length-append (omega (arith, few_strings_in files t))
  few_strings_in files (trees.unary at form t) = omega (arith, few_strings_in files t)
  few_strings_in files (trees.Arith at op a b) =
      simp length-append (omega (arith, few_strings_in files a, few_strings_in files b, few_files files op at))
  few_strings_in files (trees.binary at form a b) = simp length-append (omega (arith, few_strings_in files a, few_strings_in files b))
  few_strings_in files (trees.call at form t ts) =
      simp length-append (omega (arith, few_strings_in files t, few_strings_in_all files ts))
  few_strings_in files (trees.If at t y n) =
      simp length-append (omega (arith, few_strings_in files t, few_strings_in files y, few_strings_in files n))
  few_strings_in files (trees.Block at ts) = omega (arith, few_strings_in_all files ts)
  few_strings_in files (trees.Let at name declared o t) =
      simp length-append (omega (arith, few_strings_in_maybe files o, few_strings_in files t))
  few_strings_in files (trees.Case at t cs) =
      simp length-append (omega (arith, few_strings_in files t, few_strings_in_cases files cs))

  few_strings_in_all : (files : List (List ℕ)) (ts : Trees) → length (strings_in_all files ts) ≤ 2 * trees_size ts
  few_strings_in_all files Last = omega arith
  few_strings_in_all files (More t ts) = simp length-append (omega (arith, few_strings_in files t, few_strings_in_all files ts))

  few_strings_in_maybe : (files : List (List ℕ)) (o : MaybeTree) → length (strings_in_maybe files o) ≤ 2 * maybe_size o
  few_strings_in_maybe files Without = omega arith
  few_strings_in_maybe files (With t) = few_strings_in files t

  few_strings_in_cases : (files : List (List ℕ)) (cs : Cases) → length (strings_in_cases files cs) ≤ 2 * cases_size cs
  few_strings_in_cases files NoCase = omega arith
  few_strings_in_cases files (CaseOf at name declared t cs) =
      simp length-append (omega (arith, few_strings_in files t, few_strings_in_cases files cs))

-- the nodes of the expression of a feature
abbrev pub size_of : Option Tree → ℕ
size_of None = 0
size_of (Some t) = tree_size t

abbrev pub expression_size : Feature → ℕ
expression_size (Method m) = tree_size m.body
expression_size (Attribute a) = size_of a.init

-- and are no more than it weighs
pub size_in_weight : (f : Feature) → expression_size f + 1 ≤ feature_weight f
size_in_weight (Method m) = omega arith
size_in_weight (Attribute a) = value a.init
  where
    value : (o : Option Tree) → size_of o + 1 ≤ 1 + value_size o + text_of_value o
    value None = omega arith
    value (Some t) = omega arith

-- The integers that a feature asks for are no more than these, and the strings no more than twice as many.
pub few_feature_integers : (f : Feature) → length (feature_integers f) ≤ expression_size f
few_feature_integers (Method m) = few_integers_in m.body
few_feature_integers (Attribute a) = value a.init
  where
    value : (o : Option Tree) → length (initial_integers o) ≤ size_of o
    value None = omega arith
    value (Some t) = few_integers_in t

pub few_feature_strings : (files : List (List ℕ)) (f : Feature) → length (feature_strings files f) ≤ 2 * expression_size f
few_feature_strings files (Method m) = few_strings_in files m.body
few_feature_strings files (Attribute a) = value a.init
  where
    value : (o : Option Tree) → length (initial_strings files o) ≤ 2 * size_of o
    value None = omega arith
    value (Some t) = few_strings_in files t

-- features ask for no more integers than they weigh, and for no more than twice as many strings
pub few_integers_asked : (fs : List Placed) → length (flat_map (λ f. feature_integers f.feature) fs) ≤ total placed_weight fs
few_integers_asked [] = omega arith
few_integers_asked (f ∷ fs) =
    simp length-append (omega (arith, few_feature_integers f.feature, size_in_weight f.feature, few_integers_asked fs))

pub few_strings_asked : (files : List (List ℕ)) (fs : List Placed)
    → length (flat_map (λ f. feature_strings files f.feature) fs) ≤ 2 * total placed_weight fs
few_strings_asked files [] = omega arith
few_strings_asked files (f ∷ fs) =
    simp length-append (omega (arith, few_feature_strings files f.feature, size_in_weight f.feature, few_strings_asked files fs))

-- constants that are used are added at most once each
more_integer : (xs : List ℕ) (n : ℕ) → length (with_integer xs n) ≤ length xs + 1
more_integer xs n = by (list_any (nat_eq n) xs)
  where
    by : (b : Bool) → length (if b then xs else xs ++ n ∷ []) ≤ length xs + 1
    by true = omega arith
    by false = omega (arith, length-append xs (n ∷ []))

more_string : (xs : List (List ℕ)) (b : List ℕ) → length (with_string xs b) ≤ length xs + 1
more_string xs b = by (list_any (bytes_eq b) xs)
  where
    by : (c : Bool) → length (if c then xs else xs ++ b ∷ []) ≤ length xs + 1
    by true = omega arith
    by false = omega (arith, length-append xs (b ∷ []))

pub few_with_integers : (xs ys : List ℕ) → length (with_integers xs ys) ≤ length xs + length ys
few_with_integers xs [] = omega arith
few_with_integers xs (y ∷ ys) = omega (arith, few_with_integers (with_integer xs y) ys, more_integer xs y)

pub few_with_strings : (xs ys : List (List ℕ)) → length (with_strings xs ys) ≤ length xs + length ys
few_with_strings xs [] = omega arith
few_with_strings xs (y ∷ ys) = omega (arith, few_with_strings (with_string xs y) ys, more_string xs y)

-- the constants after some features are no more than these weigh, and what the next one asks for still has room
pub few_integers : (fs : List Placed) → length (with_integers [] (flat_map (λ f. feature_integers f.feature) fs)) ≤ total placed_weight fs
few_integers fs = omega (arith, few_with_integers [] (flat_map (λ f. feature_integers f.feature) fs), few_integers_asked fs)

pub few_strings : (files : List (List ℕ)) (fs : List Placed)
    → length (with_strings [] (flat_map (λ f. feature_strings files f.feature) fs)) ≤ 2 * total placed_weight fs
few_strings files fs = omega (arith, few_with_strings [] (flat_map (λ f. feature_strings files f.feature) fs), few_strings_asked files fs)

-- the first features of a program and one more weigh no more than the program
pub front_weighs : (p : List Class) (files : List (List ℕ)) → IsBuildable p files → (fs : List Placed) (f : Placed) (rest : List Placed)
    → all_features p ≡ fs ++ f ∷ rest
    → total placed_weight fs + feature_weight f.feature ≤ 1048602
front_weighs p files b fs f rest e =
    let all : total placed_weight (all_features p) ≡ total placed_weight (fs ++ f ∷ rest) = ap (total placed_weight) e in
    omega (arith, total-append placed_weight fs (f ∷ rest), features_weigh p, table_weight p files b)

pub integers_left : (p : List Class) (files : List (List ℕ)) → IsBuildable p files → (fs : List Placed) (f : Placed) (rest : List Placed)
    → all_features p ≡ fs ++ f ∷ rest
    → length (with_integers [] (flat_map (λ g. feature_integers g.feature) fs)) + expression_size f.feature ≤ 1048602
integers_left p files b fs f rest e = omega (arith, few_integers fs, size_in_weight f.feature, front_weighs p files b fs f rest e)

pub strings_left : (p : List Class) (files : List (List ℕ)) → IsBuildable p files → (fs : List Placed) (f : Placed) (rest : List Placed)
    → all_features p ≡ fs ++ f ∷ rest
    → length (with_strings [] (flat_map (λ g. feature_strings files g.feature) fs)) + 2 * expression_size f.feature ≤ 2097204
strings_left p files b fs f rest e = omega (arith, few_strings files fs, size_in_weight f.feature, front_weighs p files b fs f rest e)

-- the constants of the whole program
pub program_integers : (p : List Class) (files : List (List ℕ)) → IsBuildable p files
    → length (program_constants p files).integers ≤ 1048602
program_integers p files b = omega (arith, few_integers (all_features p), features_weigh p, table_weight p files b)

pub program_strings : (p : List Class) (files : List (List ℕ)) → IsBuildable p files → length (program_constants p files).strings ≤ 2097204
program_strings p files b = omega (arith, few_strings files (all_features p), features_weigh p, table_weight p files b)
