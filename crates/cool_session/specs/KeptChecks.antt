-- `IsBaseOf` says that the data stored from a check is that of these files: their tokens, their class table, and the result for each feature.
use Rattle.std.specs.Prelude.{◌≡◌, ℕ, ◌<◌, ◌^◌, List, [], length, Option}
use Rattle.std.specs.List.{AllByRecursion}
use Rattle.cool_syntax.specs.declared.file_tree.FileTree.{FileTree}
use Rattle.cool_lexer.specs.declared.lexer.Lexed.{Lexed}
use Rattle.cool_classes.specs.Chains.{Class}
use Rattle.cool_classes.specs.ClassFaults.{classes_meant, feature_phase, HasClassPhase}
use Rattle.cool_classes.specs.Declarations.{AreAllAlike}
use Rattle.cool_classes.specs.Definitions.{definitions}
use Rattle.cool_faults.specs.declared.fault.Untyped.{Untyped}
use Rattle.cool_faults.specs.Phases.{AreFound, IsLexed, IsLexical}
use Rattle.cool_faults.specs.Untyped.{IsUntyped}
use Rattle.cool_faults.specs.Verdicts.{AreTrees}
use Rattle.cool_check.specs.FirstFaults.{Checked}
use Rattle.cool_session.specs.declared.base.KeptFault.{KeptFault}
use Rattle.cool_session.specs.Bases.{tokens_of, table_signatures}
use Rattle.cool_session.specs.FeatureTokens.{runs_of}
use Rattle.cool_session.specs.KeptFaults.{results, AreKeptOf}
use Rattle.cool_session.specs.Signatures.{signatures}

-- a file has so few tokens that numbers of 32 bits index them
abbrev pub HasFewTokens : Lexed → Type 0
HasFewTokens lexed = length lexed.tokens.items < 2 ^ 32

-- Files come to be typed: they have these tokens, no phase before typing finds a fault, and these are the classes of their table, except for places, bodies
-- and initial values.
pub record IsRead (files : List (List ℕ)) (ls : List Lexed) (p : List Class) : Type 0 where
  pub lexed : AreFound IsLexed IsLexical 0 files ls []
  pub trees : List FileTree
  pub are_trees : AreTrees 0 files trees
  pub classes : HasClassPhase (definitions trees) []
  pub features : feature_phase (definitions trees) ≡ []
  pub alike : AreAllAlike (classes_meant (definitions trees)) p
  pub signed : table_signatures p ≡ signatures (definitions trees)

-- the results of the checks of the features of trees
abbrev pub results_of : List FileTree → List (Checked (Unit {0}))
results_of trees = results (classes_meant (definitions trees))

-- these results are to be stored for the features of files before typing
abbrev pub AreKept : Untyped → List (Option KeptFault) → Type 0
AreKept u = AreKeptOf (runs_of (tokens_of u.lexed.items)) (results u.classes)

-- these may be the stored results for features of these tokens, for some results of their checks
abbrev pub AreKeptAmong : List Lexed → List (Option KeptFault) → Type 0
AreKeptAmong ls kept = ∥ ((rs : List (Checked (Unit {0}))) × AreKeptOf (runs_of (tokens_of ls)) rs kept) ∥₁

-- the files reached type checking with these tokens and classes, and these are the results stored for their features
pub record IsBaseOf (files : List (List ℕ)) (u : Untyped) (faults : List (Option KeptFault)) : Type 0 where
  pub read : IsRead files u.lexed.items u.classes
  pub kept : AreKeptOf (runs_of (tokens_of u.lexed.items)) (results_of read.trees) faults

-- the same for some files
pub record IsBase (u : Untyped) (faults : List (Option KeptFault)) : Type 0 where
  pub files : List (List ℕ)
  pub base : IsBaseOf files u faults

-- these are the tokens of some files, and so few that numbers of 32 bits name each
pub record IsLexing (ls : List Lexed) : Type 0 where
  pub files : List (List ℕ)
  pub lexed : AreFound IsLexed IsLexical 0 files ls []
  pub few : length ls < 2 ^ 32
  pub short : AllByRecursion HasFewTokens ls

-- the data is the result of the phases before typing for some files
pub record IsClassified (u : Untyped) : Type 0 where
  pub files : List (List ℕ)
  pub untyped : IsUntyped files u
