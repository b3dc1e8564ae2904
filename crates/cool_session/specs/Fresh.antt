-- `Types` gives the number of features that a check types: those whose tokens differ from the last check if the signatures of all classes are the same, and
-- all otherwise. It also gives the data (`Base`) stored for the next check.
use Rattle.std.specs.Prelude.{◌≡◌, ◌≢◌, refl, ℕ, suc, ◌≤◌, List, [], ◌∷◌, ◌++◌, map, length, Option, Some, None}
use Rattle.cool_syntax.specs.declared.TheConstants.{MOST_FILES, MOST_SOURCE_BYTES}
use Rattle.cool_syntax.specs.declared.token.Token.{Token}
use Rattle.cool_syntax.specs.declared.token.TokenKind.{TokenKind}
use Rattle.cool_syntax.specs.declared.file_tree.FileTree.{FileTree}
use Rattle.cool_syntax.specs.LexicalStructure.{Lexes}
use Rattle.cool_classes.specs.ClassFaults.{feature_phase, HasClassPhase}
use Rattle.cool_classes.specs.Definitions.{definitions}
use Rattle.cool_faults.specs.Files.{total}
use Rattle.cool_faults.specs.Verdicts.{AreTrees}
use Rattle.cool_session.specs.Signatures.{ClassSignature, features_in, signatures}

-- The data stored for files: the signatures of their classes, and of each feature, in order, the tokens without their places.
pub record Base : Type 0 where
  pub signatures : List ClassSignature
  pub features : List (List TokenKind)

-- the files, of which the first has this number, have features of these tokens
abbrev pub HaveFeatures : ℕ → List (List ℕ) → List (List TokenKind) → Type 0
HaveFeatures file [] fs = fs ≡ []
HaveFeatures file (bytes ∷ files) fs =
    (tokens : List Token) × (rest : List (List TokenKind)) × Lexes file bytes tokens × (fs ≡ features_in (map (λ t. t.kind) tokens) ++ rest)
    × HaveFeatures (suc file) files rest

-- The files reach type checking: they have trees, and neither their classes nor their features have a fault. `now` is the data stored for them.
pub record AreTyped (files : List (List ℕ)) (now : Base) : Type 0 where
  pub trees : List FileTree
  pub are_trees : AreTrees 0 files trees
  pub classes : HasClassPhase (definitions trees) []
  pub features : feature_phase (definitions trees) ≡ []
  pub signed : now.signatures ≡ signatures (definitions trees)
  pub tokens : HaveFeatures 0 files now.features

-- so many items differ from those at the same positions
pub data Differ {X : Type 0} : List X → List X → ℕ → Type 0 where
  none : Differ [] [] 0
  same : (x : X) (xs ys : List X) (n : ℕ) → Differ xs ys n → Differ (x ∷ xs) (x ∷ ys) n
  other : (x y : X) (xs ys : List X) (n : ℕ) → x ≢ y → Differ xs ys n → Differ (x ∷ xs) (y ∷ ys) (suc n)

-- The number of features without a stored result. A feature has one if there is a base with the same signatures whose feature at the same position has the
-- same tokens.
pub data IsFresh (now : Base) : Option Base → ℕ → Type 0 where
  first : IsFresh now None (length now.features)
  signed_anew : (old : Base) → old.signatures ≢ now.signatures → IsFresh now (Some old) (length now.features)
  edited : (old : Base) (n : ℕ) → old.signatures ≡ now.signatures → Differ old.features now.features n → IsFresh now (Some old) n

-- A check of the files over a base types so many features, and leaves a base: none and the same base where an earlier phase finds a fault.
pub data Types (files : List (List ℕ)) (base : Option Base) : ℕ → Option Base → Type 0 where
  typed : (now : Base) (n : ℕ) → AreTyped files now → IsFresh now base n → Types files base n (Some now)
  untyped : ((now : Base) → AreTyped files now → ⊥) → Types files base 0 base

-- The base, if there is one, is that of files that reached type checking.
abbrev pub IsOfFiles : Option Base → Type 0
IsOfFiles None = Unit {0}
IsOfFiles (Some base) = (files : List (List ℕ)) × AreTyped files base

-- A check of the files over this base types some number of features, and leaves some base.
abbrev pub HasCount : List (List ℕ) → Option Base → Type 0
HasCount files base = (n : ℕ) × (after : Option Base) × Types files base n after

-- the same for all files within the limits on their number and their bytes, and for all bases of files
abbrev pub HaveCounts : Type 0
HaveCounts =
    (files : List (List ℕ)) (base : Option Base) → length files ≤ MOST_FILES → total files ≤ MOST_SOURCE_BYTES → IsOfFiles base
    → HasCount files base

-- Worked examples
abbrev empty : Base
empty = record { signatures = []; features = [] ∷ [] ∷ [] }

all_at_first : IsFresh empty None 2
all_at_first = first

none_again : IsFresh empty (Some empty) 0
none_again = edited empty 0 refl (same [] ([] ∷ []) ([] ∷ []) 0 (same [] [] [] 0 none))
