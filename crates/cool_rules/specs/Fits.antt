-- `Fits` collects the compiler's limits that every accepted program keeps, such as those on classes, features, names and files. The code generator relies on
-- them.
use Rattle.std.specs.Prelude.{ℕ, ◌+◌, ◌≤◌, ◌<◌, List, [], ◌∷◌, length, drop}
use Rattle.std.specs.List.{AllByRecursion}
use Rattle.cool_syntax.specs.declared.TheConstants.{MOST_FILES, MOST_SOURCE_BYTES}
use Rattle.cool_syntax.specs.FeatureSizes.{IsBoundedFeature}
use Rattle.cool_syntax.specs.TreesWithinLimits.{IsTypeName, IsFeatureWithin}
use Rattle.cool_syntax.specs.Weights.{features_weight}
use Rattle.cool_classes.specs.declared.class_id.ClassId.{ClassId}
use Rattle.cool_classes.specs.Chains.{Class, name_of, features_of}
use Rattle.cool_classes.specs.Limits.{KeepsLimits}

-- the weight of the classes: their names, and the formals, nodes, branches and bytes of string constants of their features
abbrev pub weight_of : List Class → ℕ
weight_of [] = 0
weight_of (c ∷ cs) = 1 + length c.name + features_weight c.features + weight_of cs

-- A table keeps the limits, and its places stand in this many files.
pub record Fits (p : List Class) (count : ℕ) : Type 0 where
  -- the number of classes, and of the attributes and methods of each
  pub table : KeepsLimits p
  -- each feature has at most MOST_TOKENS formals, nodes and branches
  pub bounded : (c : ClassId) → c.0 < length p → AllByRecursion IsBoundedFeature (features_of p c)
  -- names are identifiers, constants keep their limits, and places stand in the files
  pub within : (c : ClassId) → c.0 < length p → AllByRecursion (IsFeatureWithin count) (features_of p c)
  pub names : (c : ClassId) → c.0 < length p → IsTypeName (name_of p c)
  -- the classes after the basic ones hold no more than the text may have bytes
  pub weight : weight_of (drop 5 p) ≤ MOST_SOURCE_BYTES
  pub files : count ≤ MOST_FILES
