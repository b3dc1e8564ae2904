-- `AreResolved` says that the names, parents and number of the classes of a class table are right, although their features may not be. The table lacks only the
-- properties of `AreGood`: the types of features exist, and the limits are kept.
use Rattle.std.specs.Prelude.{◌≡◌, ◌≢◌, ℕ, ◌+◌, ◌<◌, ◌≤◌, ◌^◌, List, length, take}
use Rattle.std.specs.List.{AllByRecursion}
use Rattle.cool_syntax.specs.declared.place.Place.{Place}
use Rattle.cool_syntax.specs.TokenFacts.{IsPlaced}
use Rattle.cool_syntax.specs.TreesWithinLimits.{IsFeatureWithin}
use Rattle.cool_classes.specs.declared.TheConstants.{MOST_CLASSES}
use Rattle.cool_classes.specs.declared.class_id.ClassId.{ClassId}
use Rattle.cool_classes.specs.declared.entry.Entry.{Entry}
use Rattle.cool_classes.specs.Chains.{Class, name_of, features_of}
use Rattle.cool_classes.specs.Definitions.{HasFewFormals}
use Rattle.cool_classes.specs.Tables.{IsGrounded, IsTyped, basic_classes}
use Rattle.cool_classes.specs.Entries.{classes, depth_at}
use Rattle.cool_classes.specs.Limits.{KeepsLimits}
use Rattle.cool_classes.specs.Names.{self_type}

-- The classes have no fault: their names, parents, depths and number are right.
pub record AreResolved (es : List Entry) : Type 0 where
  pub basic : take 5 (classes es) ≡ basic_classes
  pub grounded : IsGrounded (classes es) (depth_at es)
  pub names : (c d : ClassId) → c.0 < length (classes es) → d.0 < length (classes es) → name_of (classes es) c ≡ name_of (classes es) d → c ≡ d
  pub no_self_type : (c : ClassId) → c.0 < length (classes es) → name_of (classes es) c ≢ self_type
  pub few : length (classes es) ≤ 5 + MOST_CLASSES
  pub few_features : (c : ClassId) → c.0 < length (classes es) → length (features_of (classes es) c) < 2 ^ 32
  pub few_formals : (c : ClassId) → c.0 < length (classes es) → AllByRecursion HasFewFormals (features_of (classes es) c)

-- The properties that a table has once its features have no fault: their types are types, and their number keeps the limits.
pub record AreGood (p : List Class) : Type 0 where
  pub types : (c : ClassId) → c.0 < length p → AllByRecursion (IsTyped p) (features_of p c)
  pub limits : KeepsLimits p

-- the places in the features of all classes, and of the names of the classes after the basic ones, are in so many files
abbrev pub ArePlaced : ℕ → List Entry → List Place → Type 0
ArePlaced files es places =
    ((c : ClassId) → c.0 < length (classes es) → AllByRecursion (IsFeatureWithin files) (features_of (classes es) c))
    × AllByRecursion (IsPlaced files) places
