-- `KeepsLimits` says that a class table keeps this compiler's limits: on the number of classes, and on the attributes and methods of a class, inherited ones
-- included.
use Rattle.std.specs.Prelude.{◌≡◌, ◌≢◌, ℕ, ◌+◌, ◌≤◌, ◌<◌, List, [], ◌∷◌, length, Some, None, refl}
use Rattle.std.specs.List.{AllByRecursion}
use Rattle.cool_classes.specs.declared.TheConstants.{MOST_CLASSES, MOST_ATTRIBUTES, MOST_METHODS}
use Rattle.cool_classes.specs.declared.class_id.ClassId.{ClassId}
use Rattle.cool_classes.specs.Chains.{Class, IsChain}
use Rattle.cool_classes.specs.Features.{implementation, attributes_of}
use Rattle.lists.specs.Different.{AreDifferent}

-- a class of the chain has a method of this name
abbrev pub IsImplemented : List Class → List ClassId → List ℕ → Type 0
IsImplemented p ds name = implementation p ds name ≢ None

-- At most 1,000 classes besides the basic ones; at most 2,000 attributes of a class, and as many methods of different names.
pub record KeepsLimits (p : List Class) : Type 0 where
  pub classes : length p ≤ 5 + MOST_CLASSES
  pub attributes : (c : ClassId) (ds : List ClassId) → c.0 < length p → IsChain p (Some c) ds → length (attributes_of p ds) ≤ MOST_ATTRIBUTES
  pub methods : (c : ClassId) (ds : List ClassId) (names : List (List ℕ)) → c.0 < length p → IsChain p (Some c) ds → AreDifferent names → AllByRecursion (IsImplemented p ds) names
      → length names ≤ MOST_METHODS

-- each limit by its value
most_classes : MOST_CLASSES ≡ 1000
most_classes = refl

most_attributes : MOST_ATTRIBUTES ≡ 2000
most_attributes = refl

most_methods : MOST_METHODS ≡ 2000
most_methods = refl
