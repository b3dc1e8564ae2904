-- `IsLineage` says that the list of the ancestors of a class that the code keeps is right. `AreCounts` says the same of the numbers of attributes and methods
-- that each class adds to those of its ancestors.
use Rattle.std.specs.Prelude.{◌≡◌, ℕ, ◌+◌, ◌<◌, List, [], ◌∷◌, length, get_or}
use Rattle.std.specs.List.{AllByRecursion}
use Rattle.cool_classes.specs.declared.class_id.ClassId.{ClassId}
use Rattle.cool_classes.specs.declared.entry.Entry.{Entry}
use Rattle.cool_classes.specs.declared.lineage.Lineage.{Lineage}
use Rattle.cool_classes.specs.declared.feature_limits.Counts.{Counts}
use Rattle.cool_classes.specs.Chains.{Class, IsChain, parent_of, features_of}
use Rattle.cool_classes.specs.Entries.{classes}
use Rattle.cool_classes.specs.Features.{own_attributes}
use Rattle.cool_classes.specs.MethodNames.{new_methods}

-- classes of the table
abbrev pub AreWithin : List Entry → List ClassId → Type 0
AreWithin es = AllByRecursion (λ c. c.0 < length es)

-- the class and those above it are classes of the table, and those above are its chain without itself
pub record IsLineage (es : List Entry) (lineage : Lineage) : Type 0 where
  pub within : lineage.class.0 < length es
  pub above : AreWithin es lineage.above.items
  pub chain : IsChain (classes es) (parent_of (classes es) lineage.class) lineage.above.items

-- the sum of the counts of these classes
abbrev pub sum_at : List ℕ → List ClassId → ℕ
sum_at counts [] = 0
sum_at counts (d ∷ ds) = get_or counts d.0 0 + sum_at counts ds

-- the numbers of attributes, and of names of methods, that each of so many classes adds to those above it
pub record AreCounted (count : ℕ) (p : List Class) (of_attributes of_methods : List ℕ) : Type 0 where
  pub same_attributes : length of_attributes ≡ count
  pub same_methods : length of_methods ≡ count
  pub attributes : (c : ClassId) → c.0 < count → get_or of_attributes c.0 0 ≡ length (own_attributes c 0 (features_of p c))
  pub methods : (c : ClassId) (ds : List ClassId) → c.0 < count → IsChain p (parent_of p c) ds → get_or of_methods c.0 0 ≡ length (new_methods p ds c)

abbrev pub AreCounts : ℕ → List Class → Counts → Type 0
AreCounts count p counts = AreCounted count p counts.attributes.items counts.methods.items
