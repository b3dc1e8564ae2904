-- `IsWalk` says that the code's list of all classes is in preorder. `AreTagsOf` and `AreLastsOf` say that the code gives each class the right tag, and the
-- right last tag of the classes below it.
use Rattle.std.specs.Prelude.{◌≡◌, ℕ, ◌+◌, ◌<◌, List, length, filter, get_or, slice_get, Option, None}
use Rattle.std.specs.Global.{Vec}
use Rattle.cool_classes.specs.declared.class_id.ClassId.{ClassId}
use Rattle.cool_classes.specs.Chains.{Class, class_number, parent_of}
use Rattle.cool_layout.specs.declared.order.Walk.{Walk}
use Rattle.cool_layout.specs.Preorder.{numbers_from, is_parent, family, preorder, tag, last_tag}

-- the children of each class among so many classes
pub record AreChildren (p : List Class) (n : ℕ) (all : List (Vec ClassId)) : Type 0 where
  pub same : length all ≡ length p
  pub children : (q : ℕ) (d : Vec ClassId) → q < length p → (get_or all q d).items ≡ filter (λ c. is_parent (class_number q) (parent_of p c)) (numbers_from 0 n)

-- the class after the family of each of these classes in preorder
abbrev pub AreNext : List Class → List ClassId → List (Option ClassId) → Type 0
AreNext p order next = (k : ℕ) → k < length order → get_or next k None ≡ slice_get (preorder p) (k + length (family p (get_or order k (class_number 0))))

pub record IsWalk (p : List Class) (walk : Walk) : Type 0 where
  pub order : walk.order.items ≡ preorder p
  pub same : length walk.next.items ≡ length walk.order.items
  pub next : AreNext p walk.order.items walk.next.items

-- the tag of each class, and the last tag of each
pub record AreTagsOf (p : List Class) (tags : List ℕ) : Type 0 where
  pub same : length tags ≡ length p
  pub tag_is : (c : ClassId) → c.0 < length p → get_or tags c.0 0 ≡ tag p c

pub record AreLastsOf (p : List Class) (lasts : List ℕ) : Type 0 where
  pub same : length lasts ≡ length p
  pub last_is : (c : ClassId) → c.0 < length p → get_or lasts c.0 0 ≡ last_tag p c
