-- `AreTags` says that each class has a tag of its own, and that the tags of a class and of the classes below it are a range.
use Rattle.std.specs.Prelude.{◌≡◌, ℕ, ◌<◌, ◌≤◌, List, length}
use Rattle.cool_classes.specs.declared.class_id.ClassId.{ClassId}
use Rattle.cool_classes.specs.Chains.{Class, Below}
use Rattle.cool_layout.specs.Preorder.{tag, last_tag}

pub record AreTags (p : List Class) : Type 0 where
  pub low : (c : ClassId) → c.0 < length p → tag p c < length p
  pub one : (c d : ClassId) → c.0 < length p → d.0 < length p → tag p c ≡ tag p d → c ≡ d
  pub each : (k : ℕ) → k < length p → (c : ClassId) × (c.0 < length p) × (tag p c ≡ k)
  -- the tags from that of a class up to its last one are those of the classes below it
  pub below : (c d : ClassId) → c.0 < length p → d.0 < length p → Below p d c → (tag p c ≤ tag p d) × (tag p d ≤ last_tag p c)
  pub only_below : (c d : ClassId) → c.0 < length p → d.0 < length p → tag p c ≤ tag p d → tag p d ≤ last_tag p c → Below p d c
