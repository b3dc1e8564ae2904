-- `IsLayoutOf` says that the code's layout of a class table is right: the preorder of the classes, their tags, the offsets of their attributes, and their
-- dispatch tables.
use Rattle.std.specs.Prelude.{◌≡◌, List, length}
use Rattle.cool_classes.specs.Chains.{Class}
use Rattle.cool_classes.specs.Limits.{KeepsLimits}
use Rattle.cool_layout.specs.declared.layout.Layout.{Layout}
use Rattle.cool_layout.specs.Preorder.{preorder}
use Rattle.cool_layout.specs.Roots.{IsRooted}
use Rattle.cool_layout.specs.Walks.{AreTagsOf, AreLastsOf}
use Rattle.cool_layout.specs.Offsets.{AreOffsets}
use Rattle.cool_layout.specs.SlotTables.{AreTables}

pub record IsLayoutOf (l : Layout) (p : List Class) : Type 0 where
  pub rooted : IsRooted p
  pub limits : KeepsLimits p
  pub order : l.order.items ≡ preorder p
  pub tags : AreTagsOf p l.tags.items
  pub lasts : AreLastsOf p l.lasts.items
  pub offsets : AreOffsets p (length p) l.offsets.items
  pub tables : AreTables p (length p) l.tables.items
