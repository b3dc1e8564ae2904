-- `IsTypedTable` says that a program is well typed: its class table is complete and keeps the rules of classes, and each feature is typed (the Cool manual,
-- sections 3 to 6 and 12).
use Rattle.std.specs.Prelude.{◌≡◌, ℕ, ◌<◌, List, length, slice_get, Some}
use Rattle.cool_syntax.specs.declared.file_tree.Feature.{Feature}
use Rattle.cool_classes.specs.declared.class_id.ClassId.{ClassId}
use Rattle.cool_classes.specs.Chains.{Class, features_of}
use Rattle.cool_classes.specs.LawfulTables.{IsLawful}
use Rattle.cool_classes.specs.Tables.{IsWholeTable}
use Rattle.cool_rules.specs.Typing.{IsTypedFeature}

pub record IsTypedTable (p : List Class) : Type 0 where
  pub whole : IsWholeTable p
  pub lawful : IsLawful p
  pub features : (c : ClassId) (k : ℕ) (x : Feature) → c.0 < length p → slice_get (features_of p c) k ≡ Some x → IsTypedFeature p c x
