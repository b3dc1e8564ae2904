-- `IsSound` says that the context in which an expression is checked is well formed: its class is in a complete class table, and all names in scope have types
-- of this table.
use Rattle.std.specs.Prelude.{◌<◌, List, length}
use Rattle.cool_classes.specs.declared.class_id.ClassId.{ClassId}
use Rattle.cool_classes.specs.Chains.{Class}
use Rattle.cool_classes.specs.Tables.{IsWholeTable}
use Rattle.cool_rules.specs.Scopes.{AreTypes, Binding}
use Rattle.cool_check.specs.declared.typing_setting.TypingSetting.{TypingSetting}

-- a class of a whole table, with its attributes in scope
pub record IsSoundClass (p : List Class) (c : ClassId) (attributes : List Binding) : Type 0 where
  pub whole : IsWholeTable p
  pub class : c.0 < length p
  pub types : AreTypes p attributes

abbrev pub IsSound : TypingSetting → Type 0
IsSound s = IsSoundClass s.table.now s.class s.attributes.now
