-- `IsSound` is the precondition for collecting the occurrences of names in an expression: it is in a class of a complete class table, whose classes are the
-- basic ones and those of the given definitions.
use Rattle.std.specs.Prelude.{◌≡◌, ℕ, ◌+◌, ◌<◌, List, length}
use Rattle.cool_syntax.specs.declared.file_tree.ClassDef.{ClassDef}
use Rattle.cool_syntax.specs.Tree.{tree_size}
use Rattle.cool_classes.specs.Chains.{Class}
use Rattle.cool_classes.specs.Tables.{IsTable}
use Rattle.cool_names.specs.declared.naming_setting.NamingSetting.{NamingSetting}
use Rattle.cool_names.specs.Scopes.{variables}
use Rattle.cool_names.specs.Marks.{Context}

-- a whole table, with a definition of each class that is not a basic one
pub record AreClasses (p : List Class) (ds : List ClassDef) : Type 0 where
  pub table : IsTable p
  pub each : length p ≡ length ds + 5

abbrev pub IsSound : NamingSetting → Type 0
IsSound s = AreClasses s.program.table.now s.program.definitions.now × (s.class.0 < length s.program.table.now)

abbrev pub context : NamingSetting → Context
context s = record { table = s.program.table.now; definitions = s.program.definitions.now; class = s.class; attributes = variables s.attributes.now }

-- the expressions before this number of the body can be walked through
pub record IsReady (s : NamingSetting) (number : ℕ) : Type 0 where
  pub sound : IsSound s
  pub below : number < tree_size s.body.now
