-- `as_class` converts an entry of the code's class table, which also stores the number of ancestors, to a class as the specification defines it. `AreWhole`
-- says that entries are a complete class table, and that these numbers are right.
use Rattle.std.specs.Prelude.{◌≡◌, ℕ, List, [], map, get_or, Option, Some, None, refl}
use Rattle.cool_syntax.specs.declared.file_tree.Feature.{Feature}
use Rattle.cool_syntax.specs.Tree.{Tree}
use Rattle.cool_classes.specs.declared.class_id.ClassId.{ClassId}
use Rattle.cool_classes.specs.declared.entry.Entry.{Entry}
use Rattle.cool_classes.specs.Bodies.{with_body, changed_at}
use Rattle.cool_classes.specs.Chains.{Class}
use Rattle.cool_classes.specs.Tables.{IsTable, IsGrounded, basic_classes}

abbrev pub as_class : Entry → Class
as_class e = record { name = e.name; parent = e.parent; features = e.features }

abbrev pub classes : List Entry → List Class
classes es = map as_class es

-- an entry with the feature at an index changed: by a function, to one with another expression, and to another feature
abbrev pub entry_changed : ℕ → (Feature → Feature) → Entry → Entry
entry_changed k f e = record e { features = changed_at k f e.features }

abbrev pub entry_with_body : ℕ → Tree → Entry → Entry
entry_with_body k t = entry_changed k (with_body t)

abbrev pub entry_with_feature : ℕ → Feature → Entry → Entry
entry_with_feature k x = entry_changed k (λ (y : Feature). x)

abbrev pub no_entry : Entry
no_entry = record { name = []; parent = None; depth = 0; features = [] }

abbrev pub depth_at : List Entry → ClassId → ℕ
depth_at es c = (get_or es c.0 no_entry).depth

-- the entries are those of a whole table, and their depths are right
pub record AreWhole (es : List Entry) : Type 0 where
  pub table : IsTable (classes es)
  pub grounded : IsGrounded (classes es) (depth_at es)

-- the depth of a basic class: 0 for Object, and 1 for the others, which inherit from Object
abbrev pub basic_depth : Option ClassId → ℕ
basic_depth None = 0
basic_depth (Some object) = 1

abbrev pub basic_entry : Class → Entry
basic_entry c = record { name = c.name; parent = c.parent; depth = basic_depth c.parent; features = c.features }

-- the entries of the basic classes
abbrev pub basic_entries : List Entry
basic_entries = map basic_entry basic_classes

-- Worked example: they are seen as the basic classes.
basic_entries_seen : classes basic_entries ≡ basic_classes
basic_entries_seen = refl
