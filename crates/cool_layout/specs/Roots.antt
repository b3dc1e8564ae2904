-- `IsRooted` says that all classes of a class table inherit from Object, directly or through others.
use Rattle.std.specs.Prelude.{◌≡◌, ◌<◌, List, length, Some, None}
use Rattle.cool_classes.specs.declared.class_id.ClassId.{ClassId}
use Rattle.cool_classes.specs.Chains.{Class, class_number, parent_of}
use Rattle.cool_classes.specs.Tables.{IsTable}

-- a table in which the parent of a class is a class of the table, and only Object has no parent
pub record IsRooted (p : List Class) : Type 0 where
  pub table : IsTable p
  pub above : (c q : ClassId) → c.0 < length p → parent_of p c ≡ Some q → q.0 < length p
  pub top : (c : ClassId) → c.0 < length p → parent_of p c ≡ None → c ≡ class_number 0
