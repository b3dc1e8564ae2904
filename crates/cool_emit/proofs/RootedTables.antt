-- In a complete class table, all classes inherit from Object, directly or through other classes.
use Rattle.std.proofs.Common.{List}
use Rattle.cool_classes.specs.Chains.{Class}
use Rattle.cool_classes.specs.Tables.{IsWholeTable}
use Rattle.cool_layout.specs.Roots.{IsRooted}

-- a whole table is rooted
pub rooted : (p : List Class) → IsWholeTable p → IsRooted p
rooted p whole = record {
  table = whole.table;
  above = λ c q within e. (whole.grounded.above c q within e).0;
  top = λ c within e. (whole.grounded.top c within e).0;
}
