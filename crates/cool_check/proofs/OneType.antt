-- An expression has at most one type by the typing rules, if its class is in a complete class table and all names in scope have types of the table.
use Rattle.std.proofs.Common.{◌≡◌, ◌<◌, List, [], length}
use Rattle.cool_syntax.specs.Tree.{Tree}
use Rattle.cool_classes.specs.declared.class_id.ClassId.{ClassId}
use Rattle.cool_classes.specs.declared.class_id.Ty.{Ty}
use Rattle.cool_classes.specs.Chains.{Class}
use Rattle.cool_classes.specs.Tables.{IsWholeTable}
use Rattle.cool_rules.specs.Scopes.{AreTypes, Binding}
use Rattle.cool_rules.specs.Typing.{HasType}
use Rattle.cool_check.proofs.CheckedDecides.{checked_decides, one_of}

pub one_type : (p : List Class) → IsWholeTable p → (c : ClassId) (scope : List Binding) (e : Tree) (t u : Ty) → c.0 < length p → AreTypes p scope
    → HasType p c scope e t → HasType p c scope e u → t ≡ u
one_type p whole c scope e t u within types has also = one_of (checked_decides (record { table = p; class = c; attributes = scope }) whole within types e [] tt) t u has also
