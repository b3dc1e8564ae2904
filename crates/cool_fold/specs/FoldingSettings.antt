-- `IsSound` is the precondition for folding an expression: its class is in a complete class table, and each of its nodes has a type of this table. `IsStanding`
-- says that a node has a number in the body: its parts are parts of the body, and its type is the static type.
use Rattle.std.specs.Prelude.{◌≡◌, ◌<◌, List, length, slice_get, Some}
use Rattle.std.specs.List.{AllByRecursion}
use Rattle.cool_syntax.specs.declared.node.Node.{Node}
use Rattle.cool_syntax.specs.declared.node.NodeId.{NodeId}
use Rattle.cool_syntax.specs.Tree.{tree_size}
use Rattle.cool_syntax.specs.NodeLists.{tree_of_node}
use Rattle.cool_classes.specs.Tables.{IsWholeTable}
use Rattle.cool_rules.specs.Conformance.{IsType}
use Rattle.cool_rules.specs.Scopes.{AreTypes, Binding}
use Rattle.cool_rules.specs.StaticTypes.{type_of}
use Rattle.cool_rules.specs.TypedParts.{TypedBody, HasParts}
use Rattle.cool_fold.specs.declared.folding_setting.FoldingSetting.{FoldingSetting}
use Rattle.cool_fold.specs.Definers.{AreDefiners}

pub record IsSound (s : FoldingSetting) : Type 0 where
  pub table : IsWholeTable s.table.now
  pub definers : AreDefiners s.table.now s.definers.now
  pub class : s.class.0 < length s.table.now
  pub types : AllByRecursion (IsType s.table.now) s.types.now
  pub each : length s.types.now ≡ tree_size s.body.now

-- the body with the types of its nodes
abbrev pub typed_body : FoldingSetting → TypedBody
typed_body s = record { table = s.table.now; class = s.class; body = s.body.now; types = s.types.now }

-- The node has this number, with these names in scope: its parts have their numbers, and the type at this number is that of the expression that the node
-- makes.
pub record IsStanding (s : FoldingSetting) (scope : List Binding) (id : NodeId) (n : Node) : Type 0 where
  pub types : AreTypes s.table.now scope
  pub parts : HasParts (typed_body s) scope n
  pub type : slice_get s.types.now id.0 ≡ Some (type_of s.table.now s.class scope (tree_of_node s.body.now n))
