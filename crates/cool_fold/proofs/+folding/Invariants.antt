-- The functions that fold an expression recursively terminate: they go from a node to its parts, which have smaller numbers. The loops of `fold_all` and
-- `fold_branches` have folded the parts before the current one.
use Rattle.std.proofs.Common.{◌+◌, ◌*◌, ◌<◌, ◌≤◌, List, length, drop}
use Rattle.std.specs.List.{AllByRecursion}
use Rattle.cool_syntax.specs.Tree.{trees_size, cases_size}
use Rattle.cool_syntax.specs.NodeLists.{cases_of, trees_of}
use Rattle.cool_rules.specs.Scopes.{AreTypes, Binding}
use Rattle.cool_rules.specs.TypedParts.{AreBranches, AreParts}
use Rattle.cool_fold.specs.FoldingSettings.{typed_body}
use Rattle.cool_fold.proofs.PartsFolded.{SomeBranchesFolded, SomeFolded}
use Rattle.cool_fold.proofs.+folding.Given as goal

abbrev pub decreases-expression::fold : goal.decreases-expression::fold
decreases-expression::fold l = 8 * l.id.0 + 4

abbrev pub decreases-fold_operator::fold_unary : goal.decreases-fold_operator::fold_unary
decreases-fold_operator::fold_unary l = 8 * l.id.0 + 3

abbrev pub decreases-fold_operator::fold_binary : goal.decreases-fold_operator::fold_binary
decreases-fold_operator::fold_binary l = 8 * l.id.0 + 3

abbrev pub decreases-fold_call::fold_dispatch : goal.decreases-fold_call::fold_dispatch
decreases-fold_call::fold_dispatch l = 8 * l.id.0 + 3

abbrev pub decreases-fold_call::fold_static : goal.decreases-fold_call::fold_static
decreases-fold_call::fold_static l = 8 * l.id.0 + 3

abbrev pub decreases-fold_call::fold_args : goal.decreases-fold_call::fold_args
decreases-fold_call::fold_args l = 8 * l.end.0 + 1

abbrev pub decreases-fold_control::fold_while : goal.decreases-fold_control::fold_while
decreases-fold_control::fold_while l = 8 * l.id.0 + 3

abbrev pub decreases-fold_control::fold_block : goal.decreases-fold_control::fold_block
decreases-fold_control::fold_block l = 8 * l.id.0 + 3

abbrev pub decreases-fold_control::fold_if : goal.decreases-fold_control::fold_if
decreases-fold_control::fold_if l = 8 * l.id.0 + 3

abbrev pub decreases-fold_binding::fold_let : goal.decreases-fold_binding::fold_let
decreases-fold_binding::fold_let l = 8 * l.id.0 + 3

abbrev pub decreases-fold_binding::fold_case : goal.decreases-fold_binding::fold_case
decreases-fold_binding::fold_case l = 8 * l.id.0 + 3

abbrev pub decreases-expression::fold_all : goal.decreases-expression::fold_all
decreases-expression::fold_all l = 8 * l.end.0

abbrev pub decreases-fold_binding::fold_option : goal.decreases-fold_binding::fold_option
decreases-fold_binding::fold_option l = 8 * l.end.0

abbrev pub decreases-fold_binding::fold_branches : goal.decreases-fold_binding::fold_branches
decreases-fold_binding::fold_branches l = 8 * l.end.0

abbrev pub invariant-expression::fold_all-loop-item : goal.invariant-expression::fold_all-loop-item
invariant-expression::fold_all-loop-item l = record {
  few : length l.placed.nodes.items + trees_size (trees_of l.setting.body.now (drop l.item-index l.items))
      ≤ length l.fn.placed.nodes.items + trees_size (trees_of l.setting.body.now l.items);
  types : length l.placed.types.held + trees_size (trees_of l.setting.body.now (drop l.item-index l.items)) + l.fn.placed.types.room
      ≤ length l.fn.placed.types.held + trees_size (trees_of l.setting.body.now l.items) + l.placed.types.room;
  below : AllByRecursion (λ item. item.0 < l.fn.end.0) (drop l.item-index l.items);
  folded : (scope : List Binding) → AreTypes l.setting.table.now scope → AreParts (typed_body l.setting) scope l.items
      → SomeFolded l.setting scope l.items (drop l.item-index l.items) l.fn.placed l.placed l.ids.items;
}

abbrev pub invariant-fold_binding::fold_branches-loop-branch : goal.invariant-fold_binding::fold_branches-loop-branch
invariant-fold_binding::fold_branches-loop-branch l = record {
  few : length l.placed.nodes.items + cases_size (cases_of l.setting.body.now (drop l.branch-index l.branches))
      ≤ length l.fn.placed.nodes.items + cases_size (cases_of l.setting.body.now l.branches);
  types : length l.placed.types.held + cases_size (cases_of l.setting.body.now (drop l.branch-index l.branches)) + l.fn.placed.types.room
      ≤ length l.fn.placed.types.held + cases_size (cases_of l.setting.body.now l.branches) + l.placed.types.room;
  below : AllByRecursion (λ branch. branch.body.0 < l.fn.end.0) (drop l.branch-index l.branches);
  folded : (scope : List Binding) → AreTypes l.setting.table.now scope → AreBranches (typed_body l.setting) scope l.branches
      → SomeBranchesFolded l.setting scope l.branches (drop l.branch-index l.branches) l.fn.placed l.placed l.folded.items;
}
