-- The loop of `folded_expressions` has added the folded expressions of the classes before the current one, and the types of their nodes.
use Rattle.std.proofs.Common.{◌≡◌, ◌++◌, drop}
use Rattle.cool_rules.specs.NodeTypes.{classes_types, columns_of, table_types}
use Rattle.cool_fold.specs.Expressions.{expressions_from}
use Rattle.cool_fold.specs.Folding.{fold_table}
use Rattle.cool_fold.proofs.program.folded_expressions.Given as goal

abbrev pub invariant-loop-number : goal.invariant-loop-number
invariant-loop-number l = record {
  expressions : l.all.items ++ expressions_from l.number (drop l.number (fold_table l.p)) ≡ expressions_from 0 (fold_table l.p);
  types : columns_of l.types.items ++ classes_types (fold_table l.p) l.number (drop l.number (fold_table l.p))
      ≡ table_types (fold_table l.p);
}
