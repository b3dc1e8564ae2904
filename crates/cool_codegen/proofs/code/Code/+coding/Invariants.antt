-- The mutually recursive functions that generate the code of an expression call each other only for subexpressions, which have smaller node numbers. In each
-- loop the context and the scope stay the same, and the lines so far, followed by those of the remaining parts, are the lines of the whole.
use Rattle.std.proofs.Common.{◌≡◌, ◌+◌, ◌*◌, ◌<◌, ◌≤◌, ◌++◌, [], length, map, drop}
use Rattle.std.specs.List.{AllByRecursion}
use Rattle.mips_isa.specs.Lines.{lines_of}
use Rattle.cool_syntax.specs.Tree.{of_list, of_twigs}
use Rattle.cool_syntax.specs.NodeLists.{all_trees, at_id, twig_at}
use Rattle.cool_syntax.specs.TreesWithinLimits.{AreTreesWithin, AreCasesWithin}
use Rattle.cool_rules.specs.TypedParts.{AreBranches, AreParts}
use Rattle.cool_codegen.specs.Shown.{made_of, shown_of}
use Rattle.cool_codegen.specs.Asked.{Keeps}
use Rattle.cool_codegen.specs.Numbered.{all_asked, arguments_lines, arguments_spans, branch_sizes_at, branches_asked, branches_made, items_lines, items_spans, sizes_at}
use Rattle.cool_codegen.specs.CodeSettings.{context, typed_body}
use Rattle.cool_codegen.specs.Variables.{scope_of}
use Rattle.cool_codegen.proofs.code.Code.+coding.Given as goal

abbrev pub decreases-expression : goal.decreases-expression
decreases-expression l = 8 * l.id.0 + 5

abbrev pub decreases-parts : goal.decreases-parts
decreases-parts l = 8 * l.id.0 + 4

abbrev pub decreases-control : goal.decreases-control
decreases-control l = 8 * l.id.0 + 3

abbrev pub decreases-dispatch : goal.decreases-dispatch
decreases-dispatch l = 8 * l.id.0 + 3

abbrev pub decreases-binding : goal.decreases-binding
decreases-binding l = 8 * l.id.0 + 3

abbrev pub decreases-unary : goal.decreases-unary
decreases-unary l = 8 * l.id.0 + 3

abbrev pub decreases-binary : goal.decreases-binary
decreases-binary l = 8 * l.id.0 + 3

abbrev pub decreases-operands : goal.decreases-operands
decreases-operands l = 8 * l.end.0 + 2

abbrev pub decreases-within : goal.decreases-within
decreases-within l = 8 * l.body.0 + 6

abbrev pub decreases-arm : goal.decreases-arm
decreases-arm l = 8 * l.branch.now.body.0 + 7

abbrev pub decreases-initial : goal.decreases-initial
decreases-initial l = 8 * l.end.0

abbrev pub decreases-arms : goal.decreases-arms
decreases-arms l = 8 * l.id.0

abbrev pub decreases-items : goal.decreases-items
decreases-items l = 8 * l.end.0

abbrev pub decreases-arguments : goal.decreases-arguments
decreases-arguments l = 8 * l.end.0

abbrev pub invariant-items-loop-item : goal.invariant-items-loop-item
invariant-items-loop-item l = record {
  setting : l.self.setting ≡ l.fn.self.setting;
  scope : l.self.variables ≡ l.fn.self.variables;
  kept : Keeps l.fn.self.consts l.self.consts;
  lines : lines_of l.self.lines.items ++ items_lines (context l.fn.self.setting) l.fn.self.setting.body.now l.self.consts l.fn.self.variables l.depth (drop l.item-index l.items)
      ≡ lines_of l.fn.self.lines.items ++ items_lines (context l.fn.self.setting) l.fn.self.setting.body.now l.fn.self.consts l.fn.self.variables l.depth l.items;
  spans : map shown_of l.self.spans.items ++ items_spans l.fn.self.setting.wanted (context l.fn.self.setting) l.fn.self.setting.body.now l.self.consts l.fn.self.variables l.depth (lines_of l.self.lines.items) (drop l.item-index l.items)
      ≡ map shown_of l.fn.self.spans.items ++ items_spans l.fn.self.setting.wanted (context l.fn.self.setting) l.fn.self.setting.body.now l.fn.self.consts l.fn.self.variables l.depth (lines_of l.fn.self.lines.items) l.items;
  asked : all_asked (context l.fn.self.setting).files l.fn.self.setting.body.now l.self.consts (drop l.item-index l.items) ≡ all_asked (context l.fn.self.setting).files l.fn.self.setting.body.now l.fn.self.consts l.items;
  deep : sizes_at l.fn.self.setting.body.now (drop l.item-index l.items) ≤ sizes_at l.fn.self.setting.body.now l.items;
  more_integers : length l.self.consts.integers + sizes_at l.fn.self.setting.body.now (drop l.item-index l.items) ≤ length l.fn.self.consts.integers + sizes_at l.fn.self.setting.body.now l.items;
  more_strings : length l.self.consts.strings + 2 * sizes_at l.fn.self.setting.body.now (drop l.item-index l.items) ≤ length l.fn.self.consts.strings + 2 * sizes_at l.fn.self.setting.body.now l.items;
  parts : AreParts (typed_body l.fn.self.setting) (scope_of l.fn.self.variables) (drop l.item-index l.items);
  places : AreTreesWithin (length l.fn.self.setting.names.now) (of_list (map (at_id (all_trees l.fn.self.setting.body.now)) (drop l.item-index l.items)));
  below : AllByRecursion (λ item. item.0 < l.fn.end.0) (drop l.item-index l.items);
}

abbrev pub invariant-arguments-loop-arg : goal.invariant-arguments-loop-arg
invariant-arguments-loop-arg l = record {
  setting : l.self.setting ≡ l.fn.self.setting;
  scope : l.self.variables ≡ l.fn.self.variables;
  kept : Keeps l.fn.self.consts l.self.consts;
  lines : lines_of l.self.lines.items ++ arguments_lines (context l.fn.self.setting) l.fn.self.setting.body.now l.self.consts l.fn.self.variables l.inner (drop l.arg-index l.args)
      ≡ lines_of l.fn.self.lines.items ++ arguments_lines (context l.fn.self.setting) l.fn.self.setting.body.now l.fn.self.consts l.fn.self.variables l.depth l.args;
  spans : map shown_of l.self.spans.items ++ arguments_spans l.fn.self.setting.wanted (context l.fn.self.setting) l.fn.self.setting.body.now l.self.consts l.fn.self.variables l.inner (lines_of l.self.lines.items) (drop l.arg-index l.args)
      ≡ map shown_of l.fn.self.spans.items ++ arguments_spans l.fn.self.setting.wanted (context l.fn.self.setting) l.fn.self.setting.body.now l.fn.self.consts l.fn.self.variables l.depth (lines_of l.fn.self.lines.items) l.args;
  asked : all_asked (context l.fn.self.setting).files l.fn.self.setting.body.now l.self.consts (drop l.arg-index l.args) ≡ all_asked (context l.fn.self.setting).files l.fn.self.setting.body.now l.fn.self.consts l.args;
  inner : l.inner ≡ l.depth + l.arg-index;
  deep : l.inner + sizes_at l.fn.self.setting.body.now (drop l.arg-index l.args) ≤ l.depth + sizes_at l.fn.self.setting.body.now l.args;
  more_integers : length l.self.consts.integers + sizes_at l.fn.self.setting.body.now (drop l.arg-index l.args) ≤ length l.fn.self.consts.integers + sizes_at l.fn.self.setting.body.now l.args;
  more_strings : length l.self.consts.strings + 2 * sizes_at l.fn.self.setting.body.now (drop l.arg-index l.args) ≤ length l.fn.self.consts.strings + 2 * sizes_at l.fn.self.setting.body.now l.args;
  parts : AreParts (typed_body l.fn.self.setting) (scope_of l.fn.self.variables) (drop l.arg-index l.args);
  places : AreTreesWithin (length l.fn.self.setting.names.now) (of_list (map (at_id (all_trees l.fn.self.setting.body.now)) (drop l.arg-index l.args)));
  below : AllByRecursion (λ arg. arg.0 < l.fn.end.0) (drop l.arg-index l.args);
}

abbrev pub invariant-arms-loop-branch : goal.invariant-arms-loop-branch
invariant-arms-loop-branch l = record {
  setting : l.self.setting ≡ l.fn.self.setting;
  scope : l.self.variables ≡ l.fn.self.variables;
  kept : Keeps l.fn.self.consts l.self.consts;
  lines : l.self.lines ≡ l.fn.self.lines;
  spans : l.self.spans ≡ l.fn.self.spans;
  made : branches_made l.fn.self.setting.wanted (context l.fn.self.setting) l.fn.self.setting.body.now l.self.consts l.fn.self.variables l.depth l.end (map made_of l.sorted.items) (drop l.branch-index l.branches)
      ≡ branches_made l.fn.self.setting.wanted (context l.fn.self.setting) l.fn.self.setting.body.now l.fn.self.consts l.fn.self.variables l.depth l.end [] l.branches;
  asked : branches_asked (context l.fn.self.setting).files l.fn.self.setting.body.now l.self.consts (drop l.branch-index l.branches) ≡ branches_asked (context l.fn.self.setting).files l.fn.self.setting.body.now l.fn.self.consts l.branches;
  deep : branch_sizes_at l.fn.self.setting.body.now (drop l.branch-index l.branches) ≤ branch_sizes_at l.fn.self.setting.body.now l.branches;
  more_integers : length l.self.consts.integers + branch_sizes_at l.fn.self.setting.body.now (drop l.branch-index l.branches) ≤ length l.fn.self.consts.integers + branch_sizes_at l.fn.self.setting.body.now l.branches;
  more_strings : length l.self.consts.strings + 2 * branch_sizes_at l.fn.self.setting.body.now (drop l.branch-index l.branches) ≤ length l.fn.self.consts.strings + 2 * branch_sizes_at l.fn.self.setting.body.now l.branches;
  parts : AreBranches (typed_body l.fn.self.setting) (scope_of l.fn.self.variables) (drop l.branch-index l.branches);
  places : AreCasesWithin (length l.fn.self.setting.names.now) (of_twigs (map (twig_at (all_trees l.fn.self.setting.body.now)) (drop l.branch-index l.branches)));
  below : AllByRecursion (λ branch. branch.body.0 < l.fn.id.0) (drop l.branch-index l.branches);
}
