use Rattle.std.proofs.Common.{◌≡◌, map, drop}
use Rattle.cool_syntax.specs.Tree.{of_twigs}
use Rattle.cool_syntax.specs.NodeLists.{all_trees, twig_at}
use Rattle.cool_eval.specs.StackMachine.{branch_named}
use Rattle.cool_eval.proofs.part.Twigs.named.Given as goal

abbrev pub invariant-loop-branch : goal.invariant-loop-branch
invariant-loop-branch l =
    branch_named (of_twigs (map (twig_at (all_trees l.body)) l.branch-items)) l.class ≡ branch_named (of_twigs (map (twig_at (all_trees l.body)) (drop l.branch-index l.branch-items))) l.class
