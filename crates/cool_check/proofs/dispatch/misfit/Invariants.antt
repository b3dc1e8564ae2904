-- In the loop of `misfit`, the first of the remaining arguments that does not conform to its formal parameter is the first one among all arguments.
use Rattle.std.proofs.Common.{◌≡◌, map, drop}
use Rattle.cool_syntax.specs.Tree.{of_list}
use Rattle.cool_syntax.specs.NodeLists.{all_trees, at_id}
use Rattle.cool_classes.specs.Features.{formals_of}
use Rattle.cool_check.specs.Contexts.{context}
use Rattle.cool_check.specs.FirstFaults.{misfit}
use Rattle.cool_check.proofs.dispatch.misfit.Given as goal

abbrev pub invariant-loop-index : goal.invariant-loop-index
invariant-loop-index l =
    misfit (context l.setting) l.rule (drop l.index (formals_of l.setting.table.now l.method)) (drop l.index l.given) (of_list (map (at_id (all_trees l.setting.body.now)) (drop l.index l.args)))
    ≡ misfit (context l.setting) l.rule (formals_of l.setting.table.now l.method) l.given (of_list (map (at_id (all_trees l.setting.body.now)) l.args))
