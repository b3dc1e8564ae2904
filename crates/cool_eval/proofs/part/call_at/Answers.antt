-- `call_at` gives access to a dispatch in a body as a `Call`, because the receiver and the arguments of the dispatch are nodes of the same body.
use Rattle.cool_syntax.specs.Tree.{tree_size}
use Rattle.cool_eval.proofs.PartsOfCalls.{parts_below}
use Rattle.cool_eval.proofs.part.call_at.Goals as goal

pub invariant_of-result : goal.invariant_of-result
invariant_of-result c =
    (c.requires.group, parts_below c.args.id.0 (tree_size c.args.body.now) c.requires.below c.args.node.now c.requires.group c.requires.parts)
