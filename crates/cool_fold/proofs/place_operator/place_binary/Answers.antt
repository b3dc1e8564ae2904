-- `place_binary` appends the node of an operator to the nodes of its two folded operands, or replaces these by a constant if its value is known. This gives
-- the nodes of the folded operator.
use Rattle.std.proofs.Common.{sym, subst}
use Rattle.cool_syntax.specs.NodeLists.{tree_at}
use Rattle.cool_fold.specs.PlacedForms.{PlacesBinary}
use Rattle.cool_fold.proofs.FoldedForms.{arith_folds, compare_folds}
use Rattle.cool_fold.proofs.place_operator.place_binary.Goals as goal

pub returns-in-Arith-clause-placed : goal.returns-in-Arith-clause-placed
returns-in-Arith-clause-placed c =
    let s = c.args.setting.now in
    subst (λ m. PlacesBinary s c.args.start m c.args.first.now c.args.second.now c.args.placed.now c.place_number.new.placed
    c.place_number.result) (sym c.in-Arith.is)
    (λ scope before between from left right.
    arith_folds s scope before c.place_number.new.placed c.in-Arith.at c.in-Arith.op (tree_at s.body.now c.in-Arith.left)
    (tree_at s.body.now c.in-Arith.right) c.args.start _ between c.args.placed.now c.args.first.now c.args.second.now
    c.place_number.result from left right c.computed-number.ensures c.place_number.ensures.placed c.place_number.ensures.typed
    c.place_number.ensures.constant c.place_number.ensures.last)

pub returns-in-Compare-clause-placed : goal.returns-in-Compare-clause-placed
returns-in-Compare-clause-placed c =
    let s = c.args.setting.now in
    subst (λ m. PlacesBinary s c.args.start m c.args.first.now c.args.second.now c.args.placed.now c.place_truth.new.placed
    c.place_truth.result) (sym c.in-Compare.is)
    (λ scope before between from left right.
    compare_folds s scope before c.place_truth.new.placed c.in-Compare.at c.in-Compare.op
    (tree_at s.body.now c.in-Compare.left) (tree_at s.body.now c.in-Compare.right) c.args.start _ between c.args.placed.now
    c.args.first.now c.args.second.now c.place_truth.result from left right c.compared-truth.ensures c.place_truth.ensures.placed
    c.place_truth.ensures.typed c.place_truth.ensures.constant c.place_truth.ensures.last)
