-- `place_unary` appends the node of an assignment or of an operator to the nodes of its folded operand, or replaces these by a constant if its value is
-- known. This gives the nodes of the folded expression.
use Rattle.std.proofs.Common.{sym, subst}
use Rattle.cool_syntax.specs.NodeLists.{tree_at}
use Rattle.cool_fold.specs.PlacedForms.{PlacesUnary}
use Rattle.cool_fold.proofs.FoldedForms.{assign_folds, is_void_folds, neg_folds, not_folds}
use Rattle.cool_fold.proofs.place_operator.place_unary.Goals as goal

pub returns-in_ok-name-in-Assign-clause-placed : goal.returns-in_ok-name-in-Assign-clause-placed
returns-in_ok-name-in-Assign-clause-placed c =
    let s = c.args.setting.now in
    subst (λ m. PlacesUnary s c.args.start m c.args.ty c.args.part.now c.args.placed.now c.place.new.placed c.place.result) (sym c.in-Assign.is)
    (λ scope before of from folded.
    assign_folds s scope before c.place.new.placed c.requires.sound of.types c.in-Assign.at c.in-Assign.name _
    (tree_at s.body.now c.in-Assign.value) c.args.ty c.args.placed.now c.args.part.now c.place.result of.type
    c.in_ok-name-in-Assign.ensures.copied folded c.place.ensures.placed c.place.ensures.typed c.place.ensures.constant c.place.ensures.last)

pub returns-in-IsVoid-clause-placed : goal.returns-in-IsVoid-clause-placed
returns-in-IsVoid-clause-placed c =
    let s = c.args.setting.now in
    subst (λ m. PlacesUnary s c.args.start m c.args.ty c.args.part.now c.args.placed.now c.place_truth.new.placed c.place_truth.result)
    (sym c.in-IsVoid.is)
    (λ scope before of from folded.
    is_void_folds s scope before c.place_truth.new.placed c.in-IsVoid.at (tree_at s.body.now c.in-IsVoid.value)
    c.args.start _ c.args.placed.now c.args.part.now c.place_truth.result from folded c.voided.ensures c.place_truth.ensures.placed
    c.place_truth.ensures.typed c.place_truth.ensures.constant c.place_truth.ensures.last)

pub returns-in-Neg-clause-placed : goal.returns-in-Neg-clause-placed
returns-in-Neg-clause-placed c =
    let s = c.args.setting.now in
    subst (λ m. PlacesUnary s c.args.start m c.args.ty c.args.part.now c.args.placed.now c.place_number.new.placed c.place_number.result)
    (sym c.in-Neg.is)
    (λ scope before of from folded.
    neg_folds s scope before c.place_number.new.placed c.in-Neg.at (tree_at s.body.now c.in-Neg.value) c.args.start _
    c.args.placed.now c.args.part.now c.place_number.result from folded c.negated.ensures c.place_number.ensures.placed
    c.place_number.ensures.typed c.place_number.ensures.constant c.place_number.ensures.last)

pub returns-in-Not-clause-placed : goal.returns-in-Not-clause-placed
returns-in-Not-clause-placed c =
    let s = c.args.setting.now in
    subst (λ m. PlacesUnary s c.args.start m c.args.ty c.args.part.now c.args.placed.now c.place_truth-in-Not.new.placed
    c.place_truth-in-Not.result) (sym c.in-Not.is)
    (λ scope before of from folded.
    not_folds s scope before c.place_truth-in-Not.new.placed c.in-Not.at (tree_at s.body.now c.in-Not.value) c.args.start _
    c.args.placed.now c.args.part.now c.place_truth-in-Not.result from folded c.complemented.ensures c.place_truth-in-Not.ensures.placed
    c.place_truth-in-Not.ensures.typed c.place_truth-in-Not.ensures.constant c.place_truth-in-Not.ensures.last)
