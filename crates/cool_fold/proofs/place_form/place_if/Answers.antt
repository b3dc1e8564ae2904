-- `place_if` appends the node of a conditional to the nodes of its folded test and branches, unless one branch replaces the conditional. Together they are the
-- nodes of the folded conditional.
use Rattle.std.proofs.Common.{refl, sym, subst}
use Rattle.cool_syntax.specs.NodeLists.{tree_at}
use Rattle.cool_fold.specs.PlacedForms.{PlacesConditional}
use Rattle.cool_fold.proofs.FoldedWholes.{if_folds}
use Rattle.cool_fold.proofs.place_form.place_if.Goals as goal

pub returns-clause-placed : goal.returns-clause-placed
returns-clause-placed c =
    let s = c.args.setting.now in
    let b = s.body.now in
    let placed = c.args.placed.now in
    let after = c.place.new.placed in
    let whole = c.in-If in
    subst (λ m. PlacesConditional s m c.args.ty c.args.test c.args.yes c.args.no placed after c.place.result) (sym whole.is)
    (λ scope before first second f g h of tested one_is other_is x y z undecided.
    if_folds s scope c.requires.sound of.types before after whole.at (tree_at b whole.test) (tree_at b whole.yes) (tree_at b whole.no) whole.yes
    whole.no _ c.args.test c.args.yes c.args.no c.args.ty first second placed f g h c.place.result of.type tested one_is other_is x y z refl undecided
    c.place.ensures.placed c.place.ensures.typed c.place.ensures.constant c.place.ensures.last)
