-- `place_let` appends the node of a `let` to the nodes of its folded initial value and body: together they are the nodes of the folded `let`.
use Rattle.std.proofs.Common.{sym, subst}
use Rattle.cool_syntax.specs.NodeLists.{tree_at, maybe_tree_of}
use Rattle.cool_fold.specs.PlacedForms.{PlacesLet}
use Rattle.cool_fold.proofs.FoldedWholes.{let_folds}
use Rattle.cool_fold.proofs.place_form.place_let.Goals as goal

pub returns-clause-placed : goal.returns-clause-placed
returns-clause-placed c =
    let s = c.args.setting.now in
    let placed = c.args.placed.now in
    let after = c.place.new.placed in
    let whole = c.in-Let in
    subst (λ m. PlacesLet s m c.args.ty c.args.init c.args.body placed after c.place.result) (sym whole.is)
    (λ scope before between f of bound value body.
    let_folds s scope c.requires.sound of.types before after whole.at whole.name _ whole.declared _ (maybe_tree_of s.body.now whole.init)
    (tree_at s.body.now whole.body) c.args.init c.args.body c.args.ty between placed f c.place.result of.type bound
    c.in_ok-name-in-Let.ensures.copied c.in_ok-declared-in-Let.ensures.copied value body
    c.place.ensures.placed c.place.ensures.typed c.place.ensures.constant c.place.ensures.last)
