-- `place_while` appends the node of a loop to the nodes of its folded test and body: together they are the nodes of the folded loop.
use Rattle.std.proofs.Common.{sym, subst}
use Rattle.cool_syntax.specs.NodeLists.{tree_at}
use Rattle.cool_fold.specs.PlacedForms.{PlacesLoop}
use Rattle.cool_fold.proofs.FoldedWholes.{while_folds}
use Rattle.cool_fold.proofs.place_form.place_while.Goals as goal

pub returns-clause-placed : goal.returns-clause-placed
returns-clause-placed c =
    let s = c.args.setting.now in
    let b = s.body.now in
    let placed = c.args.placed.now in
    let after = c.place.new.placed in
    let loop = c.in-While in
    subst (λ m. PlacesLoop s m c.args.ty c.args.test c.args.body placed after c.place.result) (sym loop.is)
    (λ scope before between f g of tested looped first second.
    while_folds s scope c.requires.sound of.types before after loop.at (tree_at b loop.test) (tree_at b loop.body) c.args.test c.args.body c.args.ty
    between placed f g c.place.result of.type tested looped first second c.place.ensures.placed c.place.ensures.typed c.place.ensures.constant c.place.ensures.last)
