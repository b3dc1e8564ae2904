-- `place_static` appends the node of a static dispatch to the nodes of its folded receiver and arguments: together they are the nodes of the folded
-- dispatch.
use Rattle.std.proofs.Common.{sym, subst}
use Rattle.cool_syntax.specs.NodeLists.{tree_at, trees_of}
use Rattle.cool_fold.specs.PlacedForms.{PlacesStaticDispatch}
use Rattle.cool_fold.proofs.FoldedWholes.{static_folds}
use Rattle.cool_fold.proofs.place_form.place_static.Goals as goal

pub returns-clause-placed : goal.returns-clause-placed
returns-clause-placed c =
    let s = c.args.setting.now in
    let placed = c.args.placed.now in
    let after = c.place.new.placed in
    let call = c.in-StaticDispatch in
    subst (λ m. PlacesStaticDispatch s m c.args.ty c.args.object c.args.args placed after c.place.result) (sym call.is)
    (λ scope before between f of object first rest.
    static_folds s scope c.requires.sound of.types before after call.at (tree_at s.body.now call.receiver) call.class _ call.name _
    (trees_of s.body.now call.args) c.args.object _ c.args.args c.args.ty between placed f c.place.result of.type object
    c.in_ok-class-in-StaticDispatch.ensures.copied c.in_ok-name-in-StaticDispatch.ensures.copied c.new.ensures first rest
    c.place.ensures.placed c.place.ensures.typed c.place.ensures.constant c.place.ensures.last)
