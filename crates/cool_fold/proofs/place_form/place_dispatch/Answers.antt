-- `place_dispatch` appends a dispatch to the nodes of its folded receiver and arguments: together they are the nodes of the folded dispatch. It is a static
-- dispatch if no proper subclass redefines the method.
use Rattle.std.proofs.Common.{◌∙◌, sym, subst}
use Rattle.cool_syntax.specs.NodeLists.{tree_at, trees_of}
use Rattle.cool_fold.specs.PlacedForms.{PlacesDispatch}
use Rattle.cool_fold.proofs.FoldedWholes.{direct_folds, dispatch_folds}
use Rattle.cool_fold.proofs.place_form.place_dispatch.Goals as goal

pub returns-then-is_redefined-clause-placed : goal.returns-then-is_redefined-clause-placed
returns-then-is_redefined-clause-placed c =
    let s = c.args.setting.now in
    let placed = c.args.placed.now in
    let after = c.place.new.placed in
    let call = c.in-Dispatch in
    subst (λ m. PlacesDispatch s m c.args.ty c.args.class c.args.object c.args.args placed after c.place.result) (sym call.is)
    (λ scope before between f of class object first rest.
    dispatch_folds s scope c.requires.sound of.types before after call.at (tree_at s.body.now call.receiver) call.name _
    (trees_of s.body.now call.args) c.args.object _ c.args.args c.args.class c.args.ty between placed f c.place.result of.type class object
    c.in_ok-copy-in-Dispatch.ensures.copied c.new-args.ensures first rest (sym c.is_redefined.ensures ∙ c.if-is_redefined.true)
    c.place.ensures.placed c.place.ensures.typed c.place.ensures.constant c.place.ensures.last)

pub returns-clause-placed : goal.returns-clause-placed
returns-clause-placed c =
    let s = c.args.setting.now in
    let placed = c.args.placed.now in
    let after = c.place-in-Dispatch.new.placed in
    let call = c.in-Dispatch in
    subst (λ m. PlacesDispatch s m c.args.ty c.args.class c.args.object c.args.args placed after c.place-in-Dispatch.result) (sym call.is)
    (λ scope before between f of class object first rest.
    direct_folds s scope c.requires.sound of.types before after call.at (tree_at s.body.now call.receiver) call.name _ _
    (trees_of s.body.now call.args) c.args.object _ c.args.args c.args.class c.args.ty between placed f c.place-in-Dispatch.result of.type class object
    c.in_ok-copy-in-Dispatch.ensures.copied c.new-args.ensures first rest (sym c.is_redefined.ensures ∙ c.if-is_redefined.false)
    (c.in_ok-named-in-Dispatch.ensures.copied ∙ c.name.ensures)
    c.place-in-Dispatch.ensures.placed c.place-in-Dispatch.ensures.typed c.place-in-Dispatch.ensures.constant c.place-in-Dispatch.ensures.last)
