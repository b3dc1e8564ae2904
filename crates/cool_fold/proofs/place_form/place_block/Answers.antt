-- `place_block` appends the node of a block to the nodes of its folded expressions: together they are the nodes of the folded block.
use Rattle.std.proofs.Common.{sym, subst}
use Rattle.cool_syntax.specs.NodeLists.{trees_of}
use Rattle.cool_fold.specs.PlacedForms.{PlacesBlock}
use Rattle.cool_fold.proofs.FoldedWholes.{block_folds}
use Rattle.cool_fold.proofs.place_form.place_block.Goals as goal

pub returns-clause-placed : goal.returns-clause-placed
returns-clause-placed c =
    let s = c.args.setting.now in
    let placed = c.args.placed.now in
    let after = c.place.new.placed in
    let block = c.in-Block in
    subst (λ m. PlacesBlock s m c.args.ty c.args.items placed after c.place.result) (sym block.is)
    (λ scope before of folded.
    block_folds s scope c.requires.sound of.types before after block.at _ (trees_of s.body.now block.items) c.args.items c.args.ty placed c.place.result of.type
    c.new-items.ensures folded c.place.ensures.placed c.place.ensures.typed c.place.ensures.constant c.place.ensures.last)
