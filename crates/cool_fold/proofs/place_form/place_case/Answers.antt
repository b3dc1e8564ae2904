-- `place_case` appends the node of a `case` to the nodes of its folded value and branches: together they are the nodes of the folded `case`.
use Rattle.std.proofs.Common.{sym, subst}
use Rattle.cool_syntax.specs.NodeLists.{tree_at, cases_of}
use Rattle.cool_fold.specs.PlacedForms.{PlacesCase}
use Rattle.cool_fold.proofs.FoldedWholes.{case_folds}
use Rattle.cool_fold.proofs.place_form.place_case.Goals as goal

pub returns-clause-placed : goal.returns-clause-placed
returns-clause-placed c =
    let s = c.args.setting.now in
    let placed = c.args.placed.now in
    let after = c.place.new.placed in
    let whole = c.in-Case in
    subst (λ m. PlacesCase s m c.args.ty c.args.value c.args.branches placed after c.place.result) (sym whole.is)
    (λ scope before between f of valued value rest.
    case_folds s scope c.requires.sound of.types before after whole.at (tree_at s.body.now whole.value) (cases_of s.body.now whole.branches) c.args.value _
    c.args.branches c.args.ty between placed f c.place.result of.type valued c.new.ensures value rest
    c.place.ensures.placed c.place.ensures.typed c.place.ensures.constant c.place.ensures.last)
