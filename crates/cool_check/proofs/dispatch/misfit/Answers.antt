-- `misfit` returns the type error of the first argument of a call that does not conform to its formal parameter: each step of its loop passes one argument that
-- conforms. The location of the error is that of an argument in one of the files.
use Rattle.std.proofs.Common.{ap, sym, subst, ◌∙◌, arith}
use Rattle.cool_syntax.specs.Tree.{place_of}
use Rattle.cool_syntax.specs.NodeLists.{all_trees}
use Rattle.cool_syntax.specs.TokenFacts.{IsPlaced}
use Rattle.cool_classes.specs.Features.{formals_of}
use Rattle.cool_check.specs.declared.fault.TypeFault.{TypeFault}
use Rattle.cool_check.specs.Contexts.{context}
use Rattle.cool_check.proofs.Misfits.{misfit_later}
use Rattle.cool_check.proofs.PlacesOfParts.{tree_within, place_within}
use Rattle.cool_check.proofs.dispatch.misfit.Goals as goal

pub returns-then-not-conforms-clause-places : goal.returns-then-not-conforms-clause-places
returns-then-not-conforms-clause-places c = λ n h.
    let t = c.args.setting.now.body.now in
    let placed = place_within n _ (tree_within n t c.args.args.now c.loop-index.index _ (omega arith) h) in
    let there = ap place_of c.node.ensures.tree ∙ sym (c.place-at.ensures (all_trees t)) in
    subst (IsPlaced n) (there ∙ sym (ap (λ (fault : TypeFault). fault.at) c.unfit.ensures)) placed

pub loop-index-preserved : goal.loop-index-preserved
loop-index-preserved c =
    let p = c.args.setting.now.table.now in
    let t = c.args.setting.now.body.now in
    let within = c.loop-index-test.true in
    let same = c.requires.formals in
    let each = c.requires.arguments.each in
    misfit_later (context c.args.setting.now) c.args.rule (formals_of p c.args.method) c.args.given.now (all_trees t) c.args.args.now c.loop-index.index _ _ _ (omega arith) (omega arith) within
    (sym c.conforms.ensures ∙ c.if-not-conforms.false) c.formal-formal.ensures.formal
    ∙ c.loop-index.invariant
