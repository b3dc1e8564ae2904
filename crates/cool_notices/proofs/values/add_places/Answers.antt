-- `add_places` adds the parts that give the value of an expression to the expressions still to be visited, or adds the place of the expression if it gives
-- its value itself.
use Rattle.std.proofs.Common.{◌∙◌, [], ◌∷◌, ap, arith, subst, sym}
use Rattle.std.proofs.lemmas.Result.{on_ok_weaker}
use Rattle.cool_syntax.specs.declared.node.Node.TheVariants as node
use Rattle.cool_syntax.specs.Tree.{tree_size}
use Rattle.cool_syntax.specs.NodeLists.{HasPartsBelow, all_trees, made}
use Rattle.cool_notices.specs.ValuePlaces.{value_places}
use Rattle.cool_notices.specs.ValuesLeft.{AreIn, places_at}
use Rattle.cool_notices.proofs.ValuesOfParts.{AllBelow, BodiesBelow, are_both_in, are_branches_in, are_items_in, parts_left, parts_smaller, places_of_branches, places_of_items, size_of_branches, size_of_items}
use Rattle.cool_notices.proofs.values.add_places.Goals as goal

pub returns-in-If-clause-size : goal.returns-in-If-clause-size
returns-in-If-clause-size c =
    let body = c.args.body.now in
    let is = c.node.ensures.tree ∙ ap (made (all_trees body)) c.in-If.is in
    on_ok_weaker c.add_both.result (λ e. parts_smaller body c.args.left.now.items (c.in-If.yes ∷ c.in-If.no ∷ []) c.add_both.new.left.items _ e (omega (arith, ap tree_size is))) c.add_both.ensures

pub returns-in-Block-clause-left : goal.returns-in-Block-clause-left
returns-in-Block-clause-left c =
    let body = c.args.body.now in
    let items : AllBelow c.args.id.0 c.as_slice.result.now = subst (AllBelow c.args.id.0) (sym c.as_slice.ensures) (subst (HasPartsBelow c.args.id.0) c.in-Block.is c.node.ensures.parts) in
    on_ok_weaker c.add_last.result (λ e. subst (AreIn body) (sym e) (are_both_in body c.args.left.now.items _ c.requires.left (are_items_in body c.args.id.0 c.as_slice.result.now c.requires.below items))) c.add_last.ensures

pub returns-in-Block-clause-size : goal.returns-in-Block-clause-size
returns-in-Block-clause-size c =
    let body = c.args.body.now in
    let is = c.node.ensures.tree ∙ ap (made (all_trees body)) (c.in-Block.is ∙ ap (node.Block c.in-Block.at) (sym c.as_slice.ensures)) in
    on_ok_weaker c.add_last.result (λ e. parts_smaller body c.args.left.now.items _ c.add_last.new.left.items _ e (omega (arith, ap tree_size is, size_of_items body c.as_slice.result.now))) c.add_last.ensures

pub returns-in-Block-clause-places : goal.returns-in-Block-clause-places
returns-in-Block-clause-places c =
    let body = c.args.body.now in
    let is = c.node.ensures.tree ∙ ap (made (all_trees body)) (c.in-Block.is ∙ ap (node.Block c.in-Block.at) (sym c.as_slice.ensures)) in
    on_ok_weaker c.add_last.result (λ e. parts_left (places_at body) c.args.left.now.items _ _ _ _ e (ap value_places is ∙ places_of_items body c.as_slice.result.now)) c.add_last.ensures

pub returns-in-Let-clause-size : goal.returns-in-Let-clause-size
returns-in-Let-clause-size c =
    let body = c.args.body.now in
    let is = c.node.ensures.tree ∙ ap (made (all_trees body)) c.in-Let.is in
    on_ok_weaker c.add_one.result (λ e. parts_smaller body c.args.left.now.items (c.in-Let.part ∷ []) c.add_one.new.left.items _ e (omega (arith, ap tree_size is))) c.add_one.ensures

pub returns-in-Case-clause-left : goal.returns-in-Case-clause-left
returns-in-Case-clause-left c =
    let body = c.args.body.now in
    let branches : BodiesBelow c.args.id.0 c.as_slice-in-Case.result.now = subst (BodiesBelow c.args.id.0) (sym c.as_slice-in-Case.ensures) (subst (HasPartsBelow c.args.id.0) c.in-Case.is c.node.ensures.parts).1 in
    on_ok_weaker c.add_bodies.result (λ e. subst (AreIn body) (sym e) (are_both_in body c.args.left.now.items _ c.requires.left (are_branches_in body c.args.id.0 c.as_slice-in-Case.result.now c.requires.below branches))) c.add_bodies.ensures

pub returns-in-Case-clause-size : goal.returns-in-Case-clause-size
returns-in-Case-clause-size c =
    let body = c.args.body.now in
    let is = c.node.ensures.tree ∙ ap (made (all_trees body)) (c.in-Case.is ∙ ap (node.Case c.in-Case.at c.in-Case.value) (sym c.as_slice-in-Case.ensures)) in
    on_ok_weaker c.add_bodies.result (λ e. parts_smaller body c.args.left.now.items _ c.add_bodies.new.left.items _ e (omega (arith, ap tree_size is, size_of_branches body c.as_slice-in-Case.result.now))) c.add_bodies.ensures

pub returns-in-Case-clause-places : goal.returns-in-Case-clause-places
returns-in-Case-clause-places c =
    let body = c.args.body.now in
    let is = c.node.ensures.tree ∙ ap (made (all_trees body)) (c.in-Case.is ∙ ap (node.Case c.in-Case.at c.in-Case.value) (sym c.as_slice-in-Case.ensures)) in
    on_ok_weaker c.add_bodies.result (λ e. parts_left (places_at body) c.args.left.now.items _ _ _ _ e (ap value_places is ∙ places_of_branches body c.as_slice-in-Case.result.now)) c.add_bodies.ensures
