-- The mutually recursive functions around `type_of` append the static type of each node of an expression after those of its subexpressions. A type error that a
-- subexpression returns is in one of the program's files, as the subexpression is.
use Rattle.std.proofs.Common.{◌≡◌, ◌+◌, ◌<◌, ◌++◌, ◌∙◌, Err, drop, map, ap, sym, subst, rules, arith, List}
use Rattle.std.proofs.lemmas.Grind.{common_steps, elements, moves, pieces}
use Rattle.std.specs.Prelude.{IfErr, OnOk}
use Rattle.std.specs.List.{AllByRecursion}
use Rattle.cool_syntax.specs.declared.node.Node.{Node}
use Rattle.cool_syntax.specs.declared.node.NodeBranch.{NodeBranch}
use Rattle.cool_syntax.specs.Tree.{Tree, cases_size, of_twigs}
use Rattle.cool_syntax.specs.NodeLists.{all_trees, made, tree_at, twig_at, HasPartsBelow, cases_of, maybe_tree_of}
use Rattle.cool_syntax.specs.TreesWithinLimits.{IsTreeWithin}
use Rattle.cool_classes.specs.declared.class_id.Ty.TheVariants.{Class as IsClass}
use Rattle.cool_rules.specs.NodeTypes.{types_of_cases}
use Rattle.cool_check.specs.Checks.{nodes_typed, parts_typed}
use Rattle.cool_check.specs.Contexts.{context}
use Rattle.cool_check.specs.Faults.{IsPlacedError}
use Rattle.cool_check.proofs.ColumnsOfParts.{on_ok, own_added, let_added, branch_added}
use Rattle.cool_check.proofs.PlacesOfParts.{tree_within, branch_within, ids_below}
use Rattle.cool_check.proofs.TypesGiven.{static_type_given, bound_meant, branch_meant}
use Rattle.lists.proofs.ItemsLeft.{drop_one}
use Rattle.cool_check.proofs.+typing.Goals as goal

pub binding::type_of_branches-returns-in_err-class-clause-answer : goal.binding::type_of_branches-returns-in_err-class-clause-answer
binding::type_of_branches-returns-in_err-class-clause-answer t c = record {
  good = search rules;
  typed = search rules;
  first = first_of (grind (arith, common_steps), grind (arith, elements), grind (arith, moves), grind (arith, pieces));
  places = λ n h.
      let within = branch_within n c.args.setting.now.body.now c.args.branches.now c.loop-branch.branch-index c.branch-item.result (omega arith) c.branch-item.is h in
      let same : c.from_residual.result ≡ Err c.in_err-class.field-0.0 = search rules in
      subst (λ r. IfErr r (IsPlacedError n)) (sym same) (c.in_err-class.ensures.places n (within.0, within.1));
}

pub binding::type_of_branches-returns-in_err-found-clause-answer : goal.binding::type_of_branches-returns-in_err-found-clause-answer
binding::type_of_branches-returns-in_err-found-clause-answer t c = record {
  good = search rules;
  typed = search rules;
  first = first_of (grind (arith, common_steps), grind (arith, elements), grind (arith, moves), grind (arith, pieces));
  places = λ n h.
      let within = branch_within n c.args.setting.now.body.now c.args.branches.now c.loop-branch.branch-index c.branch-item.result (omega arith) c.branch-item.is h in
      let same : c.from_residual-in_err-found.result ≡ Err c.in_err-found.field-0.0 = search rules in
      subst (λ r. IfErr r (IsPlacedError n)) (sym same) (c.in_err-found.ensures.answer.places n within.2);
}

pub binding::type_of_binding-returns-in_err-bound-in-Let-clause-answer : goal.binding::type_of_binding-returns-in_err-bound-in-Let-clause-answer
binding::type_of_binding-returns-in_err-bound-in-Let-clause-answer t c = record {
  good = search rules;
  typed = search rules;
  first = first_of (grind (arith, common_steps), grind (arith, elements), grind (arith, moves), grind (arith, pieces));
  places = λ n h.
      let parts = subst (λ m. IsTreeWithin n (made (all_trees c.args.setting.now.body.now) m)) c.in-Let.is h in
      let same : c.from_residual-in_err-bound-in-Let.result ≡ Err c.in_err-bound-in-Let.field-0.0 = search rules in
      subst (λ r. IfErr r (IsPlacedError n)) (sym same) (c.in_err-bound-in-Let.ensures.places n (parts.0, parts.2.1));
}

pub dispatch::type_of_call-returns-in_err-class-in-StaticDispatch-clause-answer : goal.dispatch::type_of_call-returns-in_err-class-in-StaticDispatch-clause-answer
dispatch::type_of_call-returns-in_err-class-in-StaticDispatch-clause-answer t c = record {
  good = search rules;
  typed = search rules;
  first = first_of (grind (arith, common_steps), grind (arith, elements), grind (arith, moves), grind (arith, pieces));
  places = λ n h.
      let parts = subst (λ m. IsTreeWithin n (made (all_trees c.args.setting.now.body.now) m)) c.in-StaticDispatch.is h in
      let same : c.from_residual-in_err-class-in-StaticDispatch.result ≡ Err c.in_err-class-in-StaticDispatch.field-0.0 = search rules in
      subst (λ r. IfErr r (IsPlacedError n)) (sym same) (c.in_err-class-in-StaticDispatch.ensures.places n parts.2.1);
}

pub dispatch::type_of_call-type_of_result-requires-in-StaticDispatch-clause-arguments : goal.dispatch::type_of_call-type_of_result-requires-in-StaticDispatch-clause-arguments
dispatch::type_of_call-type_of_result-requires-in-StaticDispatch-clause-arguments t c =
    let parts = subst (HasPartsBelow c.args.id.0) c.in-StaticDispatch.is c.requires.parts in
    record {
      args = subst (AllByRecursion (λ arg. arg.0 < _)) (sym c.as_slice-in-StaticDispatch-2.ensures) (ids_below c.args.id.0 _ c.in-StaticDispatch.args c.requires.ready.below parts.1);
      given = search rules;
      each = search rules;
    }

pub expression::types_of-returns-in_err-type_of-clause-places : goal.expression::types_of-returns-in_err-type_of-clause-places
expression::types_of-returns-in_err-type_of-clause-places t c = λ n h.
    let same : c.from_residual.result ≡ Err c.in_err-type_of.field-0.0 = search rules in
    subst (λ r. IfErr r (IsPlacedError n)) (sym same) (c.in_err-type_of.ensures.answer.places n (tree_within n c.args.setting.now.body.now c.args.items.now c.loop-item.item-index _ (omega arith) h))

pub expression::type_of_last-returns-in_err-last-clause-answer : goal.expression::type_of_last-returns-in_err-last-clause-answer
expression::type_of_last-returns-in_err-last-clause-answer t c = record {
  good = search rules;
  typed = search rules;
  first = first_of (grind (arith, common_steps), grind (arith, elements), grind (arith, moves), grind (arith, pieces));
  places = λ n h.
      let same : c.from_residual.result ≡ Err c.in_err-last.field-0.0 = search rules in
      subst (λ r. IfErr r (IsPlacedError n)) (sym same) (c.in_err-last.ensures.answer.places n (tree_within n c.args.setting.now.body.now c.args.items.now c.loop-item.item-index _ (omega arith) h));
}

pub expression::type_of-returns-clause-column : goal.expression::type_of-returns-clause-column
expression::type_of-returns-clause-column t c =
    let s = c.args.setting.now in
    let o = c.args.locals.now in
    let e = made (all_trees s.body.now) c.node.result.now in
    let sound = c.requires.ready.sound in
    let same = static_type_given (context s) sound.whole sound.class sound.types o c.requires.ready.locals e c.in_ok-found.found c.in_ok-found.ensures.answer.typed in
    subst (λ (x : Tree). c.push.new.self.held ≡ c.args.types.now.held ++ nodes_typed s o x) (sym c.node.ensures.tree)
    (own_added s.table.now s.class (o ++ s.attributes.now) e c.args.types.now.held c.type_of_node.new.types.held c.push.new.self.held c.in_ok-found.found c.in_ok-found.ensures.column c.push.ensures.held same)

pub binding::type_of_binding-returns-in_ok-bound-in-Let-clause-column : goal.binding::type_of_binding-returns-in_ok-bound-in-Let-clause-column
binding::type_of_binding-returns-in_ok-bound-in-Let-clause-column t c =
    let s = c.args.setting.now in
    let o = c.args.locals.now in
    let n = c.in-Let in
    let meant = bound_meant (context s) n.at n.name n.declared c.in_ok-given-in-Let.given c.in_ok-bound-in-Let.bound c.in_ok-bound-in-Let.ensures.typed in
    subst (λ (x : Node). OnOk c.type_within.result (c.type_within.new.types.held ≡ c.args.types.now.held ++ parts_typed s o (made (all_trees s.body.now) x))) (sym n.is)
    (on_ok c.type_within.result
    (let_added s.table.now s.class s.attributes.now o c.type_of_option.new.locals n.at n.name n.declared (maybe_tree_of s.body.now n.init) (tree_at s.body.now n.body) c.in_ok-bound-in-Let.bound
    c.args.types.now.held c.type_of_option.new.types.held c.type_within.new.types.held meant c.in_ok-given-in-Let.ensures.scope c.in_ok-given-in-Let.ensures.column)
    c.type_within.ensures.column)

pub binding::type_of_branches-loop-branch-preserved : goal.binding::type_of_branches-loop-branch-preserved
binding::type_of_branches-loop-branch-preserved t c =
    let s = c.args.setting.now in
    let o = c.args.locals.now in
    let w = c.branch-item.result in
    let left = drop (c.loop-branch.branch-index + 1) c.args.branches.now in
    let class = c.in_ok-class.class in
    let meant = branch_meant (context s) w.at w.name w.declared c.deref.result.now class c.in_ok-class.ensures.typed in
    record {
      scope = search rules;
      joined = search rules;
      walked = first_of (search rules, grind (arith, common_steps), grind (arith, elements), grind (arith, moves), grind (arith, pieces));
      column = branch_added s.table.now s.class s.attributes.now o c.loop-branch.locals w.at w.name w.declared (tree_at s.body.now w.body) (cases_of s.body.now left) (IsClass class) c.loop-branch.types.held c.type_within.new.types.held
          meant c.loop-branch.invariant.scope c.in_ok-found.ensures.column
          ∙ sym (ap (λ (ws : List NodeBranch). c.loop-branch.types.held ++ types_of_cases s.table.now s.class (o ++ s.attributes.now) (of_twigs (map (twig_at (all_trees s.body.now)) ws)))
          (drop_one c.args.branches.now c.loop-branch.branch-index w (omega arith) c.branch-item.is))
          ∙ c.loop-branch.invariant.column;
      room = omega (arith, c.in_ok-found.ensures.room, ap (λ (ws : List NodeBranch). cases_size (cases_of s.body.now ws)) (drop_one c.args.branches.now c.loop-branch.branch-index w (omega arith) c.branch-item.is), c.loop-branch.invariant.room);
      below = first_of (search rules, grind (arith, common_steps), grind (arith, elements), grind (arith, moves), grind (arith, pieces));
    }
