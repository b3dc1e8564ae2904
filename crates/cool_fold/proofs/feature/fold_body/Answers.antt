-- `fold_body` returns the folded expression of a feature and the types of its nodes, as `fold` makes them. In scope are the formals of the feature and the
-- attributes of the class.
use Rattle.std.proofs.Common.{List, length, Some, ◌∙◌, ap, subst, arith}
use Rattle.std.specs.Prelude.{option_map}
use Rattle.std.specs.declared.alloc.AllocError.{AllocError}
use Rattle.cool_syntax.specs.Tree.{tree_size}
use Rattle.cool_classes.specs.Chains.{Class, features_of}
use Rattle.cool_syntax.specs.declared.TheConstants.{MOST_FILES}
use Rattle.cool_rules.specs.Fits.{Fits}
use Rattle.cool_rules.specs.NodeScopes.{feature_scope}
use Rattle.cool_rules.specs.TypedTables.{IsTypedTable}
use Rattle.cool_fold.specs.Shrinking.{shrunk}
use Rattle.cool_fold.proofs.FoldedBodies.{body_folds, body_sound, body_there, few_nodes, whole_folded}
use Rattle.cool_fold.proofs.feature.fold_body.Goals as goal
use Rattle.lists.proofs.ItemsAt.{there_is}

pub fold-requires-clause-sound : goal.fold-requires-clause-sound
fold-requires-clause-sound c =
    let p = c.args.p.now in
    let k = c.args.c in
    let table = c.table-table.ensures.table in
    let typed = subst IsTypedTable table c.table-table.ensures.typed in
    let (x, there) = there_is (features_of p k) c.args.feature c.requires.feature in
    let has = body_there p c.table-table.result.now k c.args.feature x _ c.in-Some.body.now table there c.expression_at.ensures
    (ap (option_map (λ b. b.now)) c.in-Some.is) in
    body_sound _ p table x (body_folds p typed k c.requires.class c.args.feature x c.in-Some.body.now there has) (c.types.ensures x there) typed
    c.requires.definers c.requires.class

pub fold-requires-clause-room : goal.fold-requires-clause-room
fold-requires-clause-room c =
    let p = c.args.p.now in
    let k = c.args.c in
    let table = c.table-table.ensures.table in
    let fits = c.table-table.ensures.fits in
    let (x, there) = there_is (features_of p k) c.args.feature c.requires.feature in
    let has = body_there p c.table-table.result.now k c.args.feature x _ c.in-Some.body.now table there c.expression_at.ensures
    (ap (option_map (λ b. b.now)) c.in-Some.is) in
    let few = few_nodes p MOST_FILES (subst (λ (q : List Class). Fits q MOST_FILES) table fits) k c.requires.class c.args.feature x c.in-Some.body.now there has in
    omega (arith, few, ap tree_size c.root.ensures.tree, ap length c.new-nodes.ensures.items)

pub from_nodes-requires-clause-few : goal.from_nodes-requires-clause-few
from_nodes-requires-clause-few c =
    let p = c.args.p.now in
    let k = c.args.c in
    let table = c.table-table.ensures.table in
    let fits = c.table-table.ensures.fits in
    let (x, there) = there_is (features_of p k) c.args.feature c.requires.feature in
    let has = body_there p c.table-table.result.now k c.args.feature x _ c.in-Some.body.now table there c.expression_at.ensures
    (ap (option_map (λ b. b.now)) c.in-Some.is) in
    let few = few_nodes p MOST_FILES (subst (λ (q : List Class). Fits q MOST_FILES) table fits) k c.requires.class c.args.feature x c.in-Some.body.now there has in
    omega (arith, few, ap tree_size c.root.ensures.tree, ap length c.new-nodes.ensures.items, c.in_ok-fold.ensures.few)

pub from_nodes-requires-clause-postorder : goal.from_nodes-requires-clause-postorder
from_nodes-requires-clause-postorder c =
    let p = c.args.p.now in
    let k = c.args.c in
    let table = c.table-table.ensures.table in
    let typed = subst IsTypedTable table c.table-table.ensures.typed in
    let (x, there) = there_is (features_of p k) c.args.feature c.requires.feature in
    let has = body_there p c.table-table.result.now k c.args.feature x _ c.in-Some.body.now table there c.expression_at.ensures
    (ap (option_map (λ b. b.now)) c.in-Some.is) in (
      shrunk p k (feature_scope p k x) c.in-Some.body.now,
      (whole_folded _ p table x (body_folds p typed k c.requires.class c.args.feature x c.in-Some.body.now there has) (c.types.ensures x there)
          {E = AllocError} c.root.result _ c.fold.new.placed _ c.root.ensures.last c.root.ensures.tree c.new-nodes.ensures.items c.in_ok-column.ensures.held
          c.in_ok-fold.ensures.folded).0,
    )

pub returns-clause-body : goal.returns-clause-body
returns-clause-body c = λ x there.
    let p = c.args.p.now in
    let k = c.args.c in
    let table = c.table-table.ensures.table in
    let typed = subst IsTypedTable table c.table-table.ensures.typed in
    let has = body_there p c.table-table.result.now k c.args.feature x _ c.in-Some.body.now table there c.expression_at.ensures
    (ap (option_map (λ b. b.now)) c.in-Some.is) in
    let folds = body_folds p typed k c.requires.class c.args.feature x c.in-Some.body.now there has in
    let done = whole_folded _ p table x folds (c.types.ensures x there) {E = AllocError} c.root.result _ c.fold.new.placed _ c.root.ensures.last
    c.root.ensures.tree c.new-nodes.ensures.items c.in_ok-column.ensures.held c.in_ok-fold.ensures.folded in
    ap Some (c.from_nodes.ensures.tree (shrunk p k (feature_scope p k x) c.in-Some.body.now) done.0) ∙ folds.body

pub returns-clause-types : goal.returns-clause-types
returns-clause-types c = λ x there.
    let p = c.args.p.now in
    let k = c.args.c in
    let table = c.table-table.ensures.table in
    let typed = subst IsTypedTable table c.table-table.ensures.typed in
    let has = body_there p c.table-table.result.now k c.args.feature x _ c.in-Some.body.now table there c.expression_at.ensures
    (ap (option_map (λ b. b.now)) c.in-Some.is) in
    let folds = body_folds p typed k c.requires.class c.args.feature x c.in-Some.body.now there has in
    c.of-folded.ensures
    ∙ c.into_values.ensures
    ∙ (whole_folded _ p table x folds (c.types.ensures x there) {E = AllocError} c.root.result _ c.fold.new.placed _ c.root.ensures.last
    c.root.ensures.tree c.new-nodes.ensures.items c.in_ok-column.ensures.held c.in_ok-fold.ensures.folded).1
