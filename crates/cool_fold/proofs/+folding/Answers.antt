-- The functions that fold an expression recursively, such as `fold` and `fold_if`, append the nodes of the folded expression. Each folds the parts of an
-- expression first and then appends the node of the expression itself, or keeps only the branch that a constant test takes.
use Rattle.std.proofs.Common.{◌≡◌, ◌+◌, ◌-◌, ◌^◌, ◌<◌, ◌≤◌, List, ◌∷◌, length, drop, get_or, Ok, None, refl, sym, subst, ◌∙◌, ap, arith}
use Rattle.std.proofs.lemmas.List.{drop_more}
use Rattle.std.specs.List.{AllByRecursion}
use Rattle.std.specs.declared.alloc.AllocError.{AllocError}
use Rattle.cool_syntax.specs.declared.node.NodeBranch.{NodeBranch}
use Rattle.cool_syntax.specs.declared.node.NodeId.{NodeId}
use Rattle.cool_syntax.specs.Tree.{cases_size, tree_size, trees_size}
use Rattle.cool_syntax.specs.NodeLists.{all_trees, made, tree_at, HasPartsBelow, cases_of, trees_of}
use Rattle.cool_rules.specs.Conformance.{class_of}
use Rattle.cool_rules.specs.Rules.{join_in, type_meant}
use Rattle.cool_rules.specs.StaticTypes.{type_of}
use Rattle.cool_rules.proofs.PartsStand.{part_type}
use Rattle.cool_rules.specs.Typing.{with_name}
use Rattle.cool_rules.proofs.TypesAreTypes.{meant_is_type}
use Rattle.cool_rules.specs.Scopes.{AreTypes}
use Rattle.cool_fold.specs.Folding.{truth_in}
use Rattle.cool_fold.specs.FoldedNodes.{Folds, FoldsBranches, FoldsPart, FoldsParts}
use Rattle.cool_fold.specs.PlacedForms.{IsFolded, PlacesBlock, PlacesCase, PlacesConditional, PlacesDispatch, PlacesLet, PlacesLoop, PlacesStaticDispatch}
use Rattle.cool_fold.specs.FoldingSettings.{typed_body, IsStanding}
use Rattle.cool_fold.specs.Shrinking.{taken}
use Rattle.cool_fold.proofs.FoldedConditionals.{cut_back, cut_short, cut_shorter, fewer, left, part_within, taken_folds, taken_is, taken_part_is, taken_stands}
use Rattle.cool_fold.proofs.PartsFolded.{one_branch_folded, one_folded, SomeBranchesFolded, SomeFolded}
use Rattle.cool_fold.proofs.PartsOfForms.{has_operand, has_operands, operand_within, operands_within}
use Rattle.cool_fold.proofs.StandingNodes.{node_folds, part_got, type_got}
use Rattle.cool_fold.proofs.+folding.Goals as goal

pub expression::fold-returns-in-Dispatch-clause-folded : goal.expression::fold-returns-in-Dispatch-clause-folded
expression::fold-returns-in-Dispatch-clause-folded t c =
    node_folds c.args.setting.now c.args.id c.node-node.result.now c.args.placed.now c.fold_dispatch.new.placed c.fold_dispatch.result c.node-node.ensures.node
    c.node-node.ensures.tree c.fold_dispatch.ensures.folded

pub expression::fold-returns-in-StaticDispatch-clause-folded : goal.expression::fold-returns-in-StaticDispatch-clause-folded
expression::fold-returns-in-StaticDispatch-clause-folded t c =
    node_folds c.args.setting.now c.args.id c.node-node.result.now c.args.placed.now c.fold_static.new.placed c.fold_static.result c.node-node.ensures.node
    c.node-node.ensures.tree c.fold_static.ensures.folded

pub expression::fold-returns-in-Let-clause-folded : goal.expression::fold-returns-in-Let-clause-folded
expression::fold-returns-in-Let-clause-folded t c =
    node_folds c.args.setting.now c.args.id c.node-node.result.now c.args.placed.now c.fold_let.new.placed c.fold_let.result c.node-node.ensures.node
    c.node-node.ensures.tree c.fold_let.ensures.folded

pub expression::fold-returns-in-Case-clause-folded : goal.expression::fold-returns-in-Case-clause-folded
expression::fold-returns-in-Case-clause-folded t c =
    node_folds c.args.setting.now c.args.id c.node-node.result.now c.args.placed.now c.fold_case.new.placed c.fold_case.result c.node-node.ensures.node
    c.node-node.ensures.tree c.fold_case.ensures.folded

pub expression::fold-returns-in-If-clause-folded : goal.expression::fold-returns-in-If-clause-folded
expression::fold-returns-in-If-clause-folded t c =
    node_folds c.args.setting.now c.args.id c.node-node.result.now c.args.placed.now c.fold_if.new.placed c.fold_if.result c.node-node.ensures.node
    c.node-node.ensures.tree c.fold_if.ensures.folded

pub expression::fold-returns-in-While-clause-folded : goal.expression::fold-returns-in-While-clause-folded
expression::fold-returns-in-While-clause-folded t c =
    node_folds c.args.setting.now c.args.id c.node-node.result.now c.args.placed.now c.fold_while.new.placed c.fold_while.result c.node-node.ensures.node
    c.node-node.ensures.tree c.fold_while.ensures.folded

pub expression::fold-returns-in-Block-clause-folded : goal.expression::fold-returns-in-Block-clause-folded
expression::fold-returns-in-Block-clause-folded t c =
    node_folds c.args.setting.now c.args.id c.node-node.result.now c.args.placed.now c.fold_block.new.placed c.fold_block.result c.node-node.ensures.node
    c.node-node.ensures.tree c.fold_block.ensures.folded

pub expression::fold-returns-in-New-clause-folded : goal.expression::fold-returns-in-New-clause-folded
expression::fold-returns-in-New-clause-folded t c =
    node_folds c.args.setting.now c.args.id c.node-node.result.now c.args.placed.now c.fold_leaf.new.placed c.fold_leaf.result c.node-node.ensures.node
    c.node-node.ensures.tree c.fold_leaf.ensures.folded

pub expression::fold-returns-in-Arith-clause-folded : goal.expression::fold-returns-in-Arith-clause-folded
expression::fold-returns-in-Arith-clause-folded t c =
    node_folds c.args.setting.now c.args.id c.node-node.result.now c.args.placed.now c.fold_binary.new.placed c.fold_binary.result c.node-node.ensures.node
    c.node-node.ensures.tree c.fold_binary.ensures.folded

pub expression::fold-returns-in-Assign-clause-folded : goal.expression::fold-returns-in-Assign-clause-folded
expression::fold-returns-in-Assign-clause-folded t c =
    node_folds c.args.setting.now c.args.id c.node-node.result.now c.args.placed.now c.fold_unary.new.placed c.fold_unary.result c.node-node.ensures.node
    c.node-node.ensures.tree c.fold_unary.ensures.folded

pub fold_operator::fold_unary-fold-requires : goal.fold_operator::fold_unary-fold-requires
fold_operator::fold_unary-fold-requires t c =
    let s = c.args.setting.now in
    let part = c.operand.result in
    let within = operand_within c.args.id.0 (all_trees s.body.now) c.args.node.now part c.operand.ensures c.requires.group c.requires.parts in
    (omega (arith, within), (c.requires.sound, (omega (arith, within, c.requires.below), (omega (arith, within, c.requires.room), omega (arith, within, c.requires.types)))))

pub fold_operator::fold_unary-place_unary-requires : goal.fold_operator::fold_unary-place_unary-requires
fold_operator::fold_unary-place_unary-requires t c =
    let s = c.args.setting.now in
    let within = operand_within c.args.id.0 (all_trees s.body.now) c.args.node.now c.operand.result c.operand.ensures c.requires.group
    c.requires.parts in
    record {
      group = c.requires.group;
      sound = c.requires.sound;
      few = omega (arith, within, c.in_ok-part.ensures.few, c.requires.room);
      types = omega (arith, within, c.in_ok-part.ensures.types, c.requires.types);
    }

pub fold_operator::fold_unary-returns-clause-folded : goal.fold_operator::fold_unary-returns-clause-folded
fold_operator::fold_unary-returns-clause-folded t c = λ scope standing.
    let s = c.args.setting.now in
    let before = c.args.placed.now in
    let part = has_operand (typed_body s) scope c.args.node.now c.operand.result c.operand.ensures c.requires.group standing.parts in
    c.place_unary.ensures.placed scope before (type_got s scope c.args.id c.args.node.now c.get.result c.get.ensures standing)
    (c.len-start.ensures ∙ before.nodes.ok.0)
    (subst (λ i. IsFolded s scope (tree_at s.body.now i) before c.fold.new.placed c.in_ok-part.part) c.operand.ensures
    (c.in_ok-part.ensures.folded scope standing.types part))

pub fold_operator::fold_binary-fold-requires : goal.fold_operator::fold_binary-fold-requires
fold_operator::fold_binary-fold-requires t c =
    let s = c.args.setting.now in
    let left = c.left_operand.result in
    let within = operands_within c.args.id.0 (all_trees s.body.now) c.args.node.now left _ c.left_operand.ensures refl c.requires.group
    c.requires.parts in
    (omega (arith, within), (c.requires.sound, (omega (arith, within, c.requires.below), (omega (arith, within, c.requires.room), omega (arith, within, c.requires.types)))))

pub fold_operator::fold_binary-fold-requires-2 : goal.fold_operator::fold_binary-fold-requires-2
fold_operator::fold_binary-fold-requires-2 t c =
    let s = c.args.setting.now in
    let right = c.right_operand.result in
    let within = operands_within c.args.id.0 (all_trees s.body.now) c.args.node.now c.left_operand.result right c.left_operand.ensures
    c.right_operand.ensures c.requires.group c.requires.parts in
    (omega (arith, within), (c.requires.sound, (omega (arith, within, c.requires.below), (omega (arith, within, c.in_ok-left.ensures.few, c.requires.room), omega (arith, within, c.in_ok-left.ensures.types, c.requires.types)))))

pub fold_operator::fold_binary-place_binary-requires : goal.fold_operator::fold_binary-place_binary-requires
fold_operator::fold_binary-place_binary-requires t c =
    let s = c.args.setting.now in
    let within = operands_within c.args.id.0 (all_trees s.body.now) c.args.node.now c.left_operand.result c.right_operand.result
    c.left_operand.ensures c.right_operand.ensures c.requires.group c.requires.parts in
    record {
      group = c.requires.group;
      sound = c.requires.sound;
      few = omega (arith, within, c.in_ok-left.ensures.few, c.in_ok-right.ensures.few, c.requires.room);
      types = omega (arith, within, c.in_ok-left.ensures.types, c.in_ok-right.ensures.types, c.requires.types);
    }

pub fold_operator::fold_binary-returns-clause-folded : goal.fold_operator::fold_binary-returns-clause-folded
fold_operator::fold_binary-returns-clause-folded t c = λ scope standing.
    let s = c.args.setting.now in
    let b = s.body.now in
    let before = c.args.placed.now in
    let between = c.fold.new.placed in
    let placed = c.fold-2.new.placed in
    let parts = has_operands (typed_body s) scope c.args.node.now c.left_operand.result c.right_operand.result c.left_operand.ensures
    c.right_operand.ensures c.requires.group standing.parts in
    c.place_binary.ensures.placed scope before between (c.len-start.ensures ∙ before.nodes.ok.0)
    (subst (λ i. IsFolded s scope (tree_at b i) before between c.in_ok-left.left) c.left_operand.ensures
    (c.in_ok-left.ensures.folded scope standing.types parts.0))
    (subst (λ i. IsFolded s scope (tree_at b i) between placed c.in_ok-right.right) c.right_operand.ensures
    (c.in_ok-right.ensures.folded scope standing.types parts.1))

pub fold_control::fold_while-returns-clause-folded : goal.fold_control::fold_while-returns-clause-folded
fold_control::fold_while-returns-clause-folded t c = λ scope standing.
    let s = c.args.setting.now in
    let b = s.body.now in
    let before = c.args.placed.now in
    let between = c.fold.new.placed in
    let placed = c.fold-in-While.new.placed in
    let after = c.place_while.new.placed in
    let loop = c.in-While in
    let first = c.in_ok-first-in-While.field-0 in
    let second = c.in_ok-second-in-While.field-0 in
    let ty = c.get.result in
    let here = subst (IsStanding s scope c.args.id) loop.is standing in
    let places = subst (λ m. PlacesLoop s m ty first.id second.id placed after c.place_while.result) loop.is c.place_while.ensures.placed in
    subst (λ m. Folds s scope (made (all_trees b) m) before after c.place_while.result) (sym loop.is)
    (places scope before between first second (type_got s scope c.args.id _ ty c.get.ensures here) refl refl
    (c.in_ok-first-in-While.ensures.folded scope here.types here.parts.0)
    (c.in_ok-second-in-While.ensures.folded scope here.types here.parts.1))

pub fold_control::fold_block-returns-clause-folded : goal.fold_control::fold_block-returns-clause-folded
fold_control::fold_block-returns-clause-folded t c = λ scope standing.
    let s = c.args.setting.now in
    let b = s.body.now in
    let before = c.args.placed.now in
    let placed = c.fold_all.new.placed in
    let after = c.place_block.new.placed in
    let block = c.in-Block in
    let items = c.in_ok-items-in-Block.items in
    let ty = c.get.result in
    let here = subst (IsStanding s scope c.args.id) block.is standing in
    let places = subst (λ m. PlacesBlock s m ty items placed after c.place_block.result) block.is c.place_block.ensures.placed in
    subst (λ m. Folds s scope (made (all_trees b) m) before after c.place_block.result) (sym block.is)
    (places scope before (type_got s scope c.args.id _ ty c.get.ensures here)
    (subst (λ xs. FoldsParts {E = AllocError} s xs before placed (Ok items)) c.as_slice.ensures c.in_ok-items-in-Block.ensures.folded scope here.types here.parts))

pub fold_binding::fold_let-returns-clause-folded : goal.fold_binding::fold_let-returns-clause-folded
fold_binding::fold_let-returns-clause-folded t c = λ scope standing.
    let s = c.args.setting.now in
    let b = s.body.now in
    let before = c.args.placed.now in
    let between = c.fold_option.new.placed in
    let placed = c.fold.new.placed in
    let after = c.place_let.new.placed in
    let whole = c.in-Let in
    let init = c.in_ok-init-in-Let.init in
    let found = c.in_ok-found-in-Let.field-0 in
    let ty = c.get.result in
    let here = subst (IsStanding s scope c.args.id) whole.is standing in
    let bound = with_name whole.name (type_meant s.table.now whole.declared.name) scope in
    let inner : AreTypes s.table.now bound = (meant_is_type s.table.now c.requires.sound.table whole.declared.name, here.types) in
    let places = subst (λ m. PlacesLet s m ty init found.id placed after c.place_let.result) whole.is c.place_let.ensures.placed in
    subst (λ m. Folds s scope (made (all_trees b) m) before after c.place_let.result) (sym whole.is)
    (places scope before between found (type_got s scope c.args.id _ ty c.get.ensures here) refl
    (c.in_ok-init-in-Let.ensures.folded scope here.types here.parts.0)
    (c.in_ok-found-in-Let.ensures.folded bound inner here.parts.1))

pub fold_binding::fold_case-returns-clause-folded : goal.fold_binding::fold_case-returns-clause-folded
fold_binding::fold_case-returns-clause-folded t c = λ scope standing.
    let s = c.args.setting.now in
    let b = s.body.now in
    let before = c.args.placed.now in
    let between = c.fold.new.placed in
    let placed = c.fold_branches.new.placed in
    let after = c.place_case.new.placed in
    let whole = c.in-Case in
    let first = c.in_ok-first-in-Case.field-0 in
    let rest = c.in_ok-rest-in-Case.rest in
    let ty = c.get.result in
    let here = subst (IsStanding s scope c.args.id) whole.is standing in
    let places = subst (λ m. PlacesCase s m ty first.id rest placed after c.place_case.result) whole.is c.place_case.ensures.placed in
    subst (λ m. Folds s scope (made (all_trees b) m) before after c.place_case.result) (sym whole.is)
    (places scope before between first (type_got s scope c.args.id _ ty c.get.ensures here) refl
    (c.in_ok-first-in-Case.ensures.folded scope here.types here.parts.0)
    (subst (λ xs. FoldsBranches {E = AllocError} s xs between placed (Ok rest)) c.as_slice.ensures c.in_ok-rest-in-Case.ensures.folded scope here.types
    here.parts.1))

pub fold_call::fold_dispatch-returns-clause-folded : goal.fold_call::fold_dispatch-returns-clause-folded
fold_call::fold_dispatch-returns-clause-folded t c = λ scope standing.
    let s = c.args.setting.now in
    let b = s.body.now in
    let before = c.args.placed.now in
    let between = c.fold.new.placed in
    let placed = c.fold_args.new.placed in
    let after = c.place_dispatch.new.placed in
    let call = c.in-Dispatch in
    let object = c.in_ok-object-in-Dispatch.field-0 in
    let args = c.in_ok-args-in-Dispatch.args in
    let class = c.class_of-class.result in
    let ty = c.get-in-Dispatch.result in
    let here = subst (IsStanding s scope c.args.id) call.is standing in
    let places = subst (λ m. PlacesDispatch s m ty class object.id args placed after c.place_dispatch.result) call.is c.place_dispatch.ensures.placed in
    subst (λ m. Folds s scope (made (all_trees b) m) before after c.place_dispatch.result) (sym call.is)
    (places scope before between object (type_got s scope c.args.id _ ty c.get-in-Dispatch.ensures here)
    (c.class_of-class.ensures ∙ ap (class_of s.class) (part_got s scope call.receiver c.get.result c.get.ensures here.parts.0)) refl
    (c.in_ok-object-in-Dispatch.ensures.folded scope here.types here.parts.0)
    (subst (λ xs. FoldsParts {E = AllocError} s xs between placed (Ok args)) c.as_slice.ensures c.in_ok-args-in-Dispatch.ensures.folded scope here.types
    here.parts.1))

pub fold_call::fold_static-returns-clause-folded : goal.fold_call::fold_static-returns-clause-folded
fold_call::fold_static-returns-clause-folded t c = λ scope standing.
    let s = c.args.setting.now in
    let b = s.body.now in
    let before = c.args.placed.now in
    let between = c.fold.new.placed in
    let placed = c.fold_args.new.placed in
    let after = c.place_static.new.placed in
    let call = c.in-StaticDispatch in
    let object = c.in_ok-object-in-StaticDispatch.field-0 in
    let args = c.in_ok-args-in-StaticDispatch.args in
    let ty = c.get.result in
    let here = subst (IsStanding s scope c.args.id) call.is standing in
    let places = subst (λ m. PlacesStaticDispatch s m ty object.id args placed after c.place_static.result) call.is c.place_static.ensures.placed in
    subst (λ m. Folds s scope (made (all_trees b) m) before after c.place_static.result) (sym call.is)
    (places scope before between object (type_got s scope c.args.id _ ty c.get.ensures here) refl
    (c.in_ok-object-in-StaticDispatch.ensures.folded scope here.types here.parts.0)
    (subst (λ xs. FoldsParts {E = AllocError} s xs between placed (Ok args)) c.as_slice.ensures c.in_ok-args-in-StaticDispatch.ensures.folded scope here.types
    here.parts.1))

pub fold_control::fold_if-fold-requires-in-Some : goal.fold_control::fold_if-fold-requires-in-Some
fold_control::fold_if-fold-requires-in-Some t c =
    let s = c.args.setting.now in
    let b = s.body.now in
    let before = c.args.placed.now.nodes.items in
    let whole = c.in-If in
    let parts = subst (HasPartsBelow c.args.id.0) whole.is c.requires.parts in
    let room = subst (λ m. length before + tree_size (made (all_trees b) m) < 2 ^ 32 - 1) whole.is c.requires.room in
    let each = c.requires.sound.each in
    let below = c.requires.below in
    let one = taken_part_is s.types.now c.truth_in-truth.result c.args.id whole.yes whole.no c.in-Some.part (omega arith)
    (omega (arith, parts.1)) (omega (arith, parts.2)) (λ v w u x y z. sym c.in-Some.is ∙ c.taken_part.ensures v w u x y z) in
    let within = part_within b whole.at (tree_at b whole.test) whole.yes whole.no c.in-Some.part c.args.id.0 one parts.1 parts.2 in
    let types = subst (λ m. length c.args.placed.now.types.held + tree_size (made (all_trees b) m) ≤ c.args.placed.now.types.room) whole.is c.requires.types in
    let short = cut_short c.fold.new.placed.nodes.items c.len-start.result in
    let shorter = cut_shorter c.fold.new.placed.types.held c.len-start.result in (
      omega (arith, within),
      (
        c.requires.sound,
        (
          omega (arith, within),
          (
            omega (
              arith,
              within,
              ap length c.cut.ensures.nodes,
              short,
              c.len-start.ensures ∙ c.args.placed.now.nodes.ok.0,
              room,
            ),
            omega (
              arith,
              within,
              ap length c.cut.ensures.types,
              c.cut.ensures.room,
              shorter,
              c.in_ok-decided-in-If.ensures.types,
              types,
            ),
          ),
        ),
      ),
    )

pub fold_control::fold_if-returns-in-Some-clause-few : goal.fold_control::fold_if-returns-in-Some-clause-few
fold_control::fold_if-returns-in-Some-clause-few t c =
    let s = c.args.setting.now in
    let b = s.body.now in
    let before = c.args.placed.now.nodes.items in
    let whole = c.in-If in
    let parts = subst (HasPartsBelow c.args.id.0) whole.is c.requires.parts in
    let each = c.requires.sound.each in
    let below = c.requires.below in
    let one = taken_part_is s.types.now c.truth_in-truth.result c.args.id whole.yes whole.no c.in-Some.part (omega arith)
    (omega (arith, parts.1)) (omega (arith, parts.2)) (λ v w u x y z. sym c.in-Some.is ∙ c.taken_part.ensures v w u x y z) in
    let within = part_within b whole.at (tree_at b whole.test) whole.yes whole.no c.in-Some.part c.args.id.0 one parts.1 parts.2 in
    let short = cut_short c.fold.new.placed.nodes.items c.len-start.result in
    fewer c.fold-in-Some.result _ _ _ (omega (
      arith,
      within,
      ap length c.cut.ensures.nodes,
      short,
      c.len-start.ensures ∙ c.args.placed.now.nodes.ok.0,
      ap (λ m. tree_size (made (all_trees b) m)) whole.is,
    )) c.fold-in-Some.ensures.few

pub fold_control::fold_if-returns-in-Some-clause-types : goal.fold_control::fold_if-returns-in-Some-clause-types
fold_control::fold_if-returns-in-Some-clause-types t c =
    let s = c.args.setting.now in
    let b = s.body.now in
    let before = c.args.placed.now.nodes.items in
    let whole = c.in-If in
    let parts = subst (HasPartsBelow c.args.id.0) whole.is c.requires.parts in
    let each = c.requires.sound.each in
    let below = c.requires.below in
    let one = taken_part_is s.types.now c.truth_in-truth.result c.args.id whole.yes whole.no c.in-Some.part (omega arith)
    (omega (arith, parts.1)) (omega (arith, parts.2)) (λ v w u x y z. sym c.in-Some.is ∙ c.taken_part.ensures v w u x y z) in
    let within = part_within b whole.at (tree_at b whole.test) whole.yes whole.no c.in-Some.part c.args.id.0 one parts.1 parts.2 in
    let shorter = cut_shorter c.fold.new.placed.types.held c.len-start.result in
    left c.fold-in-Some.result _ _ _ _ _ _ _ _ (omega (
      arith,
      within,
      ap length c.cut.ensures.types,
      c.cut.ensures.room,
      shorter,
      c.in_ok-decided-in-If.ensures.types,
      ap (λ m. tree_size (made (all_trees b) m)) whole.is,
    )) c.fold-in-Some.ensures.types

pub fold_control::fold_if-returns-in-Some-clause-folded : goal.fold_control::fold_if-returns-in-Some-clause-folded
fold_control::fold_if-returns-in-Some-clause-folded t c = λ scope standing.
    let s = c.args.setting.now in
    let b = s.body.now in
    let before = c.args.placed.now in
    let mid = c.fold.new.placed in
    let cut = c.cut.new.placed in
    let after = c.fold-in-Some.new.placed in
    let whole = c.in-If in
    let part = c.in-Some.part in
    let start = c.len-start.result in
    let answer = c.fold-in-Some.result in
    let here = subst (IsStanding s scope c.args.id) whole.is standing in
    let decided = c.in_ok-decided-in-If.ensures.folded scope here.types here.parts.0 in
    let from = c.len-start.ensures ∙ before.nodes.ok.0 in
    let yes_type = part_type (typed_body s) scope whole.yes here.parts.1 in
    let no_type = part_type (typed_body s) scope whole.no here.parts.2 in
    let taking = sym (c.taken_part.ensures _ _ _ yes_type no_type here.type) ∙ c.in-Some.is in
    let one = taken_is c.truth_in-truth.result _ _ _ whole.yes whole.no part taking in
    subst (λ m. Folds s scope (made (all_trees b) m) before after answer) (sym whole.is)
    (taken_folds s scope before after cut b whole.at (tree_at b whole.test) c.truth_in-truth.result whole.yes whole.no part answer
    (cut_back before.nodes.items _ mid.nodes.items cut.nodes.items start decided.placed from c.cut.ensures.nodes)
    (λ even. cut_back before.types.held _ mid.types.held cut.types.held start (decided.typed even) (from ∙ sym even) c.cut.ensures.types)
    (sym (c.truth_in-truth.ensures ∙ ap truth_in decided.constant)) taking
    (c.fold-in-Some.ensures.folded scope here.types (taken_stands (typed_body s) scope whole.yes whole.no part one here.parts.1 here.parts.2)))

pub fold_control::fold_if-returns-clause-folded : goal.fold_control::fold_if-returns-clause-folded
fold_control::fold_if-returns-clause-folded t c = λ scope standing.
    let s = c.args.setting.now in
    let b = s.body.now in
    let before = c.args.placed.now in
    let mid = c.fold.new.placed in
    let mid2 = c.fold-in-If.new.placed in
    let placed = c.fold-in-If-2.new.placed in
    let after = c.place_if.new.placed in
    let whole = c.in-If in
    let ty = c.get.result in
    let test = c.in_ok-decided-in-If.decided in
    let first = c.in_ok-first-in-If.field-0 in
    let second = c.in_ok-second-in-If.field-0 in
    let here = subst (IsStanding s scope c.args.id) whole.is standing in
    let decided = c.in_ok-decided-in-If.ensures.folded scope here.types here.parts.0 in
    let yes_type = part_type (typed_body s) scope whole.yes here.parts.1 in
    let no_type = part_type (typed_body s) scope whole.no here.parts.2 in
    let type = λ (i : NodeId). type_of s.table.now s.class scope (tree_at b i) in
    let places = subst (λ m. PlacesConditional s m ty test.id first.id second.id placed after c.place_if.result) whole.is c.place_if.ensures.placed in
    subst (λ m. Folds s scope (made (all_trees b) m) before after c.place_if.result) (sym whole.is)
    (places scope before mid mid2 test first second (type_got s scope c.args.id _ ty c.get.ensures here) refl refl refl decided
    (c.in_ok-first-in-If.ensures.folded scope here.types here.parts.1) (c.in_ok-second-in-If.ensures.folded scope here.types here.parts.2)
    (subst (λ q. taken q (type whole.yes) (type whole.no) (join_in s.table.now s.class (type whole.yes) (type whole.no)) whole.yes whole.no ≡ None)
    (c.truth_in-truth.ensures ∙ ap truth_in decided.constant)
    (sym (c.taken_part.ensures _ _ _ yes_type no_type here.type) ∙ c.in_default-taken_part.is)))

pub expression::fold_all-loop-item-preserved : goal.expression::fold_all-loop-item-preserved
expression::fold_all-loop-item-preserved t c =
    let s = c.args.setting.now in
    let l = c.loop-item in
    let k = l.item-index in
    let items = c.args.items.now in
    let rest = drop (k + 1) items in
    let next = c.fold.new.placed in
    let found = c.in_ok-found.found in
    let within : k < length items = (let more = l.auto.item-index-end in let test = c.loop-item-test.true in omega arith) in
    let at_item : (x : NodeId) × FoldsPart {E = AllocError} s (get_or items k x) l.placed next (Ok found) = (_, c.in_ok-found.ensures.folded) in
    let id = get_or items k at_item.0 in
    let step = drop_more items k at_item.0 within in
    record {
      few = omega (arith, c.in_ok-found.ensures.few, ap (λ (xs : List NodeId). trees_size (trees_of s.body.now xs)) step, l.invariant.few);
      types = omega (arith, c.in_ok-found.ensures.types, ap (λ (xs : List NodeId). trees_size (trees_of s.body.now xs)) step, l.invariant.types);
      below = (subst (AllByRecursion (λ item. item.0 < c.args.end.0)) step l.invariant.below).1;
      folded = λ scope types parts.
          let some = subst (λ xs. SomeFolded s scope items xs c.args.placed.now l.placed l.ids.items) step (l.invariant.folded scope types parts) in
          subst (SomeFolded s scope items rest c.args.placed.now next) (sym c.in_ok-push.ensures.items)
          (one_folded s scope {E = AllocError} items rest id c.args.placed.now l.placed next l.ids.items found some
          (at_item.1 scope types some.parts.0));
    }

pub fold_binding::fold_branches-loop-branch-preserved : goal.fold_binding::fold_branches-loop-branch-preserved
fold_binding::fold_branches-loop-branch-preserved t c =
    let s = c.args.setting.now in
    let p = s.table.now in
    let l = c.loop-branch in
    let k = l.branch-index in
    let branches = c.args.branches.now in
    let rest = drop (k + 1) branches in
    let next = c.fold.new.placed in
    let found = c.in_ok-body.field-0 in
    let within : k < length branches = (let more = l.auto.branch-index-end in let test = c.loop-branch-test.true in omega arith) in
    let branch = c.branch-item.result in
    let step = drop_more branches k branch within ∙ ap (λ (x : NodeBranch). x ∷ rest) (sym c.branch-item.is) in
    record {
      few = omega (arith, c.in_ok-body.ensures.few, ap (λ (xs : List NodeBranch). cases_size (cases_of s.body.now xs)) step, l.invariant.few);
      types = omega (arith, c.in_ok-body.ensures.types, ap (λ (xs : List NodeBranch). cases_size (cases_of s.body.now xs)) step, l.invariant.types);
      below = (subst (AllByRecursion (λ b. b.body.0 < c.args.end.0)) step l.invariant.below).1;
      folded = λ scope types parts.
          let some = subst (λ xs. SomeBranchesFolded s scope branches xs c.args.placed.now l.placed l.folded.items) step
          (l.invariant.folded scope types parts) in
          let bound = with_name branch.name (type_meant p branch.declared.name) scope in
          let inner : AreTypes p bound = (meant_is_type p c.requires.sound.table branch.declared.name, types) in
          subst (SomeBranchesFolded s scope branches rest c.args.placed.now next) (sym c.in_ok-add_branch.ensures)
          (one_branch_folded s scope {E = AllocError} branches rest branch c.args.placed.now l.placed next l.folded.items found some
          (c.in_ok-body.ensures.folded bound inner some.parts.0));
    }
