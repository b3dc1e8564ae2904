-- Each appended node has one entry in the array of types (the column), and the types of several expressions are in the order of the expressions.
use Rattle.std.proofs.Common.{◌≡◌, List, ◌++◌, length, Ok, Option, ap, sym, ◌∙◌, append_assoc, length-append, arith}
use Rattle.cool_syntax.specs.declared.node.Node.{Node}
use Rattle.cool_syntax.specs.declared.node.NodeId.{NodeId}
use Rattle.cool_syntax.specs.Tree.{Tree, MaybeTree}
use Rattle.cool_syntax.specs.NodeLists.{nodes, nodes_of_maybe}
use Rattle.cool_syntax.proofs.TreesOfLists.{length-nodes, length-nodes_of_maybe}
use Rattle.cool_classes.specs.declared.class_id.Ty.{Ty}
use Rattle.cool_rules.specs.NodeTypes.{node_types, types_of_maybe}
use Rattle.cool_rules.specs.Scopes.{Binding}
use Rattle.cool_rules.proofs.LengthsOfTypes.{length-node_types, length-types_of_maybe}
use Rattle.cool_fold.specs.declared.place.Found.{Found}
use Rattle.cool_fold.specs.declared.place.Placed.{Placed}
use Rattle.cool_fold.specs.declared.folding_setting.FoldingSetting.{FoldingSetting}
use Rattle.cool_fold.specs.FoldedNodes.{Folds, FoldsMaybe, HasTypes}
use Rattle.cool_fold.specs.Shrinking.{shrunk, shrunk_maybe}

-- the types of one list and then those of another
pub types_later : (before first second xs ys : List Ty) → first ≡ before ++ xs → second ≡ first ++ ys → second ≡ before ++ (xs ++ ys)
types_later before first second xs ys e f = f ∙ ap (λ (types : List Ty). types ++ ys) e ∙ append_assoc before xs ys

-- as many nodes as types, after as many nodes as types
as_many : (ns more : List Node) (types more_types : List Ty) → length types ≡ length ns → length more_types ≡ length more
    → length (types ++ more_types) ≡ length (ns ++ more)
as_many ns more types more_types e f = omega (arith, length-append types more_types, length-append ns more)

module _ (s : FoldingSetting) (scope : List Binding) {E : Type 0} (before after : Placed) where
  pub still_typed : (t : Tree) (f : Found) → Folds {E = E} s scope t before after (Ok f) → HasTypes before → HasTypes after
  still_typed t f h even =
      let p = s.table.now in
      let c = s.class in
      let k = length before.nodes.items in
      let small = shrunk p c scope t in
      ap length (h.typed even)
      ∙ as_many before.nodes.items (nodes k small) before.types.held (node_types p c scope small) even (length-node_types p c scope small ∙ sym (length-nodes small k))
      ∙ ap length (sym h.placed)

  pub still_typed_maybe : (o : MaybeTree) (id : Option NodeId) → FoldsMaybe {E = E} s scope o before after (Ok id) → HasTypes before → HasTypes after
  still_typed_maybe o id h even =
      let p = s.table.now in
      let c = s.class in
      let k = length before.nodes.items in
      let small = shrunk_maybe p c scope o in
      ap length (h.typed even)
      ∙ as_many before.nodes.items (nodes_of_maybe k small) before.types.held (types_of_maybe p c scope small) even
      (length-types_of_maybe p c scope small ∙ sym (length-nodes_of_maybe small k))
      ∙ ap length (sym h.placed)
