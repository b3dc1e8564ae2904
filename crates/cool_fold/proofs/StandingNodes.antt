-- The static type of a node in a body is the entry at its number in the array of types (the column), and facts about the node hold of the expression of which
-- it is the root.
use Rattle.std.proofs.Common.{◌≡◌, List, Some, ap, sym, ◌∙◌, subst}
use Rattle.std.specs.Prelude.{Result, slice_get}
use Rattle.std.proofs.lemmas.Option.{same_Some}
use Rattle.cool_syntax.specs.declared.node.Node.{Node}
use Rattle.cool_syntax.specs.declared.node.NodeId.{NodeId}
use Rattle.cool_syntax.specs.Tree.{Tree}
use Rattle.cool_syntax.specs.NodeLists.{nodes, tree_at, tree_of_node}
use Rattle.cool_classes.specs.declared.class_id.Ty.{Ty}
use Rattle.cool_rules.specs.Scopes.{Binding}
use Rattle.cool_rules.specs.StaticTypes.{type_of}
use Rattle.cool_rules.specs.TypedParts.{IsPart}
use Rattle.cool_rules.proofs.PartsStand.{has_parts, part_type}
use Rattle.cool_fold.specs.declared.place.Found.{Found}
use Rattle.cool_fold.specs.declared.place.Placed.{Placed}
use Rattle.cool_fold.specs.declared.folding_setting.FoldingSetting.{FoldingSetting}
use Rattle.cool_fold.specs.FoldedNodes.{Folds, FoldsNode, FoldsPart}
use Rattle.cool_fold.specs.PlacedForms.{IsTypeOf}
use Rattle.cool_fold.specs.FoldingSettings.{typed_body, IsStanding}

module _ (s : FoldingSetting) (scope : List Binding) (id : NodeId) where
  -- the type that the column has for a node
  pub type_got : (n : Node) (type : Ty) → slice_get s.types.now id.0 ≡ Some type → IsStanding s scope id n → IsTypeOf s scope n type
  type_got n type got h = record {
    types = h.types;
    type = same_Some type (type_of s.table.now s.class scope (tree_of_node s.body.now n)) (sym got ∙ h.type);
  }

  -- the type that it has for a part
  pub part_got : (type : Ty) → slice_get s.types.now id.0 ≡ Some type → IsPart (typed_body s) scope id
      → type ≡ type_of s.table.now s.class scope (tree_at s.body.now id)
  part_got type got h = same_Some type (type_of s.table.now s.class scope (tree_at s.body.now id)) (sym got ∙ part_type (typed_body s) scope id h)

-- the expression at a number is that of the node there
pub node_folds : {E : Type 0} (s : FoldingSetting) (id : NodeId) (n : Node) (before after : Placed) (result : Result Found E)
    → slice_get (nodes 0 s.body.now) id.0 ≡ Some n → tree_at s.body.now id ≡ tree_of_node s.body.now n → FoldsNode s id n before after result
    → FoldsPart s id before after result
node_folds s id n before after result there tree folds = λ scope types part.
    subst (λ (t : Tree). Folds s scope t before after result) (sym tree)
    (folds scope (record {
      types = types;
      parts = has_parts (typed_body s) scope id n part there;
      type = part_type (typed_body s) scope id part ∙ ap (λ (t : Tree). Some (type_of s.table.now s.class scope t)) tree;
    }))
