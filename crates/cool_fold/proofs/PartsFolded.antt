-- In the loops of `fold_all` and `fold_branches`, the folded parts before the current one, followed by those that are left, are all folded parts; so it is with
-- their nodes and types.
use Rattle.std.proofs.Common.{◌≡◌, List, [], ◌∷◌, ◌++◌, length, Ok, refl, ◌∙◌}
use Rattle.cool_syntax.specs.declared.node.NodeBranch.{NodeBranch}
use Rattle.cool_syntax.specs.declared.node.NodeId.{NodeId}
use Rattle.cool_syntax.specs.NodeLists.{nodes_of_all, nodes_of_cases, roots, branch_roots, tree_at, cases_of, trees_of}
use Rattle.cool_rules.specs.NodeTypes.{node_types, types_of_all, types_of_cases}
use Rattle.cool_rules.specs.Rules.{type_meant}
use Rattle.cool_rules.specs.Scopes.{Binding}
use Rattle.cool_rules.specs.TypedParts.{AreBranches, AreParts}
use Rattle.cool_rules.specs.Typing.{with_name}
use Rattle.cool_fold.specs.declared.place.Found.{Found}
use Rattle.cool_fold.specs.declared.place.Placed.{Placed}
use Rattle.cool_fold.specs.declared.folding_setting.FoldingSetting.{FoldingSetting}
use Rattle.cool_fold.specs.FoldedNodes.{Folds, HasTypes}
use Rattle.cool_fold.specs.FoldingSettings.{typed_body}
use Rattle.cool_fold.specs.Shrinking.{shrunk, shrunk_all, shrunk_cases}
use Rattle.cool_fold.proofs.NodesPlaced.{more_nodes}
use Rattle.cool_fold.proofs.PartsPlaced.{branches_later, cases_later, ids_later, nodes_later}
use Rattle.cool_fold.proofs.TypesPlaced.{still_typed, types_later}

-- The numbers found so far with those of the parts that are left are those of all parts; so it is with the nodes, and with the types.
pub record SomeFolded (s : FoldingSetting) (scope : List Binding) (all left : List NodeId) (before now : Placed) (found : List NodeId) : Type 0 where
  pub parts : AreParts (typed_body s) scope left
  pub ids : found ++ roots (length now.nodes.items) (shrunk_all s.table.now s.class scope (trees_of s.body.now left))
      ≡ roots (length before.nodes.items) (shrunk_all s.table.now s.class scope (trees_of s.body.now all))
  pub placed : now.nodes.items ++ nodes_of_all (length now.nodes.items) (shrunk_all s.table.now s.class scope (trees_of s.body.now left))
      ≡ before.nodes.items ++ nodes_of_all (length before.nodes.items) (shrunk_all s.table.now s.class scope (trees_of s.body.now all))
  pub even : HasTypes before → HasTypes now
  pub typed : HasTypes before → now.types.held ++ types_of_all s.table.now s.class scope (shrunk_all s.table.now s.class scope (trees_of s.body.now left))
      ≡ before.types.held ++ types_of_all s.table.now s.class scope (shrunk_all s.table.now s.class scope (trees_of s.body.now all))

pub record SomeBranchesFolded (s : FoldingSetting) (scope : List Binding) (all left : List NodeBranch) (before now : Placed) (found : List NodeBranch) : Type 0 where
  pub parts : AreBranches (typed_body s) scope left
  pub branches : found ++ branch_roots (length now.nodes.items) (shrunk_cases s.table.now s.class scope (cases_of s.body.now left))
      ≡ branch_roots (length before.nodes.items) (shrunk_cases s.table.now s.class scope (cases_of s.body.now all))
  pub placed : now.nodes.items ++ nodes_of_cases (length now.nodes.items) (shrunk_cases s.table.now s.class scope (cases_of s.body.now left))
      ≡ before.nodes.items ++ nodes_of_cases (length before.nodes.items) (shrunk_cases s.table.now s.class scope (cases_of s.body.now all))
  pub even : HasTypes before → HasTypes now
  pub typed : HasTypes before → now.types.held ++ types_of_cases s.table.now s.class scope (shrunk_cases s.table.now s.class scope (cases_of s.body.now left))
      ≡ before.types.held ++ types_of_cases s.table.now s.class scope (shrunk_cases s.table.now s.class scope (cases_of s.body.now all))

module _ (s : FoldingSetting) (scope : List Binding) where
  -- with one part more
  pub one_folded : {E : Type 0} (all left : List NodeId) (id : NodeId) (before now next : Placed) (found : List NodeId) (f : Found)
      → SomeFolded s scope all (id ∷ left) before now found → Folds {E = E} s scope (tree_at s.body.now id) now next (Ok f)
      → SomeFolded s scope all left before next (found ++ f.id ∷ [])
  one_folded {E} all left id before now next found f h k =
      let t = shrunk s.table.now s.class scope (tree_at s.body.now id) in
      let rest = shrunk_all s.table.now s.class scope (trees_of s.body.now left) in
      record {
        parts = h.parts.1;
        ids = ids_later found f.id (length now.nodes.items) (length next.nodes.items) t rest k.id
            (more_nodes now.nodes.items next.nodes.items t k.placed) ∙ h.ids;
        placed = nodes_later now.nodes.items next.nodes.items t rest k.placed ∙ h.placed;
        even = λ even. still_typed s scope {E = E} now next (tree_at s.body.now id) f k (h.even even);
        typed = λ even.
            types_later now.types.held next.types.held (next.types.held ++ types_of_all s.table.now s.class scope rest) (node_types s.table.now s.class scope t)
            (types_of_all s.table.now s.class scope rest) (k.typed (h.even even)) refl
            ∙ h.typed even;
      }

  pub one_branch_folded : {E : Type 0} (all left : List NodeBranch) (w : NodeBranch) (before now next : Placed) (found : List NodeBranch) (f : Found)
      → SomeBranchesFolded s scope all (w ∷ left) before now found
      → Folds {E = E} s (with_name w.name (type_meant s.table.now w.declared.name) scope) (tree_at s.body.now w.body) now next (Ok f)
      → SomeBranchesFolded s scope all left before next (found ++ record { at = w.at; name = w.name; declared = w.declared; body = f.id } ∷ [])
  one_branch_folded {E} all left w before now next found f h k =
      let inner = with_name w.name (type_meant s.table.now w.declared.name) scope in
      let t = shrunk s.table.now s.class inner (tree_at s.body.now w.body) in
      let rest = shrunk_cases s.table.now s.class scope (cases_of s.body.now left) in
      record {
        parts = h.parts.1;
        branches = branches_later found w.at w.name w.declared f.id (length now.nodes.items) (length next.nodes.items) t rest k.id
            (more_nodes now.nodes.items next.nodes.items t k.placed) ∙ h.branches;
        placed = cases_later now.nodes.items next.nodes.items w.at w.name w.declared t rest k.placed ∙ h.placed;
        even = λ even. still_typed s inner {E = E} now next (tree_at s.body.now w.body) f k (h.even even);
        typed = λ even.
            types_later now.types.held next.types.held (next.types.held ++ types_of_cases s.table.now s.class scope rest) (node_types s.table.now s.class inner t)
            (types_of_cases s.table.now s.class scope rest) (k.typed (h.even even)) refl
            ∙ h.typed even;
      }
