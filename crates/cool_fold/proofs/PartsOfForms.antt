-- The operands of an operator in a body have smaller node numbers than the operator, and the same names in scope.
use Rattle.std.proofs.Common.{◌≡◌, ℕ, ◌+◌, ◌<◌, List, refl, sym, subst}
use Rattle.cool_syntax.specs.declared.node.Node.{Node}
use Rattle.cool_syntax.specs.declared.node.Node.TheVariants.{Assign, IsVoid, Arith, Neg, Compare, Not}
use Rattle.cool_syntax.specs.declared.node.NodeId.{NodeId}
use Rattle.cool_syntax.specs.NodeGroups.{IsBinary, IsUnary}
use Rattle.cool_syntax.specs.NodeLists.{at_id, made, HasPartsBelow}
use Rattle.cool_syntax.specs.Tree.{Tree, tree_size}
use Rattle.cool_rules.specs.Scopes.{Binding}
use Rattle.cool_rules.specs.TypedParts.{HasParts, IsPart, TypedBody}
use Rattle.cool_fold.specs.Forms.{operand, left_operand, right_operand}

-- the part of an assignment or of an operator with one operand
pub operand_within : (k : ℕ) (ts : List Tree) (n : Node) (i : NodeId) → i ≡ operand n → IsUnary n → HasPartsBelow k n
    → (i.0 < k) × (tree_size (made ts n) ≡ tree_size (at_id ts i) + 1)
operand_within k ts n i is group parts =
    subst (λ (j : NodeId). (j.0 < k) × (tree_size (made ts n) ≡ tree_size (at_id ts j) + 1)) (sym is) (by n group parts)
  where
    by : (m : Node) → IsUnary m → HasPartsBelow k m → ((operand m).0 < k) × (tree_size (made ts m) ≡ tree_size (at_id ts (operand m)) + 1)
    by (Assign at name a) g h = (h, refl)
    by (IsVoid at a) g h = (h, refl)
    by (Neg at a) g h = (h, refl)
    by (Not at a) g h = (h, refl)
    by _ g h = elim g [ ]

-- the parts of an operator with two operands
pub operands_within : (k : ℕ) (ts : List Tree) (n : Node) (i j : NodeId) → i ≡ left_operand n → j ≡ right_operand n → IsBinary n
    → HasPartsBelow k n → (i.0 < k) × (j.0 < k) × (tree_size (made ts n) ≡ tree_size (at_id ts i) + tree_size (at_id ts j) + 1)
operands_within k ts n i j is is2 group parts =
    subst (λ (x : NodeId). (x.0 < k) × (j.0 < k) × (tree_size (made ts n) ≡ tree_size (at_id ts x) + tree_size (at_id ts j) + 1)) (sym is)
    (subst (λ (x : NodeId). ((left_operand n).0 < k) × (x.0 < k)
    × (tree_size (made ts n) ≡ tree_size (at_id ts (left_operand n)) + tree_size (at_id ts x) + 1)) (sym is2) (by n group parts))
  where
    by : (m : Node) → IsBinary m → HasPartsBelow k m → ((left_operand m).0 < k) × ((right_operand m).0 < k)
        × (tree_size (made ts m) ≡ tree_size (at_id ts (left_operand m)) + tree_size (at_id ts (right_operand m)) + 1)
    by (Arith at op a b) g h = (h.0, h.1, refl)
    by (Compare at op a b) g h = (h.0, h.1, refl)
    by _ g h = elim g [ ]

-- an operator with one operand that stands in a body has its operand there
pub has_operand : (b : TypedBody) (scope : List Binding) (n : Node) (i : NodeId) → i ≡ operand n → IsUnary n → HasParts b scope n → IsPart b scope i
has_operand b scope n i is group parts = subst (IsPart b scope) (sym is) (by n group parts)
  where
    by : (m : Node) → IsUnary m → HasParts b scope m → IsPart b scope (operand m)
    by (Assign at name a) g h = h
    by (IsVoid at a) g h = h
    by (Neg at a) g h = h
    by (Not at a) g h = h
    by _ g h = elim g [ ]

-- and one with two operands has both
pub has_operands : (b : TypedBody) (scope : List Binding) (n : Node) (i j : NodeId) → i ≡ left_operand n → j ≡ right_operand n → IsBinary n
    → HasParts b scope n → IsPart b scope i × IsPart b scope j
has_operands b scope n i j is is2 group parts =
    subst (λ (x : NodeId). IsPart b scope x × IsPart b scope j) (sym is)
    (subst (λ (x : NodeId). IsPart b scope (left_operand n) × IsPart b scope x) (sym is2) (by n group parts))
  where
    by : (m : Node) → IsBinary m → HasParts b scope m → IsPart b scope (left_operand m) × IsPart b scope (right_operand m)
    by (Arith at op l r) g h = h
    by (Compare at op l r) g h = h
    by _ g h = elim g [ ]
