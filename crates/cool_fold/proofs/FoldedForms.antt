-- The node that `place_unary` or `place_binary` appends after the nodes of the folded operands completes the nodes of the folded expression.
use Rattle.std.proofs.Common.{◌≡◌, ℕ, ℤ, ◌+◌, List, [], ◌∷◌, ◌++◌, length, Option, Some, None, Bool as Truth, true, false, Ok, refl, sym, ap, ◌∙◌, subst, append_assoc}
use Rattle.std.specs.Prelude.{Result, IfOk, OnOk, neg_ℤ, ◌+ℤ◌, ◌-ℤ◌, ◌*ℤ◌, int_div, not, if◌then◌else◌}
use Rattle.std.specs.Option.{option_map}
use Rattle.cool_syntax.specs.declared.node.Node.{Node}
use Rattle.cool_syntax.specs.declared.node.Node.TheVariants as node
use Rattle.cool_syntax.specs.declared.operator.ArithOp.{ArithOp}
use Rattle.cool_syntax.specs.declared.operator.ArithOp.TheVariants.{Add, Sub, Mul, Div}
use Rattle.cool_syntax.specs.declared.operator.CompareOp.{CompareOp}
use Rattle.cool_syntax.specs.declared.node.NodeId.{NodeId}
use Rattle.cool_syntax.specs.declared.place.Place.{Place}
use Rattle.cool_syntax.specs.Tree.{Tree, tree_size}
use Rattle.cool_syntax.specs.Tree as trees
use Rattle.cool_syntax.specs.NodeLists.{nodes, root}
use Rattle.cool_classes.specs.declared.class_id.Ty.{Ty}
use Rattle.cool_rules.specs.NodeTypes.{node_types, part_types}
use Rattle.cool_rules.specs.Scopes.{AreTypes, Binding}
use Rattle.cool_rules.specs.StaticTypes.{type_of}
use Rattle.cool_rules.specs.Typing.{bool_type, int_type}
use Rattle.cool_meaning.specs.Evaluation.{is_void}
use Rattle.cool_meaning.specs.Numbers.{fits, is_zero}
use Rattle.cool_fold.specs.declared.place.Found.{Found}
use Rattle.cool_fold.specs.declared.place.Placed.{Placed}
use Rattle.cool_fold.specs.declared.folding_setting.FoldingSetting.{FoldingSetting}
use Rattle.cool_fold.specs.Folding.{constant_in, exactly, number_in, number_or, result, truth_in}
use Rattle.cool_fold.specs.FoldingSettings.{IsSound}
use Rattle.cool_fold.specs.Shrinking.{compared, computed, negated, shrunk, truth_or}
use Rattle.cool_fold.specs.FoldedNodes.{value_of, number_constant, truth_constant, with_number, with_truth, with_type, Folds, HasTypes}
use Rattle.cool_fold.proofs.NodesPlaced.{more_nodes}
use Rattle.cool_fold.proofs.FoldedRows.{number_folds, stays_folds, truth_folds}
use Rattle.cool_fold.proofs.TypesPlaced.{still_typed, types_later}

exact_fits : (n v : ℤ) → exactly n ≡ Some v → fits v ≡ true
exact_fits n v e = by (fits n) refl e
  where
    by : (x : Truth) → fits n ≡ x → (if x then Some n else None) ≡ Some v → fits v ≡ true
    by true is e = let it : n ≡ v = cc in ap fits (sym it) ∙ is
    by false is e = absurd cc

result_fits : (op : ArithOp) (m n v : ℤ) → result op m n ≡ Some v → fits v ≡ true
result_fits Add m n v e = exact_fits (m +ℤ n) v e
result_fits Sub m n v e = exact_fits (m -ℤ n) v e
result_fits Mul m n v e = exact_fits (m *ℤ n) v e
result_fits Div m n v e = by (is_zero n) e
  where
    by : (x : Truth) → (if x then None else exactly (int_div m n)) ≡ Some v → fits v ≡ true
    by true e = absurd cc
    by false e = exact_fits (int_div m n) v e

computed_fits : (op : ArithOp) (a b : Option ℤ) (v : ℤ) → computed op a b ≡ Some v → fits v ≡ true
computed_fits op None b v e = absurd cc
computed_fits op (Some m) None v e = absurd cc
computed_fits op (Some m) (Some n) v e = result_fits op m n v e

negated_fits : (a : Option ℤ) (v : ℤ) → negated a ≡ Some v → fits v ≡ true
negated_fits None v e = absurd cc
negated_fits (Some n) v e = exact_fits (neg_ℤ n) v e

-- the nodes of two parts, one after the other
pub two_placed : (before first second : List Node) (a b : Tree) → first ≡ before ++ nodes (length before) a → second ≡ first ++ nodes (length first) b
    → second ≡ before ++ (nodes (length before) a ++ nodes (length before + tree_size a) b)
two_placed before first second a b e f =
    let more = more_nodes before first a e in
    f ∙ (λ i. e i ++ nodes (more i) b) ∙ append_assoc before (nodes (length before) a) (nodes (length before + tree_size a) b)

module _ (s : FoldingSetting) (scope : List Binding) where
  abbrev small : Tree → Tree
  small a = shrunk s.table.now s.class scope a

  -- the types of its nodes
  abbrev pub small_types : Tree → List Ty
  small_types a = node_types s.table.now s.class scope (shrunk s.table.now s.class scope a)

  -- the number of the second part
  second_root : (before : List Node) (a b : Tree) (first : List Node) (id : NodeId) → first ≡ before ++ nodes (length before) (small a)
      → id ≡ root (length first) (small b) → id ≡ root (length before + tree_size (small a)) (small b)
  second_root before a b first id placed is = is ∙ ap (λ (k : ℕ). root k (small b)) (more_nodes before first (small a) placed)

  -- the types of two parts, one after the other
  pub two_typed : {E : Type 0} (a b : Tree) (before first second : Placed) (f g : Found) → Folds {E = E} s scope a before first (Ok f)
      → Folds {E = E} s scope b first second (Ok g) → HasTypes before → second.types.held ≡ before.types.held ++ (small_types a ++ small_types b)
  two_typed {E} a b before first second f g h k even =
      types_later before.types.held first.types.held second.types.held (small_types a) (small_types b) (h.typed even)
      (k.typed (still_typed s scope {E = E} before first a f h even))

  module _ {E : Type 0} (before after : Placed) where
    -- a number in place of an Int, of what the parts are said to be
    number_of : (t whole : Tree) (at : Place) (start : ℕ) (o there : Option ℤ) (mid : Placed) (rest : List Node) (n last_node : Node)
        (answer : Result Found E)
        → type_of s.table.now s.class scope whole ≡ int_type → small t ≡ number_or whole at there → constant_in whole ≡ None
        → ((v : ℤ) → there ≡ Some v → fits v ≡ true)
        → mid.nodes.items ≡ before.nodes.items ++ rest → nodes (length before.nodes.items) whole ≡ rest ++ last_node ∷ []
        → (HasTypes before → mid.types.held ≡ before.types.held ++ part_types s.table.now s.class scope whole)
        → start ≡ length before.nodes.items → o ≡ there → n ≡ last_node
        → OnOk answer (after.nodes.items ≡ with_number mid.nodes.items start n at o) → OnOk answer (after.types.held ≡ with_type mid.types.held start int_type o)
        → IfOk answer (λ f. f.constant ≡ number_constant o)
        → IfOk answer (λ f. f.id.0 + 1 ≡ length after.nodes.items) → Folds s scope t before after answer
    number_of t whole at start o there mid rest n last_node answer type is none fit mid_is nodes_are parts from same made placed typed constant last =
        number_folds s scope t before after whole at there mid rest last_node answer type is none fit mid_is nodes_are parts
        (subst (λ (k : ℕ). OnOk answer (after.nodes.items ≡ with_number mid.nodes.items k last_node at there)) from
        (subst (λ (q : Option ℤ). OnOk answer (after.nodes.items ≡ with_number mid.nodes.items start last_node at q)) same
        (subst (λ (m : Node). OnOk answer (after.nodes.items ≡ with_number mid.nodes.items start m at o)) made placed)))
        (subst (λ (k : ℕ). OnOk answer (after.types.held ≡ with_type mid.types.held k int_type there)) from
        (subst (λ (q : Option ℤ). OnOk answer (after.types.held ≡ with_type mid.types.held start int_type q)) same typed))
        (subst (λ (q : Option ℤ). IfOk answer (λ f. f.constant ≡ number_constant q)) same constant) last

    truth_of : (t whole : Tree) (at : Place) (start : ℕ) (o there : Option Truth) (mid : Placed) (rest : List Node) (n last_node : Node)
        (answer : Result Found E)
        → type_of s.table.now s.class scope whole ≡ bool_type → small t ≡ truth_or whole at there → constant_in whole ≡ None
        → mid.nodes.items ≡ before.nodes.items ++ rest → nodes (length before.nodes.items) whole ≡ rest ++ last_node ∷ []
        → (HasTypes before → mid.types.held ≡ before.types.held ++ part_types s.table.now s.class scope whole)
        → start ≡ length before.nodes.items → o ≡ there → n ≡ last_node
        → OnOk answer (after.nodes.items ≡ with_truth mid.nodes.items start n at o) → OnOk answer (after.types.held ≡ with_type mid.types.held start bool_type o)
        → IfOk answer (λ f. f.constant ≡ truth_constant o)
        → IfOk answer (λ f. f.id.0 + 1 ≡ length after.nodes.items) → Folds s scope t before after answer
    truth_of t whole at start o there mid rest n last_node answer type is none mid_is nodes_are parts from same made placed typed constant last =
        truth_folds s scope t before after whole at there mid rest last_node answer type is none mid_is nodes_are parts
        (subst (λ (k : ℕ). OnOk answer (after.nodes.items ≡ with_truth mid.nodes.items k last_node at there)) from
        (subst (λ (q : Option Truth). OnOk answer (after.nodes.items ≡ with_truth mid.nodes.items start last_node at q)) same
        (subst (λ (m : Node). OnOk answer (after.nodes.items ≡ with_truth mid.nodes.items start m at o)) made placed)))
        (subst (λ (k : ℕ). OnOk answer (after.types.held ≡ with_type mid.types.held k bool_type there)) from
        (subst (λ (q : Option Truth). OnOk answer (after.types.held ≡ with_type mid.types.held start bool_type q)) same typed))
        (subst (λ (q : Option Truth). IfOk answer (λ f. f.constant ≡ truth_constant q)) same constant) last

    pub assign_folds : IsSound s → AreTypes s.table.now scope → (at : Place) (name copy : List ℕ) (a : Tree) (type : Ty)
        (mid : Placed) (f : Found) (answer : Result Found E) → type ≡ type_of s.table.now s.class scope (trees.Assign at name a) → copy ≡ name
        → Folds {E = E} s scope a before mid (Ok f)
        → OnOk answer (after.nodes.items ≡ mid.nodes.items ++ node.Assign at copy f.id ∷ []) → OnOk answer (after.types.held ≡ mid.types.held ++ type ∷ [])
        → IfOk answer (λ g. g.constant ≡ None) → IfOk answer (λ g. g.id.0 ≡ length mid.nodes.items)
        → Folds s scope (trees.Assign at name a) before after answer
    assign_folds sound types at name copy a type mid f answer is_type copied h =
        let k = length before.nodes.items in
        stays_folds s scope (trees.Assign at name a) before after sound types type is_type (trees.Assign at name (small a)) None refl refl mid
        (node.Assign at copy f.id) answer
        ((λ i. h.placed i ++ node.Assign at (copied i) (h.id i) ∷ []) ∙ append_assoc before.nodes.items (nodes k (small a))
        (node.Assign at name (root k (small a)) ∷ []))
        h.typed

    pub is_void_folds : (at : Place) (a : Tree) (start : ℕ) (o : Option Truth) (mid : Placed) (f : Found) (answer : Result Found E)
        → start ≡ length before.nodes.items
        → Folds {E = E} s scope a before mid (Ok f) → o ≡ option_map is_void (value_of f.constant)
        → OnOk answer (after.nodes.items ≡ with_truth mid.nodes.items start (node.IsVoid at f.id) at o)
        → OnOk answer (after.types.held ≡ with_type mid.types.held start bool_type o) → IfOk answer (λ g. g.constant ≡ truth_constant o)
        → IfOk answer (λ g. g.id.0 + 1 ≡ length after.nodes.items) → Folds s scope (trees.IsVoid at a) before after answer
    is_void_folds at a start o mid f answer from h is =
        let k = length before.nodes.items in
        truth_of (trees.IsVoid at a) (trees.IsVoid at (small a)) at start o (option_map is_void (constant_in (small a))) mid (nodes k (small a))
        (node.IsVoid at f.id) (node.IsVoid at (root k (small a))) answer refl refl refl h.placed refl h.typed from
        (is ∙ ap (option_map is_void) h.constant) (λ i. node.IsVoid at (h.id i))

    pub not_folds : (at : Place) (a : Tree) (start : ℕ) (o : Option Truth) (mid : Placed) (f : Found) (answer : Result Found E)
        → start ≡ length before.nodes.items
        → Folds {E = E} s scope a before mid (Ok f) → o ≡ option_map not (truth_in (value_of f.constant))
        → OnOk answer (after.nodes.items ≡ with_truth mid.nodes.items start (node.Not at f.id) at o)
        → OnOk answer (after.types.held ≡ with_type mid.types.held start bool_type o) → IfOk answer (λ g. g.constant ≡ truth_constant o)
        → IfOk answer (λ g. g.id.0 + 1 ≡ length after.nodes.items) → Folds s scope (trees.Not at a) before after answer
    not_folds at a start o mid f answer from h is =
        let k = length before.nodes.items in
        truth_of (trees.Not at a) (trees.Not at (small a)) at start o (option_map not (truth_in (constant_in (small a)))) mid (nodes k (small a))
        (node.Not at f.id) (node.Not at (root k (small a))) answer refl refl refl h.placed refl h.typed from
        (is ∙ (λ i. option_map not (truth_in (h.constant i)))) (λ i. node.Not at (h.id i))

    pub neg_folds : (at : Place) (a : Tree) (start : ℕ) (o : Option ℤ) (mid : Placed) (f : Found) (answer : Result Found E)
        → start ≡ length before.nodes.items
        → Folds {E = E} s scope a before mid (Ok f) → o ≡ negated (number_in (value_of f.constant))
        → OnOk answer (after.nodes.items ≡ with_number mid.nodes.items start (node.Neg at f.id) at o)
        → OnOk answer (after.types.held ≡ with_type mid.types.held start int_type o) → IfOk answer (λ g. g.constant ≡ number_constant o)
        → IfOk answer (λ g. g.id.0 + 1 ≡ length after.nodes.items) → Folds s scope (trees.Neg at a) before after answer
    neg_folds at a start o mid f answer from h is =
        let k = length before.nodes.items in
        number_of (trees.Neg at a) (trees.Neg at (small a)) at start o (negated (number_in (constant_in (small a)))) mid (nodes k (small a))
        (node.Neg at f.id) (node.Neg at (root k (small a))) answer refl refl refl (negated_fits (number_in (constant_in (small a))))
        h.placed refl h.typed from
        (is ∙ (λ i. negated (number_in (h.constant i)))) (λ i. node.Neg at (h.id i))

    pub arith_folds : (at : Place) (op : ArithOp) (a b : Tree) (start : ℕ) (o : Option ℤ) (first second : Placed) (f g : Found) (answer : Result Found E)
        → start ≡ length before.nodes.items → Folds {E = E} s scope a before first (Ok f) → Folds {E = E} s scope b first second (Ok g)
        → o ≡ computed op (number_in (value_of f.constant)) (number_in (value_of g.constant))
        → OnOk answer (after.nodes.items ≡ with_number second.nodes.items start (node.Arith at op f.id g.id) at o)
        → OnOk answer (after.types.held ≡ with_type second.types.held start int_type o) → IfOk answer (λ r. r.constant ≡ number_constant o)
        → IfOk answer (λ r. r.id.0 + 1 ≡ length after.nodes.items) → Folds s scope (trees.Arith at op a b) before after answer
    arith_folds at op a b start o first second f g answer from h k is =
        let n = length before.nodes.items in
        let j = second_root before.nodes.items a b first.nodes.items g.id h.placed k.id in
        let made = node.Arith at op (root n (small a)) (root (n + tree_size (small a)) (small b)) in
        number_of (trees.Arith at op a b) (trees.Arith at op (small a) (small b)) at start o
        (computed op (number_in (constant_in (small a))) (number_in (constant_in (small b)))) second
        (nodes n (small a) ++ nodes (n + tree_size (small a)) (small b)) (node.Arith at op f.id g.id) made answer refl refl refl
        (computed_fits op (number_in (constant_in (small a))) (number_in (constant_in (small b))))
        (two_placed before.nodes.items first.nodes.items second.nodes.items (small a) (small b) h.placed k.placed) refl
        (two_typed {E = E} a b before first second f g h k) from
        (is ∙ (λ i. computed op (number_in (h.constant i)) (number_in (k.constant i)))) (λ i. node.Arith at op (h.id i) (j i))

    pub compare_folds : (at : Place) (op : CompareOp) (a b : Tree) (start : ℕ) (o : Option Truth) (first second : Placed) (f g : Found)
        (answer : Result Found E)
        → start ≡ length before.nodes.items → Folds {E = E} s scope a before first (Ok f) → Folds {E = E} s scope b first second (Ok g)
        → o ≡ compared op (value_of f.constant) (value_of g.constant)
        → OnOk answer (after.nodes.items ≡ with_truth second.nodes.items start (node.Compare at op f.id g.id) at o)
        → OnOk answer (after.types.held ≡ with_type second.types.held start bool_type o) → IfOk answer (λ r. r.constant ≡ truth_constant o)
        → IfOk answer (λ r. r.id.0 + 1 ≡ length after.nodes.items) → Folds s scope (trees.Compare at op a b) before after answer
    compare_folds at op a b start o first second f g answer from h k is =
        let n = length before.nodes.items in
        let j = second_root before.nodes.items a b first.nodes.items g.id h.placed k.id in
        let made = node.Compare at op (root n (small a)) (root (n + tree_size (small a)) (small b)) in
        truth_of (trees.Compare at op a b) (trees.Compare at op (small a) (small b)) at start o
        (compared op (constant_in (small a)) (constant_in (small b))) second
        (nodes n (small a) ++ nodes (n + tree_size (small a)) (small b)) (node.Compare at op f.id g.id) made answer refl refl refl
        (two_placed before.nodes.items first.nodes.items second.nodes.items (small a) (small b) h.placed k.placed) refl
        (two_typed {E = E} a b before first second f g h k) from
        (is ∙ (λ i. compared op (h.constant i) (k.constant i))) (λ i. node.Compare at op (h.id i) (j i))
