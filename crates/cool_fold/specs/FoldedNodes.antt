-- `Folds` is the postcondition of folding an expression: the nodes of the folded expression are appended after those that were there, with their types.
use Rattle.std.specs.Prelude.{◌≡◌, ℕ, ℤ, Bool as Truth, List, [], ◌∷◌, ◌++◌, length, take, Option, Some, None, Result, IfOk, OnOk}
use Rattle.std.specs.Global.{Vec}
use Rattle.cool_syntax.specs.declared.node.Node.{Node}
use Rattle.cool_syntax.specs.declared.node.Node.TheVariants as node
use Rattle.cool_syntax.specs.declared.node.NodeBranch.{NodeBranch}
use Rattle.cool_syntax.specs.declared.node.NodeId.{NodeId}
use Rattle.cool_syntax.specs.declared.place.Place.{Place}
use Rattle.cool_syntax.specs.Tree.{Tree, Trees, MaybeTree, Cases}
use Rattle.cool_syntax.specs.NodeLists.{nodes, nodes_of_all, nodes_of_maybe, nodes_of_cases, root, roots, root_of_maybe, branch_roots, tree_at, cases_of, maybe_tree_of, tree_of_node, trees_of}
use Rattle.cool_classes.specs.declared.class_id.Ty.{Ty}
use Rattle.cool_meaning.specs.Values.{Value, Int, Bool, Str}
use Rattle.cool_meaning.specs.Numbers.{word_of}
use Rattle.cool_rules.specs.NodeTypes.{node_types, types_of_all, types_of_maybe, types_of_cases}
use Rattle.cool_rules.specs.Scopes.{AreTypes, Binding}
use Rattle.cool_rules.specs.TypedParts.{AreBranches, AreParts, IsPart, MayBePart}
use Rattle.cool_fold.specs.declared.constant.Constant.{Constant}
use Rattle.cool_fold.specs.declared.constant.Constant.TheVariants.{Number, Text, Truth as TruthOf}
use Rattle.cool_fold.specs.declared.place.Found.{Found}
use Rattle.cool_fold.specs.declared.place.Placed.{Placed}
use Rattle.cool_fold.specs.declared.folding_setting.FoldingSetting.{FoldingSetting}
use Rattle.cool_fold.specs.Folding.{constant_in}
use Rattle.cool_fold.specs.FoldingSettings.{typed_body, IsStanding}
use Rattle.cool_fold.specs.Shrinking.{shrunk, shrunk_all, shrunk_maybe, shrunk_cases}

-- the value that a constant is
abbrev pub value_of : Option Constant → Option Value
value_of None = None
value_of (Some (Number n)) = Some (Int n)
value_of (Some (Text bytes)) = Some (Str bytes.now)
value_of (Some (TruthOf b)) = Some (Bool b)

abbrev pub number_constant : Option ℤ → Option Constant
number_constant None = None
number_constant (Some n) = Some (Number n)

abbrev pub truth_constant : Option Truth → Option Constant
truth_constant None = None
truth_constant (Some b) = Some (TruthOf b)

-- the nodes followed by `n`, or the first `start` of them followed by a constant
abbrev pub with_number : List Node → ℕ → Node → Place → Option ℤ → List Node
with_number ns start n at None = ns ++ n ∷ []
with_number ns start n at (Some v) = take start ns ++ node.Int at (word_of v) ∷ []

abbrev pub with_truth : List Node → ℕ → Node → Place → Option Truth → List Node
with_truth ns start n at None = ns ++ n ∷ []
with_truth ns start n at (Some b) = take start ns ++ node.Bool at b ∷ []

-- the types followed by this one, or the first `start` of them followed by it
abbrev pub with_type : {A : Type 0} → List Ty → ℕ → Ty → Option A → List Ty
with_type types start type None = types ++ type ∷ []
with_type types start type (Some v) = take start types ++ type ∷ []

-- each node has a type
abbrev pub HasTypes : Placed → Type 0
HasTypes placed = length placed.types.held ≡ length placed.nodes.items

-- The nodes of the folded tree were added after those before, with their types; the result has the constant and the number of its root.
pub record Folds {E : Type 0} (s : FoldingSetting) (scope : List Binding) (t : Tree) (before after : Placed) (result : Result Found E) : Type 0 where
  pub constant : IfOk result (λ f. value_of f.constant ≡ constant_in (shrunk s.table.now s.class scope t))
  pub id : IfOk result (λ f. f.id ≡ root (length before.nodes.items) (shrunk s.table.now s.class scope t))
  pub placed : OnOk result (after.nodes.items ≡ before.nodes.items ++ nodes (length before.nodes.items) (shrunk s.table.now s.class scope t))
  pub typed : HasTypes before → OnOk result (after.types.held ≡ before.types.held ++ node_types s.table.now s.class scope (shrunk s.table.now s.class scope t))

pub record FoldsAll {E : Type 0} (s : FoldingSetting) (scope : List Binding) (ts : Trees) (before after : Placed) (result : Result (Vec NodeId) E) : Type 0 where
  pub ids : IfOk result (λ f. f.items ≡ roots (length before.nodes.items) (shrunk_all s.table.now s.class scope ts))
  pub placed : OnOk result (after.nodes.items ≡ before.nodes.items ++ nodes_of_all (length before.nodes.items) (shrunk_all s.table.now s.class scope ts))
  pub typed : HasTypes before → OnOk result (after.types.held ≡ before.types.held ++ types_of_all s.table.now s.class scope (shrunk_all s.table.now s.class scope ts))

pub record FoldsMaybe {E : Type 0} (s : FoldingSetting) (scope : List Binding) (o : MaybeTree) (before after : Placed) (result : Result (Option NodeId) E) : Type 0 where
  pub id : IfOk result (λ id. id ≡ root_of_maybe (length before.nodes.items) (shrunk_maybe s.table.now s.class scope o))
  pub placed : OnOk result (after.nodes.items ≡ before.nodes.items ++ nodes_of_maybe (length before.nodes.items) (shrunk_maybe s.table.now s.class scope o))
  pub typed : HasTypes before → OnOk result (after.types.held ≡ before.types.held ++ types_of_maybe s.table.now s.class scope (shrunk_maybe s.table.now s.class scope o))

pub record FoldsCases {E : Type 0} (s : FoldingSetting) (scope : List Binding) (cs : Cases) (before after : Placed) (result : Result (Vec NodeBranch) E) : Type 0 where
  pub branches : IfOk result (λ f. f.items ≡ branch_roots (length before.nodes.items) (shrunk_cases s.table.now s.class scope cs))
  pub placed : OnOk result (after.nodes.items ≡ before.nodes.items ++ nodes_of_cases (length before.nodes.items) (shrunk_cases s.table.now s.class scope cs))
  pub typed : HasTypes before → OnOk result (after.types.held ≡ before.types.held ++ types_of_cases s.table.now s.class scope (shrunk_cases s.table.now s.class scope cs))

-- folding a part of the body, in every scope in which the part stands there; below, the same for parts, an optional part, branches and a node
abbrev pub FoldsPart : {E : Type 0} → FoldingSetting → NodeId → Placed → Placed → Result Found E → Type 0
FoldsPart s id before after result =
    (scope : List Binding) → AreTypes s.table.now scope → IsPart (typed_body s) scope id → Folds s scope (tree_at s.body.now id) before after result

abbrev pub FoldsParts : {E : Type 0} → FoldingSetting → List NodeId → Placed → Placed → Result (Vec NodeId) E → Type 0
FoldsParts s ids before after result =
    (scope : List Binding) → AreTypes s.table.now scope → AreParts (typed_body s) scope ids → FoldsAll s scope (trees_of s.body.now ids) before after result

abbrev pub MayFoldPart : {E : Type 0} → FoldingSetting → Option NodeId → Placed → Placed → Result (Option NodeId) E → Type 0
MayFoldPart s o before after result =
    (scope : List Binding) → AreTypes s.table.now scope → MayBePart (typed_body s) scope o → FoldsMaybe s scope (maybe_tree_of s.body.now o) before after result

abbrev pub FoldsBranches : {E : Type 0} → FoldingSetting → List NodeBranch → Placed → Placed → Result (Vec NodeBranch) E → Type 0
FoldsBranches s branches before after result =
    (scope : List Binding) → AreTypes s.table.now scope → AreBranches (typed_body s) scope branches
    → FoldsCases s scope (cases_of s.body.now branches) before after result

abbrev pub FoldsNode : {E : Type 0} → FoldingSetting → NodeId → Node → Placed → Placed → Result Found E → Type 0
FoldsNode s id n before after result = (scope : List Binding) → IsStanding s scope id n → Folds s scope (tree_of_node s.body.now n) before after result
