-- Postconditions of appending a node after the nodes of its folded parts, one for each form of expression: if the node's type is right, the nodes are those of
-- the folded expression. They say nothing about nodes of other forms.
use Rattle.std.specs.Prelude.{◌≡◌, ℕ, List, length, Option, None, Ok, Result}
use Rattle.std.specs.Global.{Vec}
use Rattle.std.specs.declared.alloc.AllocError.{AllocError}
use Rattle.cool_syntax.specs.declared.node.Node.{Node}
use Rattle.cool_syntax.specs.declared.node.Node.TheVariants.{Dispatch, StaticDispatch, If, While, Block, Let, Case}
use Rattle.cool_syntax.specs.declared.node.NodeBranch.{NodeBranch}
use Rattle.cool_syntax.specs.declared.node.NodeId.{NodeId}
use Rattle.cool_syntax.specs.NodeLists.{tree_at, cases_of, maybe_tree_of, tree_of_node, trees_of}
use Rattle.cool_syntax.specs.Tree.{Tree, Trees, MaybeTree, Cases}
use Rattle.cool_classes.specs.declared.class_id.ClassId.{ClassId}
use Rattle.cool_classes.specs.declared.class_id.Ty.{Ty}
use Rattle.cool_rules.specs.Conformance.{class_of}
use Rattle.cool_rules.specs.Rules.{join_in, type_meant}
use Rattle.cool_rules.specs.Scopes.{AreTypes, Binding}
use Rattle.cool_rules.specs.StaticTypes.{type_of}
use Rattle.cool_rules.specs.Typing.{with_name}
use Rattle.cool_fold.specs.declared.place.Found.{Found}
use Rattle.cool_fold.specs.declared.place.Placed.{Placed}
use Rattle.cool_fold.specs.declared.folding_setting.FoldingSetting.{FoldingSetting}
use Rattle.cool_fold.specs.Folding.{constant_in, truth_in}
use Rattle.cool_fold.specs.FoldedNodes.{Folds, FoldsAll, FoldsCases, FoldsMaybe}
use Rattle.cool_fold.specs.Forms.{operand, left_operand, right_operand}
use Rattle.cool_fold.specs.Shrinking.{shrunk, taken}

-- the nodes of a folded tree were added after those before, and this is the result; below, the same for trees, an optional tree and branches
abbrev pub IsFolded : FoldingSetting → List Binding → Tree → Placed → Placed → Found → Type 0
IsFolded s scope t before after f = Folds {E = AllocError} s scope t before after (Ok f)

abbrev pub AreFolded : FoldingSetting → List Binding → Trees → Placed → Placed → Vec NodeId → Type 0
AreFolded s scope ts before after ids = FoldsAll {E = AllocError} s scope ts before after (Ok ids)

abbrev pub IsMaybeFolded : FoldingSetting → List Binding → MaybeTree → Placed → Placed → Option NodeId → Type 0
IsMaybeFolded s scope o before after id = FoldsMaybe {E = AllocError} s scope o before after (Ok id)

abbrev pub AreCasesFolded : FoldingSetting → List Binding → Cases → Placed → Placed → Vec NodeBranch → Type 0
AreCasesFolded s scope cs before after branches = FoldsCases {E = AllocError} s scope cs before after (Ok branches)

-- the type is that of the expression that the node makes, with these names in scope
pub record IsTypeOf (s : FoldingSetting) (scope : List Binding) (n : Node) (found : Ty) : Type 0 where
  pub types : AreTypes s.table.now scope
  pub type : found ≡ type_of s.table.now s.class scope (tree_of_node s.body.now n)

-- an assignment or an operator with one operand, whose nodes begin at this number
abbrev pub PlacesUnary : FoldingSetting → ℕ → Node → Ty → Found → Placed → Placed → Result Found AllocError → Type 0
PlacesUnary s start n type part placed after result =
    (scope : List Binding) (before : Placed) → IsTypeOf s scope n type → start ≡ length before.nodes.items
    → IsFolded s scope (tree_at s.body.now (operand n)) before placed part
    → Folds s scope (tree_of_node s.body.now n) before after result

-- an operator with two operands, whose nodes begin at this number
abbrev pub PlacesBinary : FoldingSetting → ℕ → Node → Found → Found → Placed → Placed → Result Found AllocError → Type 0
PlacesBinary s start n left right placed after result =
    (scope : List Binding) (before between : Placed) → start ≡ length before.nodes.items
    → IsFolded s scope (tree_at s.body.now (left_operand n)) before between left
    → IsFolded s scope (tree_at s.body.now (right_operand n)) between placed right
    → Folds s scope (tree_of_node s.body.now n) before after result

-- a loop, by the numbers of its parts
abbrev pub PlacesLoop : FoldingSetting → Node → Ty → NodeId → NodeId → Placed → Placed → Result Found AllocError → Type 0
PlacesLoop s (While at a b) type test body placed after result =
    (scope : List Binding) (before between : Placed) (f g : Found) → IsTypeOf s scope (While at a b) type → test ≡ f.id → body ≡ g.id
    → IsFolded s scope (tree_at s.body.now a) before between f → IsFolded s scope (tree_at s.body.now b) between placed g
    → Folds s scope (tree_of_node s.body.now (While at a b)) before after result
PlacesLoop s _ type test body placed after result = Unit {0}

abbrev pub PlacesBlock : FoldingSetting → Node → Ty → Vec NodeId → Placed → Placed → Result Found AllocError → Type 0
PlacesBlock s (Block at ids) type items placed after result =
    (scope : List Binding) (before : Placed) → IsTypeOf s scope (Block at ids) type → AreFolded s scope (trees_of s.body.now ids) before placed items
    → Folds s scope (tree_of_node s.body.now (Block at ids)) before after result
PlacesBlock s _ type items placed after result = Unit {0}

-- a conditional that stays, by the numbers of its parts
abbrev pub PlacesConditional : FoldingSetting → Node → Ty → NodeId → NodeId → NodeId → Placed → Placed → Result Found AllocError → Type 0
PlacesConditional s (If at a b c) type test one other placed after result =
    (scope : List Binding) (before first second : Placed) (f g h : Found) → IsTypeOf s scope (If at a b c) type
    → test ≡ f.id → one ≡ g.id → other ≡ h.id
    → IsFolded s scope (tree_at s.body.now a) before first f → IsFolded s scope (tree_at s.body.now b) first second g
    → IsFolded s scope (tree_at s.body.now c) second placed h
    → taken (truth_in (constant_in (shrunk s.table.now s.class scope (tree_at s.body.now a))))
    (type_of s.table.now s.class scope (tree_at s.body.now b)) (type_of s.table.now s.class scope (tree_at s.body.now c))
    (join_in s.table.now s.class (type_of s.table.now s.class scope (tree_at s.body.now b))
    (type_of s.table.now s.class scope (tree_at s.body.now c)))
    b c ≡ None
    → Folds s scope (tree_of_node s.body.now (If at a b c)) before after result
PlacesConditional s _ type test one other placed after result = Unit {0}

-- a `let`, by the numbers of its initial value and its body
abbrev pub PlacesLet : FoldingSetting → Node → Ty → Option NodeId → NodeId → Placed → Placed → Result Found AllocError → Type 0
PlacesLet s (Let at name declared o a) type init body placed after result =
    (scope : List Binding) (before between : Placed) (f : Found) → IsTypeOf s scope (Let at name declared o a) type → body ≡ f.id
    → IsMaybeFolded s scope (maybe_tree_of s.body.now o) before between init
    → IsFolded s (with_name name (type_meant s.table.now declared.name) scope) (tree_at s.body.now a) between placed f
    → Folds s scope (tree_of_node s.body.now (Let at name declared o a)) before after result
PlacesLet s _ type init body placed after result = Unit {0}

-- a `case`, by the number of its value
abbrev pub PlacesCase : FoldingSetting → Node → Ty → NodeId → Vec NodeBranch → Placed → Placed → Result Found AllocError → Type 0
PlacesCase s (Case at a bs) type value branches placed after result =
    (scope : List Binding) (before between : Placed) (f : Found) → IsTypeOf s scope (Case at a bs) type → value ≡ f.id
    → IsFolded s scope (tree_at s.body.now a) before between f → AreCasesFolded s scope (cases_of s.body.now bs) between placed branches
    → Folds s scope (tree_of_node s.body.now (Case at a bs)) before after result
PlacesCase s _ type value branches placed after result = Unit {0}

-- a dispatch, by the class and the number of its receiver
abbrev pub PlacesDispatch : FoldingSetting → Node → Ty → ClassId → NodeId → Vec NodeId → Placed → Placed → Result Found AllocError → Type 0
PlacesDispatch s (Dispatch at a name ids) type class object args placed after result =
    (scope : List Binding) (before between : Placed) (f : Found) → IsTypeOf s scope (Dispatch at a name ids) type
    → class ≡ class_of s.class (type_of s.table.now s.class scope (tree_at s.body.now a)) → object ≡ f.id
    → IsFolded s scope (tree_at s.body.now a) before between f → AreFolded s scope (trees_of s.body.now ids) between placed args
    → Folds s scope (tree_of_node s.body.now (Dispatch at a name ids)) before after result
PlacesDispatch s _ type class object args placed after result = Unit {0}

abbrev pub PlacesStaticDispatch : FoldingSetting → Node → Ty → NodeId → Vec NodeId → Placed → Placed → Result Found AllocError → Type 0
PlacesStaticDispatch s (StaticDispatch at a class name ids) type object args placed after result =
    (scope : List Binding) (before between : Placed) (f : Found) → IsTypeOf s scope (StaticDispatch at a class name ids) type → object ≡ f.id
    → IsFolded s scope (tree_at s.body.now a) before between f → AreFolded s scope (trees_of s.body.now ids) between placed args
    → Folds s scope (tree_of_node s.body.now (StaticDispatch at a class name ids)) before after result
PlacesStaticDispatch s _ type object args placed after result = Unit {0}
