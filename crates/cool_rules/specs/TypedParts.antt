-- `IsPart` says that a node number is the root of a subexpression, whose nodes and types are at their numbers in the lists that the code keeps for a feature's
-- expression. `HasParts` says it of all children of a node.
use Rattle.std.specs.Prelude.{◌≡◌, ℕ, List, [], ◌∷◌, ◌++◌, Option, Some, None, length}
use Rattle.cool_syntax.specs.declared.node.Node.{Node}
use Rattle.cool_syntax.specs.declared.node.Node.TheVariants as node
use Rattle.cool_syntax.specs.declared.node.NodeId.{NodeId}
use Rattle.cool_syntax.specs.declared.node.NodeBranch.{NodeBranch}
use Rattle.cool_syntax.specs.Tree.{Tree}
use Rattle.cool_syntax.specs.NodeLists.{root, nodes}
use Rattle.cool_classes.specs.declared.class_id.ClassId.{ClassId}
use Rattle.cool_classes.specs.declared.class_id.Ty.{Ty}
use Rattle.cool_classes.specs.Chains.{Class}
use Rattle.cool_rules.specs.NodeTypes.{node_types}
use Rattle.cool_rules.specs.Rules.{type_meant}
use Rattle.cool_rules.specs.Scopes.{Binding}
use Rattle.cool_rules.specs.Typing.{with_name}

-- the body of a feature of a class of a table, and the types of its nodes
pub record TypedBody : Type 0 where
  pub table : List Class
  pub class : ClassId
  pub body : Tree
  pub types : List Ty

-- some items stand in a list after so many others
pub record Lies {A : Type 0} (xs : List A) (k : ℕ) (ys : List A) : Type 0 where
  pub front : List A
  pub back : List A
  pub before : length front ≡ k
  pub is : xs ≡ front ++ (ys ++ back)

-- The number is the root of an expression in the body: its nodes are in the list of the body's nodes, and its types, with these names in scope, in the list
-- of types.
pub record IsPart (b : TypedBody) (scope : List Binding) (id : NodeId) : Type 0 where
  pub before : ℕ
  pub tree : Tree
  pub stands : Lies (nodes 0 b.body) before (nodes before tree)
  pub typed : Lies b.types before (node_types b.table b.class scope tree)
  pub number : id ≡ root before tree

abbrev pub AreParts : TypedBody → List Binding → List NodeId → Type 0
AreParts b scope [] = Unit {0}
AreParts b scope (id ∷ ids) = IsPart b scope id × AreParts b scope ids

abbrev pub MayBePart : TypedBody → List Binding → Option NodeId → Type 0
MayBePart b scope None = Unit {0}
MayBePart b scope (Some id) = IsPart b scope id

-- the bodies of branches, each with its name in scope
abbrev pub AreBranches : TypedBody → List Binding → List NodeBranch → Type 0
AreBranches b scope [] = Unit {0}
AreBranches b scope (w ∷ ws) = IsPart b (with_name w.name (type_meant b.table w.declared.name) scope) w.body × AreBranches b scope ws

-- the parts of a node with these names in scope
abbrev pub HasParts : TypedBody → List Binding → Node → Type 0
HasParts b scope (node.Assign at name a) = IsPart b scope a
HasParts b scope (node.Dispatch at a name ids) = IsPart b scope a × AreParts b scope ids
HasParts b scope (node.StaticDispatch at a class name ids) = IsPart b scope a × AreParts b scope ids
HasParts b scope (node.If at t y n) = IsPart b scope t × IsPart b scope y × IsPart b scope n
HasParts b scope (node.While at t a) = IsPart b scope t × IsPart b scope a
HasParts b scope (node.Block at ids) = AreParts b scope ids
HasParts b scope (node.Let at name declared o a) = MayBePart b scope o × IsPart b (with_name name (type_meant b.table declared.name) scope) a
HasParts b scope (node.Case at a ws) = IsPart b scope a × AreBranches b scope ws
HasParts b scope (node.New at class) = Unit {0}
HasParts b scope (node.IsVoid at a) = IsPart b scope a
HasParts b scope (node.Arith at op l r) = IsPart b scope l × IsPart b scope r
HasParts b scope (node.Neg at a) = IsPart b scope a
HasParts b scope (node.Compare at op l r) = IsPart b scope l × IsPart b scope r
HasParts b scope (node.Not at a) = IsPart b scope a
HasParts b scope (node.Id at name) = Unit {0}
HasParts b scope (node.Int at value) = Unit {0}
HasParts b scope (node.Str at bytes) = Unit {0}
HasParts b scope (node.Bool at value) = Unit {0}
