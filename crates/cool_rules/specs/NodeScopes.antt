-- `node_scopes` lists the names in scope at each node of an expression, in the order of the nodes' numbers. `AreTypedColumns` says that the stored lists of
-- node types (NodeTypes.antt) have, for each node, the type that the typing rules give its expression.
use Rattle.std.specs.Prelude.{◌≡◌, ℕ, ◌<◌, List, [], ◌∷◌, ◌++◌, length, Option, Some, slice_get, codes, refl}
use Rattle.cool_syntax.specs.declared.place.Place.{Place}
use Rattle.cool_syntax.specs.declared.type_ref.TypeRef.{TypeRef}
use Rattle.cool_syntax.specs.declared.file_tree.Feature.{Feature}
use Rattle.cool_syntax.specs.declared.file_tree.Feature.TheVariants.{Method, Attribute}
use Rattle.cool_syntax.specs.declared.node.NodeId.{NodeId}
use Rattle.cool_syntax.specs.NodeLists.{tree_at}
use Rattle.cool_syntax.specs.Tree.{Tree, Trees, MaybeTree, Cases, Last, More, Without, With, NoCase, CaseOf, tree_size}
use Rattle.cool_syntax.specs.Tree as trees
use Rattle.cool_classes.specs.declared.class_id.ClassId.{ClassId}
use Rattle.cool_classes.specs.declared.class_id.Ty.{Ty}
use Rattle.cool_classes.specs.Chains.{Class, features_of}
use Rattle.cool_rules.specs.NodeTypes.{own_scope, feature_types}
use Rattle.cool_rules.specs.Rules.{type_meant}
use Rattle.cool_rules.specs.Scopes.{Binding}
use Rattle.cool_rules.specs.Typing.{with_name, formals_in_scope, HasType}

abbrev mutual
  -- the names in scope at the nodes of the parts of an expression that has these: a let and a branch bring one for their bodies
  pub part_scopes : List Class → List Binding → Tree → List (List Binding)
  part_scopes p scope (trees.leaf at form) = []
  part_scopes p scope (trees.unary at form t) = part_scopes p scope t ++ scope ∷ []
  part_scopes p scope (trees.binary at form a b) = (part_scopes p scope a ++ scope ∷ []) ++ (part_scopes p scope b ++ scope ∷ [])
  part_scopes p scope (trees.call at form t ts) = (part_scopes p scope t ++ scope ∷ []) ++ scopes_of_all p scope ts
  part_scopes p scope (trees.If at t y n) =
      (part_scopes p scope t ++ scope ∷ []) ++ (part_scopes p scope y ++ scope ∷ []) ++ (part_scopes p scope n ++ scope ∷ [])
  part_scopes p scope (trees.Block at ts) = scopes_of_all p scope ts
  part_scopes p scope (trees.Let at name declared o t) =
      scopes_of_maybe p scope o
      ++ (part_scopes p (with_name name (type_meant p declared.name) scope) t ++ with_name name (type_meant p declared.name) scope ∷ [])
  part_scopes p scope (trees.Case at t cs) = (part_scopes p scope t ++ scope ∷ []) ++ scopes_of_cases p scope cs

  pub scopes_of_all : List Class → List Binding → Trees → List (List Binding)
  scopes_of_all p scope Last = []
  scopes_of_all p scope (More t ts) = (part_scopes p scope t ++ scope ∷ []) ++ scopes_of_all p scope ts

  pub scopes_of_maybe : List Class → List Binding → MaybeTree → List (List Binding)
  scopes_of_maybe p scope Without = []
  scopes_of_maybe p scope (With t) = part_scopes p scope t ++ scope ∷ []

  pub scopes_of_cases : List Class → List Binding → Cases → List (List Binding)
  scopes_of_cases p scope NoCase = []
  scopes_of_cases p scope (CaseOf at name declared t cs) =
      (part_scopes p (with_name name (type_meant p declared.name) scope) t ++ with_name name (type_meant p declared.name) scope ∷ [])
      ++ scopes_of_cases p scope cs

-- the scopes at the nodes of an expression: of its parts, and then its own
abbrev pub node_scopes : List Class → List Binding → Tree → List (List Binding)
node_scopes p scope t = part_scopes p scope t ++ scope ∷ []

-- Features

-- the expression of a feature: the body of a method, or an initial value
abbrev pub expression_of : Feature → Option Tree
expression_of (Method m) = Some m.body
expression_of (Attribute a) = a.init

-- the names in scope in the expression of a feature of a class: the formals, and the attributes of the class
abbrev pub feature_scope : List Class → ClassId → Feature → List Binding
feature_scope p c (Method m) = formals_in_scope p m.formals ++ own_scope p c
feature_scope p c (Attribute a) = own_scope p c

-- With these names in scope in an expression of a class, the entry of a node in a column is the type that the rules give the expression of
-- the node, with the names that are in scope there.
pub record IsTypedEntry (p : List Class) (c : ClassId) (scope : List Binding) (e : Tree) (types : List Ty) (id : NodeId) : Type 0 where
  pub inner : List Binding
  pub type : Ty
  pub in_scope : slice_get (node_scopes p scope e) id.0 ≡ Some inner
  pub entry : slice_get types id.0 ≡ Some type
  pub typed : HasType p c inner (tree_at e id) type

-- `IsTypedEntry` holds for each node of the expression of each feature
abbrev pub AreTypedColumns : List Class → Type 0
AreTypedColumns p =
    (c : ClassId) (k : ℕ) (x : Feature) (e : Tree) (id : NodeId)
    → c.0 < length p → slice_get (features_of p c) k ≡ Some x → expression_of x ≡ Some e → id.0 < tree_size e
    → IsTypedEntry p c (feature_scope p c x) e (feature_types p c x) id

-- Worked example: in `let x : T <- 1 in x` the name x is in scope at the body, and neither at the initial value nor at the let.
scopes_of_let : (p : List Class) (scope : List Binding) (at : Place) (declared : TypeRef)
    → node_scopes p scope (trees.Let at (codes "x") declared (With (trees.Int at 1)) (trees.Id at (codes "x")))
    ≡ scope ∷ with_name (codes "x") (type_meant p declared.name) scope ∷ scope ∷ []
scopes_of_let p scope at declared = refl
