-- `node_types` lists the types of the nodes of an expression, in the order of the nodes' numbers. An accepted program stores this list for the expression of
-- each feature (`table_types`).
use Rattle.std.specs.Prelude.{◌≡◌, ℕ, suc, List, [], ◌∷◌, ◌++◌, Option, Some, None, map, codes, refl}
use Rattle.std.specs.Global.{Vec}
use Rattle.cool_syntax.specs.declared.place.Place.{Place}
use Rattle.cool_syntax.specs.declared.operator.ArithOp.TheVariants.{Add}
use Rattle.cool_syntax.specs.declared.operator.CompareOp.TheVariants.{Less}
use Rattle.cool_syntax.specs.declared.file_tree.Feature.{Feature}
use Rattle.cool_syntax.specs.declared.file_tree.Feature.TheVariants.{Method, Attribute}
use Rattle.cool_syntax.specs.Tree.{Tree, Trees, MaybeTree, Cases, Last, More, Without, With, NoCase, CaseOf}
use Rattle.cool_syntax.specs.Tree as trees
use Rattle.cool_syntax.specs.declared.type_ref.TypeRef.{TypeRef}
use Rattle.cool_classes.specs.declared.class_id.ClassId.{ClassId}
use Rattle.cool_classes.specs.declared.class_id.Ty.{Ty}
use Rattle.cool_classes.specs.Chains.{Class, class_number}
use Rattle.cool_classes.specs.ClimbedChains.{chain}
use Rattle.cool_classes.specs.Features.{attributes_of}
use Rattle.cool_rules.specs.Rules.{type_meant}
use Rattle.cool_rules.specs.Scopes.{Binding}
use Rattle.cool_rules.specs.StaticTypes.{type_of}
use Rattle.cool_rules.specs.Typing.{with_name, attributes_in_scope, formals_in_scope, int_type, bool_type}

abbrev mutual
  -- the types of the nodes of the parts of an expression of a class, with these names in scope: of each part in order, in its scope, those
  -- of its own parts, and then its own
  pub part_types : List Class → ClassId → List Binding → Tree → List Ty
  part_types p c scope (trees.leaf at form) = []
  part_types p c scope (trees.unary at form t) = part_types p c scope t ++ type_of p c scope t ∷ []
  part_types p c scope (trees.binary at form a b) =
      (part_types p c scope a ++ type_of p c scope a ∷ []) ++ (part_types p c scope b ++ type_of p c scope b ∷ [])
  part_types p c scope (trees.call at form t ts) = (part_types p c scope t ++ type_of p c scope t ∷ []) ++ types_of_all p c scope ts
  part_types p c scope (trees.If at t y n) =
      (part_types p c scope t ++ type_of p c scope t ∷ [])
      ++ (part_types p c scope y ++ type_of p c scope y ∷ [])
      ++ (part_types p c scope n ++ type_of p c scope n ∷ [])
  part_types p c scope (trees.Block at ts) = types_of_all p c scope ts
  part_types p c scope (trees.Let at name declared o t) =
      types_of_maybe p c scope o
      ++ (part_types p c (with_name name (type_meant p declared.name) scope) t
      ++ type_of p c (with_name name (type_meant p declared.name) scope) t ∷ [])
  part_types p c scope (trees.Case at t cs) = (part_types p c scope t ++ type_of p c scope t ∷ []) ++ types_of_cases p c scope cs

  pub types_of_all : List Class → ClassId → List Binding → Trees → List Ty
  types_of_all p c scope Last = []
  types_of_all p c scope (More t ts) = (part_types p c scope t ++ type_of p c scope t ∷ []) ++ types_of_all p c scope ts

  pub types_of_maybe : List Class → ClassId → List Binding → MaybeTree → List Ty
  types_of_maybe p c scope Without = []
  types_of_maybe p c scope (With t) = part_types p c scope t ++ type_of p c scope t ∷ []

  pub types_of_cases : List Class → ClassId → List Binding → Cases → List Ty
  types_of_cases p c scope NoCase = []
  types_of_cases p c scope (CaseOf at name declared t cs) =
      (part_types p c (with_name name (type_meant p declared.name) scope) t
      ++ type_of p c (with_name name (type_meant p declared.name) scope) t ∷ [])
      ++ types_of_cases p c scope cs

-- the types of the nodes of an expression of a class, with these names in scope: those of its parts, and then its own
abbrev pub node_types : List Class → ClassId → List Binding → Tree → List Ty
node_types p c scope t = part_types p c scope t ++ type_of p c scope t ∷ []

-- Features

-- the attributes of a class, with those that it inherits, as names in scope
abbrev pub own_scope : List Class → ClassId → List Binding
own_scope p c = attributes_in_scope p (attributes_of p (chain p c))

-- the types of an initial value, where there is one
abbrev pub initial_types : List Class → ClassId → Option Tree → List Ty
initial_types p c None = []
initial_types p c (Some t) = node_types p c (own_scope p c) t

-- the types of the expression of a feature: the body of a method, or an initial value
abbrev pub feature_types : List Class → ClassId → Feature → List Ty
feature_types p c (Method m) = node_types p c (formals_in_scope p m.formals ++ own_scope p c) m.body
feature_types p c (Attribute a) = initial_types p c a.init

-- the columns of the features of a class, in order
abbrev pub features_types : List Class → ClassId → List Feature → List (List Ty)
features_types p c features = map (feature_types p c) features

-- the columns of classes of a table, from one of this number on
abbrev pub classes_types : List Class → ℕ → List Class → List (List (List Ty))
classes_types p k [] = []
classes_types p k (x ∷ xs) = features_types p (class_number k) x.features ∷ classes_types p (suc k) xs

-- the columns of all classes of a table
abbrev pub table_types : List Class → List (List (List Ty))
table_types p = classes_types p 0 p

-- columns that are held class by class
abbrev pub columns_of : List (Vec (List Ty)) → List (List (List Ty))
columns_of held = map (λ columns. columns.items) held

-- Worked examples: the nodes of `1 + 2 < 3` have the types Int, Int, Int, Int and Bool.
types_of_comparison : (p : List Class) (c : ClassId) (at : Place)
    → node_types p c [] (trees.Compare at Less (trees.Arith at Add (trees.Int at 1) (trees.Int at 2)) (trees.Int at 3))
    ≡ int_type ∷ int_type ∷ int_type ∷ int_type ∷ bool_type ∷ []
types_of_comparison p c at = refl

-- In `let x : T in x` the name has the type that T means, and so has the let.
types_of_let : (p : List Class) (c : ClassId) (at : Place) (declared : TypeRef)
    → node_types p c [] (trees.Let at (codes "x") declared Without (trees.Id at (codes "x")))
    ≡ type_meant p declared.name ∷ type_meant p declared.name ∷ []
types_of_let p c at declared = refl
