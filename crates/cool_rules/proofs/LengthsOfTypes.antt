-- The list of the types of an expression's nodes has one type for each node.
use Rattle.std.proofs.Common.{◌≡◌, ◌+◌, List, [], ◌∷◌, length, refl, ◌∙◌, length-append, arith}
use Rattle.cool_syntax.specs.Tree.{Tree, Trees, MaybeTree, Cases, Last, More, Without, With, NoCase, CaseOf, tree_size, trees_size, maybe_size, cases_size}
use Rattle.cool_syntax.specs.Tree as trees
use Rattle.cool_classes.specs.declared.class_id.ClassId.{ClassId}
use Rattle.cool_classes.specs.Chains.{Class}
use Rattle.cool_rules.specs.NodeTypes.{node_types, part_types, types_of_all, types_of_maybe, types_of_cases}
use Rattle.cool_rules.specs.Rules.{type_meant}
use Rattle.cool_rules.specs.Scopes.{Binding}
use Rattle.cool_rules.specs.StaticTypes.{type_of}
use Rattle.cool_rules.specs.Typing.{with_name}

module _ (p : List Class) (c : ClassId) where
  -- its own type comes after those of its parts
  with_own : (scope : List Binding) (t : Tree) → length (part_types p c scope t) + 1 ≡ tree_size t → length (node_types p c scope t) ≡ tree_size t
  with_own scope t parts = length-append (part_types p c scope t) (type_of p c scope t ∷ []) ∙ parts

  mutual
    length-part_types : (t : Tree) (scope : List Binding) → length (part_types p c scope t) + 1 ≡ tree_size t
    length-part_types (trees.leaf at form) scope = refl
    length-part_types (trees.unary at form t) scope = simp length-append (omega (arith, length-part_types t scope))
    length-part_types (trees.binary at form a b) scope = simp length-append (omega (arith, length-part_types a scope, length-part_types b scope))
    length-part_types (trees.call at form t ts) scope = simp length-append (omega (arith, length-part_types t scope, length_of_all ts scope))
    length-part_types (trees.If at t y n) scope =
        simp length-append (omega (arith, length-part_types t scope, length-part_types y scope, length-part_types n scope))
    length-part_types (trees.Block at ts) scope = omega (arith, length_of_all ts scope)
    length-part_types (trees.Let at name declared o t) scope =
        simp length-append (omega (arith, length_of_maybe o scope, length-part_types t (with_name name (type_meant p declared.name) scope)))
    length-part_types (trees.Case at t cs) scope = simp length-append (omega (arith, length-part_types t scope, length_of_cases cs scope))

    length_of_all : (ts : Trees) (scope : List Binding) → length (types_of_all p c scope ts) ≡ trees_size ts
    length_of_all Last scope = refl
    length_of_all (More t ts) scope = simp length-append (omega (arith, length-part_types t scope, length_of_all ts scope))

    length_of_maybe : (o : MaybeTree) (scope : List Binding) → length (types_of_maybe p c scope o) ≡ maybe_size o
    length_of_maybe Without scope = refl
    length_of_maybe (With t) scope = with_own scope t (length-part_types t scope)

    length_of_cases : (cs : Cases) (scope : List Binding) → length (types_of_cases p c scope cs) ≡ cases_size cs
    length_of_cases NoCase scope = refl
    length_of_cases (CaseOf at name declared t cs) scope =
        simp length-append (omega (arith, length-part_types t (with_name name (type_meant p declared.name) scope), length_of_cases cs scope))

  pub length-node_types : (scope : List Binding) (t : Tree) → length (node_types p c scope t) ≡ tree_size t
  length-node_types scope t = with_own scope t (length-part_types t scope)

  length-types_of_all : (scope : List Binding) (ts : Trees) → length (types_of_all p c scope ts) ≡ trees_size ts
  length-types_of_all scope ts = length_of_all ts scope

  pub length-types_of_maybe : (scope : List Binding) (o : MaybeTree) → length (types_of_maybe p c scope o) ≡ maybe_size o
  length-types_of_maybe scope o = length_of_maybe o scope

  length-types_of_cases : (scope : List Binding) (cs : Cases) → length (types_of_cases p c scope cs) ≡ cases_size cs
  length-types_of_cases scope cs = length_of_cases cs scope
