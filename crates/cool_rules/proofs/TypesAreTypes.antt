-- In a complete class table, the static types of expressions and of their nodes are types of the class table, and so are the types that names denote.
use Rattle.std.proofs.Common.{◌≡◌, ℕ, ◌<◌, List, [], ◌∷◌, ◌++◌, length, Option, Some, None, refl, arith}
use Rattle.std.specs.Prelude.{unwrap_or}
use Rattle.std.specs.List.{AllByRecursion}
use Rattle.cool_syntax.specs.declared.file_tree.Formal.{Formal}
use Rattle.cool_syntax.specs.Tree.{Tree, Trees, MaybeTree, Cases, Last, More, Without, With, NoCase, CaseOf}
use Rattle.cool_syntax.specs.Tree as trees
use Rattle.cool_classes.specs.declared.class_id.ClassId.{ClassId}
use Rattle.cool_classes.specs.declared.class_id.Ty.{Ty}
use Rattle.cool_classes.specs.declared.class_id.Ty.TheVariants.{Class as IsClass, SelfType}
use Rattle.cool_classes.specs.declared.method.AttributeRef.{AttributeRef}
use Rattle.cool_classes.specs.Chains.{Class, class_number}
use Rattle.cool_classes.specs.Features.{result_of, attribute_type}
use Rattle.cool_classes.specs.Tables.{IsWholeTable}
use Rattle.cool_rules.specs.Conformance.{class_of, IsType}
use Rattle.cool_rules.specs.Meant.{joined, method_in, type_of_call}
use Rattle.cool_rules.specs.NodeTypes.{node_types, part_types, types_of_all, types_of_maybe, types_of_cases}
use Rattle.cool_rules.specs.Rules.{join_in, type_meant, type_of_name}
use Rattle.cool_rules.specs.Scopes.{AreTypes, Binding}
use Rattle.cool_rules.specs.StaticTypes.{type_of, last_type_of, cases_type_of}
use Rattle.cool_rules.specs.Typing.{type_in_scope, with_name, object_type, result_on, attributes_in_scope, formals_in_scope}
use Rattle.cool_rules.proofs.RulesDecided.{named_denotes, denotes_type, join_is, conforming_type}
use Rattle.cool_rules.proofs.TypesOfMethods.{basic_there, in_scope}
use Rattle.lists.proofs.AllItems.{all_append}

module _ (p : List Class) (whole : IsWholeTable p) where
  -- the type that a name means
  pub meant_is_type : (name : List ℕ) → IsType p (type_meant p name)
  unfolding type_meant
  meant_is_type name = by (type_of_name p name) refl
    where
      by : (o : Option Ty) → type_of_name p name ≡ o → IsType p (unwrap_or o (IsClass (class_number 0)))
      by None e = basic_there p whole 0 (omega arith)
      by (Some t) e = denotes_type p whole name t (named_denotes p whole name t e)

  -- formals and attributes
  pub formals_are_types : (fs : List Formal) → AreTypes p (formals_in_scope p fs)
  formals_are_types [] = tt
  formals_are_types (f ∷ fs) = (meant_is_type f.declared.name, formals_are_types fs)

  pub attributes_are_types : (rs : List AttributeRef) → AreTypes p (attributes_in_scope p rs)
  attributes_are_types [] = tt
  attributes_are_types (r ∷ rs) = (meant_is_type (attribute_type p r), attributes_are_types rs)

  module _ (c : ClassId) (within : c.0 < length p) where
    -- names, calls and joins
    named : (scope : List Binding) (name : List ℕ) → AreTypes p scope → IsType p (unwrap_or (type_in_scope scope name) object_type)
    named scope name h = by (type_in_scope scope name) refl
      where
        by : (o : Option Ty) → type_in_scope scope name ≡ o → IsType p (unwrap_or o object_type)
        by None e = basic_there p whole 0 (omega arith)
        by (Some t) e = in_scope p whole c within scope name t h e

    result_is_type : (receiver result : Ty) → IsType p receiver → IsType p result → IsType p (result_on receiver result)
    result_is_type receiver (IsClass d) h g = g
    result_is_type receiver SelfType h g = h

    call_is_type : (k : ClassId) (receiver : Ty) (name : List ℕ) → IsType p receiver → IsType p (type_of_call p k receiver name)
    call_is_type k receiver name h = result_is_type receiver (type_meant p (result_of p (method_in p k name))) h (meant_is_type (result_of p (method_in p k name)))

    join_is_type : (a b : Ty) → IsType p a → IsType p b → IsType p (join_in p c a b)
    join_is_type a b h g = conforming_type p whole c a (join_in p c a b) within h (join_is p whole c a b within h g).left

    joined_is_type : (o : Option Ty) (t : Ty) → IsType p (unwrap_or o object_type) → IsType p t → IsType p (joined p c o t)
    joined_is_type None t h g = g
    joined_is_type (Some u) t h g = join_is_type u t h g

    mutual
      -- the type of an expression
      pub type_is_type : (t : Tree) (scope : List Binding) → AreTypes p scope → IsType p (type_of p c scope t)
      type_is_type (trees.Assign at name t) scope h = type_is_type t scope h
      type_is_type (trees.Dispatch at t name ts) scope h = call_is_type (class_of c (type_of p c scope t)) (type_of p c scope t) name (type_is_type t scope h)
      type_is_type (trees.StaticDispatch at t class name ts) scope h = call_is_type (class_of c (type_meant p class.name)) (type_of p c scope t) name (type_is_type t scope h)
      type_is_type (trees.If at t y n) scope h = join_is_type (type_of p c scope y) (type_of p c scope n) (type_is_type y scope h) (type_is_type n scope h)
      type_is_type (trees.While at t b) scope h = basic_there p whole 0 (omega arith)
      type_is_type (trees.Block at ts) scope h = last_is_type ts scope object_type h (basic_there p whole 0 (omega arith))
      type_is_type (trees.Let at name declared o t) scope h = type_is_type t (with_name name (type_meant p declared.name) scope) (meant_is_type declared.name, h)
      type_is_type (trees.Case at t cs) scope h = branches_are_types cs scope None h (basic_there p whole 0 (omega arith))
      type_is_type (trees.New at class) scope h = meant_is_type class.name
      type_is_type (trees.IsVoid at t) scope h = basic_there p whole 3 (omega arith)
      type_is_type (trees.Arith at op a b) scope h = basic_there p whole 2 (omega arith)
      type_is_type (trees.Neg at t) scope h = basic_there p whole 2 (omega arith)
      type_is_type (trees.Compare at op a b) scope h = basic_there p whole 3 (omega arith)
      type_is_type (trees.Not at t) scope h = basic_there p whole 3 (omega arith)
      type_is_type (trees.Id at name) scope h = named scope name h
      type_is_type (trees.Int at value) scope h = basic_there p whole 2 (omega arith)
      type_is_type (trees.Str at bytes) scope h = basic_there p whole 4 (omega arith)
      type_is_type (trees.Bool at value) scope h = basic_there p whole 3 (omega arith)

      last_is_type : (ts : Trees) (scope : List Binding) (last : Ty) → AreTypes p scope → IsType p last → IsType p (last_type_of p c scope last ts)
      last_is_type Last scope last h g = g
      last_is_type (More t ts) scope last h g = last_is_type ts scope (type_of p c scope t) h (type_is_type t scope h)

      branches_are_types : (cs : Cases) (scope : List Binding) (join : Option Ty) → AreTypes p scope → IsType p (unwrap_or join object_type) → IsType p (unwrap_or (cases_type_of p c scope join cs) object_type)
      branches_are_types NoCase scope join h g = g
      branches_are_types (CaseOf at name declared t cs) scope join h g =
          let inner = type_is_type t (with_name name (type_meant p declared.name) scope) (meant_is_type declared.name, h) in
          branches_are_types cs scope (Some (joined p c join (type_of p c (with_name name (type_meant p declared.name) scope) t))) h (joined_is_type join (type_of p c (with_name name (type_meant p declared.name) scope) t) g inner)

    -- both of two lists
    both : (xs ys : List Ty) → AllByRecursion (IsType p) xs → AllByRecursion (IsType p) ys → AllByRecursion (IsType p) (xs ++ ys)
    both xs ys h g = all_append (IsType p) xs ys h g

    -- the type of a node after those of its parts
    with_own : (t : Tree) (scope : List Binding) → AreTypes p scope → AllByRecursion (IsType p) (part_types p c scope t) → AllByRecursion (IsType p) (node_types p c scope t)
    with_own t scope h g = both (part_types p c scope t) (type_of p c scope t ∷ []) g (type_is_type t scope h, tt)

    mutual
      parts_are_types : (t : Tree) (scope : List Binding) → AreTypes p scope → AllByRecursion (IsType p) (part_types p c scope t)
      parts_are_types (trees.leaf at form) scope h = tt
      parts_are_types (trees.unary at form t) scope h = with_own t scope h (parts_are_types t scope h)
      parts_are_types (trees.binary at form a b) scope h = both (node_types p c scope a) (node_types p c scope b) (with_own a scope h (parts_are_types a scope h)) (with_own b scope h (parts_are_types b scope h))
      parts_are_types (trees.call at form t ts) scope h = both (node_types p c scope t) (types_of_all p c scope ts) (with_own t scope h (parts_are_types t scope h)) (all_are_types ts scope h)
      parts_are_types (trees.If at t y n) scope h =
          both (node_types p c scope t ++ node_types p c scope y) (node_types p c scope n)
          (both (node_types p c scope t) (node_types p c scope y) (with_own t scope h (parts_are_types t scope h)) (with_own y scope h (parts_are_types y scope h)))
          (with_own n scope h (parts_are_types n scope h))
      parts_are_types (trees.Block at ts) scope h = all_are_types ts scope h
      parts_are_types (trees.Let at name declared o t) scope h =
          let inner = with_own t (with_name name (type_meant p declared.name) scope) (meant_is_type declared.name, h) (parts_are_types t (with_name name (type_meant p declared.name) scope) (meant_is_type declared.name, h)) in
          both (types_of_maybe p c scope o) (node_types p c (with_name name (type_meant p declared.name) scope) t) (maybe_are_types o scope h) inner
      parts_are_types (trees.Case at t cs) scope h = both (node_types p c scope t) (types_of_cases p c scope cs) (with_own t scope h (parts_are_types t scope h)) (cases_are_types cs scope h)

      all_are_types : (ts : Trees) (scope : List Binding) → AreTypes p scope → AllByRecursion (IsType p) (types_of_all p c scope ts)
      all_are_types Last scope h = tt
      all_are_types (More t ts) scope h = both (node_types p c scope t) (types_of_all p c scope ts) (with_own t scope h (parts_are_types t scope h)) (all_are_types ts scope h)

      maybe_are_types : (o : MaybeTree) (scope : List Binding) → AreTypes p scope → AllByRecursion (IsType p) (types_of_maybe p c scope o)
      maybe_are_types Without scope h = tt
      maybe_are_types (With t) scope h = with_own t scope h (parts_are_types t scope h)

      cases_are_types : (cs : Cases) (scope : List Binding) → AreTypes p scope → AllByRecursion (IsType p) (types_of_cases p c scope cs)
      cases_are_types NoCase scope h = tt
      cases_are_types (CaseOf at name declared t cs) scope h =
          let inner = with_own t (with_name name (type_meant p declared.name) scope) (meant_is_type declared.name, h) (parts_are_types t (with_name name (type_meant p declared.name) scope) (meant_is_type declared.name, h)) in
          both (node_types p c (with_name name (type_meant p declared.name) scope) t) (types_of_cases p c scope cs) inner (cases_are_types cs scope h)

    -- the types of the nodes of an expression
    pub types_are_types : (t : Tree) (scope : List Binding) → AreTypes p scope → AllByRecursion (IsType p) (node_types p c scope t)
    types_are_types t scope h = with_own t scope h (parts_are_types t scope h)
