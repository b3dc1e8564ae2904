-- Two scopes in which each name has the same type give each expression and each of its nodes the same static type.
use Rattle.std.proofs.Common.{◌≡◌, List, [], ◌∷◌, ◌++◌, Option, Some, None, refl, ◌∙◌, ap}
use Rattle.std.specs.Prelude.{if◌then◌else◌, bytes_eq, codes, unwrap_or}
use Rattle.cool_syntax.specs.Tree.{Tree, Trees, MaybeTree, Cases, Last, More, Without, With, NoCase, CaseOf}
use Rattle.cool_syntax.specs.Tree as trees
use Rattle.cool_classes.specs.declared.class_id.ClassId.{ClassId}
use Rattle.cool_classes.specs.declared.class_id.Ty.{Ty}
use Rattle.cool_classes.specs.declared.class_id.Ty.TheVariants.{SelfType}
use Rattle.cool_classes.specs.Chains.{Class}
use Rattle.cool_rules.specs.Conformance.{class_of}
use Rattle.cool_rules.specs.Meant.{joined, type_of_call}
use Rattle.cool_rules.specs.NodeTypes.{node_types, part_types, types_of_all, types_of_maybe, types_of_cases}
use Rattle.cool_rules.specs.Rules.{join_in, type_meant}
use Rattle.cool_rules.specs.Scopes.{Binding}
use Rattle.cool_rules.specs.StaticTypes.{type_of, last_type_of, cases_type_of}
use Rattle.cool_rules.specs.Typing.{object_type, with_name}
use Rattle.cool_rules.proofs.ScopesMoved.{AreSame, same_with}

module _ (p : List Class) (c : ClassId) where
  mutual
    -- the type of an expression
    type_same_in : (t : Tree) (s1 s2 : List Binding) → AreSame s1 s2 → type_of p c s1 t ≡ type_of p c s2 t
    type_same_in (trees.Assign at name t) s1 s2 h = type_same_in t s1 s2 h
    type_same_in (trees.Dispatch at t name ts) s1 s2 h = ap (λ (x : Ty). type_of_call p (class_of c x) x name) (type_same_in t s1 s2 h)
    type_same_in (trees.StaticDispatch at t class name ts) s1 s2 h = ap (λ (x : Ty). type_of_call p (class_of c (type_meant p class.name)) x name) (type_same_in t s1 s2 h)
    type_same_in (trees.If at t y n) s1 s2 h = λ i. join_in p c (type_same_in y s1 s2 h i) (type_same_in n s1 s2 h i)
    type_same_in (trees.Block at ts) s1 s2 h = last_same ts s1 s2 object_type h
    type_same_in (trees.Let at name declared o t) s1 s2 h =
        type_same_in t (with_name name (type_meant p declared.name) s1) (with_name name (type_meant p declared.name) s2) (same_with name (type_meant p declared.name) s1 s2 h)
    type_same_in (trees.Case at t cs) s1 s2 h = ap (λ (o : Option Ty). unwrap_or o object_type) (branches_same cs s1 s2 None h)
    type_same_in (trees.Id at name) s1 s2 h = ap (λ (o : Option Ty). unwrap_or (if bytes_eq name (codes "self") then Some SelfType else o) object_type) (h name)
    type_same_in (trees.While at t b) s1 s2 h = refl
    type_same_in _ s1 s2 h = refl

    last_same : (ts : Trees) (s1 s2 : List Binding) (last : Ty) → AreSame s1 s2 → last_type_of p c s1 last ts ≡ last_type_of p c s2 last ts
    last_same Last s1 s2 last h = refl
    last_same (More t ts) s1 s2 last h = ap (λ (x : Ty). last_type_of p c s1 x ts) (type_same_in t s1 s2 h) ∙ last_same ts s1 s2 (type_of p c s2 t) h

    branches_same : (cs : Cases) (s1 s2 : List Binding) (join : Option Ty) → AreSame s1 s2 → cases_type_of p c s1 join cs ≡ cases_type_of p c s2 join cs
    branches_same NoCase s1 s2 join h = refl
    branches_same (CaseOf at name declared t cs) s1 s2 join h =
        ap (λ (x : Ty). cases_type_of p c s1 (Some (joined p c join x)) cs)
        (type_same_in t (with_name name (type_meant p declared.name) s1) (with_name name (type_meant p declared.name) s2) (same_with name (type_meant p declared.name) s1 s2 h))
        ∙ branches_same cs s1 s2 (Some (joined p c join (type_of p c (with_name name (type_meant p declared.name) s2) t))) h

  -- the type of a node after those of its parts
  with_own : (t : Tree) (s1 s2 : List Binding) → AreSame s1 s2 → part_types p c s1 t ≡ part_types p c s2 t → node_types p c s1 t ≡ node_types p c s2 t
  with_own t s1 s2 h e = λ i. e i ++ type_same_in t s1 s2 h i ∷ []

  mutual
    parts_same : (t : Tree) (s1 s2 : List Binding) → AreSame s1 s2 → part_types p c s1 t ≡ part_types p c s2 t
    parts_same (trees.leaf at form) s1 s2 h = refl
    parts_same (trees.unary at form t) s1 s2 h = with_own t s1 s2 h (parts_same t s1 s2 h)
    parts_same (trees.binary at form a b) s1 s2 h = λ i. with_own a s1 s2 h (parts_same a s1 s2 h) i ++ with_own b s1 s2 h (parts_same b s1 s2 h) i
    parts_same (trees.call at form t ts) s1 s2 h = λ i. with_own t s1 s2 h (parts_same t s1 s2 h) i ++ all_same ts s1 s2 h i
    parts_same (trees.If at t y n) s1 s2 h =
        λ i. with_own t s1 s2 h (parts_same t s1 s2 h) i ++ with_own y s1 s2 h (parts_same y s1 s2 h) i ++ with_own n s1 s2 h (parts_same n s1 s2 h) i
    parts_same (trees.Block at ts) s1 s2 h = all_same ts s1 s2 h
    parts_same (trees.Let at name declared o t) s1 s2 h =
        let within = same_with name (type_meant p declared.name) s1 s2 h in
        let inner = with_own t (with_name name (type_meant p declared.name) s1) (with_name name (type_meant p declared.name) s2) within
        (parts_same t (with_name name (type_meant p declared.name) s1) (with_name name (type_meant p declared.name) s2) within) in
        λ i. maybe_same o s1 s2 h i ++ inner i
    parts_same (trees.Case at t cs) s1 s2 h = λ i. with_own t s1 s2 h (parts_same t s1 s2 h) i ++ cases_same cs s1 s2 h i

    all_same : (ts : Trees) (s1 s2 : List Binding) → AreSame s1 s2 → types_of_all p c s1 ts ≡ types_of_all p c s2 ts
    all_same Last s1 s2 h = refl
    all_same (More t ts) s1 s2 h = λ i. with_own t s1 s2 h (parts_same t s1 s2 h) i ++ all_same ts s1 s2 h i

    maybe_same : (o : MaybeTree) (s1 s2 : List Binding) → AreSame s1 s2 → types_of_maybe p c s1 o ≡ types_of_maybe p c s2 o
    maybe_same Without s1 s2 h = refl
    maybe_same (With t) s1 s2 h = with_own t s1 s2 h (parts_same t s1 s2 h)

    cases_same : (cs : Cases) (s1 s2 : List Binding) → AreSame s1 s2 → types_of_cases p c s1 cs ≡ types_of_cases p c s2 cs
    cases_same NoCase s1 s2 h = refl
    cases_same (CaseOf at name declared t cs) s1 s2 h =
        let within = same_with name (type_meant p declared.name) s1 s2 h in
        let inner = with_own t (with_name name (type_meant p declared.name) s1) (with_name name (type_meant p declared.name) s2) within
        (parts_same t (with_name name (type_meant p declared.name) s1) (with_name name (type_meant p declared.name) s2) within) in
        λ i. inner i ++ cases_same cs s1 s2 h i

  -- the types of the nodes of an expression
  pub types_same : (t : Tree) (s1 s2 : List Binding) → AreSame s1 s2 → node_types p c s1 t ≡ node_types p c s2 t
  types_same t s1 s2 h = with_own t s1 s2 h (parts_same t s1 s2 h)
