-- If the source locations of all tokens of an expression or a feature have a property, all locations in its syntax tree have this property.
use Rattle.std.proofs.Common.{ℕ, List, [], ◌∷◌, ◌++◌, Option, Some, None, true, false}
use Rattle.std.specs.Prelude.{IfSome}
use Rattle.std.specs.List.{AllByRecursion}
use Rattle.cool_syntax.specs.declared.file_tree.Feature.{Feature}
use Rattle.cool_syntax.specs.declared.file_tree.Feature.TheVariants as feature
use Rattle.cool_syntax.specs.declared.place.Place.{Place}
use Rattle.cool_syntax.specs.declared.token.Key.TheVariants as key
use Rattle.cool_syntax.specs.declared.token.Sign.{Sign}
use Rattle.cool_syntax.specs.declared.token.Sign.TheVariants as sign
use Rattle.cool_syntax.specs.declared.token.Token.{Token}
use Rattle.cool_syntax.specs.TokenFacts.{IsPlaced}
use Rattle.cool_syntax.specs.Tree.{Tree, Trees, MaybeTree, Cases, Last, More, Without, With, NoCase, CaseOf, place_of}
use Rattle.cool_syntax.specs.Tree as trees
use Rattle.cool_syntax.specs.TreesWithinLimits.{AreCasesWithin, AreTreesWithin, IsFeatureWithin, IsMaybeWithin, IsTreeWithin}
use Rattle.cool_syntax.specs.ConcreteTrees.{Operator, Arith, Compare, Not, IsVoid, Neg, Int, Str, Truth, Concrete, Name, Literal, New, Paren, Dispatch, If, While, Block, Case, Binary, Before, Callee, OfSelf, Of, OfClass, Args, NoArgs, Given, Parts, NoPart, Then, Branches, NoBranch, Also, Branch, On, Prefix, Let, Assign, Mark, Bindings, NoBinding, Next, Binding, Default, Init, ConcreteFeature, Method, Attribute, Initialized}
use Rattle.cool_syntax.specs.PlainTrees.{operation, plain, plain_call, plain_args, plain_parts, plain_branches, plain_branch, plain_prefix, plain_bindings, plain_binding, plain_feature}
use Rattle.cool_syntax.specs.Readings.{word, symbol, reading, callee_reading, args_reading, parts_reading, branches_reading, branch_reading, prefix_reading, bindings_reading, binding_reading, signature_reading, feature_reading}
use Rattle.lists.proofs.AllItems.{all_left, all_right}

-- the places of an expression and of its parts
abbrev mutual
  pub IsTreeAt : (Place → Type 0) → Tree → Type 0
  IsTreeAt P (trees.New at class) = P at × P class.at
  IsTreeAt P (trees.Id at name) = P at
  IsTreeAt P (trees.Int at value) = P at
  IsTreeAt P (trees.Str at bytes) = P at
  IsTreeAt P (trees.Bool at value) = P at
  IsTreeAt P (trees.unary at form t) = P at × IsTreeAt P t
  IsTreeAt P (trees.binary at form a b) = P at × IsTreeAt P a × IsTreeAt P b
  IsTreeAt P (trees.Dispatch at t name ts) = P at × IsTreeAt P t × AreTreesAt P ts
  IsTreeAt P (trees.StaticDispatch at t class name ts) = P at × IsTreeAt P t × P class.at × AreTreesAt P ts
  IsTreeAt P (trees.If at t y n) = P at × IsTreeAt P t × IsTreeAt P y × IsTreeAt P n
  IsTreeAt P (trees.Block at ts) = P at × AreTreesAt P ts
  IsTreeAt P (trees.Let at name declared o t) = P at × P declared.at × IsMaybeAt P o × IsTreeAt P t
  IsTreeAt P (trees.Case at t cs) = P at × IsTreeAt P t × AreCasesAt P cs

  pub AreTreesAt : (Place → Type 0) → Trees → Type 0
  AreTreesAt P Last = Unit {0}
  AreTreesAt P (More t ts) = IsTreeAt P t × AreTreesAt P ts

  pub IsMaybeAt : (Place → Type 0) → MaybeTree → Type 0
  IsMaybeAt P Without = Unit {0}
  IsMaybeAt P (With t) = IsTreeAt P t

  pub AreCasesAt : (Place → Type 0) → Cases → Type 0
  AreCasesAt P NoCase = Unit {0}
  AreCasesAt P (CaseOf at name declared t cs) = P at × P declared.at × IsTreeAt P t × AreCasesAt P cs

-- the name of a feature, and its expression
abbrev pub IsFeatureAt : (Place → Type 0) → Feature → Type 0
IsFeatureAt P (feature.Method m) = P m.at × IsTreeAt P m.body
IsFeatureAt P (feature.Attribute a) = P a.at × IfSome a.init (IsTreeAt P)

-- the place of an expression is one of its places
pub own_place : (P : Place → Type 0) (t : Tree) → IsTreeAt P t → P (place_of t)
own_place P (trees.Id at name) h = h
own_place P (trees.Int at value) h = h
own_place P (trees.Str at bytes) h = h
own_place P (trees.Bool at value) h = h
own_place P (trees.Dispatch at t name ts) h = h.0
own_place P _ h = h.0

-- Trees within so many files have their places in these

module _ (n : ℕ) where
  mutual
    tree_at : (t : Tree) → IsTreeWithin n t → IsTreeAt (IsPlaced n) t
    tree_at (trees.Assign at name t) h = (h.0, tree_at t h.2)
    tree_at (trees.Dispatch at t name ts) h = (h.0, tree_at t h.1, trees_at ts h.3)
    tree_at (trees.StaticDispatch at t class name ts) h = (h.0, tree_at t h.1, h.2.1, trees_at ts h.4)
    tree_at (trees.If at t y e) h = (h.0, tree_at t h.1, tree_at y h.2, tree_at e h.3)
    tree_at (trees.While at t b) h = (h.0, tree_at t h.1, tree_at b h.2)
    tree_at (trees.Block at ts) h = (h.0, trees_at ts h.1)
    tree_at (trees.Let at name declared o t) h = (h.0, h.2.1, maybe_at o h.3, tree_at t h.4)
    tree_at (trees.Case at t cs) h = (h.0, tree_at t h.1, cases_at cs h.2)
    tree_at (trees.New at class) h = (h.0, h.1.1)
    tree_at (trees.IsVoid at t) h = (h.0, tree_at t h.1)
    tree_at (trees.Arith at op a b) h = (h.0, tree_at a h.1, tree_at b h.2)
    tree_at (trees.Neg at t) h = (h.0, tree_at t h.1)
    tree_at (trees.Compare at op a b) h = (h.0, tree_at a h.1, tree_at b h.2)
    tree_at (trees.Not at t) h = (h.0, tree_at t h.1)
    tree_at (trees.Bool at value) h = h
    tree_at _ h = h.0

    trees_at : (ts : Trees) → AreTreesWithin n ts → AreTreesAt (IsPlaced n) ts
    trees_at Last h = tt
    trees_at (More t ts) h = (tree_at t h.0, trees_at ts h.1)

    maybe_at : (o : MaybeTree) → IsMaybeWithin n o → IsMaybeAt (IsPlaced n) o
    maybe_at Without h = tt
    maybe_at (With t) h = tree_at t h

    cases_at : (cs : Cases) → AreCasesWithin n cs → AreCasesAt (IsPlaced n) cs
    cases_at NoCase h = tt
    cases_at (CaseOf at name declared t cs) h = (h.0, h.2.1, tree_at t h.3, cases_at cs h.4)

  pub feature_within_at : (x : Feature) → IsFeatureWithin n x → IsFeatureAt (IsPlaced n) x
  feature_within_at (feature.Method m) h = (h.0, tree_at m.body h.4)
  feature_within_at (feature.Attribute a) h = (h.0, initial a.init h.3)
    where
      initial : (o : Option Tree) → IfSome o (IsTreeWithin n) → IfSome o (IsTreeAt (IsPlaced n))
      initial None h = tt
      initial (Some t) h = tree_at t h

-- Tokens at such places

module _ (P : Place → Type 0) where
  abbrev All : List Token → Type 0
  All = AllByRecursion (λ (t : Token). P t.at)

  left : (xs ys : List Token) → All (xs ++ ys) → All xs
  left = all_left (λ (t : Token). P t.at)

  right : (xs ys : List Token) → All (xs ++ ys) → All ys
  right = all_right (λ (t : Token). P t.at)

  operation_at : (op : Operator) (at : Place) (a b : Tree) → P at → IsTreeAt P a → IsTreeAt P b → IsTreeAt P (operation op at a b)
  operation_at (Arith op) at a b here h g = (here, h, g)
  operation_at (Compare op) at a b here h g = (here, h, g)

  mutual
    plain_at : (c : Concrete) → All (reading c) → IsTreeAt P (plain c)
    plain_at (Literal (Truth true) at) h = h.0
    plain_at (New at class) h = (h.0, h.1.0)
    plain_at (Paren lparen e rparen) h = plain_at e (left (reading e) _ h.1)
    plain_at (Dispatch callee lparen args rparen) h =
        let all = left (callee_reading callee ++ symbol sign.LParen lparen ∷ args_reading args) _ h in
        call_at callee (plain_args args) (left (callee_reading callee) _ all) (args_at args (right (callee_reading callee) _ all).1)
    plain_at (If at test then_at met else_at unmet fi) h =
        let all = left (reading test ++ word key.Then then_at ∷ reading met ++ word key.Else else_at ∷ reading unmet) _ h.1 in
        let both = left (reading test ++ word key.Then then_at ∷ reading met) _ all in
        let last = right (reading test ++ word key.Then then_at ∷ reading met) _ all in
        (h.0, plain_at test (left (reading test) _ both), plain_at met (right (reading test) _ both).1, plain_at unmet last.1)
    plain_at (While at test loop body pool) h =
        let all = left (reading test ++ word key.Loop loop ∷ reading body) _ h.1 in
        (h.0, plain_at test (left (reading test) _ all), plain_at body (right (reading test) _ all).1)
    plain_at (Block lbrace firsts last semi rbrace) h =
        let all = left (parts_reading sign.Semi firsts ++ reading last) _ h.1 in
        (h.0, parts_at sign.Semi firsts (More (plain last) Last) (left (parts_reading sign.Semi firsts) _ all) (plain_at last (right (parts_reading sign.Semi firsts) _ all), tt))
    plain_at (Case at value of firsts last esac) h =
        let all = left (reading value ++ word key.Of of ∷ branches_reading firsts ++ branch_reading last) _ h.1 in
        let both = left (reading value ++ word key.Of of ∷ branches_reading firsts) _ all in
        let end = right (reading value ++ word key.Of of ∷ branches_reading firsts) _ all in
        (h.0, plain_at value (left (reading value) _ both), branches_at firsts (plain_branch last NoCase) (right (reading value) _ both).1 (branch_at last NoCase end tt))
    plain_at (Binary a op at b) h =
        let behind = right (reading a) _ h in
        operation_at op at (plain a) (plain b) behind.0 (plain_at a (left (reading a) _ h)) (plain_at b behind.1)
    plain_at (Before prefix e) h = prefix_at prefix (plain e) (left (prefix_reading prefix) _ h) (plain_at e (right (prefix_reading prefix) _ h))
    plain_at _ h = h.0

    call_at : (callee : Callee) (args : Trees) → All (callee_reading callee) → AreTreesAt P args → IsTreeAt P (plain_call callee args)
    call_at (OfSelf name at) args h g = (h.0, h.0, g)
    call_at (Of receiver dot name at) args h g = let behind = right (reading receiver) _ h in (behind.1.0, plain_at receiver (left (reading receiver) _ h), g)
    call_at (OfClass receiver mark class dot name at) args h g =
        let behind = right (reading receiver) _ h in (behind.1.1.1.0, plain_at receiver (left (reading receiver) _ h), behind.1.0, g)

    args_at : (args : Args) → All (args_reading args) → AreTreesAt P (plain_args args)
    args_at NoArgs h = tt
    args_at (Given firsts last) h =
        parts_at sign.Comma firsts (More (plain last) Last) (left (parts_reading sign.Comma firsts) _ h) (plain_at last (right (parts_reading sign.Comma firsts) _ h), tt)

    parts_at : (s : Sign) (parts : Parts) (rest : Trees) → All (parts_reading s parts) → AreTreesAt P rest → AreTreesAt P (plain_parts parts rest)
    parts_at s NoPart rest h g = g
    parts_at s (Then before e separator) rest h g =
        let all = left (parts_reading s before ++ reading e) _ h in
        parts_at s before (More (plain e) rest) (left (parts_reading s before) _ all) (plain_at e (right (parts_reading s before) _ all), g)

    branches_at : (branches : Branches) (rest : Cases) → All (branches_reading branches) → AreCasesAt P rest → AreCasesAt P (plain_branches branches rest)
    branches_at NoBranch rest h g = g
    branches_at (Also before branch) rest h g =
        branches_at before (plain_branch branch rest) (left (branches_reading before) _ h) (branch_at branch rest (right (branches_reading before) _ h) g)

    branch_at : (branch : Branch) (rest : Cases) → All (branch_reading branch) → AreCasesAt P rest → AreCasesAt P (plain_branch branch rest)
    branch_at (On v arrow body semi) rest h g = (h.0, h.1.1.0, plain_at body (left (reading body) _ h.1.1.1.1), g)

    prefix_at : (prefix : Prefix) (t : Tree) → All (prefix_reading prefix) → IsTreeAt P t → IsTreeAt P (plain_prefix prefix t)
    prefix_at (Let at firsts last within) t h g =
        let all = left (bindings_reading firsts ++ binding_reading last) _ h.1 in
        bindings_at firsts (plain_binding last t) (left (bindings_reading firsts) _ all) (binding_at last t (right (bindings_reading firsts) _ all) g)
    prefix_at (Mark Not at) t h g = (h.0, g)
    prefix_at _ t h g = (h.0, g)

    bindings_at : (bindings : Bindings) (t : Tree) → All (bindings_reading bindings) → IsTreeAt P t → IsTreeAt P (plain_bindings bindings t)
    bindings_at NoBinding t h g = g
    bindings_at (Next before binding comma) t h g =
        let all = left (bindings_reading before ++ binding_reading binding) _ h in
        bindings_at before (plain_binding binding t) (left (bindings_reading before) _ all) (binding_at binding t (right (bindings_reading before) _ all) g)

    binding_at : (binding : Binding) (t : Tree) → All (binding_reading binding) → IsTreeAt P t → IsTreeAt P (plain_binding binding t)
    binding_at (Default v) t h g = (h.0, h.1.1.0, tt, g)
    binding_at (Init v arrow e) t h g = (h.0, h.1.1.0, plain_at e h.1.1.1.1, g)

  -- the tree of a feature stands where its tokens do
  pub feature_at : (x : ConcreteFeature) → All (feature_reading x) → IsFeatureAt P (plain_feature x)
  feature_at (Method s body rbrace semi) h =
      let all = left (signature_reading s ++ reading body) (symbol sign.RBrace rbrace ∷ symbol sign.Semi semi ∷ []) h in
      (h.0, plain_at body (right (signature_reading s) (reading body) all))
  feature_at (Attribute v semi) h = (h.0, tt)
  feature_at (Initialized v arrow e semi) h = (h.0, plain_at e (left (reading e) _ h.1.1.1.1))
