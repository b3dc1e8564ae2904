-- A folded expression has no more nodes and no more branches than the original one, and its string constants have no more bytes.
use Rattle.std.proofs.Common.{◌≡◌, ℕ, ◌+◌, ◌≤◌, ℤ, neg_ℤ, List, Option, Some, None, Bool as Truth, true, false, refl, sym, subst, arith}
use Rattle.std.specs.Prelude.{int_lt, int_le, if◌then◌else◌}
use Rattle.cool_syntax.specs.declared.place.Place.{Place}
use Rattle.cool_syntax.specs.declared.operator.ArithOp.{ArithOp}
use Rattle.cool_syntax.specs.declared.operator.CompareOp.{CompareOp}
use Rattle.cool_syntax.specs.declared.operator.CompareOp.TheVariants.{Less, LessEqual, Equal}
use Rattle.cool_syntax.specs.FeatureSizes.{branches_in, branches_in_all, branches_in_maybe, branches_of}
use Rattle.cool_syntax.specs.Tree.{Tree, Trees, MaybeTree, Cases, Last, More, Without, With, NoCase, CaseOf, tree_size, trees_size, maybe_size, cases_size}
use Rattle.cool_syntax.specs.Tree as trees
use Rattle.cool_syntax.specs.Weights.{text_in, text_in_all, text_in_maybe, text_in_cases}
use Rattle.cool_classes.specs.declared.class_id.ClassId.{ClassId}
use Rattle.cool_classes.specs.Chains.{Class, name_of}
use Rattle.cool_rules.specs.Conformance.{class_of}
use Rattle.cool_rules.specs.Rules.{same_type, type_meant}
use Rattle.cool_rules.specs.Scopes.{Binding}
use Rattle.cool_rules.specs.Typing.{with_name}
use Rattle.cool_meaning.specs.Values.{Value}
use Rattle.cool_meaning.specs.Evaluation.{same}
use Rattle.cool_rules.specs.StaticTypes.{type_of}
use Rattle.cool_fold.specs.Folding.{constant_in, number_in, truth_in, one_sort, exactly, result, number_or, arith_by, neg_by, less_by, equal_by, compare_by, not_by, is_void_by, if_by, is_redefined, dispatch_by, fold, fold_all, fold_maybe, fold_cases}

-- the nodes and the branches of a tree, and the bytes of its string constants
pub record Size : Type 0 where
  pub nodes : ℕ
  pub branches : ℕ
  pub text : ℕ

abbrev pub size_of : Tree → Size
size_of e = record { nodes = tree_size e; branches = branches_in e; text = text_in e }

abbrev size_of_all : Trees → Size
size_of_all es = record { nodes = trees_size es; branches = branches_in_all es; text = text_in_all es }

abbrev size_of_maybe : MaybeTree → Size
size_of_maybe o = record { nodes = maybe_size o; branches = branches_in_maybe o; text = text_in_maybe o }

abbrev size_of_cases : Cases → Size
size_of_cases cs = record { nodes = cases_size cs; branches = branches_of cs; text = text_in_cases cs }

pub record AtMost (x y : Size) : Type 0 where
  pub nodes : x.nodes ≤ y.nodes
  pub branches : x.branches ≤ y.branches
  pub text : x.text ≤ y.text

-- Sizes of parts together, and of a node over its parts

abbrev both : Size → Size → Size
both x y = record { nodes = x.nodes + y.nodes; branches = x.branches + y.branches; text = x.text + y.text }

abbrev over : Size → Size
over x = record { nodes = x.nodes + 1; branches = x.branches; text = x.text }

same_most : (x : Size) → AtMost x x
same_most x = record { nodes = omega arith; branches = omega arith; text = omega arith }

both_most : {x x' y y' : Size} → AtMost x x' → AtMost y y' → AtMost (both x y) (both x' y')
both_most h k = record {
  nodes = let a = h.nodes in let b = k.nodes in omega arith;
  branches = let a = h.branches in let b = k.branches in omega arith;
  text = let a = h.text in let b = k.text in omega arith;
}

over_most : {x x' : Size} → AtMost x x' → AtMost (over x) (over x')
over_most h = record { nodes = (let a = h.nodes in omega arith); branches = h.branches; text = h.text }

-- a size at most that of a node over small parts is at most that of one over greater parts
then_most : {row x x' : Size} → AtMost x x' → AtMost row (over x) → AtMost row (over x')
then_most h k = record {
  nodes = let a = h.nodes in let b = k.nodes in omega arith;
  branches = let a = h.branches in let b = k.branches in omega arith;
  text = let a = h.text in let b = k.text in omega arith;
}

-- one more branch
branch_most : {x x' y y' : Size} → AtMost x x' → AtMost y y'
    → AtMost (both (record x { branches = 1 + x.branches }) y) (both (record x' { branches = 1 + x'.branches }) y')
branch_most h k = record {
  nodes = let a = h.nodes in let b = k.nodes in omega arith;
  branches = let a = h.branches in let b = k.branches in omega arith;
  text = let a = h.text in let b = k.text in omega arith;
}

-- a constant without text is no larger than any node; nor is a part
leaf_most : (x : Size) → AtMost (record { nodes = 1; branches = 0; text = 0 }) (over x)
leaf_most x = record { nodes = omega arith; branches = omega arith; text = omega arith }

first_most : (t y n : Size) → AtMost y (over (both (both t y) n))
first_most t y n = record { nodes = omega arith; branches = omega arith; text = omega arith }

second_most : (t y n : Size) → AtMost n (over (both (both t y) n))
second_most t y n = record { nodes = omega arith; branches = omega arith; text = omega arith }

-- The rows

number_most : (t : Tree) (at : Place) (x : Size) (o : Option ℤ) → size_of t ≡ over x → AtMost (size_of (number_or t at o)) (over x)
number_most t at x None is = subst (λ (y : Size). AtMost y (over x)) (sym is) (same_most (over x))
number_most t at x (Some n) is = leaf_most x

arith_most : (at : Place) (op : ArithOp) (a b : Tree) (m n : Option ℤ)
    → AtMost (size_of (arith_by at op a b m n)) (over (both (size_of a) (size_of b)))
arith_most at op a b None n = same_most (over (both (size_of a) (size_of b)))
arith_most at op a b (Some m) None = same_most (over (both (size_of a) (size_of b)))
arith_most at op a b (Some m) (Some n) = number_most (trees.Arith at op a b) at (both (size_of a) (size_of b)) (result op m n) refl

neg_most : (at : Place) (a : Tree) (n : Option ℤ) → AtMost (size_of (neg_by at a n)) (over (size_of a))
neg_most at a None = same_most (over (size_of a))
neg_most at a (Some n) = number_most (trees.Neg at a) at (size_of a) (exactly (neg_ℤ n)) refl

less_most : (f : ℤ → ℤ → Truth) (at : Place) (op : CompareOp) (a b : Tree) (m n : Option ℤ)
    → AtMost (size_of (less_by f at op a b m n)) (over (both (size_of a) (size_of b)))
less_most f at op a b None n = same_most (over (both (size_of a) (size_of b)))
less_most f at op a b (Some m) None = same_most (over (both (size_of a) (size_of b)))
less_most f at op a b (Some m) (Some n) = leaf_most (both (size_of a) (size_of b))

equal_most : (at : Place) (a b : Tree) (v w : Option Value) → AtMost (size_of (equal_by at a b v w)) (over (both (size_of a) (size_of b)))
equal_most at a b None w = same_most (over (both (size_of a) (size_of b)))
equal_most at a b (Some v) None = same_most (over (both (size_of a) (size_of b)))
equal_most at a b (Some v) (Some w) = by (one_sort v w)
  where
    by : (x : Truth) → AtMost (size_of (if x then trees.Bool at (same v w) else trees.Compare at Equal a b)) (over (both (size_of a) (size_of b)))
    by true = leaf_most (both (size_of a) (size_of b))
    by false = same_most (over (both (size_of a) (size_of b)))

compare_most : (at : Place) (op : CompareOp) (a b : Tree) → AtMost (size_of (compare_by at op a b)) (over (both (size_of a) (size_of b)))
compare_most at Less a b = less_most int_lt at Less a b (number_in (constant_in a)) (number_in (constant_in b))
compare_most at LessEqual a b = less_most int_le at LessEqual a b (number_in (constant_in a)) (number_in (constant_in b))
compare_most at Equal a b = equal_most at a b (constant_in a) (constant_in b)

not_most : (at : Place) (a : Tree) (o : Option Truth) → AtMost (size_of (not_by at a o)) (over (size_of a))
not_most at a None = same_most (over (size_of a))
not_most at a (Some b) = leaf_most (size_of a)

void_most : (at : Place) (a : Tree) (o : Option Value) → AtMost (size_of (is_void_by at a o)) (over (size_of a))
void_most at a None = same_most (over (size_of a))
void_most at a (Some v) = leaf_most (size_of a)

module _ (p : List Class) (c : ClassId) where
  if_most : (scope : List Binding) (at : Place) (e y n : Tree) (o : Option Truth)
      → AtMost (size_of (if_by p c scope at e y n o)) (over (both (both (size_of e) (size_of y)) (size_of n)))
  if_most scope at e y n o = by o
    where
      taken : (x : Truth) (part : Tree) → AtMost (size_of part) (over (both (both (size_of e) (size_of y)) (size_of n)))
          → AtMost (size_of (if x then part else trees.If at e y n)) (over (both (both (size_of e) (size_of y)) (size_of n)))
      taken true part h = h
      taken false part h = same_most (over (both (both (size_of e) (size_of y)) (size_of n)))

      by : (o : Option Truth) → AtMost (size_of (if_by p c scope at e y n o)) (over (both (both (size_of e) (size_of y)) (size_of n)))
      by None = same_most (over (both (both (size_of e) (size_of y)) (size_of n)))
      by (Some true) =
          taken (same_type (type_of p c scope y) (type_of p c scope (trees.If at e y n))) y (first_most (size_of e) (size_of y) (size_of n))
      by (Some false) =
          taken (same_type (type_of p c scope n) (type_of p c scope (trees.If at e y n))) n (second_most (size_of e) (size_of y) (size_of n))

  dispatch_most : (k : ClassId) (at : Place) (e : Tree) (name : List ℕ) (es : Trees)
      → AtMost (size_of (dispatch_by p k at e name es)) (over (both (size_of e) (size_of_all es)))
  dispatch_most k at e name es = by (is_redefined p k name)
    where
      by : (x : Truth)
          → AtMost (size_of (if x then trees.Dispatch at e name es else trees.StaticDispatch at e (record { name = name_of p k; at = at }) name es))
          (over (both (size_of e) (size_of_all es)))
      by true = same_most (over (both (size_of e) (size_of_all es)))
      by false = same_most (over (both (size_of e) (size_of_all es)))

  mutual
    pub folded_most : (e : Tree) (scope : List Binding) → AtMost (size_of (fold p c scope e)) (size_of e)
    folded_most (trees.Assign at name e) scope = over_most (folded_most e scope)
    folded_most (trees.Dispatch at e name es) scope =
        then_most (both_most (folded_most e scope) (all_most es scope))
        (dispatch_most (class_of c (type_of p c scope e)) at (fold p c scope e) name (fold_all p c scope es))
    folded_most (trees.StaticDispatch at e class name es) scope = over_most (both_most (folded_most e scope) (all_most es scope))
    folded_most (trees.If at e y n) scope =
        then_most (both_most (both_most (folded_most e scope) (folded_most y scope)) (folded_most n scope))
        (if_most scope at (fold p c scope e) (fold p c scope y) (fold p c scope n) (truth_in (constant_in (fold p c scope e))))
    folded_most (trees.While at e b) scope = over_most (both_most (folded_most e scope) (folded_most b scope))
    folded_most (trees.Block at es) scope = over_most (all_most es scope)
    folded_most (trees.Let at name declared o e) scope =
        over_most (both_most (maybe_most o scope) (folded_most e (with_name name (type_meant p declared.name) scope)))
    folded_most (trees.Case at e cs) scope = over_most (both_most (folded_most e scope) (cases_most cs scope))
    folded_most (trees.IsVoid at e) scope = then_most (folded_most e scope) (void_most at (fold p c scope e) (constant_in (fold p c scope e)))
    folded_most (trees.Not at e) scope = then_most (folded_most e scope) (not_most at (fold p c scope e) (truth_in (constant_in (fold p c scope e))))
    folded_most (trees.Neg at e) scope = then_most (folded_most e scope) (neg_most at (fold p c scope e) (number_in (constant_in (fold p c scope e))))
    folded_most (trees.Arith at op a b) scope =
        then_most (both_most (folded_most a scope) (folded_most b scope))
        (arith_most at op (fold p c scope a) (fold p c scope b) (number_in (constant_in (fold p c scope a)))
        (number_in (constant_in (fold p c scope b))))
    folded_most (trees.Compare at op a b) scope =
        then_most (both_most (folded_most a scope) (folded_most b scope)) (compare_most at op (fold p c scope a) (fold p c scope b))
    folded_most e scope = same_most (size_of e)

    all_most : (es : Trees) (scope : List Binding) → AtMost (size_of_all (fold_all p c scope es)) (size_of_all es)
    all_most Last scope = same_most (size_of_all Last)
    all_most (More e es) scope = both_most (folded_most e scope) (all_most es scope)

    maybe_most : (o : MaybeTree) (scope : List Binding) → AtMost (size_of_maybe (fold_maybe p c scope o)) (size_of_maybe o)
    maybe_most Without scope = same_most (size_of_maybe Without)
    maybe_most (With e) scope = folded_most e scope

    cases_most : (cs : Cases) (scope : List Binding) → AtMost (size_of_cases (fold_cases p c scope cs)) (size_of_cases cs)
    cases_most NoCase scope = same_most (size_of_cases NoCase)
    cases_most (CaseOf at name declared e cs) scope =
        branch_most (folded_most e (with_name name (type_meant p declared.name) scope)) (cases_most cs scope)
