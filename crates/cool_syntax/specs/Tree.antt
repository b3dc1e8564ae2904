-- `Tree` defines the abstract syntax trees of expressions, by the forms of the Cool manual (section 11), as plain data without pointers.
use Rattle.std.specs.Prelude.{ℕ, ◌+◌, Bool as Truth, List, [], ◌∷◌, Option, Some, None}
use Rattle.cool_syntax.specs.declared.place.Place.{Place}
use Rattle.cool_syntax.specs.declared.type_ref.TypeRef.{TypeRef}
use Rattle.cool_syntax.specs.declared.operator.ArithOp.{ArithOp}
use Rattle.cool_syntax.specs.declared.operator.CompareOp.{CompareOp}

-- a form without parts
pub data Leaf : Type 0 where
  new : (class : TypeRef) → Leaf
  id : (name : List ℕ) → Leaf
  int : (value : ℕ) → Leaf
  str : (bytes : List ℕ) → Leaf
  truth : (value : Truth) → Leaf

-- a form with one part
pub data Unary : Type 0 where
  assign : (name : List ℕ) → Unary
  isvoid : Unary
  neg : Unary
  not : Unary

-- a form with two parts
pub data Binary : Type 0 where
  arith : (op : ArithOp) → Binary
  compare : (op : CompareOp) → Binary
  while : Binary

-- the method of a dispatch: one of the object's own class, or of a named one
pub data Call : Type 0 where
  dynamic : (name : List ℕ) → Call
  static : (class : TypeRef) (name : List ℕ) → Call

-- a tree, by the kind of its parts; a list of trees; a tree or none; the branches of a case
mutual
  pub data Tree : Type 0 where
    leaf : (at : Place) (form : Leaf) → Tree
    unary : (at : Place) (form : Unary) (part : Tree) → Tree
    binary : (at : Place) (form : Binary) (first : Tree) (second : Tree) → Tree
    call : (at : Place) (form : Call) (receiver : Tree) (args : Trees) → Tree
    If : (at : Place) (test : Tree) (yes : Tree) (no : Tree) → Tree
    Block : (at : Place) (items : Trees) → Tree
    Let : (at : Place) (name : List ℕ) (declared : TypeRef) (init : MaybeTree) (body : Tree) → Tree
    Case : (at : Place) (value : Tree) (branches : Cases) → Tree

  pub data Trees : Type 0 where
    Last : Trees
    More : (first : Tree) (rest : Trees) → Trees

  pub data MaybeTree : Type 0 where
    Without : MaybeTree
    With : (tree : Tree) → MaybeTree

  pub data Cases : Type 0 where
    NoCase : Cases
    CaseOf : (at : Place) (name : List ℕ) (declared : TypeRef) (body : Tree) (rest : Cases) → Cases

-- the forms by their names
pattern abbrev pub Assign : Place → List ℕ → Tree → Tree
Assign at name t = unary at (assign name) t

pattern abbrev pub Dispatch : Place → Tree → List ℕ → Trees → Tree
Dispatch at t name ts = call at (dynamic name) t ts

pattern abbrev pub StaticDispatch : Place → Tree → TypeRef → List ℕ → Trees → Tree
StaticDispatch at t class name ts = call at (static class name) t ts

pattern abbrev pub While : Place → Tree → Tree → Tree
While at t b = binary at while t b

pattern abbrev pub New : Place → TypeRef → Tree
New at class = leaf at (new class)

pattern abbrev pub IsVoid : Place → Tree → Tree
IsVoid at t = unary at isvoid t

pattern abbrev pub Arith : Place → ArithOp → Tree → Tree → Tree
Arith at op a b = binary at (arith op) a b

pattern abbrev pub Neg : Place → Tree → Tree
Neg at t = unary at neg t

pattern abbrev pub Compare : Place → CompareOp → Tree → Tree → Tree
Compare at op a b = binary at (compare op) a b

pattern abbrev pub Not : Place → Tree → Tree
Not at t = unary at not t

pattern abbrev pub Id : Place → List ℕ → Tree
Id at name = leaf at (id name)

pattern abbrev pub Int : Place → ℕ → Tree
Int at value = leaf at (int value)

pattern abbrev pub Str : Place → List ℕ → Tree
Str at bytes = leaf at (str bytes)

pattern abbrev pub Bool : Place → Truth → Tree
Bool at value = leaf at (truth value)

-- a branch of a case, by itself
pub record Twig : Type 0 where
  pub at : Place
  pub name : List ℕ
  pub declared : TypeRef
  pub body : Tree

-- the result for a form without parts by its integer, and by its string; a default if it has no such constant
abbrev pub integer_or {ℓ} : {R : Type ℓ} → R → (ℕ → R) → Leaf → R
integer_or none f (new class) = none
integer_or none f (id name) = none
integer_or none f (int value) = f value
integer_or none f (str bytes) = none
integer_or none f (truth value) = none

abbrev pub string_or {ℓ} : {R : Type ℓ} → R → (List ℕ → R) → Leaf → R
string_or none f (new class) = none
string_or none f (id name) = none
string_or none f (int value) = none
string_or none f (str bytes) = f bytes
string_or none f (truth value) = none

-- the place of a tree's own mark
abbrev pub place_of : Tree → Place
place_of (leaf at form) = at
place_of (unary at form t) = at
place_of (binary at form a b) = at
place_of (call at form t ts) = at
place_of (If at t y n) = at
place_of (Block at ts) = at
place_of (Let at name declared o t) = at
place_of (Case at t cs) = at

-- the number of nodes of a tree: itself, and those of its parts
abbrev mutual
  pub tree_size : Tree → ℕ
  tree_size (leaf at form) = 1
  tree_size (unary at form t) = tree_size t + 1
  tree_size (binary at form a b) = tree_size a + tree_size b + 1
  tree_size (call at form t ts) = tree_size t + trees_size ts + 1
  tree_size (If at t y n) = tree_size t + tree_size y + tree_size n + 1
  tree_size (Block at ts) = trees_size ts + 1
  tree_size (Let at name declared o t) = maybe_size o + tree_size t + 1
  tree_size (Case at t cs) = tree_size t + cases_size cs + 1

  pub trees_size : Trees → ℕ
  trees_size Last = 0
  trees_size (More t ts) = tree_size t + trees_size ts

  pub maybe_size : MaybeTree → ℕ
  maybe_size Without = 0
  maybe_size (With t) = tree_size t

  pub cases_size : Cases → ℕ
  cases_size NoCase = 0
  cases_size (CaseOf at name declared t cs) = tree_size t + cases_size cs

-- lists and options as parts of trees
abbrev pub of_list : List Tree → Trees
of_list [] = Last
of_list (t ∷ ts) = More t (of_list ts)

abbrev pub of_option : Option Tree → MaybeTree
of_option None = Without
of_option (Some t) = With t

abbrev pub of_twigs : List Twig → Cases
of_twigs [] = NoCase
of_twigs (w ∷ ws) = CaseOf w.at w.name w.declared w.body (of_twigs ws)
