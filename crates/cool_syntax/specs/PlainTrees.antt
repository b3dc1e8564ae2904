-- `plain` converts a concrete syntax tree to the abstract tree, without parentheses (Cool manual, section 11). A call without a receiver becomes a call of self
-- (section 7.4), and a let with several bindings becomes one let inside the other (section 7.8).
use Rattle.std.specs.Prelude.{◌≡◌, refl, List, [], ◌∷◌, ◌++◌, codes, Option, Some, None}
use Rattle.cool_syntax.specs.declared.place.Place.{Place}
use Rattle.cool_syntax.specs.declared.type_ref.TypeRef.{TypeRef}
use Rattle.cool_syntax.specs.declared.file_tree.ClassDef.{ClassDef}
use Rattle.cool_syntax.specs.declared.file_tree.Feature.{Feature}
use Rattle.cool_syntax.specs.declared.file_tree.Feature.TheVariants as feature
use Rattle.cool_syntax.specs.declared.file_tree.Formal.{Formal}
use Rattle.cool_syntax.specs.Tree.{Tree, Trees, Cases, Last, More, Without, With, NoCase, CaseOf}
use Rattle.cool_syntax.specs.Tree as trees
use Rattle.cool_syntax.specs.ConcreteTrees.{Operator, Arith, Compare, Unary, Not, IsVoid, Neg, Constant, Int, Str, Truth, Variable, Concrete, Name, Literal, New, Paren, Dispatch, If, While, Block, Case, Binary, Before, Callee, OfSelf, Of, OfClass, Args, NoArgs, Given, Parts, NoPart, Then, Branches, NoBranch, Also, Branch, On, Prefix, Let, Assign, Mark, Bindings, NoBinding, Next, Binding, Default, Init, FirstFormals, NoFormal, Comma, Formals, NoFormals, Declared, ConcreteFeature, Method, Attribute, Initialized, Features, NoFeature, Another, Parent, NoParent, Inherits, Heading, Classes, NoClass, Class}

abbrev pub operation : Operator → Place → Tree → Tree → Tree
operation (Arith op) at left right = trees.Arith at op left right
operation (Compare op) at left right = trees.Compare at op left right

abbrev pub marked : Unary → Place → Tree → Tree
marked Not at t = trees.Not at t
marked IsVoid at t = trees.IsVoid at t
marked Neg at t = trees.Neg at t

abbrev pub constant : Constant → Place → Tree
constant (Int value) at = trees.Int at value
constant (Str bytes) at = trees.Str at bytes
constant (Truth value) at = trees.Bool at value

-- The tree without its parentheses. Its place is that of its own mark: a name, a constant, the first word, an operator or an opening
-- brace. A call without a receiver has the receiver self, at the place of the method's name. A let with more bindings than one is one
-- let inside the other.
abbrev mutual
  pub plain : Concrete → Tree
  plain (Name name at) = trees.Id at name
  plain (Literal value at) = constant value at
  plain (New at class) = trees.New at class
  plain (Paren lparen e rparen) = plain e
  plain (Dispatch callee lparen args rparen) = plain_call callee (plain_args args)
  plain (If at test then_at met else_at unmet fi) = trees.If at (plain test) (plain met) (plain unmet)
  plain (While at test loop body pool) = trees.While at (plain test) (plain body)
  plain (Block lbrace firsts last semi rbrace) = trees.Block lbrace (plain_parts firsts (More (plain last) Last))
  plain (Case at value of firsts last esac) = trees.Case at (plain value) (plain_branches firsts (plain_branch last NoCase))
  plain (Binary left op at right) = operation op at (plain left) (plain right)
  plain (Before prefix e) = plain_prefix prefix (plain e)

  pub plain_call : Callee → Trees → Tree
  plain_call (OfSelf name at) args = trees.Dispatch at (trees.Id at (codes "self")) name args
  plain_call (Of receiver dot name at) args = trees.Dispatch at (plain receiver) name args
  plain_call (OfClass receiver mark class dot name at) args = trees.StaticDispatch at (plain receiver) class name args

  pub plain_args : Args → Trees
  plain_args NoArgs = Last
  plain_args (Given firsts last) = plain_parts firsts (More (plain last) Last)

  -- the parts, and then the rest
  pub plain_parts : Parts → Trees → Trees
  plain_parts NoPart rest = rest
  plain_parts (Then before e separator) rest = plain_parts before (More (plain e) rest)

  pub plain_branches : Branches → Cases → Cases
  plain_branches NoBranch rest = rest
  plain_branches (Also before branch) rest = plain_branches before (plain_branch branch rest)

  pub plain_branch : Branch → Cases → Cases
  plain_branch (On v arrow body semi) rest = CaseOf v.at v.name v.declared (plain body) rest

  pub plain_prefix : Prefix → Tree → Tree
  plain_prefix (Let at firsts last within) t = plain_bindings firsts (plain_binding last t)
  plain_prefix (Assign name at arrow) t = trees.Assign at name t
  plain_prefix (Mark op at) t = marked op at t

  pub plain_bindings : Bindings → Tree → Tree
  plain_bindings NoBinding t = t
  plain_bindings (Next before binding comma) t = plain_bindings before (plain_binding binding t)

  pub plain_binding : Binding → Tree → Tree
  plain_binding (Default v) t = trees.Let v.at v.name v.declared Without t
  plain_binding (Init v arrow e) t = trees.Let v.at v.name v.declared (With (plain e)) t

abbrev pub plain_formal : Variable → Formal
plain_formal v = record { name = v.name; at = v.at; declared = v.declared }

abbrev pub plain_first_formals : FirstFormals → List Formal
plain_first_formals NoFormal = []
plain_first_formals (Comma before v comma) = plain_first_formals before ++ plain_formal v ∷ []

abbrev pub plain_formals : Formals → List Formal
plain_formals NoFormals = []
plain_formals (Declared firsts last) = plain_first_formals firsts ++ plain_formal last ∷ []

abbrev pub plain_feature : ConcreteFeature → Feature
plain_feature (Method s body rbrace semi) =
    feature.Method (record { name = s.name; at = s.at; formals = plain_formals s.formals; result = s.result; body = plain body })
plain_feature (Attribute v semi) = feature.Attribute (record { name = v.name; at = v.at; declared = v.declared; init = None })
plain_feature (Initialized v arrow e semi) = feature.Attribute (record { name = v.name; at = v.at; declared = v.declared; init = Some (plain e) })

abbrev pub plain_features : Features → List Feature
plain_features NoFeature = []
plain_features (Another before feature) = plain_features before ++ plain_feature feature ∷ []

abbrev pub plain_parent : Parent → Option TypeRef
plain_parent NoParent = None
plain_parent (Inherits at class) = Some class

abbrev pub plain_class : Heading → Features → ClassDef
plain_class h features = record { name = h.name; at = h.at; parent = plain_parent h.parent; features = plain_features features }

abbrev pub plain_file : Classes → List ClassDef
plain_file NoClass = []
plain_file (Class before heading features rbrace semi) = plain_file before ++ plain_class heading features ∷ []

-- Worked example

-- `let x : T, y : T in x` is one let inside the other
two_lets : (p : Place) (t : TypeRef)
    → plain (Before (Let p (Next NoBinding (Default (record { name = codes "x"; at = p; colon = p; declared = t })) p) (Default (record { name = codes "y"; at = p; colon = p; declared = t })) p) (Name (codes "x") p))
    ≡ trees.Let p (codes "x") t Without (trees.Let p (codes "y") t Without (trees.Id p (codes "x")))
two_lets p t = refl
