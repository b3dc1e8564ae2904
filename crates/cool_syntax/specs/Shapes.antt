-- `IsShaped` says that a concrete syntax tree keeps the rules of precedence and associativity: every operand binds as tightly as the operator beside it
-- requires. The levels (Cool manual, section 11.1) are, from low to high, 0 `let`, 1 `<-`, 2 `not`, 3 comparisons, 4 `+ -`, 5 `* /`, 6 `isvoid`, 7 `~`;
-- dispatches and atoms bind more tightly. Arithmetic associates to the left, an assignment to the right, comparisons not at all, and a let extends as far to
-- the right as it can (section 7.8).
use Rattle.std.specs.Prelude.{ℕ, ◌<◌, ◌≤◌, codes}
use Rattle.std.proofs.Common.{arith}
use Rattle.cool_syntax.specs.declared.place.Place.{Place}
use Rattle.cool_syntax.specs.declared.operator.ArithOp.TheVariants as arith_op
use Rattle.cool_syntax.specs.declared.operator.CompareOp.TheVariants as compare_op
use Rattle.cool_syntax.specs.ConcreteTrees.{Operator, Arith, Compare, Unary, Not, IsVoid, Neg, Concrete, Name, Literal, New, Paren, Dispatch, If, While, Block, Case, Binary, Before, Callee, OfSelf, Of, OfClass, Args, NoArgs, Given, Parts, NoPart, Then, Branches, NoBranch, Also, Branch, On, Prefix, Let, Assign, Mark, Bindings, NoBinding, Next, Binding, Default, Init, ConcreteFeature, Method, Attribute, Initialized, Features, NoFeature, Another, Classes, NoClass, Class}

abbrev pub level : Operator → ℕ
level (Compare op) = 3
level (Arith arith_op.Add) = 4
level (Arith arith_op.Sub) = 4
level (Arith arith_op.Mul) = 5
level (Arith arith_op.Div) = 5

-- The least level that a left operand may end with. Arithmetic associates to the left; comparisons do not associate.
abbrev pub left_level : Operator → ℕ
left_level (Compare op) = 4
left_level (Arith op) = level (Arith op)

abbrev pub unary_level : Unary → ℕ
unary_level Not = 2
unary_level IsVoid = 6
unary_level Neg = 7

abbrev pub prefix_level : Prefix → ℕ
prefix_level (Let at firsts last within) = 0
prefix_level (Assign name at arrow) = 1
prefix_level (Mark op at) = unary_level op

-- No level on the right spine is below this one. The right spine is the tree itself and, where it ends with an operand, a value or a
-- body, the right spine of that.
abbrev pub EndsAtLeast : ℕ → Concrete → Type 0
EndsAtLeast k (Binary left op at right) = (k ≤ level op) × EndsAtLeast k right
EndsAtLeast k (Before prefix e) = (k ≤ prefix_level prefix) × EndsAtLeast k e
EndsAtLeast k _ = Unit {0}

-- Each binary node on the left spine has a level above this one. The left spine is the tree itself and, where it begins with an operand
-- or a receiver, the left spine of that.
abbrev mutual
  pub BeginsAbove : ℕ → Concrete → Type 0
  BeginsAbove k (Binary left op at right) = (k < level op) × BeginsAbove k left
  BeginsAbove k (Dispatch callee lparen args rparen) = CalleeBeginsAbove k callee
  BeginsAbove k (Name name at) = Unit {0}
  BeginsAbove k (Literal value at) = Unit {0}
  BeginsAbove k (New at class) = Unit {0}
  BeginsAbove k (Paren lparen e rparen) = Unit {0}
  BeginsAbove k (If at test then_at met else_at unmet fi) = Unit {0}
  BeginsAbove k (While at test loop body pool) = Unit {0}
  BeginsAbove k (Block lbrace firsts last semi rbrace) = Unit {0}
  BeginsAbove k (Case at value of firsts last esac) = Unit {0}
  BeginsAbove k (Before prefix e) = Unit {0}

  pub CalleeBeginsAbove : ℕ → Callee → Type 0
  CalleeBeginsAbove k (OfSelf name at) = Unit {0}
  CalleeBeginsAbove k (Of receiver dot name at) = BeginsAbove k receiver
  CalleeBeginsAbove k (OfClass receiver mark class dot name at) = BeginsAbove k receiver

-- a dispatch or an atom, which can be the receiver of a dispatch
abbrev pub IsReceiver : Concrete → Type 0
IsReceiver (Binary left op at right) = ⊥
IsReceiver (Before prefix e) = ⊥
IsReceiver _ = Unit {0}

abbrev mutual
  pub IsShaped : Concrete → Type 0
  IsShaped (Name name at) = Unit {0}
  IsShaped (Literal value at) = Unit {0}
  IsShaped (New at class) = Unit {0}
  IsShaped (Paren lparen e rparen) = IsShaped e
  IsShaped (Dispatch callee lparen args rparen) = IsShapedCallee callee × AreShapedArgs args
  IsShaped (If at test then_at met else_at unmet fi) = IsShaped test × IsShaped met × IsShaped unmet
  IsShaped (While at test loop body pool) = IsShaped test × IsShaped body
  IsShaped (Block lbrace firsts last semi rbrace) = AreShapedParts firsts × IsShaped last
  IsShaped (Case at value of firsts last esac) = IsShaped value × AreShapedBranches firsts × IsShapedBranch last
  IsShaped (Binary left op at right) = EndsAtLeast (left_level op) left × BeginsAbove (level op) right × IsShaped left × IsShaped right
  IsShaped (Before prefix e) = IsShapedPrefix prefix × BeginsAbove (prefix_level prefix) e × IsShaped e

  pub IsShapedCallee : Callee → Type 0
  IsShapedCallee (OfSelf name at) = Unit {0}
  IsShapedCallee (Of receiver dot name at) = IsReceiver receiver × IsShaped receiver
  IsShapedCallee (OfClass receiver mark class dot name at) = IsReceiver receiver × IsShaped receiver

  pub AreShapedArgs : Args → Type 0
  AreShapedArgs NoArgs = Unit {0}
  AreShapedArgs (Given firsts last) = AreShapedParts firsts × IsShaped last

  pub AreShapedParts : Parts → Type 0
  AreShapedParts NoPart = Unit {0}
  AreShapedParts (Then before e separator) = AreShapedParts before × IsShaped e

  pub AreShapedBranches : Branches → Type 0
  AreShapedBranches NoBranch = Unit {0}
  AreShapedBranches (Also before branch) = AreShapedBranches before × IsShapedBranch branch

  pub IsShapedBranch : Branch → Type 0
  IsShapedBranch (On v arrow body semi) = IsShaped body

  pub IsShapedPrefix : Prefix → Type 0
  IsShapedPrefix (Let at firsts last within) = AreShapedBindings firsts × IsShapedBinding last
  IsShapedPrefix (Assign name at arrow) = Unit {0}
  IsShapedPrefix (Mark op at) = Unit {0}

  pub AreShapedBindings : Bindings → Type 0
  AreShapedBindings NoBinding = Unit {0}
  AreShapedBindings (Next before binding comma) = AreShapedBindings before × IsShapedBinding binding

  pub IsShapedBinding : Binding → Type 0
  IsShapedBinding (Default v) = Unit {0}
  IsShapedBinding (Init v arrow e) = IsShaped e

abbrev pub IsShapedFeature : ConcreteFeature → Type 0
IsShapedFeature (Method signature body rbrace semi) = IsShaped body
IsShapedFeature (Attribute v semi) = Unit {0}
IsShapedFeature (Initialized v arrow e semi) = IsShaped e

abbrev pub AreShapedFeatures : Features → Type 0
AreShapedFeatures NoFeature = Unit {0}
AreShapedFeatures (Another before feature) = AreShapedFeatures before × IsShapedFeature feature

abbrev pub IsShapedFile : Classes → Type 0
IsShapedFile NoClass = Unit {0}
IsShapedFile (Class before heading features rbrace semi) = IsShapedFile before × AreShapedFeatures features

-- Worked examples

-- neither grouping of `a < b < c` is shaped
abbrev less : Place → Concrete → Concrete → Concrete
less p left right = Binary left (Compare compare_op.Less) p right

no_left_grouping : (p : Place) → IsShaped (less p (less p (Name (codes "a") p) (Name (codes "b") p)) (Name (codes "c") p)) → ⊥
no_left_grouping p s = omega (arith, s.0.0)

no_right_grouping : (p : Place) → IsShaped (less p (Name (codes "a") p) (less p (Name (codes "b") p) (Name (codes "c") p))) → ⊥
no_right_grouping p s = omega (arith, s.1.0)

-- `a - (b - c)` is not the grouping of `a - b - c`, and `(a - b) - c` is
abbrev minus : Place → Concrete → Concrete → Concrete
minus p left right = Binary left (Arith arith_op.Sub) p right

no_grouping_to_the_right : (p : Place) → IsShaped (minus p (Name (codes "a") p) (minus p (Name (codes "b") p) (Name (codes "c") p))) → ⊥
no_grouping_to_the_right p s = omega (arith, s.1.0)

grouping_to_the_left : (p : Place) → IsShaped (minus p (minus p (Name (codes "a") p) (Name (codes "b") p)) (Name (codes "c") p))
grouping_to_the_left p = ((omega arith, tt), tt, (tt, tt, tt, tt), tt)
