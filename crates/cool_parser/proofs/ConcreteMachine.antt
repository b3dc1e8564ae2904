-- A second definition of the parser as a state machine, for proofs only. It builds concrete syntax trees, which keep every token, where the parser stores nodes
-- and refers to them by index.
use Rattle.std.specs.Prelude.{ℕ, nat_le, Bool, true, false, if◌then◌else◌, List, [], ◌∷◌, Option, Some, None}
use Rattle.cool_syntax.specs.declared.place.Place.{Place}
use Rattle.cool_syntax.specs.declared.type_ref.TypeRef.{TypeRef}
use Rattle.cool_syntax.specs.declared.operator.ArithOp.TheVariants as arith_op
use Rattle.cool_syntax.specs.declared.operator.CompareOp.TheVariants as compare_op
use Rattle.cool_syntax.specs.declared.token.Token.{Token}
use Rattle.cool_syntax.specs.declared.token.TokenKind.{TokenKind}
use Rattle.cool_syntax.specs.declared.token.TokenKind.TheVariants as kind
use Rattle.cool_syntax.specs.declared.token.Key.TheVariants as key
use Rattle.cool_syntax.specs.declared.token.Sign.TheVariants as sign
use Rattle.cool_syntax.specs.ConcreteTrees.{Operator, Arith, Compare, Not, IsVoid, Neg, Int, Str, Truth, Variable, Concrete, Name, Literal, New, Paren, Dispatch, If, While, Block, Case, Binary, Before, Callee, OfSelf, Of, OfClass, NoArgs, Given, Parts, NoPart, Then, Branches, NoBranch, Also, Branch, On, Prefix, Let, Assign, Mark, Bindings, NoBinding, Next, Default, Init, FirstFormals, NoFormal, Comma, Formals, NoFormals, Declared, Signature, ConcreteFeature, Method, Attribute, Initialized, Features, NoFeature, Another, NoParent, Inherits, Heading, Classes, NoClass, Class}
use Rattle.cool_syntax.specs.Shapes.{level, left_level, prefix_level}
use Rattle.cool_parser.specs.ParsingMachine.{is_right_parenthesis, is_right_brace}

-- States

-- a class up to its features so far, after the classes so far
pub record Opened : Type 0 where
  pub classes : Classes
  pub heading : Heading
  pub features : Features

-- a method up to its formals so far
pub record OpenMethod : Type 0 where
  pub class : Opened
  pub name : List ℕ
  pub at : Place
  pub lparen : Place
  pub firsts : FirstFormals

-- a method up to the end of its formals
pub record ClosedMethod : Type 0 where
  pub class : Opened
  pub name : List ℕ
  pub at : Place
  pub lparen : Place
  pub formals : Formals
  pub rparen : Place

-- the tokens before the body of a feature
pub data Around : Type 0 where
  InMethod : (class : Opened) (signature : Signature) → Around
  InAttribute : (class : Opened) (variable : Variable) (arrow : Place) → Around

-- a receiver and the dot after it
pub data Target : Type 0 where
  Dot : (receiver : Concrete) (dot : Place) → Target
  StaticDot : (receiver : Concrete) (mark : Place) (class : TypeRef) (dot : Place) → Target

-- a case up to its branches so far
pub record OpenCase : Type 0 where
  pub at : Place
  pub value : Concrete
  pub of : Place
  pub firsts : Branches

-- a form that waits for an expression, and ends by a token of its own
pub data Form : Type 0 where
  Parenthesis : (lparen : Place) → Form
  Arguments : (callee : Callee) (lparen : Place) (firsts : Parts) → Form
  IfTest : (at : Place) → Form
  IfYes : (at : Place) (test : Concrete) (then_at : Place) → Form
  IfNo : (at : Place) (test : Concrete) (then_at : Place) (met : Concrete) (else_at : Place) → Form
  WhileTest : (at : Place) → Form
  WhileBody : (at : Place) (test : Concrete) (loop : Place) → Form
  Items : (lbrace : Place) (firsts : Parts) → Form
  Value : (at : Place) (firsts : Bindings) (variable : Variable) (arrow : Place) → Form
  CaseValue : (at : Place) → Form
  BranchBody : (case : OpenCase) (variable : Variable) (arrow : Place) → Form

-- the forms that wait for an expression: an operator, a prefix form, or a form that ends by itself
pub data Item : Type 0 where
  Left : (left : Concrete) (op : Operator) (at : Place) → Item
  Front : (prefix : Prefix) → Item
  Open : (form : Form) → Item

-- the tokens of a body that have just been read
pub data Mode : Type 0 where
  Need : Mode
  Identifier : (name : List ℕ) (at : Place) → Mode
  Have : (operand : Concrete) → Mode
  StaticClass : (receiver : Concrete) (mark : Place) → Mode
  StaticEnd : (receiver : Concrete) (mark : Place) (class : TypeRef) → Mode
  MethodName : (target : Target) → Mode
  CallParenthesis : (target : Target) (name : List ℕ) (at : Place) → Mode
  FirstArgument : (callee : Callee) (lparen : Place) → Mode
  NextItem : (lbrace : Place) (firsts : Parts) (last : Concrete) (semi : Place) → Mode
  LetName : (at : Place) (firsts : Bindings) → Mode
  LetColon : (at : Place) (firsts : Bindings) (name : List ℕ) (here : Place) → Mode
  LetType : (at : Place) (firsts : Bindings) (name : List ℕ) (here : Place) (colon : Place) → Mode
  LetEnd : (at : Place) (firsts : Bindings) (variable : Variable) → Mode
  BranchName : (case : OpenCase) → Mode
  BranchColon : (case : OpenCase) (name : List ℕ) (here : Place) → Mode
  BranchType : (case : OpenCase) (name : List ℕ) (here : Place) (colon : Place) → Mode
  BranchArrow : (case : OpenCase) (variable : Variable) → Mode
  NextBranch : (case : OpenCase) (last : Branch) → Mode
  NewType : (at : Place) → Mode

pub data State : Type 0 where
  File : (classes : Classes) → State
  ClassName : (classes : Classes) (mark : Place) → State
  ClassHead : (classes : Classes) (mark : Place) (name : List ℕ) (at : Place) → State
  ParentName : (classes : Classes) (mark : Place) (name : List ℕ) (at : Place) (inherits : Place) → State
  ClassBrace : (classes : Classes) (mark : Place) (name : List ℕ) (at : Place) (inherits : Place) (parent : TypeRef) → State
  InClass : (class : Opened) → State
  ClassEnd : (class : Opened) (rbrace : Place) → State
  FeatureName : (class : Opened) (name : List ℕ) (at : Place) → State
  FirstFormal : (class : Opened) (name : List ℕ) (at : Place) (lparen : Place) → State
  FormalName : (method : OpenMethod) → State
  FormalColon : (method : OpenMethod) (name : List ℕ) (at : Place) → State
  FormalType : (method : OpenMethod) (name : List ℕ) (at : Place) (colon : Place) → State
  FormalEnd : (method : OpenMethod) (last : Variable) → State
  ResultColon : (method : ClosedMethod) → State
  ResultType : (method : ClosedMethod) (colon : Place) → State
  MethodBrace : (method : ClosedMethod) (colon : Place) (result : TypeRef) → State
  MethodEnd : (class : Opened) (signature : Signature) (body : Concrete) (rbrace : Place) → State
  AttributeType : (class : Opened) (name : List ℕ) (at : Place) (colon : Place) → State
  AttributeEnd : (class : Opened) (variable : Variable) → State
  -- in the body of a feature
  Inside : (around : Around) (stack : List Item) (mode : Mode) → State

-- Operators that end

-- a stack and an operand on it
pub record Top : Type 0 where
  pub stack : List Item
  pub operand : Concrete

-- ends the operators of at least this level on the top of the stack
abbrev pub reduce : ℕ → List Item → Concrete → Top
reduce k [] t = record { stack = []; operand = t }
reduce k (Left l op at ∷ st) t = if nat_le k (level op) then reduce k st (Binary l op at t) else record { stack = Left l op at ∷ st; operand = t }
reduce k (Front p ∷ st) t = if nat_le k (prefix_level p) then reduce k st (Before p t) else record { stack = Front p ∷ st; operand = t }
reduce k (Open f ∷ st) t = record { stack = Open f ∷ st; operand = t }

-- After an operand

-- the operator that a token is
abbrev pub operator_of : TokenKind → Option Operator
operator_of (kind.Sign sign.Plus) = Some (Arith arith_op.Add)
operator_of (kind.Sign sign.Minus) = Some (Arith arith_op.Sub)
operator_of (kind.Sign sign.Star) = Some (Arith arith_op.Mul)
operator_of (kind.Sign sign.Slash) = Some (Arith arith_op.Div)
operator_of (kind.Sign sign.Less) = Some (Compare compare_op.Less)
operator_of (kind.Sign sign.LessEqual) = Some (Compare compare_op.LessEqual)
operator_of (kind.Sign sign.Equal) = Some (Compare compare_op.Equal)
operator_of _ = None

abbrev pub is_comparison : Operator → Bool
is_comparison (Compare op) = true
is_comparison (Arith op) = false

-- whether a comparison waits on the top of the stack
abbrev pub compares : List Item → Bool
compares (Left l op at ∷ st) = is_comparison op
compares _ = false

-- an operator takes the operand as its left one; comparisons do not associate
abbrev pub shift : Operator → Place → Around → Top → Option State
shift op at a top =
    if (if is_comparison op then compares top.stack else false) then None else Some (Inside a (Left top.operand op at ∷ top.stack) Need)

abbrev pub with_feature : Opened → ConcreteFeature → Opened
with_feature o f = record o { features = Another o.features f }

abbrev pub with_branch : OpenCase → Branch → OpenCase
with_branch c b = record c { firsts = Also c.firsts b }

-- the innermost form that is open gets its expression, by a token that ends an operand
abbrev pub close_on : Form → TokenKind → Place → Around → List Item → Concrete → Option State
close_on (Parenthesis lparen) (kind.Sign sign.RParen) at a st t = Some (Inside a st (Have (Paren lparen t at)))
close_on (Arguments callee lparen firsts) (kind.Sign sign.RParen) at a st t = Some (Inside a st (Have (Dispatch callee lparen (Given firsts t) at)))
close_on (Arguments callee lparen firsts) (kind.Sign sign.Comma) at a st t = Some (Inside a (Open (Arguments callee lparen (Then firsts t at)) ∷ st) Need)
close_on (Value here firsts v arrow) (kind.Sign sign.Comma) at a st t = Some (Inside a st (LetName here (Next firsts (Init v arrow t) at)))
close_on (Value here firsts v arrow) (kind.Key key.In) at a st t = Some (Inside a (Front (Let here firsts (Init v arrow t) at) ∷ st) Need)
close_on (IfTest here) (kind.Key key.Then) at a st t = Some (Inside a (Open (IfYes here t at) ∷ st) Need)
close_on (IfYes here test then_at) (kind.Key key.Else) at a st t = Some (Inside a (Open (IfNo here test then_at t at) ∷ st) Need)
close_on (IfNo here test then_at met else_at) (kind.Key key.Fi) at a st t = Some (Inside a st (Have (If here test then_at met else_at t at)))
close_on (WhileTest here) (kind.Key key.Loop) at a st t = Some (Inside a (Open (WhileBody here t at) ∷ st) Need)
close_on (WhileBody here test loop) (kind.Key key.Pool) at a st t = Some (Inside a st (Have (While here test loop t at)))
close_on (CaseValue here) (kind.Key key.Of) at a st t = Some (Inside a st (BranchName (record { at = here; value = t; of = at; firsts = NoBranch })))
close_on (BranchBody c v arrow) (kind.Sign sign.Semi) at a st t = Some (Inside a st (NextBranch c (On v arrow t at)))
close_on (Items lbrace firsts) (kind.Sign sign.Semi) at a st t = Some (Inside a st (NextItem lbrace firsts t at))
close_on _ _ at a st t = None

-- the body of a feature ends
abbrev pub close_body : Around → TokenKind → Place → Concrete → Option State
close_body (InMethod o s) (kind.Sign sign.RBrace) at t = Some (MethodEnd o s t at)
close_body (InAttribute o v arrow) (kind.Sign sign.Semi) at t = Some (InClass (with_feature o (Initialized v arrow t at)))
close_body _ _ at t = None

abbrev pub close_stack : TokenKind → Place → Around → List Item → Concrete → Option State
close_stack k at a [] t = close_body a k at t
close_stack k at a (Open f ∷ st) t = close_on f k at a st t
close_stack k at a (Left l op here ∷ st) t = None
close_stack k at a (Front p ∷ st) t = None

abbrev pub close : TokenKind → Place → Around → Top → Option State
close k at a top = close_stack k at a top.stack top.operand

abbrev pub operator_or_end : Option Operator → Around → List Item → Concrete → TokenKind → Place → Option State
operator_or_end (Some op) a st t k at = shift op at a (reduce (left_level op) st t)
operator_or_end None a st t k at = close k at a (reduce 0 st t)

-- an operand has been read
abbrev pub have : Around → List Item → Concrete → TokenKind → Place → Option State
have a st t (kind.Sign sign.Dot) at = Some (Inside a st (MethodName (Dot t at)))
have a st t (kind.Sign sign.At) at = Some (Inside a st (StaticClass t at))
have a st t k at = operator_or_end (operator_of k) a st t k at

-- An operand is due

abbrev pub need : Around → List Item → TokenKind → Place → Option State
need a st (kind.ObjectId name) at = Some (Inside a st (Identifier name at))
need a st (kind.Int value) at = Some (Inside a st (Have (Literal (Int value) at)))
need a st (kind.Str bytes) at = Some (Inside a st (Have (Literal (Str bytes) at)))
need a st (kind.Key key.True) at = Some (Inside a st (Have (Literal (Truth true) at)))
need a st (kind.Key key.False) at = Some (Inside a st (Have (Literal (Truth false) at)))
need a st (kind.Key key.If) at = Some (Inside a (Open (IfTest at) ∷ st) Need)
need a st (kind.Key key.While) at = Some (Inside a (Open (WhileTest at) ∷ st) Need)
need a st (kind.Key key.Case) at = Some (Inside a (Open (CaseValue at) ∷ st) Need)
need a st (kind.Key key.Let) at = Some (Inside a st (LetName at NoBinding))
need a st (kind.Key key.New) at = Some (Inside a st (NewType at))
need a st (kind.Key key.Not) at = Some (Inside a (Front (Mark Not at) ∷ st) Need)
need a st (kind.Key key.IsVoid) at = Some (Inside a (Front (Mark IsVoid at) ∷ st) Need)
need a st (kind.Sign sign.Tilde) at = Some (Inside a (Front (Mark Neg at) ∷ st) Need)
need a st (kind.Sign sign.LParen) at = Some (Inside a (Open (Parenthesis at) ∷ st) Need)
need a st (kind.Sign sign.LBrace) at = Some (Inside a (Open (Items at NoPart) ∷ st) Need)
need a st _ at = None

abbrev pub identifier : Around → List Item → List ℕ → Place → TokenKind → Place → Option State
identifier a st name here (kind.Sign sign.Arrow) at = Some (Inside a (Front (Assign name here at) ∷ st) Need)
identifier a st name here (kind.Sign sign.LParen) at = Some (Inside a st (FirstArgument (OfSelf name here) at))
identifier a st name here k at = have a st (Name name here) k at

abbrev pub first_argument : Around → List Item → Callee → Place → TokenKind → Place → Option State
first_argument a st callee lparen k at =
    if is_right_parenthesis k then Some (Inside a st (Have (Dispatch callee lparen NoArgs at))) else need a (Open (Arguments callee lparen NoPart) ∷ st) k at

abbrev pub next_item : Around → List Item → Place → Parts → Concrete → Place → TokenKind → Place → Option State
next_item a st lbrace firsts last semi k at =
    if is_right_brace k then Some (Inside a st (Have (Block lbrace firsts last semi at))) else need a (Open (Items lbrace (Then firsts last semi)) ∷ st) k at

abbrev pub next_branch : Around → List Item → OpenCase → Branch → TokenKind → Place → Option State
next_branch a st c b (kind.Key key.Esac) at = Some (Inside a st (Have (Case c.at c.value c.of c.firsts b at)))
next_branch a st c b (kind.ObjectId name) at = Some (Inside a st (BranchColon (with_branch c b) name at))
next_branch a st c b _ at = None

-- Names and types

abbrev pub callee_of : Target → List ℕ → Place → Callee
callee_of (Dot t dot) name at = Of t dot name at
callee_of (StaticDot t mark class dot) name at = OfClass t mark class dot name at

abbrev pub let_end : Around → List Item → Place → Bindings → Variable → TokenKind → Place → Option State
let_end a st here firsts v (kind.Sign sign.Arrow) at = Some (Inside a (Open (Value here firsts v at) ∷ st) Need)
let_end a st here firsts v (kind.Sign sign.Comma) at = Some (Inside a st (LetName here (Next firsts (Default v) at)))
let_end a st here firsts v (kind.Key key.In) at = Some (Inside a (Front (Let here firsts (Default v) at) ∷ st) Need)
let_end a st here firsts v _ at = None

-- the state after one more token of a body
abbrev pub inside_step : Around → List Item → Mode → TokenKind → Place → Option State
inside_step a st Need k at = need a st k at
inside_step a st (Identifier name here) k at = identifier a st name here k at
inside_step a st (Have t) k at = have a st t k at
inside_step a st (StaticClass t mark) (kind.TypeId name) at = Some (Inside a st (StaticEnd t mark (record { name = name; at = at })))
inside_step a st (StaticEnd t mark class) (kind.Sign sign.Dot) at = Some (Inside a st (MethodName (StaticDot t mark class at)))
inside_step a st (MethodName target) (kind.ObjectId name) at = Some (Inside a st (CallParenthesis target name at))
inside_step a st (CallParenthesis target name here) (kind.Sign sign.LParen) at = Some (Inside a st (FirstArgument (callee_of target name here) at))
inside_step a st (FirstArgument callee lparen) k at = first_argument a st callee lparen k at
inside_step a st (NextItem lbrace firsts last semi) k at = next_item a st lbrace firsts last semi k at
inside_step a st (LetName here firsts) (kind.ObjectId name) at = Some (Inside a st (LetColon here firsts name at))
inside_step a st (LetColon here firsts name there) (kind.Sign sign.Colon) at = Some (Inside a st (LetType here firsts name there at))
inside_step a st (LetType here firsts name there colon) (kind.TypeId type) at =
    Some (Inside a st (LetEnd here firsts (record { name = name; at = there; colon = colon; declared = record { name = type; at = at } })))
inside_step a st (LetEnd here firsts v) k at = let_end a st here firsts v k at
inside_step a st (BranchName c) (kind.ObjectId name) at = Some (Inside a st (BranchColon c name at))
inside_step a st (BranchColon c name there) (kind.Sign sign.Colon) at = Some (Inside a st (BranchType c name there at))
inside_step a st (BranchType c name there colon) (kind.TypeId type) at =
    Some (Inside a st (BranchArrow c (record { name = name; at = there; colon = colon; declared = record { name = type; at = at } })))
inside_step a st (BranchArrow c v) (kind.Sign sign.FatArrow) at = Some (Inside a (Open (BranchBody c v at) ∷ st) Need)
inside_step a st (NextBranch c b) k at = next_branch a st c b k at
inside_step a st (NewType here) (kind.TypeId name) at = Some (Inside a st (Have (New here (record { name = name; at = at }))))
inside_step a st _ _ at = None

-- Classes and features

abbrev pub opened : Classes → Heading → Option State
opened classes h = Some (InClass (record { classes = classes; heading = h; features = NoFeature }))

abbrev pub class_head : Classes → Place → List ℕ → Place → TokenKind → Place → Option State
class_head cs mark name here (kind.Key key.Inherits) at = Some (ParentName cs mark name here at)
class_head cs mark name here (kind.Sign sign.LBrace) at = opened cs (record { mark = mark; name = name; at = here; parent = NoParent; lbrace = at })
class_head cs mark name here _ at = None

abbrev pub in_class : Opened → TokenKind → Place → Option State
in_class o (kind.ObjectId name) at = Some (FeatureName o name at)
in_class o (kind.Sign sign.RBrace) at = Some (ClassEnd o at)
in_class o _ at = None

abbrev pub feature_name : Opened → List ℕ → Place → TokenKind → Place → Option State
feature_name o name here (kind.Sign sign.LParen) at = Some (FirstFormal o name here at)
feature_name o name here (kind.Sign sign.Colon) at = Some (AttributeType o name here at)
feature_name o name here _ at = None

abbrev pub closed : Opened → List ℕ → Place → Place → Formals → Place → Option State
closed o name here lparen formals rparen = Some (ResultColon (record { class = o; name = name; at = here; lparen = lparen; formals = formals; rparen = rparen }))

abbrev pub first_formal : Opened → List ℕ → Place → Place → TokenKind → Place → Option State
first_formal o name here lparen (kind.Sign sign.RParen) at = closed o name here lparen NoFormals at
first_formal o name here lparen (kind.ObjectId formal) at =
    Some (FormalColon (record { class = o; name = name; at = here; lparen = lparen; firsts = NoFormal }) formal at)
first_formal o name here lparen _ at = None

abbrev pub formal_end : OpenMethod → Variable → TokenKind → Place → Option State
formal_end m v (kind.Sign sign.RParen) at = closed m.class m.name m.at m.lparen (Declared m.firsts v) at
formal_end m v (kind.Sign sign.Comma) at = Some (FormalName (record m { firsts = Comma m.firsts v at }))
formal_end m v _ at = None

abbrev pub signature_of : ClosedMethod → Place → TypeRef → Place → Signature
signature_of m colon result lbrace =
    record { name = m.name; at = m.at; lparen = m.lparen; formals = m.formals; rparen = m.rparen; colon = colon; result = result; lbrace = lbrace }

abbrev pub attribute_end : Opened → Variable → TokenKind → Place → Option State
attribute_end o v (kind.Sign sign.Arrow) at = Some (Inside (InAttribute o v at) [] Need)
attribute_end o v (kind.Sign sign.Semi) at = Some (InClass (with_feature o (Attribute v at)))
attribute_end o v _ at = None

-- the state after one more token, if it may come
abbrev pub step : State → TokenKind → Place → Option State
step (File cs) (kind.Key key.Class) at = Some (ClassName cs at)
step (ClassName cs mark) (kind.TypeId name) at = Some (ClassHead cs mark name at)
step (ClassHead cs mark name here) k at = class_head cs mark name here k at
step (ParentName cs mark name here inherits) (kind.TypeId parent) at = Some (ClassBrace cs mark name here inherits (record { name = parent; at = at }))
step (ClassBrace cs mark name here inherits parent) (kind.Sign sign.LBrace) at =
    opened cs (record { mark = mark; name = name; at = here; parent = Inherits inherits parent; lbrace = at })
step (InClass o) k at = in_class o k at
step (ClassEnd o rbrace) (kind.Sign sign.Semi) at = Some (File (Class o.classes o.heading o.features rbrace at))
step (FeatureName o name here) k at = feature_name o name here k at
step (FirstFormal o name here lparen) k at = first_formal o name here lparen k at
step (FormalName m) (kind.ObjectId name) at = Some (FormalColon m name at)
step (FormalColon m name here) (kind.Sign sign.Colon) at = Some (FormalType m name here at)
step (FormalType m name here colon) (kind.TypeId type) at =
    Some (FormalEnd m (record { name = name; at = here; colon = colon; declared = record { name = type; at = at } }))
step (FormalEnd m v) k at = formal_end m v k at
step (ResultColon m) (kind.Sign sign.Colon) at = Some (ResultType m at)
step (ResultType m colon) (kind.TypeId name) at = Some (MethodBrace m colon (record { name = name; at = at }))
step (MethodBrace m colon result) (kind.Sign sign.LBrace) at = Some (Inside (InMethod m.class (signature_of m colon result at)) [] Need)
step (MethodEnd o s body rbrace) (kind.Sign sign.Semi) at = Some (InClass (with_feature o (Method s body rbrace at)))
step (AttributeType o name here colon) (kind.TypeId type) at =
    Some (AttributeEnd o (record { name = name; at = here; colon = colon; declared = record { name = type; at = at } }))
step (AttributeEnd o v) k at = attribute_end o v k at
step (Inside a st m) k at = inside_step a st m k at
step _ _ at = None

-- Runs

abbrev pub bind : {A B : Type 0} → Option A → (A → Option B) → Option B
bind None f = None
bind (Some a) f = f a

abbrev pub run : State → List Token → Option State
run s [] = Some s
run s (t ∷ ts) = bind (step s t.kind t.at) (λ next. run next ts)

abbrev pub start : State
start = File NoClass

-- the file of a state that is between two classes
abbrev pub finish : State → Option Classes
finish (File cs) = Some cs
finish _ = None
