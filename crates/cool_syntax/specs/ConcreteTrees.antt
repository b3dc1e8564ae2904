-- `Concrete` and the types after it define concrete syntax trees of a file, by the rules of the grammar (Cool manual, section 11 and its figure 1). A concrete
-- tree keeps parentheses, and the source location of each of its tokens. Lists of parts grow at their end.
use Rattle.std.specs.Prelude.{ℕ, Bool, List}
use Rattle.cool_syntax.specs.declared.place.Place.{Place}
use Rattle.cool_syntax.specs.declared.type_ref.TypeRef.{TypeRef}
use Rattle.cool_syntax.specs.declared.operator.ArithOp.{ArithOp}
use Rattle.cool_syntax.specs.declared.operator.CompareOp.{CompareOp}

-- an operator between two operands
pub data Operator : Type 0 where
  Arith : (op : ArithOp) → Operator
  Compare : (op : CompareOp) → Operator

-- an operator before its operand
pub data Unary : Type 0 where
  Not : Unary
  IsVoid : Unary
  Neg : Unary

pub data Constant : Type 0 where
  Int : (value : ℕ) → Constant
  Str : (bytes : List ℕ) → Constant
  Truth : (value : Bool) → Constant

-- name : TYPE
pub record Variable : Type 0 where
  pub name : List ℕ
  pub at : Place
  pub colon : Place
  pub declared : TypeRef

mutual
  pub data Concrete : Type 0 where
    -- name
    Name : (name : List ℕ) (at : Place) → Concrete
    -- an integer, a string, true or false
    Literal : (value : Constant) (at : Place) → Concrete
    -- new TYPE
    New : (at : Place) (class : TypeRef) → Concrete
    -- ( inner )
    Paren : (lparen : Place) (inner : Concrete) (rparen : Place) → Concrete
    -- callee ( args )
    Dispatch : (callee : Callee) (lparen : Place) (args : Args) (rparen : Place) → Concrete
    -- if test then met else unmet fi
    If : (at : Place) (test : Concrete) (then_at : Place) (met : Concrete) (else_at : Place) (unmet : Concrete) (fi : Place) → Concrete
    -- while test loop body pool
    While : (at : Place) (test : Concrete) (loop : Place) (body : Concrete) (pool : Place) → Concrete
    -- { firsts last ; }
    Block : (lbrace : Place) (firsts : Parts) (last : Concrete) (semi : Place) (rbrace : Place) → Concrete
    -- case value of firsts last esac
    Case : (at : Place) (value : Concrete) (of : Place) (firsts : Branches) (last : Branch) (esac : Place) → Concrete
    -- left op right
    Binary : (left : Concrete) (op : Operator) (at : Place) (right : Concrete) → Concrete
    -- prefix operand
    Before : (prefix : Prefix) (operand : Concrete) → Concrete

  -- the object and class of a call
  pub data Callee : Type 0 where
    -- name
    OfSelf : (name : List ℕ) (at : Place) → Callee
    -- receiver . name
    Of : (receiver : Concrete) (dot : Place) (name : List ℕ) (at : Place) → Callee
    -- receiver @ TYPE . name
    OfClass : (receiver : Concrete) (mark : Place) (class : TypeRef) (dot : Place) (name : List ℕ) (at : Place) → Callee

  -- [ firsts last ], where a comma follows each of the first
  pub data Args : Type 0 where
    NoArgs : Args
    Given : (firsts : Parts) (last : Concrete) → Args

  -- expressions, each with the comma or the semicolon after it
  pub data Parts : Type 0 where
    NoPart : Parts
    Then : (before : Parts) (part : Concrete) (separator : Place) → Parts

  pub data Branches : Type 0 where
    NoBranch : Branches
    Also : (before : Branches) (branch : Branch) → Branches

  -- name : TYPE => body ;
  pub data Branch : Type 0 where
    On : (variable : Variable) (arrow : Place) (body : Concrete) (semi : Place) → Branch

  -- a form that begins with tokens of its own and ends with an expression
  pub data Prefix : Type 0 where
    -- let firsts last in, where a comma follows each of the first
    Let : (at : Place) (firsts : Bindings) (last : Binding) (within : Place) → Prefix
    -- name <-
    Assign : (name : List ℕ) (at : Place) (arrow : Place) → Prefix
    -- not, isvoid or ~
    Mark : (op : Unary) (at : Place) → Prefix

  pub data Bindings : Type 0 where
    NoBinding : Bindings
    Next : (before : Bindings) (binding : Binding) (comma : Place) → Bindings

  pub data Binding : Type 0 where
    -- name : TYPE
    Default : (variable : Variable) → Binding
    -- name : TYPE <- init
    Init : (variable : Variable) (arrow : Place) (init : Concrete) → Binding

-- [ firsts last ], where a comma follows each of the first
pub data FirstFormals : Type 0 where
  NoFormal : FirstFormals
  Comma : (before : FirstFormals) (formal : Variable) (comma : Place) → FirstFormals

pub data Formals : Type 0 where
  NoFormals : Formals
  Declared : (firsts : FirstFormals) (last : Variable) → Formals

-- name ( formals ) : TYPE {
pub record Signature : Type 0 where
  pub name : List ℕ
  pub at : Place
  pub lparen : Place
  pub formals : Formals
  pub rparen : Place
  pub colon : Place
  pub result : TypeRef
  pub lbrace : Place

pub data ConcreteFeature : Type 0 where
  -- signature body } ;
  Method : (signature : Signature) (body : Concrete) (rbrace : Place) (semi : Place) → ConcreteFeature
  -- name : TYPE ;
  Attribute : (variable : Variable) (semi : Place) → ConcreteFeature
  -- name : TYPE <- value ;
  Initialized : (variable : Variable) (arrow : Place) (value : Concrete) (semi : Place) → ConcreteFeature

pub data Features : Type 0 where
  NoFeature : Features
  Another : (before : Features) (feature : ConcreteFeature) → Features

-- [ inherits TYPE ]
pub data Parent : Type 0 where
  NoParent : Parent
  Inherits : (at : Place) (class : TypeRef) → Parent

-- class TYPE parent {
pub record Heading : Type 0 where
  pub mark : Place
  pub name : List ℕ
  pub at : Place
  pub parent : Parent
  pub lbrace : Place

-- heading features } ;
pub data Classes : Type 0 where
  NoClass : Classes
  Class : (before : Classes) (heading : Heading) (features : Features) (rbrace : Place) (semi : Place) → Classes
