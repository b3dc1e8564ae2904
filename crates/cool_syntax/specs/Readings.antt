-- `reading` is the list of the tokens of a concrete syntax tree from left to right, as the grammar writes each construct (Cool manual, section 11).
use Rattle.std.specs.Prelude.{ℕ, true, false, List, [], ◌∷◌, ◌++◌}
use Rattle.cool_syntax.specs.declared.place.Place.{Place}
use Rattle.cool_syntax.specs.declared.type_ref.TypeRef.{TypeRef}
use Rattle.cool_syntax.specs.declared.operator.ArithOp.TheVariants as arith_op
use Rattle.cool_syntax.specs.declared.operator.CompareOp.TheVariants as compare_op
use Rattle.cool_syntax.specs.declared.token.Token.{Token}
use Rattle.cool_syntax.specs.declared.token.TokenKind.TheVariants as kind
use Rattle.cool_syntax.specs.declared.token.Key.{Key}
use Rattle.cool_syntax.specs.declared.token.Key.TheVariants as key
use Rattle.cool_syntax.specs.declared.token.Sign.{Sign}
use Rattle.cool_syntax.specs.declared.token.Sign.TheVariants as sign
use Rattle.cool_syntax.specs.ConcreteTrees.{Operator, Arith, Compare, Unary, Not, IsVoid, Neg, Constant, Int, Str, Truth, Variable, Concrete, Name, Literal, New, Paren, Dispatch, If, While, Block, Case, Binary, Before, Callee, OfSelf, Of, OfClass, Args, NoArgs, Given, Parts, NoPart, Then, Branches, NoBranch, Also, Branch, On, Prefix, Let, Assign, Mark, Bindings, NoBinding, Next, Binding, Default, Init, FirstFormals, NoFormal, Comma, Formals, NoFormals, Declared, Signature, ConcreteFeature, Method, Attribute, Initialized, Features, NoFeature, Another, Parent, NoParent, Inherits, Heading, Classes, NoClass, Class}

abbrev pub word : Key → Place → Token
word k at = record { kind = kind.Key k; at = at }

abbrev pub symbol : Sign → Place → Token
symbol s at = record { kind = kind.Sign s; at = at }

abbrev pub object : List ℕ → Place → Token
object name at = record { kind = kind.ObjectId name; at = at }

abbrev pub type : TypeRef → Token
type t = record { kind = kind.TypeId t.name; at = t.at }

abbrev pub operator_sign : Operator → Sign
operator_sign (Arith arith_op.Add) = sign.Plus
operator_sign (Arith arith_op.Sub) = sign.Minus
operator_sign (Arith arith_op.Mul) = sign.Star
operator_sign (Arith arith_op.Div) = sign.Slash
operator_sign (Compare compare_op.Less) = sign.Less
operator_sign (Compare compare_op.LessEqual) = sign.LessEqual
operator_sign (Compare compare_op.Equal) = sign.Equal

abbrev pub unary_token : Unary → Place → Token
unary_token Not at = word key.Not at
unary_token IsVoid at = word key.IsVoid at
unary_token Neg at = symbol sign.Tilde at

abbrev pub constant_token : Constant → Place → Token
constant_token (Int value) at = record { kind = kind.Int value; at = at }
constant_token (Str bytes) at = record { kind = kind.Str bytes; at = at }
constant_token (Truth true) at = word key.True at
constant_token (Truth false) at = word key.False at

abbrev pub variable_reading : Variable → List Token
variable_reading v = object v.name v.at ∷ symbol sign.Colon v.colon ∷ type v.declared ∷ []

-- the tokens of a tree, from left to right
abbrev mutual
  pub reading : Concrete → List Token
  reading (Name name at) = object name at ∷ []
  reading (Literal value at) = constant_token value at ∷ []
  reading (New at class) = word key.New at ∷ type class ∷ []
  reading (Paren lparen e rparen) = symbol sign.LParen lparen ∷ reading e ++ symbol sign.RParen rparen ∷ []
  reading (Dispatch callee lparen args rparen) = callee_reading callee ++ symbol sign.LParen lparen ∷ args_reading args ++ symbol sign.RParen rparen ∷ []
  reading (If at test then_at met else_at unmet fi) =
      word key.If at ∷ reading test ++ word key.Then then_at ∷ reading met ++ word key.Else else_at ∷ reading unmet ++ word key.Fi fi ∷ []
  reading (While at test loop body pool) = word key.While at ∷ reading test ++ word key.Loop loop ∷ reading body ++ word key.Pool pool ∷ []
  reading (Block lbrace firsts last semi rbrace) =
      symbol sign.LBrace lbrace ∷ parts_reading sign.Semi firsts ++ reading last ++ symbol sign.Semi semi ∷ symbol sign.RBrace rbrace ∷ []
  reading (Case at value of firsts last esac) =
      word key.Case at ∷ reading value ++ word key.Of of ∷ branches_reading firsts ++ branch_reading last ++ word key.Esac esac ∷ []
  reading (Binary left op at right) = reading left ++ symbol (operator_sign op) at ∷ reading right
  reading (Before prefix e) = prefix_reading prefix ++ reading e

  pub callee_reading : Callee → List Token
  callee_reading (OfSelf name at) = object name at ∷ []
  callee_reading (Of receiver dot name at) = reading receiver ++ symbol sign.Dot dot ∷ object name at ∷ []
  callee_reading (OfClass receiver mark class dot name at) =
      reading receiver ++ symbol sign.At mark ∷ type class ∷ symbol sign.Dot dot ∷ object name at ∷ []

  pub args_reading : Args → List Token
  args_reading NoArgs = []
  args_reading (Given firsts last) = parts_reading sign.Comma firsts ++ reading last

  -- with this sign after each part
  pub parts_reading : Sign → Parts → List Token
  parts_reading s NoPart = []
  parts_reading s (Then before e separator) = parts_reading s before ++ reading e ++ symbol s separator ∷ []

  pub branches_reading : Branches → List Token
  branches_reading NoBranch = []
  branches_reading (Also before branch) = branches_reading before ++ branch_reading branch

  pub branch_reading : Branch → List Token
  branch_reading (On v arrow body semi) = variable_reading v ++ symbol sign.FatArrow arrow ∷ reading body ++ symbol sign.Semi semi ∷ []

  pub prefix_reading : Prefix → List Token
  prefix_reading (Let at firsts last within) = word key.Let at ∷ bindings_reading firsts ++ binding_reading last ++ word key.In within ∷ []
  prefix_reading (Assign name at arrow) = object name at ∷ symbol sign.Arrow arrow ∷ []
  prefix_reading (Mark op at) = unary_token op at ∷ []

  pub bindings_reading : Bindings → List Token
  bindings_reading NoBinding = []
  bindings_reading (Next before binding comma) = bindings_reading before ++ binding_reading binding ++ symbol sign.Comma comma ∷ []

  pub binding_reading : Binding → List Token
  binding_reading (Default v) = variable_reading v
  binding_reading (Init v arrow e) = variable_reading v ++ symbol sign.Arrow arrow ∷ reading e

abbrev pub first_formals_reading : FirstFormals → List Token
first_formals_reading NoFormal = []
first_formals_reading (Comma before v comma) = first_formals_reading before ++ variable_reading v ++ symbol sign.Comma comma ∷ []

abbrev pub formals_reading : Formals → List Token
formals_reading NoFormals = []
formals_reading (Declared firsts last) = first_formals_reading firsts ++ variable_reading last

abbrev pub signature_reading : Signature → List Token
signature_reading s =
    object s.name s.at ∷ symbol sign.LParen s.lparen ∷ formals_reading s.formals
    ++ symbol sign.RParen s.rparen ∷ symbol sign.Colon s.colon ∷ type s.result ∷ symbol sign.LBrace s.lbrace ∷ []

abbrev pub feature_reading : ConcreteFeature → List Token
feature_reading (Method signature body rbrace semi) = signature_reading signature ++ reading body ++ symbol sign.RBrace rbrace ∷ symbol sign.Semi semi ∷ []
feature_reading (Attribute v semi) = variable_reading v ++ symbol sign.Semi semi ∷ []
feature_reading (Initialized v arrow e semi) = variable_reading v ++ symbol sign.Arrow arrow ∷ reading e ++ symbol sign.Semi semi ∷ []

abbrev pub features_reading : Features → List Token
features_reading NoFeature = []
features_reading (Another before feature) = features_reading before ++ feature_reading feature

abbrev pub parent_reading : Parent → List Token
parent_reading NoParent = []
parent_reading (Inherits at class) = word key.Inherits at ∷ type class ∷ []

abbrev pub heading_reading : Heading → List Token
heading_reading h = word key.Class h.mark ∷ type (record { name = h.name; at = h.at }) ∷ parent_reading h.parent ++ symbol sign.LBrace h.lbrace ∷ []

-- the tokens of a file
abbrev pub file_reading : Classes → List Token
file_reading NoClass = []
file_reading (Class before heading features rbrace semi) =
    file_reading before ++ heading_reading heading ++ features_reading features ++ symbol sign.RBrace rbrace ∷ symbol sign.Semi semi ∷ []
