-- The extents of expressions: the places of the first and the last token of each, without parentheses around it. A `self` that a call leaves out has the
-- extent of the method's name. A `let` with several variables is one `let` inside the other: the first begins at the word `let`, each other one at its
-- variable, and all end with the body.
use Rattle.std.specs.Prelude.{◌≡◌, refl, ℕ, ◌+◌, List, [], ◌∷◌, ◌++◌, codes}
use Rattle.cool_syntax.specs.declared.place.Place.{Place}
use Rattle.cool_syntax.specs.declared.operator.ArithOp.TheVariants as arith_op
use Rattle.cool_syntax.specs.declared.token.Token.{Token}
use Rattle.cool_syntax.specs.declared.token.Key.TheVariants as key
use Rattle.cool_syntax.specs.declared.token.Sign.TheVariants as sign
use Rattle.cool_syntax.specs.Bare.{nowhere}
use Rattle.cool_syntax.specs.ConcreteTrees.{Arith, Variable, Concrete, Name, Literal, New, Paren, Dispatch, If, While, Block, Case, Binary, Before, Callee, OfSelf, Of, OfClass, Args, NoArgs, Given, Parts, NoPart, Then, Branches, NoBranch, Also, Branch, On, Let, Assign, Mark, Bindings, NoBinding, Next, Binding, Default, Init}
use Rattle.cool_syntax.specs.PlainTrees.{plain}
use Rattle.cool_syntax.specs.Readings.{word, symbol, object, reading, binding_reading}
use Rattle.cool_syntax.specs.Tree.{Tree}
use Rattle.cool_extents.specs.declared.extent.Extent.{Extent}

-- the places of the first and of the last of some tokens
abbrev pub first_place : List Token → Place
first_place [] = nowhere
first_place (t ∷ ts) = t.at

abbrev pub last_place : List Token → Place
last_place [] = nowhere
last_place (t ∷ []) = t.at
last_place (t ∷ u ∷ ts) = last_place (u ∷ ts)

abbrev pub extent : List Token → Extent
extent tokens = record { first = first_place tokens; last = last_place tokens }

-- the word that opens a let, before its first variable
abbrev pub opening : Place → Bindings → List Token
opening at NoBinding = word key.Let at ∷ []
opening at (Next before binding comma) = []

-- the extents of the nodes of an expression, in the order of its list of nodes: those of its parts, and then its own
abbrev mutual
  pub extents : Concrete → List Extent
  extents (Name name at) = extent (reading (Name name at)) ∷ []
  extents (Literal value at) = extent (reading (Literal value at)) ∷ []
  extents (New at class) = extent (reading (New at class)) ∷ []
  extents (Paren lparen e rparen) = extents e
  extents (Dispatch callee lparen args rparen) =
      callee_extents callee ++ (args_extents args ++ extent (reading (Dispatch callee lparen args rparen)) ∷ [])
  extents (If at test then_at met else_at unmet fi) =
      extents test ++ (extents met ++ (extents unmet ++ extent (reading (If at test then_at met else_at unmet fi)) ∷ []))
  extents (While at test loop body pool) = extents test ++ (extents body ++ extent (reading (While at test loop body pool)) ∷ [])
  extents (Block lbrace firsts last semi rbrace) = parts_extents firsts ++ (extents last ++ extent (reading (Block lbrace firsts last semi rbrace)) ∷ [])
  extents (Case at value of firsts last esac) =
      extents value ++ (branches_extents firsts ++ (branch_extents last ++ extent (reading (Case at value of firsts last esac)) ∷ []))
  extents (Binary left op at right) = extents left ++ (extents right ++ extent (reading (Binary left op at right)) ∷ [])
  extents (Before (Let at firsts last within) e) =
      let_extents at firsts (binding_reading last ++ word key.In within ∷ reading e)
      (binding_extents (opening at firsts) last (word key.In within ∷ reading e) (extents e))
  extents (Before (Assign name at arrow) e) = extents e ++ extent (reading (Before (Assign name at arrow) e)) ∷ []
  extents (Before (Mark op at) e) = extents e ++ extent (reading (Before (Mark op at) e)) ∷ []

  pub callee_extents : Callee → List Extent
  callee_extents (OfSelf name at) = extent (object name at ∷ []) ∷ []
  callee_extents (Of receiver dot name at) = extents receiver
  callee_extents (OfClass receiver mark class dot name at) = extents receiver

  pub args_extents : Args → List Extent
  args_extents NoArgs = []
  args_extents (Given firsts last) = parts_extents firsts ++ extents last

  pub parts_extents : Parts → List Extent
  parts_extents NoPart = []
  parts_extents (Then before e separator) = parts_extents before ++ extents e

  pub branches_extents : Branches → List Extent
  branches_extents NoBranch = []
  branches_extents (Also before branch) = branches_extents before ++ branch_extents branch

  pub branch_extents : Branch → List Extent
  branch_extents (On v arrow body semi) = extents body

  -- the extents of a let of one variable, whose own tokens begin with the opening: `behind` are the tokens after the variable, and `inner` the extents
  -- of the body
  pub binding_extents : List Token → Binding → List Token → List Extent → List Extent
  binding_extents opening (Default v) behind inner = inner ++ extent (opening ++ (binding_reading (Default v) ++ behind)) ∷ []
  binding_extents opening (Init v arrow e) behind inner = extents e ++ (inner ++ extent (opening ++ (binding_reading (Init v arrow e) ++ behind)) ∷ [])

  -- the extents of lets, one inside the other: `behind` are the tokens after these variables, and `inner` the extents of the body
  pub let_extents : Place → Bindings → List Token → List Extent → List Extent
  let_extents at NoBinding behind inner = inner
  let_extents at (Next before binding comma) behind inner =
      let_extents at before (binding_reading binding ++ symbol sign.Comma comma ∷ behind)
      (binding_extents (opening at before) binding (symbol sign.Comma comma ∷ behind) inner)

-- The function gives the extents of the expressions of these tokens: wherever the tokens have the reading of an expression, the function gives its tree the
-- extents of the expression.
abbrev pub TellsExtents : List Token → (Tree → List Extent) → Type 0
TellsExtents tokens told = (before after : List Token) (e : Concrete) → tokens ≡ before ++ (reading e ++ after) → told (plain e) ≡ extents e

-- Worked examples: `(a + b).f()`, whose tokens have the bytes 0 to 8 of a line, and `let x : T, y : T in x`.
abbrev byte : ℕ → Place
byte k = record { file = 0; line = 1; byte = k }

abbrev from_to : ℕ → ℕ → Extent
from_to a b = record { first = byte a; last = byte b }

extents_of_call : extents
    (Dispatch
    (Of (Paren (byte 0) (Binary (Name (codes "a") (byte 1)) (Arith arith_op.Add) (byte 3) (Name (codes "b") (byte 5))) (byte 6)) (byte 7) (codes "f") (byte 8))
    (byte 9) NoArgs (byte 10))
    ≡ from_to 1 1 ∷ from_to 5 5 ∷ from_to 1 5 ∷ from_to 0 10 ∷ []
extents_of_call = refl

abbrev variable : ℕ → Variable
variable k = record { name = codes "x"; at = byte k; colon = byte (k + 2); declared = record { name = codes "T"; at = byte (k + 4) } }

extents_of_two_lets : extents (Before (Let (byte 0) (Next NoBinding (Default (variable 4)) (byte 9)) (Default (variable 11)) (byte 17)) (Name (codes "x") (byte 20)))
    ≡ from_to 20 20 ∷ from_to 11 20 ∷ from_to 0 20 ∷ []
extents_of_two_lets = refl
