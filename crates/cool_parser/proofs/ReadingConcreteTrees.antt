-- The parser's state machine, given the tokens of a concrete syntax tree that keeps the rules of precedence, rebuilds this tree.
use Rattle.std.proofs.Common.{◌≡◌, ℕ, ◌≤◌, List, [], ◌∷◌, ◌++◌, refl, ap, sym, ◌∙◌, arith, append_assoc, append-nil, Some, le-leb, cond, true, false}
use Rattle.cool_syntax.specs.declared.place.Place.{Place}
use Rattle.cool_syntax.specs.declared.token.Token.{Token}
use Rattle.cool_syntax.specs.declared.token.TokenKind.{TokenKind}
use Rattle.cool_syntax.specs.declared.token.TokenKind.TheVariants as kind
use Rattle.cool_syntax.specs.declared.token.Key.TheVariants as key
use Rattle.cool_syntax.specs.declared.token.Sign.{Sign}
use Rattle.cool_syntax.specs.declared.token.Sign.TheVariants as sign
use Rattle.cool_syntax.specs.declared.operator.ArithOp.TheVariants as arith_op
use Rattle.cool_syntax.specs.declared.operator.CompareOp.TheVariants as compare_op
use Rattle.cool_syntax.specs.ConcreteTrees.{Operator, Arith, Compare, Unary, Not, IsVoid, Neg, Constant, Int, Str, Truth, Concrete, Name, Literal, New, Paren, Dispatch, If, While, Block, Case, Binary, Before, Callee, OfSelf, Of, OfClass, Args, NoArgs, Given, Parts, NoPart, Then, Branches, NoBranch, Also, On, Prefix, Let, Assign, Mark, Bindings, NoBinding, Next, Binding, Default, Init, FirstFormals, NoFormal, Comma, Formals, NoFormals, Declared, Signature, ConcreteFeature, Method, Attribute, Initialized, Features, NoFeature, Another, Parent, NoParent, Inherits, Heading, Classes, NoClass, Class}
use Rattle.cool_syntax.specs.Readings.{operator_sign, unary_token, constant_token, word, symbol, object, type, variable_reading, reading, callee_reading, args_reading, parts_reading, branches_reading, branch_reading, prefix_reading, bindings_reading, binding_reading, first_formals_reading, signature_reading, feature_reading, features_reading, heading_reading, file_reading}
use Rattle.cool_syntax.specs.Shapes.{level, left_level, prefix_level, EndsAtLeast, BeginsAbove, IsReceiver, IsShaped, IsShapedCallee, AreShapedArgs, AreShapedParts, AreShapedBranches, IsShapedPrefix, AreShapedBindings, IsShapedBinding, IsShapedFeature, AreShapedFeatures, IsShapedFile}
use Rattle.cool_parser.specs.ParsingMachine.{is_right_parenthesis, is_right_brace}
use Rattle.cool_parser.proofs.ConcreteMachine.{Opened, OpenMethod, Around, InMethod, InAttribute, Dot, OpenCase, Parenthesis, Arguments, IfTest, IfYes, IfNo, WhileTest, WhileBody, Items, Value, CaseValue, BranchBody, Item, Left, Front, Open}
use Rattle.cool_parser.proofs.ConcreteMachine.{Need, Identifier, Have, MethodName, StaticClass, FirstArgument, NextItem, LetName, BranchName, BranchColon, NextBranch, State, File, InClass, FirstFormal, FormalColon, Inside}
use Rattle.cool_parser.proofs.ConcreteMachine.{reduce, shift, have, identifier, need, close, with_feature, step, run, bind, start}
use Rattle.std.proofs.lemmas.Bool.{lt-leb}

-- the state after a tree: the forms on its right spine are still open
abbrev pub state_after : Around → List Item → Concrete → State
state_after a st (Name name at) = Inside a st (Identifier name at)
state_after a st (Binary l op at r) = state_after a (Left l op at ∷ st) r
state_after a st (Before p e) = state_after a (Front p ∷ st) e
state_after a st t = Inside a st (Have t)

-- the tree may stand as an operand on this stack
abbrev pub Fits : List Item → Concrete → Type 0
Fits [] t = Unit {0}
Fits (Left l op at ∷ st) t = BeginsAbove (level op) t
Fits (Front p ∷ st) t = BeginsAbove (prefix_level p) t
Fits (Open f ∷ st) t = Unit {0}

-- an operator of at least this level ends
pub reduce_left : (k : ℕ) (st : List Item) (l : Concrete) (op : Operator) (at : Place) (t : Concrete) → k ≤ level op → reduce k (Left l op at ∷ st) t ≡ reduce k st (Binary l op at t)
reduce_left k st l op at t h = ap (λ b. cond b (reduce k st (Binary l op at t)) (record { stack = Left l op at ∷ st; operand = t })) (le-leb k (level op) h)

-- and so does a prefix form
pub reduce_front : (k : ℕ) (st : List Item) (p : Prefix) (t : Concrete) → k ≤ prefix_level p → reduce k (Front p ∷ st) t ≡ reduce k st (Before p t)
reduce_front k st p t h = ap (λ b. cond b (reduce k st (Before p t)) (record { stack = Front p ∷ st; operand = t })) (le-leb k (prefix_level p) h)

-- after an operand an operator ends those of its own left level and above
have_operator : (op : Operator) (at : Place) (a : Around) (st : List Item) (t : Concrete) → have a st t (kind.Sign (operator_sign op)) at ≡ shift op at a (reduce (left_level op) st t)
have_operator (Arith arith_op.Add) at a st t = refl
have_operator (Compare compare_op.Less) at a st t = refl
have_operator _ at a st t = refl

-- and so it does after an identifier
identifier_operator : (op : Operator) (at : Place) (a : Around) (st : List Item) (name : List ℕ) (here : Place)
    → identifier a st name here (kind.Sign (operator_sign op)) at ≡ shift op at a (reduce (left_level op) st (Name name here))
identifier_operator (Arith arith_op.Add) at a st name here = refl
identifier_operator (Compare compare_op.Less) at a st name here = refl
identifier_operator _ at a st name here = refl

-- an operator after a tree ends the forms on its right spine
operator_step : (op : Operator) (at : Place) (t : Concrete) (a : Around) (st : List Item) → EndsAtLeast (left_level op) t
    → step (state_after a st t) (kind.Sign (operator_sign op)) at ≡ shift op at a (reduce (left_level op) st t)
operator_step op at (Name name here) a st h = identifier_operator op at a st name here
operator_step op at (Binary l p here r) a st h =
    operator_step op at r a (Left l p here ∷ st) h.1 ∙ ap (shift op at a) (reduce_left (left_level op) st l p here r h.0)
operator_step op at (Before p e) a st h = operator_step op at e a (Front p ∷ st) h.1 ∙ ap (shift op at a) (reduce_front (left_level op) st p e h.0)
operator_step op at t a st h = have_operator op at a st t

-- the tokens that end an operand
abbrev pub IsCloser : TokenKind → Type 0
IsCloser (kind.Sign sign.RParen) = Unit {0}
IsCloser (kind.Sign sign.Comma) = Unit {0}
IsCloser (kind.Sign sign.Semi) = Unit {0}
IsCloser (kind.Sign sign.RBrace) = Unit {0}
IsCloser (kind.Key key.Then) = Unit {0}
IsCloser (kind.Key key.Else) = Unit {0}
IsCloser (kind.Key key.Fi) = Unit {0}
IsCloser (kind.Key key.Loop) = Unit {0}
IsCloser (kind.Key key.Pool) = Unit {0}
IsCloser (kind.Key key.Of) = Unit {0}
IsCloser (kind.Key key.In) = Unit {0}
IsCloser _ = ⊥

-- after an operand such a token ends all operators
pub have_closer : (k : TokenKind) (at : Place) (a : Around) (st : List Item) (t : Concrete) → IsCloser k → have a st t k at ≡ close k at a (reduce 0 st t)
have_closer (kind.Sign sign.RParen) at a st t h = refl
have_closer (kind.Sign sign.Comma) at a st t h = refl
have_closer (kind.Sign sign.Semi) at a st t h = refl
have_closer (kind.Sign sign.RBrace) at a st t h = refl
have_closer (kind.Key key.Then) at a st t h = refl
have_closer (kind.Key key.Else) at a st t h = refl
have_closer (kind.Key key.Fi) at a st t h = refl
have_closer (kind.Key key.Loop) at a st t h = refl
have_closer (kind.Key key.Pool) at a st t h = refl
have_closer (kind.Key key.Of) at a st t h = refl
have_closer (kind.Key key.In) at a st t h = refl
have_closer _ at a st t h = absurd h

-- and so it does after an identifier
pub identifier_closer : (k : TokenKind) (at : Place) (a : Around) (st : List Item) (name : List ℕ) (here : Place) → IsCloser k
    → identifier a st name here k at ≡ close k at a (reduce 0 st (Name name here))
identifier_closer (kind.Sign sign.RParen) at a st name here h = refl
identifier_closer (kind.Sign sign.Comma) at a st name here h = refl
identifier_closer (kind.Sign sign.Semi) at a st name here h = refl
identifier_closer (kind.Sign sign.RBrace) at a st name here h = refl
identifier_closer (kind.Key key.Then) at a st name here h = refl
identifier_closer (kind.Key key.Else) at a st name here h = refl
identifier_closer (kind.Key key.Fi) at a st name here h = refl
identifier_closer (kind.Key key.Loop) at a st name here h = refl
identifier_closer (kind.Key key.Pool) at a st name here h = refl
identifier_closer (kind.Key key.Of) at a st name here h = refl
identifier_closer (kind.Key key.In) at a st name here h = refl
identifier_closer _ at a st name here h = absurd h

-- a token that ends an operand ends all operators on a tree's right spine
closer : (k : TokenKind) (at : Place) (t : Concrete) (a : Around) (st : List Item) → IsCloser k → step (state_after a st t) k at ≡ close k at a (reduce 0 st t)
closer k at (Name name here) a st h = identifier_closer k at a st name here h
closer k at (Binary l op here r) a st h = closer k at r a (Left l op here ∷ st) h ∙ ap (close k at a) (reduce_left 0 st l op here r (omega arith))
closer k at (Before p e) a st h = closer k at e a (Front p ∷ st) h ∙ ap (close k at a) (reduce_front 0 st p e (omega arith))
closer k at t a st h = have_closer k at a st t h

-- a dot and an at sign take a receiver as it is
dot_step : (t : Concrete) (at : Place) (a : Around) (st : List Item) → IsReceiver t → step (state_after a st t) (kind.Sign sign.Dot) at ≡ Some (Inside a st (MethodName (Dot t at)))
dot_step (Binary l op here r) at a st h = absurd h
dot_step (Before p e) at a st h = absurd h
dot_step t at a st h = refl

-- the same before a type
at_step : (t : Concrete) (at : Place) (a : Around) (st : List Item) → IsReceiver t → step (state_after a st t) (kind.Sign sign.At) at ≡ Some (Inside a st (StaticClass t at))
at_step (Binary l op here r) at a st h = absurd h
at_step (Before p e) at a st h = absurd h
at_step t at a st h = refl

-- a run goes on after a token that may come
pub run_step : (s next : State) (t : Token) (ts : List Token) → step s t.kind t.at ≡ Some next → run s (t ∷ ts) ≡ run next ts
run_step s next t ts e = ap (λ o. bind o (λ n. run n ts)) e

-- the left operand of an operator fits where the operator does
fits_left : (l r : Concrete) (op : Operator) (at : Place) (st : List Item) → Fits st (Binary l op at r) → Fits st l
fits_left l r op at [] h = tt
fits_left l r op at (Left m p here ∷ st) h = h.1
fits_left l r op at (Front p ∷ st) h = h.1
fits_left l r op at (Open f ∷ st) h = tt

-- the receiver of a dispatch fits where the dispatch does
abbrev CalleeFits : List Item → Callee → Type 0
CalleeFits st (OfSelf name at) = Unit {0}
CalleeFits st (Of t dot name at) = Fits st t
CalleeFits st (OfClass t mark class dot name at) = Fits st t

-- the receiver of a call fits where the call does
fits_callee : (callee : Callee) (lparen : Place) (args : Args) (rparen : Place) (st : List Item) → Fits st (Dispatch callee lparen args rparen) → CalleeFits st callee
fits_callee (OfSelf name at) lparen args rparen st h = tt
fits_callee (Of t dot name at) lparen args rparen [] h = tt
fits_callee (Of t dot name at) lparen args rparen (Left m p here ∷ st) h = h
fits_callee (Of t dot name at) lparen args rparen (Front p ∷ st) h = h
fits_callee (Of t dot name at) lparen args rparen (Open f ∷ st) h = tt
fits_callee (OfClass t mark class dot name at) lparen args rparen [] h = tt
fits_callee (OfClass t mark class dot name at) lparen args rparen (Left m p here ∷ st) h = h
fits_callee (OfClass t mark class dot name at) lparen args rparen (Front p ∷ st) h = h
fits_callee (OfClass t mark class dot name at) lparen args rparen (Open f ∷ st) h = tt

-- no operator binds looser than a comparison
level_high : (op : Operator) → 3 ≤ level op
level_high (Arith arith_op.Add) = omega arith
level_high _ = omega arith

-- an operator that fits the stack stays on it
shift_fits : (op : Operator) (at : Place) (l r : Concrete) (a : Around) (st : List Item) → Fits st (Binary l op at r)
    → shift op at a (reduce (left_level op) st l) ≡ Some (Inside a (Left l op at ∷ st) Need)
shift_fits (Arith op) at l r a [] h = refl
shift_fits (Compare op) at l r a [] h = refl
shift_fits (Arith op) at l r a (Open f ∷ st) h = refl
shift_fits (Compare op) at l r a (Open f ∷ st) h = refl
shift_fits (Arith op) at l r a (Left m p here ∷ st) h =
    ap (λ b. shift (Arith op) at a (cond b (reduce (level (Arith op)) st (Binary m p here l)) (record { stack = Left m p here ∷ st; operand = l }))) (lt-leb (level (Arith op)) (level p) h.0)
shift_fits (Compare op) at l r a (Left m p here ∷ st) h = absurd (omega (arith, h.0, level_high p))
shift_fits (Arith op) at l r a (Front p ∷ st) h =
    ap (λ b. shift (Arith op) at a (cond b (reduce (level (Arith op)) st (Before p l)) (record { stack = Front p ∷ st; operand = l }))) (lt-leb (level (Arith op)) (prefix_level p) h.0)
shift_fits (Compare op) at l r a (Front p ∷ st) h =
    ap (λ b. shift (Compare op) at a (cond b (reduce 4 st (Before p l)) (record { stack = Front p ∷ st; operand = l }))) (lt-leb 4 (prefix_level p) (omega (arith, h.0)))

-- tokens that begin as an operand does: with no closing parenthesis and no closing brace
record BeginsOperand (ts : List Token) : Type 0 where
  first : Token
  rest : List Token
  same : ts ≡ first ∷ rest
  parenthesis : is_right_parenthesis first.kind ≡ false
  brace : is_right_brace first.kind ≡ false

-- so do these tokens with more after them
begins_more : (ts us : List Token) → BeginsOperand ts → BeginsOperand (ts ++ us)
begins_more ts us b = record { first = b.first; rest = b.rest ++ us; same = ap (λ vs. vs ++ us) b.same; parenthesis = b.parenthesis; brace = b.brace }

-- a constant
begins_literal : (value : Constant) (at : Place) → BeginsOperand (constant_token value at ∷ [])
begins_literal (Int value) at = record { first = constant_token (Int value) at; rest = []; same = refl; parenthesis = refl; brace = refl }
begins_literal (Str bytes) at = record { first = constant_token (Str bytes) at; rest = []; same = refl; parenthesis = refl; brace = refl }
begins_literal (Truth true) at = record { first = word key.True at; rest = []; same = refl; parenthesis = refl; brace = refl }
begins_literal (Truth false) at = record { first = word key.False at; rest = []; same = refl; parenthesis = refl; brace = refl }

-- a prefix operator
begins_mark : (op : Unary) (at : Place) → BeginsOperand (unary_token op at ∷ [])
begins_mark Not at = record { first = word key.Not at; rest = []; same = refl; parenthesis = refl; brace = refl }
begins_mark IsVoid at = record { first = word key.IsVoid at; rest = []; same = refl; parenthesis = refl; brace = refl }
begins_mark Neg at = record { first = symbol sign.Tilde at; rest = []; same = refl; parenthesis = refl; brace = refl }

-- a prefix form
begins_prefix : (p : Prefix) → BeginsOperand (prefix_reading p)
begins_prefix (Let at firsts last within) =
    record { first = word key.Let at; rest = bindings_reading firsts ++ binding_reading last ++ word key.In within ∷ []; same = refl; parenthesis = refl; brace = refl }
begins_prefix (Assign name at arrow) = record { first = object name at; rest = symbol sign.Arrow arrow ∷ []; same = refl; parenthesis = refl; brace = refl }
begins_prefix (Mark op at) = begins_mark op at

mutual
  begins : (t : Concrete) → BeginsOperand (reading t)
  begins (Name name at) = record { first = object name at; rest = []; same = refl; parenthesis = refl; brace = refl }
  begins (Literal value at) = begins_literal value at
  begins (New at class) = record { first = word key.New at; rest = type class ∷ []; same = refl; parenthesis = refl; brace = refl }
  begins (Paren lparen e rparen) = record { first = symbol sign.LParen lparen; rest = reading e ++ symbol sign.RParen rparen ∷ []; same = refl; parenthesis = refl; brace = refl }
  begins (Dispatch callee lparen args rparen) =
      let called = begins_more (callee_reading callee) (symbol sign.LParen lparen ∷ args_reading args) (begins_callee callee) in
      begins_more (callee_reading callee ++ symbol sign.LParen lparen ∷ args_reading args) (symbol sign.RParen rparen ∷ []) called
  begins (If at test then_at met else_at unmet fi) = record {
    first = word key.If at;
    rest = reading test ++ word key.Then then_at ∷ reading met ++ word key.Else else_at ∷ reading unmet ++ word key.Fi fi ∷ [];
    same = refl;
    parenthesis = refl;
    brace = refl;
  }
  begins (While at test loop body pool) =
      record { first = word key.While at; rest = reading test ++ word key.Loop loop ∷ reading body ++ word key.Pool pool ∷ []; same = refl; parenthesis = refl; brace = refl }
  begins (Block lbrace firsts last semi rbrace) = record {
    first = symbol sign.LBrace lbrace;
    rest = parts_reading sign.Semi firsts ++ reading last ++ symbol sign.Semi semi ∷ symbol sign.RBrace rbrace ∷ [];
    same = refl;
    parenthesis = refl;
    brace = refl;
  }
  begins (Case at value of firsts last esac) = record {
    first = word key.Case at;
    rest = reading value ++ word key.Of of ∷ branches_reading firsts ++ branch_reading last ++ word key.Esac esac ∷ [];
    same = refl;
    parenthesis = refl;
    brace = refl;
  }
  begins (Binary left op at right) = begins_more (reading left) (symbol (operator_sign op) at ∷ reading right) (begins left)
  begins (Before p e) = begins_more (prefix_reading p) (reading e) (begins_prefix p)

  begins_callee : (callee : Callee) → BeginsOperand (callee_reading callee)
  begins_callee (OfSelf name at) = record { first = object name at; rest = []; same = refl; parenthesis = refl; brace = refl }
  begins_callee (Of t dot name at) = begins_more (reading t) (symbol sign.Dot dot ∷ object name at ∷ []) (begins t)
  begins_callee (OfClass t mark class dot name at) = begins_more (reading t) (symbol sign.At mark ∷ type class ∷ symbol sign.Dot dot ∷ object name at ∷ []) (begins t)

-- parts and one more expression
begins_parts : (s : Sign) (firsts : Parts) (last : Concrete) → BeginsOperand (parts_reading s firsts ++ reading last)
begins_parts s NoPart last = begins last
begins_parts s (Then before e separator) last =
    let grouped : (parts_reading s before ++ reading e) ++ symbol s separator ∷ reading last ≡ (parts_reading s before ++ reading e ++ symbol s separator ∷ []) ++ reading last = simp append_assoc in
    let b = begins_more (parts_reading s before ++ reading e) (symbol s separator ∷ reading last) (begins_parts s before e) in
    record { first = b.first; rest = b.rest; same = sym grouped ∙ b.same; parenthesis = b.parenthesis; brace = b.brace }

-- if a closing parenthesis may stand too, an operand begins the first argument
first_need : (a : Around) (st : List Item) (callee : Callee) (lparen : Place) (ts : List Token) → BeginsOperand ts
    → run (Inside a st (FirstArgument callee lparen)) ts ≡ run (Inside a (Open (Arguments callee lparen NoPart) ∷ st) Need) ts
first_need a st callee lparen ts b =
    ap (run (Inside a st (FirstArgument callee lparen))) b.same
    ∙ ap (λ h. bind (cond h (Some (Inside a st (Have (Dispatch callee lparen NoArgs b.first.at)))) (need a (Open (Arguments callee lparen NoPart) ∷ st) b.first.kind b.first.at)) (λ n. run n b.rest)) b.parenthesis
    ∙ ap (run (Inside a (Open (Arguments callee lparen NoPart) ∷ st) Need)) (sym b.same)

-- if a closing brace may stand too, it begins the next item
next_need : (a : Around) (st : List Item) (lbrace : Place) (firsts : Parts) (last : Concrete) (semi : Place) (ts : List Token) → BeginsOperand ts
    → run (Inside a st (NextItem lbrace firsts last semi)) ts ≡ run (Inside a (Open (Items lbrace (Then firsts last semi)) ∷ st) Need) ts
next_need a st lbrace firsts last semi ts b =
    ap (run (Inside a st (NextItem lbrace firsts last semi))) b.same
    ∙ ap (λ h. bind (cond h (Some (Inside a st (Have (Block lbrace firsts last semi b.first.at)))) (need a (Open (Items lbrace (Then firsts last semi)) ∷ st) b.first.kind b.first.at)) (λ n. run n b.rest)) b.brace
    ∙ ap (run (Inside a (Open (Items lbrace (Then firsts last semi)) ∷ st) Need)) (sym b.same)

-- a constant is an operand
reads_literal : (value : Constant) (at : Place) (a : Around) (st : List Item) (ws : List Token) → run (Inside a st Need) (constant_token value at ∷ ws) ≡ run (Inside a st (Have (Literal value at))) ws
reads_literal (Truth true) at a st ws = refl
reads_literal _ at a st ws = refl

-- a prefix operator waits for its operand
reads_mark : (op : Unary) (at : Place) (a : Around) (st : List Item) (ws : List Token) → run (Inside a st Need) (unary_token op at ∷ ws) ≡ run (Inside a (Front (Mark op at) ∷ st) Need) ws
reads_mark Not at a st ws = refl
reads_mark IsVoid at a st ws = refl
reads_mark Neg at a st ws = refl

abbrev case_with : OpenCase → Branches → OpenCase
case_with c bs = record c { firsts = bs }

-- regroups a list of tokens
four : (a b c d e : List Token) → (a ++ b ++ c ++ d) ++ e ≡ a ++ (b ++ (c ++ (d ++ e)))
four a b c d e = simp append_assoc

-- if an operand is due, the machine reads a shaped tree that fits
mutual
  pub reads : (t : Concrete) (a : Around) (st : List Item) (ws : List Token) → IsShaped t → Fits st t → run (Inside a st Need) (reading t ++ ws) ≡ run (state_after a st t) ws
  reads (Name name at) a st ws s f = refl
  reads (Literal value at) a st ws s f = reads_literal value at a st ws
  reads (New at class) a st ws s f = refl
  reads (Paren lparen e rparen) a st ws s f =
      ap (run (Inside a (Open (Parenthesis lparen) ∷ st) Need)) (append_assoc (reading e) _ ws)
      ∙ reads e a (Open (Parenthesis lparen) ∷ st) _ s tt
      ∙ run_step (state_after a (Open (Parenthesis lparen) ∷ st) e) (Inside a st (Have (Paren lparen e rparen))) (symbol sign.RParen rparen) ws (closer (kind.Sign sign.RParen) rparen e a (Open (Parenthesis lparen) ∷ st) tt)
  reads (Dispatch callee lparen args rparen) a st ws s f =
      let grouped : (callee_reading callee ++ symbol sign.LParen lparen ∷ args_reading args ++ symbol sign.RParen rparen ∷ []) ++ ws
      ≡ callee_reading callee ++ symbol sign.LParen lparen ∷ (args_reading args ++ symbol sign.RParen rparen ∷ ws) = simp append_assoc in
      ap (run (Inside a st Need)) grouped
      ∙ reads_callee callee lparen a st (args_reading args ++ symbol sign.RParen rparen ∷ ws) s.0 (fits_callee callee lparen args rparen st f)
      ∙ reads_args args callee lparen rparen a st ws s.1
  reads (If at test then_at met else_at unmet fi) a st ws s f =
      let after_unmet = word key.Fi fi ∷ ws in
      let after_met = word key.Else else_at ∷ (reading unmet ++ after_unmet) in
      let after_test = word key.Then then_at ∷ (reading met ++ after_met) in
      let grouped : (reading test ++ word key.Then then_at ∷ reading met ++ word key.Else else_at ∷ reading unmet ++ word key.Fi fi ∷ []) ++ ws ≡ reading test ++ after_test = simp append_assoc in
      let one = Open (IfTest at) ∷ st in
      let two = Open (IfYes at test then_at) ∷ st in
      let three = Open (IfNo at test then_at met else_at) ∷ st in
      ap (run (Inside a one Need)) grouped
      ∙ reads test a one after_test s.0 tt
      ∙ run_step (state_after a one test) (Inside a two Need) (word key.Then then_at) (reading met ++ after_met) (closer (kind.Key key.Then) then_at test a one tt)
      ∙ reads met a two after_met s.1 tt
      ∙ run_step (state_after a two met) (Inside a three Need) (word key.Else else_at) (reading unmet ++ after_unmet) (closer (kind.Key key.Else) else_at met a two tt)
      ∙ reads unmet a three after_unmet s.2 tt
      ∙ run_step (state_after a three unmet) (Inside a st (Have (If at test then_at met else_at unmet fi))) (word key.Fi fi) ws (closer (kind.Key key.Fi) fi unmet a three tt)
  reads (While at test loop body pool) a st ws s f =
      let after_body = word key.Pool pool ∷ ws in
      let after_test = word key.Loop loop ∷ (reading body ++ after_body) in
      let grouped : (reading test ++ word key.Loop loop ∷ reading body ++ word key.Pool pool ∷ []) ++ ws ≡ reading test ++ after_test = simp append_assoc in
      let one = Open (WhileTest at) ∷ st in
      let two = Open (WhileBody at test loop) ∷ st in
      ap (run (Inside a one Need)) grouped
      ∙ reads test a one after_test s.0 tt
      ∙ run_step (state_after a one test) (Inside a two Need) (word key.Loop loop) (reading body ++ after_body) (closer (kind.Key key.Loop) loop test a one tt)
      ∙ reads body a two after_body s.1 tt
      ∙ run_step (state_after a two body) (Inside a st (Have (While at test loop body pool))) (word key.Pool pool) ws (closer (kind.Key key.Pool) pool body a two tt)
  reads (Block lbrace firsts last semi rbrace) a st ws s f =
      let after = symbol sign.Semi semi ∷ symbol sign.RBrace rbrace ∷ ws in
      let grouped : (parts_reading sign.Semi firsts ++ reading last ++ symbol sign.Semi semi ∷ symbol sign.RBrace rbrace ∷ []) ++ ws ≡ parts_reading sign.Semi firsts ++ (reading last ++ after) = simp append_assoc in
      let here = Open (Items lbrace firsts) ∷ st in
      ap (run (Inside a (Open (Items lbrace NoPart) ∷ st) Need)) grouped
      ∙ reads_items firsts lbrace a st (reading last ++ after) s.0 (begins_more (reading last) after (begins last))
      ∙ reads last a here after s.1 tt
      ∙ run_step (state_after a here last) (Inside a st (NextItem lbrace firsts last semi)) (symbol sign.Semi semi) (symbol sign.RBrace rbrace ∷ ws) (closer (kind.Sign sign.Semi) semi last a here tt)
  reads (Case at value of firsts (On v arrow body semi) esac) a st ws s f =
      let after_body = symbol sign.Semi semi ∷ word key.Esac esac ∷ ws in
      let rest = symbol sign.Colon v.colon ∷ type v.declared ∷ symbol sign.FatArrow arrow ∷ (reading body ++ after_body) in
      let branches = branches_reading firsts ++ object v.name v.at ∷ rest in
      let grouped = four (reading value) (word key.Of of ∷ branches_reading firsts) (branch_reading (On v arrow body semi)) (word key.Esac esac ∷ []) ws
      ∙ ap (λ us. reading value ++ word key.Of of ∷ (branches_reading firsts ++ object v.name v.at ∷ symbol sign.Colon v.colon ∷ type v.declared ∷ symbol sign.FatArrow arrow ∷ us)) (append_assoc (reading body) (symbol sign.Semi semi ∷ []) (word key.Esac esac ∷ ws)) in
      let one = Open (CaseValue at) ∷ st in
      let c : OpenCase = record { at = at; value = value; of = of; firsts = firsts } in
      let two = Open (BranchBody c v arrow) ∷ st in
      ap (run (Inside a one Need)) grouped
      ∙ reads value a one (word key.Of of ∷ branches) s.0 tt
      ∙ run_step (state_after a one value) (Inside a st (BranchName (case_with c NoBranch))) (word key.Of of) branches (closer (kind.Key key.Of) of value a one tt)
      ∙ reads_branches firsts c a st v.name v.at rest s.1
      ∙ reads body a two after_body s.2 tt
      ∙ run_step (state_after a two body) (Inside a st (NextBranch c (On v arrow body semi))) (symbol sign.Semi semi) (word key.Esac esac ∷ ws) (closer (kind.Sign sign.Semi) semi body a two tt)
  reads (Binary l op at r) a st ws s f =
      ap (run (Inside a st Need)) (append_assoc (reading l) _ ws)
      ∙ reads l a st _ s.2 (fits_left l r op at st f)
      ∙ run_step (state_after a st l) (Inside a (Left l op at ∷ st) Need) (symbol (operator_sign op) at) _ (operator_step op at l a st s.0 ∙ shift_fits op at l r a st f)
      ∙ reads r a (Left l op at ∷ st) ws s.3 s.1
  reads (Before p e) a st ws s f =
      ap (run (Inside a st Need)) (append_assoc (prefix_reading p) (reading e) ws)
      ∙ reads_prefix p a st (reading e ++ ws) s.0
      ∙ reads e a (Front p ∷ st) ws s.2 s.1

  reads_callee : (callee : Callee) (lparen : Place) (a : Around) (st : List Item) (ws : List Token) → IsShapedCallee callee → CalleeFits st callee
      → run (Inside a st Need) (callee_reading callee ++ symbol sign.LParen lparen ∷ ws) ≡ run (Inside a st (FirstArgument callee lparen)) ws
  reads_callee (OfSelf name at) lparen a st ws s f = refl
  reads_callee (Of t dot name at) lparen a st ws s f =
      let rest = object name at ∷ symbol sign.LParen lparen ∷ ws in
      ap (run (Inside a st Need)) (append_assoc (reading t) (symbol sign.Dot dot ∷ object name at ∷ []) (symbol sign.LParen lparen ∷ ws))
      ∙ reads t a st (symbol sign.Dot dot ∷ rest) s.1 f
      ∙ run_step (state_after a st t) (Inside a st (MethodName (Dot t dot))) (symbol sign.Dot dot) rest (dot_step t dot a st s.0)
  reads_callee (OfClass t mark class dot name at) lparen a st ws s f =
      let rest = type class ∷ symbol sign.Dot dot ∷ object name at ∷ symbol sign.LParen lparen ∷ ws in
      ap (run (Inside a st Need)) (append_assoc (reading t) (symbol sign.At mark ∷ type class ∷ symbol sign.Dot dot ∷ object name at ∷ []) (symbol sign.LParen lparen ∷ ws))
      ∙ reads t a st (symbol sign.At mark ∷ rest) s.1 f
      ∙ run_step (state_after a st t) (Inside a st (StaticClass t mark)) (symbol sign.At mark) rest (at_step t mark a st s.0)

  reads_args : (args : Args) (callee : Callee) (lparen rparen : Place) (a : Around) (st : List Item) (ws : List Token) → AreShapedArgs args
      → run (Inside a st (FirstArgument callee lparen)) (args_reading args ++ symbol sign.RParen rparen ∷ ws) ≡ run (Inside a st (Have (Dispatch callee lparen args rparen))) ws
  reads_args NoArgs callee lparen rparen a st ws s = refl
  reads_args (Given firsts last) callee lparen rparen a st ws s =
      let after = symbol sign.RParen rparen ∷ ws in
      let here = Open (Arguments callee lparen firsts) ∷ st in
      first_need a st callee lparen ((parts_reading sign.Comma firsts ++ reading last) ++ after) (begins_more (parts_reading sign.Comma firsts ++ reading last) after (begins_parts sign.Comma firsts last))
      ∙ ap (run (Inside a (Open (Arguments callee lparen NoPart) ∷ st) Need)) (append_assoc (parts_reading sign.Comma firsts) (reading last) after)
      ∙ reads_arguments firsts callee lparen a st (reading last ++ after) s.0
      ∙ reads last a here after s.1 tt
      ∙ run_step (state_after a here last) (Inside a st (Have (Dispatch callee lparen (Given firsts last) rparen))) (symbol sign.RParen rparen) ws (closer (kind.Sign sign.RParen) rparen last a here tt)

  reads_arguments : (firsts : Parts) (callee : Callee) (lparen : Place) (a : Around) (st : List Item) (ws : List Token) → AreShapedParts firsts
      → run (Inside a (Open (Arguments callee lparen NoPart) ∷ st) Need) (parts_reading sign.Comma firsts ++ ws) ≡ run (Inside a (Open (Arguments callee lparen firsts) ∷ st) Need) ws
  reads_arguments NoPart callee lparen a st ws s = refl
  reads_arguments (Then before e comma) callee lparen a st ws s =
      let here = Open (Arguments callee lparen before) ∷ st in
      let grouped : (parts_reading sign.Comma before ++ reading e ++ symbol sign.Comma comma ∷ []) ++ ws ≡ parts_reading sign.Comma before ++ (reading e ++ symbol sign.Comma comma ∷ ws) = simp append_assoc in
      ap (run (Inside a (Open (Arguments callee lparen NoPart) ∷ st) Need)) grouped
      ∙ reads_arguments before callee lparen a st (reading e ++ symbol sign.Comma comma ∷ ws) s.0
      ∙ reads e a here (symbol sign.Comma comma ∷ ws) s.1 tt
      ∙ run_step (state_after a here e) (Inside a (Open (Arguments callee lparen (Then before e comma)) ∷ st) Need) (symbol sign.Comma comma) ws (closer (kind.Sign sign.Comma) comma e a here tt)

  reads_items : (firsts : Parts) (lbrace : Place) (a : Around) (st : List Item) (ws : List Token) → AreShapedParts firsts → BeginsOperand ws
      → run (Inside a (Open (Items lbrace NoPart) ∷ st) Need) (parts_reading sign.Semi firsts ++ ws) ≡ run (Inside a (Open (Items lbrace firsts) ∷ st) Need) ws
  reads_items NoPart lbrace a st ws s b = refl
  reads_items (Then before e semi) lbrace a st ws s b =
      let here = Open (Items lbrace before) ∷ st in
      let after = symbol sign.Semi semi ∷ ws in
      let grouped : (parts_reading sign.Semi before ++ reading e ++ symbol sign.Semi semi ∷ []) ++ ws ≡ parts_reading sign.Semi before ++ (reading e ++ after) = simp append_assoc in
      ap (run (Inside a (Open (Items lbrace NoPart) ∷ st) Need)) grouped
      ∙ reads_items before lbrace a st (reading e ++ after) s.0 (begins_more (reading e) after (begins e))
      ∙ reads e a here after s.1 tt
      ∙ run_step (state_after a here e) (Inside a st (NextItem lbrace before e semi)) (symbol sign.Semi semi) ws (closer (kind.Sign sign.Semi) semi e a here tt)
      ∙ next_need a st lbrace before e semi ws b

  reads_branches : (firsts : Branches) (c : OpenCase) (a : Around) (st : List Item) (name : List ℕ) (at : Place) (ws : List Token) → AreShapedBranches firsts
      → run (Inside a st (BranchName (case_with c NoBranch))) (branches_reading firsts ++ object name at ∷ ws) ≡ run (Inside a st (BranchColon (case_with c firsts) name at)) ws
  reads_branches NoBranch c a st name at ws s = refl
  reads_branches (Also before (On v arrow body semi)) c a st name at ws s =
      let here = Open (BranchBody (case_with c before) v arrow) ∷ st in
      let after = symbol sign.Semi semi ∷ object name at ∷ ws in
      let rest = symbol sign.Colon v.colon ∷ type v.declared ∷ symbol sign.FatArrow arrow ∷ (reading body ++ after) in
      let grouped = append_assoc (branches_reading before) (branch_reading (On v arrow body semi)) (object name at ∷ ws)
      ∙ ap (λ us. branches_reading before ++ object v.name v.at ∷ symbol sign.Colon v.colon ∷ type v.declared ∷ symbol sign.FatArrow arrow ∷ us) (append_assoc (reading body) (symbol sign.Semi semi ∷ []) (object name at ∷ ws)) in
      ap (run (Inside a st (BranchName (case_with c NoBranch)))) grouped
      ∙ reads_branches before c a st v.name v.at rest s.0
      ∙ reads body a here after s.1 tt
      ∙ run_step (state_after a here body) (Inside a st (NextBranch (case_with c before) (On v arrow body semi))) (symbol sign.Semi semi) (object name at ∷ ws) (closer (kind.Sign sign.Semi) semi body a here tt)

  reads_prefix : (p : Prefix) (a : Around) (st : List Item) (ws : List Token) → IsShapedPrefix p → run (Inside a st Need) (prefix_reading p ++ ws) ≡ run (Inside a (Front p ∷ st) Need) ws
  reads_prefix (Let at firsts last within) a st ws s =
      let grouped : (bindings_reading firsts ++ binding_reading last ++ word key.In within ∷ []) ++ ws ≡ bindings_reading firsts ++ (binding_reading last ++ word key.In within ∷ ws) = simp append_assoc in
      ap (run (Inside a st (LetName at NoBinding))) grouped
      ∙ reads_bindings firsts at a st (binding_reading last ++ word key.In within ∷ ws) s.0
      ∙ reads_last_binding last at firsts within a st ws s.1
  reads_prefix (Assign name at arrow) a st ws s = refl
  reads_prefix (Mark op at) a st ws s = reads_mark op at a st ws

  reads_bindings : (firsts : Bindings) (at : Place) (a : Around) (st : List Item) (ws : List Token) → AreShapedBindings firsts
      → run (Inside a st (LetName at NoBinding)) (bindings_reading firsts ++ ws) ≡ run (Inside a st (LetName at firsts)) ws
  reads_bindings NoBinding at a st ws s = refl
  reads_bindings (Next before binding comma) at a st ws s =
      let grouped : (bindings_reading before ++ binding_reading binding ++ symbol sign.Comma comma ∷ []) ++ ws ≡ bindings_reading before ++ (binding_reading binding ++ symbol sign.Comma comma ∷ ws) = simp append_assoc in
      ap (run (Inside a st (LetName at NoBinding))) grouped
      ∙ reads_bindings before at a st (binding_reading binding ++ symbol sign.Comma comma ∷ ws) s.0
      ∙ reads_first_binding binding at before comma a st ws s.1

  reads_first_binding : (binding : Binding) (at : Place) (before : Bindings) (comma : Place) (a : Around) (st : List Item) (ws : List Token) → IsShapedBinding binding
      → run (Inside a st (LetName at before)) (binding_reading binding ++ symbol sign.Comma comma ∷ ws) ≡ run (Inside a st (LetName at (Next before binding comma))) ws
  reads_first_binding (Default v) at before comma a st ws s = refl
  reads_first_binding (Init v arrow e) at before comma a st ws s =
      let here = Open (Value at before v arrow) ∷ st in
      reads e a here (symbol sign.Comma comma ∷ ws) s tt
      ∙ run_step (state_after a here e) (Inside a st (LetName at (Next before (Init v arrow e) comma))) (symbol sign.Comma comma) ws (closer (kind.Sign sign.Comma) comma e a here tt)

  reads_last_binding : (binding : Binding) (at : Place) (before : Bindings) (within : Place) (a : Around) (st : List Item) (ws : List Token) → IsShapedBinding binding
      → run (Inside a st (LetName at before)) (binding_reading binding ++ word key.In within ∷ ws) ≡ run (Inside a (Front (Let at before binding within) ∷ st) Need) ws
  reads_last_binding (Default v) at before within a st ws s = refl
  reads_last_binding (Init v arrow e) at before within a st ws s =
      let here = Open (Value at before v arrow) ∷ st in
      reads e a here (word key.In within ∷ ws) s tt
      ∙ run_step (state_after a here e) (Inside a (Front (Let at before (Init v arrow e) within) ∷ st) Need) (word key.In within) ws (closer (kind.Key key.In) within e a here tt)

-- Classes and features

abbrev class_with : Opened → Features → Opened
class_with o fs = record o { features = fs }

-- the formals that a comma follows
reads_formals : (firsts : FirstFormals) (m : OpenMethod) (name : List ℕ) (at : Place) (ws : List Token)
    → run (FirstFormal m.class m.name m.at m.lparen) (first_formals_reading firsts ++ object name at ∷ ws) ≡ run (FormalColon (record m { firsts = firsts }) name at) ws
reads_formals NoFormal m name at ws = refl
reads_formals (Comma before v comma) m name at ws =
    let rest = symbol sign.Colon v.colon ∷ type v.declared ∷ symbol sign.Comma comma ∷ object name at ∷ ws in
    let grouped : (first_formals_reading before ++ variable_reading v ++ symbol sign.Comma comma ∷ []) ++ object name at ∷ ws ≡ first_formals_reading before ++ object v.name v.at ∷ rest = simp append_assoc in
    ap (run (FirstFormal m.class m.name m.at m.lparen)) grouped ∙ reads_formals before m v.name v.at rest

-- a method up to its body
reads_signature : (s : Signature) (formals : Formals) (o : Opened) (ws : List Token)
    → run (InClass o) (signature_reading (record s { formals = formals }) ++ ws) ≡ run (Inside (InMethod o (record s { formals = formals })) [] Need) ws
reads_signature s NoFormals o ws = refl
reads_signature s (Declared firsts last) o ws =
    let m : OpenMethod = record { class = o; name = s.name; at = s.at; lparen = s.lparen; firsts = firsts } in
    let after = symbol sign.RParen s.rparen ∷ symbol sign.Colon s.colon ∷ type s.result ∷ symbol sign.LBrace s.lbrace ∷ ws in
    let rest = symbol sign.Colon last.colon ∷ type last.declared ∷ after in
    let grouped : ((first_formals_reading firsts ++ variable_reading last) ++ symbol sign.RParen s.rparen ∷ symbol sign.Colon s.colon ∷ type s.result ∷ symbol sign.LBrace s.lbrace ∷ []) ++ ws ≡ first_formals_reading firsts ++ object last.name last.at ∷ rest = simp append_assoc in
    ap (run (FirstFormal o s.name s.at s.lparen)) grouped ∙ reads_formals firsts m last.name last.at rest

-- a feature
reads_feature : (f : ConcreteFeature) (o : Opened) (ws : List Token) → IsShapedFeature f → run (InClass o) (feature_reading f ++ ws) ≡ run (InClass (with_feature o f)) ws
reads_feature (Method s body rbrace semi) o ws h =
    let after = symbol sign.RBrace rbrace ∷ symbol sign.Semi semi ∷ ws in
    let a = InMethod o s in
    let grouped : (signature_reading s ++ reading body ++ symbol sign.RBrace rbrace ∷ symbol sign.Semi semi ∷ []) ++ ws ≡ signature_reading s ++ (reading body ++ after) = simp append_assoc in
    ap (run (InClass o)) grouped
    ∙ reads_signature s s.formals o (reading body ++ after)
    ∙ reads body a [] after h tt
    ∙ run_step (state_after a [] body) _ (symbol sign.RBrace rbrace) (symbol sign.Semi semi ∷ ws) (closer (kind.Sign sign.RBrace) rbrace body a [] tt)
reads_feature (Attribute v semi) o ws h = refl
reads_feature (Initialized v arrow e semi) o ws h =
    let a = InAttribute o v arrow in
    ap (run (Inside a [] Need)) (append_assoc (reading e) (symbol sign.Semi semi ∷ []) ws)
    ∙ reads e a [] (symbol sign.Semi semi ∷ ws) h tt
    ∙ run_step (state_after a [] e) (InClass (with_feature o (Initialized v arrow e semi))) (symbol sign.Semi semi) ws (closer (kind.Sign sign.Semi) semi e a [] tt)

-- features in order
reads_features : (fs : Features) (o : Opened) (ws : List Token) → AreShapedFeatures fs → run (InClass (class_with o NoFeature)) (features_reading fs ++ ws) ≡ run (InClass (class_with o fs)) ws
reads_features NoFeature o ws s = refl
reads_features (Another before f) o ws s =
    ap (run (InClass (class_with o NoFeature))) (append_assoc (features_reading before) (feature_reading f) ws)
    ∙ reads_features before o (feature_reading f ++ ws) s.0
    ∙ reads_feature f (class_with o before) ws s.1

-- a class up to its features
reads_heading : (h : Heading) (parent : Parent) (cs : Classes) (ws : List Token)
    → run (File cs) (heading_reading (record h { parent = parent }) ++ ws) ≡ run (InClass (record { classes = cs; heading = record h { parent = parent }; features = NoFeature })) ws
reads_heading h NoParent cs ws = refl
reads_heading h (Inherits at class) cs ws = refl

-- classes in order
pub reads_classes : (cs : Classes) (ws : List Token) → IsShapedFile cs → run start (file_reading cs ++ ws) ≡ run (File cs) ws
reads_classes NoClass ws s = refl
reads_classes (Class before heading features rbrace semi) ws s =
    let o : Opened = record { classes = before; heading = heading; features = features } in
    let end = symbol sign.RBrace rbrace ∷ symbol sign.Semi semi ∷ ws in
    ap (run start) (four (file_reading before) (heading_reading heading) (features_reading features) (symbol sign.RBrace rbrace ∷ symbol sign.Semi semi ∷ []) ws)
    ∙ reads_classes before (heading_reading heading ++ (features_reading features ++ end)) s.0
    ∙ reads_heading heading heading.parent before (features_reading features ++ end)
    ∙ reads_features features o end s.1

-- the machine reads each shaped file to its end
pub complete : (cs : Classes) → IsShapedFile cs → run start (file_reading cs) ≡ Some (File cs)
complete cs s = ap (run start) (sym (append-nil (file_reading cs))) ∙ reads_classes cs [] s

-- no two shaped files have one reading
pub one_file : (cs ds : Classes) → IsShapedFile cs → IsShapedFile ds → file_reading cs ≡ file_reading ds → cs ≡ ds
one_file cs ds s u e = let same : Some (File cs) ≡ Some (File ds) = sym (complete cs s) ∙ ap (run start) e ∙ complete ds u in cc
