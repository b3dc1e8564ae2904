-- The concrete syntax tree that the parser's state machine builds keeps the rules of precedence, and its tokens from left to right are the tokens that were
-- read.
use Rattle.std.proofs.Common.{◌≡◌, ℕ, ◌<◌, ◌≤◌, nat_le, List, [], ◌∷◌, ◌++◌, refl, ap, sym, subst, ◌∙◌, arith, append_assoc, append-nil, Option, Some, None, IfSome, cond, true, false}
use Rattle.std.proofs.lemmas.Bool.{leb-true, leb-false}
use Rattle.cool_syntax.specs.declared.place.Place.{Place}
use Rattle.cool_syntax.specs.declared.token.Token.{Token}
use Rattle.cool_syntax.specs.declared.token.TokenKind.{TokenKind}
use Rattle.cool_syntax.specs.declared.token.TokenKind.TheVariants as kind
use Rattle.cool_syntax.specs.declared.token.Key.TheVariants as key
use Rattle.cool_syntax.specs.declared.token.Sign.TheVariants as sign
use Rattle.cool_syntax.specs.declared.operator.ArithOp.{ArithOp}
use Rattle.cool_syntax.specs.declared.operator.ArithOp.TheVariants as arith_op
use Rattle.cool_syntax.specs.declared.operator.CompareOp.{CompareOp}
use Rattle.cool_syntax.specs.declared.operator.CompareOp.TheVariants as compare_op
use Rattle.cool_syntax.specs.ConcreteTrees.{Operator, Arith, Compare, Unary, Not, IsVoid, Neg, Variable, Concrete, Name, Literal, New, Paren, Dispatch, If, While, Block, Case, Binary, Before, Callee, OfSelf, Of, OfClass, Parts, NoPart, Then, Branch, Prefix, Let, Assign, Mark, Bindings, Classes}
use Rattle.cool_syntax.specs.Readings.{operator_sign, word, symbol, object, type, variable_reading, reading, callee_reading, parts_reading, branches_reading, prefix_reading, bindings_reading, first_formals_reading, formals_reading, signature_reading, features_reading, heading_reading, file_reading}
use Rattle.cool_syntax.specs.Shapes.{level, left_level, unary_level, prefix_level, EndsAtLeast, BeginsAbove, CalleeBeginsAbove, IsReceiver, IsShaped, IsShapedCallee, AreShapedParts, AreShapedBranches, IsShapedBranch, IsShapedPrefix, AreShapedBindings, AreShapedFeatures, IsShapedFile}
use Rattle.cool_parser.proofs.ConcreteMachine.{Opened, OpenMethod, ClosedMethod, Around, InMethod, InAttribute, Target, Dot, StaticDot, OpenCase, Form, Parenthesis, Arguments, IfTest, IfYes, IfNo, WhileTest, WhileBody, Items, Value, CaseValue, BranchBody, Item, Left, Front, Open}
use Rattle.cool_parser.proofs.ConcreteMachine.{Mode, Need, Identifier, Have, StaticClass, StaticEnd, MethodName, CallParenthesis, FirstArgument, NextItem, LetName, LetColon, LetType, LetEnd, BranchName, BranchColon, BranchType, BranchArrow, NextBranch, NewType}
use Rattle.cool_parser.proofs.ConcreteMachine.{State, File, ClassName, ClassHead, ParentName, ClassBrace, InClass, ClassEnd, FeatureName, FirstFormal, FormalName, FormalColon, FormalType, FormalEnd, ResultColon, ResultType, MethodBrace, MethodEnd, AttributeType, AttributeEnd, Inside}
use Rattle.cool_parser.proofs.ConcreteMachine.{Top, reduce, shift, close_on, close_body, close_stack, close, with_branch, have, need, identifier, first_argument, next_item, next_branch, callee_of, let_end, inside_step, class_head, in_class, feature_name, first_formal, formal_end, attribute_end, step, run, bind, start}
use Rattle.cool_parser.proofs.ReadingConcreteTrees.{Fits}

-- Regrouping

-- the end of a body
two : (a b c : List Token) (t : Token) → a ++ (b ++ (c ++ t ∷ [])) ≡ ((a ++ b) ++ c) ++ t ∷ []
two a b c t = simp append_assoc

-- after two tokens
after_two : (a : List Token) (s t : Token) (b c : List Token) (u : Token) → a ++ s ∷ t ∷ (b ++ (c ++ u ∷ [])) ≡ (a ++ s ∷ t ∷ (b ++ c)) ++ u ∷ []
after_two a s t b c u = simp append_assoc

-- the end of a branch
branch_words : (a s b t c d u e v : List Token) → a ++ (s ++ (b ++ (t ++ (c ++ ((d ++ (u ++ e)) ++ v))))) ≡ ((a ++ ((s ++ (b ++ (t ++ c))) ++ (d ++ u))) ++ e) ++ v
branch_words a s b t c d u e v = simp append_assoc

-- the end of a feature without a body
in_class_words : (a b c d e : List Token) → a ++ (b ++ (c ++ (d ++ e))) ≡ ((a ++ (b ++ c)) ++ d) ++ e
in_class_words a b c d e = simp append_assoc

-- the end of an initial value
initial_words : (a b c d : List Token) (s : Token) (e : List Token) (t : Token)
    → a ++ (b ++ (c ++ ((d ++ s ∷ e) ++ t ∷ []))) ≡ (((a ++ (b ++ c)) ++ (d ++ s ∷ [])) ++ e) ++ t ∷ []
initial_words a b c d s e t = simp append_assoc

-- the end of a method
method_end_words : (a b c d e : List Token) (s t : Token) → a ++ (b ++ (c ++ ((d ++ e) ++ s ∷ t ∷ []))) ≡ ((a ++ (b ++ c)) ++ (d ++ (e ++ s ∷ []))) ++ t ∷ []
method_end_words a b c d e s t = simp append_assoc

-- the end of a class
class_end_words : (a b c : List Token) (s t : Token) → ((a ++ b) ++ c) ++ s ∷ t ∷ [] ≡ ((a ++ (b ++ c)) ++ s ∷ []) ++ t ∷ []
class_end_words a b c s t = simp append_assoc

-- The tokens of a state

abbrev pub opened_words : Opened → List Token
opened_words o = file_reading o.classes ++ (heading_reading o.heading ++ features_reading o.features)

abbrev pub around_words : Around → List Token
around_words (InMethod o s) = opened_words o ++ signature_reading s
around_words (InAttribute o v arrow) = opened_words o ++ (variable_reading v ++ symbol sign.Arrow arrow ∷ [])

abbrev pub target_words : Target → List Token
target_words (Dot t dot) = reading t ++ symbol sign.Dot dot ∷ []
target_words (StaticDot t mark class dot) = reading t ++ symbol sign.At mark ∷ type class ∷ symbol sign.Dot dot ∷ []

abbrev pub case_words : OpenCase → List Token
case_words c = word key.Case c.at ∷ (reading c.value ++ word key.Of c.of ∷ branches_reading c.firsts)

abbrev pub form_words : Form → List Token
form_words (Parenthesis lparen) = symbol sign.LParen lparen ∷ []
form_words (Arguments callee lparen firsts) = callee_reading callee ++ symbol sign.LParen lparen ∷ parts_reading sign.Comma firsts
form_words (IfTest at) = word key.If at ∷ []
form_words (IfYes at test then_at) = word key.If at ∷ (reading test ++ word key.Then then_at ∷ [])
form_words (IfNo at test then_at met else_at) = word key.If at ∷ (reading test ++ word key.Then then_at ∷ (reading met ++ word key.Else else_at ∷ []))
form_words (WhileTest at) = word key.While at ∷ []
form_words (WhileBody at test loop) = word key.While at ∷ (reading test ++ word key.Loop loop ∷ [])
form_words (Items lbrace firsts) = symbol sign.LBrace lbrace ∷ parts_reading sign.Semi firsts
form_words (Value at firsts v arrow) = word key.Let at ∷ (bindings_reading firsts ++ (variable_reading v ++ symbol sign.Arrow arrow ∷ []))
form_words (CaseValue at) = word key.Case at ∷ []
form_words (BranchBody c v arrow) = case_words c ++ (variable_reading v ++ symbol sign.FatArrow arrow ∷ [])

abbrev pub item_words : Item → List Token
item_words (Left l op at) = reading l ++ symbol (operator_sign op) at ∷ []
item_words (Front p) = prefix_reading p
item_words (Open f) = form_words f

abbrev pub stack_words : Around → List Item → List Token
stack_words a [] = around_words a
stack_words a (i ∷ st) = stack_words a st ++ item_words i

abbrev pub inside_words : List Token → Mode → List Token
inside_words ws Need = ws
inside_words ws (Identifier name at) = ws ++ object name at ∷ []
inside_words ws (Have t) = ws ++ reading t
inside_words ws (StaticClass t mark) = ws ++ (reading t ++ symbol sign.At mark ∷ [])
inside_words ws (StaticEnd t mark class) = ws ++ (reading t ++ symbol sign.At mark ∷ type class ∷ [])
inside_words ws (MethodName target) = ws ++ target_words target
inside_words ws (CallParenthesis target name at) = ws ++ (target_words target ++ object name at ∷ [])
inside_words ws (FirstArgument callee lparen) = ws ++ (callee_reading callee ++ symbol sign.LParen lparen ∷ [])
inside_words ws (NextItem lbrace firsts last semi) = ws ++ symbol sign.LBrace lbrace ∷ parts_reading sign.Semi (Then firsts last semi)
inside_words ws (LetName at firsts) = ws ++ word key.Let at ∷ bindings_reading firsts
inside_words ws (LetColon at firsts name here) = ws ++ word key.Let at ∷ (bindings_reading firsts ++ object name here ∷ [])
inside_words ws (LetType at firsts name here colon) = ws ++ word key.Let at ∷ (bindings_reading firsts ++ object name here ∷ symbol sign.Colon colon ∷ [])
inside_words ws (LetEnd at firsts v) = ws ++ word key.Let at ∷ (bindings_reading firsts ++ variable_reading v)
inside_words ws (BranchName c) = ws ++ case_words c
inside_words ws (BranchColon c name here) = ws ++ (case_words c ++ object name here ∷ [])
inside_words ws (BranchType c name here colon) = ws ++ (case_words c ++ object name here ∷ symbol sign.Colon colon ∷ [])
inside_words ws (BranchArrow c v) = ws ++ (case_words c ++ variable_reading v)
inside_words ws (NextBranch c b) = ws ++ case_words (with_branch c b)
inside_words ws (NewType at) = ws ++ word key.New at ∷ []

abbrev pub method_words : Opened → List ℕ → Place → Place → List Token → List Token
method_words o name at lparen ws = opened_words o ++ object name at ∷ symbol sign.LParen lparen ∷ ws

abbrev pub closed_words : ClosedMethod → List Token → List Token
closed_words m ws = method_words m.class m.name m.at m.lparen (formals_reading m.formals ++ symbol sign.RParen m.rparen ∷ ws)

abbrev pub class_words : Classes → Place → List ℕ → Place → List Token → List Token
class_words cs mark name at ws = file_reading cs ++ word key.Class mark ∷ type (record { name = name; at = at }) ∷ ws

abbrev pub said : State → List Token
said (File cs) = file_reading cs
said (ClassName cs mark) = file_reading cs ++ word key.Class mark ∷ []
said (ClassHead cs mark name at) = class_words cs mark name at []
said (ParentName cs mark name at inherits) = class_words cs mark name at (word key.Inherits inherits ∷ [])
said (ClassBrace cs mark name at inherits parent) = class_words cs mark name at (word key.Inherits inherits ∷ type parent ∷ [])
said (InClass o) = opened_words o
said (ClassEnd o rbrace) = opened_words o ++ symbol sign.RBrace rbrace ∷ []
said (FeatureName o name at) = opened_words o ++ object name at ∷ []
said (FirstFormal o name at lparen) = method_words o name at lparen []
said (FormalName m) = method_words m.class m.name m.at m.lparen (first_formals_reading m.firsts)
said (FormalColon m name at) = method_words m.class m.name m.at m.lparen (first_formals_reading m.firsts ++ object name at ∷ [])
said (FormalType m name at colon) = method_words m.class m.name m.at m.lparen (first_formals_reading m.firsts ++ object name at ∷ symbol sign.Colon colon ∷ [])
said (FormalEnd m v) = method_words m.class m.name m.at m.lparen (first_formals_reading m.firsts ++ variable_reading v)
said (ResultColon m) = closed_words m []
said (ResultType m colon) = closed_words m (symbol sign.Colon colon ∷ [])
said (MethodBrace m colon result) = closed_words m (symbol sign.Colon colon ∷ type result ∷ [])
said (MethodEnd o s body rbrace) = opened_words o ++ (signature_reading s ++ (reading body ++ symbol sign.RBrace rbrace ∷ []))
said (AttributeType o name at colon) = opened_words o ++ object name at ∷ symbol sign.Colon colon ∷ []
said (AttributeEnd o v) = opened_words o ++ variable_reading v
said (Inside a st m) = inside_words (stack_words a st) m

abbrev top_words : Around → Top → List Token
top_words a top = stack_words a top.stack ++ reading top.operand

-- operators that end keep the tokens
reduce_words : (k : ℕ) (a : Around) (st : List Item) (t : Concrete) → top_words a (reduce k st t) ≡ stack_words a st ++ reading t
reduce_words k a [] t = refl
reduce_words k a (Left l op at ∷ st) t =
    let grouped : stack_words a st ++ (reading l ++ symbol (operator_sign op) at ∷ reading t) ≡ (stack_words a st ++ (reading l ++ symbol (operator_sign op) at ∷ [])) ++ reading t = simp append_assoc in
    elim (nat_le k (level op)) as (λ b. top_words a (cond b (reduce k st (Binary l op at t)) (record { stack = Left l op at ∷ st; operand = t })) ≡ (stack_words a st ++ (reading l ++ symbol (operator_sign op) at ∷ [])) ++ reading t)
    [ true ↦ reduce_words k a st (Binary l op at t) ∙ grouped | false ↦ refl ]
reduce_words k a (Front p ∷ st) t =
    elim (nat_le k (prefix_level p)) as (λ b. top_words a (cond b (reduce k st (Before p t)) (record { stack = Front p ∷ st; operand = t })) ≡ (stack_words a st ++ prefix_reading p) ++ reading t)
    [ true ↦ reduce_words k a st (Before p t) ∙ sym (append_assoc (stack_words a st) (prefix_reading p) (reading t)) | false ↦ refl ]
reduce_words k a (Open f ∷ st) t = refl

-- The invariant of a state

abbrev pub IsGoodOpened : Opened → Type 0
IsGoodOpened o = IsShapedFile o.classes × AreShapedFeatures o.features

abbrev pub IsGoodAround : Around → Type 0
IsGoodAround (InMethod o s) = IsGoodOpened o
IsGoodAround (InAttribute o v arrow) = IsGoodOpened o

abbrev pub IsGoodTarget : Target → Type 0
IsGoodTarget (Dot t dot) = IsReceiver t × IsShaped t
IsGoodTarget (StaticDot t mark class dot) = IsReceiver t × IsShaped t

abbrev pub IsGoodCase : OpenCase → Type 0
IsGoodCase c = IsShaped c.value × AreShapedBranches c.firsts

abbrev pub IsGoodForm : Form → Type 0
IsGoodForm (Parenthesis lparen) = Unit {0}
IsGoodForm (Arguments callee lparen firsts) = IsShapedCallee callee × AreShapedParts firsts
IsGoodForm (IfTest at) = Unit {0}
IsGoodForm (IfYes at test then_at) = IsShaped test
IsGoodForm (IfNo at test then_at met else_at) = IsShaped test × IsShaped met
IsGoodForm (WhileTest at) = Unit {0}
IsGoodForm (WhileBody at test loop) = IsShaped test
IsGoodForm (Items lbrace firsts) = AreShapedParts firsts
IsGoodForm (Value at firsts v arrow) = AreShapedBindings firsts
IsGoodForm (CaseValue at) = Unit {0}
IsGoodForm (BranchBody c v arrow) = IsGoodCase c

-- the operator on the top has a level below this one
abbrev pub Stops : ℕ → List Item → Type 0
Stops k [] = Unit {0}
Stops k (Left l op at ∷ st) = level op < k
Stops k (Front p ∷ st) = prefix_level p < k
Stops k (Open f ∷ st) = Unit {0}

abbrev pub IsGood : Around → List Item → Type 0
IsGood a [] = IsGoodAround a
IsGood a (Left l op at ∷ st) = EndsAtLeast (left_level op) l × IsShaped l × Fits st l × Stops (level op) st × IsGood a st
IsGood a (Front p ∷ st) = IsShapedPrefix p × IsGood a st
IsGood a (Open f ∷ st) = IsGoodForm f × IsGood a st

abbrev pub IsGoodMode : Mode → Type 0
IsGoodMode Need = Unit {0}
IsGoodMode (Identifier name at) = Unit {0}
IsGoodMode (Have t) = IsReceiver t × IsShaped t
IsGoodMode (StaticClass t mark) = IsReceiver t × IsShaped t
IsGoodMode (StaticEnd t mark class) = IsReceiver t × IsShaped t
IsGoodMode (MethodName target) = IsGoodTarget target
IsGoodMode (CallParenthesis target name at) = IsGoodTarget target
IsGoodMode (FirstArgument callee lparen) = IsShapedCallee callee
IsGoodMode (NextItem lbrace firsts last semi) = AreShapedParts firsts × IsShaped last
IsGoodMode (LetName at firsts) = AreShapedBindings firsts
IsGoodMode (LetColon at firsts name here) = AreShapedBindings firsts
IsGoodMode (LetType at firsts name here colon) = AreShapedBindings firsts
IsGoodMode (LetEnd at firsts v) = AreShapedBindings firsts
IsGoodMode (BranchName c) = IsGoodCase c
IsGoodMode (BranchColon c name here) = IsGoodCase c
IsGoodMode (BranchType c name here colon) = IsGoodCase c
IsGoodMode (BranchArrow c v) = IsGoodCase c
IsGoodMode (NextBranch c b) = IsGoodCase c × IsShapedBranch b
IsGoodMode (NewType at) = Unit {0}

abbrev pub IsGoodState : State → Type 0
IsGoodState (File cs) = IsShapedFile cs
IsGoodState (ClassName cs mark) = IsShapedFile cs
IsGoodState (ClassHead cs mark name at) = IsShapedFile cs
IsGoodState (ParentName cs mark name at inherits) = IsShapedFile cs
IsGoodState (ClassBrace cs mark name at inherits parent) = IsShapedFile cs
IsGoodState (InClass o) = IsGoodOpened o
IsGoodState (ClassEnd o rbrace) = IsGoodOpened o
IsGoodState (FeatureName o name at) = IsGoodOpened o
IsGoodState (FirstFormal o name at lparen) = IsGoodOpened o
IsGoodState (FormalName m) = IsGoodOpened m.class
IsGoodState (FormalColon m name at) = IsGoodOpened m.class
IsGoodState (FormalType m name at colon) = IsGoodOpened m.class
IsGoodState (FormalEnd m v) = IsGoodOpened m.class
IsGoodState (ResultColon m) = IsGoodOpened m.class
IsGoodState (ResultType m colon) = IsGoodOpened m.class
IsGoodState (MethodBrace m colon result) = IsGoodOpened m.class
IsGoodState (MethodEnd o s body rbrace) = IsGoodOpened o × IsShaped body
IsGoodState (AttributeType o name at colon) = IsGoodOpened o
IsGoodState (AttributeEnd o v) = IsGoodOpened o
IsGoodState (Inside a st m) = IsGoodMode m × IsGood a st

-- the state after the operators of at least a level have ended
pub record IsGoodTop (k : ℕ) (a : Around) (top : Top) : Type 0 where
  pub good : IsGood a top.stack
  pub shaped : IsShaped top.operand
  pub fits : Fits top.stack top.operand
  pub spine : EndsAtLeast k top.operand
  pub stops : Stops k top.stack

-- an operator fits on a stack that stops below its level
fits_binary : (l r : Concrete) (op : Operator) (at : Place) (st : List Item) → Stops (level op) st → Fits st l → Fits st (Binary l op at r)
fits_binary l r op at [] b f = tt
fits_binary l r op at (Left m p here ∷ st) b f = (b, f)
fits_binary l r op at (Front p ∷ st) b f = (b, f)
fits_binary l r op at (Open form ∷ st) b f = tt

-- a prefix form fits everywhere
fits_before : (p : Prefix) (e : Concrete) (st : List Item) → Fits st (Before p e)
fits_before p e [] = tt
fits_before p e (Left m q here ∷ st) = tt
fits_before p e (Front q ∷ st) = tt
fits_before p e (Open form ∷ st) = tt

-- operators that end keep what holds of the stack and the operand
reduce_good : (k : ℕ) (a : Around) (st : List Item) (t : Concrete) → IsGood a st → IsShaped t → Fits st t → EndsAtLeast k t → IsGoodTop k a (reduce k st t)
reduce_good k a [] t g s f h = record { good = g; shaped = s; fits = f; spine = h; stops = tt }
reduce_good k a (Left l op at ∷ st) t g s f h =
    elim (nat_le k (level op)) as (λ b. nat_le k (level op) ≡ b → IsGoodTop k a (cond b (reduce k st (Binary l op at t)) (record { stack = Left l op at ∷ st; operand = t }))) [
      | true ↦ (λ e. reduce_good k a st (Binary l op at t) g.4 (g.0, f, g.1, s) (fits_binary l t op at st g.3 g.2) (leb-true k (level op) e, h))
      | false ↦ (λ e. record { good = g; shaped = s; fits = f; spine = h; stops = leb-false k (level op) e })
    ] refl
reduce_good k a (Front p ∷ st) t g s f h =
    elim (nat_le k (prefix_level p)) as (λ b. nat_le k (prefix_level p) ≡ b → IsGoodTop k a (cond b (reduce k st (Before p t)) (record { stack = Front p ∷ st; operand = t }))) [
      | true ↦ (λ e. reduce_good k a st (Before p t) g.1 (g.0, f, s) (fits_before p t st) (leb-true k (prefix_level p) e, h))
      | false ↦ (λ e. record { good = g; shaped = s; fits = f; spine = h; stops = leb-false k (prefix_level p) e })
    ] refl
reduce_good k a (Open form ∷ st) t g s f h = record { good = g; shaped = s; fits = f; spine = h; stops = tt }

-- a receiver fits everywhere: it has no binary node on its left spine, and nothing on its right spine
mutual
  receiver_begins : (k : ℕ) (t : Concrete) → IsReceiver t → IsShaped t → BeginsAbove k t
  receiver_begins k (Dispatch callee lparen args rparen) r s = callee_begins k callee s.0
  receiver_begins k (Binary l op at e) r s = absurd r
  receiver_begins k (Before p e) r s = absurd r
  receiver_begins k _ r s = tt

  callee_begins : (k : ℕ) (callee : Callee) → IsShapedCallee callee → CalleeBeginsAbove k callee
  callee_begins k (OfSelf name at) s = tt
  callee_begins k (Of t dot name at) s = receiver_begins k t s.0 s.1
  callee_begins k (OfClass t mark class dot name at) s = receiver_begins k t s.0 s.1

-- a receiver ends with no operand
receiver_ends : (k : ℕ) (t : Concrete) → IsReceiver t → EndsAtLeast k t
receiver_ends k (Binary l op at e) r = absurd r
receiver_ends k (Before p e) r = absurd r
receiver_ends k t r = tt

-- so it fits on every stack
receiver_fits : (t : Concrete) (st : List Item) → IsReceiver t → IsShaped t → Fits st t
receiver_fits t [] r s = tt
receiver_fits t (Left m p here ∷ st) r s = receiver_begins (level p) t r s
receiver_fits t (Front p ∷ st) r s = receiver_begins (prefix_level p) t r s
receiver_fits t (Open form ∷ st) r s = tt

-- the state after the operators after a receiver have ended
have_top : (k : ℕ) (a : Around) (st : List Item) (t : Concrete) → IsReceiver t → IsShaped t → IsGood a st → IsGoodTop k a (reduce k st t)
have_top k a st t r s g = reduce_good k a st t g s (receiver_fits t st r s) (receiver_ends k t r)

-- One token

-- if there is a state, it is good, and its tokens are these and one more
abbrev pub Goes : List Token → Token → Option State → Type 0
Goes ws t o = IfSome o (λ s. IsGoodState s × (said s ≡ ws ++ t ∷ []))

-- the same, from tokens that are equal
goes_from : (vs ws : List Token) (t : Token) (o : Option State) → vs ≡ ws → Goes vs t o → Goes ws t o
goes_from vs ws t None e g = tt
goes_from vs ws t (Some s) e g = (g.0, g.1 ∙ ap (λ us. us ++ t ∷ []) e)

-- an operator is put on the stack
shifted : (op : Operator) (at : Place) (a : Around) (st : List Item) (t : Concrete) → EndsAtLeast (left_level op) t → IsShaped t → Fits st t → Stops (level op) st → IsGood a st
    → Goes (stack_words a st ++ reading t) (symbol (operator_sign op) at) (Some (Inside a (Left t op at ∷ st) Need))
shifted op at a st t h s f b g = ((tt, (h, s, f, b, g)), sym (append_assoc (stack_words a st) (reading t) (symbol (operator_sign op) at ∷ [])))

-- arithmetic binds tighter than comparisons
level_arith : (op : ArithOp) → 4 ≤ level (Arith op)
level_arith arith_op.Add = omega arith
level_arith arith_op.Sub = omega arith
level_arith arith_op.Mul = omega arith
level_arith arith_op.Div = omega arith

-- no prefix operator has the level of comparisons
unary_low : (op : Unary) → unary_level op < 4 → unary_level op < 3
unary_low Not h = omega arith
unary_low IsVoid h = absurd (omega (arith, h))
unary_low Neg h = absurd (omega (arith, h))

-- and no prefix form has
prefix_low : (p : Prefix) → prefix_level p < 4 → prefix_level p < 3
prefix_low (Let at firsts last within) h = omega arith
prefix_low (Assign name at arrow) h = omega arith
prefix_low (Mark op at) h = unary_low op h

-- a comparison comes
compare_goes : (op : CompareOp) (at : Place) (a : Around) (st : List Item) (t : Concrete) → IsGood a st → IsShaped t → Fits st t → EndsAtLeast 4 t → Stops 4 st
    → Goes (stack_words a st ++ reading t) (symbol (operator_sign (Compare op)) at) (shift (Compare op) at a (record { stack = st; operand = t }))
compare_goes op at a [] t g s f h b = shifted (Compare op) at a [] t h s f tt g
compare_goes op at a (Left l (Compare p) here ∷ st) t g s f h b = tt
compare_goes op at a (Left l (Arith p) here ∷ st) t g s f h b = absurd (omega (arith, b, level_arith p))
compare_goes op at a (Front p ∷ st) t g s f h b = shifted (Compare op) at a (Front p ∷ st) t h s f (prefix_low p b) g
compare_goes op at a (Open form ∷ st) t g s f h b = shifted (Compare op) at a (Open form ∷ st) t h s f tt g

-- an operator comes, on a stack that stops below it
shift_goes : (op : Operator) (at : Place) (a : Around) (top : Top) → IsGoodTop (left_level op) a top → Goes (top_words a top) (symbol (operator_sign op) at) (shift op at a top)
shift_goes (Compare op) at a top g = compare_goes op at a top.stack top.operand g.good g.shaped g.fits g.spine g.stops
shift_goes (Arith op) at a top g = shifted (Arith op) at a top.stack top.operand g.spine g.shaped g.fits g.stops g.good

-- an operator comes after a receiver
operator_goes : (op : Operator) (at : Place) (a : Around) (st : List Item) (t : Concrete) → IsReceiver t → IsShaped t → IsGood a st
    → Goes (stack_words a st ++ reading t) (symbol (operator_sign op) at) (shift op at a (reduce (left_level op) st t))
operator_goes op at a st t r s g =
    let top = reduce (left_level op) st t in
    goes_from (top_words a top) (stack_words a st ++ reading t) (symbol (operator_sign op) at) (shift op at a top) (reduce_words (left_level op) a st t) (shift_goes op at a top (have_top (left_level op) a st t r s g))

-- a form gets its expression
close_goes : (f : Form) (k : TokenKind) (at : Place) (a : Around) (st : List Item) (t : Concrete) → IsGoodForm f → IsGood a st → IsShaped t
    → Goes ((stack_words a st ++ form_words f) ++ reading t) (record { kind = k; at = at }) (close_on f k at a st t)
close_goes (Parenthesis lparen) (kind.Sign sign.RParen) at a st t h g s = (((tt, s), g), simp append_assoc)
close_goes (Arguments callee lparen firsts) (kind.Sign sign.RParen) at a st t h g s = (((tt, (h.0, (h.1, s))), g), simp append_assoc)
close_goes (Arguments callee lparen firsts) (kind.Sign sign.Comma) at a st t h g s = ((tt, ((h.0, (h.1, s)), g)), simp append_assoc)
close_goes (Value here firsts v arrow) (kind.Sign sign.Comma) at a st t h g s = (((h, s), g), simp append_assoc)
close_goes (Value here firsts v arrow) (kind.Key key.In) at a st t h g s = ((tt, ((h, s), g)), simp append_assoc)
close_goes (IfTest here) (kind.Key key.Then) at a st t h g s = ((tt, (s, g)), simp append_assoc)
close_goes (IfYes here test then_at) (kind.Key key.Else) at a st t h g s = ((tt, ((h, s), g)), simp append_assoc)
close_goes (IfNo here test then_at met else_at) (kind.Key key.Fi) at a st t h g s = (((tt, (h.0, h.1, s)), g), simp append_assoc)
close_goes (WhileTest here) (kind.Key key.Loop) at a st t h g s = ((tt, (s, g)), simp append_assoc)
close_goes (WhileBody here test loop) (kind.Key key.Pool) at a st t h g s = (((tt, (h, s)), g), simp append_assoc)
close_goes (CaseValue here) (kind.Key key.Of) at a st t h g s = (((s, tt), g), simp append_assoc)
close_goes (BranchBody c v arrow) (kind.Sign sign.Semi) at a st t h g s =
    (((h, s), g), branch_words (stack_words a st) (word key.Case c.at ∷ []) (reading c.value) (word key.Of c.of ∷ []) (branches_reading c.firsts) (variable_reading v) (symbol sign.FatArrow arrow ∷ []) (reading t) (symbol sign.Semi at ∷ []))
close_goes (Items lbrace firsts) (kind.Sign sign.Semi) at a st t h g s = (((h, s), g), simp append_assoc)
close_goes _ _ at a st t h g s = tt

-- the body of a feature ends
body_goes : (a : Around) (k : TokenKind) (at : Place) (t : Concrete) → IsGoodAround a → IsShaped t → Goes (around_words a ++ reading t) (record { kind = k; at = at }) (close_body a k at t)
body_goes (InMethod o s) (kind.Sign sign.RBrace) at t g h = ((g, h), two (opened_words o) (signature_reading s) (reading t) (symbol sign.RBrace at))
body_goes (InAttribute o v arrow) (kind.Sign sign.Semi) at t g h =
    ((g.0, (g.1, h)), initial_words (file_reading o.classes) (heading_reading o.heading) (features_reading o.features) (variable_reading v) (symbol sign.Arrow arrow) (reading t) (symbol sign.Semi at))
body_goes _ _ at t g h = tt

-- a token comes where all operators have ended
stack_goes : (k : TokenKind) (at : Place) (a : Around) (st : List Item) (t : Concrete) → IsGood a st → IsShaped t → Goes (stack_words a st ++ reading t) (record { kind = k; at = at }) (close_stack k at a st t)
stack_goes k at a [] t g s = body_goes a k at t g s
stack_goes k at a (Open f ∷ st) t g s = close_goes f k at a st t g.0 g.1 s
stack_goes k at a (Left l op here ∷ st) t g s = tt
stack_goes k at a (Front p ∷ st) t g s = tt

-- a token that is no operator comes after a receiver
closer_goes : (k : TokenKind) (at : Place) (a : Around) (st : List Item) (t : Concrete) → IsReceiver t → IsShaped t → IsGood a st
    → Goes (stack_words a st ++ reading t) (record { kind = k; at = at }) (close k at a (reduce 0 st t))
closer_goes k at a st t r s g =
    let top = reduce 0 st t in
    let good = have_top 0 a st t r s g in
    goes_from (top_words a top) (stack_words a st ++ reading t) (record { kind = k; at = at }) (close k at a top) (reduce_words 0 a st t) (stack_goes k at a top.stack top.operand good.good good.shaped)

-- a token comes after a receiver
have_goes : (a : Around) (st : List Item) (t : Concrete) (k : TokenKind) (at : Place) → IsReceiver t → IsShaped t → IsGood a st
    → Goes (stack_words a st ++ reading t) (record { kind = k; at = at }) (have a st t k at)
have_goes a st t (kind.Sign sign.Dot) at r s g = (((r, s), g), sym (append_assoc (stack_words a st) (reading t) (symbol sign.Dot at ∷ [])))
have_goes a st t (kind.Sign sign.At) at r s g = (((r, s), g), sym (append_assoc (stack_words a st) (reading t) (symbol sign.At at ∷ [])))
have_goes a st t (kind.Sign sign.Plus) at r s g = operator_goes (Arith arith_op.Add) at a st t r s g
have_goes a st t (kind.Sign sign.Minus) at r s g = operator_goes (Arith arith_op.Sub) at a st t r s g
have_goes a st t (kind.Sign sign.Star) at r s g = operator_goes (Arith arith_op.Mul) at a st t r s g
have_goes a st t (kind.Sign sign.Slash) at r s g = operator_goes (Arith arith_op.Div) at a st t r s g
have_goes a st t (kind.Sign sign.Less) at r s g = operator_goes (Compare compare_op.Less) at a st t r s g
have_goes a st t (kind.Sign sign.LessEqual) at r s g = operator_goes (Compare compare_op.LessEqual) at a st t r s g
have_goes a st t (kind.Sign sign.Equal) at r s g = operator_goes (Compare compare_op.Equal) at a st t r s g
have_goes a st t k at r s g = closer_goes k at a st t r s g

-- a token comes where an operand is due
need_goes : (a : Around) (st : List Item) (k : TokenKind) (at : Place) → IsGood a st → Goes (stack_words a st) (record { kind = k; at = at }) (need a st k at)
need_goes a st (kind.ObjectId name) at g = ((tt, g), refl)
need_goes a st (kind.Int value) at g = (((tt, tt), g), refl)
need_goes a st (kind.Str bytes) at g = (((tt, tt), g), refl)
need_goes a st (kind.Key key.True) at g = (((tt, tt), g), refl)
need_goes a st (kind.Key key.False) at g = (((tt, tt), g), refl)
need_goes a st (kind.Key key.If) at g = ((tt, (tt, g)), refl)
need_goes a st (kind.Key key.While) at g = ((tt, (tt, g)), refl)
need_goes a st (kind.Key key.Case) at g = ((tt, (tt, g)), refl)
need_goes a st (kind.Key key.Let) at g = ((tt, g), refl)
need_goes a st (kind.Key key.New) at g = ((tt, g), refl)
need_goes a st (kind.Key key.Not) at g = ((tt, (tt, g)), refl)
need_goes a st (kind.Key key.IsVoid) at g = ((tt, (tt, g)), refl)
need_goes a st (kind.Sign sign.Tilde) at g = ((tt, (tt, g)), refl)
need_goes a st (kind.Sign sign.LParen) at g = ((tt, (tt, g)), refl)
need_goes a st (kind.Sign sign.LBrace) at g = ((tt, (tt, g)), refl)
need_goes a st _ at g = tt

-- a token comes after an identifier
identifier_goes : (a : Around) (st : List Item) (name : List ℕ) (here : Place) (k : TokenKind) (at : Place) → IsGood a st
    → Goes (stack_words a st ++ object name here ∷ []) (record { kind = k; at = at }) (identifier a st name here k at)
identifier_goes a st name here (kind.Sign sign.Arrow) at g = ((tt, (tt, g)), sym (append_assoc (stack_words a st) (object name here ∷ []) (symbol sign.Arrow at ∷ [])))
identifier_goes a st name here (kind.Sign sign.LParen) at g = ((tt, g), sym (append_assoc (stack_words a st) (object name here ∷ []) (symbol sign.LParen at ∷ [])))
identifier_goes a st name here k at g = have_goes a st (Name name here) k at tt tt g

-- a token comes after the parenthesis of arguments
first_goes : (a : Around) (st : List Item) (callee : Callee) (lparen : Place) (k : TokenKind) (at : Place) → IsShapedCallee callee → IsGood a st
    → Goes (stack_words a st ++ (callee_reading callee ++ symbol sign.LParen lparen ∷ [])) (record { kind = k; at = at }) (first_argument a st callee lparen k at)
first_goes a st callee lparen (kind.Sign sign.RParen) at h g = (((tt, (h, tt)), g), simp append_assoc)
first_goes a st callee lparen k at h g = need_goes a (Open (Arguments callee lparen NoPart) ∷ st) k at ((h, tt), g)

-- a token comes after a semicolon of a block
next_goes : (a : Around) (st : List Item) (lbrace : Place) (firsts : Parts) (last : Concrete) (semi : Place) (k : TokenKind) (at : Place) → AreShapedParts firsts → IsShaped last → IsGood a st
    → Goes (said (Inside a st (NextItem lbrace firsts last semi))) (record { kind = k; at = at }) (next_item a st lbrace firsts last semi k at)
next_goes a st lbrace firsts last semi (kind.Sign sign.RBrace) at h s g = (((tt, (h, s)), g), simp append_assoc)
next_goes a st lbrace firsts last semi k at h s g = need_goes a (Open (Items lbrace (Then firsts last semi)) ∷ st) k at ((h, s), g)

-- a token comes after a branch
branch_goes : (a : Around) (st : List Item) (c : OpenCase) (b : Branch) (k : TokenKind) (at : Place) → IsGoodCase c → IsShapedBranch b → IsGood a st
    → Goes (said (Inside a st (NextBranch c b))) (record { kind = k; at = at }) (next_branch a st c b k at)
branch_goes a st c b (kind.Key key.Esac) at h s g = (((tt, (h.0, h.1, s)), g), simp append_assoc)
branch_goes a st c b (kind.ObjectId name) at h s g = (((h.0, (h.1, s)), g), simp append_assoc)
branch_goes a st c b _ at h s g = tt

-- a token comes after a variable of a let
let_goes : (a : Around) (st : List Item) (here : Place) (firsts : Bindings) (v : Variable) (k : TokenKind) (at : Place) → AreShapedBindings firsts → IsGood a st
    → Goes (said (Inside a st (LetEnd here firsts v))) (record { kind = k; at = at }) (let_end a st here firsts v k at)
let_goes a st here firsts v (kind.Sign sign.Arrow) at h g = ((tt, (h, g)), simp append_assoc)
let_goes a st here firsts v (kind.Sign sign.Comma) at h g = (((h, tt), g), simp append_assoc)
let_goes a st here firsts v (kind.Key key.In) at h g = ((tt, ((h, tt), g)), simp append_assoc)
let_goes a st here firsts v _ at h g = tt

-- a callee has the tokens of its target and its name
called : (target : Target) (name : List ℕ) (at : Place) → callee_reading (callee_of target name at) ≡ target_words target ++ object name at ∷ []
called (Dot t dot) name at = sym (append_assoc (reading t) (symbol sign.Dot dot ∷ []) (object name at ∷ []))
called (StaticDot t mark class dot) name at = sym (append_assoc (reading t) (symbol sign.At mark ∷ type class ∷ symbol sign.Dot dot ∷ []) (object name at ∷ []))

-- it is shaped where the target is
called_good : (target : Target) (name : List ℕ) (at : Place) → IsGoodTarget target → IsShapedCallee (callee_of target name at)
called_good (Dot t dot) name at g = g
called_good (StaticDot t mark class dot) name at g = g

-- a token comes in the body of a feature
inside_goes : (a : Around) (st : List Item) (m : Mode) (k : TokenKind) (at : Place) → IsGoodMode m → IsGood a st
    → Goes (said (Inside a st m)) (record { kind = k; at = at }) (inside_step a st m k at)
inside_goes a st Need k at h g = need_goes a st k at g
inside_goes a st (Identifier name here) k at h g = identifier_goes a st name here k at g
inside_goes a st (Have t) k at h g = have_goes a st t k at h.0 h.1 g
inside_goes a st (StaticClass t mark) (kind.TypeId name) at h g = ((h, g), simp append_assoc)
inside_goes a st (StaticEnd t mark class) (kind.Sign sign.Dot) at h g = ((h, g), simp append_assoc)
inside_goes a st (MethodName target) (kind.ObjectId name) at h g = ((h, g), simp append_assoc)
inside_goes a st (CallParenthesis target name here) (kind.Sign sign.LParen) at h g =
    ((called_good target name here h, g), ap (λ ws. stack_words a st ++ (ws ++ symbol sign.LParen at ∷ [])) (called target name here) ∙ simp append_assoc)
inside_goes a st (FirstArgument callee lparen) k at h g = first_goes a st callee lparen k at h g
inside_goes a st (NextItem lbrace firsts last semi) k at h g = next_goes a st lbrace firsts last semi k at h.0 h.1 g
inside_goes a st (LetName here firsts) (kind.ObjectId name) at h g = ((h, g), simp append_assoc)
inside_goes a st (LetColon here firsts name there) (kind.Sign sign.Colon) at h g = ((h, g), simp append_assoc)
inside_goes a st (LetType here firsts name there colon) (kind.TypeId class) at h g = ((h, g), simp append_assoc)
inside_goes a st (LetEnd here firsts v) k at h g = let_goes a st here firsts v k at h g
inside_goes a st (BranchName c) (kind.ObjectId name) at h g = ((h, g), simp append_assoc)
inside_goes a st (BranchColon c name there) (kind.Sign sign.Colon) at h g = ((h, g), simp append_assoc)
inside_goes a st (BranchType c name there colon) (kind.TypeId class) at h g = ((h, g), simp append_assoc)
inside_goes a st (BranchArrow c v) (kind.Sign sign.FatArrow) at h g = ((tt, (h, g)), simp append_assoc)
inside_goes a st (NextBranch c b) k at h g = branch_goes a st c b k at h.0 h.1 g
inside_goes a st (NewType here) (kind.TypeId name) at h g = (((tt, tt), g), simp append_assoc)
inside_goes a st _ _ at h g = tt

-- a token comes after the name of a class
head_goes : (cs : Classes) (mark : Place) (name : List ℕ) (here : Place) (k : TokenKind) (at : Place) → IsShapedFile cs
    → Goes (said (ClassHead cs mark name here)) (record { kind = k; at = at }) (class_head cs mark name here k at)
head_goes cs mark name here (kind.Key key.Inherits) at g = (g, sym (append_assoc (file_reading cs) (word key.Class mark ∷ type (record { name = name; at = here }) ∷ []) (word key.Inherits at ∷ [])))
head_goes cs mark name here (kind.Sign sign.LBrace) at g = ((g, tt), sym (append_assoc (file_reading cs) (word key.Class mark ∷ type (record { name = name; at = here }) ∷ []) (symbol sign.LBrace at ∷ [])))
head_goes cs mark name here _ at g = tt

-- a token comes between features
class_goes : (o : Opened) (k : TokenKind) (at : Place) → IsGoodOpened o → Goes (opened_words o) (record { kind = k; at = at }) (in_class o k at)
class_goes o (kind.ObjectId name) at g = (g, refl)
class_goes o (kind.Sign sign.RBrace) at g = (g, refl)
class_goes o _ at g = tt

-- a token comes after the name of a feature
feature_goes : (o : Opened) (name : List ℕ) (here : Place) (k : TokenKind) (at : Place) → IsGoodOpened o → Goes (said (FeatureName o name here)) (record { kind = k; at = at }) (feature_name o name here k at)
feature_goes o name here (kind.Sign sign.LParen) at g = (g, sym (append_assoc (opened_words o) (object name here ∷ []) (symbol sign.LParen at ∷ [])))
feature_goes o name here (kind.Sign sign.Colon) at g = (g, sym (append_assoc (opened_words o) (object name here ∷ []) (symbol sign.Colon at ∷ [])))
feature_goes o name here _ at g = tt

-- a token comes after the parenthesis of formals
formal_goes : (o : Opened) (name : List ℕ) (here lparen : Place) (k : TokenKind) (at : Place) → IsGoodOpened o
    → Goes (said (FirstFormal o name here lparen)) (record { kind = k; at = at }) (first_formal o name here lparen k at)
formal_goes o name here lparen (kind.Sign sign.RParen) at g = (g, sym (append_assoc (opened_words o) (object name here ∷ symbol sign.LParen lparen ∷ []) (symbol sign.RParen at ∷ [])))
formal_goes o name here lparen (kind.ObjectId formal) at g = (g, sym (append_assoc (opened_words o) (object name here ∷ symbol sign.LParen lparen ∷ []) (object formal at ∷ [])))
formal_goes o name here lparen _ at g = tt

-- a token comes after a formal
formals_goes : (m : OpenMethod) (v : Variable) (k : TokenKind) (at : Place) → IsGoodOpened m.class → Goes (said (FormalEnd m v)) (record { kind = k; at = at }) (formal_end m v k at)
formals_goes m v (kind.Sign sign.RParen) at g = (g, sym (append_assoc (opened_words m.class) (object m.name m.at ∷ symbol sign.LParen m.lparen ∷ (first_formals_reading m.firsts ++ variable_reading v)) (symbol sign.RParen at ∷ [])))
formals_goes m v (kind.Sign sign.Comma) at g = (g, sym (append_assoc (opened_words m.class) (object m.name m.at ∷ symbol sign.LParen m.lparen ∷ (first_formals_reading m.firsts ++ variable_reading v)) (symbol sign.Comma at ∷ [])))
formals_goes m v _ at g = tt

-- a token comes after the type of an attribute
attribute_goes : (o : Opened) (v : Variable) (k : TokenKind) (at : Place) → IsGoodOpened o → Goes (said (AttributeEnd o v)) (record { kind = k; at = at }) (attribute_end o v k at)
attribute_goes o v (kind.Sign sign.Arrow) at g = ((tt, g), sym (append_assoc (opened_words o) (variable_reading v) (symbol sign.Arrow at ∷ [])))
attribute_goes o v (kind.Sign sign.Semi) at g = ((g.0, (g.1, tt)), in_class_words (file_reading o.classes) (heading_reading o.heading) (features_reading o.features) (variable_reading v) (symbol sign.Semi at ∷ []))
attribute_goes o v _ at g = tt

-- each token keeps what holds of a state, and adds itself to the tokens
pub step_goes : (s : State) (k : TokenKind) (at : Place) → IsGoodState s → Goes (said s) (record { kind = k; at = at }) (step s k at)
step_goes (File cs) (kind.Key key.Class) at g = (g, refl)
step_goes (ClassName cs mark) (kind.TypeId name) at g = (g, sym (append_assoc (file_reading cs) (word key.Class mark ∷ []) (type (record { name = name; at = at }) ∷ [])))
step_goes (ClassHead cs mark name here) k at g = head_goes cs mark name here k at g
step_goes (ParentName cs mark name here inherits) (kind.TypeId parent) at g =
    (g, sym (append_assoc (file_reading cs) (word key.Class mark ∷ type (record { name = name; at = here }) ∷ word key.Inherits inherits ∷ []) (type (record { name = parent; at = at }) ∷ [])))
step_goes (ClassBrace cs mark name here inherits parent) (kind.Sign sign.LBrace) at g =
    ((g, tt), sym (append_assoc (file_reading cs) (word key.Class mark ∷ type (record { name = name; at = here }) ∷ word key.Inherits inherits ∷ type parent ∷ []) (symbol sign.LBrace at ∷ [])))
step_goes (InClass o) k at g = class_goes o k at g
step_goes (ClassEnd o rbrace) (kind.Sign sign.Semi) at g =
    ((g.0, g.1), class_end_words (file_reading o.classes) (heading_reading o.heading) (features_reading o.features) (symbol sign.RBrace rbrace) (symbol sign.Semi at))
step_goes (FeatureName o name here) k at g = feature_goes o name here k at g
step_goes (FirstFormal o name here lparen) k at g = formal_goes o name here lparen k at g
step_goes (FormalName m) (kind.ObjectId name) at g =
    (g, sym (append_assoc (opened_words m.class) (object m.name m.at ∷ symbol sign.LParen m.lparen ∷ first_formals_reading m.firsts) (object name at ∷ [])))
step_goes (FormalColon m name here) (kind.Sign sign.Colon) at g =
    (g, after_two (opened_words m.class) (object m.name m.at) (symbol sign.LParen m.lparen) (first_formals_reading m.firsts) (object name here ∷ []) (symbol sign.Colon at))
step_goes (FormalType m name here colon) (kind.TypeId class) at g =
    (g, after_two (opened_words m.class) (object m.name m.at) (symbol sign.LParen m.lparen) (first_formals_reading m.firsts) (object name here ∷ symbol sign.Colon colon ∷ []) (type (record { name = class; at = at })))
step_goes (FormalEnd m v) k at g = formals_goes m v k at g
step_goes (ResultColon m) (kind.Sign sign.Colon) at g =
    (g, after_two (opened_words m.class) (object m.name m.at) (symbol sign.LParen m.lparen) (formals_reading m.formals) (symbol sign.RParen m.rparen ∷ []) (symbol sign.Colon at))
step_goes (ResultType m colon) (kind.TypeId name) at g =
    (g, after_two (opened_words m.class) (object m.name m.at) (symbol sign.LParen m.lparen) (formals_reading m.formals) (symbol sign.RParen m.rparen ∷ symbol sign.Colon colon ∷ []) (type (record { name = name; at = at })))
step_goes (MethodBrace m colon result) (kind.Sign sign.LBrace) at g =
    ((tt, g), after_two (opened_words m.class) (object m.name m.at) (symbol sign.LParen m.lparen) (formals_reading m.formals) (symbol sign.RParen m.rparen ∷ symbol sign.Colon colon ∷ type result ∷ []) (symbol sign.LBrace at))
step_goes (MethodEnd o s body rbrace) (kind.Sign sign.Semi) at g =
    ((g.0.0, (g.0.1, g.1)), method_end_words (file_reading o.classes) (heading_reading o.heading) (features_reading o.features) (signature_reading s) (reading body) (symbol sign.RBrace rbrace) (symbol sign.Semi at))
step_goes (AttributeType o name here colon) (kind.TypeId class) at g =
    (g, sym (append_assoc (opened_words o) (object name here ∷ symbol sign.Colon colon ∷ []) (type (record { name = class; at = at }) ∷ [])))
step_goes (AttributeEnd o v) k at g = attribute_goes o v k at g
step_goes (Inside a st m) k at g = inside_goes a st m k at g.0 g.1
step_goes _ _ at g = tt

-- Whole lists of tokens

-- a token and then the rest
run_bind : (ws ts : List Token) (t : Token) (o : Option State) → Goes ws t o → ((s : State) → IsGoodState s → IfSome (run s ts) (λ n. IsGoodState n × (said n ≡ said s ++ ts)))
    → IfSome (bind o (λ s. run s ts)) (λ n. IsGoodState n × (said n ≡ ws ++ t ∷ ts))
run_bind ws ts t None g f = tt
run_bind ws ts t (Some s) g f = after (run s ts) (f s g.0)
  where
    after : (o : Option State) → IfSome o (λ n. IsGoodState n × (said n ≡ said s ++ ts)) → IfSome o (λ n. IsGoodState n × (said n ≡ ws ++ t ∷ ts))
    after None h = tt
    after (Some n) h = (h.0, h.1 ∙ ap (λ us. us ++ ts) g.1 ∙ append_assoc ws (t ∷ []) ts)

-- the tokens of a state are those that were read, and the state is good
pub run_goes : (ts : List Token) (s : State) → IsGoodState s → IfSome (run s ts) (λ n. IsGoodState n × (said n ≡ said s ++ ts))
run_goes [] s g = (g, sym (append-nil (said s)))
run_goes (t ∷ ts) s g = run_bind (said s) ts t (step s t.kind t.at) (step_goes s t.kind t.at g) (run_goes ts)

-- the file that the machine makes of tokens is shaped and reads as they do
pub sound : (ts : List Token) (cs : Classes) → run start ts ≡ Some (File cs) → IsShapedFile cs × (file_reading cs ≡ ts)
sound ts cs e = subst (λ o. IfSome o (λ n. IsGoodState n × (said n ≡ ts))) e (run_goes ts start tt)
