-- The tokens that the parser's state machine has accepted are the beginning of some valid file, and tokens that it rejects are the beginning of none.
use Rattle.std.proofs.Common.{◌≡◌, ℕ, List, [], ◌∷◌, ◌++◌, codes, refl, ap, sym, subst, ◌∙◌, arith, Option, Some, None, IfSome}
use Rattle.cool_syntax.specs.declared.place.Place.{Place}
use Rattle.cool_syntax.specs.declared.token.Token.{Token}
use Rattle.cool_syntax.specs.declared.token.TokenKind.{TokenKind}
use Rattle.cool_syntax.specs.declared.token.TokenKind.TheVariants as kind
use Rattle.cool_syntax.specs.declared.token.Key.{Key}
use Rattle.cool_syntax.specs.declared.token.Key.TheVariants as key
use Rattle.cool_syntax.specs.declared.token.Sign.{Sign}
use Rattle.cool_syntax.specs.declared.type_ref.TypeRef.{TypeRef}
use Rattle.cool_syntax.specs.declared.token.Sign.TheVariants as sign
use Rattle.cool_syntax.specs.ConcreteTrees.{Operator, Variable, Concrete, Name, New, Paren, Dispatch, If, While, Block, Case, Binary, Before, OfClass, NoArgs, Given, NoBranch, On, Prefix, Let, Bindings, Default, Init, Method, Initialized, Another, Classes, Class}
use Rattle.cool_syntax.specs.Readings.{word, symbol, object, type}
use Rattle.cool_parser.proofs.ConcreteMachine.{Around, InMethod, InAttribute, OpenCase, Form, Parenthesis, Arguments, IfTest, IfYes, IfNo, WhileTest, WhileBody, Items, Value, CaseValue, BranchBody, Item, Left, Front, Open}
use Rattle.cool_parser.proofs.ConcreteMachine.{Mode, Need, Identifier, Have, StaticClass, StaticEnd, MethodName, CallParenthesis, FirstArgument, NextItem, LetName, LetColon, LetType, LetEnd, BranchName, BranchColon, BranchType, BranchArrow, NextBranch, NewType}
use Rattle.cool_parser.proofs.ConcreteMachine.{State, File, ClassName, ClassHead, ParentName, ClassBrace, InClass, ClassEnd, FeatureName, FirstFormal, FormalName, FormalColon, FormalType, FormalEnd, ResultColon, ResultType, MethodBrace, MethodEnd, AttributeType, AttributeEnd, Inside}
use Rattle.cool_parser.proofs.ConcreteMachine.{reduce, close, callee_of, step, run, bind, start}
use Rattle.cool_syntax.specs.Bare.{nowhere}
use Rattle.cool_syntax.specs.PlainTrees.{plain_file}
use Rattle.cool_syntax.specs.Grammar.{Parses, BeginsFile}
use Rattle.cool_syntax.specs.declared.file_tree.ClassDef.{ClassDef}
use Rattle.cool_parser.proofs.ReadingConcreteTrees.{reduce_left, reduce_front, IsCloser, have_closer, identifier_closer, complete}
use Rattle.cool_parser.proofs.ParsedTreesAreShaped.{said, IsGoodState, run_goes}

-- Tokens that may stand anywhere

abbrev a_name : Token
a_name = object (codes "x") nowhere

abbrev a_type : Token
a_type = type (record { name = codes "A"; at = nowhere })

abbrev a_key : Key → Token
a_key k = word k nowhere

abbrev a_sign : Sign → Token
a_sign s = symbol s nowhere

-- the end of a class, and of a method whose result is due
abbrev class_end : List Token
class_end = a_sign sign.RBrace ∷ a_sign sign.Semi ∷ []

abbrev method_end : List Token
method_end = a_sign sign.LBrace ∷ a_name ∷ a_sign sign.RBrace ∷ a_sign sign.Semi ∷ class_end

abbrev result_end : List Token
result_end = a_sign sign.Colon ∷ a_type ∷ method_end

-- the tokens missing of a form after its expression
abbrev form_closers : Form → List Token
form_closers (Parenthesis lparen) = a_sign sign.RParen ∷ []
form_closers (Arguments callee lparen firsts) = a_sign sign.RParen ∷ []
form_closers (IfTest at) = a_key key.Then ∷ a_name ∷ a_key key.Else ∷ a_name ∷ a_key key.Fi ∷ []
form_closers (IfYes at test then_at) = a_key key.Else ∷ a_name ∷ a_key key.Fi ∷ []
form_closers (IfNo at test then_at met else_at) = a_key key.Fi ∷ []
form_closers (WhileTest at) = a_key key.Loop ∷ a_name ∷ a_key key.Pool ∷ []
form_closers (WhileBody at test loop) = a_key key.Pool ∷ []
form_closers (Items lbrace firsts) = a_sign sign.Semi ∷ a_sign sign.RBrace ∷ []
form_closers (Value at firsts v arrow) = a_key key.In ∷ a_name ∷ []
form_closers (CaseValue at) =
    a_key key.Of ∷ a_name ∷ a_sign sign.Colon ∷ a_type ∷ a_sign sign.FatArrow ∷ a_name ∷ a_sign sign.Semi ∷ a_key key.Esac ∷ []
form_closers (BranchBody c v arrow) = a_sign sign.Semi ∷ a_key key.Esac ∷ []

abbrev around_closers : Around → List Token
around_closers (InMethod o s) = a_sign sign.RBrace ∷ a_sign sign.Semi ∷ class_end
around_closers (InAttribute o v arrow) = a_sign sign.Semi ∷ class_end

-- the tokens that close all that is open
abbrev closers : Around → List Item → List Token
closers a [] = around_closers a
closers a (Left l op at ∷ st) = closers a st
closers a (Front p ∷ st) = closers a st
closers a (Open f ∷ st) = form_closers f ++ closers a st

-- the tokens lead from the state to the end of a file
abbrev Ends : State → List Token → Type 0
Ends s ts = (cs : Classes) × (run s ts ≡ Some (File cs))

-- one token, and then those that end the next state
ends_step : (s next : State) (t : Token) (ts : List Token) → step s t.kind t.at ≡ Some next → Ends next ts → Ends s (t ∷ ts)
ends_step s next t ts e h = (h.0, ap (λ o. bind o (λ n. run n ts)) e ∙ h.1)

-- a state that ends its operand as this stack and this tree do
record Closes (s : State) (a : Around) (st : List Item) (t : Concrete) : Type 0 where
  by : (k : TokenKind) (at : Place) → IsCloser k → step s k at ≡ close k at a (reduce 0 st t)

-- an operand that was read is one
have_closes : (a : Around) (st : List Item) (t : Concrete) → Closes (Inside a st (Have t)) a st t
have_closes a st t = record { by = λ k at h. have_closer k at a st t h }

-- an identifier is one
name_closes : (a : Around) (st : List Item) (name : List ℕ) (here : Place) → Closes (Inside a st (Identifier name here)) a st (Name name here)
name_closes a st name here = record { by = λ k at h. identifier_closer k at a st name here h }

-- an operator with its right operand is one
left_closes : (s : State) (a : Around) (l : Concrete) (op : Operator) (here : Place) (st : List Item) (t : Concrete) → Closes s a (Left l op here ∷ st) t → Closes s a st (Binary l op here t)
left_closes s a l op here st t c = record { by = λ k at h. c.by k at h ∙ ap (close k at a) (reduce_left 0 st l op here t (omega arith)) }

-- a prefix form with its operand is one
front_closes : (s : State) (a : Around) (p : Prefix) (st : List Item) (t : Concrete) → Closes s a (Front p ∷ st) t → Closes s a st (Before p t)
front_closes s a p st t c = record { by = λ k at h. c.by k at h ∙ ap (close k at a) (reduce_front 0 st p t (omega arith)) }

-- after an operand, the stack below ends by its closing tokens
abbrev Below : Around → List Item → Type 0
Below a st = (t : Concrete) (s : State) → Closes s a st t → Ends s (closers a st)

-- an operand that is whole, and the stack below
ends_have : (a : Around) (st : List Item) (t : Concrete) → Below a st → Ends (Inside a st (Have t)) (closers a st)
ends_have a st t below = below t (Inside a st (Have t)) (have_closes a st t)

-- the end of a feature, of its class and of the file
body_ends : (a : Around) (t : Concrete) (s : State) → Closes s a [] t → Ends s (around_closers a)
body_ends (InMethod o sg) t s c =
    ends_step s (MethodEnd o sg t nowhere) (a_sign sign.RBrace) (a_sign sign.Semi ∷ class_end) (c.by (kind.Sign sign.RBrace) nowhere tt)
    (Class o.classes o.heading (Another o.features (Method sg t nowhere nowhere)) nowhere nowhere, refl)
body_ends (InAttribute o v arrow) t s c =
    ends_step s (InClass (record o { features = Another o.features (Initialized v arrow t nowhere) })) (a_sign sign.Semi) class_end (c.by (kind.Sign sign.Semi) nowhere tt)
    (Class o.classes o.heading (Another o.features (Initialized v arrow t nowhere)) nowhere nowhere, refl)

-- the end of a form, and of the stack below it
form_ends : (f : Form) (a : Around) (st : List Item) (t : Concrete) (s : State) → Below a st → Closes s a (Open f ∷ st) t → Ends s (form_closers f ++ closers a st)
form_ends (Parenthesis lparen) a st t s below c =
    ends_step s (Inside a st (Have (Paren lparen t nowhere))) (a_sign sign.RParen) (closers a st) (c.by (kind.Sign sign.RParen) nowhere tt) (ends_have a st (Paren lparen t nowhere) below)
form_ends (Arguments callee lparen firsts) a st t s below c =
    let whole = Dispatch callee lparen (Given firsts t) nowhere in
    ends_step s (Inside a st (Have whole)) (a_sign sign.RParen) (closers a st) (c.by (kind.Sign sign.RParen) nowhere tt) (ends_have a st whole below)
form_ends (IfTest here) a st t s below c =
    ends_step s (Inside a (Open (IfYes here t nowhere) ∷ st) Need) (a_key key.Then) (a_name ∷ a_key key.Else ∷ a_name ∷ a_key key.Fi ∷ closers a st) (c.by (kind.Key key.Then) nowhere tt)
    (ends_have a st (If here t nowhere (Name (codes "x") nowhere) nowhere (Name (codes "x") nowhere) nowhere) below)
form_ends (IfYes here test then_at) a st t s below c =
    ends_step s (Inside a (Open (IfNo here test then_at t nowhere) ∷ st) Need) (a_key key.Else) (a_name ∷ a_key key.Fi ∷ closers a st) (c.by (kind.Key key.Else) nowhere tt)
    (ends_have a st (If here test then_at t nowhere (Name (codes "x") nowhere) nowhere) below)
form_ends (IfNo here test then_at met else_at) a st t s below c =
    let whole = If here test then_at met else_at t nowhere in
    ends_step s (Inside a st (Have whole)) (a_key key.Fi) (closers a st) (c.by (kind.Key key.Fi) nowhere tt) (ends_have a st whole below)
form_ends (WhileTest here) a st t s below c =
    ends_step s (Inside a (Open (WhileBody here t nowhere) ∷ st) Need) (a_key key.Loop) (a_name ∷ a_key key.Pool ∷ closers a st) (c.by (kind.Key key.Loop) nowhere tt)
    (ends_have a st (While here t nowhere (Name (codes "x") nowhere) nowhere) below)
form_ends (WhileBody here test loop) a st t s below c =
    let whole = While here test loop t nowhere in
    ends_step s (Inside a st (Have whole)) (a_key key.Pool) (closers a st) (c.by (kind.Key key.Pool) nowhere tt) (ends_have a st whole below)
form_ends (Items lbrace firsts) a st t s below c =
    ends_step s (Inside a st (NextItem lbrace firsts t nowhere)) (a_sign sign.Semi) (a_sign sign.RBrace ∷ closers a st) (c.by (kind.Sign sign.Semi) nowhere tt)
    (ends_have a st (Block lbrace firsts t nowhere nowhere) below)
form_ends (Value here firsts v arrow) a st t s below c =
    let p = Let here firsts (Init v arrow t) nowhere in
    let named = Inside a (Front p ∷ st) (Identifier (codes "x") nowhere) in
    ends_step s (Inside a (Front p ∷ st) Need) (a_key key.In) (a_name ∷ closers a st) (c.by (kind.Key key.In) nowhere tt)
    (below (Before p (Name (codes "x") nowhere)) named (front_closes named a p st (Name (codes "x") nowhere) (name_closes a (Front p ∷ st) (codes "x") nowhere)))
form_ends (CaseValue here) a st t s below c =
    let v : Variable = record { name = codes "x"; at = nowhere; colon = nowhere; declared = record { name = codes "A"; at = nowhere } } in
    ends_step s (Inside a st (BranchName (record { at = here; value = t; of = nowhere; firsts = NoBranch }))) (a_key key.Of)
    (a_name ∷ a_sign sign.Colon ∷ a_type ∷ a_sign sign.FatArrow ∷ a_name ∷ a_sign sign.Semi ∷ a_key key.Esac ∷ closers a st) (c.by (kind.Key key.Of) nowhere tt)
    (ends_have a st (Case here t nowhere NoBranch (On v nowhere (Name (codes "x") nowhere) nowhere) nowhere) below)
form_ends (BranchBody k v arrow) a st t s below c =
    ends_step s (Inside a st (NextBranch k (On v arrow t nowhere))) (a_sign sign.Semi) (a_key key.Esac ∷ closers a st) (c.by (kind.Sign sign.Semi) nowhere tt)
    (ends_have a st (Case k.at k.value k.of k.firsts (On v arrow t nowhere) nowhere) below)

-- the closing tokens of a stack close it
closes_all : (st : List Item) (a : Around) (t : Concrete) (s : State) → Closes s a st t → Ends s (closers a st)
closes_all [] a t s c = body_ends a t s c
closes_all (Left l op here ∷ st) a t s c = closes_all st a (Binary l op here t) s (left_closes s a l op here st t c)
closes_all (Front p ∷ st) a t s c = closes_all st a (Before p t) s (front_closes s a p st t c)
closes_all (Open f ∷ st) a t s c = form_ends f a st t s (closes_all st a) c

-- an operand, and then all is closed
ends : (a : Around) (st : List Item) (t : Concrete) → Ends (Inside a st (Have t)) (closers a st)
ends a st t = closes_all st a t (Inside a st (Have t)) (have_closes a st t)

-- the same after an identifier
named : (a : Around) (st : List Item) (name : List ℕ) (here : Place) → Ends (Inside a st (Identifier name here)) (closers a st)
named a st name here = closes_all st a (Name name here) (Inside a st (Identifier name here)) (name_closes a st name here)

-- tokens that complete a state
abbrev inside_completion : Mode → List Token → List Token
inside_completion Need ts = a_name ∷ ts
inside_completion (Identifier name at) ts = ts
inside_completion (Have t) ts = ts
inside_completion (StaticClass t mark) ts = a_type ∷ a_sign sign.Dot ∷ a_name ∷ a_sign sign.LParen ∷ a_sign sign.RParen ∷ ts
inside_completion (StaticEnd t mark class) ts = a_sign sign.Dot ∷ a_name ∷ a_sign sign.LParen ∷ a_sign sign.RParen ∷ ts
inside_completion (MethodName target) ts = a_name ∷ a_sign sign.LParen ∷ a_sign sign.RParen ∷ ts
inside_completion (CallParenthesis target name at) ts = a_sign sign.LParen ∷ a_sign sign.RParen ∷ ts
inside_completion (FirstArgument callee lparen) ts = a_sign sign.RParen ∷ ts
inside_completion (NextItem lbrace firsts last semi) ts = a_sign sign.RBrace ∷ ts
inside_completion (LetName at firsts) ts = a_name ∷ a_sign sign.Colon ∷ a_type ∷ a_key key.In ∷ a_name ∷ ts
inside_completion (LetColon at firsts name here) ts = a_sign sign.Colon ∷ a_type ∷ a_key key.In ∷ a_name ∷ ts
inside_completion (LetType at firsts name here colon) ts = a_type ∷ a_key key.In ∷ a_name ∷ ts
inside_completion (LetEnd at firsts v) ts = a_key key.In ∷ a_name ∷ ts
inside_completion (BranchName c) ts = a_name ∷ a_sign sign.Colon ∷ a_type ∷ a_sign sign.FatArrow ∷ a_name ∷ a_sign sign.Semi ∷ a_key key.Esac ∷ ts
inside_completion (BranchColon c name here) ts = a_sign sign.Colon ∷ a_type ∷ a_sign sign.FatArrow ∷ a_name ∷ a_sign sign.Semi ∷ a_key key.Esac ∷ ts
inside_completion (BranchType c name here colon) ts = a_type ∷ a_sign sign.FatArrow ∷ a_name ∷ a_sign sign.Semi ∷ a_key key.Esac ∷ ts
inside_completion (BranchArrow c v) ts = a_sign sign.FatArrow ∷ a_name ∷ a_sign sign.Semi ∷ a_key key.Esac ∷ ts
inside_completion (NextBranch c b) ts = a_key key.Esac ∷ ts
inside_completion (NewType at) ts = a_type ∷ ts

abbrev completion : State → List Token
completion (File cs) = []
completion (ClassName cs mark) = a_type ∷ a_sign sign.LBrace ∷ class_end
completion (ClassHead cs mark name at) = a_sign sign.LBrace ∷ class_end
completion (ParentName cs mark name at inherits) = a_type ∷ a_sign sign.LBrace ∷ class_end
completion (ClassBrace cs mark name at inherits parent) = a_sign sign.LBrace ∷ class_end
completion (InClass o) = class_end
completion (ClassEnd o rbrace) = a_sign sign.Semi ∷ []
completion (FeatureName o name at) = a_sign sign.Colon ∷ a_type ∷ a_sign sign.Semi ∷ class_end
completion (FirstFormal o name at lparen) = a_sign sign.RParen ∷ result_end
completion (FormalName m) = a_name ∷ a_sign sign.Colon ∷ a_type ∷ a_sign sign.RParen ∷ result_end
completion (FormalColon m name at) = a_sign sign.Colon ∷ a_type ∷ a_sign sign.RParen ∷ result_end
completion (FormalType m name at colon) = a_type ∷ a_sign sign.RParen ∷ result_end
completion (FormalEnd m v) = a_sign sign.RParen ∷ result_end
completion (ResultColon m) = result_end
completion (ResultType m colon) = a_type ∷ method_end
completion (MethodBrace m colon result) = method_end
completion (MethodEnd o s body rbrace) = a_sign sign.Semi ∷ class_end
completion (AttributeType o name at colon) = a_type ∷ a_sign sign.Semi ∷ class_end
completion (AttributeEnd o v) = a_sign sign.Semi ∷ class_end
completion (Inside a st m) = inside_completion m (closers a st)

abbrev some_type : TypeRef
some_type = record { name = codes "A"; at = nowhere }

abbrev typed : List ℕ → Place → Place → Variable
typed name here colon = record { name = name; at = here; colon = colon; declared = some_type }

-- the end of a let whose variable was read
let_ends : (a : Around) (st : List Item) (here : Place) (firsts : Bindings) (v : Variable) → Ends (Inside a st (LetEnd here firsts v)) (a_key key.In ∷ a_name ∷ closers a st)
let_ends a st here firsts v = named a (Front (Let here firsts (Default v) nowhere) ∷ st) (codes "x") nowhere

-- the end of a case whose variable was read
branch_ends : (a : Around) (st : List Item) (c : OpenCase) (v : Variable) → Ends (Inside a st (BranchArrow c v)) (a_sign sign.FatArrow ∷ a_name ∷ a_sign sign.Semi ∷ a_key key.Esac ∷ closers a st)
branch_ends a st c v = ends a st (Case c.at c.value c.of c.firsts (On v nowhere (Name (codes "x") nowhere) nowhere) nowhere)

-- each state in a body can be completed
inside_completes : (a : Around) (st : List Item) (m : Mode) → Ends (Inside a st m) (inside_completion m (closers a st))
inside_completes a st Need = named a st (codes "x") nowhere
inside_completes a st (Identifier name here) = named a st name here
inside_completes a st (Have t) = ends a st t
inside_completes a st (StaticClass t mark) = ends a st (Dispatch (OfClass t mark some_type nowhere (codes "x") nowhere) nowhere NoArgs nowhere)
inside_completes a st (StaticEnd t mark class) = ends a st (Dispatch (OfClass t mark class nowhere (codes "x") nowhere) nowhere NoArgs nowhere)
inside_completes a st (MethodName target) = ends a st (Dispatch (callee_of target (codes "x") nowhere) nowhere NoArgs nowhere)
inside_completes a st (CallParenthesis target name here) = ends a st (Dispatch (callee_of target name here) nowhere NoArgs nowhere)
inside_completes a st (FirstArgument callee lparen) = ends a st (Dispatch callee lparen NoArgs nowhere)
inside_completes a st (NextItem lbrace firsts last semi) = ends a st (Block lbrace firsts last semi nowhere)
inside_completes a st (LetName here firsts) = let_ends a st here firsts (typed (codes "x") nowhere nowhere)
inside_completes a st (LetColon here firsts name there) = let_ends a st here firsts (typed name there nowhere)
inside_completes a st (LetType here firsts name there colon) = let_ends a st here firsts (typed name there colon)
inside_completes a st (LetEnd here firsts v) = let_ends a st here firsts v
inside_completes a st (BranchName c) = branch_ends a st c (typed (codes "x") nowhere nowhere)
inside_completes a st (BranchColon c name there) = branch_ends a st c (typed name there nowhere)
inside_completes a st (BranchType c name there colon) = branch_ends a st c (typed name there colon)
inside_completes a st (BranchArrow c v) = branch_ends a st c v
inside_completes a st (NextBranch c b) = ends a st (Case c.at c.value c.of c.firsts b nowhere)
inside_completes a st (NewType here) = ends a st (New here some_type)

-- each state can be completed
completes : (s : State) → Ends s (completion s)
completes (File cs) = (cs, refl)
completes (Inside a st m) = inside_completes a st m
completes _ = (_, refl)

-- the tokens of a state that the machine reaches begin some file
pub viable : (s : State) → IsGoodState s → BeginsFile (said s)
viable s g =
    let end = completes s in
    let h = subst (λ o. IfSome o (λ n. IsGoodState n × (said n ≡ said s ++ completion s))) end.1 (run_goes (completion s) s g) in
    (completion s, plain_file end.0, (end.0, h.0, h.1, refl))

-- a run goes on from where it came
pub run_append : (ws ts : List Token) (s : State) → run s (ws ++ ts) ≡ bind (run s ws) (λ n. run n ts)
run_append [] ts s = refl
run_append (t ∷ ws) ts s = after (step s t.kind t.at) (run_append ws ts)
  where
    after : (o : Option State) → ((n : State) → run n (ws ++ ts) ≡ bind (run n ws) (λ m. run m ts)) → bind o (λ n. run n (ws ++ ts)) ≡ bind (bind o (λ n. run n ws)) (λ n. run n ts)
    after None more = refl
    after (Some n) more = more n

-- tokens that the machine refuses begin no file
pub refused : (ws : List Token) → run start ws ≡ None → BeginsFile ws → ⊥
refused ws e (rest, classes, (cs, shaped, same, plain)) =
    let whole : run start (ws ++ rest) ≡ Some (File cs) = ap (run start) (sym same) ∙ complete cs shaped in
    let stops : run start (ws ++ rest) ≡ None = run_append ws rest start ∙ ap (λ o. bind o (λ n. run n rest)) e in
    cc

-- tokens that are a file lead between two classes
pub parsed_file : (ws : List Token) (classes : List ClassDef) → Parses ws classes → (cs : Classes) × (run start ws ≡ Some (File cs)) × (plain_file cs ≡ classes)
parsed_file ws classes (cs, shaped, same, plain) = (cs, ap (run start) (sym same) ∙ complete cs shaped, plain)
