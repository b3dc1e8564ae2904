-- On each token, the parser makes the step that corresponds to the step of the state machine over concrete syntax trees, which keep every token.
use Rattle.std.proofs.Common.{◌≡◌, ℕ, ◌+◌, ◌-◌, Bool, true, false, if◌then◌else◌, List, [], ◌∷◌, ◌++◌, length, Option, Some, None, refl, ap, ◌∙◌, arith}
use Rattle.std.specs.Option.{option_map}
use Rattle.cool_syntax.specs.declared.place.Place.{Place}
use Rattle.cool_syntax.specs.declared.operator.ArithOp.TheVariants as arith_op
use Rattle.cool_syntax.specs.declared.operator.CompareOp.TheVariants as compare_op
use Rattle.cool_syntax.specs.declared.token.TokenKind.{TokenKind}
use Rattle.cool_syntax.specs.declared.token.TokenKind.TheVariants as kind
use Rattle.cool_syntax.specs.declared.token.Key.TheVariants as key
use Rattle.cool_syntax.specs.declared.token.Sign.TheVariants as sign
use Rattle.cool_syntax.specs.declared.node.NodeId.{NodeId}
use Rattle.cool_syntax.specs.declared.node.Node.TheVariants as node
use Rattle.cool_syntax.specs.declared.file_tree.Feature.TheVariants as feature
use Rattle.cool_syntax.specs.Tree.{Tree}
use Rattle.cool_syntax.specs.NodeLists.{nodes}
use Rattle.cool_syntax.proofs.TreesOfLists.{tree_of-nodes}
use Rattle.cool_syntax.specs.ConcreteTrees.{Operator, Arith, Compare, Not, IsVoid, Neg, Int, Str, Truth, Variable, Concrete, Name, Literal, New, Dispatch, If, While, Block, Case, Callee, NoArgs, Given, Parts, NoPart, Then, Also, Branch, Prefix, Let, Assign, Mark, Bindings, Default, Init, Signature}
use Rattle.cool_syntax.specs.PlainTrees.{plain, plain_formals, plain_file}
use Rattle.cool_syntax.specs.Shapes.{left_level}
use Rattle.cool_parser.specs.declared.operator.Infix.TheVariants as between
use Rattle.cool_parser.specs.declared.item.Item.{Item}
use Rattle.cool_parser.specs.declared.mode.Mode.TheVariants as mode
use Rattle.cool_parser.specs.Levels as levels
use Rattle.cool_parser.specs.ParsingMachine as machine
use Rattle.cool_parser.specs.ParsingMachine.{Context, State}
use Rattle.cool_parser.proofs.ConcreteMachine.{Opened, Around, InMethod, InAttribute, Dot, StaticDot, OpenCase, Form, Parenthesis, Arguments, IfTest, IfYes, IfNo, WhileTest, WhileBody, Items, Value, CaseValue, BranchBody, Left, Front, Open}
use Rattle.cool_parser.proofs.ConcreteMachine.{Need, Identifier, Have, StaticClass, StaticEnd, MethodName, CallParenthesis, FirstArgument, NextItem, LetName, LetColon, LetType, LetEnd, BranchName, BranchColon, BranchType, BranchArrow, NextBranch, NewType}
use Rattle.cool_parser.proofs.ConcreteMachine.{File, ClassName, ClassHead, ParentName, ClassBrace, InClass, ClassEnd, FeatureName, FirstFormal, FormalName, FormalColon, FormalType, FormalEnd, ResultColon, ResultType, MethodBrace, MethodEnd, AttributeType, AttributeEnd, Inside}
use Rattle.cool_parser.proofs.ConcreteMachine.{Top, reduce, with_branch}
use Rattle.cool_parser.proofs.ConcreteMachine as concrete
use Rattle.cool_parser.proofs.NodesOfConcreteTrees.{Laid, lay, number, parts_laid, bindings_laid, self_at, callee_laid, case_laid, form_laid, laid, variable, between_of, parts_numbers, branch_nodes, call_of, open_case, bindings_items, form_items, open_class, body_item, prefix_items, items, classes_of, context, shown, laid_counted, operand_shown, regroup, regroup_four, dispatch_list, block_list, case_list, top_shown, level_shown, reduced_shown}

-- an operator has one left level in both machines
left_shown : (op : Operator) → levels.left_level (between_of op) ≡ left_level op
left_shown (Arith op) = level_shown (Arith op)
left_shown (Compare op) = refl

-- After an operand

-- a prefix form is no comparison
front_compares : (p : Prefix) (l : Laid) (st : List Item) → machine.compares (prefix_items p l st) ≡ false
front_compares (Let at firsts (Default v) within) l st = refl
front_compares (Mark Not at) l st = refl
front_compares _ l st = refl

-- nor is an open form
open_compares : (f : Form) (l : Laid) (st : List Item) → machine.compares (form_items f l st) ≡ false
open_compares (Parenthesis lparen) l st = refl
open_compares f l st = refl

-- a comparison waits in both machines, or in none
compares_shown : (a : Around) (st : List concrete.Item) → machine.compares (items a st) ≡ concrete.compares st
compares_shown (InMethod o s) [] = refl
compares_shown (InAttribute o v arrow) [] = refl
compares_shown a (Left l (Arith op) at ∷ st) = refl
compares_shown a (Left l (Compare op) at ∷ st) = refl
compares_shown a (Front p ∷ st) = front_compares p (laid st) (items a st)
compares_shown a (Open f ∷ st) = open_compares f (laid st) (items a st)

-- both tests go the same way
unless_shown : (b c : Bool) (s : concrete.State) → b ≡ c → (if b then None else Some (shown s)) ≡ option_map shown (if c then None else Some s)
unless_shown true true s e = refl
unless_shown false false s e = refl
unless_shown true false s e = absurd (cc)
unless_shown false true s e = absurd (cc)

-- an operator is put on the stack
shift_shown : (op : Operator) (at : Place) (a : Around) (c : Context) (top : Top) → c.classes ≡ plain_file (classes_of a)
    → machine.shift_on (between_of op) at c (top_shown a top) ≡ option_map shown (concrete.shift op at a top)
shift_shown (Arith op) at a c top e = ap (λ cs. machine.shift_on (between.Arith op) at (record c { classes = cs }) (top_shown a top)) e
shift_shown (Compare op) at a c top e =
    ap (λ cs. machine.shift_on (between.Compare op) at (record c { classes = cs }) (top_shown a top)) e
    ∙ unless_shown (machine.compares (items a top.stack)) (concrete.compares top.stack) (Inside a (Left top.operand (Compare op) at ∷ top.stack) Need) (compares_shown a top.stack)

-- an operator comes after an operand
operator_shown : (op : Operator) (at : Place) (a : Around) (st : List concrete.Item) (t : Concrete)
    → machine.shift_on (between_of op) at (context a (lay t (laid st)) (items a st)) (machine.reduce (levels.left_level (between_of op)) (context a (lay t (laid st)) (items a st)) (number t (laid st)))
    ≡ option_map shown (concrete.shift op at a (reduce (left_level op) st t))
operator_shown op at a st t =
    let c = context a (lay t (laid st)) (items a st) in
    ap (λ k. machine.shift_on (between_of op) at c (machine.reduce k c (number t (laid st)))) (left_shown op)
    ∙ ap (machine.shift_on (between_of op) at c) (reduced_shown (left_level op) a st t)
    ∙ shift_shown op at a c (reduce (left_level op) st t) refl

-- a form gets its expression
form_closes : (f : Form) (k : TokenKind) (at : Place) (a : Around) (st : List concrete.Item) (t : Concrete) (above : List Item)
    → machine.close k (form_items f (laid st) (items a st)) (context a (lay t (form_laid f (laid st))) above) (number t (form_laid f (laid st))) ≡ option_map shown (concrete.close_on f k at a st t)
form_closes (Parenthesis lparen) (kind.Sign sign.RParen) at a st t above = refl
form_closes (Arguments callee lparen firsts) (kind.Sign sign.RParen) at a st t above =
    let l = callee_laid callee (laid st) in
    operand_shown a st (Dispatch callee lparen (Given firsts t) at) (lay t (parts_laid firsts l)).list (machine.dispatch (call_of callee (laid st)) (parts_numbers firsts l ++ number t (parts_laid firsts l) ∷ []))
    (dispatch_list callee lparen (Given firsts t) at (laid st))
form_closes (Arguments callee lparen firsts) (kind.Sign sign.Comma) at a st t above = refl
form_closes (Value here firsts v arrow) (kind.Sign sign.Comma) at a st t above = refl
form_closes (Value here firsts v arrow) (kind.Key key.In) at a st t above = refl
form_closes (IfTest here) (kind.Key key.Then) at a st t above = refl
form_closes (IfYes here test then_at) (kind.Key key.Else) at a st t above = refl
form_closes (IfNo here test then_at met else_at) (kind.Key key.Fi) at a st t above =
    let l = laid st in
    let m = lay test l in
    let n = node.If here (number test l) (number met m) (number t (lay met m)) in
    operand_shown a st (If here test then_at met else_at t at) (lay t (lay met m)).list n (regroup_four l.list (nodes l.count (plain test)) (nodes m.count (plain met)) (nodes (lay met m).count (plain t)) n)
form_closes (WhileTest here) (kind.Key key.Loop) at a st t above = refl
form_closes (WhileBody here test loop) (kind.Key key.Pool) at a st t above =
    let l = laid st in
    let n = node.While here (number test l) (number t (lay test l)) in
    operand_shown a st (While here test loop t at) (lay t (lay test l)).list n (regroup l.list (nodes l.count (plain test)) (nodes (lay test l).count (plain t)) n)
form_closes (CaseValue here) (kind.Key key.Of) at a st t above = refl
form_closes (BranchBody c v arrow) (kind.Sign sign.Semi) at a st t above = refl
form_closes (Items lbrace firsts) (kind.Sign sign.Semi) at a st t above = refl
form_closes _ _ at a st t above = refl

-- the body of a feature ends
body_closes : (a : Around) (k : TokenKind) (at : Place) (t : Concrete) (above : List Item)
    → machine.close k (body_item a ∷ []) (context a (lay t (laid [])) above) (number t (laid [])) ≡ option_map shown (concrete.close_body a k at t)
body_closes (InMethod o s) (kind.Sign sign.RBrace) at t above =
    ap (λ body. Some (outside_end o s body)) (tree_of-nodes (plain t))
  where
    outside_end : Opened → Signature → Tree → State
    outside_end o s body = record {
      context = record { nodes = []; stack = []; classes = plain_file o.classes };
      mode = mode.MethodEnd (machine.with_feature (feature.Method (record { name = s.name; at = s.at; formals = plain_formals s.formals; result = s.result; body = body })) (open_class o));
    }
body_closes (InAttribute o v arrow) (kind.Sign sign.Semi) at t above =
    ap (λ value. Some (outside_end o v value)) (tree_of-nodes (plain t))
  where
    outside_end : Opened → Variable → Tree → State
    outside_end o v value = record {
      context = record { nodes = []; stack = []; classes = plain_file o.classes };
      mode = mode.Features (machine.with_feature (feature.Attribute (record { name = v.name; at = v.at; declared = v.declared; init = Some value })) (open_class o));
    }
body_closes _ _ at t above = refl

-- no token closes a prefix form
front_closes : (p : Prefix) (k : TokenKind) (l : Laid) (st : List Item) (c : Context) (id : NodeId) → machine.close k (prefix_items p l st) c id ≡ None
front_closes (Let at firsts (Default v) within) k l st c id = refl
front_closes (Mark Not at) k l st c id = refl
front_closes _ k l st c id = refl

-- a token comes where all operators have ended
top_closes : (k : TokenKind) (at : Place) (a : Around) (st : List concrete.Item) (t : Concrete) (above : List Item)
    → machine.close k (items a st) (context a (lay t (laid st)) above) (number t (laid st)) ≡ option_map shown (concrete.close_stack k at a st t)
top_closes k at a [] t above = body_closes a k at t above
top_closes k at a (Left l op here ∷ st) t above = refl
top_closes k at a (Front p ∷ st) t above = front_closes p k (laid st) (items a st) (context a (lay t (laid (Front p ∷ st))) above) (number t (laid (Front p ∷ st)))
top_closes k at a (Open f ∷ st) t above = form_closes f k at a st t above

-- a token that is no operator comes after an operand
close_shown : (k : TokenKind) (at : Place) (a : Around) (st : List concrete.Item) (t : Concrete)
    → machine.close_after k (context a (lay t (laid st)) (items a st)) (machine.reduce 0 (context a (lay t (laid st)) (items a st)) (number t (laid st))) ≡ option_map shown (concrete.close k at a (reduce 0 st t))
close_shown k at a st t =
    let c = context a (lay t (laid st)) (items a st) in
    let top = reduce 0 st t in
    ap (machine.close_after k c) (reduced_shown 0 a st t) ∙ top_closes k at a top.stack top.operand (items a top.stack)

-- a token comes after an operand
have_shown : (a : Around) (st : List concrete.Item) (t : Concrete) (k : TokenKind) (at : Place)
    → machine.have (context a (lay t (laid st)) (items a st)) (number t (laid st)) k at ≡ option_map shown (concrete.have a st t k at)
have_shown a st t (kind.Sign sign.Dot) at = refl
have_shown a st t (kind.Sign sign.At) at = refl
have_shown a st t (kind.Sign sign.Plus) at = operator_shown (Arith arith_op.Add) at a st t
have_shown a st t (kind.Sign sign.Minus) at = operator_shown (Arith arith_op.Sub) at a st t
have_shown a st t (kind.Sign sign.Star) at = operator_shown (Arith arith_op.Mul) at a st t
have_shown a st t (kind.Sign sign.Slash) at = operator_shown (Arith arith_op.Div) at a st t
have_shown a st t (kind.Sign sign.Less) at = operator_shown (Compare compare_op.Less) at a st t
have_shown a st t (kind.Sign sign.LessEqual) at = operator_shown (Compare compare_op.LessEqual) at a st t
have_shown a st t (kind.Sign sign.Equal) at = operator_shown (Compare compare_op.Equal) at a st t
have_shown a st t k at = close_shown k at a st t

-- An operand is due

-- a token comes where an operand is due
need_shown : (a : Around) (st : List concrete.Item) (k : TokenKind) (at : Place) → machine.need (context a (laid st) (items a st)) k at ≡ option_map shown (concrete.need a st k at)
need_shown a st (kind.ObjectId name) at = refl
need_shown a st (kind.Int value) at = operand_shown a st (Literal (Int value) at) (laid st).list (node.Int at value) refl
need_shown a st (kind.Str bytes) at = operand_shown a st (Literal (Str bytes) at) (laid st).list (node.Str at bytes) refl
need_shown a st (kind.Key key.True) at = operand_shown a st (Literal (Truth true) at) (laid st).list (node.Bool at true) refl
need_shown a st (kind.Key key.False) at = operand_shown a st (Literal (Truth false) at) (laid st).list (node.Bool at false) refl
need_shown a st (kind.Key key.If) at = refl
need_shown a st (kind.Key key.While) at = refl
need_shown a st (kind.Key key.Case) at = refl
need_shown a st (kind.Key key.Let) at = refl
need_shown a st (kind.Key key.New) at = refl
need_shown a st (kind.Key key.Not) at = refl
need_shown a st (kind.Key key.IsVoid) at = refl
need_shown a st (kind.Sign sign.Tilde) at = refl
need_shown a st (kind.Sign sign.LParen) at = refl
need_shown a st (kind.Sign sign.LBrace) at = refl
need_shown a st _ at = refl

-- the number of the next node is that of an atom
next_number : (name : List ℕ) (at : Place) (st : List concrete.Item) → length (laid st).list ≡ (laid st).count + 1 - 1
next_number name at st = omega (arith, laid_counted st)

-- a token comes after an identifier
identifier_shown : (a : Around) (st : List concrete.Item) (name : List ℕ) (here : Place) (k : TokenKind) (at : Place)
    → machine.identifier (context a (laid st) (items a st)) name here k at ≡ option_map shown (concrete.identifier a st name here k at)
identifier_shown a st name here (kind.Sign sign.Arrow) at = refl
identifier_shown a st name here (kind.Sign sign.LParen) at =
    let c = context a (lay (self_at here) (laid st)) (items a st) in
    ap (λ n. machine.go c (mode.FirstArgument (record { at = here; receiver = record { 0 = n }; class = None; name = name }))) (next_number name here st)
identifier_shown a st name here k at =
    let c = context a (lay (Name name here) (laid st)) (items a st) in
    ap (λ n. machine.have c (record { 0 = n }) k at) (next_number name here st) ∙ have_shown a st (Name name here) k at

-- a token comes after the parenthesis of arguments
first_shown : (a : Around) (st : List concrete.Item) (callee : Callee) (lparen : Place) (k : TokenKind) (at : Place)
    → machine.first_argument (context a (callee_laid callee (laid st)) (items a st)) (call_of callee (laid st)) k at ≡ option_map shown (concrete.first_argument a st callee lparen k at)
first_shown a st callee lparen (kind.Sign sign.RParen) at =
    operand_shown a st (Dispatch callee lparen NoArgs at) (callee_laid callee (laid st)).list (machine.dispatch (call_of callee (laid st)) []) (dispatch_list callee lparen NoArgs at (laid st))
first_shown a st callee lparen k at = need_shown a (Open (Arguments callee lparen NoPart) ∷ st) k at

-- a token comes after a semicolon of a block
next_shown : (a : Around) (st : List concrete.Item) (lbrace : Place) (firsts : Parts) (last : Concrete) (semi : Place) (k : TokenKind) (at : Place)
    → machine.next_item (context a (parts_laid (Then firsts last semi) (laid st)) (items a st)) lbrace (parts_numbers (Then firsts last semi) (laid st)) k at ≡ option_map shown (concrete.next_item a st lbrace firsts last semi k at)
next_shown a st lbrace firsts last semi (kind.Sign sign.RBrace) at =
    operand_shown a st (Block lbrace firsts last semi at) (parts_laid (Then firsts last semi) (laid st)).list (node.Block lbrace (parts_numbers (Then firsts last semi) (laid st))) (block_list lbrace firsts last semi at (laid st))
next_shown a st lbrace firsts last semi k at = need_shown a (Open (Items lbrace (Then firsts last semi)) ∷ st) k at

-- a token comes after a branch
branch_shown : (a : Around) (st : List concrete.Item) (c : OpenCase) (b : Branch) (k : TokenKind) (at : Place)
    → machine.next_branch (context a (case_laid (with_branch c b) (laid st)) (items a st)) (open_case (with_branch c b) (laid st)) k at ≡ option_map shown (concrete.next_branch a st c b k at)
branch_shown a st c b (kind.Key key.Esac) at =
    operand_shown a st (Case c.at c.value c.of c.firsts b at) (case_laid (with_branch c b) (laid st)).list (node.Case c.at (number c.value (laid st)) (branch_nodes (Also c.firsts b) (lay c.value (laid st)))) (case_list c b at (laid st))
branch_shown a st c b (kind.ObjectId name) at = refl
branch_shown a st c b _ at = refl

-- a token comes after a variable of a let
let_shown : (a : Around) (st : List concrete.Item) (here : Place) (firsts : Bindings) (v : Variable) (k : TokenKind) (at : Place)
    → machine.let_end (context a (bindings_laid firsts (laid st)) (bindings_items firsts (laid st) (items a st))) (variable v) k at ≡ option_map shown (concrete.let_end a st here firsts v k at)
let_shown a st here firsts v (kind.Sign sign.Arrow) at = refl
let_shown a st here firsts v (kind.Sign sign.Comma) at = refl
let_shown a st here firsts v (kind.Key key.In) at = refl
let_shown a st here firsts v _ at = refl

abbrev step_of : State → TokenKind → Place → Option State
step_of s k at = machine.step s.context s.mode k at

-- a token comes in the body of a feature
inside_steps : (a : Around) (st : List concrete.Item) (m : concrete.Mode) (k : TokenKind) (at : Place) → step_of (shown (Inside a st m)) k at ≡ option_map shown (concrete.inside_step a st m k at)
inside_steps a st Need k at = need_shown a st k at
inside_steps a st (Identifier name here) k at = identifier_shown a st name here k at
inside_steps a st (Have t) k at = have_shown a st t k at
inside_steps a st (StaticClass t mark) (kind.TypeId name) at = refl
inside_steps a st (StaticEnd t mark class) (kind.Sign sign.Dot) at = refl
inside_steps a st (MethodName (Dot t dot)) (kind.ObjectId name) at = refl
inside_steps a st (MethodName (StaticDot t mark class dot)) (kind.ObjectId name) at = refl
inside_steps a st (CallParenthesis target name here) (kind.Sign sign.LParen) at = refl
inside_steps a st (FirstArgument callee lparen) k at = first_shown a st callee lparen k at
inside_steps a st (NextItem lbrace firsts last semi) k at = next_shown a st lbrace firsts last semi k at
inside_steps a st (LetName here firsts) (kind.ObjectId name) at = refl
inside_steps a st (LetColon here firsts name there) (kind.Sign sign.Colon) at = refl
inside_steps a st (LetType here firsts name there colon) (kind.TypeId class) at = refl
inside_steps a st (LetEnd here firsts v) k at = let_shown a st here firsts v k at
inside_steps a st (BranchName c) (kind.ObjectId name) at = refl
inside_steps a st (BranchColon c name there) (kind.Sign sign.Colon) at = refl
inside_steps a st (BranchType c name there colon) (kind.TypeId class) at = refl
inside_steps a st (BranchArrow c v) (kind.Sign sign.FatArrow) at = refl
inside_steps a st (NextBranch c b) k at = branch_shown a st c b k at
inside_steps a st (NewType here) (kind.TypeId name) at =
    operand_shown a st (New here (record { name = name; at = at })) (laid st).list (node.New here (record { name = name; at = at })) refl
inside_steps a st _ _ at = refl

-- Classes and features

-- the parser steps as the machine over concrete trees does
pub step_shown : (s : concrete.State) (k : TokenKind) (at : Place) → step_of (shown s) k at ≡ option_map shown (concrete.step s k at)
step_shown (File cs) (kind.Key key.Class) at = refl
step_shown (ClassName cs mark) (kind.TypeId name) at = refl
step_shown (ClassHead cs mark name here) (kind.Key key.Inherits) at = refl
step_shown (ClassHead cs mark name here) (kind.Sign sign.LBrace) at = refl
step_shown (ParentName cs mark name here inherits) (kind.TypeId parent) at = refl
step_shown (ClassBrace cs mark name here inherits parent) (kind.Sign sign.LBrace) at = refl
step_shown (InClass o) (kind.ObjectId name) at = refl
step_shown (InClass o) (kind.Sign sign.RBrace) at = refl
step_shown (ClassEnd o rbrace) (kind.Sign sign.Semi) at = refl
step_shown (FeatureName o name here) (kind.Sign sign.LParen) at = refl
step_shown (FeatureName o name here) (kind.Sign sign.Colon) at = refl
step_shown (FirstFormal o name here lparen) (kind.Sign sign.RParen) at = refl
step_shown (FirstFormal o name here lparen) (kind.ObjectId formal) at = refl
step_shown (FormalName m) (kind.ObjectId name) at = refl
step_shown (FormalColon m name here) (kind.Sign sign.Colon) at = refl
step_shown (FormalType m name here colon) (kind.TypeId class) at = refl
step_shown (FormalEnd m v) (kind.Sign sign.RParen) at = refl
step_shown (FormalEnd m v) (kind.Sign sign.Comma) at = refl
step_shown (ResultColon m) (kind.Sign sign.Colon) at = refl
step_shown (ResultType m colon) (kind.TypeId name) at = refl
step_shown (MethodBrace m colon result) (kind.Sign sign.LBrace) at = refl
step_shown (MethodEnd o s body rbrace) (kind.Sign sign.Semi) at = refl
step_shown (AttributeType o name here colon) (kind.TypeId class) at = refl
step_shown (AttributeEnd o v) (kind.Sign sign.Arrow) at = refl
step_shown (AttributeEnd o v) (kind.Sign sign.Semi) at = refl
step_shown (Inside a st m) k at = inside_steps a st m k at
step_shown _ _ at = refl
