-- The classes of a parsed file weigh no more than its tokens, because the parser's state after each token weighs no more than the tokens read. The weight
-- counts nodes, features, and bytes of names and strings.
use Rattle.std.proofs.Common.{◌≡◌, ℕ, ◌+◌, ◌≤◌, nat_le, Bool, true, false, if◌then◌else◌, List, [], ◌∷◌, ◌++◌, length, codes, Option, Some, None, IfSome, refl, subst, length-append, arith}
use Rattle.std.specs.Option.{is_some}
use Rattle.cool_syntax.specs.declared.place.Place.{Place}
use Rattle.cool_syntax.specs.declared.type_ref.TypeRef.{TypeRef}
use Rattle.cool_syntax.specs.declared.token.Token.{Token}
use Rattle.cool_syntax.specs.declared.token.TokenKind.{TokenKind}
use Rattle.cool_syntax.specs.declared.token.TokenKind.TheVariants as kind
use Rattle.cool_syntax.specs.declared.token.Key.TheVariants as key
use Rattle.cool_syntax.specs.declared.token.Sign.TheVariants as sign
use Rattle.cool_syntax.specs.declared.node.NodeId.{NodeId}
use Rattle.cool_syntax.specs.declared.node.NodeBranch.{NodeBranch}
use Rattle.cool_syntax.specs.declared.node.Node.{Node}
use Rattle.cool_syntax.specs.declared.node.Node.TheVariants as node
use Rattle.cool_syntax.specs.declared.file_tree.ClassDef.{ClassDef}
use Rattle.cool_syntax.specs.declared.file_tree.Feature.{Feature}
use Rattle.cool_syntax.specs.declared.file_tree.Feature.TheVariants as feature
use Rattle.cool_syntax.specs.TokenFacts.{weight, weights}
use Rattle.cool_syntax.specs.Weights.{feature_weight, features_weight, classes_weight}
use Rattle.cool_parser.specs.declared.operator.Infix.{Infix}
use Rattle.cool_parser.specs.declared.operator.Infix.TheVariants as between
use Rattle.cool_parser.specs.declared.operator.Prefix.{Prefix}
use Rattle.cool_parser.specs.declared.operator.Prefix.TheVariants as front
use Rattle.cool_parser.specs.declared.item.Item.{Item}
use Rattle.cool_parser.specs.declared.item.Item.TheVariants as item
use Rattle.cool_parser.specs.declared.item.Call.{Call}
use Rattle.cool_parser.specs.declared.item.Variable.{Variable}
use Rattle.cool_parser.specs.declared.item.OpenCase.{OpenCase}
use Rattle.cool_parser.specs.declared.item.OpenClass.{OpenClass}
use Rattle.cool_parser.specs.declared.item.OpenMethod.{OpenMethod}
use Rattle.cool_parser.specs.declared.mode.Purpose.{Purpose}
use Rattle.cool_parser.specs.declared.mode.Purpose.TheVariants as purpose
use Rattle.cool_parser.specs.declared.mode.Mode.{Mode}
use Rattle.cool_parser.specs.declared.mode.Mode.TheVariants as mode
use Rattle.cool_parser.specs.Levels.{infix_of, infix_level, left_level, prefix_level}
use Rattle.cool_parser.specs.ParsingMachine.{Context, State, Outcome, Whole, Unexpected, push, place, next_id, operand, wait, ended, nodes_of, node_if, binary, before, initial, method, reduced, reduce, after, dispatch, dispatch_to, close_on, close, operator_or_end, have, need, identifier, is_right_parenthesis, is_right_brace, next_branch, compares, is_comparison, variable_name, declared, variable_type, let_end, class_head, parent_name, features, feature_name, first_formal, formal_end, result_type, attribute_end, static_class, method_name, new_type, class_end, step, finish, outcome, parsed, start}
use Rattle.cool_parser.specs.Waiting.{IsGood, IsGoodState}
use Rattle.cool_parser.proofs.GoodStates.{on, operates, bodied, reduce_good, step_good, start_good}
use Rattle.cool_parser.proofs.TextsOfNodes.{node_burden, burden, burden-placed, body_burden}
use Rattle.cool_parser.proofs.RunsOfFeatures.{case_owes}

-- Sizes that a state holds

-- an open class: itself, its name and its features so far
abbrev open_holds : OpenClass → ℕ
open_holds c = 1 + length c.name + features_weight c.features

-- an open method: its class, itself and its formals so far
abbrev method_holds : OpenMethod → ℕ
method_holds m = open_holds m.class + 1 + length m.formals

-- an item: the node that it will make, or the feature that waits for its expression
abbrev item_holds : Item → ℕ
item_holds (item.Left at op l) = 1
item_holds (item.Front at op) = 1
item_holds (item.Assigning at name) = 1
item_holds (item.Bound v init) = 1
item_holds item.Parenthesis = 0
item_holds (item.Arguments call args) = 1
item_holds (item.IfTest at) = 1
item_holds (item.IfYes at test) = 1
item_holds (item.IfNo at test met) = 1
item_holds (item.WhileTest at) = 1
item_holds (item.WhileBody at test) = 1
item_holds (item.Block at items) = 1
item_holds (item.Init v) = 1
item_holds (item.CaseValue at) = 1
item_holds (item.BranchBody k v) = case_owes k
item_holds (item.MethodBody m result) = method_holds m
item_holds (item.AttributeInit class v) = open_holds class + 1

abbrev stack_holds : List Item → ℕ
stack_holds [] = 0
stack_holds (i ∷ st) = item_holds i + stack_holds st

abbrev purpose_holds : Purpose → ℕ
purpose_holds (purpose.Attribute class) = open_holds class
purpose_holds (purpose.Formal m) = method_holds m
purpose_holds purpose.Let = 1
purpose_holds (purpose.Branch k) = case_owes k

-- a mode: a name that was read for an attribute or a formal counts before its type does
abbrev mode_holds : Mode → ℕ
mode_holds mode.File = 0
mode_holds mode.ClassName = 1
mode_holds (mode.ClassHead name at) = 1 + length name
mode_holds (mode.ParentName name at) = 1 + length name
mode_holds (mode.ClassBrace name at parent) = 1 + length name
mode_holds (mode.Features class) = open_holds class
mode_holds (mode.ClassEnd class) = open_holds class
mode_holds (mode.FeatureName class name at) = open_holds class + 1
mode_holds (mode.FirstFormal m) = method_holds m
mode_holds (mode.FormalEnd m) = method_holds m
mode_holds (mode.ResultColon m) = method_holds m
mode_holds (mode.ResultType m) = method_holds m
mode_holds (mode.MethodBrace m result) = method_holds m
mode_holds (mode.MethodEnd class) = open_holds class
mode_holds (mode.AttributeEnd class v) = open_holds class + 1
mode_holds (mode.VariableName p) = purpose_holds p
mode_holds (mode.VariableColon p name at) = purpose_holds p + 1
mode_holds (mode.VariableType p name at) = purpose_holds p + 1
mode_holds (mode.LetEnd v) = 1
mode_holds (mode.BranchArrow k v) = case_owes k
mode_holds (mode.NextBranch k) = case_owes k
mode_holds (mode.NextItem at items) = 1
mode_holds (mode.FirstArgument call) = 1
mode_holds mode.Need = 0
mode_holds (mode.Identifier name at) = 1
mode_holds (mode.Have t) = 0
mode_holds (mode.StaticClass t) = 1
mode_holds (mode.StaticDot t class) = 1
mode_holds (mode.MethodName t class) = 1
mode_holds (mode.CallParenthesis call) = 1
mode_holds (mode.NewType at) = 1

-- the classes that are whole, the nodes of the feature so far, and what waits
abbrev held : Context → Mode → ℕ
held c m = classes_weight c.classes + burden c.nodes + stack_holds c.stack + mode_holds m

-- a state that holds so much at most
abbrev IsHeld : ℕ → State → Type 0
IsHeld n s = held s.context s.mode ≤ n

-- a higher bound
raise : (o : Option State) (n m : ℕ) → n ≤ m → IfSome o (IsHeld n) → IfSome o (IsHeld m)
raise None n m l h = tt
raise (Some s) n m l h = omega (arith, l, h)

-- one more feature
features_weight-append : (fs : List Feature) (f : Feature) → features_weight (fs ++ f ∷ []) ≡ features_weight fs + feature_weight f
features_weight-append [] f = omega arith
features_weight-append (g ∷ fs) f = omega (arith, features_weight-append fs f)

-- one more class
classes_weight-append : (cs : List ClassDef) (c : ClassDef) → classes_weight (cs ++ c ∷ []) ≡ classes_weight cs + (1 + length c.name + features_weight c.features)
classes_weight-append [] c = omega arith
classes_weight-append (d ∷ cs) c = omega (arith, classes_weight-append cs c)

-- Operators that end

-- a node where a test holds
if_burden : (b : Bool) (i : Item) (n : Node) → node_burden n ≡ item_holds i → IfSome (node_if b n) (λ m. node_burden m ≡ item_holds i)
if_burden true i n h = h
if_burden false i n h = tt

-- an operator between two operands
binary_burden : (op : Infix) (at : Place) (l t : NodeId) → node_burden (binary op at l t) ≡ 1
binary_burden (between.Arith op) at l t = refl
binary_burden (between.Compare op) at l t = refl

-- an operator before its operand
before_burden : (op : Prefix) (at : Place) (t : NodeId) → node_burden (before op at t) ≡ 1
before_burden front.Not at t = refl
before_burden front.IsVoid at t = refl
before_burden front.Neg at t = refl

-- the node of an operator bears what its item held
ended_burden : (k : ℕ) (i : Item) (t : NodeId) → IfSome (ended k i t) (λ n. node_burden n ≡ item_holds i)
ended_burden k (item.Left at op l) t = if_burden (nat_le k (infix_level op)) (item.Left at op l) (binary op at l t) (binary_burden op at l t)
ended_burden k (item.Front at op) t = if_burden (nat_le k (prefix_level op)) (item.Front at op) (before op at t) (before_burden op at t)
ended_burden k (item.Assigning at name) t = if_burden (nat_le k 1) (item.Assigning at name) (node.Assign at name t) refl
ended_burden k (item.Bound v init) t = if_burden (nat_le k 0) (item.Bound v init) (node.Let v.at v.name v.declared init t) refl
ended_burden k _ t = tt

-- one operator that ends, or none
reduced_at : (k : ℕ) (ns : List Node) (i : Item) (st : List Item) (t : NodeId) (o : Option Node) → IfSome o (λ n. node_burden n ≡ item_holds i)
    → ((n : Node) → burden (reduced k (ns ++ n ∷ []) st (record { 0 = length ns })).nodes + stack_holds (reduced k (ns ++ n ∷ []) st (record { 0 = length ns })).stack ≡ burden (ns ++ n ∷ []) + stack_holds st)
    → burden (if is_some o then reduced k (ns ++ nodes_of o) st (record { 0 = length ns }) else record { nodes = ns; stack = i ∷ st; operand = t }).nodes
    + stack_holds (if is_some o then reduced k (ns ++ nodes_of o) st (record { 0 = length ns }) else record { nodes = ns; stack = i ∷ st; operand = t }).stack ≡ burden ns + stack_holds (i ∷ st)
reduced_at k ns i st t None h more = refl
reduced_at k ns i st t (Some n) h more = omega (arith, h, more n, burden-placed ns n)

-- operators that end change nothing of what is held
reduced_held : (k : ℕ) (st : List Item) (ns : List Node) (t : NodeId) → burden (reduced k ns st t).nodes + stack_holds (reduced k ns st t).stack ≡ burden ns + stack_holds st
reduced_held k [] ns t = refl
reduced_held k (i ∷ st) ns t = reduced_at k ns i st t (ended k i t) (ended_burden k i t) (λ n. reduced_held k st (ns ++ n ∷ []) (record { 0 = length ns }))

-- After an operand

-- a call with its class, or without
dispatch_to_burden : (o : Option TypeRef) (call : Call) (args : List NodeId) → node_burden (dispatch_to o call args) ≡ 1
dispatch_to_burden None call args = refl
dispatch_to_burden (Some class) call args = refl

-- a call is one node
dispatch_burden : (call : Call) (args : List NodeId) → node_burden (dispatch call args) ≡ 1
dispatch_burden call args = dispatch_to_burden call.class call args

-- a token that ends an operand, by the form that is open
close_on_held : (i : Item) (k : TokenKind) (c : Context) (t : NodeId) → IsGood (push i c) (mode.Have t) → IfSome (close_on i k c t) (IsHeld (held (push i c) (mode.Have t) + weight k))
close_on_held item.Parenthesis (kind.Sign sign.RParen) c t g = omega arith
close_on_held (item.Arguments call args) (kind.Sign sign.RParen) c t g = omega (arith, burden-placed c.nodes (dispatch call (args ++ t ∷ [])), dispatch_burden call (args ++ t ∷ []))
close_on_held (item.Arguments call args) (kind.Sign sign.Comma) c t g = omega arith
close_on_held (item.Init v) (kind.Sign sign.Comma) c t g = omega arith
close_on_held (item.Init v) (kind.Key key.In) c t g = omega arith
close_on_held (item.IfTest at) (kind.Key key.Then) c t g = omega arith
close_on_held (item.IfYes at test) (kind.Key key.Else) c t g = omega arith
close_on_held (item.IfNo at test met) (kind.Key key.Fi) c t g = omega (arith, burden-placed c.nodes (node.If at test met t))
close_on_held (item.WhileTest at) (kind.Key key.Loop) c t g = omega arith
close_on_held (item.WhileBody at test) (kind.Key key.Pool) c t g = omega (arith, burden-placed c.nodes (node.While at test t))
close_on_held (item.CaseValue at) (kind.Key key.Of) c t g = omega arith
close_on_held (item.BranchBody k v) (kind.Sign sign.Semi) c t g =
    let b : NodeBranch = record { at = v.at; name = v.name; declared = v.declared; body = t } in
    omega (arith, length-append k.branches (b ∷ []))
close_on_held (item.Block at items) (kind.Sign sign.Semi) c t g = omega arith
close_on_held (item.AttributeInit class v) (kind.Sign sign.Semi) c t g =
    omega (arith, features_weight-append class.features (initial v c), body_burden c.nodes (bodied (item.AttributeInit class v) c t refl refl g).1)
close_on_held (item.MethodBody m result) (kind.Sign sign.RBrace) c t g =
    omega (arith, features_weight-append m.class.features (method m result c), body_burden c.nodes (bodied (item.MethodBody m result) c t refl refl g).1)
close_on_held _ _ c t g = tt

-- the same on a stack
close_held : (k : TokenKind) (st : List Item) (c : Context) (t : NodeId) → IsGood (record c { stack = st }) (mode.Have t)
    → IfSome (close k st c t) (IsHeld (classes_weight c.classes + burden c.nodes + stack_holds st + weight k))
close_held k [] c t g = tt
close_held k (i ∷ st) c t g =
    raise (close_on i k (record c { stack = st }) t) (held (push i (record c { stack = st })) (mode.Have t) + weight k) _ (omega arith) (close_on_held i k (record c { stack = st }) t g)

-- an operator takes its left operand
shifted : (b : Bool) (op : Infix) (at : Place) (c : Context) (t : NodeId) (n : ℕ) → held c (mode.Have t) + 1 ≤ n → IfSome (if b then None else wait (item.Left at op t) c) (IsHeld n)
shifted true op at c t n l = tt
shifted false op at c t n l = omega (arith, l)

-- an operator's token weighs one
infix_weight : (k : TokenKind) → IfSome (infix_of k) (λ op. weight k ≡ 1)
infix_weight (kind.Sign sign.Plus) = refl
infix_weight (kind.Sign sign.Minus) = refl
infix_weight (kind.Sign sign.Star) = refl
infix_weight (kind.Sign sign.Slash) = refl
infix_weight (kind.Sign sign.Less) = refl
infix_weight (kind.Sign sign.LessEqual) = refl
infix_weight (kind.Sign sign.Equal) = refl
infix_weight _ = tt

-- an operator, or the end of an operand
operator_held : (o : Option Infix) (c : Context) (t : NodeId) (k : TokenKind) (at : Place) → IfSome o (λ op. weight k ≡ 1) → IsGood c (mode.Have t)
    → IfSome (operator_or_end o c t k at) (IsHeld (held c (mode.Have t) + weight k))
operator_held (Some op) c t k at p g =
    let r = reduce (left_level op) c t in
    shifted (if is_comparison op then compares r.stack else false) op at (after c r) r.operand _ (omega (arith, p, reduced_held (left_level op) c.stack c.nodes t))
operator_held None c t k at p g =
    let r = reduce 0 c t in
    raise (close k r.stack (after c r) r.operand) (classes_weight c.classes + burden r.nodes + stack_holds r.stack + weight k) _ (omega (arith, reduced_held 0 c.stack c.nodes t)) (close_held k r.stack (after c r) r.operand (reduce_good 0 c t g))

-- after an operand
have_held : (c : Context) (t : NodeId) (k : TokenKind) (at : Place) → IsGood c (mode.Have t) → IfSome (have c t k at) (IsHeld (held c (mode.Have t) + weight k))
have_held c t (kind.Sign sign.Dot) at g = omega arith
have_held c t (kind.Sign sign.At) at g = omega arith
have_held c t k at g = operator_held (infix_of k) c t k at (infix_weight k) g

-- Operands

-- an operand begins
need_held : (c : Context) (k : TokenKind) (at : Place) → IfSome (need c k at) (IsHeld (held c mode.Need + weight k))
need_held c (kind.ObjectId name) at = omega arith
need_held c (kind.Int value) at = omega (arith, burden-placed c.nodes (node.Int at value))
need_held c (kind.Str bytes) at = omega (arith, burden-placed c.nodes (node.Str at bytes))
need_held c (kind.Key key.True) at = omega (arith, burden-placed c.nodes (node.Bool at true))
need_held c (kind.Key key.False) at = omega (arith, burden-placed c.nodes (node.Bool at false))
need_held c (kind.Key key.If) at = omega arith
need_held c (kind.Key key.While) at = omega arith
need_held c (kind.Key key.Case) at = omega arith
need_held c (kind.Key key.Let) at = omega arith
need_held c (kind.Key key.New) at = omega arith
need_held c (kind.Key key.Not) at = omega arith
need_held c (kind.Key key.IsVoid) at = omega arith
need_held c (kind.Sign sign.Tilde) at = omega arith
need_held c (kind.Sign sign.LParen) at = omega arith
need_held c (kind.Sign sign.LBrace) at = omega arith
need_held c _ at = tt

-- an identifier is assigned, called, or an operand
identifier_held : (c : Context) (name : List ℕ) (here : Place) (k : TokenKind) (at : Place) → IsGood c (mode.Identifier name here)
    → IfSome (identifier c name here k at) (IsHeld (held c (mode.Identifier name here) + weight k))
identifier_held c name here (kind.Sign sign.Arrow) at g = omega arith
identifier_held c name here (kind.Sign sign.LParen) at g = omega (arith, burden-placed c.nodes (node.Id here (codes "self")))
identifier_held c name here k at g =
    raise (have (place (node.Id here name) c) (next_id c) k at) (held (place (node.Id here name) c) (mode.Have (next_id c)) + weight k) _ (omega (arith, burden-placed c.nodes (node.Id here name)))
    (have_held (place (node.Id here name) c) (next_id c) k at (operates (node.Id here name) c [] refl (on c (mode.Identifier name here) g)))

-- arguments end, or the first one begins
first_argument_if : (b : Bool) (c : Context) (call : Call) (k : TokenKind) (at : Place)
    → IfSome (if b then operand (dispatch call []) c else need (push (item.Arguments call []) c) k at) (IsHeld (held c (mode.FirstArgument call) + weight k))
first_argument_if true c call k at = omega (arith, burden-placed c.nodes (dispatch call []), dispatch_burden call [])
first_argument_if false c call k at = raise (need (push (item.Arguments call []) c) k at) (held (push (item.Arguments call []) c) mode.Need + weight k) _ (omega arith) (need_held (push (item.Arguments call []) c) k at)

-- a block ends, or one more item begins
next_item_if : (b : Bool) (c : Context) (here : Place) (items : List NodeId) (k : TokenKind) (at : Place)
    → IfSome (if b then operand (node.Block here items) c else need (push (item.Block here items) c) k at) (IsHeld (held c (mode.NextItem here items) + weight k))
next_item_if true c here items k at = omega (arith, burden-placed c.nodes (node.Block here items))
next_item_if false c here items k at = raise (need (push (item.Block here items) c) k at) (held (push (item.Block here items) c) mode.Need + weight k) _ (omega arith) (need_held (push (item.Block here items) c) k at)

-- a case ends, or one more branch begins
next_branch_held : (c : Context) (b : OpenCase) (k : TokenKind) (at : Place) → IfSome (next_branch c b k at) (IsHeld (held c (mode.NextBranch b) + weight k))
next_branch_held c b (kind.Key key.Esac) at = omega (arith, burden-placed c.nodes (node.Case b.at b.value b.branches))
next_branch_held c b (kind.ObjectId name) at = omega arith
next_branch_held c b _ at = tt

-- Names and types

-- the name of a method that is called
method_name_held : (c : Context) (t : NodeId) (class : Option TypeRef) (k : TokenKind) (at : Place) → IfSome (method_name c t class k at) (IsHeld (held c (mode.MethodName t class) + weight k))
method_name_held c t class (kind.ObjectId name) at = omega arith
method_name_held c t class _ at = tt

-- the class of a static call
static_class_held : (c : Context) (t : NodeId) (k : TokenKind) (at : Place) → IfSome (static_class c t k at) (IsHeld (held c (mode.StaticClass t) + weight k))
static_class_held c t (kind.TypeId name) at = omega arith
static_class_held c t _ at = tt

-- the class of a new object
new_type_held : (c : Context) (here : Place) (k : TokenKind) (at : Place) → IfSome (new_type c here k at) (IsHeld (held c (mode.NewType here) + weight k))
new_type_held c here (kind.TypeId name) at = omega (arith, burden-placed c.nodes (node.New here (record { name = name; at = at })))
new_type_held c here _ at = tt

-- a name that is declared
variable_name_held : (c : Context) (p : Purpose) (k : TokenKind) (at : Place) → IfSome (variable_name c p k at) (IsHeld (held c (mode.VariableName p) + weight k))
variable_name_held c p (kind.ObjectId name) at = omega arith
variable_name_held c p _ at = tt

-- a name and its type, which adds nothing
declared_held : (c : Context) (p : Purpose) (v : Variable) (n : ℕ) → classes_weight c.classes + burden c.nodes + stack_holds c.stack + (purpose_holds p + 1) ≤ n → IfSome (declared c p v) (IsHeld n)
declared_held c (purpose.Attribute class) v n l = omega (arith, l)
declared_held c (purpose.Formal m) v n l = omega (arith, l, length-append m.formals (record { name = v.name; at = v.at; declared = v.declared } ∷ []))
declared_held c purpose.Let v n l = omega (arith, l)
declared_held c (purpose.Branch b) v n l = omega (arith, l)

-- the type of a name
variable_type_held : (c : Context) (p : Purpose) (name : List ℕ) (here : Place) (k : TokenKind) (at : Place)
    → IfSome (variable_type c p name here k at) (IsHeld (held c (mode.VariableType p name here) + weight k))
variable_type_held c p name here (kind.TypeId spelling) at = declared_held c p (record { name = name; at = here; declared = record { name = spelling; at = at } }) _ (omega arith)
variable_type_held c p name here _ at = tt

-- after a variable of a let
let_end_held : (c : Context) (v : Variable) (k : TokenKind) (at : Place) → IfSome (let_end c v k at) (IsHeld (held c (mode.LetEnd v) + weight k))
let_end_held c v (kind.Sign sign.Arrow) at = omega arith
let_end_held c v (kind.Sign sign.Comma) at = omega arith
let_end_held c v (kind.Key key.In) at = omega arith
let_end_held c v _ at = tt

-- Classes and features

-- after the name of a class
class_head_held : (c : Context) (name : List ℕ) (here : Place) (k : TokenKind) (at : Place) → IfSome (class_head c name here k at) (IsHeld (held c (mode.ClassHead name here) + weight k))
class_head_held c name here (kind.Key key.Inherits) at = omega arith
class_head_held c name here (kind.Sign sign.LBrace) at = omega arith
class_head_held c name here _ at = tt

-- the name of a parent
parent_name_held : (c : Context) (name : List ℕ) (here : Place) (k : TokenKind) (at : Place) → IfSome (parent_name c name here k at) (IsHeld (held c (mode.ParentName name here) + weight k))
parent_name_held c name here (kind.TypeId parent) at = omega arith
parent_name_held c name here _ at = tt

-- a feature begins, or the features end
features_held : (c : Context) (class : OpenClass) (k : TokenKind) (at : Place) → IfSome (features c class k at) (IsHeld (held c (mode.Features class) + weight k))
features_held c class (kind.ObjectId name) at = omega arith
features_held c class (kind.Sign sign.RBrace) at = omega arith
features_held c class _ at = tt

-- after the name of a feature
feature_name_held : (c : Context) (class : OpenClass) (name : List ℕ) (here : Place) (k : TokenKind) (at : Place)
    → IfSome (feature_name c class name here k at) (IsHeld (held c (mode.FeatureName class name here) + weight k))
feature_name_held c class name here (kind.Sign sign.LParen) at = omega arith
feature_name_held c class name here (kind.Sign sign.Colon) at = omega arith
feature_name_held c class name here _ at = tt

-- the formals end, or the first one begins
first_formal_held : (c : Context) (m : OpenMethod) (k : TokenKind) (at : Place) → IfSome (first_formal c m k at) (IsHeld (held c (mode.FirstFormal m) + weight k))
first_formal_held c m (kind.Sign sign.RParen) at = omega arith
first_formal_held c m k at = variable_name_held c (purpose.Formal m) k at

-- the formals end, or one more begins
formal_end_held : (c : Context) (m : OpenMethod) (k : TokenKind) (at : Place) → IfSome (formal_end c m k at) (IsHeld (held c (mode.FormalEnd m) + weight k))
formal_end_held c m (kind.Sign sign.RParen) at = omega arith
formal_end_held c m (kind.Sign sign.Comma) at = omega arith
formal_end_held c m _ at = tt

-- the type of a method's result
result_type_held : (c : Context) (m : OpenMethod) (k : TokenKind) (at : Place) → IfSome (result_type c m k at) (IsHeld (held c (mode.ResultType m) + weight k))
result_type_held c m (kind.TypeId name) at = omega arith
result_type_held c m _ at = tt

-- an attribute's value begins, or it has none
attribute_end_held : (c : Context) (class : OpenClass) (v : Variable) (k : TokenKind) (at : Place) → IfSome (attribute_end c class v k at) (IsHeld (held c (mode.AttributeEnd class v) + weight k))
attribute_end_held c class v (kind.Sign sign.Arrow) at = omega arith
attribute_end_held c class v (kind.Sign sign.Semi) at =
    omega (arith, features_weight-append class.features (feature.Attribute (record { name = v.name; at = v.at; declared = v.declared; init = None })))
attribute_end_held c class v _ at = tt

-- a class is whole
class_end_held : (c : Context) (class : OpenClass) (n : ℕ) → held c (mode.ClassEnd class) ≤ n → IfSome (class_end c class) (IsHeld n)
class_end_held c class n l = omega (arith, l, classes_weight-append c.classes (record { name = class.name; at = class.at; parent = class.parent; features = class.features }))

-- Steps

-- a token adds no more than it weighs
step_held : (c : Context) (m : Mode) (k : TokenKind) (at : Place) → IsGood c m → IfSome (step c m k at) (IsHeld (held c m + weight k))
step_held c mode.File (kind.Key key.Class) at g = omega arith
step_held c mode.ClassName (kind.TypeId name) at g = omega arith
step_held c (mode.ClassHead name here) k at g = class_head_held c name here k at
step_held c (mode.ParentName name here) k at g = parent_name_held c name here k at
step_held c (mode.ClassBrace name here parent) (kind.Sign sign.LBrace) at g = omega arith
step_held c (mode.Features class) k at g = features_held c class k at
step_held c (mode.ClassEnd class) (kind.Sign sign.Semi) at g = class_end_held c class _ (omega arith)
step_held c (mode.FeatureName class name here) k at g = feature_name_held c class name here k at
step_held c (mode.FirstFormal m) k at g = first_formal_held c m k at
step_held c (mode.FormalEnd m) k at g = formal_end_held c m k at
step_held c (mode.ResultColon m) (kind.Sign sign.Colon) at g = omega arith
step_held c (mode.ResultType m) k at g = result_type_held c m k at
step_held c (mode.MethodBrace m result) (kind.Sign sign.LBrace) at g = omega arith
step_held c (mode.MethodEnd class) (kind.Sign sign.Semi) at g = omega arith
step_held c (mode.AttributeEnd class v) k at g = attribute_end_held c class v k at
step_held c (mode.VariableName p) k at g = variable_name_held c p k at
step_held c (mode.VariableColon p name here) (kind.Sign sign.Colon) at g = omega arith
step_held c (mode.VariableType p name here) k at g = variable_type_held c p name here k at
step_held c (mode.LetEnd v) k at g = let_end_held c v k at
step_held c (mode.BranchArrow b v) (kind.Sign sign.FatArrow) at g = omega arith
step_held c (mode.NextBranch b) k at g = next_branch_held c b k at
step_held c (mode.NextItem here items) k at g = next_item_if (is_right_brace k) c here items k at
step_held c (mode.FirstArgument call) k at g = first_argument_if (is_right_parenthesis k) c call k at
step_held c mode.Need k at g = need_held c k at
step_held c (mode.Identifier name here) k at g = identifier_held c name here k at g
step_held c (mode.Have t) k at g = have_held c t k at g
step_held c (mode.StaticClass t) k at g = static_class_held c t k at
step_held c (mode.StaticDot t class) (kind.Sign sign.Dot) at g = omega arith
step_held c (mode.MethodName t class) k at g = method_name_held c t class k at
step_held c (mode.CallParenthesis call) (kind.Sign sign.LParen) at g = omega arith
step_held c (mode.NewType here) k at g = new_type_held c here k at
step_held c _ _ at g = tt

-- Files

abbrev IsOutcomeHeld : ℕ → Outcome → Type 0
IsOutcomeHeld n (Whole classes) = classes_weight classes ≤ n
IsOutcomeHeld n (Unexpected at) = Unit {0}

-- a file may end
finish_held : (c : Context) (m : Mode) (end : Place) (n : ℕ) → held c m ≤ n → IsOutcomeHeld n (finish c m end)
finish_held c mode.File end n h = omega (arith, h)
finish_held c _ end n h = tt

-- the same bound in another wording
outcome_raise : (o : Outcome) (n m : ℕ) → n ≤ m → IsOutcomeHeld n o → IsOutcomeHeld m o
outcome_raise (Whole classes) n m l h = omega (arith, l, h)
outcome_raise (Unexpected at) n m l h = tt

-- the outcome of the rest of the tokens
outcome_held : (ts : List Token) (n : ℕ) (at end : Place) (o : Option State) → IfSome o (IsHeld n) → IfSome o IsGoodState → IsOutcomeHeld (n + weights ts) (outcome at o ts end)
outcome_held [] n at end None h g = tt
outcome_held (t ∷ ts) n at end None h g = tt
outcome_held [] n at end (Some s) h g = finish_held s.context s.mode end (n + weights []) (omega (arith, h))
outcome_held (t ∷ ts) n at end (Some s) h g =
    let next = step s.context s.mode t.kind t.at in
    outcome_raise (outcome t.at next ts end) (n + weight t.kind + weights ts) (n + weights (t ∷ ts)) (omega arith)
    (outcome_held ts (n + weight t.kind) t.at end next
    (raise next (held s.context s.mode + weight t.kind) (n + weight t.kind) (omega (arith, h)) (step_held s.context s.mode t.kind t.at g))
    (step_good s.context s.mode t.kind t.at g))

-- the classes of a file weigh no more than its tokens
pub classes_weigh : (ts : List Token) (end : Place) (classes : List ClassDef) → parsed ts end ≡ Whole classes → classes_weight classes ≤ weights ts
classes_weigh ts end classes e = subst (IsOutcomeHeld (weights ts)) e (outcome_raise (outcome end (Some start) ts end) (0 + weights ts) (weights ts) (omega arith) (outcome_held ts 0 end end (Some start) (omega arith) start_good))
