-- One token adds at most two to the number of nodes and stack entries of the parser together.
use Rattle.std.proofs.Common.{ℕ, ◌+◌, ◌≤◌, Bool, true, false, if◌then◌else◌, List, [], ◌∷◌, ◌++◌, length, codes, Option, Some, None, IfSome, length-append, arith}
use Rattle.std.specs.Option.{is_some}
use Rattle.cool_syntax.specs.declared.place.Place.{Place}
use Rattle.cool_syntax.specs.declared.type_ref.TypeRef.{TypeRef}
use Rattle.cool_syntax.specs.declared.token.TokenKind.{TokenKind}
use Rattle.cool_syntax.specs.declared.token.TokenKind.TheVariants as kind
use Rattle.cool_syntax.specs.declared.token.Key.TheVariants as key
use Rattle.cool_syntax.specs.declared.token.Sign.TheVariants as sign
use Rattle.cool_syntax.specs.declared.node.NodeId.{NodeId}
use Rattle.cool_syntax.specs.declared.node.Node.{Node}
use Rattle.cool_syntax.specs.declared.node.Node.TheVariants as node
use Rattle.cool_parser.specs.declared.operator.Infix.{Infix}
use Rattle.cool_parser.specs.declared.item.Item.{Item}
use Rattle.cool_parser.specs.declared.item.Item.TheVariants as item
use Rattle.cool_parser.specs.declared.item.Call.{Call}
use Rattle.cool_parser.specs.declared.item.Variable.{Variable}
use Rattle.cool_parser.specs.declared.item.OpenCase.{OpenCase}
use Rattle.cool_parser.specs.declared.item.OpenClass.{OpenClass}
use Rattle.cool_parser.specs.declared.item.OpenMethod.{OpenMethod}
use Rattle.cool_parser.specs.declared.mode.Purpose.{Purpose}
use Rattle.cool_parser.specs.declared.mode.Purpose.TheVariants as purpose
use Rattle.cool_parser.specs.declared.mode.Mode.{Mode}
use Rattle.cool_parser.specs.declared.mode.Mode.TheVariants as mode
use Rattle.cool_parser.specs.Levels.{infix_of, left_level}
use Rattle.cool_parser.specs.ParsingMachine.{Context, State, push, place, next_id, operand, wait, ended, nodes_of, reduced, reduce, after, shift, dispatch, close_on, close, operator_or_end, have, need, identifier, is_right_parenthesis, is_right_brace, first_argument, next_item, next_branch, compares, is_comparison, variable_name, declared, variable_type, let_end, class_head, parent_name, features, feature_name, first_formal, formal_end, result_type, attribute_end, static_class, method_name, new_type, class_end, step}

-- nodes and items
abbrev pub weight : Context → ℕ
weight c = length c.nodes + length c.stack

abbrev pub IsLight : ℕ → State → Type 0
IsLight n s = weight s.context ≤ n

operand_light : (n : Node) (c : Context) → IfSome (operand n c) (IsLight (weight c + 1))
operand_light n c = omega (arith, length-append c.nodes (n ∷ []))

-- a higher bound
weaken : (o : Option State) (n m : ℕ) → n ≤ m → IfSome o (IsLight n) → IfSome o (IsLight m)
weaken None n m h l = tt
weaken (Some s) n m h l = omega (arith, h, l)

-- Operators that end

reduced_light_at : (k : ℕ) (ns : List Node) (i : Item) (st : List Item) (t : NodeId) (o : Option Node)
    → ((n : Node) → length (reduced k (ns ++ n ∷ []) st (record { 0 = length ns })).nodes + length (reduced k (ns ++ n ∷ []) st (record { 0 = length ns })).stack ≤ length (ns ++ n ∷ []) + length st)
    → length (if is_some o then reduced k (ns ++ nodes_of o) st (record { 0 = length ns }) else record { nodes = ns; stack = i ∷ st; operand = t }).nodes
    + length (if is_some o then reduced k (ns ++ nodes_of o) st (record { 0 = length ns }) else record { nodes = ns; stack = i ∷ st; operand = t }).stack ≤ length ns + length (i ∷ st)
reduced_light_at k ns i st t None more = omega arith
reduced_light_at k ns i st t (Some n) more = omega (arith, more n, length-append ns (n ∷ []))

-- an operator that ends is a node in place of an item
pub reduced_light : (k : ℕ) (st : List Item) (ns : List Node) (t : NodeId) → length (reduced k ns st t).nodes + length (reduced k ns st t).stack ≤ length ns + length st
reduced_light k [] ns t = omega arith
reduced_light k (i ∷ st) ns t = reduced_light_at k ns i st t (ended k i t) (λ n. reduced_light k st (ns ++ n ∷ []) (record { 0 = length ns }))

shifted_light : (b : Bool) (op : Infix) (at : Place) (c : Context) (t : NodeId) → IfSome (if b then None else wait (item.Left at op t) c) (IsLight (weight c + 1))
shifted_light true op at c t = tt
shifted_light false op at c t = omega arith

close_on_light : (i : Item) (k : TokenKind) (c : Context) (t : NodeId) → IfSome (close_on i k c t) (IsLight (weight c + 1))
close_on_light item.Parenthesis (kind.Sign sign.RParen) c t = omega arith
close_on_light (item.Arguments call args) (kind.Sign sign.RParen) c t = operand_light (dispatch call (args ++ t ∷ [])) c
close_on_light (item.Arguments call args) (kind.Sign sign.Comma) c t = omega arith
close_on_light (item.Init v) (kind.Sign sign.Comma) c t = omega arith
close_on_light (item.Init v) (kind.Key key.In) c t = omega arith
close_on_light (item.IfTest at) (kind.Key key.Then) c t = omega arith
close_on_light (item.IfYes at test) (kind.Key key.Else) c t = omega arith
close_on_light (item.IfNo at test met) (kind.Key key.Fi) c t = operand_light (node.If at test met t) c
close_on_light (item.WhileTest at) (kind.Key key.Loop) c t = omega arith
close_on_light (item.WhileBody at test) (kind.Key key.Pool) c t = operand_light (node.While at test t) c
close_on_light (item.CaseValue at) (kind.Key key.Of) c t = omega arith
close_on_light (item.BranchBody k v) (kind.Sign sign.Semi) c t = omega arith
close_on_light (item.Block at items) (kind.Sign sign.Semi) c t = omega arith
close_on_light (item.AttributeInit class v) (kind.Sign sign.Semi) c t = omega arith
close_on_light (item.MethodBody m result) (kind.Sign sign.RBrace) c t = omega arith
close_on_light _ _ c t = tt

close_light : (k : TokenKind) (st : List Item) (c : Context) (t : NodeId) → IfSome (close k st c t) (IsLight (length c.nodes + length st + 1))
close_light k [] c t = tt
close_light k (i ∷ st) c t =
    weaken (close_on i k (record c { stack = st }) t) (length c.nodes + length st + 1) (length c.nodes + length (i ∷ st) + 1) (omega arith) (close_on_light i k (record c { stack = st }) t)

operator_light : (o : Option Infix) (c : Context) (t : NodeId) (k : TokenKind) (at : Place) → IfSome (operator_or_end o c t k at) (IsLight (weight c + 1))
operator_light (Some op) c t k at =
    let r = reduce (left_level op) c t in
    weaken (shift op at (after c r) r.operand) (length r.nodes + length r.stack + 1) (weight c + 1) (omega (arith, reduced_light (left_level op) c.stack c.nodes t))
    (shifted_light (if is_comparison op then compares r.stack else false) op at (after c r) r.operand)
operator_light None c t k at =
    let r = reduce 0 c t in
    weaken (close k r.stack (after c r) r.operand) (length r.nodes + length r.stack + 1) (weight c + 1) (omega (arith, reduced_light 0 c.stack c.nodes t)) (close_light k r.stack (after c r) r.operand)

have_light : (c : Context) (t : NodeId) (k : TokenKind) (at : Place) → IfSome (have c t k at) (IsLight (weight c + 1))
have_light c t (kind.Sign sign.Dot) at = omega arith
have_light c t (kind.Sign sign.At) at = omega arith
have_light c t k at = operator_light (infix_of k) c t k at

-- Operands

need_light : (c : Context) (k : TokenKind) (at : Place) → IfSome (need c k at) (IsLight (weight c + 1))
need_light c (kind.ObjectId name) at = omega arith
need_light c (kind.Int value) at = operand_light (node.Int at value) c
need_light c (kind.Str bytes) at = operand_light (node.Str at bytes) c
need_light c (kind.Key key.True) at = operand_light (node.Bool at true) c
need_light c (kind.Key key.False) at = operand_light (node.Bool at false) c
need_light c (kind.Key key.If) at = omega arith
need_light c (kind.Key key.While) at = omega arith
need_light c (kind.Key key.Case) at = omega arith
need_light c (kind.Key key.Let) at = omega arith
need_light c (kind.Key key.New) at = omega arith
need_light c (kind.Key key.Not) at = omega arith
need_light c (kind.Key key.IsVoid) at = omega arith
need_light c (kind.Sign sign.Tilde) at = omega arith
need_light c (kind.Sign sign.LParen) at = omega arith
need_light c (kind.Sign sign.LBrace) at = omega arith
need_light c _ at = tt

identifier_light : (c : Context) (name : List ℕ) (here : Place) (k : TokenKind) (at : Place) → IfSome (identifier c name here k at) (IsLight (weight c + 2))
identifier_light c name here (kind.Sign sign.Arrow) at = omega arith
identifier_light c name here (kind.Sign sign.LParen) at = omega (arith, length-append c.nodes (node.Id here (codes "self") ∷ []))
identifier_light c name here k at =
    weaken (have (place (node.Id here name) c) (next_id c) k at) (weight (place (node.Id here name) c) + 1) (weight c + 2) (omega (arith, length-append c.nodes (node.Id here name ∷ []))) (have_light (place (node.Id here name) c) (next_id c) k at)

first_argument_if : (b : Bool) (c : Context) (call : Call) (k : TokenKind) (at : Place)
    → IfSome (if b then operand (dispatch call []) c else need (push (item.Arguments call []) c) k at) (IsLight (weight c + 2))
first_argument_if true c call k at = weaken (operand (dispatch call []) c) (weight c + 1) (weight c + 2) (omega arith) (operand_light (dispatch call []) c)
first_argument_if false c call k at = weaken (need (push (item.Arguments call []) c) k at) (weight (push (item.Arguments call []) c) + 1) (weight c + 2) (omega arith) (need_light (push (item.Arguments call []) c) k at)

first_argument_light : (c : Context) (call : Call) (k : TokenKind) (at : Place) → IfSome (first_argument c call k at) (IsLight (weight c + 2))
first_argument_light c call k at = first_argument_if (is_right_parenthesis k) c call k at

next_item_if : (b : Bool) (c : Context) (here : Place) (items : List NodeId) (k : TokenKind) (at : Place)
    → IfSome (if b then operand (node.Block here items) c else need (push (item.Block here items) c) k at) (IsLight (weight c + 2))
next_item_if true c here items k at = weaken (operand (node.Block here items) c) (weight c + 1) (weight c + 2) (omega arith) (operand_light (node.Block here items) c)
next_item_if false c here items k at = weaken (need (push (item.Block here items) c) k at) (weight (push (item.Block here items) c) + 1) (weight c + 2) (omega arith) (need_light (push (item.Block here items) c) k at)

next_item_light : (c : Context) (here : Place) (items : List NodeId) (k : TokenKind) (at : Place) → IfSome (next_item c here items k at) (IsLight (weight c + 2))
next_item_light c here items k at = next_item_if (is_right_brace k) c here items k at

next_branch_light : (c : Context) (b : OpenCase) (k : TokenKind) (at : Place) → IfSome (next_branch c b k at) (IsLight (weight c + 2))
next_branch_light c b (kind.Key key.Esac) at = weaken (operand (node.Case b.at b.value b.branches) c) (weight c + 1) (weight c + 2) (omega arith) (operand_light (node.Case b.at b.value b.branches) c)
next_branch_light c b (kind.ObjectId name) at = omega arith
next_branch_light c b _ at = tt

variable_name_light : (c : Context) (p : Purpose) (k : TokenKind) (at : Place) → IfSome (variable_name c p k at) (IsLight (weight c + 2))
variable_name_light c (purpose.Attribute class) (kind.ObjectId name) at = omega arith
variable_name_light c (purpose.Formal m) (kind.ObjectId name) at = omega arith
variable_name_light c purpose.Let (kind.ObjectId name) at = omega arith
variable_name_light c (purpose.Branch b) (kind.ObjectId name) at = omega arith
variable_name_light c p _ at = tt

declared_light : (c : Context) (p : Purpose) (v : Variable) (name : List ℕ) (here : Place) → IfSome (declared c p v) (IsLight (weight c + 2))
declared_light c (purpose.Attribute class) v name here = omega arith
declared_light c (purpose.Formal m) v name here = omega arith
declared_light c purpose.Let v name here = omega arith
declared_light c (purpose.Branch b) v name here = omega arith

variable_type_light : (c : Context) (p : Purpose) (name : List ℕ) (here : Place) (k : TokenKind) (at : Place) → IfSome (variable_type c p name here k at) (IsLight (weight c + 2))
variable_type_light c p name here (kind.TypeId spelling) at = declared_light c p (record { name = name; at = here; declared = record { name = spelling; at = at } }) name here
variable_type_light c p name here _ at = tt

let_end_light : (c : Context) (v : Variable) (k : TokenKind) (at : Place) → IfSome (let_end c v k at) (IsLight (weight c + 2))
let_end_light c v (kind.Sign sign.Arrow) at = omega arith
let_end_light c v (kind.Sign sign.Comma) at = omega arith
let_end_light c v (kind.Key key.In) at = omega arith
let_end_light c v _ at = tt

class_head_light : (c : Context) (name : List ℕ) (here : Place) (k : TokenKind) (at : Place) → IfSome (class_head c name here k at) (IsLight (weight c + 2))
class_head_light c name here (kind.Key key.Inherits) at = omega arith
class_head_light c name here (kind.Sign sign.LBrace) at = omega arith
class_head_light c name here _ at = tt

parent_name_light : (c : Context) (name : List ℕ) (here : Place) (k : TokenKind) (at : Place) → IfSome (parent_name c name here k at) (IsLight (weight c + 2))
parent_name_light c name here (kind.TypeId parent) at = omega arith
parent_name_light c name here _ at = tt

features_light : (c : Context) (class : OpenClass) (k : TokenKind) (at : Place) → IfSome (features c class k at) (IsLight (weight c + 2))
features_light c class (kind.ObjectId name) at = omega arith
features_light c class (kind.Sign sign.RBrace) at = omega arith
features_light c class _ at = tt

feature_name_light : (c : Context) (class : OpenClass) (name : List ℕ) (here : Place) (k : TokenKind) (at : Place) → IfSome (feature_name c class name here k at) (IsLight (weight c + 2))
feature_name_light c class name here (kind.Sign sign.LParen) at = omega arith
feature_name_light c class name here (kind.Sign sign.Colon) at = omega arith
feature_name_light c class name here _ at = tt

first_formal_light : (c : Context) (m : OpenMethod) (k : TokenKind) (at : Place) → IfSome (first_formal c m k at) (IsLight (weight c + 2))
first_formal_light c m (kind.Sign sign.RParen) at = omega arith
first_formal_light c m k at = variable_name_light c (purpose.Formal m) k at

formal_end_light : (c : Context) (m : OpenMethod) (k : TokenKind) (at : Place) → IfSome (formal_end c m k at) (IsLight (weight c + 2))
formal_end_light c m (kind.Sign sign.RParen) at = omega arith
formal_end_light c m (kind.Sign sign.Comma) at = omega arith
formal_end_light c m _ at = tt

result_type_light : (c : Context) (m : OpenMethod) (k : TokenKind) (at : Place) → IfSome (result_type c m k at) (IsLight (weight c + 2))
result_type_light c m (kind.TypeId name) at = omega arith
result_type_light c m _ at = tt

attribute_end_light : (c : Context) (class : OpenClass) (v : Variable) (k : TokenKind) (at : Place) → IfSome (attribute_end c class v k at) (IsLight (weight c + 2))
attribute_end_light c class v (kind.Sign sign.Arrow) at = omega arith
attribute_end_light c class v (kind.Sign sign.Semi) at = omega arith
attribute_end_light c class v _ at = tt

static_class_light : (c : Context) (t : NodeId) (k : TokenKind) (at : Place) → IfSome (static_class c t k at) (IsLight (weight c + 2))
static_class_light c t (kind.TypeId name) at = omega arith
static_class_light c t _ at = tt

method_name_light : (c : Context) (t : NodeId) (class : Option TypeRef) (k : TokenKind) (at : Place) → IfSome (method_name c t class k at) (IsLight (weight c + 2))
method_name_light c t class (kind.ObjectId name) at = omega arith
method_name_light c t class _ at = tt

new_type_light : (c : Context) (here : Place) (k : TokenKind) (at : Place) → IfSome (new_type c here k at) (IsLight (weight c + 2))
new_type_light c here (kind.TypeId name) at = weaken (operand (node.New here (record { name = name; at = at })) c) (weight c + 1) (weight c + 2) (omega arith) (operand_light (node.New here (record { name = name; at = at })) c)
new_type_light c here _ at = tt

class_end_light : (c : Context) (class : OpenClass) → IfSome (class_end c class) (IsLight (weight c + 2))
class_end_light c class = omega arith

pub step_light : (c : Context) (m : Mode) (k : TokenKind) (at : Place) → IfSome (step c m k at) (IsLight (weight c + 2))
step_light c mode.File (kind.Key key.Class) at = omega arith
step_light c mode.ClassName (kind.TypeId name) at = omega arith
step_light c (mode.ClassHead name here) k at = class_head_light c name here k at
step_light c (mode.ParentName name here) k at = parent_name_light c name here k at
step_light c (mode.ClassBrace name here parent) (kind.Sign sign.LBrace) at = omega arith
step_light c (mode.Features class) k at = features_light c class k at
step_light c (mode.ClassEnd class) (kind.Sign sign.Semi) at = class_end_light c class
step_light c (mode.FeatureName class name here) k at = feature_name_light c class name here k at
step_light c (mode.FirstFormal m) k at = first_formal_light c m k at
step_light c (mode.FormalEnd m) k at = formal_end_light c m k at
step_light c (mode.ResultColon m) (kind.Sign sign.Colon) at = omega arith
step_light c (mode.ResultType m) k at = result_type_light c m k at
step_light c (mode.MethodBrace m result) (kind.Sign sign.LBrace) at = omega arith
step_light c (mode.MethodEnd class) (kind.Sign sign.Semi) at = omega arith
step_light c (mode.AttributeEnd class v) k at = attribute_end_light c class v k at
step_light c (mode.VariableName p) k at = variable_name_light c p k at
step_light c (mode.VariableColon p name here) (kind.Sign sign.Colon) at = omega arith
step_light c (mode.VariableType p name here) k at = variable_type_light c p name here k at
step_light c (mode.LetEnd v) k at = let_end_light c v k at
step_light c (mode.BranchArrow b v) (kind.Sign sign.FatArrow) at = omega arith
step_light c (mode.NextBranch b) k at = next_branch_light c b k at
step_light c (mode.NextItem here items) k at = next_item_light c here items k at
step_light c (mode.FirstArgument call) k at = first_argument_light c call k at
step_light c mode.Need k at = weaken (need c k at) (weight c + 1) (weight c + 2) (omega arith) (need_light c k at)
step_light c (mode.Identifier name here) k at = identifier_light c name here k at
step_light c (mode.Have t) k at = weaken (have c t k at) (weight c + 1) (weight c + 2) (omega arith) (have_light c t k at)
step_light c (mode.StaticClass t) k at = static_class_light c t k at
step_light c (mode.StaticDot t class) (kind.Sign sign.Dot) at = omega arith
step_light c (mode.MethodName t class) k at = method_name_light c t class k at
step_light c (mode.CallParenthesis call) (kind.Sign sign.LParen) at = omega arith
step_light c (mode.NewType here) k at = new_type_light c here k at
step_light c _ _ at = tt
