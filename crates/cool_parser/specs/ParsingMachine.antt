-- `parsed` defines the parser as a state machine that takes one token at a time (Cool manual, section 11). A state has the nodes of the current feature, a
-- stack of operators and constructs that wait for an expression, the classes so far, and a mode, which says which tokens were just read. An operator on the
-- stack is reduced to a node if the next token binds no more tightly, or ends an operand.
use Rattle.std.specs.Prelude.{ℕ, Bool, true, false, nat_le, if◌then◌else◌, List, [], ◌∷◌, ◌++◌, length, codes, Option, Some, None}
use Rattle.std.specs.Option.{is_some}
use Rattle.cool_syntax.specs.declared.place.Place.{Place}
use Rattle.cool_syntax.specs.declared.type_ref.TypeRef.{TypeRef}
use Rattle.cool_syntax.specs.declared.token.Token.{Token}
use Rattle.cool_syntax.specs.declared.token.TokenKind.{TokenKind}
use Rattle.cool_syntax.specs.declared.token.TokenKind.TheVariants as kind
use Rattle.cool_syntax.specs.declared.token.Key.TheVariants as key
use Rattle.cool_syntax.specs.declared.token.Sign.TheVariants as sign
use Rattle.cool_syntax.specs.declared.node.NodeId.{NodeId}
use Rattle.cool_syntax.specs.declared.node.Node.{Node}
use Rattle.cool_syntax.specs.declared.node.Node.TheVariants as node
use Rattle.cool_syntax.specs.declared.file_tree.ClassDef.{ClassDef}
use Rattle.cool_syntax.specs.declared.file_tree.Feature.{Feature}
use Rattle.cool_syntax.specs.declared.file_tree.Feature.TheVariants as feature
use Rattle.cool_syntax.specs.NodeLists.{tree_of}
use Rattle.cool_parser.specs.declared.operator.Infix.{Infix}
use Rattle.cool_parser.specs.declared.operator.Infix.TheVariants as between
use Rattle.cool_parser.specs.declared.operator.Prefix.{Prefix}
use Rattle.cool_parser.specs.declared.operator.Prefix.TheVariants as front
use Rattle.cool_parser.specs.declared.item.Item.{Item}
use Rattle.cool_parser.specs.declared.item.Item.TheVariants as item
use Rattle.cool_parser.specs.declared.item.Call.{Call}
use Rattle.cool_parser.specs.declared.item.Variable.{Variable}
use Rattle.cool_parser.specs.declared.item.OpenCase.{OpenCase}
use Rattle.cool_parser.specs.declared.item.OpenClass.{OpenClass}
use Rattle.cool_parser.specs.declared.item.OpenMethod.{OpenMethod}
use Rattle.cool_parser.specs.declared.mode.Purpose.{Purpose}
use Rattle.cool_parser.specs.declared.mode.Purpose.TheVariants as purpose
use Rattle.cool_parser.specs.declared.mode.Mode.{Mode}
use Rattle.cool_parser.specs.declared.mode.Mode.TheVariants as mode
use Rattle.cool_parser.specs.Levels.{infix_of, infix_level, left_level, prefix_level}

-- States

-- the state of the machine except its mode: the nodes of the feature so far, the stack with its top first, and the classes that are whole
pub record Context : Type 0 where
  pub nodes : List Node
  pub stack : List Item
  pub classes : List ClassDef

pub record State : Type 0 where
  pub context : Context
  pub mode : Mode

abbrev pub go : Context → Mode → Option State
go c m = Some (record { context = c; mode = m })

-- the state of this context and mode, if there is a mode
abbrev pub moved : Context → Option Mode → Option State
moved c (Some m) = go c m
moved c None = None

abbrev pub push : Item → Context → Context
push i c = record c { stack = i ∷ c.stack }

abbrev pub place : Node → Context → Context
place n c = record c { nodes = c.nodes ++ n ∷ [] }

-- the number of the node that is placed next
abbrev pub next_id : Context → NodeId
next_id c = record { 0 = length c.nodes }

-- a node that is an operand
abbrev pub operand : Node → Context → Option State
operand n c = go (place n c) (mode.Have (next_id c))

-- pushes an item that waits for an expression
abbrev pub wait : Item → Context → Option State
wait i c = go (push i c) mode.Need

-- Operators that end

abbrev pub binary : Infix → Place → NodeId → NodeId → Node
binary (between.Arith op) at left right = node.Arith at op left right
binary (between.Compare op) at left right = node.Compare at op left right

abbrev pub before : Prefix → Place → NodeId → Node
before front.Not at t = node.Not at t
before front.IsVoid at t = node.IsVoid at t
before front.Neg at t = node.Neg at t

abbrev pub node_if : Bool → Node → Option Node
node_if holds n = if holds then Some n else None

-- the node that an operator of at least this level makes of its operand
abbrev pub ended : ℕ → Item → NodeId → Option Node
ended k (item.Left at op l) t = node_if (nat_le k (infix_level op)) (binary op at l t)
ended k (item.Front at op) t = node_if (nat_le k (prefix_level op)) (before op at t)
ended k (item.Assigning at name) t = node_if (nat_le k 1) (node.Assign at name t)
ended k (item.Bound v init) t = node_if (nat_le k 0) (node.Let v.at v.name v.declared init t)
ended k _ t = None

abbrev pub nodes_of : Option Node → List Node
nodes_of (Some n) = n ∷ []
nodes_of None = []

-- nodes, a stack, and an operand on it
pub record Reduced : Type 0 where
  pub nodes : List Node
  pub stack : List Item
  pub operand : NodeId

-- ends the operators of at least this level on the top of the stack
abbrev pub reduced : ℕ → List Node → List Item → NodeId → Reduced
reduced k ns [] t = record { nodes = ns; stack = []; operand = t }
reduced k ns (i ∷ st) t =
    if is_some (ended k i t) then reduced k (ns ++ nodes_of (ended k i t)) st (record { 0 = length ns })
    else record { nodes = ns; stack = i ∷ st; operand = t }

abbrev pub after : Context → Reduced → Context
after c r = record c { nodes = r.nodes; stack = r.stack }

-- After an operand

abbrev pub is_comparison : Infix → Bool
is_comparison (between.Compare op) = true
is_comparison (between.Arith op) = false

-- whether a comparison waits on the top of the stack
abbrev pub compares : List Item → Bool
compares (item.Left at op l ∷ st) = is_comparison op
compares _ = false

-- An operator comes: it takes the operand as its left one. Comparisons do not associate.
abbrev pub shift : Infix → Place → Context → NodeId → Option State
shift op at c t = if (if is_comparison op then compares c.stack else false) then None else wait (item.Left at op t) c

abbrev pub dispatch_to : Option TypeRef → Call → List NodeId → Node
dispatch_to (Some class) call args = node.StaticDispatch call.at call.receiver class call.name args
dispatch_to None call args = node.Dispatch call.at call.receiver call.name args

abbrev pub dispatch : Call → List NodeId → Node
dispatch call args = dispatch_to call.class call args

abbrev pub with_feature : Feature → OpenClass → OpenClass
with_feature f c = record c { features = c.features ++ f ∷ [] }

-- the nodes so far are the body of a feature
abbrev pub method : OpenMethod → TypeRef → Context → Feature
method m result c = feature.Method (record { name = m.name; at = m.at; formals = m.formals; result = result; body = tree_of c.nodes })

abbrev pub initial : Variable → Context → Feature
initial v c = feature.Attribute (record { name = v.name; at = v.at; declared = v.declared; init = Some (tree_of c.nodes) })

abbrev pub emptied : Context → Context
emptied c = record c { nodes = [] }

-- the value of an attribute, or the body of a method, is whole
abbrev pub attribute_done : OpenClass → Variable → Context → Option State
attribute_done class v c = go (emptied c) (mode.Features (with_feature (initial v c) class))

abbrev pub method_done : OpenMethod → TypeRef → Context → Option State
method_done m result c = go (emptied c) (mode.MethodEnd (with_feature (method m result c) m.class))

abbrev pub with_branch : OpenCase → Variable → NodeId → OpenCase
with_branch c v body = record c { branches = c.branches ++ record { at = v.at; name = v.name; declared = v.declared; body = body } ∷ [] }

-- A token that ends an operand comes, and this form is the innermost one that is open.
abbrev pub close_on : Item → TokenKind → Context → NodeId → Option State
close_on item.Parenthesis (kind.Sign sign.RParen) c t = go c (mode.Have t)
close_on (item.Arguments call args) (kind.Sign sign.RParen) c t = operand (dispatch call (args ++ t ∷ [])) c
close_on (item.Arguments call args) (kind.Sign sign.Comma) c t = wait (item.Arguments call (args ++ t ∷ [])) c
close_on (item.Init v) (kind.Sign sign.Comma) c t = go (push (item.Bound v (Some t)) c) (mode.VariableName purpose.Let)
close_on (item.Init v) (kind.Key key.In) c t = wait (item.Bound v (Some t)) c
close_on (item.IfTest at) (kind.Key key.Then) c t = wait (item.IfYes at t) c
close_on (item.IfYes at test) (kind.Key key.Else) c t = wait (item.IfNo at test t) c
close_on (item.IfNo at test met) (kind.Key key.Fi) c t = operand (node.If at test met t) c
close_on (item.WhileTest at) (kind.Key key.Loop) c t = wait (item.WhileBody at t) c
close_on (item.WhileBody at test) (kind.Key key.Pool) c t = operand (node.While at test t) c
close_on (item.CaseValue at) (kind.Key key.Of) c t = go c (mode.VariableName (purpose.Branch (record { at = at; value = t; branches = [] })))
close_on (item.BranchBody k v) (kind.Sign sign.Semi) c t = go c (mode.NextBranch (with_branch k v t))
close_on (item.Block at items) (kind.Sign sign.Semi) c t = go c (mode.NextItem at (items ++ t ∷ []))
close_on (item.AttributeInit class v) (kind.Sign sign.Semi) c t = attribute_done class v c
close_on (item.MethodBody m result) (kind.Sign sign.RBrace) c t = method_done m result c
close_on _ _ c t = None

-- the result of `close_on` for the top of a stack whose operators have ended
abbrev pub close : TokenKind → List Item → Context → NodeId → Option State
close k [] c t = None
close k (i ∷ st) c t = close_on i k (record c { stack = st }) t

-- the operators of at least this level end
abbrev pub reduce : ℕ → Context → NodeId → Reduced
reduce k c t = reduced k c.nodes c.stack t

abbrev pub shift_on : Infix → Place → Context → Reduced → Option State
shift_on op at c r = shift op at (after c r) r.operand

abbrev pub close_after : TokenKind → Context → Reduced → Option State
close_after k c r = close k r.stack (after c r) r.operand

abbrev pub operator_or_end : Option Infix → Context → NodeId → TokenKind → Place → Option State
operator_or_end (Some op) c t k at = shift_on op at c (reduce (left_level op) c t)
operator_or_end None c t k at = close_after k c (reduce 0 c t)

-- an operand has been read: an atom or a dispatch
abbrev pub have : Context → NodeId → TokenKind → Place → Option State
have c t (kind.Sign sign.Dot) at = go c (mode.MethodName t None)
have c t (kind.Sign sign.At) at = go c (mode.StaticClass t)
have c t k at = operator_or_end (infix_of k) c t k at

-- An operand is due

abbrev pub need : Context → TokenKind → Place → Option State
need c (kind.ObjectId name) at = go c (mode.Identifier name at)
need c (kind.Int value) at = operand (node.Int at value) c
need c (kind.Str bytes) at = operand (node.Str at bytes) c
need c (kind.Key key.True) at = operand (node.Bool at true) c
need c (kind.Key key.False) at = operand (node.Bool at false) c
need c (kind.Key key.If) at = wait (item.IfTest at) c
need c (kind.Key key.While) at = wait (item.WhileTest at) c
need c (kind.Key key.Case) at = wait (item.CaseValue at) c
need c (kind.Key key.Let) at = go c (mode.VariableName purpose.Let)
need c (kind.Key key.New) at = go c (mode.NewType at)
need c (kind.Key key.Not) at = wait (item.Front at front.Not) c
need c (kind.Key key.IsVoid) at = wait (item.Front at front.IsVoid) c
need c (kind.Sign sign.Tilde) at = wait (item.Front at front.Neg) c
need c (kind.Sign sign.LParen) at = wait item.Parenthesis c
need c (kind.Sign sign.LBrace) at = wait (item.Block at []) c
need c _ at = None

-- An identifier is assigned, called, or an operand. A call without a receiver has the receiver self.
abbrev pub identifier : Context → List ℕ → Place → TokenKind → Place → Option State
identifier c name here (kind.Sign sign.Arrow) at = wait (item.Assigning here name) c
identifier c name here (kind.Sign sign.LParen) at =
    go (place (node.Id here (codes "self")) c) (mode.FirstArgument (record { at = here; receiver = next_id c; class = None; name = name }))
identifier c name here k at = have (place (node.Id here name) c) (next_id c) k at

abbrev pub is_right_parenthesis : TokenKind → Bool
is_right_parenthesis (kind.Sign sign.RParen) = true
is_right_parenthesis _ = false

abbrev pub is_right_brace : TokenKind → Bool
is_right_brace (kind.Sign sign.RBrace) = true
is_right_brace _ = false

-- arguments end, or the first one begins
abbrev pub first_argument : Context → Call → TokenKind → Place → Option State
first_argument c call k at = if is_right_parenthesis k then operand (dispatch call []) c else need (push (item.Arguments call []) c) k at

-- a block ends, or one more item begins
abbrev pub next_item : Context → Place → List NodeId → TokenKind → Place → Option State
next_item c here items k at = if is_right_brace k then operand (node.Block here items) c else need (push (item.Block here items) c) k at

abbrev pub next_branch : Context → OpenCase → TokenKind → Place → Option State
next_branch c case (kind.Key key.Esac) at = operand (node.Case case.at case.value case.branches) c
next_branch c case (kind.ObjectId name) at = go c (mode.VariableColon (purpose.Branch case) name at)
next_branch c case _ at = None

-- Names and types

abbrev pub method_name : Context → NodeId → Option TypeRef → TokenKind → Place → Option State
method_name c receiver class (kind.ObjectId name) at = go c (mode.CallParenthesis (record { at = at; receiver = receiver; class = class; name = name }))
method_name c receiver class _ at = None

abbrev pub static_class : Context → NodeId → TokenKind → Place → Option State
static_class c receiver (kind.TypeId name) at = go c (mode.StaticDot receiver (record { name = name; at = at }))
static_class c receiver _ at = None

abbrev pub new_type : Context → Place → TokenKind → Place → Option State
new_type c here (kind.TypeId name) at = operand (node.New here (record { name = name; at = at })) c
new_type c here _ at = None

abbrev pub variable_name : Context → Purpose → TokenKind → Place → Option State
variable_name c p (kind.ObjectId name) at = go c (mode.VariableColon p name at)
variable_name c p _ at = None

-- a name and its declared type have been read
abbrev pub declared : Context → Purpose → Variable → Option State
declared c (purpose.Attribute class) v = go c (mode.AttributeEnd class v)
declared c (purpose.Formal m) v = go c (mode.FormalEnd (record m { formals = m.formals ++ record { name = v.name; at = v.at; declared = v.declared } ∷ [] }))
declared c purpose.Let v = go c (mode.LetEnd v)
declared c (purpose.Branch case) v = go c (mode.BranchArrow case v)

abbrev pub variable_type : Context → Purpose → List ℕ → Place → TokenKind → Place → Option State
variable_type c p name here (kind.TypeId type) at = declared c p (record { name = name; at = here; declared = record { name = type; at = at } })
variable_type c p name here _ at = None

abbrev pub let_end : Context → Variable → TokenKind → Place → Option State
let_end c v (kind.Sign sign.Arrow) at = wait (item.Init v) c
let_end c v (kind.Sign sign.Comma) at = go (push (item.Bound v None) c) (mode.VariableName purpose.Let)
let_end c v (kind.Key key.In) at = wait (item.Bound v None) c
let_end c v _ at = None

-- Classes and features

-- a class without features so far
abbrev pub open_class : Context → List ℕ → Place → Option TypeRef → Option State
open_class c name here parent = go c (mode.Features (record { name = name; at = here; parent = parent; features = [] }))

abbrev pub class_head : Context → List ℕ → Place → TokenKind → Place → Option State
class_head c name here (kind.Key key.Inherits) at = go c (mode.ParentName name here)
class_head c name here (kind.Sign sign.LBrace) at = open_class c name here None
class_head c name here _ at = None

abbrev pub parent_name : Context → List ℕ → Place → TokenKind → Place → Option State
parent_name c name here (kind.TypeId parent) at = go c (mode.ClassBrace name here (record { name = parent; at = at }))
parent_name c name here _ at = None

abbrev pub features : Context → OpenClass → TokenKind → Place → Option State
features c class (kind.ObjectId name) at = go c (mode.FeatureName class name at)
features c class (kind.Sign sign.RBrace) at = go c (mode.ClassEnd class)
features c class _ at = None

abbrev pub feature_name : Context → OpenClass → List ℕ → Place → TokenKind → Place → Option State
feature_name c class name here (kind.Sign sign.LParen) at = go c (mode.FirstFormal (record { class = class; name = name; at = here; formals = [] }))
feature_name c class name here (kind.Sign sign.Colon) at = go c (mode.VariableType (purpose.Attribute class) name here)
feature_name c class name here _ at = None

abbrev pub first_formal : Context → OpenMethod → TokenKind → Place → Option State
first_formal c m (kind.Sign sign.RParen) at = go c (mode.ResultColon m)
first_formal c m k at = variable_name c (purpose.Formal m) k at

abbrev pub formal_end : Context → OpenMethod → TokenKind → Place → Option State
formal_end c m (kind.Sign sign.RParen) at = go c (mode.ResultColon m)
formal_end c m (kind.Sign sign.Comma) at = go c (mode.VariableName (purpose.Formal m))
formal_end c m _ at = None

abbrev pub result_type : Context → OpenMethod → TokenKind → Place → Option State
result_type c m (kind.TypeId name) at = go c (mode.MethodBrace m (record { name = name; at = at }))
result_type c m _ at = None

abbrev pub attribute_end : Context → OpenClass → Variable → TokenKind → Place → Option State
attribute_end c class v (kind.Sign sign.Arrow) at = wait (item.AttributeInit class v) c
attribute_end c class v (kind.Sign sign.Semi) at =
    go c (mode.Features (with_feature (feature.Attribute (record { name = v.name; at = v.at; declared = v.declared; init = None })) class))
attribute_end c class v _ at = None

abbrev pub class_end : Context → OpenClass → Option State
class_end c class =
    go (record c { classes = c.classes ++ record { name = class.name; at = class.at; parent = class.parent; features = class.features } ∷ [] }) mode.File

-- Steps

-- the state after one more token, if it may come
abbrev pub step : Context → Mode → TokenKind → Place → Option State
step c mode.File (kind.Key key.Class) at = go c mode.ClassName
step c mode.ClassName (kind.TypeId name) at = go c (mode.ClassHead name at)
step c (mode.ClassHead name here) k at = class_head c name here k at
step c (mode.ParentName name here) k at = parent_name c name here k at
step c (mode.ClassBrace name here parent) (kind.Sign sign.LBrace) at = open_class c name here (Some parent)
step c (mode.Features class) k at = features c class k at
step c (mode.ClassEnd class) (kind.Sign sign.Semi) at = class_end c class
step c (mode.FeatureName class name here) k at = feature_name c class name here k at
step c (mode.FirstFormal m) k at = first_formal c m k at
step c (mode.FormalEnd m) k at = formal_end c m k at
step c (mode.ResultColon m) (kind.Sign sign.Colon) at = go c (mode.ResultType m)
step c (mode.ResultType m) k at = result_type c m k at
step c (mode.MethodBrace m result) (kind.Sign sign.LBrace) at = wait (item.MethodBody m result) c
step c (mode.MethodEnd class) (kind.Sign sign.Semi) at = go c (mode.Features class)
step c (mode.AttributeEnd class v) k at = attribute_end c class v k at
step c (mode.VariableName p) k at = variable_name c p k at
step c (mode.VariableColon p name here) (kind.Sign sign.Colon) at = go c (mode.VariableType p name here)
step c (mode.VariableType p name here) k at = variable_type c p name here k at
step c (mode.LetEnd v) k at = let_end c v k at
step c (mode.BranchArrow branches v) (kind.Sign sign.FatArrow) at = wait (item.BranchBody branches v) c
step c (mode.NextBranch branches) k at = next_branch c branches k at
step c (mode.NextItem here items) k at = next_item c here items k at
step c (mode.FirstArgument call) k at = first_argument c call k at
step c mode.Need k at = need c k at
step c (mode.Identifier name here) k at = identifier c name here k at
step c (mode.Have t) k at = have c t k at
step c (mode.StaticClass t) k at = static_class c t k at
step c (mode.StaticDot t class) (kind.Sign sign.Dot) at = go c (mode.MethodName t (Some class))
step c (mode.MethodName t class) k at = method_name c t class k at
step c (mode.CallParenthesis call) (kind.Sign sign.LParen) at = go c (mode.FirstArgument call)
step c (mode.NewType here) k at = new_type c here k at
step c _ _ at = None

-- Files

abbrev pub start : State
start = record { context = record { nodes = []; stack = []; classes = [] }; mode = mode.File }

-- the outcome for a file's tokens: its classes, or the place at which no token, or no end, may stand
pub data Outcome : Type 0 where
  Whole : (classes : List ClassDef) → Outcome
  Unexpected : (at : Place) → Outcome

-- a file may end between its classes
abbrev pub finish : Context → Mode → Place → Outcome
finish c mode.File end = Whole c.classes
finish c _ end = Unexpected end

-- the outcome after a token at this place, by the state that it led to
abbrev pub outcome : Place → Option State → List Token → Place → Outcome
outcome at None ts end = Unexpected at
outcome at (Some s) [] end = finish s.context s.mode end
outcome at (Some s) (t ∷ ts) end = outcome t.at (step s.context s.mode t.kind t.at) ts end

-- the outcome of a whole file whose end is at this place
abbrev pub parsed : List Token → Place → Outcome
parsed ts end = outcome end (Some start) ts end
