-- If all tokens keep the lexer's limits (valid names, bounded constants and source locations), so do the classes that the parser makes of them.
use Rattle.std.proofs.Common.{◌≡◌, ℕ, nat_le, Bool, true, false, if◌then◌else◌, List, [], ◌∷◌, ◌++◌, length, codes, Option, Some, None, IfSome, subst, arith}
use Rattle.std.specs.List.{AllByRecursion}
use Rattle.std.specs.Option.{is_some}
use Rattle.std.proofs.ByRecursion.{All-append}
use Rattle.cool_syntax.specs.declared.place.Place.{Place}
use Rattle.cool_syntax.specs.declared.type_ref.TypeRef.{TypeRef}
use Rattle.cool_syntax.specs.declared.token.Token.{Token}
use Rattle.cool_syntax.specs.declared.token.TokenKind.{TokenKind}
use Rattle.cool_syntax.specs.declared.token.TokenKind.TheVariants as kind
use Rattle.cool_syntax.specs.declared.token.Key.TheVariants as key
use Rattle.cool_syntax.specs.declared.token.Sign.TheVariants as sign
use Rattle.cool_syntax.specs.declared.node.NodeId.{NodeId}
use Rattle.cool_syntax.specs.declared.node.Node.{Node}
use Rattle.cool_syntax.specs.declared.node.Node.TheVariants as node
use Rattle.cool_syntax.specs.declared.file_tree.ClassDef.{ClassDef}
use Rattle.cool_syntax.specs.declared.file_tree.Feature.{Feature}
use Rattle.cool_syntax.specs.declared.file_tree.Feature.TheVariants as feature
use Rattle.cool_syntax.specs.TokenFacts.{IsWithinLimits, IsPlaced, AreWithinLimits}
use Rattle.cool_parser.specs.declared.operator.Infix.{Infix}
use Rattle.cool_parser.specs.declared.operator.Infix.TheVariants as between
use Rattle.cool_parser.specs.declared.operator.Prefix.{Prefix}
use Rattle.cool_parser.specs.declared.operator.Prefix.TheVariants as front
use Rattle.cool_parser.specs.declared.item.Item.{Item}
use Rattle.cool_parser.specs.declared.item.Item.TheVariants as item
use Rattle.cool_parser.specs.declared.item.Call.{Call}
use Rattle.cool_parser.specs.declared.item.Variable.{Variable}
use Rattle.cool_parser.specs.declared.item.OpenCase.{OpenCase}
use Rattle.cool_parser.specs.declared.item.OpenClass.{OpenClass}
use Rattle.cool_parser.specs.declared.item.OpenMethod.{OpenMethod}
use Rattle.cool_parser.specs.declared.mode.Purpose.{Purpose}
use Rattle.cool_parser.specs.declared.mode.Purpose.TheVariants as purpose
use Rattle.cool_parser.specs.declared.mode.Mode.{Mode}
use Rattle.cool_parser.specs.declared.mode.Mode.TheVariants as mode
use Rattle.cool_parser.specs.Levels.{infix_of, infix_level, left_level, prefix_level}
use Rattle.cool_parser.specs.ParsingMachine.{Context, State, Outcome, Whole, Unexpected, Reduced, push, place, next_id, operand, wait, ended, nodes_of, node_if, binary, before, with_feature, initial, method, reduced, reduce, after, dispatch, dispatch_to, close_on, close, operator_or_end, have, need, identifier, is_right_parenthesis, is_right_brace, next_branch, compares, is_comparison, variable_name, declared, variable_type, let_end, class_head, parent_name, features, feature_name, first_formal, formal_end, result_type, attribute_end, static_class, method_name, new_type, class_end, step, finish, outcome, parsed, start}
use Rattle.cool_syntax.specs.TreesWithinLimits.{IsTypeName, IsObjectName, IsTypeWithin, IsFormalWithin, IsFeatureWithin, IsClassWithin, AreClassesWithin, name_of_self}
use Rattle.cool_parser.proofs.TreesOfNodesWithin.{IsBranchWithin, IsNodeWithin, tree_within}

-- States that keep the limits

-- a token and its place
abbrev IsTokenWithin : ℕ → Place → TokenKind → Type 0
IsTokenWithin files at k = IsPlaced files at × IsWithinLimits k

abbrev IsVariableWithin : ℕ → Variable → Type 0
IsVariableWithin files v = IsPlaced files v.at × IsObjectName v.name × IsTypeWithin files v.declared

abbrev IsOpenClassWithin : ℕ → OpenClass → Type 0
IsOpenClassWithin files c = IsPlaced files c.at × IsTypeName c.name × IfSome c.parent (IsTypeWithin files) × AllByRecursion (IsFeatureWithin files) c.features

abbrev IsOpenMethodWithin : ℕ → OpenMethod → Type 0
IsOpenMethodWithin files m = IsOpenClassWithin files m.class × IsPlaced files m.at × IsObjectName m.name × AllByRecursion (IsFormalWithin files) m.formals

abbrev IsCallWithin : ℕ → Call → Type 0
IsCallWithin files c = IsPlaced files c.at × IfSome c.class (IsTypeWithin files) × IsObjectName c.name

abbrev IsOpenCaseWithin : ℕ → OpenCase → Type 0
IsOpenCaseWithin files c = IsPlaced files c.at × AllByRecursion (IsBranchWithin files) c.branches

abbrev IsItemWithin : ℕ → Item → Type 0
IsItemWithin files (item.Left at op l) = IsPlaced files at
IsItemWithin files (item.Front at op) = IsPlaced files at
IsItemWithin files (item.Assigning at name) = IsPlaced files at × IsObjectName name
IsItemWithin files (item.Bound v init) = IsVariableWithin files v
IsItemWithin files item.Parenthesis = Unit {0}
IsItemWithin files (item.Arguments call args) = IsCallWithin files call
IsItemWithin files (item.IfTest at) = IsPlaced files at
IsItemWithin files (item.IfYes at test) = IsPlaced files at
IsItemWithin files (item.IfNo at test met) = IsPlaced files at
IsItemWithin files (item.WhileTest at) = IsPlaced files at
IsItemWithin files (item.WhileBody at test) = IsPlaced files at
IsItemWithin files (item.Block at items) = IsPlaced files at
IsItemWithin files (item.Init v) = IsVariableWithin files v
IsItemWithin files (item.CaseValue at) = IsPlaced files at
IsItemWithin files (item.BranchBody k v) = IsOpenCaseWithin files k × IsVariableWithin files v
IsItemWithin files (item.MethodBody m result) = IsOpenMethodWithin files m × IsTypeWithin files result
IsItemWithin files (item.AttributeInit class v) = IsOpenClassWithin files class × IsVariableWithin files v

abbrev IsPurposeWithin : ℕ → Purpose → Type 0
IsPurposeWithin files (purpose.Attribute class) = IsOpenClassWithin files class
IsPurposeWithin files (purpose.Formal m) = IsOpenMethodWithin files m
IsPurposeWithin files purpose.Let = Unit {0}
IsPurposeWithin files (purpose.Branch k) = IsOpenCaseWithin files k

-- the name that a mode holds, and its place
abbrev IsNamed : ℕ → Place → List ℕ → Type 0
IsNamed files at name = IsPlaced files at × IsObjectName name

abbrev IsModeWithin : ℕ → Mode → Type 0
IsModeWithin files (mode.ClassHead name at) = IsPlaced files at × IsTypeName name
IsModeWithin files (mode.ParentName name at) = IsPlaced files at × IsTypeName name
IsModeWithin files (mode.ClassBrace name at parent) = IsPlaced files at × IsTypeName name × IsTypeWithin files parent
IsModeWithin files (mode.Features class) = IsOpenClassWithin files class
IsModeWithin files (mode.ClassEnd class) = IsOpenClassWithin files class
IsModeWithin files (mode.FeatureName class name at) = IsOpenClassWithin files class × IsNamed files at name
IsModeWithin files (mode.FirstFormal m) = IsOpenMethodWithin files m
IsModeWithin files (mode.FormalEnd m) = IsOpenMethodWithin files m
IsModeWithin files (mode.ResultColon m) = IsOpenMethodWithin files m
IsModeWithin files (mode.ResultType m) = IsOpenMethodWithin files m
IsModeWithin files (mode.MethodBrace m result) = IsOpenMethodWithin files m × IsTypeWithin files result
IsModeWithin files (mode.MethodEnd class) = IsOpenClassWithin files class
IsModeWithin files (mode.AttributeEnd class v) = IsOpenClassWithin files class × IsVariableWithin files v
IsModeWithin files (mode.VariableName p) = IsPurposeWithin files p
IsModeWithin files (mode.VariableColon p name at) = IsPurposeWithin files p × IsNamed files at name
IsModeWithin files (mode.VariableType p name at) = IsPurposeWithin files p × IsNamed files at name
IsModeWithin files (mode.LetEnd v) = IsVariableWithin files v
IsModeWithin files (mode.BranchArrow k v) = IsOpenCaseWithin files k × IsVariableWithin files v
IsModeWithin files (mode.NextBranch k) = IsOpenCaseWithin files k
IsModeWithin files (mode.NextItem at items) = IsPlaced files at
IsModeWithin files (mode.FirstArgument call) = IsCallWithin files call
IsModeWithin files (mode.Identifier name at) = IsNamed files at name
IsModeWithin files (mode.StaticDot t class) = IsTypeWithin files class
IsModeWithin files (mode.MethodName t class) = IfSome class (IsTypeWithin files)
IsModeWithin files (mode.CallParenthesis call) = IsCallWithin files call
IsModeWithin files (mode.NewType at) = IsPlaced files at
IsModeWithin files _ = Unit {0}

record IsWithin (files : ℕ) (c : Context) : Type 0 where
  nodes : AllByRecursion (IsNodeWithin files) c.nodes
  stack : AllByRecursion (IsItemWithin files) c.stack
  classes : AreClassesWithin files c.classes

abbrev IsStateWithin : ℕ → State → Type 0
IsStateWithin files s = IsWithin files s.context × IsModeWithin files s.mode

-- one more item waits
pushed : (files : ℕ) (i : Item) (c : Context) → IsItemWithin files i → IsWithin files c → IsWithin files (push i c)
pushed files i c h w = record { nodes = w.nodes; stack = (h, w.stack); classes = w.classes }

-- one more node is placed
placed : (files : ℕ) (n : Node) (c : Context) → IsNodeWithin files n → IsWithin files c → IsWithin files (place n c)
placed files n c h w = record { nodes = All-append (IsNodeWithin files) c.nodes (n ∷ []) w.nodes (h, tt); stack = w.stack; classes = w.classes }

-- no nodes are left
emptied : (files : ℕ) (c : Context) → IsWithin files c → IsWithin files (record c { nodes = [] })
emptied files c w = record { nodes = tt; stack = w.stack; classes = w.classes }

-- a node is an operand
operates : (files : ℕ) (n : Node) (c : Context) → IsNodeWithin files n → IsWithin files c → IfSome (operand n c) (IsStateWithin files)
operates files n c h w = (placed files n c h w, tt)

-- an item waits for an expression
waits : (files : ℕ) (i : Item) (c : Context) → IsItemWithin files i → IsWithin files c → IfSome (wait i c) (IsStateWithin files)
waits files i c h w = (pushed files i c h w, tt)

-- Operators that end

-- a node where a test holds
if_within : (files : ℕ) (b : Bool) (n : Node) → IsNodeWithin files n → IfSome (node_if b n) (IsNodeWithin files)
if_within files true n h = h
if_within files false n h = tt

-- an operator between two operands
binary_within : (files : ℕ) (op : Infix) (at : Place) (l t : NodeId) → IsPlaced files at → IsNodeWithin files (binary op at l t)
binary_within files (between.Arith op) at l t h = h
binary_within files (between.Compare op) at l t h = h

-- an operator before its operand
before_within : (files : ℕ) (op : Prefix) (at : Place) (t : NodeId) → IsPlaced files at → IsNodeWithin files (before op at t)
before_within files front.Not at t h = h
before_within files front.IsVoid at t h = h
before_within files front.Neg at t h = h

-- the node of an operator that ends
ended_within : (files : ℕ) (k : ℕ) (i : Item) (t : NodeId) → IsItemWithin files i → IfSome (ended k i t) (IsNodeWithin files)
ended_within files k (item.Left at op l) t h = if_within files (nat_le k (infix_level op)) (binary op at l t) (binary_within files op at l t h)
ended_within files k (item.Front at op) t h = if_within files (nat_le k (prefix_level op)) (before op at t) (before_within files op at t h)
ended_within files k (item.Assigning at name) t h = if_within files (nat_le k 1) (node.Assign at name t) h
ended_within files k (item.Bound v init) t h = if_within files (nat_le k 0) (node.Let v.at v.name v.declared init t) h
ended_within files k _ t h = tt

abbrev IsReducedWithin : ℕ → Reduced → Type 0
IsReducedWithin files r = AllByRecursion (IsNodeWithin files) r.nodes × AllByRecursion (IsItemWithin files) r.stack

-- one operator that ends, or none
reduced_at : (files : ℕ) (k : ℕ) (ns : List Node) (i : Item) (st : List Item) (t : NodeId) (o : Option Node) → IfSome o (IsNodeWithin files)
    → ((n : Node) → IsNodeWithin files n → IsReducedWithin files (reduced k (ns ++ n ∷ []) st (record { 0 = length ns })))
    → IsReducedWithin files (record { nodes = ns; stack = i ∷ st; operand = t })
    → IsReducedWithin files (if is_some o then reduced k (ns ++ nodes_of o) st (record { 0 = length ns }) else record { nodes = ns; stack = i ∷ st; operand = t })
reduced_at files k ns i st t None h more w = w
reduced_at files k ns i st t (Some n) h more w = more n h

-- operators that end leave nodes and a stack that keep the limits
reduced_within : (files : ℕ) (k : ℕ) (st : List Item) (ns : List Node) (t : NodeId) → AllByRecursion (IsNodeWithin files) ns → AllByRecursion (IsItemWithin files) st → IsReducedWithin files (reduced k ns st t)
reduced_within files k [] ns t h w = (h, w)
reduced_within files k (i ∷ st) ns t h w =
    reduced_at files k ns i st t (ended k i t) (ended_within files k i t w.0)
    (λ n g. reduced_within files k st (ns ++ n ∷ []) (record { 0 = length ns }) (All-append (IsNodeWithin files) ns (n ∷ []) h (g, tt)) w.1) (h, w)

-- so does the state after them
reduce_within : (files : ℕ) (k : ℕ) (c : Context) (t : NodeId) → IsWithin files c → IsWithin files (after c (reduce k c t))
reduce_within files k c t w =
    let h = reduced_within files k c.stack c.nodes t w.nodes w.stack in
    record { nodes = h.0; stack = h.1; classes = w.classes }

-- After an operand

-- an operator takes its left operand
shifted : (files : ℕ) (b : Bool) (op : Infix) (at : Place) (c : Context) (t : NodeId) → IsPlaced files at → IsWithin files c → IfSome (if b then None else wait (item.Left at op t) c) (IsStateWithin files)
shifted files true op at c t p w = tt
shifted files false op at c t p w = waits files (item.Left at op t) c p w

-- a call with its class, or without
dispatch_to_within : (files : ℕ) (o : Option TypeRef) (call : Call) (args : List NodeId) → IsPlaced files call.at → IfSome o (IsTypeWithin files) → IsObjectName call.name → IsNodeWithin files (dispatch_to o call args)
dispatch_to_within files None call args p h k = (p, k)
dispatch_to_within files (Some class) call args p h k = (p, h, k)

-- a call
dispatch_within : (files : ℕ) (call : Call) (args : List NodeId) → IsCallWithin files call → IsNodeWithin files (dispatch call args)
dispatch_within files call args h = dispatch_to_within files call.class call args h.0 h.1 h.2

-- a class with one more feature
with_feature_within : (files : ℕ) (f : Feature) (class : OpenClass) → IsFeatureWithin files f → IsOpenClassWithin files class → IsOpenClassWithin files (with_feature f class)
with_feature_within files f class h w = (w.0, w.1, w.2, All-append (IsFeatureWithin files) class.features (f ∷ []) w.3 (h, tt))

-- a token that ends an operand, by the form that is open
close_on_within : (files : ℕ) (i : Item) (k : TokenKind) (c : Context) (t : NodeId) → IsItemWithin files i → IsWithin files c → IfSome (close_on i k c t) (IsStateWithin files)
close_on_within files item.Parenthesis (kind.Sign sign.RParen) c t h w = (w, tt)
close_on_within files (item.Arguments call args) (kind.Sign sign.RParen) c t h w = operates files (dispatch call (args ++ t ∷ [])) c (dispatch_within files call (args ++ t ∷ []) h) w
close_on_within files (item.Arguments call args) (kind.Sign sign.Comma) c t h w = waits files (item.Arguments call (args ++ t ∷ [])) c h w
close_on_within files (item.Init v) (kind.Sign sign.Comma) c t h w = (pushed files (item.Bound v (Some t)) c h w, tt)
close_on_within files (item.Init v) (kind.Key key.In) c t h w = waits files (item.Bound v (Some t)) c h w
close_on_within files (item.IfTest at) (kind.Key key.Then) c t h w = waits files (item.IfYes at t) c h w
close_on_within files (item.IfYes at test) (kind.Key key.Else) c t h w = waits files (item.IfNo at test t) c h w
close_on_within files (item.IfNo at test met) (kind.Key key.Fi) c t h w = operates files (node.If at test met t) c h w
close_on_within files (item.WhileTest at) (kind.Key key.Loop) c t h w = waits files (item.WhileBody at t) c h w
close_on_within files (item.WhileBody at test) (kind.Key key.Pool) c t h w = operates files (node.While at test t) c h w
close_on_within files (item.CaseValue at) (kind.Key key.Of) c t h w = (w, (h, tt))
close_on_within files (item.BranchBody k v) (kind.Sign sign.Semi) c t h w =
    (w, (h.0.0, All-append (IsBranchWithin files) k.branches (record { at = v.at; name = v.name; declared = v.declared; body = t } ∷ []) h.0.1 (h.1, tt)))
close_on_within files (item.Block at items) (kind.Sign sign.Semi) c t h w = (w, h)
close_on_within files (item.AttributeInit class v) (kind.Sign sign.Semi) c t h w =
    (emptied files c w, with_feature_within files (initial v c) class (h.1.0, h.1.1, h.1.2, tree_within files c.nodes (omega (arith, h.1.0.0)) w.nodes) h.0)
close_on_within files (item.MethodBody m result) (kind.Sign sign.RBrace) c t h w =
    (emptied files c w, with_feature_within files (method m result c) m.class (h.0.1, h.0.2, h.0.3, h.1, tree_within files c.nodes (omega (arith, h.0.1.0)) w.nodes) h.0.0)
close_on_within files _ _ c t h w = tt

-- the same on a stack
close_within : (files : ℕ) (k : TokenKind) (st : List Item) (c : Context) (t : NodeId) → IsWithin files (record c { stack = st }) → IfSome (close k st c t) (IsStateWithin files)
close_within files k [] c t w = tt
close_within files k (i ∷ st) c t w =
    close_on_within files i k (record c { stack = st }) t w.stack.0 (record { nodes = w.nodes; stack = w.stack.1; classes = w.classes })

-- an operator, or the end of an operand
operator_within : (files : ℕ) (o : Option Infix) (c : Context) (t : NodeId) (k : TokenKind) (at : Place) → IsPlaced files at → IsWithin files c → IfSome (operator_or_end o c t k at) (IsStateWithin files)
operator_within files (Some op) c t k at p w =
    let r = reduce (left_level op) c t in
    shifted files (if is_comparison op then compares r.stack else false) op at (after c r) r.operand p (reduce_within files (left_level op) c t w)
operator_within files None c t k at p w = close_within files k (reduce 0 c t).stack (after c (reduce 0 c t)) (reduce 0 c t).operand (reduce_within files 0 c t w)

-- after an operand
have_within : (files : ℕ) (c : Context) (t : NodeId) (k : TokenKind) (at : Place) → IsPlaced files at → IsWithin files c → IfSome (have c t k at) (IsStateWithin files)
have_within files c t (kind.Sign sign.Dot) at p w = (w, tt)
have_within files c t (kind.Sign sign.At) at p w = (w, tt)
have_within files c t k at p w = operator_within files (infix_of k) c t k at p w

-- Operands

-- an operand begins
need_within : (files : ℕ) (c : Context) (k : TokenKind) (at : Place) → IsTokenWithin files at k → IsWithin files c → IfSome (need c k at) (IsStateWithin files)
need_within files c (kind.ObjectId name) at l w = (w, l)
need_within files c (kind.Int value) at l w = operates files (node.Int at value) c l w
need_within files c (kind.Str bytes) at l w = operates files (node.Str at bytes) c l w
need_within files c (kind.Key key.True) at l w = operates files (node.Bool at true) c l.0 w
need_within files c (kind.Key key.False) at l w = operates files (node.Bool at false) c l.0 w
need_within files c (kind.Key key.If) at l w = waits files (item.IfTest at) c l.0 w
need_within files c (kind.Key key.While) at l w = waits files (item.WhileTest at) c l.0 w
need_within files c (kind.Key key.Case) at l w = waits files (item.CaseValue at) c l.0 w
need_within files c (kind.Key key.Let) at l w = (w, tt)
need_within files c (kind.Key key.New) at l w = (w, l.0)
need_within files c (kind.Key key.Not) at l w = waits files (item.Front at front.Not) c l.0 w
need_within files c (kind.Key key.IsVoid) at l w = waits files (item.Front at front.IsVoid) c l.0 w
need_within files c (kind.Sign sign.Tilde) at l w = waits files (item.Front at front.Neg) c l.0 w
need_within files c (kind.Sign sign.LParen) at l w = waits files item.Parenthesis c tt w
need_within files c (kind.Sign sign.LBrace) at l w = waits files (item.Block at []) c l.0 w
need_within files c _ at l w = tt

-- an identifier is assigned, called, or an operand
identifier_within : (files : ℕ) (c : Context) (name : List ℕ) (here : Place) (k : TokenKind) (at : Place) → IsNamed files here name → IsPlaced files at → IsWithin files c → IfSome (identifier c name here k at) (IsStateWithin files)
identifier_within files c name here (kind.Sign sign.Arrow) at h p w = waits files (item.Assigning here name) c h w
identifier_within files c name here (kind.Sign sign.LParen) at h p w = (placed files (node.Id here (codes "self")) c (h.0, name_of_self) w, (h.0, tt, h.1))
identifier_within files c name here k at h p w = have_within files (place (node.Id here name) c) (next_id c) k at p (placed files (node.Id here name) c h w)

-- arguments end, or the first one begins
first_argument_if : (files : ℕ) (b : Bool) (c : Context) (call : Call) (k : TokenKind) (at : Place) → IsCallWithin files call → IsTokenWithin files at k → IsWithin files c
    → IfSome (if b then operand (dispatch call []) c else need (push (item.Arguments call []) c) k at) (IsStateWithin files)
first_argument_if files true c call k at h l w = operates files (dispatch call []) c (dispatch_within files call [] h) w
first_argument_if files false c call k at h l w = need_within files (push (item.Arguments call []) c) k at l (pushed files (item.Arguments call []) c h w)

-- a block ends, or one more item begins
next_item_if : (files : ℕ) (b : Bool) (c : Context) (here : Place) (items : List NodeId) (k : TokenKind) (at : Place) → IsPlaced files here → IsTokenWithin files at k → IsWithin files c
    → IfSome (if b then operand (node.Block here items) c else need (push (item.Block here items) c) k at) (IsStateWithin files)
next_item_if files true c here items k at h l w = operates files (node.Block here items) c h w
next_item_if files false c here items k at h l w = need_within files (push (item.Block here items) c) k at l (pushed files (item.Block here items) c h w)

-- a case ends, or one more branch begins
next_branch_within : (files : ℕ) (c : Context) (b : OpenCase) (k : TokenKind) (at : Place) → IsOpenCaseWithin files b → IsTokenWithin files at k → IsWithin files c → IfSome (next_branch c b k at) (IsStateWithin files)
next_branch_within files c b (kind.Key key.Esac) at h l w = operates files (node.Case b.at b.value b.branches) c h w
next_branch_within files c b (kind.ObjectId name) at h l w = (w, (h, l))
next_branch_within files c b _ at h l w = tt

-- Names and types

-- the name of a method that is called
method_name_within : (files : ℕ) (c : Context) (t : NodeId) (class : Option TypeRef) (k : TokenKind) (at : Place) → IfSome class (IsTypeWithin files) → IsTokenWithin files at k → IsWithin files c → IfSome (method_name c t class k at) (IsStateWithin files)
method_name_within files c t class (kind.ObjectId name) at h l w = (w, (l.0, h, l.1))
method_name_within files c t class _ at h l w = tt

-- the class of a static call
static_class_within : (files : ℕ) (c : Context) (t : NodeId) (k : TokenKind) (at : Place) → IsTokenWithin files at k → IsWithin files c → IfSome (static_class c t k at) (IsStateWithin files)
static_class_within files c t (kind.TypeId name) at l w = (w, (l.1, l.0))
static_class_within files c t _ at l w = tt

-- the class of a new object
new_type_within : (files : ℕ) (c : Context) (here : Place) (k : TokenKind) (at : Place) → IsPlaced files here → IsTokenWithin files at k → IsWithin files c → IfSome (new_type c here k at) (IsStateWithin files)
new_type_within files c here (kind.TypeId name) at h l w = operates files (node.New here (record { name = name; at = at })) c (h, (l.1, l.0)) w
new_type_within files c here _ at h l w = tt

-- a name that is declared
variable_name_within : (files : ℕ) (c : Context) (p : Purpose) (k : TokenKind) (at : Place) → IsPurposeWithin files p → IsTokenWithin files at k → IsWithin files c → IfSome (variable_name c p k at) (IsStateWithin files)
variable_name_within files c p (kind.ObjectId name) at h l w = (w, (h, l))
variable_name_within files c p _ at h l w = tt

-- a name and its type
declared_within : (files : ℕ) (c : Context) (p : Purpose) (v : Variable) → IsPurposeWithin files p → IsVariableWithin files v → IsWithin files c → IfSome (declared c p v) (IsStateWithin files)
declared_within files c (purpose.Attribute class) v h k w = (w, (h, k))
declared_within files c (purpose.Formal m) v h k w = (w, (h.0, h.1, h.2, All-append (IsFormalWithin files) m.formals (record { name = v.name; at = v.at; declared = v.declared } ∷ []) h.3 (k, tt)))
declared_within files c purpose.Let v h k w = (w, k)
declared_within files c (purpose.Branch b) v h k w = (w, (h, k))

-- the type of a name
variable_type_within : (files : ℕ) (c : Context) (p : Purpose) (name : List ℕ) (here : Place) (k : TokenKind) (at : Place) → IsPurposeWithin files p → IsNamed files here name → IsTokenWithin files at k → IsWithin files c → IfSome (variable_type c p name here k at) (IsStateWithin files)
variable_type_within files c p name here (kind.TypeId spelling) at h n l w = declared_within files c p (record { name = name; at = here; declared = record { name = spelling; at = at } }) h (n.0, n.1, (l.1, l.0)) w
variable_type_within files c p name here _ at h n l w = tt

-- after a variable of a let
let_end_within : (files : ℕ) (c : Context) (v : Variable) (k : TokenKind) (at : Place) → IsVariableWithin files v → IsWithin files c → IfSome (let_end c v k at) (IsStateWithin files)
let_end_within files c v (kind.Sign sign.Arrow) at h w = waits files (item.Init v) c h w
let_end_within files c v (kind.Sign sign.Comma) at h w = (pushed files (item.Bound v None) c h w, tt)
let_end_within files c v (kind.Key key.In) at h w = waits files (item.Bound v None) c h w
let_end_within files c v _ at h w = tt

-- Classes and features

-- after the name of a class
class_head_within : (files : ℕ) (c : Context) (name : List ℕ) (here : Place) (k : TokenKind) (at : Place) → IsPlaced files here × IsTypeName name → IsWithin files c → IfSome (class_head c name here k at) (IsStateWithin files)
class_head_within files c name here (kind.Key key.Inherits) at h w = (w, h)
class_head_within files c name here (kind.Sign sign.LBrace) at h w = (w, (h.0, h.1, tt, tt))
class_head_within files c name here _ at h w = tt

-- the name of a parent
parent_name_within : (files : ℕ) (c : Context) (name : List ℕ) (here : Place) (k : TokenKind) (at : Place) → IsPlaced files here × IsTypeName name → IsTokenWithin files at k → IsWithin files c → IfSome (parent_name c name here k at) (IsStateWithin files)
parent_name_within files c name here (kind.TypeId parent) at h l w = (w, (h.0, h.1, (l.1, l.0)))
parent_name_within files c name here _ at h l w = tt

-- a feature begins, or the features end
features_within : (files : ℕ) (c : Context) (class : OpenClass) (k : TokenKind) (at : Place) → IsOpenClassWithin files class → IsTokenWithin files at k → IsWithin files c → IfSome (features c class k at) (IsStateWithin files)
features_within files c class (kind.ObjectId name) at h l w = (w, (h, l))
features_within files c class (kind.Sign sign.RBrace) at h l w = (w, h)
features_within files c class _ at h l w = tt

-- after the name of a feature
feature_name_within : (files : ℕ) (c : Context) (class : OpenClass) (name : List ℕ) (here : Place) (k : TokenKind) (at : Place) → IsOpenClassWithin files class → IsNamed files here name → IsWithin files c → IfSome (feature_name c class name here k at) (IsStateWithin files)
feature_name_within files c class name here (kind.Sign sign.LParen) at h n w = (w, (h, n.0, n.1, tt))
feature_name_within files c class name here (kind.Sign sign.Colon) at h n w = (w, (h, n))
feature_name_within files c class name here _ at h n w = tt

-- the formals end, or the first one begins
first_formal_within : (files : ℕ) (c : Context) (m : OpenMethod) (k : TokenKind) (at : Place) → IsOpenMethodWithin files m → IsTokenWithin files at k → IsWithin files c → IfSome (first_formal c m k at) (IsStateWithin files)
first_formal_within files c m (kind.Sign sign.RParen) at h l w = (w, h)
first_formal_within files c m k at h l w = variable_name_within files c (purpose.Formal m) k at h l w

-- the formals end, or one more begins
formal_end_within : (files : ℕ) (c : Context) (m : OpenMethod) (k : TokenKind) (at : Place) → IsOpenMethodWithin files m → IsWithin files c → IfSome (formal_end c m k at) (IsStateWithin files)
formal_end_within files c m (kind.Sign sign.RParen) at h w = (w, h)
formal_end_within files c m (kind.Sign sign.Comma) at h w = (w, h)
formal_end_within files c m _ at h w = tt

-- the type of a method's result
result_type_within : (files : ℕ) (c : Context) (m : OpenMethod) (k : TokenKind) (at : Place) → IsOpenMethodWithin files m → IsTokenWithin files at k → IsWithin files c → IfSome (result_type c m k at) (IsStateWithin files)
result_type_within files c m (kind.TypeId name) at h l w = (w, (h, (l.1, l.0)))
result_type_within files c m _ at h l w = tt

-- an attribute's value begins, or it has none
attribute_end_within : (files : ℕ) (c : Context) (class : OpenClass) (v : Variable) (k : TokenKind) (at : Place) → IsOpenClassWithin files class → IsVariableWithin files v → IsWithin files c → IfSome (attribute_end c class v k at) (IsStateWithin files)
attribute_end_within files c class v (kind.Sign sign.Arrow) at h n w = waits files (item.AttributeInit class v) c (h, n) w
attribute_end_within files c class v (kind.Sign sign.Semi) at h n w =
    (w, with_feature_within files (feature.Attribute (record { name = v.name; at = v.at; declared = v.declared; init = None })) class (n.0, n.1, n.2, tt) h)
attribute_end_within files c class v _ at h n w = tt

-- a class is whole
class_end_within : (files : ℕ) (c : Context) (class : OpenClass) → IsOpenClassWithin files class → IsWithin files c → IfSome (class_end c class) (IsStateWithin files)
class_end_within files c class h w = (
  record {
    nodes = w.nodes;
    stack = w.stack;
    classes = All-append (IsClassWithin files) c.classes (record { name = class.name; at = class.at; parent = class.parent; features = class.features } ∷ []) w.classes (h, tt);
  },
  tt,
)

-- Steps

-- a token that keeps the limits leaves a state that does
step_within : (files : ℕ) (c : Context) (m : Mode) (k : TokenKind) (at : Place) → IsTokenWithin files at k → IsModeWithin files m → IsWithin files c → IfSome (step c m k at) (IsStateWithin files)
step_within files c mode.File (kind.Key key.Class) at l h w = (w, tt)
step_within files c mode.ClassName (kind.TypeId name) at l h w = (w, l)
step_within files c (mode.ClassHead name here) k at l h w = class_head_within files c name here k at h w
step_within files c (mode.ParentName name here) k at l h w = parent_name_within files c name here k at h l w
step_within files c (mode.ClassBrace name here parent) (kind.Sign sign.LBrace) at l h w = (w, (h.0, h.1, h.2, tt))
step_within files c (mode.Features class) k at l h w = features_within files c class k at h l w
step_within files c (mode.ClassEnd class) (kind.Sign sign.Semi) at l h w = class_end_within files c class h w
step_within files c (mode.FeatureName class name here) k at l h w = feature_name_within files c class name here k at h.0 h.1 w
step_within files c (mode.FirstFormal m) k at l h w = first_formal_within files c m k at h l w
step_within files c (mode.FormalEnd m) k at l h w = formal_end_within files c m k at h w
step_within files c (mode.ResultColon m) (kind.Sign sign.Colon) at l h w = (w, h)
step_within files c (mode.ResultType m) k at l h w = result_type_within files c m k at h l w
step_within files c (mode.MethodBrace m result) (kind.Sign sign.LBrace) at l h w = waits files (item.MethodBody m result) c h w
step_within files c (mode.MethodEnd class) (kind.Sign sign.Semi) at l h w = (w, h)
step_within files c (mode.AttributeEnd class v) k at l h w = attribute_end_within files c class v k at h.0 h.1 w
step_within files c (mode.VariableName p) k at l h w = variable_name_within files c p k at h l w
step_within files c (mode.VariableColon p name here) (kind.Sign sign.Colon) at l h w = (w, h)
step_within files c (mode.VariableType p name here) k at l h w = variable_type_within files c p name here k at h.0 h.1 l w
step_within files c (mode.LetEnd v) k at l h w = let_end_within files c v k at h w
step_within files c (mode.BranchArrow b v) (kind.Sign sign.FatArrow) at l h w = waits files (item.BranchBody b v) c h w
step_within files c (mode.NextBranch b) k at l h w = next_branch_within files c b k at h l w
step_within files c (mode.NextItem here items) k at l h w = next_item_if files (is_right_brace k) c here items k at h l w
step_within files c (mode.FirstArgument call) k at l h w = first_argument_if files (is_right_parenthesis k) c call k at h l w
step_within files c mode.Need k at l h w = need_within files c k at l w
step_within files c (mode.Identifier name here) k at l h w = identifier_within files c name here k at h l.0 w
step_within files c (mode.Have t) k at l h w = have_within files c t k at l.0 w
step_within files c (mode.StaticClass t) k at l h w = static_class_within files c t k at l w
step_within files c (mode.StaticDot t class) (kind.Sign sign.Dot) at l h w = (w, h)
step_within files c (mode.MethodName t class) k at l h w = method_name_within files c t class k at h l w
step_within files c (mode.CallParenthesis call) (kind.Sign sign.LParen) at l h w = (w, h)
step_within files c (mode.NewType here) k at l h w = new_type_within files c here k at h l w
step_within files c _ _ at l h w = tt

-- Files

abbrev IsOutcomeWithin : ℕ → Outcome → Type 0
IsOutcomeWithin files (Whole classes) = AreClassesWithin files classes
IsOutcomeWithin files (Unexpected at) = Unit {0}

-- a file may end
finish_within : (files : ℕ) (c : Context) (m : Mode) (end : Place) → IsWithin files c → IsOutcomeWithin files (finish c m end)
finish_within files c mode.File end w = w.classes
finish_within files c _ end w = tt

-- the outcome of the rest of the tokens
outcome_within : (files : ℕ) (ts : List Token) (at end : Place) (o : Option State) → AreWithinLimits files ts → IfSome o (IsStateWithin files) → IsOutcomeWithin files (outcome at o ts end)
outcome_within files [] at end None l h = tt
outcome_within files (t ∷ ts) at end None l h = tt
outcome_within files [] at end (Some s) l h = finish_within files s.context s.mode end h.0
outcome_within files (t ∷ ts) at end (Some s) l h =
    outcome_within files ts t.at end (step s.context s.mode t.kind t.at) l.1 (step_within files s.context s.mode t.kind t.at l.0 h.1 h.0)

-- the classes of a file keep the limits of its tokens
pub classes_within : (files : ℕ) (ts : List Token) (end : Place) (classes : List ClassDef) → parsed ts end ≡ Whole classes → AreWithinLimits files ts → AreClassesWithin files classes
classes_within files ts end classes e l =
    subst (IsOutcomeWithin files) e (outcome_within files ts end end (Some start) l (record { nodes = tt; stack = tt; classes = tt }, tt))
