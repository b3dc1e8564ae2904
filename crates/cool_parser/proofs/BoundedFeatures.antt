-- If the tokens keep the limit on the length of a feature, no feature of the parsed classes is larger than this limit, because all of it was counted in the
-- current run of tokens.
use Rattle.std.proofs.Common.{◌≡◌, ℕ, ◌+◌, ◌≤◌, ◌<◌, Bool, true, false, if◌then◌else◌, List, [], ◌∷◌, ◌++◌, length, Option, Some, None, IfSome, refl, sym, subst, ◌∙◌, ap, arith}
use Rattle.std.specs.List.{AllByRecursion}
use Rattle.std.specs.Option.{is_some}
use Rattle.std.proofs.ByRecursion.{All-append}
use Rattle.cool_syntax.specs.declared.TheConstants.{MOST_TOKENS}
use Rattle.cool_syntax.specs.declared.place.Place.{Place}
use Rattle.cool_syntax.specs.declared.type_ref.TypeRef.{TypeRef}
use Rattle.cool_syntax.specs.declared.token.Token.{Token}
use Rattle.cool_syntax.specs.declared.token.TokenKind.{TokenKind}
use Rattle.cool_syntax.specs.declared.token.TokenKind.TheVariants as kind
use Rattle.cool_syntax.specs.declared.token.Key.TheVariants as key
use Rattle.cool_syntax.specs.declared.token.Sign.TheVariants as sign
use Rattle.cool_syntax.specs.declared.node.NodeId.{NodeId}
use Rattle.cool_syntax.specs.declared.node.Node.{Node}
use Rattle.cool_syntax.specs.declared.node.Node.TheVariants as node
use Rattle.cool_syntax.specs.declared.file_tree.ClassDef.{ClassDef}
use Rattle.cool_syntax.specs.declared.file_tree.Feature.TheVariants as feature
use Rattle.cool_syntax.specs.LexicalStructure.{Run, first_run, depth_after, ends_run, run_after, FitsRuns}
use Rattle.cool_syntax.specs.Tree.{Last, More}
use Rattle.cool_parser.specs.declared.operator.Infix.{Infix}
use Rattle.cool_parser.specs.declared.operator.Prefix.TheVariants as front
use Rattle.cool_parser.specs.declared.item.Item.{Item}
use Rattle.cool_parser.specs.declared.item.Item.TheVariants as item
use Rattle.cool_parser.specs.declared.item.Call.{Call}
use Rattle.cool_parser.specs.declared.item.Variable.{Variable}
use Rattle.cool_parser.specs.declared.item.OpenCase.{OpenCase}
use Rattle.cool_parser.specs.declared.item.OpenClass.{OpenClass}
use Rattle.cool_parser.specs.declared.item.OpenMethod.{OpenMethod}
use Rattle.cool_parser.specs.declared.mode.Purpose.{Purpose}
use Rattle.cool_parser.specs.declared.mode.Purpose.TheVariants as purpose
use Rattle.cool_parser.specs.declared.mode.Mode.{Mode}
use Rattle.cool_parser.specs.declared.mode.Mode.TheVariants as mode
use Rattle.cool_parser.specs.Levels.{infix_of, left_level}
use Rattle.cool_parser.specs.ParsingMachine.{Context, State, Outcome, Whole, Unexpected, push, place, next_id, operand, wait, ended, nodes_of, initial, method, reduced, reduce, after, dispatch, close_on, close, operator_or_end, have, need, identifier, is_right_parenthesis, is_right_brace, next_branch, compares, is_comparison, variable_name, declared, variable_type, let_end, class_head, parent_name, features, feature_name, first_formal, formal_end, result_type, attribute_end, static_class, method_name, new_type, class_end, step, finish, outcome, parsed, start}
use Rattle.cool_parser.specs.Waiting.{stack_parts, Holds, IsGood, IsGoodState}
use Rattle.cool_syntax.specs.FeatureSizes.{IsBoundedFeature, IsBoundedClass}
use Rattle.cool_parser.proofs.GoodStates.{on, operates, bodied, reduce_good, step_good, start_good}
use Rattle.cool_parser.proofs.WeightsOfNodes.{weight, weight-placed, body_weight}
use Rattle.cool_parser.proofs.RunsOfFeatures.{stack_owes, total, depth, is_between, Fits, reduced_same, step_fits}

-- States whose features are bounded

abbrev IsOpenBounded : OpenClass → Type 0
IsOpenBounded c = AllByRecursion IsBoundedFeature c.features

abbrev IsItemBounded : Item → Type 0
IsItemBounded (item.MethodBody m result) = IsOpenBounded m.class
IsItemBounded (item.AttributeInit class v) = IsOpenBounded class
IsItemBounded _ = Unit {0}

abbrev IsPurposeBounded : Purpose → Type 0
IsPurposeBounded (purpose.Attribute class) = IsOpenBounded class
IsPurposeBounded (purpose.Formal m) = IsOpenBounded m.class
IsPurposeBounded _ = Unit {0}

abbrev IsModeBounded : Mode → Type 0
IsModeBounded (mode.Features class) = IsOpenBounded class
IsModeBounded (mode.ClassEnd class) = IsOpenBounded class
IsModeBounded (mode.FeatureName class name at) = IsOpenBounded class
IsModeBounded (mode.FirstFormal m) = IsOpenBounded m.class
IsModeBounded (mode.FormalEnd m) = IsOpenBounded m.class
IsModeBounded (mode.ResultColon m) = IsOpenBounded m.class
IsModeBounded (mode.ResultType m) = IsOpenBounded m.class
IsModeBounded (mode.MethodBrace m result) = IsOpenBounded m.class
IsModeBounded (mode.MethodEnd class) = IsOpenBounded class
IsModeBounded (mode.AttributeEnd class v) = IsOpenBounded class
IsModeBounded (mode.VariableName p) = IsPurposeBounded p
IsModeBounded (mode.VariableColon p name at) = IsPurposeBounded p
IsModeBounded (mode.VariableType p name at) = IsPurposeBounded p
IsModeBounded _ = Unit {0}

-- the features of the class that is open, and those of the classes so far
abbrev IsBounded : Context → Type 0
IsBounded c = AllByRecursion IsItemBounded c.stack × AllByRecursion IsBoundedClass c.classes

abbrev IsStateBounded : State → Type 0
IsStateBounded s = IsBounded s.context × IsModeBounded s.mode

waits : (i : Item) (c : Context) → IsItemBounded i → IsBounded c → IfSome (wait i c) IsStateBounded
waits i c h w = (((h, w.0), w.1), tt)

reduced_at : (k : ℕ) (ns : List Node) (i : Item) (st : List Item) (t : NodeId) (o : Option Node)
    → ((ms : List Node) (u : NodeId) → AllByRecursion IsItemBounded (reduced k ms st u).stack) → AllByRecursion IsItemBounded (i ∷ st)
    → AllByRecursion IsItemBounded (if is_some o then reduced k (ns ++ nodes_of o) st (record { 0 = length ns }) else record { nodes = ns; stack = i ∷ st; operand = t }).stack
reduced_at k ns i st t None more w = w
reduced_at k ns i st t (Some n) more w = more (ns ++ n ∷ []) (record { 0 = length ns })

reduced_bounded : (k : ℕ) (st : List Item) (ns : List Node) (t : NodeId) → AllByRecursion IsItemBounded st → AllByRecursion IsItemBounded (reduced k ns st t).stack
reduced_bounded k [] ns t w = w
reduced_bounded k (i ∷ st) ns t w = reduced_at k ns i st t (ended k i t) (λ ms u. reduced_bounded k st ms u w.1) w

-- After an operand

shifted : (b : Bool) (op : Infix) (at : Place) (c : Context) (t : NodeId) → IsBounded c → IfSome (if b then None else wait (item.Left at op t) c) IsStateBounded
shifted true op at c t w = tt
shifted false op at c t w = waits (item.Left at op t) c tt w

close_on_bounded : (i : Item) (k : TokenKind) (c : Context) (t : NodeId) → IsItemBounded i → IsBounded c
    → IsGood (push i c) (mode.Have t) → total (push i c) (mode.Have t) ≤ MOST_TOKENS → IfSome (close_on i k c t) IsStateBounded
close_on_bounded item.Parenthesis (kind.Sign sign.RParen) c t h w g l = (w, tt)
close_on_bounded (item.Arguments call args) (kind.Sign sign.RParen) c t h w g l = (w, tt)
close_on_bounded (item.Arguments call args) (kind.Sign sign.Comma) c t h w g l = waits (item.Arguments call (args ++ t ∷ [])) c tt w
close_on_bounded (item.Init v) (kind.Sign sign.Comma) c t h w g l = (((tt, w.0), w.1), tt)
close_on_bounded (item.Init v) (kind.Key key.In) c t h w g l = waits (item.Bound v (Some t)) c tt w
close_on_bounded (item.IfTest at) (kind.Key key.Then) c t h w g l = waits (item.IfYes at t) c tt w
close_on_bounded (item.IfYes at test) (kind.Key key.Else) c t h w g l = waits (item.IfNo at test t) c tt w
close_on_bounded (item.IfNo at test met) (kind.Key key.Fi) c t h w g l = (w, tt)
close_on_bounded (item.WhileTest at) (kind.Key key.Loop) c t h w g l = waits (item.WhileBody at t) c tt w
close_on_bounded (item.WhileBody at test) (kind.Key key.Pool) c t h w g l = (w, tt)
close_on_bounded (item.CaseValue at) (kind.Key key.Of) c t h w g l = (w, tt)
close_on_bounded (item.BranchBody k v) (kind.Sign sign.Semi) c t h w g l = (w, tt)
close_on_bounded (item.Block at items) (kind.Sign sign.Semi) c t h w g l = (w, tt)
close_on_bounded (item.AttributeInit class v) (kind.Sign sign.Semi) c t h w g l =
    (w, All-append IsBoundedFeature class.features (initial v c ∷ []) h (omega (arith, l, body_weight c.nodes (bodied (item.AttributeInit class v) c t refl refl g).1), tt))
close_on_bounded (item.MethodBody m result) (kind.Sign sign.RBrace) c t h w g l =
    (w, All-append IsBoundedFeature m.class.features (method m result c ∷ []) h (omega (arith, l, body_weight c.nodes (bodied (item.MethodBody m result) c t refl refl g).1), tt))
close_on_bounded _ _ c t h w g l = tt

close_bounded : (k : TokenKind) (st : List Item) (c : Context) (t : NodeId) → IsBounded (record c { stack = st })
    → IsGood (record c { stack = st }) (mode.Have t) → weight c.nodes + stack_owes st ≤ MOST_TOKENS → IfSome (close k st c t) IsStateBounded
close_bounded k [] c t w g l = tt
close_bounded k (i ∷ st) c t w g l = close_on_bounded i k (record c { stack = st }) t w.0.0 (w.0.1, w.1) g (omega (arith, l))

operator_bounded : (o : Option Infix) (c : Context) (t : NodeId) (k : TokenKind) (at : Place) → IsBounded c
    → IsGood c (mode.Have t) → weight c.nodes + stack_owes c.stack ≤ MOST_TOKENS → IfSome (operator_or_end o c t k at) IsStateBounded
operator_bounded (Some op) c t k at w g l =
    let r = reduce (left_level op) c t in
    shifted (if is_comparison op then compares r.stack else false) op at (after c r) r.operand (reduced_bounded (left_level op) c.stack c.nodes t w.0, w.1)
operator_bounded None c t k at w g l =
    let r = reduce 0 c t in
    close_bounded k r.stack (after c r) r.operand (reduced_bounded 0 c.stack c.nodes t w.0, w.1) (reduce_good 0 c t g) (omega (arith, l, (reduced_same 0 c.stack c.nodes t).0))

have_bounded : (c : Context) (t : NodeId) (k : TokenKind) (at : Place) → IsBounded c
    → IsGood c (mode.Have t) → weight c.nodes + stack_owes c.stack ≤ MOST_TOKENS → IfSome (have c t k at) IsStateBounded
have_bounded c t (kind.Sign sign.Dot) at w g l = (w, tt)
have_bounded c t (kind.Sign sign.At) at w g l = (w, tt)
have_bounded c t k at w g l = operator_bounded (infix_of k) c t k at w g l

-- Operands

need_bounded : (c : Context) (k : TokenKind) (at : Place) → IsBounded c → IfSome (need c k at) IsStateBounded
need_bounded c (kind.ObjectId name) at w = (w, tt)
need_bounded c (kind.Int value) at w = (w, tt)
need_bounded c (kind.Str bytes) at w = (w, tt)
need_bounded c (kind.Key key.True) at w = (w, tt)
need_bounded c (kind.Key key.False) at w = (w, tt)
need_bounded c (kind.Key key.If) at w = waits (item.IfTest at) c tt w
need_bounded c (kind.Key key.While) at w = waits (item.WhileTest at) c tt w
need_bounded c (kind.Key key.Case) at w = waits (item.CaseValue at) c tt w
need_bounded c (kind.Key key.Let) at w = (w, tt)
need_bounded c (kind.Key key.New) at w = (w, tt)
need_bounded c (kind.Key key.Not) at w = waits (item.Front at front.Not) c tt w
need_bounded c (kind.Key key.IsVoid) at w = waits (item.Front at front.IsVoid) c tt w
need_bounded c (kind.Sign sign.Tilde) at w = waits (item.Front at front.Neg) c tt w
need_bounded c (kind.Sign sign.LParen) at w = waits item.Parenthesis c tt w
need_bounded c (kind.Sign sign.LBrace) at w = waits (item.Block at []) c tt w
need_bounded c _ at w = tt

identifier_bounded : (c : Context) (name : List ℕ) (here : Place) (k : TokenKind) (at : Place) → IsBounded c
    → IsGood c (mode.Identifier name here) → total c (mode.Identifier name here) ≤ MOST_TOKENS → IfSome (identifier c name here k at) IsStateBounded
identifier_bounded c name here (kind.Sign sign.Arrow) at w g l = waits (item.Assigning here name) c tt w
identifier_bounded c name here (kind.Sign sign.LParen) at w g l = (w, tt)
identifier_bounded c name here k at w g l =
    have_bounded (place (node.Id here name) c) (next_id c) k at w (operates (node.Id here name) c [] refl (on c (mode.Identifier name here) g)) (omega (arith, l, weight-placed c.nodes (node.Id here name)))

first_argument_if : (b : Bool) (c : Context) (call : Call) (k : TokenKind) (at : Place) → IsBounded c
    → IfSome (if b then operand (dispatch call []) c else need (push (item.Arguments call []) c) k at) IsStateBounded
first_argument_if true c call k at w = (w, tt)
first_argument_if false c call k at w = need_bounded (push (item.Arguments call []) c) k at ((tt, w.0), w.1)

next_item_if : (b : Bool) (c : Context) (here : Place) (items : List NodeId) (k : TokenKind) (at : Place) → IsBounded c
    → IfSome (if b then operand (node.Block here items) c else need (push (item.Block here items) c) k at) IsStateBounded
next_item_if true c here items k at w = (w, tt)
next_item_if false c here items k at w = need_bounded (push (item.Block here items) c) k at ((tt, w.0), w.1)

next_branch_bounded : (c : Context) (b : OpenCase) (k : TokenKind) (at : Place) → IsBounded c → IfSome (next_branch c b k at) IsStateBounded
next_branch_bounded c b (kind.Key key.Esac) at w = (w, tt)
next_branch_bounded c b (kind.ObjectId name) at w = (w, tt)
next_branch_bounded c b _ at w = tt

-- Names and types

method_name_bounded : (c : Context) (t : NodeId) (class : Option TypeRef) (k : TokenKind) (at : Place) → IsBounded c → IfSome (method_name c t class k at) IsStateBounded
method_name_bounded c t class (kind.ObjectId name) at w = (w, tt)
method_name_bounded c t class _ at w = tt

static_class_bounded : (c : Context) (t : NodeId) (k : TokenKind) (at : Place) → IsBounded c → IfSome (static_class c t k at) IsStateBounded
static_class_bounded c t (kind.TypeId name) at w = (w, tt)
static_class_bounded c t _ at w = tt

new_type_bounded : (c : Context) (here : Place) (k : TokenKind) (at : Place) → IsBounded c → IfSome (new_type c here k at) IsStateBounded
new_type_bounded c here (kind.TypeId name) at w = (w, tt)
new_type_bounded c here _ at w = tt

variable_name_bounded : (c : Context) (p : Purpose) (k : TokenKind) (at : Place) → IsPurposeBounded p → IsBounded c → IfSome (variable_name c p k at) IsStateBounded
variable_name_bounded c p (kind.ObjectId name) at h w = (w, h)
variable_name_bounded c p _ at h w = tt

declared_bounded : (c : Context) (p : Purpose) (v : Variable) → IsPurposeBounded p → IsBounded c → IfSome (declared c p v) IsStateBounded
declared_bounded c (purpose.Attribute class) v h w = (w, h)
declared_bounded c (purpose.Formal m) v h w = (w, h)
declared_bounded c purpose.Let v h w = (w, tt)
declared_bounded c (purpose.Branch b) v h w = (w, tt)

variable_type_bounded : (c : Context) (p : Purpose) (name : List ℕ) (here : Place) (k : TokenKind) (at : Place) → IsPurposeBounded p → IsBounded c → IfSome (variable_type c p name here k at) IsStateBounded
variable_type_bounded c p name here (kind.TypeId spelling) at h w = declared_bounded c p (record { name = name; at = here; declared = record { name = spelling; at = at } }) h w
variable_type_bounded c p name here _ at h w = tt

let_end_bounded : (c : Context) (v : Variable) (k : TokenKind) (at : Place) → IsBounded c → IfSome (let_end c v k at) IsStateBounded
let_end_bounded c v (kind.Sign sign.Arrow) at w = waits (item.Init v) c tt w
let_end_bounded c v (kind.Sign sign.Comma) at w = (((tt, w.0), w.1), tt)
let_end_bounded c v (kind.Key key.In) at w = waits (item.Bound v None) c tt w
let_end_bounded c v _ at w = tt

-- Classes and features

class_head_bounded : (c : Context) (name : List ℕ) (here : Place) (k : TokenKind) (at : Place) → IsBounded c → IfSome (class_head c name here k at) IsStateBounded
class_head_bounded c name here (kind.Key key.Inherits) at w = (w, tt)
class_head_bounded c name here (kind.Sign sign.LBrace) at w = (w, tt)
class_head_bounded c name here _ at w = tt

parent_name_bounded : (c : Context) (name : List ℕ) (here : Place) (k : TokenKind) (at : Place) → IsBounded c → IfSome (parent_name c name here k at) IsStateBounded
parent_name_bounded c name here (kind.TypeId parent) at w = (w, tt)
parent_name_bounded c name here _ at w = tt

features_bounded : (c : Context) (class : OpenClass) (k : TokenKind) (at : Place) → IsOpenBounded class → IsBounded c → IfSome (features c class k at) IsStateBounded
features_bounded c class (kind.ObjectId name) at h w = (w, h)
features_bounded c class (kind.Sign sign.RBrace) at h w = (w, h)
features_bounded c class _ at h w = tt

feature_name_bounded : (c : Context) (class : OpenClass) (name : List ℕ) (here : Place) (k : TokenKind) (at : Place) → IsOpenBounded class → IsBounded c → IfSome (feature_name c class name here k at) IsStateBounded
feature_name_bounded c class name here (kind.Sign sign.LParen) at h w = (w, h)
feature_name_bounded c class name here (kind.Sign sign.Colon) at h w = (w, h)
feature_name_bounded c class name here _ at h w = tt

first_formal_bounded : (c : Context) (m : OpenMethod) (k : TokenKind) (at : Place) → IsOpenBounded m.class → IsBounded c → IfSome (first_formal c m k at) IsStateBounded
first_formal_bounded c m (kind.Sign sign.RParen) at h w = (w, h)
first_formal_bounded c m k at h w = variable_name_bounded c (purpose.Formal m) k at h w

formal_end_bounded : (c : Context) (m : OpenMethod) (k : TokenKind) (at : Place) → IsOpenBounded m.class → IsBounded c → IfSome (formal_end c m k at) IsStateBounded
formal_end_bounded c m (kind.Sign sign.RParen) at h w = (w, h)
formal_end_bounded c m (kind.Sign sign.Comma) at h w = (w, h)
formal_end_bounded c m _ at h w = tt

result_type_bounded : (c : Context) (m : OpenMethod) (k : TokenKind) (at : Place) → IsOpenBounded m.class → IsBounded c → IfSome (result_type c m k at) IsStateBounded
result_type_bounded c m (kind.TypeId name) at h w = (w, h)
result_type_bounded c m _ at h w = tt

attribute_end_bounded : (c : Context) (class : OpenClass) (v : Variable) (k : TokenKind) (at : Place) → IsOpenBounded class → IsBounded c → IfSome (attribute_end c class v k at) IsStateBounded
attribute_end_bounded c class v (kind.Sign sign.Arrow) at h w = waits (item.AttributeInit class v) c h w
attribute_end_bounded c class v (kind.Sign sign.Semi) at h w =
    (w, All-append IsBoundedFeature class.features (feature.Attribute (record { name = v.name; at = v.at; declared = v.declared; init = None }) ∷ []) h (omega arith, tt))
attribute_end_bounded c class v _ at h w = tt

class_end_bounded : (c : Context) (class : OpenClass) → IsOpenBounded class → IsBounded c → IfSome (class_end c class) IsStateBounded
class_end_bounded c class h w =
    ((w.0, All-append IsBoundedClass c.classes (record { name = class.name; at = class.at; parent = class.parent; features = class.features } ∷ []) w.1 (h, tt)), tt)

-- Steps

step_bounded : (c : Context) (m : Mode) (k : TokenKind) (at : Place) → IsModeBounded m → IsBounded c
    → IsGood c m → total c m ≤ MOST_TOKENS → IfSome (step c m k at) IsStateBounded
step_bounded c mode.File (kind.Key key.Class) at h w g l = (w, tt)
step_bounded c mode.ClassName (kind.TypeId name) at h w g l = (w, tt)
step_bounded c (mode.ClassHead name here) k at h w g l = class_head_bounded c name here k at w
step_bounded c (mode.ParentName name here) k at h w g l = parent_name_bounded c name here k at w
step_bounded c (mode.ClassBrace name here parent) (kind.Sign sign.LBrace) at h w g l = (w, tt)
step_bounded c (mode.Features class) k at h w g l = features_bounded c class k at h w
step_bounded c (mode.ClassEnd class) (kind.Sign sign.Semi) at h w g l = class_end_bounded c class h w
step_bounded c (mode.FeatureName class name here) k at h w g l = feature_name_bounded c class name here k at h w
step_bounded c (mode.FirstFormal m) k at h w g l = first_formal_bounded c m k at h w
step_bounded c (mode.FormalEnd m) k at h w g l = formal_end_bounded c m k at h w
step_bounded c (mode.ResultColon m) (kind.Sign sign.Colon) at h w g l = (w, h)
step_bounded c (mode.ResultType m) k at h w g l = result_type_bounded c m k at h w
step_bounded c (mode.MethodBrace m result) (kind.Sign sign.LBrace) at h w g l = waits (item.MethodBody m result) c h w
step_bounded c (mode.MethodEnd class) (kind.Sign sign.Semi) at h w g l = (w, h)
step_bounded c (mode.AttributeEnd class v) k at h w g l = attribute_end_bounded c class v k at h w
step_bounded c (mode.VariableName p) k at h w g l = variable_name_bounded c p k at h w
step_bounded c (mode.VariableColon p name here) (kind.Sign sign.Colon) at h w g l = (w, h)
step_bounded c (mode.VariableType p name here) k at h w g l = variable_type_bounded c p name here k at h w
step_bounded c (mode.LetEnd v) k at h w g l = let_end_bounded c v k at w
step_bounded c (mode.BranchArrow b v) (kind.Sign sign.FatArrow) at h w g l = waits (item.BranchBody b v) c tt w
step_bounded c (mode.NextBranch b) k at h w g l = next_branch_bounded c b k at w
step_bounded c (mode.NextItem here items) k at h w g l = next_item_if (is_right_brace k) c here items k at w
step_bounded c (mode.FirstArgument call) k at h w g l = first_argument_if (is_right_parenthesis k) c call k at w
step_bounded c mode.Need k at h w g l = need_bounded c k at w
step_bounded c (mode.Identifier name here) k at h w g l = identifier_bounded c name here k at w g l
step_bounded c (mode.Have t) k at h w g l = have_bounded c t k at w g (omega (arith, l))
step_bounded c (mode.StaticClass t) k at h w g l = static_class_bounded c t k at w
step_bounded c (mode.StaticDot t class) (kind.Sign sign.Dot) at h w g l = (w, tt)
step_bounded c (mode.MethodName t class) k at h w g l = method_name_bounded c t class k at w
step_bounded c (mode.CallParenthesis call) (kind.Sign sign.LParen) at h w g l = (w, tt)
step_bounded c (mode.NewType here) k at h w g l = new_type_bounded c here k at w
step_bounded c _ _ at h w g l = tt

-- Runs

-- the invariant after the tokens of this run
record Follows (r : Run) (s : State) : Type 0 where
  depth : r.depth ≡ depth s.context s.mode
  total : total s.context s.mode ≤ r.length
  good : IsGoodState s
  bounded : IsStateBounded s

nothing_left : (ns : List Node) (st : List Item) → st ≡ [] → Holds ns (stack_parts st ++ []) → weight ns + stack_owes st ≡ 0
nothing_left ns [] e (Last, list, whole) = omega (arith, ap weight list)
nothing_left ns [] e (More t ts, list, whole) = absurd (cc)
nothing_left ns (i ∷ st) e h = absurd (cc)

-- between features there is nothing of a feature
between_total : (c : Context) (m : Mode) → is_between m ≡ true → IsGood c m → total c m ≡ 0
between_total c mode.File e g = omega (arith, nothing_left c.nodes c.stack (g.outside refl) g.trees)
between_total c (mode.Features class) e g = omega (arith, nothing_left c.nodes c.stack (g.outside refl) g.trees)
between_total c _ e g = absurd (cc)

room : (b : Bool) (n l : ℕ) → (b ≡ true → n ≡ 0) → n ≤ l + 1 → n ≤ (if b then 0 else l + 1)
room true n l h g = omega (arith, h refl)
room false n l h g = g

follows_at : (r : Run) (k : TokenKind) (s : State) (o : Option State) → Follows r s → IfSome o (Fits k (depth s.context s.mode) (total s.context s.mode)) → IfSome o IsGoodState → IfSome o IsStateBounded
    → IfSome o (Follows (run_after r k))
follows_at r k s None f h g b = tt
follows_at r k s (Some n) f h g b = record {
  depth = ap (depth_after k) f.depth ∙ sym h.depth;
  total = room (ends_run k r.depth) (total n.context n.mode) r.length (λ e. between_total n.context n.mode (h.between (sym (ap (ends_run k) f.depth) ∙ e)) g) (omega (arith, h.total, f.total));
  good = g;
  bounded = b;
}

-- one more token
follows : (r : Run) (k : TokenKind) (at : Place) (s : State) → r.length < MOST_TOKENS → Follows r s → IfSome (step s.context s.mode k at) (Follows (run_after r k))
follows r k at s l f =
    follows_at r k s (step s.context s.mode k at) f (step_fits s.context s.mode k at) (step_good s.context s.mode k at f.good)
    (step_bounded s.context s.mode k at f.bounded.1 f.bounded.0 f.good (omega (arith, l, f.total)))

-- Files

abbrev IsOutcomeBounded : Outcome → Type 0
IsOutcomeBounded (Whole classes) = AllByRecursion IsBoundedClass classes
IsOutcomeBounded (Unexpected at) = Unit {0}

finish_bounded : (c : Context) (m : Mode) (end : Place) → IsBounded c → IsOutcomeBounded (finish c m end)
finish_bounded c mode.File end w = w.1
finish_bounded c _ end w = tt

outcome_bounded : (ts : List Token) (r : Run) (at end : Place) (o : Option State) → FitsRuns r ts → IfSome o (Follows r) → IsOutcomeBounded (outcome at o ts end)
outcome_bounded [] r at end None l f = tt
outcome_bounded (t ∷ ts) r at end None l f = tt
outcome_bounded [] r at end (Some s) l f = finish_bounded s.context s.mode end f.bounded.0
outcome_bounded (t ∷ ts) r at end (Some s) l f =
    outcome_bounded ts (run_after r t.kind) t.at end (step s.context s.mode t.kind t.at) l.1 (follows r t.kind t.at s l.0 f)

pub classes_bounded : (ts : List Token) (end : Place) (classes : List ClassDef) → parsed ts end ≡ Whole classes → FitsRuns first_run ts → AllByRecursion IsBoundedClass classes
classes_bounded ts end classes e l =
    subst IsOutcomeBounded e (outcome_bounded ts first_run end end (Some start) l (record { depth = refl; total = omega arith; good = start_good; bounded = ((tt, tt), tt) }))
