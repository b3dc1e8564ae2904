-- Each step of the parser keeps its invariant between two tokens: the nodes so far are complete trees, whose roots are the operands that its stack and mode
-- refer to.
use Rattle.std.proofs.Common.{◌≡◌, ℕ, nat_le, Bool, true, false, if◌then◌else◌, List, [], ◌∷◌, ◌++◌, length, codes, Option, Some, None, IfSome, refl, sym, subst, ◌∙◌, ap, append_assoc, append-nil}
use Rattle.std.proofs.lemmas.List.{map-append}
use Rattle.std.specs.Option.{is_some}
use Rattle.cool_syntax.specs.declared.place.Place.{Place}
use Rattle.cool_syntax.specs.declared.type_ref.TypeRef.{TypeRef}
use Rattle.cool_syntax.specs.declared.token.TokenKind.{TokenKind}
use Rattle.cool_syntax.specs.declared.token.TokenKind.TheVariants as kind
use Rattle.cool_syntax.specs.declared.token.Key.TheVariants as key
use Rattle.cool_syntax.specs.declared.token.Sign.TheVariants as sign
use Rattle.cool_syntax.specs.declared.node.NodeId.{NodeId}
use Rattle.cool_syntax.specs.declared.node.Node.{Node}
use Rattle.cool_syntax.specs.declared.node.Node.TheVariants as node
use Rattle.cool_syntax.specs.declared.file_tree.Feature.TheVariants as feature
use Rattle.cool_syntax.specs.Tree.{Last}
use Rattle.cool_syntax.specs.NodeLists.{HasPartsBelow, IsPostorder}
use Rattle.cool_parser.specs.declared.operator.Infix.{Infix}
use Rattle.cool_parser.specs.declared.operator.Infix.TheVariants as between
use Rattle.cool_parser.specs.declared.operator.Prefix.{Prefix}
use Rattle.cool_parser.specs.declared.operator.Prefix.TheVariants as front
use Rattle.cool_parser.specs.declared.item.Item.{Item}
use Rattle.cool_parser.specs.declared.item.Item.TheVariants as item
use Rattle.cool_parser.specs.declared.item.Call.{Call}
use Rattle.cool_parser.specs.declared.item.Variable.{Variable}
use Rattle.cool_parser.specs.declared.item.OpenCase.{OpenCase}
use Rattle.cool_parser.specs.declared.item.OpenClass.{OpenClass}
use Rattle.cool_parser.specs.declared.item.OpenMethod.{OpenMethod}
use Rattle.cool_parser.specs.declared.mode.Purpose.{Purpose}
use Rattle.cool_parser.specs.declared.mode.Purpose.TheVariants as purpose
use Rattle.cool_parser.specs.declared.mode.Mode.{Mode}
use Rattle.cool_parser.specs.declared.mode.Mode.TheVariants as mode
use Rattle.cool_parser.specs.Levels.{infix_of, infix_level, left_level, prefix_level}
use Rattle.cool_parser.specs.ParsingMachine.{Context, Reduced, push, place, next_id, operand, wait, ended, nodes_of, node_if, binary, before, with_feature, initial, method, reduced, reduce, after, shift, dispatch, dispatch_to, with_branch, close_on, close, operator_or_end, have, need, identifier, is_right_parenthesis, is_right_brace, first_argument, next_item, next_branch, compares, is_comparison, variable_name, declared, variable_type, let_end, class_head, parent_name, features, feature_name, first_formal, formal_end, result_type, attribute_end, static_class, method_name, new_type, class_end, step, start}
use Rattle.cool_parser.specs.Waiting.{option_parts, stack_parts, item_parts, mode_parts, case_parts, Holds, IsBottomed, is_body, is_outside, IsGood, IsGoodState}
use Rattle.cool_parser.proofs.PlacingANode.{node_parts, placed, parts_below, postorder}

-- these parts wait, after those of the stack
pub record IsOn (c : Context) (ps : List NodeId) : Type 0 where
  pub trees : Holds c.nodes (stack_parts c.stack ++ ps)
  pub bottomed : IsBottomed c.stack

pub on : (c : Context) (m : Mode) → IsGood c m → IsOn c (mode_parts m)
on c m g = record { trees = g.trees; bottomed = g.bottomed }

-- the item on the top holds its parts before an operand
pub topped : (i : Item) (c : Context) (t : NodeId) → IsGood (push i c) (mode.Have t) → IsOn c (item_parts i ++ t ∷ [])
topped i c t g = record { trees = subst (Holds c.nodes) (append_assoc (stack_parts c.stack) (item_parts i) (t ∷ [])) g.trees; bottomed = g.bottomed.1 }

-- the parts are those of a mode
moves : (m : Mode) (c : Context) (ps : List NodeId) → ps ≡ mode_parts m → (is_outside m ≡ true → c.stack ≡ []) → IsOn c ps → IsGood c m
moves m c ps e o g = record {
  trees = subst (λ qs. Holds c.nodes (stack_parts c.stack ++ qs)) e g.trees;
  bottomed = g.bottomed;
  outside = o;
}

-- the parts are those of an item, which is put on the stack
waits : (i : Item) (c : Context) (ps : List NodeId) → ps ≡ item_parts i → (is_body i ≡ true → c.stack ≡ []) → IsOn c ps → IfSome (wait i c) IsGoodState
waits i c ps e o g = record {
  trees = subst (Holds c.nodes) (ap (λ qs. stack_parts c.stack ++ qs) e ∙ sym (append-nil (stack_parts c.stack ++ item_parts i))) g.trees;
  bottomed = (o, g.bottomed);
  outside = λ h. absurd (cc);
}

-- the parts are those of a node, which is placed as an operand
pub operates : (n : Node) (c : Context) (ps : List NodeId) → ps ≡ node_parts n → IsOn c ps → IfSome (operand n c) IsGoodState
operates n c ps e g = record {
  trees = placed c.nodes (stack_parts c.stack) n (subst (λ qs. Holds c.nodes (stack_parts c.stack ++ qs)) e g.trees);
  bottomed = g.bottomed;
  outside = λ h. absurd (cc);
}

-- the parts are those of a node: they stand before it
pub below : (n : Node) (c : Context) (ps : List NodeId) → ps ≡ node_parts n → IsOn c ps → HasPartsBelow (length c.nodes) n
below n c ps e g = parts_below c.nodes (stack_parts c.stack) n (subst (λ qs. Holds c.nodes (stack_parts c.stack ++ qs)) e g.trees)

dispatch_to_parts : (o : Option TypeRef) (call : Call) (args : List NodeId) → call.receiver ∷ args ≡ node_parts (dispatch_to o call args)
dispatch_to_parts None call args = refl
dispatch_to_parts (Some class) call args = refl

pub dispatch_parts : (call : Call) (args : List NodeId) → call.receiver ∷ args ≡ node_parts (dispatch call args)
dispatch_parts call args = dispatch_to_parts call.class call args

pub need_good : (c : Context) (k : TokenKind) (at : Place) → IsGood c mode.Need → IfSome (need c k at) IsGoodState
need_good c (kind.ObjectId name) at g = moves (mode.Identifier name at) c [] refl (λ h. absurd (cc)) (on c mode.Need g)
need_good c (kind.Int value) at g = operates (node.Int at value) c [] refl (on c mode.Need g)
need_good c (kind.Str bytes) at g = operates (node.Str at bytes) c [] refl (on c mode.Need g)
need_good c (kind.Key key.True) at g = operates (node.Bool at true) c [] refl (on c mode.Need g)
need_good c (kind.Key key.False) at g = operates (node.Bool at false) c [] refl (on c mode.Need g)
need_good c (kind.Key key.If) at g = waits (item.IfTest at) c [] refl (λ h. absurd (cc)) (on c mode.Need g)
need_good c (kind.Key key.While) at g = waits (item.WhileTest at) c [] refl (λ h. absurd (cc)) (on c mode.Need g)
need_good c (kind.Key key.Case) at g = waits (item.CaseValue at) c [] refl (λ h. absurd (cc)) (on c mode.Need g)
need_good c (kind.Key key.Let) at g = moves (mode.VariableName purpose.Let) c [] refl (λ h. absurd (cc)) (on c mode.Need g)
need_good c (kind.Key key.New) at g = moves (mode.NewType at) c [] refl (λ h. absurd (cc)) (on c mode.Need g)
need_good c (kind.Key key.Not) at g = waits (item.Front at front.Not) c [] refl (λ h. absurd (cc)) (on c mode.Need g)
need_good c (kind.Key key.IsVoid) at g = waits (item.Front at front.IsVoid) c [] refl (λ h. absurd (cc)) (on c mode.Need g)
need_good c (kind.Sign sign.Tilde) at g = waits (item.Front at front.Neg) c [] refl (λ h. absurd (cc)) (on c mode.Need g)
need_good c (kind.Sign sign.LParen) at g = waits item.Parenthesis c [] refl (λ h. absurd (cc)) (on c mode.Need g)
need_good c (kind.Sign sign.LBrace) at g = waits (item.Block at []) c [] refl (λ h. absurd (cc)) (on c mode.Need g)
need_good c _ at g = tt

-- Operators that end

if_parts : (b : Bool) (n : Node) (ps : List NodeId) → node_parts n ≡ ps → IfSome (node_if b n) (λ m. node_parts m ≡ ps)
if_parts true n ps e = e
if_parts false n ps e = tt

binary_parts : (op : Infix) (at : Place) (l t : NodeId) → node_parts (binary op at l t) ≡ l ∷ t ∷ []
binary_parts (between.Arith op) at l t = refl
binary_parts (between.Compare op) at l t = refl

before_parts : (op : Prefix) (at : Place) (t : NodeId) → node_parts (before op at t) ≡ t ∷ []
before_parts front.Not at t = refl
before_parts front.IsVoid at t = refl
before_parts front.Neg at t = refl

-- the node of an operator that ends has the item's parts, and then the operand
pub ended_parts : (k : ℕ) (i : Item) (t : NodeId) → IfSome (ended k i t) (λ n. node_parts n ≡ item_parts i ++ t ∷ [])
ended_parts k (item.Left at op l) t = if_parts (nat_le k (infix_level op)) (binary op at l t) (l ∷ t ∷ []) (binary_parts op at l t)
ended_parts k (item.Front at op) t = if_parts (nat_le k (prefix_level op)) (before op at t) (t ∷ []) (before_parts op at t)
ended_parts k (item.Assigning at name) t = if_parts (nat_le k 1) (node.Assign at name t) (t ∷ []) refl
ended_parts k (item.Bound v None) t = if_parts (nat_le k 0) (node.Let v.at v.name v.declared None t) (t ∷ []) refl
ended_parts k (item.Bound v (Some i)) t = if_parts (nat_le k 0) (node.Let v.at v.name v.declared (Some i) t) (i ∷ t ∷ []) refl
ended_parts k _ t = tt

-- the facts that an operand on a stack keeps
abbrev pub Keeps : List Node → List Item → NodeId → Type 0
Keeps ns st t = Holds ns (stack_parts st ++ t ∷ []) × IsBottomed st

-- an operator ends
pub ended_keeps : (k : ℕ) (ns : List Node) (i : Item) (st : List Item) (t : NodeId) (n : Node)
    → node_parts n ≡ item_parts i ++ t ∷ [] → Keeps ns (i ∷ st) t → Keeps (ns ++ n ∷ []) st (record { 0 = length ns })
ended_keeps k ns i st t n e h =
    (placed ns (stack_parts st) n (subst (Holds ns) (append_assoc (stack_parts st) (item_parts i) (t ∷ []) ∙ ap (λ ps. stack_parts st ++ ps) (sym e)) h.0), h.1.1)

pub ended_below : (ns : List Node) (i : Item) (st : List Item) (t : NodeId) (n : Node)
    → node_parts n ≡ item_parts i ++ t ∷ [] → Keeps ns (i ∷ st) t → HasPartsBelow (length ns) n
ended_below ns i st t n e h =
    parts_below ns (stack_parts st) n (subst (Holds ns) (append_assoc (stack_parts st) (item_parts i) (t ∷ []) ∙ ap (λ ps. stack_parts st ++ ps) (sym e)) h.0)

abbrev KeepsAll : Reduced → Type 0
KeepsAll r = Keeps r.nodes r.stack r.operand

reduced_at : (k : ℕ) (ns : List Node) (i : Item) (st : List Item) (t : NodeId) (o : Option Node) → IfSome o (λ n. node_parts n ≡ item_parts i ++ t ∷ [])
    → ((n : Node) → Keeps (ns ++ n ∷ []) st (record { 0 = length ns }) → KeepsAll (reduced k (ns ++ n ∷ []) st (record { 0 = length ns })))
    → Keeps ns (i ∷ st) t
    → KeepsAll (if is_some o then reduced k (ns ++ nodes_of o) st (record { 0 = length ns }) else record { nodes = ns; stack = i ∷ st; operand = t })
reduced_at k ns i st t None e more h = h
reduced_at k ns i st t (Some n) e more h = more n (ended_keeps k ns i st t n e h)

-- operators end
pub reduced_keeps : (k : ℕ) (st : List Item) (ns : List Node) (t : NodeId) → Keeps ns st t → KeepsAll (reduced k ns st t)
reduced_keeps k [] ns t h = h
reduced_keeps k (i ∷ st) ns t h =
    reduced_at k ns i st t (ended k i t) (ended_parts k i t) (λ n g. reduced_keeps k st (ns ++ n ∷ []) (record { 0 = length ns }) g) h

-- After an operand

shifted : (b : Bool) (op : Infix) (at : Place) (c : Context) (t : NodeId) → IsOn c (t ∷ []) → IfSome (if b then None else wait (item.Left at op t) c) IsGoodState
shifted true op at c t g = tt
shifted false op at c t g = waits (item.Left at op t) c (t ∷ []) refl (λ h. absurd (cc)) g

pub shift_good : (op : Infix) (at : Place) (c : Context) (t : NodeId) → IsOn c (t ∷ []) → IfSome (shift op at c t) IsGoodState
shift_good op at c t g = shifted (if is_comparison op then compares c.stack else false) op at c t g

-- the body of a feature is whole
pub bodied : (i : Item) (c : Context) (t : NodeId) → is_body i ≡ true → item_parts i ≡ [] → IsGood (push i c) (mode.Have t) → (c.stack ≡ []) × IsPostorder c.nodes
bodied i c t b e g =
    let empty = g.bottomed.0 b in
    (empty, postorder c.nodes t (subst (Holds c.nodes) ((λ j. (stack_parts (empty j) ++ e j) ++ t ∷ [])) g.trees))

outside_good : (m : Mode) (c : Context) → mode_parts m ≡ [] → c.stack ≡ [] → IsGood (record c { nodes = [] }) m
outside_good m c e empty = record {
  trees = (Last, refl, (λ j. stack_parts (empty j) ++ e j));
  bottomed = subst IsBottomed (sym empty) tt;
  outside = λ h. empty;
}

-- a variable is bound, and the next one is due
bound : (v : Variable) (init : Option NodeId) (c : Context) (ps : List NodeId) → ps ≡ option_parts init → IsOn c ps → IsGood (push (item.Bound v init) c) (mode.VariableName purpose.Let)
bound v init c ps e g = record {
  trees = subst (Holds c.nodes) (ap (λ qs. stack_parts c.stack ++ qs) e ∙ sym (append-nil (stack_parts c.stack ++ option_parts init))) g.trees;
  bottomed = ((λ h. absurd (cc)), g.bottomed);
  outside = λ h. absurd (cc);
}

pub close_on_good : (i : Item) (k : TokenKind) (c : Context) (t : NodeId) → IsGood (push i c) (mode.Have t) → IfSome (close_on i k c t) IsGoodState
close_on_good item.Parenthesis (kind.Sign sign.RParen) c t g = moves (mode.Have t) c (t ∷ []) refl (λ h. absurd (cc)) (topped item.Parenthesis c t g)
close_on_good (item.Arguments call args) (kind.Sign sign.RParen) c t g =
    operates (dispatch call (args ++ t ∷ [])) c (call.receiver ∷ args ++ t ∷ []) (dispatch_parts call (args ++ t ∷ [])) (topped (item.Arguments call args) c t g)
close_on_good (item.Arguments call args) (kind.Sign sign.Comma) c t g =
    waits (item.Arguments call (args ++ t ∷ [])) c (call.receiver ∷ args ++ t ∷ []) refl (λ h. absurd (cc)) (topped (item.Arguments call args) c t g)
close_on_good (item.Init v) (kind.Sign sign.Comma) c t g = bound v (Some t) c (t ∷ []) refl (topped (item.Init v) c t g)
close_on_good (item.Init v) (kind.Key key.In) c t g = waits (item.Bound v (Some t)) c (t ∷ []) refl (λ h. absurd (cc)) (topped (item.Init v) c t g)
close_on_good (item.IfTest at) (kind.Key key.Then) c t g = waits (item.IfYes at t) c (t ∷ []) refl (λ h. absurd (cc)) (topped (item.IfTest at) c t g)
close_on_good (item.IfYes at test) (kind.Key key.Else) c t g = waits (item.IfNo at test t) c (test ∷ t ∷ []) refl (λ h. absurd (cc)) (topped (item.IfYes at test) c t g)
close_on_good (item.IfNo at test met) (kind.Key key.Fi) c t g = operates (node.If at test met t) c (test ∷ met ∷ t ∷ []) refl (topped (item.IfNo at test met) c t g)
close_on_good (item.WhileTest at) (kind.Key key.Loop) c t g = waits (item.WhileBody at t) c (t ∷ []) refl (λ h. absurd (cc)) (topped (item.WhileTest at) c t g)
close_on_good (item.WhileBody at test) (kind.Key key.Pool) c t g = operates (node.While at test t) c (test ∷ t ∷ []) refl (topped (item.WhileBody at test) c t g)
close_on_good (item.CaseValue at) (kind.Key key.Of) c t g =
    moves (mode.VariableName (purpose.Branch (record { at = at; value = t; branches = [] }))) c (t ∷ []) refl (λ h. absurd (cc)) (topped (item.CaseValue at) c t g)
close_on_good (item.BranchBody k v) (kind.Sign sign.Semi) c t g =
    moves (mode.NextBranch (with_branch k v t)) c (case_parts k ++ t ∷ []) (ap (λ ps. k.value ∷ ps) (sym (map-append (λ b. b.body) k.branches (record { at = v.at; name = v.name; declared = v.declared; body = t } ∷ [])))) (λ h. absurd (cc)) (topped (item.BranchBody k v) c t g)
close_on_good (item.Block at items) (kind.Sign sign.Semi) c t g = moves (mode.NextItem at (items ++ t ∷ [])) c (items ++ t ∷ []) refl (λ h. absurd (cc)) (topped (item.Block at items) c t g)
close_on_good (item.AttributeInit class v) (kind.Sign sign.Semi) c t g =
    outside_good (mode.Features (with_feature (initial v c) class)) c refl (bodied (item.AttributeInit class v) c t refl refl g).0
close_on_good (item.MethodBody m result) (kind.Sign sign.RBrace) c t g =
    outside_good (mode.MethodEnd (with_feature (method m result c) m.class)) c refl (bodied (item.MethodBody m result) c t refl refl g).0
close_on_good _ _ c t g = tt

pub close_good : (k : TokenKind) (st : List Item) (c : Context) (t : NodeId) → IsGood (record c { stack = st }) (mode.Have t) → IfSome (close k st c t) IsGoodState
close_good k [] c t g = tt
close_good k (i ∷ st) c t g = close_on_good i k (record c { stack = st }) t g

-- an operand on the stack that is left
pub reduce_good : (k : ℕ) (c : Context) (t : NodeId) → IsGood c (mode.Have t) → IsGood (after c (reduce k c t)) (mode.Have (reduce k c t).operand)
reduce_good k c t g =
    let h = reduced_keeps k c.stack c.nodes t (g.trees, g.bottomed) in
    record { trees = h.0; bottomed = h.1; outside = λ o. absurd (cc) }

operator_good : (o : Option Infix) (c : Context) (t : NodeId) (k : TokenKind) (at : Place) → IsGood c (mode.Have t) → IfSome (operator_or_end o c t k at) IsGoodState
operator_good (Some op) c t k at g =
    let h = reduce_good (left_level op) c t g in
    shift_good op at (after c (reduce (left_level op) c t)) (reduce (left_level op) c t).operand (on (after c (reduce (left_level op) c t)) (mode.Have (reduce (left_level op) c t).operand) h)
operator_good None c t k at g = close_good k (reduce 0 c t).stack (after c (reduce 0 c t)) (reduce 0 c t).operand (reduce_good 0 c t g)

pub have_good : (c : Context) (t : NodeId) (k : TokenKind) (at : Place) → IsGood c (mode.Have t) → IfSome (have c t k at) IsGoodState
have_good c t (kind.Sign sign.Dot) at g = moves (mode.MethodName t None) c (t ∷ []) refl (λ h. absurd (cc)) (on c (mode.Have t) g)
have_good c t (kind.Sign sign.At) at g = moves (mode.StaticClass t) c (t ∷ []) refl (λ h. absurd (cc)) (on c (mode.Have t) g)
have_good c t k at g = operator_good (infix_of k) c t k at g

-- Operands

pub identifier_good : (c : Context) (name : List ℕ) (here : Place) (k : TokenKind) (at : Place) → IsGood c (mode.Identifier name here) → IfSome (identifier c name here k at) IsGoodState
identifier_good c name here (kind.Sign sign.Arrow) at g = waits (item.Assigning here name) c [] refl (λ h. absurd (cc)) (on c (mode.Identifier name here) g)
identifier_good c name here (kind.Sign sign.LParen) at g =
    let h = operates (node.Id here (codes "self")) c [] refl (on c (mode.Identifier name here) g) in
    record { trees = h.trees; bottomed = h.bottomed; outside = λ o. absurd (cc) }
identifier_good c name here k at g =
    have_good (place (node.Id here name) c) (next_id c) k at (operates (node.Id here name) c [] refl (on c (mode.Identifier name here) g))

first_argument_if : (b : Bool) (c : Context) (call : Call) (k : TokenKind) (at : Place) → IsGood c (mode.FirstArgument call)
    → IfSome (if b then operand (dispatch call []) c else need (push (item.Arguments call []) c) k at) IsGoodState
first_argument_if true c call k at g = operates (dispatch call []) c (call.receiver ∷ []) (dispatch_parts call []) (on c (mode.FirstArgument call) g)
first_argument_if false c call k at g =
    need_good (push (item.Arguments call []) c) k at (waits (item.Arguments call []) c (call.receiver ∷ []) refl (λ h. absurd (cc)) (on c (mode.FirstArgument call) g))

first_argument_good : (c : Context) (call : Call) (k : TokenKind) (at : Place) → IsGood c (mode.FirstArgument call) → IfSome (first_argument c call k at) IsGoodState
first_argument_good c call k at g = first_argument_if (is_right_parenthesis k) c call k at g

next_item_if : (b : Bool) (c : Context) (here : Place) (items : List NodeId) (k : TokenKind) (at : Place) → IsGood c (mode.NextItem here items)
    → IfSome (if b then operand (node.Block here items) c else need (push (item.Block here items) c) k at) IsGoodState
next_item_if true c here items k at g = operates (node.Block here items) c items refl (on c (mode.NextItem here items) g)
next_item_if false c here items k at g =
    need_good (push (item.Block here items) c) k at (waits (item.Block here items) c items refl (λ h. absurd (cc)) (on c (mode.NextItem here items) g))

next_item_good : (c : Context) (here : Place) (items : List NodeId) (k : TokenKind) (at : Place) → IsGood c (mode.NextItem here items) → IfSome (next_item c here items k at) IsGoodState
next_item_good c here items k at g = next_item_if (is_right_brace k) c here items k at g

pub next_branch_good : (c : Context) (b : OpenCase) (k : TokenKind) (at : Place) → IsGood c (mode.NextBranch b) → IfSome (next_branch c b k at) IsGoodState
next_branch_good c b (kind.Key key.Esac) at g = operates (node.Case b.at b.value b.branches) c (case_parts b) refl (on c (mode.NextBranch b) g)
next_branch_good c b (kind.ObjectId name) at g = moves (mode.VariableColon (purpose.Branch b) name at) c (case_parts b) refl (λ h. absurd (cc)) (on c (mode.NextBranch b) g)
next_branch_good c b _ at g = tt

-- Names and types

variable_name_good : (c : Context) (p : Purpose) (k : TokenKind) (at : Place) → IsGood c (mode.VariableName p) → IfSome (variable_name c p k at) IsGoodState
variable_name_good c (purpose.Attribute class) (kind.ObjectId name) at g = moves (mode.VariableColon (purpose.Attribute class) name at) c [] refl g.outside (on c (mode.VariableName (purpose.Attribute class)) g)
variable_name_good c (purpose.Formal m) (kind.ObjectId name) at g = moves (mode.VariableColon (purpose.Formal m) name at) c [] refl g.outside (on c (mode.VariableName (purpose.Formal m)) g)
variable_name_good c purpose.Let (kind.ObjectId name) at g = moves (mode.VariableColon purpose.Let name at) c [] refl g.outside (on c (mode.VariableName purpose.Let) g)
variable_name_good c (purpose.Branch b) (kind.ObjectId name) at g = moves (mode.VariableColon (purpose.Branch b) name at) c (case_parts b) refl g.outside (on c (mode.VariableName (purpose.Branch b)) g)
variable_name_good c p _ at g = tt

variable_colon_good : (c : Context) (p : Purpose) (name : List ℕ) (here : Place) → IsGood c (mode.VariableColon p name here) → IsGood c (mode.VariableType p name here)
variable_colon_good c (purpose.Attribute class) name here g = moves (mode.VariableType (purpose.Attribute class) name here) c [] refl g.outside (on c (mode.VariableColon (purpose.Attribute class) name here) g)
variable_colon_good c (purpose.Formal m) name here g = moves (mode.VariableType (purpose.Formal m) name here) c [] refl g.outside (on c (mode.VariableColon (purpose.Formal m) name here) g)
variable_colon_good c purpose.Let name here g = moves (mode.VariableType purpose.Let name here) c [] refl g.outside (on c (mode.VariableColon purpose.Let name here) g)
variable_colon_good c (purpose.Branch b) name here g = moves (mode.VariableType (purpose.Branch b) name here) c (case_parts b) refl g.outside (on c (mode.VariableColon (purpose.Branch b) name here) g)

declared_good : (c : Context) (p : Purpose) (v : Variable) (name : List ℕ) (here : Place) → IsGood c (mode.VariableType p name here) → IfSome (declared c p v) IsGoodState
declared_good c (purpose.Attribute class) v name here g = moves (mode.AttributeEnd class v) c [] refl g.outside (on c (mode.VariableType (purpose.Attribute class) name here) g)
declared_good c (purpose.Formal m) v name here g =
    moves (mode.FormalEnd (record m { formals = m.formals ++ record { name = v.name; at = v.at; declared = v.declared } ∷ [] })) c [] refl g.outside (on c (mode.VariableType (purpose.Formal m) name here) g)
declared_good c purpose.Let v name here g = moves (mode.LetEnd v) c [] refl g.outside (on c (mode.VariableType purpose.Let name here) g)
declared_good c (purpose.Branch b) v name here g = moves (mode.BranchArrow b v) c (case_parts b) refl g.outside (on c (mode.VariableType (purpose.Branch b) name here) g)

variable_type_good : (c : Context) (p : Purpose) (name : List ℕ) (here : Place) (k : TokenKind) (at : Place) → IsGood c (mode.VariableType p name here) → IfSome (variable_type c p name here k at) IsGoodState
variable_type_good c p name here (kind.TypeId spelling) at g = declared_good c p (record { name = name; at = here; declared = record { name = spelling; at = at } }) name here g
variable_type_good c p name here _ at g = tt

let_end_good : (c : Context) (v : Variable) (k : TokenKind) (at : Place) → IsGood c (mode.LetEnd v) → IfSome (let_end c v k at) IsGoodState
let_end_good c v (kind.Sign sign.Arrow) at g = waits (item.Init v) c [] refl (λ h. absurd (cc)) (on c (mode.LetEnd v) g)
let_end_good c v (kind.Sign sign.Comma) at g = bound v None c [] refl (on c (mode.LetEnd v) g)
let_end_good c v (kind.Key key.In) at g = waits (item.Bound v None) c [] refl (λ h. absurd (cc)) (on c (mode.LetEnd v) g)
let_end_good c v _ at g = tt

-- Classes and features

-- between two modes outside of all bodies
passes : (m other : Mode) (c : Context) → is_outside m ≡ true → mode_parts m ≡ [] → mode_parts other ≡ [] → IsGood c m → IsGood c other
passes m other c o e f g = moves other c (mode_parts m) (e ∙ sym f) (λ h. g.outside o) (on c m g)

class_head_good : (c : Context) (name : List ℕ) (here : Place) (k : TokenKind) (at : Place) → IsGood c (mode.ClassHead name here) → IfSome (class_head c name here k at) IsGoodState
class_head_good c name here (kind.Key key.Inherits) at g = passes (mode.ClassHead name here) (mode.ParentName name here) c refl refl refl g
class_head_good c name here (kind.Sign sign.LBrace) at g =
    passes (mode.ClassHead name here) (mode.Features (record { name = name; at = here; parent = None; features = [] })) c refl refl refl g
class_head_good c name here _ at g = tt

parent_name_good : (c : Context) (name : List ℕ) (here : Place) (k : TokenKind) (at : Place) → IsGood c (mode.ParentName name here) → IfSome (parent_name c name here k at) IsGoodState
parent_name_good c name here (kind.TypeId parent) at g = passes (mode.ParentName name here) (mode.ClassBrace name here (record { name = parent; at = at })) c refl refl refl g
parent_name_good c name here _ at g = tt

features_good : (c : Context) (class : OpenClass) (k : TokenKind) (at : Place) → IsGood c (mode.Features class) → IfSome (features c class k at) IsGoodState
features_good c class (kind.ObjectId name) at g = passes (mode.Features class) (mode.FeatureName class name at) c refl refl refl g
features_good c class (kind.Sign sign.RBrace) at g = passes (mode.Features class) (mode.ClassEnd class) c refl refl refl g
features_good c class _ at g = tt

feature_name_good : (c : Context) (class : OpenClass) (name : List ℕ) (here : Place) (k : TokenKind) (at : Place) → IsGood c (mode.FeatureName class name here) → IfSome (feature_name c class name here k at) IsGoodState
feature_name_good c class name here (kind.Sign sign.LParen) at g =
    passes (mode.FeatureName class name here) (mode.FirstFormal (record { class = class; name = name; at = here; formals = [] })) c refl refl refl g
feature_name_good c class name here (kind.Sign sign.Colon) at g =
    passes (mode.FeatureName class name here) (mode.VariableType (purpose.Attribute class) name here) c refl refl refl g
feature_name_good c class name here _ at g = tt

first_formal_good : (c : Context) (m : OpenMethod) (k : TokenKind) (at : Place) → IsGood c (mode.FirstFormal m) → IfSome (first_formal c m k at) IsGoodState
first_formal_good c m (kind.Sign sign.RParen) at g = passes (mode.FirstFormal m) (mode.ResultColon m) c refl refl refl g
first_formal_good c m k at g = variable_name_good c (purpose.Formal m) k at (passes (mode.FirstFormal m) (mode.VariableName (purpose.Formal m)) c refl refl refl g)

formal_end_good : (c : Context) (m : OpenMethod) (k : TokenKind) (at : Place) → IsGood c (mode.FormalEnd m) → IfSome (formal_end c m k at) IsGoodState
formal_end_good c m (kind.Sign sign.RParen) at g = passes (mode.FormalEnd m) (mode.ResultColon m) c refl refl refl g
formal_end_good c m (kind.Sign sign.Comma) at g = passes (mode.FormalEnd m) (mode.VariableName (purpose.Formal m)) c refl refl refl g
formal_end_good c m _ at g = tt

result_type_good : (c : Context) (m : OpenMethod) (k : TokenKind) (at : Place) → IsGood c (mode.ResultType m) → IfSome (result_type c m k at) IsGoodState
result_type_good c m (kind.TypeId name) at g = passes (mode.ResultType m) (mode.MethodBrace m (record { name = name; at = at })) c refl refl refl g
result_type_good c m _ at g = tt

attribute_end_good : (c : Context) (class : OpenClass) (v : Variable) (k : TokenKind) (at : Place) → IsGood c (mode.AttributeEnd class v) → IfSome (attribute_end c class v k at) IsGoodState
attribute_end_good c class v (kind.Sign sign.Arrow) at g = waits (item.AttributeInit class v) c [] refl (λ h. g.outside refl) (on c (mode.AttributeEnd class v) g)
attribute_end_good c class v (kind.Sign sign.Semi) at g =
    passes (mode.AttributeEnd class v) (mode.Features (with_feature (feature.Attribute (record { name = v.name; at = v.at; declared = v.declared; init = None })) class)) c refl refl refl g
attribute_end_good c class v _ at g = tt

static_class_good : (c : Context) (t : NodeId) (k : TokenKind) (at : Place) → IsGood c (mode.StaticClass t) → IfSome (static_class c t k at) IsGoodState
static_class_good c t (kind.TypeId name) at g = moves (mode.StaticDot t (record { name = name; at = at })) c (t ∷ []) refl (λ h. absurd (cc)) (on c (mode.StaticClass t) g)
static_class_good c t _ at g = tt

method_name_good : (c : Context) (t : NodeId) (class : Option TypeRef) (k : TokenKind) (at : Place) → IsGood c (mode.MethodName t class) → IfSome (method_name c t class k at) IsGoodState
method_name_good c t class (kind.ObjectId name) at g =
    moves (mode.CallParenthesis (record { at = at; receiver = t; class = class; name = name })) c (t ∷ []) refl (λ h. absurd (cc)) (on c (mode.MethodName t class) g)
method_name_good c t class _ at g = tt

new_type_good : (c : Context) (here : Place) (k : TokenKind) (at : Place) → IsGood c (mode.NewType here) → IfSome (new_type c here k at) IsGoodState
new_type_good c here (kind.TypeId name) at g = operates (node.New here (record { name = name; at = at })) c [] refl (on c (mode.NewType here) g)
new_type_good c here _ at g = tt

class_end_good : (c : Context) (class : OpenClass) → IsGood c (mode.ClassEnd class) → IfSome (class_end c class) IsGoodState
class_end_good c class g =
    let h = passes (mode.ClassEnd class) mode.File c refl refl refl g in
    record { trees = h.trees; bottomed = h.bottomed; outside = h.outside }

-- Steps

pub step_good : (c : Context) (m : Mode) (k : TokenKind) (at : Place) → IsGood c m → IfSome (step c m k at) IsGoodState
step_good c mode.File (kind.Key key.Class) at g = passes mode.File mode.ClassName c refl refl refl g
step_good c mode.ClassName (kind.TypeId name) at g = passes mode.ClassName (mode.ClassHead name at) c refl refl refl g
step_good c (mode.ClassHead name here) k at g = class_head_good c name here k at g
step_good c (mode.ParentName name here) k at g = parent_name_good c name here k at g
step_good c (mode.ClassBrace name here parent) (kind.Sign sign.LBrace) at g =
    passes (mode.ClassBrace name here parent) (mode.Features (record { name = name; at = here; parent = Some parent; features = [] })) c refl refl refl g
step_good c (mode.Features class) k at g = features_good c class k at g
step_good c (mode.ClassEnd class) (kind.Sign sign.Semi) at g = class_end_good c class g
step_good c (mode.FeatureName class name here) k at g = feature_name_good c class name here k at g
step_good c (mode.FirstFormal m) k at g = first_formal_good c m k at g
step_good c (mode.FormalEnd m) k at g = formal_end_good c m k at g
step_good c (mode.ResultColon m) (kind.Sign sign.Colon) at g = passes (mode.ResultColon m) (mode.ResultType m) c refl refl refl g
step_good c (mode.ResultType m) k at g = result_type_good c m k at g
step_good c (mode.MethodBrace m result) (kind.Sign sign.LBrace) at g = waits (item.MethodBody m result) c [] refl (λ h. g.outside refl) (on c (mode.MethodBrace m result) g)
step_good c (mode.MethodEnd class) (kind.Sign sign.Semi) at g = passes (mode.MethodEnd class) (mode.Features class) c refl refl refl g
step_good c (mode.AttributeEnd class v) k at g = attribute_end_good c class v k at g
step_good c (mode.VariableName p) k at g = variable_name_good c p k at g
step_good c (mode.VariableColon p name here) (kind.Sign sign.Colon) at g = variable_colon_good c p name here g
step_good c (mode.VariableType p name here) k at g = variable_type_good c p name here k at g
step_good c (mode.LetEnd v) k at g = let_end_good c v k at g
step_good c (mode.BranchArrow b v) (kind.Sign sign.FatArrow) at g = waits (item.BranchBody b v) c (case_parts b) refl (λ h. absurd (cc)) (on c (mode.BranchArrow b v) g)
step_good c (mode.NextBranch b) k at g = next_branch_good c b k at g
step_good c (mode.NextItem here items) k at g = next_item_good c here items k at g
step_good c (mode.FirstArgument call) k at g = first_argument_good c call k at g
step_good c mode.Need k at g = need_good c k at g
step_good c (mode.Identifier name here) k at g = identifier_good c name here k at g
step_good c (mode.Have t) k at g = have_good c t k at g
step_good c (mode.StaticClass t) k at g = static_class_good c t k at g
step_good c (mode.StaticDot t class) (kind.Sign sign.Dot) at g = moves (mode.MethodName t (Some class)) c (t ∷ []) refl (λ h. absurd (cc)) (on c (mode.StaticDot t class) g)
step_good c (mode.MethodName t class) k at g = method_name_good c t class k at g
step_good c (mode.CallParenthesis call) (kind.Sign sign.LParen) at g = moves (mode.FirstArgument call) c (call.receiver ∷ []) refl (λ h. absurd (cc)) (on c (mode.CallParenthesis call) g)
step_good c (mode.NewType here) k at g = new_type_good c here k at g
step_good c _ _ at g = tt

-- nothing has been read
pub start_good : IsGood start.context start.mode
start_good = record { trees = (Last, refl, refl); bottomed = tt; outside = λ h. refl }
