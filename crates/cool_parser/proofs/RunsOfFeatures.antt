-- The size of the unfinished feature is at most the number of tokens of the current run (the tokens since the feature began). A token adds at most one to it,
-- and a token that ends a run leaves a state between features.
use Rattle.std.proofs.Common.{◌≡◌, ℕ, ◌+◌, ◌≤◌, ◌==◌, nat_le, Bool, true, false, if◌then◌else◌, List, [], ◌∷◌, ◌++◌, length, codes, Option, Some, None, IfSome, refl, sym, ◌∙◌, ap, length-append, arith}
use Rattle.std.specs.Option.{is_some}
use Rattle.std.proofs.lemmas.Bool.{eqb-true}
use Rattle.cool_syntax.specs.declared.place.Place.{Place}
use Rattle.cool_syntax.specs.declared.type_ref.TypeRef.{TypeRef}
use Rattle.cool_syntax.specs.declared.token.TokenKind.{TokenKind}
use Rattle.cool_syntax.specs.declared.token.TokenKind.TheVariants as kind
use Rattle.cool_syntax.specs.declared.token.Key.TheVariants as key
use Rattle.cool_syntax.specs.declared.token.Sign.TheVariants as sign
use Rattle.cool_syntax.specs.declared.node.NodeId.{NodeId}
use Rattle.cool_syntax.specs.declared.node.NodeBranch.{NodeBranch}
use Rattle.cool_syntax.specs.declared.node.Node.{Node}
use Rattle.cool_syntax.specs.declared.node.Node.TheVariants as node
use Rattle.cool_syntax.specs.LexicalStructure.{depth_after, ends_run}
use Rattle.cool_parser.specs.declared.operator.Infix.{Infix}
use Rattle.cool_parser.specs.declared.operator.Infix.TheVariants as between
use Rattle.cool_parser.specs.declared.operator.Prefix.{Prefix}
use Rattle.cool_parser.specs.declared.operator.Prefix.TheVariants as front
use Rattle.cool_parser.specs.declared.item.Item.{Item}
use Rattle.cool_parser.specs.declared.item.Item.TheVariants as item
use Rattle.cool_parser.specs.declared.item.Call.{Call}
use Rattle.cool_parser.specs.declared.item.Variable.{Variable}
use Rattle.cool_parser.specs.declared.item.OpenCase.{OpenCase}
use Rattle.cool_parser.specs.declared.item.OpenClass.{OpenClass}
use Rattle.cool_parser.specs.declared.item.OpenMethod.{OpenMethod}
use Rattle.cool_parser.specs.declared.mode.Purpose.{Purpose}
use Rattle.cool_parser.specs.declared.mode.Purpose.TheVariants as purpose
use Rattle.cool_parser.specs.declared.mode.Mode.{Mode}
use Rattle.cool_parser.specs.declared.mode.Mode.TheVariants as mode
use Rattle.cool_parser.specs.Levels.{infix_of, infix_level, left_level, prefix_level}
use Rattle.cool_parser.specs.ParsingMachine.{Context, State, Reduced, push, place, next_id, operand, wait, ended, nodes_of, node_if, binary, before, reduced, reduce, after, shift, dispatch, dispatch_to, close_on, close, operator_or_end, have, need, identifier, first_argument, next_item, next_branch, compares, is_comparison, variable_name, declared, variable_type, let_end, class_head, parent_name, features, feature_name, first_formal, formal_end, result_type, attribute_end, static_class, method_name, new_type, step}
use Rattle.cool_parser.proofs.WeightsOfNodes.{node_weight, weight, weight-placed}

-- Debts of a state

-- the case that is open is a node, and has these branches
abbrev pub case_owes : OpenCase → ℕ
case_owes k = 1 + length k.branches

-- the nodes that an item will make, and the formals and branches that it holds
abbrev pub item_owes : Item → ℕ
item_owes (item.Left at op l) = 1
item_owes (item.Front at op) = 1
item_owes (item.Assigning at name) = 1
item_owes (item.Bound v init) = 1
item_owes item.Parenthesis = 0
item_owes (item.Arguments call args) = 1
item_owes (item.IfTest at) = 1
item_owes (item.IfYes at test) = 1
item_owes (item.IfNo at test met) = 1
item_owes (item.WhileTest at) = 1
item_owes (item.WhileBody at test) = 1
item_owes (item.Block at items) = 1
item_owes (item.Init v) = 1
item_owes (item.CaseValue at) = 1
item_owes (item.BranchBody k v) = case_owes k
item_owes (item.MethodBody m result) = length m.formals
item_owes (item.AttributeInit class v) = 0

abbrev pub stack_owes : List Item → ℕ
stack_owes [] = 0
stack_owes (i ∷ st) = item_owes i + stack_owes st

abbrev pub purpose_owes : Purpose → ℕ
purpose_owes (purpose.Attribute class) = 0
purpose_owes (purpose.Formal m) = length m.formals
purpose_owes purpose.Let = 1
purpose_owes (purpose.Branch k) = case_owes k

abbrev pub mode_owes : Mode → ℕ
mode_owes (mode.FirstFormal m) = length m.formals
mode_owes (mode.FormalEnd m) = length m.formals
mode_owes (mode.ResultColon m) = length m.formals
mode_owes (mode.ResultType m) = length m.formals
mode_owes (mode.MethodBrace m result) = length m.formals
mode_owes (mode.VariableName p) = purpose_owes p
mode_owes (mode.VariableColon p name at) = purpose_owes p
mode_owes (mode.VariableType p name at) = purpose_owes p
mode_owes (mode.LetEnd v) = 1
mode_owes (mode.BranchArrow k v) = case_owes k
mode_owes (mode.NextBranch k) = case_owes k
mode_owes (mode.NextItem at items) = 1
mode_owes (mode.FirstArgument call) = 1
mode_owes (mode.Identifier name at) = 1
mode_owes (mode.StaticClass t) = 1
mode_owes (mode.StaticDot t class) = 1
mode_owes (mode.MethodName t class) = 1
mode_owes (mode.CallParenthesis call) = 1
mode_owes (mode.NewType at) = 1
mode_owes _ = 0

-- the size of the feature so far, with its debts
abbrev pub total : Context → Mode → ℕ
total c m = weight c.nodes + stack_owes c.stack + mode_owes m

-- The depth of a state

abbrev pub item_depth : Item → ℕ
item_depth (item.Block at items) = 1
item_depth (item.CaseValue at) = 1
item_depth (item.BranchBody k v) = 1
item_depth (item.MethodBody m result) = 1
item_depth _ = 0

abbrev pub stack_depth : List Item → ℕ
stack_depth [] = 0
stack_depth (i ∷ st) = item_depth i + stack_depth st

abbrev purpose_depth : Purpose → ℕ
purpose_depth (purpose.Branch k) = 2
purpose_depth _ = 1

abbrev pub mode_depth : Mode → ℕ
mode_depth mode.File = 0
mode_depth mode.ClassName = 0
mode_depth (mode.ClassHead name at) = 0
mode_depth (mode.ParentName name at) = 0
mode_depth (mode.ClassBrace name at parent) = 0
mode_depth (mode.ClassEnd class) = 0
mode_depth (mode.VariableName p) = purpose_depth p
mode_depth (mode.VariableColon p name at) = purpose_depth p
mode_depth (mode.VariableType p name at) = purpose_depth p
mode_depth (mode.BranchArrow k v) = 2
mode_depth (mode.NextBranch k) = 2
mode_depth (mode.NextItem at items) = 2
mode_depth _ = 1

-- the class that is open, and each block and case of the feature
abbrev pub depth : Context → Mode → ℕ
depth c m = mode_depth m + stack_depth c.stack

-- between classes, or between features
abbrev pub is_between : Mode → Bool
is_between mode.File = true
is_between (mode.Features class) = true
is_between _ = false

-- the state after this token, with this depth and this total
pub record Fits (k : TokenKind) (d n : ℕ) (s : State) : Type 0 where
  pub depth : depth s.context s.mode ≡ depth_after k d
  pub total : total s.context s.mode ≤ n + 1
  pub between : ends_run k d ≡ true → is_between s.mode ≡ true

-- a token that opens and closes nothing, and ends nothing
abbrev is_plain : TokenKind → Bool
is_plain (kind.Sign sign.LBrace) = false
is_plain (kind.Sign sign.RBrace) = false
is_plain (kind.Sign sign.Semi) = false
is_plain (kind.Key key.Case) = false
is_plain (kind.Key key.Esac) = false
is_plain _ = true

plain_depth : (k : TokenKind) (d : ℕ) → is_plain k ≡ true → depth_after k d ≡ d
plain_depth (kind.Sign sign.LBrace) d p = absurd (cc)
plain_depth (kind.Sign sign.RBrace) d p = absurd (cc)
plain_depth (kind.Key key.Case) d p = absurd (cc)
plain_depth (kind.Key key.Esac) d p = absurd (cc)
plain_depth _ d p = refl

plain_ends : (k : TokenKind) (d : ℕ) → is_plain k ≡ true → ends_run k d ≡ false
plain_ends (kind.Sign sign.LBrace) d p = absurd (cc)
plain_ends (kind.Sign sign.Semi) d p = absurd (cc)
plain_ends _ d p = refl

plain : {k : TokenKind} {d n : ℕ} {s : State} → is_plain k ≡ true → depth s.context s.mode ≡ d → total s.context s.mode ≤ n + 1 → Fits k d n s
plain {k} {d} {n} {s} p e l = record { depth = e ∙ sym (plain_depth k d p); total = l; between = λ h. absurd (differ (ends_run k d) h (plain_ends k d p)) }
  where
    differ : (b : Bool) → b ≡ true → b ≡ false → ⊥
    differ b h g = cc

-- a feature stands at depth 1, and what is inside of it deeper
not_zero : {A : Type 0} (d : ℕ) → 1 ≤ d → (d == 0) ≡ true → A
not_zero d l h = absurd (omega (arith, l, eqb-true d 0 h))

not_one : {A : Type 0} (d : ℕ) → 2 ≤ d → (d == 1) ≡ true → A
not_one d l h = absurd (omega (arith, l, eqb-true d 1 h))

-- the same after another wording of the depth, and a higher total
within : (o : Option State) (k : TokenKind) (d e n m : ℕ) → d ≡ e → n ≤ m → IfSome o (Fits k d n) → IfSome o (Fits k e m)
within None k d e n m p l h = tt
within (Some s) k d e n m p l h = record { depth = h.depth ∙ ap (depth_after k) p; total = omega (arith, h.total, l); between = λ b. h.between (ap (ends_run k) p ∙ b) }

-- Operators that end

-- an operator's item is one node
abbrev IsOne : Item → Node → Type 0
IsOne i n = (node_weight n ≡ item_owes i) × (item_depth i ≡ 0)

if_one : (b : Bool) (i : Item) (n : Node) → IsOne i n → IfSome (node_if b n) (IsOne i)
if_one true i n h = h
if_one false i n h = tt

binary_weight : (op : Infix) (at : Place) (l t : NodeId) → node_weight (binary op at l t) ≡ 1
binary_weight (between.Arith op) at l t = refl
binary_weight (between.Compare op) at l t = refl

before_weight : (op : Prefix) (at : Place) (t : NodeId) → node_weight (before op at t) ≡ 1
before_weight front.Not at t = refl
before_weight front.IsVoid at t = refl
before_weight front.Neg at t = refl

ended_one : (k : ℕ) (i : Item) (t : NodeId) → IfSome (ended k i t) (IsOne i)
ended_one k (item.Left at op l) t = if_one (nat_le k (infix_level op)) (item.Left at op l) (binary op at l t) (binary_weight op at l t, refl)
ended_one k (item.Front at op) t = if_one (nat_le k (prefix_level op)) (item.Front at op) (before op at t) (before_weight op at t, refl)
ended_one k (item.Assigning at name) t = if_one (nat_le k 1) (item.Assigning at name) (node.Assign at name t) (refl, refl)
ended_one k (item.Bound v init) t = if_one (nat_le k 0) (item.Bound v init) (node.Let v.at v.name v.declared init t) (refl, refl)
ended_one k _ t = tt

-- operators that end change neither the depth nor the total
abbrev pub IsSame : List Node → List Item → Reduced → Type 0
IsSame ns st r = (weight r.nodes + stack_owes r.stack ≡ weight ns + stack_owes st) × (stack_depth r.stack ≡ stack_depth st)

ended_same : (ns : List Node) (i : Item) (st : List Item) (n : Node) (r : Reduced) → IsOne i n → IsSame (ns ++ n ∷ []) st r → IsSame ns (i ∷ st) r
ended_same ns i st n r h g = (omega (arith, h.0, g.0, weight-placed ns n), omega (arith, h.1, g.1))

reduced_at : (k : ℕ) (ns : List Node) (i : Item) (st : List Item) (t : NodeId) (o : Option Node) → IfSome o (IsOne i)
    → ((n : Node) → IsSame (ns ++ n ∷ []) st (reduced k (ns ++ n ∷ []) st (record { 0 = length ns })))
    → IsSame ns (i ∷ st) (if is_some o then reduced k (ns ++ nodes_of o) st (record { 0 = length ns }) else record { nodes = ns; stack = i ∷ st; operand = t })
reduced_at k ns i st t None h more = (refl, refl)
reduced_at k ns i st t (Some n) h more = ended_same ns i st n (reduced k (ns ++ n ∷ []) st (record { 0 = length ns })) h (more n)

pub reduced_same : (k : ℕ) (st : List Item) (ns : List Node) (t : NodeId) → IsSame ns st (reduced k ns st t)
reduced_same k [] ns t = (refl, refl)
reduced_same k (i ∷ st) ns t = reduced_at k ns i st t (ended k i t) (ended_one k i t) (λ n. reduced_same k st (ns ++ n ∷ []) (record { 0 = length ns }))

-- After an operand

dispatch_to_weight : (o : Option TypeRef) (call : Call) (args : List NodeId) → node_weight (dispatch_to o call args) ≡ 1
dispatch_to_weight None call args = refl
dispatch_to_weight (Some class) call args = refl

dispatch_weight : (call : Call) (args : List NodeId) → node_weight (dispatch call args) ≡ 1
dispatch_weight call args = dispatch_to_weight call.class call args

-- a call whose dispatch is owed gets it
dispatches : (call : Call) (args : List NodeId) (k : TokenKind) (c : Context) (n : ℕ) → is_plain k ≡ true → weight c.nodes + stack_owes c.stack ≤ n
    → IfSome (operand (dispatch call args) c) (Fits k (1 + stack_depth c.stack) n)
dispatches call args k c n p l = plain p refl (omega (arith, l, weight-placed c.nodes (dispatch call args), dispatch_weight call args))

close_on_fits : (i : Item) (k : TokenKind) (c : Context) (t : NodeId) → IfSome (close_on i k c t) (Fits k (depth (push i c) (mode.Have t)) (total (push i c) (mode.Have t)))
close_on_fits item.Parenthesis (kind.Sign sign.RParen) c t = plain refl (omega arith) (omega arith)
close_on_fits (item.Arguments call args) (kind.Sign sign.RParen) c t =
    within (operand (dispatch call (args ++ t ∷ [])) c) (kind.Sign sign.RParen) (1 + stack_depth c.stack) _ (weight c.nodes + stack_owes c.stack) _ (omega arith) (omega arith)
    (dispatches call (args ++ t ∷ []) (kind.Sign sign.RParen) c (weight c.nodes + stack_owes c.stack) refl (omega arith))
close_on_fits (item.Arguments call args) (kind.Sign sign.Comma) c t = plain refl (omega arith) (omega arith)
close_on_fits (item.Init v) (kind.Sign sign.Comma) c t = plain refl (omega arith) (omega arith)
close_on_fits (item.Init v) (kind.Key key.In) c t = plain refl (omega arith) (omega arith)
close_on_fits (item.IfTest at) (kind.Key key.Then) c t = plain refl (omega arith) (omega arith)
close_on_fits (item.IfYes at test) (kind.Key key.Else) c t = plain refl (omega arith) (omega arith)
close_on_fits (item.IfNo at test met) (kind.Key key.Fi) c t = plain refl (omega arith) (omega (arith, weight-placed c.nodes (node.If at test met t)))
close_on_fits (item.WhileTest at) (kind.Key key.Loop) c t = plain refl (omega arith) (omega arith)
close_on_fits (item.WhileBody at test) (kind.Key key.Pool) c t = plain refl (omega arith) (omega (arith, weight-placed c.nodes (node.While at test t)))
close_on_fits (item.CaseValue at) (kind.Key key.Of) c t = plain refl (omega arith) (omega arith)
close_on_fits (item.BranchBody k v) (kind.Sign sign.Semi) c t =
    let b : NodeBranch = record { at = v.at; name = v.name; declared = v.declared; body = t } in
    record { depth = omega arith; total = omega (arith, length-append k.branches (b ∷ [])); between = not_one (depth (push (item.BranchBody k v) c) (mode.Have t)) (omega arith) }
close_on_fits (item.Block at items) (kind.Sign sign.Semi) c t =
    record { depth = omega arith; total = omega arith; between = not_one (depth (push (item.Block at items) c) (mode.Have t)) (omega arith) }
close_on_fits (item.AttributeInit class v) (kind.Sign sign.Semi) c t = record { depth = omega arith; total = omega arith; between = λ h. refl }
close_on_fits (item.MethodBody m result) (kind.Sign sign.RBrace) c t = record { depth = omega arith; total = omega arith; between = λ h. absurd (cc) }
close_on_fits _ _ c t = tt

close_fits : (k : TokenKind) (st : List Item) (c : Context) (t : NodeId) → IfSome (close k st c t) (Fits k (1 + stack_depth st) (weight c.nodes + stack_owes st))
close_fits k [] c t = tt
close_fits k (i ∷ st) c t =
    within (close_on i k (record c { stack = st }) t) k (depth (push i (record c { stack = st })) (mode.Have t)) _ (total (push i (record c { stack = st })) (mode.Have t)) _ (omega arith) (omega arith) (close_on_fits i k (record c { stack = st }) t)

shifted : (b : Bool) (op : Infix) (at : Place) (k : TokenKind) (c : Context) (t : NodeId) → is_plain k ≡ true
    → IfSome (if b then None else wait (item.Left at op t) c) (Fits k (1 + stack_depth c.stack) (weight c.nodes + stack_owes c.stack))
shifted true op at k c t p = tt
shifted false op at k c t p = plain p (omega arith) (omega arith)

plain_infix : (k : TokenKind) → IfSome (infix_of k) (λ op. is_plain k ≡ true)
plain_infix (kind.Sign sign.Plus) = refl
plain_infix (kind.Sign sign.Minus) = refl
plain_infix (kind.Sign sign.Star) = refl
plain_infix (kind.Sign sign.Slash) = refl
plain_infix (kind.Sign sign.Less) = refl
plain_infix (kind.Sign sign.LessEqual) = refl
plain_infix (kind.Sign sign.Equal) = refl
plain_infix _ = tt

operator_fits : (o : Option Infix) (c : Context) (t : NodeId) (k : TokenKind) (at : Place) → IfSome o (λ op. is_plain k ≡ true)
    → IfSome (operator_or_end o c t k at) (Fits k (1 + stack_depth c.stack) (weight c.nodes + stack_owes c.stack))
operator_fits (Some op) c t k at p =
    let r = reduce (left_level op) c t in
    let h = reduced_same (left_level op) c.stack c.nodes t in
    within (shift op at (after c r) r.operand) k (1 + stack_depth r.stack) _ (weight r.nodes + stack_owes r.stack) _ (omega (arith, h.1)) (omega (arith, h.0))
    (shifted (if is_comparison op then compares r.stack else false) op at k (after c r) r.operand p)
operator_fits None c t k at p =
    let r = reduce 0 c t in
    let h = reduced_same 0 c.stack c.nodes t in
    within (close k r.stack (after c r) r.operand) k (1 + stack_depth r.stack) _ (weight r.nodes + stack_owes r.stack) _ (omega (arith, h.1)) (omega (arith, h.0)) (close_fits k r.stack (after c r) r.operand)

have_fits : (c : Context) (t : NodeId) (k : TokenKind) (at : Place) → IfSome (have c t k at) (Fits k (1 + stack_depth c.stack) (weight c.nodes + stack_owes c.stack))
have_fits c t (kind.Sign sign.Dot) at = plain refl (omega arith) (omega arith)
have_fits c t (kind.Sign sign.At) at = plain refl (omega arith) (omega arith)
have_fits c t k at = operator_fits (infix_of k) c t k at (plain_infix k)

-- Operands

need_fits : (c : Context) (k : TokenKind) (at : Place) → IfSome (need c k at) (Fits k (1 + stack_depth c.stack) (weight c.nodes + stack_owes c.stack))
need_fits c (kind.ObjectId name) at = plain refl (omega arith) (omega arith)
need_fits c (kind.Int value) at = plain refl (omega arith) (omega (arith, weight-placed c.nodes (node.Int at value)))
need_fits c (kind.Str bytes) at = plain refl (omega arith) (omega (arith, weight-placed c.nodes (node.Str at bytes)))
need_fits c (kind.Key key.True) at = plain refl (omega arith) (omega (arith, weight-placed c.nodes (node.Bool at true)))
need_fits c (kind.Key key.False) at = plain refl (omega arith) (omega (arith, weight-placed c.nodes (node.Bool at false)))
need_fits c (kind.Key key.If) at = plain refl (omega arith) (omega arith)
need_fits c (kind.Key key.While) at = plain refl (omega arith) (omega arith)
need_fits c (kind.Key key.Case) at = record { depth = omega arith; total = omega arith; between = λ h. absurd (cc) }
need_fits c (kind.Key key.Let) at = plain refl (omega arith) (omega arith)
need_fits c (kind.Key key.New) at = plain refl (omega arith) (omega arith)
need_fits c (kind.Key key.Not) at = plain refl (omega arith) (omega arith)
need_fits c (kind.Key key.IsVoid) at = plain refl (omega arith) (omega arith)
need_fits c (kind.Sign sign.Tilde) at = plain refl (omega arith) (omega arith)
need_fits c (kind.Sign sign.LParen) at = plain refl (omega arith) (omega arith)
need_fits c (kind.Sign sign.LBrace) at = record { depth = omega arith; total = omega arith; between = not_zero (1 + stack_depth c.stack) (omega arith) }
need_fits c _ at = tt

identifier_fits : (c : Context) (name : List ℕ) (here : Place) (k : TokenKind) (at : Place)
    → IfSome (identifier c name here k at) (Fits k (depth c (mode.Identifier name here)) (total c (mode.Identifier name here)))
identifier_fits c name here (kind.Sign sign.Arrow) at = plain refl (omega arith) (omega arith)
identifier_fits c name here (kind.Sign sign.LParen) at = plain refl (omega arith) (omega (arith, weight-placed c.nodes (node.Id here (codes "self"))))
identifier_fits c name here k at =
    within (have (place (node.Id here name) c) (next_id c) k at) k (1 + stack_depth c.stack) _ (weight (place (node.Id here name) c).nodes + stack_owes c.stack) _ (omega arith) (omega (arith, weight-placed c.nodes (node.Id here name)))
    (have_fits (place (node.Id here name) c) (next_id c) k at)

first_argument_fits : (c : Context) (call : Call) (k : TokenKind) (at : Place)
    → IfSome (first_argument c call k at) (Fits k (depth c (mode.FirstArgument call)) (total c (mode.FirstArgument call)))
first_argument_fits c call (kind.Sign sign.RParen) at =
    within (operand (dispatch call []) c) (kind.Sign sign.RParen) (1 + stack_depth c.stack) _ (weight c.nodes + stack_owes c.stack) _ (omega arith) (omega arith)
    (dispatches call [] (kind.Sign sign.RParen) c (weight c.nodes + stack_owes c.stack) refl (omega arith))
first_argument_fits c call k at =
    within (need (push (item.Arguments call []) c) k at) k (1 + stack_depth (push (item.Arguments call []) c).stack) (depth c (mode.FirstArgument call)) (weight c.nodes + stack_owes (push (item.Arguments call []) c).stack) (total c (mode.FirstArgument call)) (omega arith) (omega arith)
    (need_fits (push (item.Arguments call []) c) k at)

next_item_fits : (c : Context) (here : Place) (items : List NodeId) (k : TokenKind) (at : Place)
    → IfSome (next_item c here items k at) (Fits k (depth c (mode.NextItem here items)) (total c (mode.NextItem here items)))
next_item_fits c here items (kind.Sign sign.RBrace) at = record { depth = omega arith; total = omega (arith, weight-placed c.nodes (node.Block here items)); between = λ h. absurd (cc) }
next_item_fits c here items k at =
    within (need (push (item.Block here items) c) k at) k (1 + stack_depth (push (item.Block here items) c).stack) (depth c (mode.NextItem here items)) (weight c.nodes + stack_owes (push (item.Block here items) c).stack) (total c (mode.NextItem here items)) (omega arith) (omega arith)
    (need_fits (push (item.Block here items) c) k at)

next_branch_fits : (c : Context) (b : OpenCase) (k : TokenKind) (at : Place)
    → IfSome (next_branch c b k at) (Fits k (depth c (mode.NextBranch b)) (total c (mode.NextBranch b)))
next_branch_fits c b (kind.Key key.Esac) at = record { depth = omega arith; total = omega (arith, weight-placed c.nodes (node.Case b.at b.value b.branches)); between = λ h. absurd (cc) }
next_branch_fits c b (kind.ObjectId name) at = plain refl (omega arith) (omega arith)
next_branch_fits c b _ at = tt

-- Names and types

method_name_fits : (c : Context) (t : NodeId) (class : Option TypeRef) (k : TokenKind) (at : Place)
    → IfSome (method_name c t class k at) (Fits k (depth c (mode.MethodName t class)) (total c (mode.MethodName t class)))
method_name_fits c t class (kind.ObjectId name) at = plain refl (omega arith) (omega arith)
method_name_fits c t class _ at = tt

static_class_fits : (c : Context) (t : NodeId) (k : TokenKind) (at : Place) → IfSome (static_class c t k at) (Fits k (depth c (mode.StaticClass t)) (total c (mode.StaticClass t)))
static_class_fits c t (kind.TypeId name) at = plain refl (omega arith) (omega arith)
static_class_fits c t _ at = tt

new_type_fits : (c : Context) (here : Place) (k : TokenKind) (at : Place) → IfSome (new_type c here k at) (Fits k (depth c (mode.NewType here)) (total c (mode.NewType here)))
new_type_fits c here (kind.TypeId name) at = plain refl (omega arith) (omega (arith, weight-placed c.nodes (node.New here (record { name = name; at = at }))))
new_type_fits c here _ at = tt

variable_name_fits : (c : Context) (p : Purpose) (k : TokenKind) (at : Place) → IfSome (variable_name c p k at) (Fits k (depth c (mode.VariableName p)) (total c (mode.VariableName p)))
variable_name_fits c p (kind.ObjectId name) at = plain refl refl (omega arith)
variable_name_fits c p _ at = tt

declared_fits : (c : Context) (p : Purpose) (v : Variable) (name : List ℕ) (here : Place) (k : TokenKind) → is_plain k ≡ true
    → IfSome (declared c p v) (Fits k (depth c (mode.VariableType p name here)) (total c (mode.VariableType p name here)))
declared_fits c (purpose.Attribute class) v name here k p = plain p (omega arith) (omega arith)
declared_fits c (purpose.Formal m) v name here k p =
    plain p (omega arith) (omega (arith, length-append m.formals (record { name = v.name; at = v.at; declared = v.declared } ∷ [])))
declared_fits c purpose.Let v name here k p = plain p (omega arith) (omega arith)
declared_fits c (purpose.Branch b) v name here k p = plain p (omega arith) (omega arith)

variable_type_fits : (c : Context) (p : Purpose) (name : List ℕ) (here : Place) (k : TokenKind) (at : Place)
    → IfSome (variable_type c p name here k at) (Fits k (depth c (mode.VariableType p name here)) (total c (mode.VariableType p name here)))
variable_type_fits c p name here (kind.TypeId spelling) at =
    declared_fits c p (record { name = name; at = here; declared = record { name = spelling; at = at } }) name here (kind.TypeId spelling) refl
variable_type_fits c p name here _ at = tt

let_end_fits : (c : Context) (v : Variable) (k : TokenKind) (at : Place) → IfSome (let_end c v k at) (Fits k (depth c (mode.LetEnd v)) (total c (mode.LetEnd v)))
let_end_fits c v (kind.Sign sign.Arrow) at = plain refl (omega arith) (omega arith)
let_end_fits c v (kind.Sign sign.Comma) at = plain refl (omega arith) (omega arith)
let_end_fits c v (kind.Key key.In) at = plain refl (omega arith) (omega arith)
let_end_fits c v _ at = tt

-- Classes and features

class_head_fits : (c : Context) (name : List ℕ) (here : Place) (k : TokenKind) (at : Place)
    → IfSome (class_head c name here k at) (Fits k (depth c (mode.ClassHead name here)) (total c (mode.ClassHead name here)))
class_head_fits c name here (kind.Key key.Inherits) at = plain refl (omega arith) (omega arith)
class_head_fits c name here (kind.Sign sign.LBrace) at = record { depth = omega arith; total = omega arith; between = λ h. refl }
class_head_fits c name here _ at = tt

parent_name_fits : (c : Context) (name : List ℕ) (here : Place) (k : TokenKind) (at : Place)
    → IfSome (parent_name c name here k at) (Fits k (depth c (mode.ParentName name here)) (total c (mode.ParentName name here)))
parent_name_fits c name here (kind.TypeId parent) at = plain refl (omega arith) (omega arith)
parent_name_fits c name here _ at = tt

features_fits : (c : Context) (class : OpenClass) (k : TokenKind) (at : Place) → IfSome (features c class k at) (Fits k (depth c (mode.Features class)) (total c (mode.Features class)))
features_fits c class (kind.ObjectId name) at = plain refl (omega arith) (omega arith)
features_fits c class (kind.Sign sign.RBrace) at = record { depth = omega arith; total = omega arith; between = λ h. absurd (cc) }
features_fits c class _ at = tt

feature_name_fits : (c : Context) (class : OpenClass) (name : List ℕ) (here : Place) (k : TokenKind) (at : Place)
    → IfSome (feature_name c class name here k at) (Fits k (depth c (mode.FeatureName class name here)) (total c (mode.FeatureName class name here)))
feature_name_fits c class name here (kind.Sign sign.LParen) at = plain refl (omega arith) (omega arith)
feature_name_fits c class name here (kind.Sign sign.Colon) at = plain refl (omega arith) (omega arith)
feature_name_fits c class name here _ at = tt

first_formal_fits : (c : Context) (m : OpenMethod) (k : TokenKind) (at : Place) → IfSome (first_formal c m k at) (Fits k (depth c (mode.FirstFormal m)) (total c (mode.FirstFormal m)))
first_formal_fits c m (kind.Sign sign.RParen) at = plain refl (omega arith) (omega arith)
first_formal_fits c m k at = variable_name_fits c (purpose.Formal m) k at

formal_end_fits : (c : Context) (m : OpenMethod) (k : TokenKind) (at : Place) → IfSome (formal_end c m k at) (Fits k (depth c (mode.FormalEnd m)) (total c (mode.FormalEnd m)))
formal_end_fits c m (kind.Sign sign.RParen) at = plain refl (omega arith) (omega arith)
formal_end_fits c m (kind.Sign sign.Comma) at = plain refl (omega arith) (omega arith)
formal_end_fits c m _ at = tt

result_type_fits : (c : Context) (m : OpenMethod) (k : TokenKind) (at : Place) → IfSome (result_type c m k at) (Fits k (depth c (mode.ResultType m)) (total c (mode.ResultType m)))
result_type_fits c m (kind.TypeId name) at = plain refl (omega arith) (omega arith)
result_type_fits c m _ at = tt

attribute_end_fits : (c : Context) (class : OpenClass) (v : Variable) (k : TokenKind) (at : Place)
    → IfSome (attribute_end c class v k at) (Fits k (depth c (mode.AttributeEnd class v)) (total c (mode.AttributeEnd class v)))
attribute_end_fits c class v (kind.Sign sign.Arrow) at = plain refl (omega arith) (omega arith)
attribute_end_fits c class v (kind.Sign sign.Semi) at = record { depth = omega arith; total = omega arith; between = λ h. refl }
attribute_end_fits c class v _ at = tt

-- Steps

pub step_fits : (c : Context) (m : Mode) (k : TokenKind) (at : Place) → IfSome (step c m k at) (Fits k (depth c m) (total c m))
step_fits c mode.File (kind.Key key.Class) at = plain refl (omega arith) (omega arith)
step_fits c mode.ClassName (kind.TypeId name) at = plain refl (omega arith) (omega arith)
step_fits c (mode.ClassHead name here) k at = class_head_fits c name here k at
step_fits c (mode.ParentName name here) k at = parent_name_fits c name here k at
step_fits c (mode.ClassBrace name here parent) (kind.Sign sign.LBrace) at = record { depth = omega arith; total = omega arith; between = λ h. refl }
step_fits c (mode.Features class) k at = features_fits c class k at
step_fits c (mode.ClassEnd class) (kind.Sign sign.Semi) at = record { depth = omega arith; total = omega arith; between = λ h. refl }
step_fits c (mode.FeatureName class name here) k at = feature_name_fits c class name here k at
step_fits c (mode.FirstFormal m) k at = first_formal_fits c m k at
step_fits c (mode.FormalEnd m) k at = formal_end_fits c m k at
step_fits c (mode.ResultColon m) (kind.Sign sign.Colon) at = plain refl (omega arith) (omega arith)
step_fits c (mode.ResultType m) k at = result_type_fits c m k at
step_fits c (mode.MethodBrace m result) (kind.Sign sign.LBrace) at =
    record { depth = omega arith; total = omega arith; between = not_zero (depth c (mode.MethodBrace m result)) (omega arith) }
step_fits c (mode.MethodEnd class) (kind.Sign sign.Semi) at = record { depth = omega arith; total = omega arith; between = λ h. refl }
step_fits c (mode.AttributeEnd class v) k at = attribute_end_fits c class v k at
step_fits c (mode.VariableName p) k at = variable_name_fits c p k at
step_fits c (mode.VariableColon p name here) (kind.Sign sign.Colon) at = plain refl refl (omega arith)
step_fits c (mode.VariableType p name here) k at = variable_type_fits c p name here k at
step_fits c (mode.LetEnd v) k at = let_end_fits c v k at
step_fits c (mode.BranchArrow b v) (kind.Sign sign.FatArrow) at = plain refl (omega arith) (omega arith)
step_fits c (mode.NextBranch b) k at = next_branch_fits c b k at
step_fits c (mode.NextItem here items) k at = next_item_fits c here items k at
step_fits c (mode.FirstArgument call) k at = first_argument_fits c call k at
step_fits c mode.Need k at =
    within (need c k at) k (1 + stack_depth c.stack) _ (weight c.nodes + stack_owes c.stack) _ (omega arith) (omega arith) (need_fits c k at)
step_fits c (mode.Identifier name here) k at = identifier_fits c name here k at
step_fits c (mode.Have t) k at =
    within (have c t k at) k (1 + stack_depth c.stack) _ (weight c.nodes + stack_owes c.stack) _ (omega arith) (omega arith) (have_fits c t k at)
step_fits c (mode.StaticClass t) k at = static_class_fits c t k at
step_fits c (mode.StaticDot t class) (kind.Sign sign.Dot) at = plain refl (omega arith) (omega arith)
step_fits c (mode.MethodName t class) k at = method_name_fits c t class k at
step_fits c (mode.CallParenthesis call) (kind.Sign sign.LParen) at = plain refl (omega arith) (omega arith)
step_fits c (mode.NewType here) k at = new_type_fits c here k at
step_fits c _ _ at = tt
