-- Each node that the parser appends comes after its parts, and the body of a finished feature is one tree. Both follow from the parser's invariant between two
-- tokens.
use Rattle.std.proofs.Common.{◌≡◌, ℕ, ◌+◌, ◌≤◌, if◌then◌else◌, List, [], ◌∷◌, ◌++◌, length, Some, IfSome, refl, sym, subst, ◌∙◌, ap, length-append, arith}
use Rattle.std.specs.Option.{is_some}
use Rattle.cool_syntax.specs.declared.place.Place.{Place}
use Rattle.cool_syntax.specs.declared.type_ref.TypeRef.{TypeRef}
use Rattle.cool_syntax.specs.declared.token.TokenKind.{TokenKind}
use Rattle.cool_syntax.specs.declared.node.NodeId.{NodeId}
use Rattle.cool_syntax.specs.declared.node.Node.{Node}
use Rattle.cool_syntax.specs.declared.node.Node.TheVariants as node
use Rattle.cool_syntax.specs.NodeLists.{HasPartsBelow, IsPostorder}
use Rattle.cool_parser.specs.declared.item.Item.{Item}
use Rattle.cool_parser.specs.declared.item.Item.TheVariants as item
use Rattle.cool_parser.specs.declared.item.Call.{Call}
use Rattle.cool_parser.specs.declared.item.Variable.{Variable}
use Rattle.cool_parser.specs.declared.item.OpenCase.{OpenCase}
use Rattle.cool_parser.specs.declared.item.OpenClass.{OpenClass}
use Rattle.cool_parser.specs.declared.item.OpenMethod.{OpenMethod}
use Rattle.cool_parser.specs.declared.mode.Mode.{Mode}
use Rattle.cool_parser.specs.declared.mode.Mode.TheVariants as mode
use Rattle.cool_parser.specs.ParsingMachine.{Context, push, place, next_id, ended, nodes_of, reduced, dispatch, step, start}
use Rattle.cool_parser.specs.Waiting.{case_parts, item_parts, Good}
use Rattle.cool_parser.proofs.PlacingANode.{node_parts}
use Rattle.cool_parser.proofs.GoodStates.{on, topped, below, operates, dispatch_parts, ended_parts, ended_keeps, ended_below, bodied, step_good, start_good}

pub branches_stand_before : (c : Context) (b : OpenCase) → Good c (mode.NextBranch b) → HasPartsBelow (length c.nodes) (node.Case b.at b.value b.branches)
unfolding Good
branches_stand_before c b g = below (node.Case b.at b.value b.branches) c (case_parts b) refl (on c (mode.NextBranch b) g)

pub items_stand_before : (c : Context) (at : Place) (items : List NodeId) → Good c (mode.NextItem at items) → HasPartsBelow (length c.nodes) (node.Block at items)
unfolding Good
items_stand_before c at items g = below (node.Block at items) c items refl (on c (mode.NextItem at items) g)

pub receiver_stands_before : (c : Context) (call : Call) → Good c (mode.FirstArgument call) → HasPartsBelow (length c.nodes) (dispatch call [])
unfolding Good
receiver_stands_before c call g = below (dispatch call []) c (call.receiver ∷ []) (dispatch_parts call []) (on c (mode.FirstArgument call) g)

pub arguments_stand_before : (c : Context) (call : Call) (args : List NodeId) (t : NodeId) → Good (push (item.Arguments call args) c) (mode.Have t) → HasPartsBelow (length c.nodes) (dispatch call (args ++ t ∷ []))
unfolding Good
arguments_stand_before c call args t g =
    below (dispatch call (args ++ t ∷ [])) c (call.receiver ∷ args ++ t ∷ []) (dispatch_parts call (args ++ t ∷ [])) (topped (item.Arguments call args) c t g)

pub if_stands_after : (c : Context) (at : Place) (test met t : NodeId) → Good (push (item.IfNo at test met) c) (mode.Have t) → HasPartsBelow (length c.nodes) (node.If at test met t)
unfolding Good
if_stands_after c at test met t g = below (node.If at test met t) c (test ∷ met ∷ t ∷ []) refl (topped (item.IfNo at test met) c t g)

pub while_stands_after : (c : Context) (at : Place) (test t : NodeId) → Good (push (item.WhileBody at test) c) (mode.Have t) → HasPartsBelow (length c.nodes) (node.While at test t)
unfolding Good
while_stands_after c at test t g = below (node.While at test t) c (test ∷ t ∷ []) refl (topped (item.WhileBody at test) c t g)

pub value_is_whole : (c : Context) (class : OpenClass) (v : Variable) (t : NodeId) → Good (push (item.AttributeInit class v) c) (mode.Have t) → IsPostorder c.nodes
unfolding Good
value_is_whole c class v t g = (bodied (item.AttributeInit class v) c t refl refl g).1

pub body_is_whole : (c : Context) (m : OpenMethod) (type : TypeRef) (t : NodeId) → Good (push (item.MethodBody m type) c) (mode.Have t) → IsPostorder c.nodes
unfolding Good
body_is_whole c m type t g = (bodied (item.MethodBody m type) c t refl refl g).1

-- the parts of an operator that ends
parts_of : (k : ℕ) (i : Item) (t : NodeId) (n : Node) → ended k i t ≡ Some n → node_parts n ≡ item_parts i ++ t ∷ []
parts_of k i t n e = subst (λ o. IfSome o (λ m. node_parts m ≡ item_parts i ++ t ∷ [])) e (ended_parts k i t)

pub operands_stand_before : (k : ℕ) (c : Context) (i : Item) (t : NodeId) (n : Node) → ended k i t ≡ Some n → Good (push i c) (mode.Have t) → HasPartsBelow (length c.nodes) n
unfolding Good
operands_stand_before k c i t n e g = ended_below c.nodes i c.stack t n (parts_of k i t n e) (g.trees, g.bottomed)

pub ended_good : (k : ℕ) (c : Context) (i : Item) (t : NodeId) (n : Node) → ended k i t ≡ Some n → Good (push i c) (mode.Have t) → Good (place n c) (mode.Have (next_id c))
unfolding Good
ended_good k c i t n e g =
    let h = ended_keeps k c.nodes i c.stack t n (parts_of k i t n e) (g.trees, g.bottomed) in
    record { trees = h.0; bottomed = h.1; outside = λ o. absurd (cc) }

pub named_good : (c : Context) (name : List ℕ) (at : Place) → Good c (mode.Identifier name at) → Good (place (node.Id at name) c) (mode.Have (next_id c))
unfolding Good
named_good c name at g = operates (node.Id at name) c [] refl (on c (mode.Identifier name at) g)

pub good_step : (c : Context) (m : Mode) (k : TokenKind) (at : Place) → Good c m → IfSome (step c m k at) (λ s. Good s.context s.mode)
unfolding Good
good_step c m k at g = step_good c m k at g

pub good_start : Good start.context start.mode
unfolding Good
good_start = start_good

-- the same state in another wording
pub good_as : (c d : Context) (t u : NodeId) → c ≡ d → t ≡ u → Good d (mode.Have u) → Good c (mode.Have t)
good_as c d t u e f g = subst (λ x. Good x (mode.Have t)) (sym e) (subst (λ x. Good d (mode.Have x)) (sym f) g)

-- an operator that ends is a step of the reduction
pub reduced_ended : (k : ℕ) (ns : List Node) (i : Item) (st : List Item) (t : NodeId) (n : Node) → ended k i t ≡ Some n
    → reduced k (ns ++ n ∷ []) st (record { 0 = length ns }) ≡ reduced k ns (i ∷ st) t
reduced_ended k ns i st t n e =
    ap (λ o. if is_some o then reduced k (ns ++ nodes_of o) st (record { 0 = length ns }) else record { nodes = ns; stack = i ∷ st; operand = t }) (sym e)

-- the facts that a turn of the loop that ends operators keeps
pub record Turns (k : ℕ) (before after : Context) (t u : NodeId) : Type 0 where
  pub same : reduced k after.nodes after.stack u ≡ reduced k before.nodes before.stack t
  pub good : Good after (mode.Have u)
  pub classes : after.classes ≡ before.classes
  pub fits : length after.nodes + length after.stack ≤ length before.nodes + length before.stack

pub turns : (k : ℕ) (before rest after : Context) (i : Item) (t u : NodeId) (n : Node)
    → before ≡ push i rest → ended k i t ≡ Some n → after ≡ place n rest → u ≡ next_id rest → Good before (mode.Have t) → Turns k before after t u
turns k before rest after i t u n b e a f g =
    let h : Good (push i rest) (mode.Have t) = good_as (push i rest) before t t (sym b) refl g in
    record {
      same = ap (λ x. reduced k x.nodes x.stack u) a ∙ ap (reduced k (rest.nodes ++ n ∷ []) rest.stack) f ∙ reduced_ended k rest.nodes i rest.stack t n e ∙ ap (λ x. reduced k x.nodes x.stack t) (sym b);
      good = good_as after (place n rest) u (next_id rest) a f (ended_good k rest i t n e h);
      classes = ap (λ x. x.classes) a ∙ ap (λ x. x.classes) (sym b);
      fits = omega (arith, ap (λ x. length x.nodes) a, ap (λ x. length x.stack) a, ap (λ x. length x.nodes) b, ap (λ x. length x.stack) b, length-append rest.nodes (n ∷ []));
    }
