-- If the operator on the top of the parser's stack has at least the level at which it is tested, it is removed from the stack, and makes the same node at every
-- such level.
use Rattle.std.proofs.Common.{◌≡◌, ℕ, Bool, true, false, nat_le, List, ◌∷◌, get_or, Option, Some, None, MatchOption, refl, sym, ◌∙◌, ap}
use Rattle.std.specs.Option.{is_some}
use Rattle.cool_syntax.specs.declared.node.NodeId.{NodeId}
use Rattle.cool_syntax.specs.declared.node.Node.{Node}
use Rattle.cool_syntax.specs.declared.node.Node.TheVariants as node
use Rattle.cool_syntax.specs.declared.operator.ArithOp.TheVariants.{Add, Sub, Mul, Div}
use Rattle.cool_parser.specs.declared.operator.Infix.{Infix}
use Rattle.cool_parser.specs.declared.operator.Infix.TheVariants.{Arith, Compare}
use Rattle.cool_parser.specs.declared.operator.Prefix.{Prefix}
use Rattle.cool_parser.specs.declared.operator.Prefix.TheVariants.{Not, IsVoid, Neg}
use Rattle.cool_parser.specs.declared.item.Item.{Item}
use Rattle.cool_parser.specs.declared.item.Item.TheVariants as item
use Rattle.cool_parser.specs.Levels.{infix_level, prefix_level}
use Rattle.cool_parser.specs.ParsingMachine.{binary, before, node_if, ended}
use Rattle.cool_parser.specs.Endings.{NoneEnds, Ends}

-- a node that stands is that node
node_if_some : (holds : Bool) (n : Node) → is_some (node_if holds n) ≡ true → node_if holds n ≡ Some n
node_if_some true n e = refl
node_if_some false n e = absurd (cc)

-- an operator ends at the lowest level
infix_ends : (op : Infix) → nat_le 0 (infix_level op) ≡ true
infix_ends (Arith Add) = refl
infix_ends _ = refl

prefix_ends : (op : Prefix) → nat_le 0 (prefix_level op) ≡ true
prefix_ends Not = refl
prefix_ends IsVoid = refl
prefix_ends Neg = refl

-- a node that stands by one test and by another is one node
both : (one other : Bool) (n : Node) → is_some (node_if one n) ≡ true → other ≡ true → node_if one n ≡ node_if other n
both one other n e f = node_if_some one n e ∙ ap (λ b. node_if b n) (sym f)

-- an operator that ends makes one node, whatever the level
ended_same : (k : ℕ) (i : Item) (t : NodeId) → is_some (ended k i t) ≡ true → ended k i t ≡ ended 0 i t
ended_same k (item.Left at op l) t e = both (nat_le k (infix_level op)) (nat_le 0 (infix_level op)) (binary op at l t) e (infix_ends op)
ended_same k (item.Front at op) t e = both (nat_le k (prefix_level op)) (nat_le 0 (prefix_level op)) (before op at t) e (prefix_ends op)
ended_same k (item.Assigning at name) t e = node_if_some (nat_le k 1) (node.Assign at name t) e
ended_same k (item.Bound v init) t e = node_if_some (nat_le k 0) (node.Let v.at v.name v.declared init t) e
ended_same k _ t e = refl

-- an operator that ends is taken away as its node
taken : (k : ℕ) (t : NodeId) (st rest : List Item) (i : Item) (o : Option Node) → st ≡ i ∷ rest → o ≡ ended k i t → is_some (ended k i t) ≡ true
    → MatchOption o ((rest ≡ st) × NoneEnds k t st) (Ends k t st rest)
taken k t st rest i None top e some = let wrong : false ≡ true = ap is_some e ∙ some in absurd (cc)
taken k t st rest i (Some n) top e some = record { item = i; top = top; node = sym e }

-- the same for the top that was looked at first
pub taken_top : (k : ℕ) (t : NodeId) (st rest below : List Item) (i j : Item) (o : Option Node) → st ≡ j ∷ below → is_some (ended k j t) ≡ true
    → st ≡ i ∷ rest → o ≡ ended 0 i t → MatchOption o ((rest ≡ st) × NoneEnds k t st) (Ends k t st rest)
taken_top k t st rest below i j o seen ends top made =
    let same : j ≡ i = ap (λ xs. get_or xs 0 j) (sym seen ∙ top) in
    let some : is_some (ended k i t) ≡ true = ap (λ x. is_some (ended k x t)) (sym same) ∙ ends in
    taken k t st rest i o top (made ∙ sym (ended_same k i t some)) some
