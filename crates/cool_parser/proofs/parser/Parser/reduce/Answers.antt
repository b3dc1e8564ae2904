use Rattle.std.proofs.Common.{List, refl, sym, ◌∙◌, ap, arith}
use Rattle.cool_parser.specs.declared.item.Item.{Item}
use Rattle.cool_parser.specs.ParsingMachine.{Context, push}
use Rattle.cool_parser.proofs.GoodNodes.{operands_stand_before, good_as, turns}
use Rattle.cool_parser.proofs.parser.Parser.reduce.Goals as goal

pub place-requires-clause-parts : goal.place-requires-clause-parts
place-requires-clause-parts c =
    let on : List Item → Context = λ st. record { nodes = c.self.inside.pool.nodes; stack = st; classes = c.self.inside.classes } in
    let ends = c.in-Some.ensures in
    operands_stand_before c.args.level (on c.end_operator.new.self) ends.item c.loop-node.operand c.in-Some.node ends.node
    (good_as (push ends.item (on c.end_operator.new.self)) c.loop-node.self c.loop-node.operand c.loop-node.operand (ap on (sym ends.top) ∙ c.self.view_is) refl c.loop-node.invariant.good)

pub loop-node-preserved : goal.loop-node-preserved
loop-node-preserved c =
    let on : List Item → Context = λ st. record { nodes = c.self.inside.pool.nodes; stack = st; classes = c.self.inside.classes } in
    let ends = c.in-Some.ensures in
    let made = c.in_ok-operand.ensures in
    let turn = turns c.args.level c.loop-node.self (on c.end_operator.new.self) c.place.new.self ends.item c.loop-node.operand c.in_ok-operand.operand c.in-Some.node
    (sym c.self.view_is ∙ ap on ends.top) ends.node made.placed made.number c.loop-node.invariant.good in
    record {
      same = turn.same ∙ c.loop-node.invariant.same;
      good = turn.good;
      classes = turn.classes ∙ c.loop-node.invariant.classes;
      fits = omega (arith, turn.fits, c.loop-node.invariant.fits);
    }
