use Rattle.std.proofs.Common.{length, sym, subst, ◌∙◌, ap}
use Rattle.cool_syntax.specs.NodeLists.{HasPartsBelow}
use Rattle.cool_parser.specs.ParsingMachine as machine
use Rattle.cool_parser.proofs.GoodNodes.{receiver_stands_before}
use Rattle.cool_parser.proofs.parser.Parser.first_argument.Goals as goal

pub operand-requires-clause-parts : goal.operand-requires-clause-parts
operand-requires-clause-parts c =
    subst (HasPartsBelow (length c.args.self.now.nodes)) (sym (c.node.ensures ∙ ap (machine.dispatch c.args.call) (c.new-args.ensures ∙ c.new.ensures.items)))
    (receiver_stands_before c.args.self.now c.args.call c.requires.good)
