use Rattle.std.proofs.Common.{length, sym, subst, ◌∙◌, ap}
use Rattle.cool_syntax.specs.NodeLists.{HasPartsBelow}
use Rattle.cool_parser.specs.ParsingMachine as machine
use Rattle.cool_parser.proofs.GoodNodes.{arguments_stand_before}
use Rattle.cool_parser.proofs.parser.Parser.arguments.Goals as goal

pub operand-requires-clause-parts : goal.operand-requires-clause-parts
operand-requires-clause-parts c =
    subst (HasPartsBelow (length c.args.self.now.nodes)) (sym (c.node.ensures ∙ ap (machine.dispatch c.args.call) c.in_ok-push-in-Sign-RParen.ensures))
    (arguments_stand_before c.args.self.now c.args.call c.args.args c.args.operand c.requires.good)
