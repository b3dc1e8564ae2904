use Rattle.cool_parser.proofs.GoodNodes.{if_stands_after}
use Rattle.cool_parser.proofs.parser.Parser.if_no.Goals as goal

pub operand-requires-clause-parts : goal.operand-requires-clause-parts
operand-requires-clause-parts c = if_stands_after c.args.self.now c.args.at c.args.test c.args.yes c.args.operand c.requires.good
