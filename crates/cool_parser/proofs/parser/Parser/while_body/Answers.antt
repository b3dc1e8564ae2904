use Rattle.cool_parser.proofs.GoodNodes.{while_stands_after}
use Rattle.cool_parser.proofs.parser.Parser.while_body.Goals as goal

pub operand-requires-clause-parts : goal.operand-requires-clause-parts
operand-requires-clause-parts c = while_stands_after c.args.self.now c.args.at c.args.test c.args.operand c.requires.good
