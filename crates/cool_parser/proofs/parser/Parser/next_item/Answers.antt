use Rattle.cool_parser.proofs.GoodNodes.{items_stand_before}
use Rattle.cool_parser.proofs.parser.Parser.next_item.Goals as goal

pub operand-requires-clause-parts : goal.operand-requires-clause-parts
operand-requires-clause-parts c = items_stand_before c.args.self.now c.args.at c.args.items c.requires.good
