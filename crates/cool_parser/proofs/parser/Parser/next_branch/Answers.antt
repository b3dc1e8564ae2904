use Rattle.cool_parser.proofs.GoodNodes.{branches_stand_before}
use Rattle.cool_parser.proofs.parser.Parser.next_branch.Goals as goal

pub operand-requires-clause-parts : goal.operand-requires-clause-parts
operand-requires-clause-parts c = branches_stand_before c.args.self.now c.args.case c.requires.good
