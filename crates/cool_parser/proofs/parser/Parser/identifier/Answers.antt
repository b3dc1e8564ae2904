use Rattle.cool_syntax.specs.declared.node.Node.TheVariants as node
use Rattle.cool_parser.specs.ParsingMachine as machine
use Rattle.cool_parser.proofs.GoodNodes.{named_good, good_as}
use Rattle.cool_parser.proofs.parser.Parser.identifier.Goals as goal

pub have-requires-clause-good : goal.have-requires-clause-good
have-requires-clause-good c =
    let made = c.in_ok-operand-in_default.ensures in
    good_as c.place-in_default.new.self (machine.place (node.Id c.args.at c.args.name) c.args.self.now) c.in_ok-operand-in_default.operand (machine.next_id c.args.self.now)
    made.placed made.number (named_good c.args.self.now c.args.name c.args.at c.requires.good)
