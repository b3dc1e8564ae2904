use Rattle.cool_parser.proofs.GoodNodes.{value_is_whole}
use Rattle.cool_parser.proofs.parser.Parser.attribute_init.Goals as goal

pub attribute-requires : goal.attribute-requires
attribute-requires c = record { postorder = value_is_whole c.args.self.now c.args.class c.args.variable c.args.operand c.requires.good }
