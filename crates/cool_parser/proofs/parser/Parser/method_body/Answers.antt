use Rattle.cool_parser.proofs.GoodNodes.{body_is_whole}
use Rattle.cool_parser.proofs.parser.Parser.method_body.Goals as goal

pub method-requires : goal.method-requires
method-requires c = record { postorder = body_is_whole c.args.self.now c.args.method c.args.returned c.args.operand c.requires.good }
