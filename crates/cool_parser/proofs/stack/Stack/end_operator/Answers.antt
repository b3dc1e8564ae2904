use Rattle.std.proofs.Common.{◌≡◌, true, sym, ◌∙◌, rules}
use Rattle.cool_parser.proofs.OperatorsThatEnd.{taken_top}
use Rattle.cool_parser.proofs.stack.Stack.end_operator.Goals as goal

pub returns : goal.returns
returns c =
    let holds : c.ends_at.result ≡ true = search rules in
    taken_top c.args.level c.args.operand c.args.self.now c.pop.new.self c.in_ok-top.ensures.0 c.in_ok-pop.field-0 c.in_ok-top.field-0.now c.node.result
    c.in_ok-top.ensures.1 (sym (c.ends_at.ensures c.args.operand) ∙ holds) c.in_ok-pop.ensures c.node.ensures
