use Rattle.std.proofs.Common.{◌≡◌, ◌≤◌, ◌+◌, length}
use Rattle.cool_parser.specs.declared.mode.Mode.TheVariants as mode
use Rattle.cool_parser.specs.ParsingMachine as machine
use Rattle.cool_parser.specs.Waiting.{Good}
use Rattle.cool_parser.proofs.parser.Parser.reduce.Given as goal

abbrev pub invariant-loop-node : goal.invariant-loop-node
invariant-loop-node l = record {
  same : machine.reduced l.level l.self.nodes l.self.stack l.operand ≡ machine.reduced l.fn.level l.fn.self.nodes l.fn.self.stack l.fn.operand;
  good : Good l.self (mode.Have l.operand);
  classes : l.self.classes ≡ l.fn.self.classes;
  fits : length l.self.nodes + length l.self.stack ≤ length l.fn.self.nodes + length l.fn.self.stack;
}

abbrev pub decreases-loop-node : goal.decreases-loop-node
decreases-loop-node l = length l.self.stack
