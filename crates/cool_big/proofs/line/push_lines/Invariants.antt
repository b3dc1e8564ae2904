-- In the loop of `push_lines`, the lines of all numbers below the current one have been appended to the text.
use Rattle.std.proofs.Common.{◌≡◌, ◌≤◌, ◌-◌, ◌++◌}
use Rattle.cool_big.specs.BigPrograms.{line_texts}
use Rattle.cool_big.proofs.line.push_lines.Given as goal

abbrev pub invariant-loop-number : goal.invariant-loop-number
invariant-loop-number l = (1 ≤ l.number) × (l.text.items ≡ l.fn.text.items ++ line_texts l.line (l.number - 1))
