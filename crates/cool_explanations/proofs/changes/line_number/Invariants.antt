-- In the loop of `line_number`, `number` is one more than the number of newlines so far.
use Rattle.std.proofs.Common.{◌≡◌, ◌≤◌, ◌+◌, take}
use Rattle.std.specs.Prelude.{nat_eq}
use Rattle.std.specs.List.{count_by}
use Rattle.cool_explanations.proofs.changes.line_number.Given as goal

abbrev pub invariant-loop-index : goal.invariant-loop-index
invariant-loop-index l = record {
  counted : l.number ≡ count_by (λ b. nat_eq b 10) (take l.index l.bytes) + 1;
  within : l.number ≤ l.index + 1;
}
