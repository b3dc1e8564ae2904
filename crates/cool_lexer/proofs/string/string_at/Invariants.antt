use Rattle.std.proofs.Common.{length, ◌-◌, ◌≡◌, false, [], ◌+◌, ◌≤◌, drop}
use Rattle.cool_lexer.specs.Fronts.{string_front}
use Rattle.cool_lexer.proofs.string.string_at.Given as goal

abbrev pub invariant-loop-at : goal.invariant-loop-at
invariant-loop-at l = record {
  within : l.at ≤ length l.tail;
  rest : string_front l.escaped (l.at + 1) l.held.items (drop l.at l.tail) ≡ string_front false 1 [] l.tail;
}

abbrev pub decreases-loop-at : goal.decreases-loop-at
decreases-loop-at l = length l.tail - l.at
