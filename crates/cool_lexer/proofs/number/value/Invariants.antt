use Rattle.std.proofs.Common.{◌≡◌, ◌+◌, ◌-◌, ◌*◌, ◌≤◌, drop}
use Rattle.std.specs.List.{fold}
use Rattle.cool_lexer.proofs.number.value.Given as goal

abbrev pub invariant-loop-byte : goal.invariant-loop-byte
invariant-loop-byte l = record {
  small : l.value ≤ 2147483647;
  rest : fold (λ n b. 10 * n + (b - 48)) l.value (drop l.byte-index l.digits) ≡ fold (λ n b. 10 * n + (b - 48)) l.fn.high l.digits;
}
