use Rattle.std.proofs.Common.{◌≡◌, ◌+◌, ◌*◌, ◌≤◌, min, drop}
use Rattle.std.specs.List.{fold}
use Rattle.mips_text.specs.Words.{digit_value, value}
use Rattle.mips_text.specs.declared.numbers.TheConstants.{LARGEST}
use Rattle.mips_text.proofs.numbers.value_of_digits.Given as goal

abbrev pub invariant-loop-digit : goal.invariant-loop-digit
invariant-loop-digit l = record {
  small : l.number ≤ LARGEST;
  rest : min (fold (λ n byte. n * l.base + digit_value byte) l.number (drop l.digit-index l.digits)) LARGEST ≡ min (value l.base l.digits) LARGEST;
}
