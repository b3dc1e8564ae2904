use Rattle.std.proofs.Common.{◌≡◌, ◌+◌, ◌-◌, ◌*◌, ◌<◌, drop}
use Rattle.std.specs.List.{fold}
use Rattle.cool_syntax.specs.Lexemes.{value}
use Rattle.cool_session.proofs.WordsOfCommands.{ten_to}
use Rattle.cool_session.proofs.command.value.Given as goal

-- the digits so far are a number, which the others make the whole
abbrev pub invariant-loop-digit : goal.invariant-loop-digit
invariant-loop-digit l = record {
  small : l.number < ten_to l.digit-index;
  rest : fold (λ n b. 10 * n + (b - 48)) l.number (drop l.digit-index l.digits) ≡ value l.digits;
}
