-- In the loop of `string_length`, the bytes passed so far and the size of the rest of the string make the size of the whole string constant.
use Rattle.std.proofs.Common.{◌≡◌, ◌+◌, true, drop}
use Rattle.cool_guess.specs.Lexemes.{string_size}
use Rattle.cool_guess.proofs.lexeme.string_length.Given as goal

abbrev pub invariant-loop-index : goal.invariant-loop-index
invariant-loop-index l = l.index + string_size l.escaped (drop l.index l.rest) ≡ string_size true l.rest
