-- In the loop of `name_length`, the bytes passed so far and the word bytes that the rest begins with make the length of the whole name.
use Rattle.std.proofs.Common.{◌≡◌, ◌+◌, drop}
use Rattle.std.specs.List.{prefix_len}
use Rattle.cool_syntax.specs.Lexemes.{is_in_word}
use Rattle.cool_guess.proofs.lexeme.name_length.Given as goal

abbrev pub invariant-loop-index : goal.invariant-loop-index
invariant-loop-index l = l.index + prefix_len is_in_word (drop l.index l.rest) ≡ prefix_len is_in_word l.rest
