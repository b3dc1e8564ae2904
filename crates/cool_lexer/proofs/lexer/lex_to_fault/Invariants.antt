use Rattle.std.proofs.Common.{length, ◌-◌}
use Rattle.cool_lexer.specs.Views.{run_seen}
use Rattle.cool_lexer.proofs.ReadSoFar.{IsRead}
use Rattle.cool_lexer.proofs.lexer.lex_to_fault.Given as goal

abbrev pub invariant-loop-at : goal.invariant-loop-at
invariant-loop-at l = IsRead l.file l.bytes l.at l.reading.tokens.items (run_seen l.reading.run) l.reading.place

abbrev pub decreases-loop-at : goal.decreases-loop-at
decreases-loop-at l = length l.bytes - l.at
