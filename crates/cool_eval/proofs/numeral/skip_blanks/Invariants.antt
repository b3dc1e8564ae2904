use Rattle.std.proofs.Common.{◌≡◌, length}
use Rattle.cool_meaning.specs.Numbers as numbers
use Rattle.cool_eval.proofs.numeral.skip_blanks.Given as goal

-- only blanks were passed
abbrev pub invariant-loop-rest : goal.invariant-loop-rest
invariant-loop-rest l = numbers.skip_blanks l.rest ≡ numbers.skip_blanks l.line

abbrev pub decreases-loop-rest : goal.decreases-loop-rest
decreases-loop-rest l = length l.rest
