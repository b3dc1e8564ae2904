use Rattle.std.proofs.Common.{rules}
use Rattle.cool_words.proofs.NoNumbers.{no_number}
use Rattle.cool_words.proofs.numbers.read_number.Goals as goal

pub returns-in_default-3-clause-value : goal.returns-in_default-3-clause-value
returns-in_default-3-clause-value c = no_number c.args.low c.args.high c.args.text.now (search rules) (search rules) (λ both. c.in_default.ensures.value.0 both)
