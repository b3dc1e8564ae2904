use Rattle.cool_lexer.proofs.Blanks.{passes_blank}
use Rattle.cool_lexer.proofs.reading.read_item.Goals as goal

pub returns-then-rest-eq32-clause-passes : goal.returns-then-rest-eq32-clause-passes
returns-then-rest-eq32-clause-passes c = passes_blank c.args.rest.now c.args.reading.now c.if-rest-eq32.true
