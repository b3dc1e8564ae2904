use Rattle.std.proofs.Common.{arith}
use Rattle.mips_text.proofs.LinesOfTexts.{line_last, line_parted}
use Rattle.mips_text.proofs.reading.part.Goals as goal

pub returns-then-end-bytes-clause-exact : goal.returns-then-end-bytes-clause-exact
returns-then-end-bytes-clause-exact c = line_parted c.args.bytes.now c.span_len-end.result c.span_len-end.ensures.len (omega arith)

pub returns-clause-exact : goal.returns-clause-exact
returns-clause-exact c = line_last c.args.bytes.now c.requires (omega arith)
