use Rattle.std.proofs.Common.{arith}
use Rattle.cool_sources.proofs.FilesRead.{all_bytes}
use Rattle.cool_sources.proofs.reading.byte_count.Goals as goal

-- each item has 8 bits
pub returns-clause-bytes : goal.returns-clause-bytes
returns-clause-bytes c = all_bytes c.args.bytes.now (λ i. omega (arith, c.type_inv.bytes i))
