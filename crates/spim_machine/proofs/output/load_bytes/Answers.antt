use Rattle.std.proofs.Common.{◌∙◌, ap, arith}
use Rattle.spim_memory.specs.Memory.{bytes_of}
use Rattle.spim_memory.specs.Strings.{bytes_from}
use Rattle.spim_machine.proofs.PiecesOfBytes.{are_bytes}
use Rattle.spim_machine.proofs.output.load_bytes.Goals as goal

-- all bytes are loaded
pub returns : goal.returns
returns c =
    are_bytes (bytes_of c.args.memory.now) c.loop-k.bytes c.args.address (λ i within. c.loop-k.invariant i (omega (arith, within, c.loop-k-test.false, c.loop-k.auto.bytes)))
    ∙ ap (bytes_from (bytes_of c.args.memory.now) c.args.address) c.loop-k.auto.bytes
