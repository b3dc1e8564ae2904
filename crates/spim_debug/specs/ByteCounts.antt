-- `counted` is the debugger's count of output bytes, which stops at its greatest value, and `GrewBy` relates the count to the output of a run.
use Rattle.std.specs.Prelude.{◌≡◌, ℕ, ◌+◌, min, List, length}
use Rattle.cool_ports.specs.Counts.{last_count}
use Rattle.spim_machine.specs.declared.halt.Halt.{Halt}
use Rattle.spim_machine.specs.declared.halt.Halt.TheVariants.{Exit, Trap, StepLimit, ReadFault, WriteFault}

-- the count for so many bytes, which stays at its greatest value
abbrev pub counted : ℕ → ℕ
counted n = min n last_count

-- So many bytes are those by which an output grew in a run, unless a put failed.
abbrev pub GrewBy : Halt → List ℕ → List ℕ → ℕ → Type 0
GrewBy (Exit code) before after bytes = counted (length after) ≡ counted (length before + bytes)
GrewBy (Trap trap) before after bytes = counted (length after) ≡ counted (length before + bytes)
GrewBy StepLimit before after bytes = counted (length after) ≡ counted (length before + bytes)
GrewBy ReadFault before after bytes = counted (length after) ≡ counted (length before + bytes)
GrewBy WriteFault before after bytes = Unit {0}
