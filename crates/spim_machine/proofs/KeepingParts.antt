-- If each of two steps of the machine keeps its text, its segments and its halted status, so do both together.
use Rattle.std.proofs.Common.{◌≡◌, ◌∙◌, refl}
use Rattle.spim_cpu.specs.Cpu.{KeepsSegments}
use Rattle.spim_machine.specs.MachineStates.{MachineParts, Keeps}

-- nothing is done
pub keeps_same : (m : MachineParts) → Keeps m m
keeps_same m = record { memory = record { text = refl; segments = refl }; halted = refl }

-- one call after another
pub keeps_both : (old mid new : MachineParts) → Keeps mid new → KeepsSegments old.cpu.memory mid.cpu.memory
    → mid.halted ≡ old.halted → Keeps old new
keeps_both old mid new behind memory halted = record {
  memory = record { text = behind.memory.text ∙ memory.text; segments = behind.memory.segments ∙ memory.segments };
  halted = behind.halted ∙ halted;
}
