-- At the start of a run, the processor's registers have the values that the machine's definition gives for the image (the loaded program).
use Rattle.std.proofs.Common.{◌≡◌, ◌∙◌, ap, ℕ, ◌+◌, ◌-◌, ◌<◌, cond, List, [], ◌∷◌, get_or, slice_set, arith}
use Rattle.std.specs.Prelude.{◌==◌}
use Rattle.std.proofs.Math.Path.{fun_ext}
use Rattle.mips_isa.specs.ImageBounds.{ImageParts}
use Rattle.mips_isa.specs.Bytes.{Bytes, segments_of, bytes_of_image}
use Rattle.mips_isa.specs.Machine.{Core, Registers}
use Rattle.mips_isa.specs.Run.{start_registers, start_core}
use Rattle.spim_memory.specs.Memory.{MemoryParts, bytes_of}
use Rattle.spim_cpu.specs.Cpu.{core_of}
use Rattle.lists.proofs.ItemsAt.{get_zeros, get_set}

abbrev zeros : List ℕ
zeros = 0 ∷ 0 ∷ 0 ∷ 0 ∷ 0 ∷ 0 ∷ 0 ∷ 0 ∷ 0 ∷ 0 ∷ 0 ∷ 0 ∷ 0 ∷ 0 ∷ 0 ∷ 0 ∷ 0 ∷ 0 ∷ 0 ∷ 0 ∷ 0 ∷ 0 ∷ 0 ∷ 0 ∷ 0 ∷ 0 ∷ 0 ∷ 0 ∷ 0 ∷ 0 ∷ 0 ∷ 0 ∷ []

-- these 32 registers
abbrev pub first_registers : ℕ → ℕ → List ℕ
first_registers low end = 0 ∷ 0 ∷ 0 ∷ 0 ∷ 0 ∷ 0 ∷ 0 ∷ 0 ∷ 0 ∷ 0 ∷ 0 ∷ 0 ∷ 0 ∷ 0 ∷ 0 ∷ 0 ∷ 0 ∷ 0 ∷ 0 ∷ 0 ∷ 0 ∷ 0 ∷ low ∷ end ∷ 0 ∷ 0 ∷ 0 ∷ 0 ∷ 536870912 ∷ 2147483648 ∷ 0 ∷ 0 ∷ []

-- four registers are set, one after another
started : (low end q : ℕ) → get_or (first_registers low end) q 0
    ≡ cond (q == 29) 2147483648 (cond (q == 28) 536870912 (cond (q == 23) end (cond (q == 22) low 0)))
started low end q =
    get_set (slice_set (slice_set (slice_set zeros 22 low) 23 end) 28 536870912) 29 2147483648 q (omega arith)
    ∙ ap (cond (q == 29) 2147483648) (get_set (slice_set (slice_set zeros 22 low) 23 end) 28 536870912 q (omega arith)
    ∙ ap (cond (q == 28) 536870912) (get_set (slice_set zeros 22 low) 23 end q (omega arith)
    ∙ ap (cond (q == 23) end) (get_set zeros 22 low q (omega arith)
    ∙ ap (cond (q == 22) low) (get_zeros 32 q))))

-- no two of them are the same
in_order : (low end q : ℕ) → cond (q == 29) 2147483648 (cond (q == 28) 536870912 (cond (q == 23) end (cond (q == 22) low 0)))
    ≡ cond (q == 22) low (cond (q == 23) end (cond (q == 28) 536870912 (cond (q == 29) 2147483648 0)))
in_order low end q = grind arith

abbrev core_with : Registers → ℕ → Bytes → Core
core_with registers pc bytes = record { registers = registers; hi = 0; lo = 0; pc = pc; memory = bytes }

-- the state of a processor with these registers
pub start_is : (image : ImageParts) (heap stack entry : ℕ) (m : MemoryParts) → entry ≡ image.entry → bytes_of m ≡ bytes_of_image image
    → core_of (record { registers = first_registers (2147483648 - stack) (536870912 + heap); hi = 0; lo = 0; pc = entry; memory = m })
    ≡ start_core image (segments_of image heap stack)
start_is image heap stack entry m same_entry same_bytes =
    let registers : (λ q. get_or (first_registers (2147483648 - stack) (536870912 + heap)) q 0) ≡ start_registers (segments_of image heap stack)
    = fun_ext (λ q. started (2147483648 - stack) (536870912 + heap) q ∙ in_order (2147483648 - stack) (536870912 + heap) q) in
    ap (λ r. core_with r entry (bytes_of m)) registers
    ∙ (ap (λ a. core_with (start_registers (segments_of image heap stack)) a (bytes_of m)) same_entry
    ∙ ap (core_with (start_registers (segments_of image heap stack)) image.entry) same_bytes)
