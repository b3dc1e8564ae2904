-- If a property holds for the runs of a machine from each state that it may be in after an image (an executable program) was loaded, it holds for the run of
-- this image.
use Rattle.std.proofs.Common.{◌≡◌, refl, sym, subst, ℕ, List, []}
use Rattle.std.specs.Prelude.{Option, Some}
use Rattle.cool_ports.proofs.GettingBytes.{appended-nil}
use Rattle.mips_isa.specs.ImageBounds.{ImageParts}
use Rattle.mips_isa.specs.Bytes.{Segments}
use Rattle.mips_isa.specs.Calls.{State}
use Rattle.mips_isa.specs.Run.{start}
use Rattle.spim_memory.specs.Memory.{segments}
use Rattle.spim_machine.specs.MachineStates.{MachineParts, state_of, IsIn}

-- a machine is in the state without output that has its parts, where its sink got nothing yet
in_own_state : (m : MachineParts) (input : List ℕ) (left held : Option (List ℕ)) → left ≡ Some input → IsIn held (state_of m input []) m left held
in_own_state m input left held given = record { core = refl; heap_break = refl; ended = refl; input = given; output = sym (appended-nil held) }

-- a property of each state that such a machine is in holds from the start of the image's run
pub loaded_so : (image : ImageParts) (b : Segments) (loaded : MachineParts) (input : List ℕ) (left held : Option (List ℕ)) (P : List ℕ → Segments → State → Option (List ℕ) → Type 0)
    → state_of loaded input [] ≡ start image b input → loaded.cpu.memory.text ≡ image.text → segments loaded.cpu.memory ≡ b → left ≡ Some input
    → ((first : Option (List ℕ)) (s : State) → IsIn first s loaded left held → P loaded.cpu.memory.text (segments loaded.cpu.memory) s first)
    → P image.text b (start image b input) held
loaded_so image b loaded input left held P state text same given holds =
    subst (λ (s : State). P image.text b s held) state
    (subst (λ (c : Segments). P image.text c (state_of loaded input []) held) same
    (subst (λ (t : List ℕ). P t (segments loaded.cpu.memory) (state_of loaded input []) held) text
    (holds held (state_of loaded input []) (in_own_state loaded input left held given))))
