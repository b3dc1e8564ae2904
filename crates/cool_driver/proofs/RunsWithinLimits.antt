-- A machine loaded with an image and limits runs as the specification of running this image within the limits says.
use Rattle.std.proofs.Common.{◌≡◌, ◌∙◌, refl, ℕ, List, []}
use Rattle.std.specs.Prelude.{Option, Some}
use Rattle.mips_isa.specs.{ImageBounds.{ImageParts}, Bytes.{Segments, segments_of}, Calls.{State}, Run.{run, start}}
use Rattle.spim_memory.specs.Memory.{segments}
use Rattle.spim_machine.specs.{declared.halt.Halt.{Halt}, MachineStates.{MachineParts, state_of, IsIn}, Ends.{Ran}}
use Rattle.spim_machine.proofs.LoadedRuns.{loaded_so}
use Rattle.cool_words.specs.declared.plan.RunLimits.{RunLimits}
use Rattle.cool_driver.specs.Execution.{heap_of, run_of, segments_within, stack_of}

pub run_of-is : (limits : RunLimits) (image : ImageParts) (input : List ℕ)
    → run_of limits image input ≡ run image.text (segments_within limits image) limits.steps (start image (segments_within limits image) input)
unfolding run_of
run_of-is limits image input = refl

-- a property of the runs of a machine that was loaded with the limits in bytes holds for that of the image
pub loaded_within : (limits : RunLimits) (image : ImageParts) (heap stack : ℕ) (loaded : MachineParts) (input : List ℕ) (left held : Option (List ℕ))
    (P : List ℕ → Segments → State → Option (List ℕ) → Type 0)
    → heap ≡ heap_of limits → stack ≡ stack_of limits
    → state_of loaded input [] ≡ start image (segments_of image heap stack) input → loaded.cpu.memory.text ≡ image.text → segments loaded.cpu.memory ≡ segments_of image heap stack
    → left ≡ Some input
    → ((first : Option (List ℕ)) (s : State) → IsIn first s loaded left held → P loaded.cpu.memory.text (segments loaded.cpu.memory) s first)
    → P image.text (segments_within limits image) (start image (segments_within limits image) input) held
loaded_within limits image heap stack loaded input left held P least most state text same =
    loaded_so image (segments_within limits image) loaded input left held P
    (state ∙ λ i. start image (segments_of image (least i) (most i)) input) text (same ∙ λ i. segments_of image (least i) (most i))

-- so that it ends as that of the image
pub ran_within : (limits : RunLimits) (image : ImageParts) (heap stack : ℕ) (loaded m : MachineParts) (n : ℕ) (input : List ℕ) (halt : Halt) (left held left' held' : Option (List ℕ))
    → heap ≡ heap_of limits → stack ≡ stack_of limits
    → state_of loaded input [] ≡ start image (segments_of image heap stack) input → loaded.cpu.memory.text ≡ image.text → segments loaded.cpu.memory ≡ segments_of image heap stack
    → left ≡ Some input
    → ((first : Option (List ℕ)) (s : State) → IsIn first s loaded left held → Ran loaded.cpu.memory.text (segments loaded.cpu.memory) n s first halt m left' held')
    → Ran image.text (segments_within limits image) n (start image (segments_within limits image) input) held halt m left' held'
ran_within limits image heap stack loaded m n input halt left held left' held' =
    loaded_within limits image heap stack loaded input left held (λ text b s first. Ran text b n s first halt m left' held')
