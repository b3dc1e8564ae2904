-- `IsRunnable` relates the bytes of a file to the image that `exec` runs: the bytes encode the image, or are assembly text for it. `run_of` is the run of an
-- image within limits, and `status_of` and `note_of` give its exit status and message.
use Rattle.std.specs.Prelude.{◌≡◌, ℕ, ◌*◌, ◌==◌, ◌⊎◌, not, if◌then◌else◌, Bool, true, List, [], ◌∷◌, None, Some}
use Rattle.mips_isa.specs.{ImageBounds.{ImageParts, IsImage}, Bytes.{Segments, segments_of}, Lines.{Line}, Assembly.{fault_of, image_of}, declared.asm_fault.AsmFault.{AsmFault}}
use Rattle.mips_isa.specs.{Calls.{State, Outcome, Running, Exited, Trapped}, Run.{start, run_image}}
use Rattle.mips_text.specs.Reading.{Reads, FirstFault}
use Rattle.mips_image.specs.ImageBytes.{IsVersion, image_bytes, HasWords}
use Rattle.spim_machine.specs.{Ends.{ComesToCall}, declared.halt.Halt.{Halt}, declared.halt.Halt.TheVariants.{Exit, Trap, StepLimit, ReadFault, WriteFault}}
use Rattle.cool_words.specs.declared.plan.RunLimits.{RunLimits}
use Rattle.cool_driver.specs.Statuses.{DONE, FAILED, HEAP_LIMIT, STACK_LIMIT, STEP_LIMIT, READ_FAULT, WRITE_FAULT, TRAPPED}
use Rattle.cool_driver.specs.Notes.{heap_limit_note, stack_limit_note, step_limit_note, read_fault_note, trap_note}

-- The bytes are those of this image, in version 1 or 2.
pub record IsImageOf (image : ImageParts) (bytes : List ℕ) : Type 0 where
  pub bounds : IsImage image
  pub words : HasWords image
  pub version : ℕ
  pub known : IsVersion version
  pub bytes_are : bytes ≡ image_bytes version image

-- a file whose first byte is 127 is taken for an image, and every other one for a text of assembly
abbrev pub is_text_file : List ℕ → Bool
is_text_file [] = true
is_text_file (b ∷ rest) = not (b == 127)

-- The image is that of the lines of assembly that the bytes are, which have no fault.
pub record IsAssembled (image : ImageParts) (bytes : List ℕ) : Type 0 where
  pub text : is_text_file bytes ≡ true
  pub lines : List Line
  pub reads : Reads bytes lines
  pub no_fault : fault_of lines ≡ None
  pub image_is : image ≡ image_of lines

-- the fault of a text: its first fault of reading, or the first one of assembling its lines
abbrev pub IsTextFault : List ℕ → AsmFault → Type 0
IsTextFault bytes fault = FirstFault bytes fault ⊎ ((lines : List Line) × Reads bytes lines × (fault_of lines ≡ Some fault))

-- the image that `exec` runs for a file with these bytes
abbrev pub IsRunnable : ImageParts → List ℕ → Type 0
IsRunnable image bytes = IsImageOf image bytes ⊎ IsAssembled image bytes

-- the bytes of heap and stack
abbrev pub heap_of : RunLimits → ℕ
heap_of limits = limits.heap_kib * 1024

abbrev pub stack_of : RunLimits → ℕ
stack_of limits = limits.stack_kib * 1024

-- the segments within limits
abbrev pub segments_within : RunLimits → ImageParts → Segments
segments_within limits image = segments_of image (heap_of limits) (stack_of limits)

-- the run of an image over an input, within limits
unfoldable pub run_of : RunLimits → ImageParts → List ℕ → Outcome
run_of limits image input = run_image image (heap_of limits) (stack_of limits) input limits.steps

-- this run comes to a system call in this state
abbrev pub ComesTo : RunLimits → ImageParts → List ℕ → State → Type 0
ComesTo limits image input at =
    ComesToCall image.text (segments_within limits image) limits.steps (start image (segments_within limits image) input) at

-- 0, 4 and 5 are exit codes of their own, and every other one is a failure
abbrev pub exit_status : ℕ → ℕ
exit_status code = if code == 0 then DONE else (if code == 4 then HEAP_LIMIT else (if code == 5 then STACK_LIMIT else FAILED))

abbrev pub status_of : Outcome → ℕ
status_of (Running s) = STEP_LIMIT
status_of (Exited code s) = exit_status code
status_of (Trapped trap s) = TRAPPED

-- the status for how a machine halted, where a read or a write may have failed
abbrev pub status_of_halt : Halt → ℕ
status_of_halt (Exit code) = exit_status code
status_of_halt (Trap trap) = TRAPPED
status_of_halt StepLimit = STEP_LIMIT
status_of_halt ReadFault = READ_FAULT
status_of_halt WriteFault = WRITE_FAULT

-- the note of an exit, and of a run's end
abbrev pub exit_note : ℕ → List ℕ
exit_note code = if code == 4 then heap_limit_note else (if code == 5 then stack_limit_note else [])

abbrev pub note_of : Outcome → List ℕ
note_of (Running s) = step_limit_note
note_of (Exited code s) = exit_note code
note_of (Trapped trap s) = trap_note trap

-- the note for how a machine halted; after a failed write there is none
abbrev pub note_of_halt : Halt → List ℕ
note_of_halt (Exit code) = exit_note code
note_of_halt (Trap trap) = trap_note trap
note_of_halt StepLimit = step_limit_note
note_of_halt ReadFault = read_fault_note
note_of_halt WriteFault = []
