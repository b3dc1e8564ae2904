-- `Headline` states the main theorem about `run` and `debug` for accepted files: the call behaves as the run of an image that is a correct compilation of the
-- program. So within its limits its output, its end and the rest of its input are those of the source program.
use Rattle.std.specs.Prelude.{◌≡◌, ◌≢◌, ℕ, ◌+◌, ◌⊎◌, List, [], Some}
use Rattle.cool_classes.specs.Chains.{Class}
use Rattle.cool_eval.specs.Ends.{IsPart}
use Rattle.cool_meaning.specs.SourceRun as source
use Rattle.cool_simulation.specs.Accord.{Limits, Accord, Means}
use Rattle.cool_words.specs.declared.plan.RunLimits.{RunLimits}
use Rattle.mips_isa.specs.{ImageBounds.{ImageParts}, Calls.{State, call, print}}
use Rattle.spim_machine.specs.Ends.{FailsReading, call_with}
use Rattle.cool_driver.specs.{Calls.{Call, Got, GotPart}, Statuses.{READ_FAULT, WRITE_FAULT}, Execution.{heap_of, stack_of, segments_within, run_of, ComesTo, status_of}}
use Rattle.spim_debug.specs.Notes.{state_in}

-- the limits of a run, in bytes and instructions
abbrev pub limits_of : RunLimits → Limits
limits_of limits = record { heap = heap_of limits; stack = stack_of limits; budget = limits.steps }

-- The call ended as the run of an image within the limits: with its status, its output and what it left of the input.
pub record EndsAsImage (c : Call) (status : ℕ) (limits : RunLimits) (image : ImageParts) : Type 0 where
  pub status_is : status ≡ status_of (run_of limits image c.request.input)
  pub wrote : Got c.out (state_in (run_of limits image c.request.input)).output
  pub leaves : c.left ≡ (state_in (run_of limits image c.request.input)).input

-- The run comes to a system call that reads, and the read failed: the output up to there came, and the call took a part of what it takes.
pub record StopsReading (c : Call) (limits : RunLimits) (image : ImageParts) : Type 0 where
  pub at : State
  pub comes : ComesTo limits image c.request.input at
  pub fails : FailsReading (call_with (segments_within limits image) at) at (Some []) (Some c.left) (Some at.output)
  pub wrote : Got c.out at.output

-- The run comes to a system call that prints, and the write failed: the output up to there came, and a prefix of the call's bytes.
pub record StopsWriting (c : Call) (limits : RunLimits) (image : ImageParts) : Type 0 where
  pub at : State
  pub bytes : List ℕ
  pub comes : ComesTo limits image c.request.input at
  pub prints : call (segments_within limits image) at ≡ print at bytes
  pub wrote : GotPart c.out at.output bytes
  pub leaves : c.left ≡ at.input

-- the output of the call and the input that it left accord with the runs of the source
abbrev pub AccordsWith : (ℕ → source.Run) → Call → ℕ → RunLimits → Type 0
AccordsWith runs c status limits = (output : List ℕ) × Got c.out output × Accord runs (limits_of limits) status output c.left

-- the output and the input taken are parts of those of the run of the source with a step more than instructions
abbrev pub IsPartOfSource : Call → RunLimits → List (List ℕ) → List Class → Type 0
IsPartOfSource c limits names p =
    IsPart (source.run p names c.request.input (limits.steps + 1)) c.out.held_before c.left c.out.held_after

-- The end of a call of `run` for a program with a status other than 9, and of one of `debug`, unless it stops short.
pub record Headline (c : Call) (status : ℕ) (limits : RunLimits) (names : List (List ℕ)) (p : List Class) : Type 0 where
  -- there is an image that means the program
  pub image : ImageParts
  pub means : Means image p names
  -- if no read and no write failed, the call ended as its run, and in accord with the runs of the source
  pub ended : status ≢ READ_FAULT → status ≢ WRITE_FAULT → EndsAsImage c status limits image
  pub accords : status ≢ READ_FAULT → status ≢ WRITE_FAULT → AccordsWith (source.run p names c.request.input) c status limits
  -- status 7: a read of its run failed
  pub unread : status ≡ READ_FAULT → StopsReading c limits image
  -- status 8: a write of its run failed, or that of the note, and then all else is as it would have been
  pub unwritten : status ≡ WRITE_FAULT
      → StopsWriting c limits image ⊎ (StopsReading c limits image ⊎ ((due : ℕ) × EndsAsImage c due limits image × AccordsWith (source.run p names c.request.input) c due limits))
  -- whatever failed, what came and was taken is a part of what the run of the source with a step more than instructions writes and takes
  pub part : IsPartOfSource c limits names p
