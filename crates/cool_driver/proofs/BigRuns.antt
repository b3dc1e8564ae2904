-- The status and the output of a machine that ran an image on empty input are those of the specified run of the image, unless a write of its output failed.
use Rattle.std.proofs.Common.{◌≡◌, ◌∙◌, sym, ap, subst, ℕ, ◌<◌, ◌≤◌, List, [], length, arith, refl}
use Rattle.std.specs.Prelude.{Option, Some}
use Rattle.cool_ports.specs.SinkBytes.{appended}
use Rattle.mips_isa.specs.{ImageBounds.{ImageParts}, Calls.{Outcome, Running, Exited, Trapped}, Run.{start}}
use Rattle.spim_machine.specs.{declared.halt.Halt.{Halt}, MachineStates.{MachineParts, IsIn}, Ends.{Counted, Ran}}
use Rattle.spim_machine.specs.declared.halt.Halt.TheVariants as halts
use Rattle.cool_words.specs.declared.plan.RunLimits.{RunLimits}
use Rattle.cool_driver.specs.{Execution.{run_of, segments_within, status_of, status_of_halt}, commands.Big.{RunsTo}, commands.Big.RunsTo.{counted, too_long}}
use Rattle.cool_driver.specs.declared.TheConstants.{MOST_BIG_OUTPUT}
use Rattle.spim_debug.specs.Notes.{state_in}

-- A run ended as the machine halted, and the sink holds its output.
pub record IsOutcome (o : Outcome) (halt : Halt) (held : List ℕ) : Type 0 where
  pub status : status_of o ≡ status_of_halt halt
  pub output : (state_in o).output ≡ held

module _ (limits : RunLimits) (image : ImageParts) (m : MachineParts) (left : Option (List ℕ)) (held : List ℕ) where
  came_to : (halt : Halt) (o : Outcome) → run_of limits image [] ≡ o → status_of o ≡ status_of_halt halt → IsIn (Some []) (state_in o) m left (Some held)
      → IsOutcome (run_of limits image []) halt held
  unfolding appended
  came_to halt o ran status is = record {
    status = ap status_of ran ∙ status;
    output = ap (λ (x : Outcome). (state_in x).output) ran ∙ (let same = is.output in cc);
  }

  -- the end of a run on empty input, with a sink that held nothing
  ended : (halt : Halt) → Ran image.text (segments_within limits image) limits.steps (start image (segments_within limits image) []) (Some []) halt m left (Some held)
      → (before after : ℕ) → Counted halt 0 0 before after → (halt ≡ halts.WriteFault → ⊥) → IsOutcome (run_of limits image []) halt held
  unfolding run_of
  ended (halts.Exit code) (end, ran, is) before after count whole = came_to (halts.Exit code) (Exited code end) ran refl is
  ended (halts.Trap trap) (end, ran, is) before after count whole = came_to (halts.Trap trap) (Trapped trap end) ran refl is
  ended halts.StepLimit (end, ran, is) before after count whole = came_to halts.StepLimit (Running end) ran refl is
  ended halts.ReadFault ran before after count whole = absurd (omega (arith, count.0.more (omega arith)))
  ended halts.WriteFault ran before after count whole = absurd (whole refl)

  pub outcome : (halt : Halt) (first : List ℕ)
      → Ran image.text (segments_within limits image) limits.steps (start image (segments_within limits image) []) (Some first) halt m left (Some held) → first ≡ []
      → (before after : ℕ) → Counted halt 0 0 before after → (halt ≡ halts.WriteFault → ⊥) → IsOutcome (run_of limits image []) halt held
  outcome halt first ran empty = ended halt (rw empty at ran)

-- its output is within what is counted
pub counted_run : (o : Outcome) (halt : Halt) (held : List ℕ) (status : ℕ) → IsOutcome o halt held → length held ≤ MOST_BIG_OUTPUT
    → status ≡ status_of_halt halt → RunsTo o (length held) status
counted_run o halt held status is small same =
    subst (λ (xs : List ℕ). length xs ≤ MOST_BIG_OUTPUT → RunsTo o (length xs) status) is.output
    (λ few. subst (RunsTo o (length (state_in o).output)) (is.status ∙ sym same) (counted few)) small

-- or it is longer
pub long_run : (o : Outcome) (halt : Halt) (held : List ℕ) → IsOutcome o halt held → MOST_BIG_OUTPUT < length held → RunsTo o MOST_BIG_OUTPUT 8
long_run o halt held is more = too_long (omega (arith, ap length is.output, more))
