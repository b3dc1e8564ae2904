-- A call that ran an image ends with the specified status, output, message on standard error, and rest of the input, or reports that a read or write failed.
use Rattle.std.proofs.Common.{List, Option, Some, [], arith, inl, inr, refl, ℕ, ◌∙◌, ◌≡◌, ◌⊎◌}
use Rattle.cool_words.specs.declared.plan.RunLimits.{RunLimits}
use Rattle.mips_isa.specs.{Calls.{Exited, Outcome, Running, State, Trapped}, ImageBounds.{ImageParts}, Run.{start}}
use Rattle.spim_machine.specs.{Ends.{Counted, FailsReading, Ran}, MachineStates.{IsIn, MachineParts}, declared.halt.Halt.{Halt}}
use Rattle.cool_driver.specs.{Calls.{Call}, Comes.{Comes}, Does.{Goes}, Execution.{note_of, run_of, segments_within, status_of}, Runs.{DueToRun, PiecesOfRun}, Statuses.{code_of}}
use Rattle.cool_driver.specs.{Telling.{HaltNoted}, declared.status.Status.{Status}}
use Rattle.cool_driver.proofs.{DevicesOfCalls.{IsFinished, cut_goes, due_finished, finished_goes, got_alone, halt_noted}, RunsWithinLimits.{run_of-is}}
use Rattle.cool_driver.proofs.StatusesOfRuns.{IsOneOf, end_status, good_status}
use Rattle.spim_debug.specs.Notes.{state_in}

-- the status of what is due for a run
pub run_status : {limits : RunLimits} {image : ImageParts} {input : List ℕ} {status : ℕ} {output note left : List ℕ}
    → DueToRun limits image input status output note left → IsOneOf status
run_status {limits} {image} {input} DueToRun.ended = (end_status (run_of limits image input)).0
run_status (DueToRun.unread at output left comes fails) = grind arith

-- it is that of the run's end, unless a read failed
pub run_so : {limits : RunLimits} {image other : ImageParts} {input : List ℕ} {status : ℕ} {output note left : List ℕ} → image ≡ other
    → DueToRun limits image input status output note left → (status ≡ 7) ⊎ (status ≡ status_of (run_of limits other input))
run_so same DueToRun.ended = inr (rw same refl)
run_so same (DueToRun.unread at output left comes fails) = inl refl

-- equal told lists have equal contents
pub some_same : (a b : List ℕ) → Some a ≡ Some b → a ≡ b
some_same a b e = cc

-- with another sink the same read fails
pub fails_alone : {does : List ℕ → Outcome} {s : State} {first left held : Option (List ℕ)} → FailsReading does s first left held
    → FailsReading does s (Some []) left (Some s.output)
fails_alone {s = s} fails = record {
  not_ended = fails.not_ended;
  front = fails.front;
  rest = fails.rest;
  cut = fails.cut;
  asks = fails.asks;
  left_is = fails.left_is;
  held_is = got_alone s.output;
}

module _ {limits : RunLimits} {image : ImageParts} {c : Call} (shelf : c.request.faults_after ≡ c.request.faults_before) where
  -- the run came to that end
  finished_at : (o : Outcome) {last : MachineParts} → run_of limits image c.request.input ≡ o
      → IsIn c.out.held_before (state_in o) last (Some c.left) c.out.held_after
      → (c.input_after ≡ c.input_before) × (c.out.faults_after ≡ c.out.faults_before)
      → IsFinished (Comes (DueToRun limits image c.request.input) (PiecesOfRun limits image c.request.input)) c (status_of o) [] (note_of o)
  finished_at o ran stands counted =
      let row : DueToRun limits image c.request.input (status_of o) (state_in o).output (note_of o) (state_in o).input = rw (← ran) DueToRun.ended in
      let known = end_status o in
      due_finished (λ s comes. comes) (omega arith) (good_status shelf known.0) (rw (some_same _ _ stands.input) row) (stands.output, counted.1)
      (inl (known.1, counted.0))

  -- the run of the image ends the call
  pub run_goes : (halt : Halt) (last : MachineParts) {answered : Status}
      → Ran image.text (segments_within limits image) limits.steps (start image (segments_within limits image) c.request.input) c.out.held_before halt last (Some c.left) c.out.held_after
      → Counted halt c.input_before c.input_after c.out.faults_before c.out.faults_after → HaltNoted c.notes halt answered
      → Goes (Comes (DueToRun limits image c.request.input) (PiecesOfRun limits image c.request.input)) c (code_of answered)
  run_goes (Halt.Exit code) last (end, ran, stands) counted noted =
      finished_goes (finished_at (Exited code end) (run_of-is limits image _ ∙ ran) stands counted) (halt_noted (Halt.Exit code) noted)
  run_goes (Halt.Trap trap) last (end, ran, stands) counted noted =
      finished_goes (finished_at (Trapped trap end) (run_of-is limits image _ ∙ ran) stands counted) (halt_noted (Halt.Trap trap) noted)
  run_goes Halt.StepLimit last (end, ran, stands) counted noted =
      finished_goes (finished_at (Running end) (run_of-is limits image _ ∙ ran) stands counted) (halt_noted Halt.StepLimit noted)
  run_goes Halt.ReadFault last (at, comes, (fails, machine)) counted noted =
      finished_goes
      (due_finished (λ s comes. comes) (omega arith) (good_status shelf (grind arith)) (DueToRun.unread at at.output c.left comes (fails_alone fails))
      (fails.held_is, counted.1) (inr (refl, counted.0)))
      (halt_noted Halt.ReadFault noted)
  run_goes Halt.WriteFault last (at, comes, (fails, machine)) counted (inl (is, got)) =
      rw is (cut_goes (omega arith) counted got.1
      (Comes.unwritten at.output fails.bytes (rw (some_same _ _ fails.left_is) (PiecesOfRun.of_call at fails.bytes comes fails.prints)) (fails.held_is, counted.1) got))
  run_goes Halt.WriteFault last ran counted (inr (is, some, part)) = absurd (some refl)
