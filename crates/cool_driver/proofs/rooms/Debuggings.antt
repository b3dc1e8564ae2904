-- A call of `debug` that ran the program under the debugger, or reported why not, satisfies the postcondition `DebugEnds` of the command.
use Rattle.std.specs.Prelude.{◌∷◌, codes}
use Rattle.cool_driver.specs.Sources.{EndsWith, AreKnown, FilesExactly, IsNoProgram, IsProgram}
use Rattle.cool_sources.specs.Reading.{IsCause}
use Rattle.cool_driver.specs.{Calls.{Call, DidNothing, Got, Request, ShelfUse, SinkUse, UnlessCutShort, shelf_of}, Comes.{Comes, NoPieces}}
use Rattle.cool_driver.specs.{Debugging.{commands_for, debug_notes, debuggee_within}, Does.{Goes}}
use Rattle.cool_driver.specs.Execution.{heap_of, note_of, note_of_halt, run_of, segments_within, stack_of, status_of, status_of_halt}
use Rattle.cool_driver.specs.{Headline.{EndsAsImage, Headline, IsPartOfSource, StopsReading}, Notes.{missing_note, refused_note, script_note, too_large_note, unread_note}}
use Rattle.cool_driver.specs.{Refusals.{IsLine, IsTold}, Statuses.{FILE_FAULT, code_of}, Telling.{HaltNoted, fault_note}}
use Rattle.cool_driver.specs.commands.Debug.{DebugComes, DebugEnds, Debugs, DueToUndebugged, Finished, IsDebuggee, IsDueToScript, IsDueUnscripted, IsNoDebuggee, ScriptIsKnown, ScriptIsRead, ScriptIsUnread, Stopped, StopsShort}
use Rattle.cool_driver.specs.{declared.commands.debug.Scripted.{Scripted}, declared.refusal.Refusal.{Refusal}, declared.status.Status.{Status}}
use Rattle.cool_driver.proofs.{LinesOfNotes.{ends_after, feed, file_line}, ComesOfRefusals.{IsRefusalStatus, refused_status}, ComesOfRuns.{fails_alone, some_same}}
use Rattle.cool_driver.proofs.DevicesOfCalls.{IsFinished, IsNoted, came, cut_goes, finished_goes, short_goes}
use Rattle.cool_driver.proofs.HeadlineOfRuns.{headline_ended, headline_unread, headline_unwritten, noteless_ended, noteless_unread, part_of_source}
use Rattle.cool_driver.proofs.{RefusalsTold.{line_told, told_so}, RunsWithinLimits.{run_of-is}}
use Rattle.cool_driver.proofs.SourcesOfCalls.{WereRead, files_told, no_refusal, program_faultless, read_for, refused_with, same_program}
use Rattle.cool_driver.proofs.HeldFiles.{ends_same, held_length, not_gone, not_large}
use Rattle.cool_driver.proofs.StatusesOfRuns.{IsOneOf, end_status, good_status}
use Rattle.std.proofs.Common.{Err, IfErr, IfOk, List, Ok, Option, Result, Some, [], ap, arith, inl, inr, length, refl, subst, sym, ℕ, ◌∙◌, ◌≡◌, ◌≢◌, ◌⊎◌}
use Rattle.cool_classes.specs.Chains.{Class}
use Rattle.cool_emit.specs.Programs.{program_lines}
use Rattle.cool_faults.specs.{Shown.{shown}, Verdicts.{IsAccepted, IsFaultList}, declared.fault.Fault.{Fault}}
use Rattle.cool_ports.proofs.GettingBytes.{appended-appended, appended-nil}
use Rattle.cool_ports.specs.{Counts.{Rose}, ShelfFiles.{FileMap}, SinkBytes.{appended}, declared.shelf.ShelfFault.{ShelfFault}}
use Rattle.cool_simulation.specs.Accord.{Means}
use Rattle.cool_syntax.specs.declared.TheConstants.{MOST_SOURCE_BYTES}
use Rattle.cool_words.specs.{Plans.{IsBounded}, declared.plan.RunLimits.{RunLimits}}
use Rattle.mips_isa.specs.{Assembly.{image_of}, Calls.{Exited, Outcome, Running, Trapped}, ImageBounds.{ImageParts}, Lines.{Line}, Run.{start}}
use Rattle.spim_debug.specs.{Debugging.{CountedBy, Debugged, StandsEarlier, debuggee}, Scripts.{commands_in, place_of}, declared.debugger.DebugEnd.{DebugEnd}}
use Rattle.spim_debug.specs.{declared.script.DebugCommand.{DebugCommand}, declared.script.ScriptFault.{ScriptFault}, declared.script.TheConstants.{MOST_SCRIPT_BYTES}}
use Rattle.spim_debug.specs.Notes.{state_in}
use Rattle.spim_machine.specs.{MachineStates.{IsIn, MachineParts}, declared.halt.Halt.{Halt}}
use Rattle.spim_debug.proofs.RunsLeft.{left_between, written_between}
use Rattle.lists.specs.Bytes.{AreBytes}

-- The script

-- the commands that a script gives for lines are those for the program of these lines
pub said_for : (lines : List Line) (p : List Class) (names : List (List ℕ)) (script : List ℕ) → lines ≡ program_lines p names
    → commands_for p names script ≡ commands_in (place_of lines) script
unfolding commands_for
said_for lines p names script same = rw (← same)

-- why it was not read, and its note
pub script_told : (shelf : ShelfUse) (script : List ℕ) (fault : ShelfFault) (refusal : Refusal) → EndsWith (script ∷ []) shelf.asked_after
    → IsCause shelf.files shelf.faults_before shelf.faults_after script MOST_SCRIPT_BYTES fault
    → ((note : List ℕ) → fault_note script fault ≡ Some note → IsLine Status.FileFault note refusal) → IsTold (IsDueUnscripted shelf script) refusal
script_told shelf script ShelfFault.Missing refusal asked cause line =
    line_told (IsDueUnscripted shelf script) Status.FileFault (missing_note script) refusal (file_line (shown script) (codes ": missing")) (refl, ScriptIsUnread.missing asked cause) (line (missing_note script) refl)
script_told shelf script ShelfFault.Failed refusal asked cause line =
    line_told (IsDueUnscripted shelf script) Status.FileFault (unread_note script) refusal (file_line (shown script) (codes ": read failed")) (refl, ScriptIsUnread.unread asked cause) (line (unread_note script) refl)
script_told shelf script ShelfFault.TooLarge refusal asked cause line =
    line_told (IsDueUnscripted shelf script) Status.FileFault too_large_note refusal (ends_after (codes "cool: files too large") (codes "\n") feed) (refl, ScriptIsUnread.too_large asked cause) (line too_large_note refl)
script_told shelf script ShelfFault.Memory refusal asked cause line = absurd cause

-- The debugged image, or the reason why there is none

-- the image of a program, and what the script says for it
pub debuggee_if : {script bytes : List ℕ} {names : List (List ℕ)} {shelf : ShelfUse} {p : List Class} (result : Result Scripted Refusal)
    → ScriptIsRead shelf script bytes → (is : IsProgram shelf names p) → EndsWith (bytes ∷ is.contents) shelf.gave_after → Means (image_of (program_lines p names)) p names
    → IfOk result (λ x. x.image ≡ image_of (program_lines p names)) → IfOk result (λ x. commands_for p names bytes ≡ Ok x.commands.items)
    → IfOk result (λ x. IsDebuggee script names shelf x.image x.commands.items)
debuggee_if (Ok x) read is gave means made says =
    record { bytes = _; read = read; p = _; is = is; gave = gave; says = says; image_is = made; means = rw made means }
debuggee_if (Err refusal) read is gave means made says = tt

-- the script has a fault
pub misscripted_if : {script bytes : List ℕ} {names : List (List ℕ)} {shelf : ShelfUse} {p : List Class} (result : Result Scripted Refusal)
    → ScriptIsRead shelf script bytes → (is : IsProgram shelf names p) → EndsWith (bytes ∷ is.contents) shelf.gave_after → IfErr result (IsTold (IsDueToScript script bytes names p))
    → IfErr result (IsTold (IsNoDebuggee script names shelf))
misscripted_if (Ok x) read is gave h = tt
misscripted_if {script} {bytes} {names} {shelf} {p} (Err refusal) read is gave h =
    told_so (IsDueToScript script bytes names p) (IsNoDebuggee script names shelf) refusal (λ status note why. rw (why.2, why.3) (IsNoDebuggee.misscripted _ _ why.0 read is gave why.1)) h

-- the status where nothing is debugged
pub undebugged_status : {script : List ℕ} {names : List (List ℕ)} {r : Request} {status : ℕ} {note : List ℕ}
    → IsNoDebuggee script names (shelf_of r) status note → IsRefusalStatus r status
undebugged_status (IsNoDebuggee.too_many many calm) = grind arith
undebugged_status (IsNoDebuggee.unscripted note few why) = grind arith
undebugged_status (IsNoDebuggee.refused bytes status note read why) = refused_status why
undebugged_status (IsNoDebuggee.misscripted bytes p fault read is gave says) = let calm = is.read.calm in grind arith

-- The run under the debugger

-- the machine's halt was noted after these notes, or that write failed
noted_behind : {c : Call} (mid : Option (List ℕ)) (failed : ℕ) (answered : Status) (halt : Halt) (notes : List ℕ) → mid ≡ appended c.notes.held_before notes
    → failed ≡ c.notes.faults_before → HaltNoted (record c.notes { held_before = mid; faults_before = failed }) halt answered
    → IsNoted c (status_of_halt halt) notes (note_of_halt halt) (code_of answered)
noted_behind mid failed answered halt notes is calm (inl (status, got)) =
    rw status (IsNoted.noted (got.0 ∙ ap (λ (held : Option (List ℕ)). appended held (note_of_halt halt)) is ∙ appended-appended _ notes _, got.1 ∙ calm))
noted_behind mid failed answered halt notes is calm (inr (status, some, part)) =
    rw status (IsNoted.failed (rw (appended-nil mid ∙ is) at part.0, rw calm at part.1))

module _ {limits : RunLimits} {image : ImageParts} {commands : List DebugCommand} {c : Call} where
  -- the stop of a debugger that was given the limits in bytes
  pub stopped_at : {heap stack : ℕ} {how how' : DebugEnd} {notes : SinkUse} → heap ≡ heap_of limits → stack ≡ stack_of limits → how ≡ how'
      → Debugged (debuggee image heap stack limits.steps c.request.input) commands how c.out.held_before (Some c.left) c.out.held_after notes.held_before notes.held_after
      → CountedBy how c.input_before c.input_after c.out.faults_before c.out.faults_after notes.faults_before notes.faults_after
      → Stopped limits image commands c how' notes
  stopped_at least most same went counted = record { debugged = rw (least, most, same) at went; counted = rw same at counted }

module _ {limits : RunLimits} {image : ImageParts} {commands : List DebugCommand} {c : Call} (shelf : c.request.faults_after ≡ c.request.faults_before) where
  -- the note of the end is due
  end_due : {status : ℕ} {notes note : List ℕ} → Finished limits image commands c status notes note → IsOneOf status → c.out.faults_after ≡ c.out.faults_before
      → (status ≢ 7) × (c.input_after ≡ c.input_before) ⊎ (status ≡ 7) × Rose c.input_before c.input_after
      → IsFinished (Debugs limits image commands) c status notes note
  end_due is known out input = record {
    shelf = omega arith;
    known = good_status shelf known;
    out = out;
    input = input;
    whole = λ got. Debugs.written _ _ _ is got;
    cut = λ part. Debugs.unnoted _ _ _ is part;
  }

  -- the run came to that end
  finished_at : (o : Outcome) {last : MachineParts} → run_of limits image c.request.input ≡ o
      → IsIn c.out.held_before (state_in o) last (Some c.left) c.out.held_after → (c.input_after ≡ c.input_before) × (c.out.faults_after ≡ c.out.faults_before)
      → IsFinished (Debugs limits image commands) c (status_of o) (debug_notes limits image commands c.request.input) (note_of o)
  finished_at o ran stands counted =
      let known = end_status o in
      end_due (rw (← ran) (Finished.debugged (rw ran (stands.output, counted.1)) (rw ran (some_same _ _ stands.input)))) known.0 counted.1 (inl (known.1, counted.0))

  module _ (mid : Option (List ℕ)) (failed : ℕ) (answered : Status) where
    -- the machine halted
    pub halted_goes : (halt : Halt) → Stopped limits image commands c (DebugEnd.Halt halt) (record c.notes { held_after = mid; faults_after = failed })
        → HaltNoted (record c.notes { held_before = mid; faults_before = failed }) halt answered → Goes (Debugs limits image commands) c (code_of answered)
    unfolding debug_notes
    halted_goes (Halt.Exit code) h told =
        let (last, ran, stands) = h.debugged.0.ran in
        finished_goes (finished_at (Exited code last) (run_of-is limits image _ ∙ ran) stands h.counted.0) (noted_behind mid failed answered (Halt.Exit code) _ h.debugged.1 h.counted.1 told)
    halted_goes (Halt.Trap trap) h told =
        let (last, ran, stands) = h.debugged.0.ran in
        finished_goes (finished_at (Trapped trap last) (run_of-is limits image _ ∙ ran) stands h.counted.0) (noted_behind mid failed answered (Halt.Trap trap) _ h.debugged.1 h.counted.1 told)
    halted_goes Halt.StepLimit h told =
        let (last, ran, stands) = h.debugged.0.ran in
        finished_goes (finished_at (Running last) (run_of-is limits image _ ∙ ran) stands h.counted.0) (noted_behind mid failed answered Halt.StepLimit _ h.debugged.1 h.counted.1 told)
    halted_goes Halt.ReadFault h told =
        let off = h.debugged.2 in
        finished_goes
        (end_due (Finished.unread_debugged _ (record { debugged = rw off.noted_is at h.debugged; counted = (h.counted.0, refl) })) (grind arith) h.counted.0.1
        (inr (refl, h.counted.0.0)))
        (noted_behind mid failed answered Halt.ReadFault _ off.noted_is h.counted.1 told)
    halted_goes Halt.WriteFault h (inl (status, got)) =
        let still : mid ≡ c.notes.held_after = sym (got.0 ∙ appended-nil mid) in
        let calm = got.1 ∙ h.counted.1 in
        rw status (cut_goes (omega arith) h.counted.0 calm (Debugs.unwritten (record { debugged = rw still at h.debugged; counted = (h.counted.0, calm) })))
    halted_goes Halt.WriteFault h (inr (status, some, part)) = absurd (some refl)

  -- the write of a note of a command failed
  pub note_failed : Stopped limits image commands c DebugEnd.NoteFault c.notes → Goes (Debugs limits image commands) c 8
  note_failed h = let (input, out, notes) = h.counted in let ends = Debugs.unnoted_command h in grind arith

  -- memory ran out
  pub ran_short : Stopped limits image commands c DebugEnd.Memory c.notes → Goes (Debugs limits image commands) c 9
  ran_short h = let (input, out, notes) = h.counted in short_goes (omega arith) (input, out) notes (Debugs.cut_short h)

-- Comparison with the runs of the source

module _ (limits : RunLimits) (image : ImageParts) (commands : List DebugCommand) (names : List (List ℕ)) (p : List Class) (c : Call)
    (means : Means image p names) (bounded : IsBounded limits) (are : AreBytes c.request.input) where
  -- the note of the end is due: it comes, or its write fails
  came_to : {status : ℕ} {notes note : List ℕ} → Finished limits image commands c status notes note
      → Headline c status limits names p × Headline c 8 limits names p
  came_to (Finished.debugged out left) =
      let e : EndsAsImage c (status_of (run_of limits image c.request.input)) limits image = record { status_is = refl; wrote = out; leaves = left } in
      (headline_ended limits image names p c means bounded are _ e, noteless_ended limits image names p c means bounded are _ e)
  came_to (Finished.unread_debugged notes h) =
      let (at, comes, (fails, machine)) = h.debugged.0.ran in
      let s : StopsReading c limits image = record { at = at; comes = comes; fails = fails_alone fails; wrote = (fails.held_is, h.counted.0.1) } in
      (headline_unread limits image names p c means bounded are s, noteless_unread limits image names p c means bounded are s)

  -- the output and input between two instructions are parts of those of the run of the source
  part_between : StandsEarlier (debuggee_within limits image c.request.input) c.out.held_before (Some c.left) c.out.held_after → IsPartOfSource c limits names p
  part_between stands =
      let b = segments_within limits image in
      let first = start image b c.request.input in
      let whole = run_of-is limits image c.request.input in
      part_of_source limits image names p c means bounded are _ stands.held_is
      (rw whole (written_between image.text b _ limits.steps first stands.within))
      (rw (whole, some_same _ _ stands.left_is) (left_between image.text b _ limits.steps first stands.within))

  debug_headline : {status : ℕ} → Debugs limits image commands c status
      → Headline c status limits names p ⊎ StopsShort c status limits names p commands ⊎ ((status ≡ 9) × DidNothing c)
  debug_headline (Debugs.written status notes note f got) = inl (came_to f).0
  debug_headline (Debugs.unnoted status notes note f part) = inl (came_to f).1
  debug_headline (Debugs.unwritten h) =
      let (at, comes, (fails, machine)) = h.debugged.0.ran in
      inl (headline_unwritten limits image names p c means bounded are (record {
        at = at;
        bytes = fails.bytes;
        comes = comes;
        prints = fails.prints;
        wrote = (fails.held_is, h.counted.0.1);
        leaves = some_same c.left at.input fails.left_is;
      }))
  debug_headline (Debugs.unnoted_command h) = inr (inl (record { image = image; means = means; stops = inl (refl, h); part = part_between h.debugged.0 }))
  debug_headline (Debugs.short nothing) = inr (inr (refl, nothing))
  debug_headline (Debugs.cut_short h) = inr (inl (record { image = image; means = means; stops = inr (refl, h); part = part_between h.debugged.0 }))

-- The promise

-- the case that the files can be had
files_for : {script : List ℕ} {names : List (List ℕ)} {shelf : ShelfUse} {status : ℕ} {note : List ℕ} → IsNoDebuggee script names shelf status note
    → WereRead shelf MOST_SOURCE_BYTES names status
files_for (IsNoDebuggee.too_many many calm) = inr refl
files_for (IsNoDebuggee.unscripted note few why) = inr refl
files_for (IsNoDebuggee.refused bytes status note read why) = read_for (inr why)
files_for (IsNoDebuggee.misscripted bytes p fault read is gave says) = inl (is.contents, is.read)

-- if the script cannot be read, nothing is debugged for that reason
script_fault : {script : List ℕ} {names : List (List ℕ)} {shelf : ShelfUse} {status : ℕ} {note : List ℕ}
    → ((bytes : List ℕ) → ScriptIsRead shelf script bytes → ⊥) → IsNoDebuggee script names shelf status note → status ≡ FILE_FAULT
script_fault none (IsNoDebuggee.too_many many calm) = refl
script_fault none (IsNoDebuggee.unscripted note few why) = refl
script_fault none (IsNoDebuggee.refused bytes status note read why) = absurd (none bytes read)
script_fault none (IsNoDebuggee.misscripted bytes p fault read is gave says) = absurd (none bytes read)

undebugged_is : {script : List ℕ} {names : List (List ℕ)} {r : Request} {status : ℕ} {output note left : List ℕ}
    → DueToUndebugged script names r status output note left → IsNoDebuggee script names (shelf_of r) status note
undebugged_is (DueToUndebugged.undebugged status note why) = why

module _ {script : List ℕ} {names : List (List ℕ)} {limits : RunLimits} {c : Call} where
  about_files : {status : ℕ} → DebugComes script names limits c status → FilesExactly names MOST_SOURCE_BYTES c status
  about_files (DebugComes.refused comes) =
      files_told (λ eight nine. let (output, note, row, out, notes) = came comes eight nine in files_for (undebugged_is row))
  about_files (DebugComes.debugs image commands is bounded goes) = files_told (λ _ _. inl (is.is.contents, is.is.read))

  about_script : {status : ℕ} → ((bytes : List ℕ) → ScriptIsRead (shelf_of c.request) script bytes → ⊥) → DebugComes script names limits c status
      → UnlessCutShort status (status ≡ FILE_FAULT)
  about_script none (DebugComes.refused comes) eight nine =
      let (output, note, row, out, notes) = came comes eight nine in script_fault none (undebugged_is row)
  about_script none (DebugComes.debugs image commands is bounded goes) eight nine = absurd (none is.bytes is.read)

-- the case that the script and the files are known
module _ {script : List ℕ} {names : List (List ℕ)} {shelf : ShelfUse} {contents : List (List ℕ)} {bytes : List ℕ}
    (read : AreKnown shelf MOST_SOURCE_BYTES names contents) (script_read : ScriptIsKnown shelf script bytes contents) where
  -- the script is read once
  same_bytes : {other : List ℕ} {p : List Class} → ScriptIsRead shelf script other → (is : IsProgram shelf names p)
      → EndsWith (other ∷ is.contents) shelf.gave_after → other ≡ bytes
  same_bytes {other} again is gave = by script_read.known
    where
      by : ((files : FileMap) × (shelf.files ≡ Some files)) ⊎ EndsWith (bytes ∷ contents) shelf.gave_after → other ≡ bytes
      by (inl (files, told)) =
          let here = rw told at script_read.held in
          let there = rw told at again.held in
          cc
      by (inr last) =
          let each : length is.contents ≡ length contents = sym (held_length shelf.files names is.contents is.read.held) ∙ held_length shelf.files names contents read.held in
          let one : other ∷ is.contents ≡ bytes ∷ contents = ends_same shelf.gave_after (other ∷ is.contents) (bytes ∷ contents) gave last (omega (arith, each)) in
          cc

  -- so there is no reason why it was not
  no_unscripted : {note : List ℕ} → ScriptIsUnread shelf script note → ⊥
  no_unscripted (ScriptIsUnread.missing asked gone) = not_gone shelf.files script bytes _ _ script_read.held read.below read.calm gone
  no_unscripted (ScriptIsUnread.unread asked rose) = omega (arith, rose.more read.below, read.calm)
  no_unscripted (ScriptIsUnread.too_large asked long) = not_large shelf.files script bytes _ _ _ script_read.held script_read.within read.below read.calm long

  -- nothing is debugged only where the files are no program, or the script has a fault for it
  resolved : {status : ℕ} {note : List ℕ} → IsNoDebuggee script names shelf status note → IsNoProgram shelf names status note
      ⊎ ((q : List Class) × (fault : ScriptFault) × IsProgram shelf names q × (commands_for q names bytes ≡ Err fault) × (status ≡ 12) × (note ≡ script_note script fault))
  resolved (IsNoDebuggee.too_many many calm) = absurd (let few = read.few in omega arith)
  resolved (IsNoDebuggee.unscripted note few why) = absurd (no_unscripted why)
  resolved (IsNoDebuggee.refused other status note again why) = inl why
  resolved (IsNoDebuggee.misscripted other q fault again is gave says) = inr (q, fault, is, rw (same_bytes again is gave) at says, refl, refl)

  -- the faults of the files say the status and the note
  faults_told : {faults : List Fault} {status : ℕ} {note : List ℕ} → IsFaultList contents faults → faults ≢ [] → IsNoDebuggee script names shelf status note
      → (status ≡ 1) × (note ≡ refused_note names faults)
  faults_told list some why = elim (resolved why) [
    | inl none ↦ (let so = refused_with read none list in (so.1, so.2))
    | inr h ↦ absurd (some (program_faultless read h.2 list))
  ]

  module _ {p : List Class} (is : IsAccepted contents p) where
    -- then only the script can be wrong
    fault_so : {status : ℕ} {note : List ℕ} → IsNoDebuggee script names shelf status note
        → (fault : ScriptFault) × (commands_for p names bytes ≡ Err fault) × (status ≡ 12) × (note ≡ script_note script fault)
    fault_so why = elim (resolved why) [
      | inl none ↦ absurd (no_refusal read is none)
      | inr h ↦ (h.1, rw (same_program read is h.2) at h.3, h.4, h.5)
    ]

    -- and of what is debugged the program and the script are these
    says_so : {image : ImageParts} {others : List DebugCommand} (h : IsDebuggee script names shelf image others)
        → (h.p ≡ p) × (commands_for p names bytes ≡ Ok others)
    says_so h = let program = same_program read is h.is in (program, rw (program, same_bytes h.read h.is h.gave) at h.says)

-- if nothing is wrong and nothing was debugged, memory ran out
undebugged_so : {script : List ℕ} {names : List (List ℕ)} {c : Call} {contents : List (List ℕ)} {bytes : List ℕ} {p : List Class}
    {commands : List DebugCommand} {status : ℕ} → AreKnown (shelf_of c.request) MOST_SOURCE_BYTES names contents
    → ScriptIsKnown (shelf_of c.request) script bytes contents → IsAccepted contents p → commands_for p names bytes ≡ Ok commands
    → Comes (DueToUndebugged script names c.request) NoPieces c status → (status ≡ 9) × DidNothing c
undebugged_so read script_read is says (Comes.written status output note row out notes) =
    absurd (let (fault, wrong, twelve, note_is) = fault_so read script_read is (undebugged_is row) in cc)
undebugged_so read script_read is says (Comes.unwritten before piece none part notes) = absurd none
undebugged_so read script_read is says (Comes.unnoted status output note row out part) =
    absurd (let (fault, wrong, twelve, note_is) = fault_so read script_read is (undebugged_is row) in cc)
undebugged_so read script_read is says (Comes.short nothing) = (refl, nothing)

module _ {script : List ℕ} {names : List (List ℕ)} {limits : RunLimits} {c : Call} {contents : List (List ℕ)} {bytes : List ℕ}
    (read : AreKnown (shelf_of c.request) MOST_SOURCE_BYTES names contents) (script_read : ScriptIsKnown (shelf_of c.request) script bytes contents) where
  about_faults : {faults : List Fault} {status : ℕ} → IsFaultList contents faults → faults ≢ [] → DebugComes script names limits c status
      → UnlessCutShort status ((status ≡ 1) × Got c.notes (refused_note names faults))
  about_faults list some (DebugComes.refused comes) eight nine =
      let (output, note, row, out, notes) = came comes eight nine in
      let so = faults_told read script_read list some (undebugged_is row) in
      (so.0, rw so.1 at notes)
  about_faults list some (DebugComes.debugs image commands is bounded goes) eight nine = absurd (some (program_faultless read is.is list))

  module _ {p : List Class} (is : IsAccepted contents p) where
    about_fault : {fault : ScriptFault} {status : ℕ} → commands_for p names bytes ≡ Err fault → DebugComes script names limits c status
        → UnlessCutShort status ((status ≡ 12) × Got c.notes (script_note script fault))
    about_fault {fault} says (DebugComes.refused comes) eight nine =
        let (output, note, row, out, notes) = came comes eight nine in
        let (found, wrong, twelve, note_is) = fault_so read script_read is (undebugged_is row) in
        let same : found ≡ fault = cc in
        (twelve, rw (note_is, same) at notes)
    about_fault says (DebugComes.debugs image others h bounded goes) eight nine = absurd (let said = (says_so read script_read is h).1 in cc)

    module _ {commands : List DebugCommand} (says : commands_for p names bytes ≡ Ok commands) where
      debugs_so : {status : ℕ} → DebugComes script names limits c status → Debugs limits (image_of (program_lines p names)) commands c status
      debugs_so {status} (DebugComes.refused comes) = let so = undebugged_so read script_read is says comes in rw so.0 (Debugs.short so.1)
      debugs_so {status} (DebugComes.debugs image others h bounded goes) =
          let (program, said) = says_so read script_read is h in
          let same : others ≡ commands = cc in
          subst (λ (i : ImageParts). Debugs limits i commands c status) (h.image_is ∙ ap (λ (q : List Class). image_of (program_lines q names)) program)
          (rw same at goes)

      headline : {status : ℕ} → AreBytes c.request.input → DebugComes script names limits c status
          → Headline c status limits names p ⊎ StopsShort c status limits names p commands ⊎ ((status ≡ 9) × DidNothing c)
      headline are (DebugComes.refused comes) = inr (inr (undebugged_so read script_read is says comes))
      headline are (DebugComes.debugs image others h bounded goes) =
          let (program, said) = says_so read script_read is h in
          let same : others ≡ commands = cc in
          debug_headline limits image commands names p c (rw program at h.means) bounded are (rw same at goes)

pub debug_ends : {script : List ℕ} {names : List (List ℕ)} {limits : RunLimits} {c : Call} {status : ℕ} → DebugComes script names limits c status
    → DebugEnds script names limits c status
debug_ends comes = record {
  comes = comes;
  debugged_exactly = λ contents p bytes commands read is script_read says. debugs_so read script_read is says comes;
  misscripted_exactly = λ contents p bytes fault read is script_read says. about_fault read script_read is says comes;
  debugged_headline = λ contents p bytes commands read is script_read says are. headline read script_read is says are comes;
  script_missing_exactly = λ files told gone. about_script (λ bytes read. let there = rw told.0 at read.held in absurd cc) comes;
  script_too_large_exactly = λ files large told there more.
      about_script (λ bytes read.
      let here = rw told.0 at read.held in
      let same : large ≡ bytes = cc in
      omega (arith, read.within, ap length same)) comes;
  files = about_files comes;
  refused_exactly = λ contents bytes faults read script_read list some. about_faults read script_read list some comes;
}
