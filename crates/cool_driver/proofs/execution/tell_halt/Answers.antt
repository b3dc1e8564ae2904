use Rattle.std.proofs.Common.{◌≡◌, ◌≢◌, ◌∙◌, inl, inr, refl, sym, ap, subst, ℕ, List, [], arith}
use Rattle.spim_machine.specs.declared.halt.Halt.{Halt}
use Rattle.spim_machine.specs.declared.halt.Halt.TheVariants as halts
use Rattle.cool_driver.specs.{declared.status.Status.{Status}, Calls.{SinkUse, Got, GotPart, sink_use}, Execution.{exit_status, exit_note, status_of_halt, note_of_halt}}
use Rattle.cool_driver.specs.{Statuses.{code_of}, Telling.{Noted, HaltNoted}}
use Rattle.cool_driver.specs.declared.status.Status.TheVariants as statuses
use Rattle.cool_driver.proofs.{DevicesOfCalls.{got_nothing}, LinesOfNotes.{trap_line}}
use Rattle.cool_driver.proofs.execution.tell_halt.Goals as goal

-- the note of a halt was written, or its write failed
told : (s : SinkUse) (halt found : Halt) (status answered : Status) (note : List ℕ) → halt ≡ found → code_of status ≡ status_of_halt found
    → note ≡ note_of_halt found
    → note_of_halt found ≢ [] → Noted s note status answered → HaltNoted s halt answered
told s halt found status answered note is known same some (inl (answers, got)) =
    subst (λ (h : Halt). HaltNoted s h answered) (sym is) (inl (ap code_of answers ∙ known, subst (Got s) same got))
told s halt found status answered note is known same some (inr (answers, part)) =
    subst (λ (h : Halt). HaltNoted s h answered) (sym is) (inr (answers, some, subst (GotPart s []) same part))

-- it has none
silent : (s : SinkUse) (halt found : Halt) (answered : Status) → halt ≡ found → code_of answered ≡ status_of_halt found → note_of_halt found ≡ []
    → Got s []
    → HaltNoted s halt answered
silent s halt found answered is known none got = subst (λ (h : Halt). HaltNoted s h answered) (sym is) (inl (known, subst (Got s) (sym none) got))

-- an exit with a code, by two names of it
exits : (halt : Halt) (code other n : ℕ) → halt ≡ halts.Exit code → other ≡ code → other ≡ n → halt ≡ halts.Exit n
exits halt code other n is same e = is ∙ ap halts.Exit (sym same ∙ e)

-- an exit with a code of no meaning of its own
other_status : (code : ℕ) → code ≢ 0 → code ≢ 4 → code ≢ 5 → 3 ≡ exit_status code
other_status code done heap stack = grind (arith, done, heap, stack)

other_note : (code : ℕ) → code ≢ 4 → code ≢ 5 → exit_note code ≡ []
other_note code heap stack = grind (arith, heap, stack)

pub returns-in-Exit-eq0-clause-noted : goal.returns-in-Exit-eq0-clause-noted
returns-in-Exit-eq0-clause-noted g c = silent (sink_use g.E.Sink c.args.notes.now c.args.notes.now) _ (halts.Exit 0) statuses.Done (exits _ _ _ 0 c.in-Exit-eq0.is c.in-Exit-eq0.field-0-is c.in-Exit-eq0.field-0-test) refl refl (got_nothing _ _)

pub returns-in-Exit-eq4-clause-noted : goal.returns-in-Exit-eq4-clause-noted
returns-in-Exit-eq4-clause-noted g c =
    told (sink_use g.E.Sink c.args.notes.now c.tell.new.notes) _ (halts.Exit 4) statuses.HeapLimit c.tell.result _ (exits _ _ _ 4 c.in-Exit-eq4.is c.in-Exit-eq4.field-0-is c.in-Exit-eq4.field-0-test) refl refl (λ e. cc) c.tell.ensures.noted

pub returns-in-Exit-eq5-clause-noted : goal.returns-in-Exit-eq5-clause-noted
returns-in-Exit-eq5-clause-noted g c =
    told (sink_use g.E.Sink c.args.notes.now c.tell-in-Exit-eq5.new.notes) _ (halts.Exit 5) statuses.StackLimit c.tell-in-Exit-eq5.result _ (exits _ _ _ 5 c.in-Exit-eq5.is c.in-Exit-eq5.field-0-is c.in-Exit-eq5.field-0-test) refl refl (λ e. cc)
    c.tell-in-Exit-eq5.ensures.noted

pub returns-in-Exit-clause-noted : goal.returns-in-Exit-clause-noted
returns-in-Exit-clause-noted g c =
    let other = c.in-Exit.field-0-test in
    let same = c.in-Exit.field-0-is in
    silent (sink_use g.E.Sink c.args.notes.now c.args.notes.now) _ (halts.Exit c.in-Exit.field-0) statuses.Failed c.in-Exit.is
    (other_status c.in-Exit.field-0 (λ e. other.0.0.1 (same ∙ e)) (λ e. other.0.1 (same ∙ e)) (λ e. other.1 (same ∙ e)))
    (other_note c.in-Exit.field-0 (λ e. other.0.1 (same ∙ e)) (λ e. other.1 (same ∙ e))) (got_nothing _ _)

pub tell-requires-in-Trap : goal.tell-requires-in-Trap
tell-requires-in-Trap g c = rw (c.as_bytes.ensures.value ∙ (c.as_str.ensures.value ∙ c.trap_note.ensures)) (trap_line c.in-Trap.trap)

pub returns-in-Trap-clause-noted : goal.returns-in-Trap-clause-noted
returns-in-Trap-clause-noted g c =
    told (sink_use g.E.Sink c.args.notes.now c.tell-in-Trap.new.notes) _ (halts.Trap c.in-Trap.trap) statuses.Trapped c.tell-in-Trap.result _ c.in-Trap.is refl
    (c.as_bytes.ensures.value ∙ (c.as_str.ensures.value ∙ c.trap_note.ensures)) (λ e. cc) c.tell-in-Trap.ensures.noted

pub returns-in-StepLimit-clause-noted : goal.returns-in-StepLimit-clause-noted
returns-in-StepLimit-clause-noted g c =
    told (sink_use g.E.Sink c.args.notes.now c.tell-in-StepLimit.new.notes) _ halts.StepLimit statuses.StepLimit c.tell-in-StepLimit.result _ c.in-StepLimit.is refl refl (λ e. cc) c.tell-in-StepLimit.ensures.noted

pub returns-in-ReadFault-clause-noted : goal.returns-in-ReadFault-clause-noted
returns-in-ReadFault-clause-noted g c =
    told (sink_use g.E.Sink c.args.notes.now c.tell-in-ReadFault.new.notes) _ halts.ReadFault statuses.ReadFault c.tell-in-ReadFault.result _ c.in-ReadFault.is refl refl (λ e. cc) c.tell-in-ReadFault.ensures.noted

pub returns-in-WriteFault-clause-noted : goal.returns-in-WriteFault-clause-noted
returns-in-WriteFault-clause-noted g c = silent (sink_use g.E.Sink c.args.notes.now c.args.notes.now) _ halts.WriteFault statuses.WriteFault c.in-WriteFault.is refl refl (got_nothing _ _)
