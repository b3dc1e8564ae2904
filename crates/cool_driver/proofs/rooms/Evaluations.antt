-- A call of `eval` that evaluated the program in its files, or reported why not, satisfies the postcondition `EvalEnds` of the command.
use Rattle.std.proofs.Common.{List, Option, Some, [], ap, append-nil, append_assoc, arith, inl, inr, refl, subst, suc, sym, zero, ℕ, ◌++◌, ◌∙◌, ◌≡◌, ◌≢◌, ◌≤◌, ◌⊎◌}
use Rattle.cool_classes.specs.Chains.{Class}
use Rattle.cool_eval.proofs.PartsOfRuns.{part_of_last_line, part_of_reading, part_of_short, part_of_writing}
use Rattle.cool_eval.specs.{Counts.{CountedEnd}, Ends.{Evaluates, IsPart, IsWhole, StoppedReading, StoppedShort, last_line}, Puts.{PutByRun, run_puts, steps_puts, written, written_since}, declared.evaluation.EvalEnd.{EvalEnd}}
use Rattle.cool_faults.specs.Verdicts.{IsAccepted}
use Rattle.cool_ports.specs.{SinkBytes.{GotPrefix, appended}, SinkPuts.{PutFront, pieces_of}}
use Rattle.cool_syntax.specs.declared.TheConstants.{MOST_SOURCE_BYTES}
use Rattle.cool_driver.specs.{Calls.{Call, DidNothing, Got, Request, SinkUse, shelf_of}, Comes.{Comes, NoPieces, PutAsDue}, Does.{Goes}, Evaluation.{note_of_end, status_of_end}}
use Rattle.cool_driver.specs.{Notes.{read_fault_note, step_limit_note}, Sources.{AreKnown, IsNoProgram, IsProgram, SourcesExactly}, Statuses.{OUT_OF_MEMORY, WRITE_FAULT, code_of}, Telling.{Noted}}
use Rattle.cool_driver.specs.{commands.Eval.{CutShort, DueToEval, EndsAs, EvalEnds, FailsToNote, FailsToWrite, PiecesOfEval}, declared.status.Status.{Status}}
use Rattle.cool_driver.proofs.{ComesOfRefusals.{DueToRefusal, comes_map, goes_map}, PutsOfCalls.{put_cut, put_refused, put_short, put_unread, put_whole}}
use Rattle.cool_driver.proofs.DevicesOfCalls.{IsFinished, IsNoted, came, cut_goes, due_finished, finished_goes, got_alone, is_noted, short_goes}
use Rattle.cool_driver.proofs.{SourcesOfCalls.{IsVerdictOn, files_told, no_refusal, same_program, sources_exactly, verdict_status}, StatusesOfRuns.{IsOneOf}}
use Rattle.cool_meaning.specs.SourceRun as source

-- the statuses of runs of the source
run_status : (end : source.End) (status : ℕ) → status_of_end end ≡ Some status → IsOneOf status
run_status source.End.Done status e = inl cc
run_status (source.End.Failed error) status e = inr (inl cc)
run_status source.End.GoesOn status e = inr (inr (inr (inr (inl cc))))
run_status source.End.IsStuck status e = absurd cc

-- the result that is due depends on the verdict on the files
verdict_of : {names : List (List ℕ)} {steps : ℕ} {r : Request} {status : ℕ} {output note left : List ℕ} → DueToEval names steps r status output note left
    → IsVerdictOn (shelf_of r) names status note
verdict_of (DueToEval.evaluated p status is e) = inl (p, is, run_status _ status e)
verdict_of (DueToEval.unread p output left is stops) = inl (p, is, grind arith)
verdict_of (DueToEval.refused status note why) = inr why

-- Results for files that were read and are accepted

-- the result that is due for runs with so many steps: that of their end, or of a call that failed to read
abbrev IsDueBy : (ℕ → source.Run) → ℕ → ℕ → List ℕ → List ℕ → List ℕ → Type 0
IsDueBy run steps status output note left =
    ((status ≡ 7) × StoppedReading run steps (Some []) left (Some output))
    ⊎ ((status_of_end (run steps).end ≡ Some status) × (output ≡ (run steps).output) × (note ≡ note_of_end (run steps).end) × (left ≡ (run steps).left))

-- two told outputs that are one
output_is : (a b : List ℕ) → Some a ≡ appended (Some []) b → a ≡ b
unfolding appended
output_is a b e = cc

-- a read that failed, with the sink of the call
stopped_here : {run : ℕ → source.Run} {steps : ℕ} (s : SinkUse) {output left : List ℕ} → StoppedReading run steps (Some []) left (Some output)
    → Got s output → StoppedReading run steps s.held_before left s.held_after
stopped_here {run} s {output} h got = record {
  spent = h.spent;
  fewer = h.fewer;
  goes_on = h.goes_on;
  put = got.0 ∙ ap (appended s.held_before) (output_is output (run h.spent).output h.put);
  input = h.input;
}

-- with another sink the same read fails
stopped_alone : {run : ℕ → source.Run} {steps : ℕ} {held : Option (List ℕ)} {left : List ℕ} {held' : Option (List ℕ)}
    → (h : StoppedReading run steps held left held') → StoppedReading run steps (Some []) left (Some (run h.spent).output)
stopped_alone {run} h = record { spent = h.spent; fewer = h.fewer; goes_on = h.goes_on; put = got_alone (run h.spent).output; input = h.input }

-- a prefix of a run's output was put, if a part of the run was done
prefix_of_part : {r : source.Run} {held : Option (List ℕ)} {rest : List ℕ} {held' : Option (List ℕ)} → IsPart r held rest held' → GotPrefix held r.output held'
prefix_of_part (output, put, part) = (part.more, record { front = output; cut = part.output_is; got = put })

-- the end of such a call
abbrev EvalComes : List (List ℕ) → ℕ → Call → ℕ → Type 0
EvalComes names steps c status =
    Comes (DueToEval names steps c.request) (PiecesOfEval names steps c.request) c status ⊎ ((status ≡ 9) × CutShort names steps c)

module _ (names : List (List ℕ)) (steps : ℕ) (c : Call) (contents : List (List ℕ)) (p : List Class) (files_known : AreKnown (shelf_of c.request) MOST_SOURCE_BYTES names contents)
    (is : IsAccepted contents p) where
  abbrev runs : ℕ → source.Run
  runs = source.run p names c.request.input

  due_by : {status : ℕ} {output note left : List ℕ} → DueToEval names steps c.request status output note left → IsDueBy runs steps status output note left
  due_by (DueToEval.evaluated q status other e) = rw (← same_program files_known is other) (inr (e, refl, refl, refl))
  due_by (DueToEval.unread q output left other stops) = rw (← same_program files_known is other) (inl (refl, stops))
  due_by (DueToEval.refused status note why) = absurd (no_refusal files_known is why)

  -- the result that was due was written
  ends_as : {status : ℕ} {output note : List ℕ} → IsDueBy runs steps status output note c.left → Got c.out output → Got c.notes note
      → (status ≡ 7) × StoppedReading runs steps c.out.held_before c.left c.out.held_after ⊎ EndsAs c status (runs steps)
  ends_as (inl (seven, stops)) out notes = inl (seven, stopped_here c.out stops out)
  ends_as (inr (end, output_is, note_is, left_is)) out notes = inr (end, rw output_is at out, rw note_is at notes, left_is)

  due_prefix : {status : ℕ} {output note : List ℕ} → IsDueBy runs steps status output note c.left → Got c.out output
      → GotPrefix c.out.held_before (runs steps).output c.out.held_after
  due_prefix (inl (seven, stops)) got = prefix_of_part (part_of_reading p is.typed names c.request.input steps _ c.left _ (stopped_here c.out stops got))
  due_prefix (inr h) got = ([], record { front = _; cut = sym (append-nil _ ∙ h.1); got = got.0 })

  -- a write failed
  writing_by : {before piece left : List ℕ} → PiecesOfEval names steps c.request before piece left → left ≡ c.left
      → GotPrefix (appended c.out.held_before before) piece c.out.held_after → FailsToWrite c p names steps
  writing_by (PiecesOfEval.of_call q spent printed other next) here got =
      rw (← same_program files_known is other) (inl (record { spent = spent; printed = printed; writes = next; left = sym here; got = got }))
  writing_by (PiecesOfEval.of_last_line q before other last) here got =
      rw (← same_program files_known is other) (inr (record { before = before; ends = last; left = sym here; got = got }))

  fails_prefix : FailsToWrite c p names steps → GotPrefix c.out.held_before (runs steps).output c.out.held_after
  fails_prefix (inl h) = prefix_of_part (part_of_writing p is.typed names c.request.input steps _ c.left _ h)
  fails_prefix (inr h) = prefix_of_part (part_of_last_line p is.typed names c.request.input steps _ c.left _ h)

  -- memory ran out
  stopped_short : CutShort names steps c → StoppedShort p names runs steps c.out.held_before c.left c.out.held_after
  stopped_short s = rw (same_program files_known is s.is) at s.stopped

  prefix : {status : ℕ} → EvalComes names steps c status → GotPrefix c.out.held_before (runs steps).output c.out.held_after
  prefix (inl (Comes.written status output note row out notes)) = due_prefix (due_by row) out
  prefix (inl (Comes.unwritten before piece row part notes)) = fails_prefix (writing_by row refl part.0)
  prefix (inl (Comes.unnoted status output note row out part)) = due_prefix (due_by row) out
  prefix (inl (Comes.short nothing)) = (_, record { front = []; cut = refl; got = nothing.0.0 })
  prefix (inr (nine, s)) = prefix_of_part (part_of_short p is.typed names c.request.input steps _ c.left _ (stopped_short s))

  exactly : {status : ℕ} → EvalComes names steps c status → status ≢ 8 → status ≢ 9
      → (status ≡ 7) × StoppedReading runs steps c.out.held_before c.left c.out.held_after ⊎ EndsAs c status (runs steps)
  exactly (inl comes) eight nine = let (output, note, row, out, notes) = came comes eight nine in ends_as (due_by row) out notes
  exactly (inr (e, s)) eight nine = absurd (nine e)

  failed : {status : ℕ} → EvalComes names steps c status → status ≡ 8 → FailsToWrite c p names steps ⊎ FailsToNote names steps c
  failed (inl (Comes.written status output note row out notes)) e = absurd (let known = (verdict_status {r = c.request} (verdict_of row)).0 in grind arith)
  failed (inl (Comes.unwritten before piece row part notes)) e = inl (writing_by row refl part.0)
  failed (inl (Comes.unnoted status output note row out part)) e = inr (status, output, note, row, out, part)
  failed (inl (Comes.short nothing)) e = absurd (omega arith)
  failed (inr (nine, s)) e = absurd (omega arith)

  cut_short : {status : ℕ} → EvalComes names steps c status → status ≡ 9
      → DidNothing c ⊎ StoppedShort p names runs steps c.out.held_before c.left c.out.held_after
  cut_short (inl (Comes.written status output note row out notes)) e = absurd (let known = (verdict_status {r = c.request} (verdict_of row)).0 in grind arith)
  cut_short (inl (Comes.short nothing)) e = inl nothing
  cut_short (inl _) e = absurd (omega arith)
  cut_short (inr (nine, s)) e = inr (stopped_short s)

-- no claim about the files is needed if memory ran out in the run, since the status is 9
about : {names : List (List ℕ)} {steps : ℕ} {c : Call} {status : ℕ} → EvalComes names steps c status → SourcesExactly names c status
about (inl comes) = sources_exactly (λ s o n l. verdict_of) comes
about (inr (nine, s)) = record {
  files = files_told (λ _ other. absurd (other nine));
  refused_exactly = λ contents faults known list some _ other. absurd (other nine);
}

-- the puts for the program of the files
abbrev IsPrinted : List (List ℕ) → ℕ → Call → ℕ → Type 0
IsPrinted names steps c status = (contents : List (List ℕ)) (p : List Class) → AreKnown (shelf_of c.request) MOST_SOURCE_BYTES names contents → IsAccepted contents p
    → PutAsDue (run_puts p names c.request.input steps) c.out status

eval_ends : {names : List (List ℕ)} {steps : ℕ} {c : Call} {status : ℕ} → IsPrinted names steps c status → EvalComes names steps c status → EvalEnds names steps c status
eval_ends printed comes = record {
  comes = comes;
  evaluated_exactly = λ contents p known is. exactly _ _ _ contents p known is comes;
  evaluated_prefix = λ contents p known is. prefix _ _ _ contents p known is comes;
  evaluated_unwritten = λ contents p known is. failed _ _ _ contents p known is comes;
  evaluated_short = λ contents p known is. cut_short _ _ _ contents p known is comes;
  evaluated_puts = printed;
  sources = about comes;
}

-- a program was evaluated
pub evaluated_goes : {names : List (List ℕ)} {steps : ℕ} {c : Call} {p : List Class} {status : ℕ} → IsProgram (shelf_of c.request) names p
    → PutAsDue (run_puts p names c.request.input steps) c.out status → Goes (EvalComes names steps) c status → Goes (EvalEnds names steps) c status
evaluated_goes {names} {steps} {c} {status = status} is put =
    goes_map (eval_ends (λ contents q known accepted.
    subst (λ (r : List Class). PutAsDue (run_puts r names c.request.input steps) c.out status) (same_program known accepted is) put))

-- the files were refused, and nothing was put
row_of : {names : List (List ℕ)} {steps : ℕ} {r : Request} {status : ℕ} {output note left : List ℕ}
    → DueToRefusal (IsNoProgram (shelf_of r) names) r status output note left → DueToEval names steps r status output note left
row_of (DueToRefusal.refused status note why) = DueToEval.refused status note why

pub unevaluated_ends : {names : List (List ℕ)} {steps : ℕ} {c : Call} {status : ℕ} → c.out.puts_after ≡ c.out.puts_before
    → Comes (DueToRefusal (IsNoProgram (shelf_of c.request) names) c.request) NoPieces c status → EvalEnds names steps c status
unevaluated_ends none comes =
    eval_ends (λ contents p known is. put_refused (λ s n why. no_refusal known is why) none comes)
    (inl (comes_map (λ s o n l row. row_of row) (λ b p l row. absurd row) comes))

-- The puts

-- the puts of some steps are the first of those of more
within_one : (a b : ℕ) → a ≤ suc b → (a ≤ b) ⊎ (a ≡ suc b)
within_one a b h = grind arith

one_more : (output : ℕ → List ℕ) (spent n : ℕ) → (spent ≤ n → (rest : List (List ℕ)) × (steps_puts output n ≡ steps_puts output spent ++ rest))
    → (spent ≤ n) ⊎ (spent ≡ suc n) → (rest : List (List ℕ)) × (steps_puts output (suc n) ≡ steps_puts output spent ++ rest)
one_more output spent n before (inl fewer) =
    let (rest, is) = before fewer in
    let last : List (List ℕ) = pieces_of 64 (written_since (output n) (output (suc n))) in
    (rest ++ last, ap (λ (puts : List (List ℕ)). puts ++ last) is ∙ append_assoc (steps_puts output spent) rest last)
one_more output spent n before (inr all) = ([], ap (steps_puts output) (sym all) ∙ sym (append-nil (steps_puts output spent)))

steps_front : (output : ℕ → List ℕ) (spent n : ℕ) → spent ≤ n → (rest : List (List ℕ)) × (steps_puts output n ≡ steps_puts output spent ++ rest)
steps_front output spent zero within =
    let none : zero ≡ spent = omega (arith, within) in
    ([], ap (steps_puts output) none ∙ sym (append-nil (steps_puts output spent)))
steps_front output spent (suc n) within = one_more output spent n (steps_front output spent n) (within_one spent n within)

-- so they are the first of all puts of the run
run_front : (p : List Class) (names : List (List ℕ)) (input : List ℕ) (spent steps : ℕ) {before after : List (List ℕ)} → spent ≤ steps
    → after ≡ before ++ steps_puts (written p names input) spent → PutFront before (run_puts p names input steps) after
run_front p names input spent steps within put =
    let (rest, is) = steps_front (written p names input) spent steps within in
    let line : List (List ℕ) = pieces_of 64 (last_line p names (source.run p names input steps).end) in (
      rest ++ line,
      record {
        front = steps_puts (written p names input) spent;
        cut = ap (λ (puts : List (List ℕ)). puts ++ line) is ∙ append_assoc (steps_puts (written p names input) spent) rest line;
        put = put;
      },
    )

-- A program is evaluated

-- the run came to its end, with this status and this note
came_to : {names : List (List ℕ)} {steps : ℕ} {c : Call} {p : List Class} → c.request.faults_before ≤ c.request.faults_after
    → IsProgram (shelf_of c.request) names p → (how : source.End) (status : ℕ) → status_of_end how ≡ Some status → status ≢ 7
    → (source.run p names c.request.input steps).end ≡ how
    → IsWhole (source.run p names c.request.input steps) c.out.held_before c.left c.out.held_after
    → (c.input_after ≡ c.input_before) × (c.out.faults_after ≡ c.out.faults_before) → IsFinished (EvalComes names steps) c status [] (note_of_end how)
came_to {names} {steps} {c} {p} shelf is how status known other ended whole count =
    let run = source.run p names c.request.input steps in
    let row : DueToEval names steps c.request status run.output (note_of_end how) c.left =
    rw (whole.1, ← ended) (DueToEval.evaluated p status is (ap status_of_end ended ∙ known)) in
    due_finished (λ s. inl) shelf (verdict_status (verdict_of row)) row (whole.0, count.1) (inl (other, count.0))

module _ {names : List (List ℕ)} {steps : ℕ} {c : Call} {p : List Class} {end : EvalEnd} (shelf : c.request.faults_before ≤ c.request.faults_after)
    (is : IsProgram (shelf_of c.request) names p) (went : Evaluates p names c.request.input steps c.out.held_before end c.left c.out.held_after)
    (counted : CountedEnd end c.input_before c.input_after c.out.faults_before c.out.faults_after) where
  pub ended_well : end ≡ EvalEnd.Done → Got c.notes [] → Goes (EvalComes names steps) c 0
  ended_well this got =
      let (ended, whole) = rw this at went in
      finished_goes (came_to shelf is source.End.Done 0 refl (omega arith) ended whole (rw this at counted)) (IsNoted.noted got)

  pub ended_with_error : end ≡ EvalEnd.Error → Got c.notes [] → Goes (EvalComes names steps) c 3
  ended_with_error this got =
      let ((error, ended), whole) = rw this at went in
      finished_goes (came_to shelf is (source.End.Failed error) 3 refl (omega arith) ended whole (rw this at counted)) (IsNoted.noted got)

  pub ended_at_step_limit : {answered : Status} → end ≡ EvalEnd.StepLimit → Noted c.notes step_limit_note Status.StepLimit answered
      → Goes (EvalComes names steps) c (code_of answered)
  ended_at_step_limit this noted =
      let (ended, whole) = rw this at went in
      finished_goes (came_to shelf is source.End.GoesOn 6 refl (omega arith) ended whole (rw this at counted)) (is_noted noted)

  pub read_failed : {answered : Status} → end ≡ EvalEnd.ReadFault → Noted c.notes read_fault_note Status.ReadFault answered
      → Goes (EvalComes names steps) c (code_of answered)
  read_failed this noted =
      let h = rw this at went in
      let count = rw this at counted in
      let row = DueToEval.unread p _ c.left is (stopped_alone h) in
      finished_goes
      (due_finished (λ s. inl) shelf (verdict_status (verdict_of row)) row (h.put, count.1) (inr (refl, count.0)))
      (is_noted noted)

  -- a write failed, that of a call or of the last line
  pub write_failed : end ≡ EvalEnd.WriteFault → Got c.notes [] → Goes (EvalComes names steps) c 8
  write_failed this notes = by (rw this at went)
    where
      by : FailsToWrite c p names steps → Goes (EvalComes names steps) c 8
      by (inl h) =
          cut_goes shelf (rw this at counted) notes.1
          (inl (Comes.unwritten _ _ (rw h.left (PiecesOfEval.of_call p h.spent h.printed is h.writes)) (h.got, (rw this at counted).1) notes))
      by (inr h) =
          cut_goes shelf (rw this at counted) notes.1
          (inl (Comes.unwritten _ _ (rw h.left (PiecesOfEval.of_last_line p h.before is h.ends)) (h.got, (rw this at counted).1) notes))

  -- memory ran out
  pub ran_short : end ≡ EvalEnd.Memory → Got c.notes [] → Goes (EvalComes names steps) c 9
  ran_short this notes =
      let count = rw this at counted in
      short_goes shelf count notes.1
      (inr (refl, record { p = p; is = is; stopped = rw this at went; out_calm = count.1; notes = notes; input_calm = count.0 }))

-- the puts, by the end of the run
module _ (p : List Class) (names : List (List ℕ)) (input : List ℕ) (steps : ℕ) (rest : List ℕ) {s : SinkUse} {end : EvalEnd} where
  pub put_well : {status : ℕ} → end ≡ EvalEnd.Done → PutByRun p names input steps end rest s.puts_before s.puts_after
      → PutAsDue (run_puts p names input steps) s status
  put_well this put = put_whole (rw this at put)

  pub put_with_error : {status : ℕ} → end ≡ EvalEnd.Error → PutByRun p names input steps end rest s.puts_before s.puts_after
      → PutAsDue (run_puts p names input steps) s status
  put_with_error this put = put_whole (rw this at put)

  pub put_at_step_limit : {status : ℕ} → end ≡ EvalEnd.StepLimit → PutByRun p names input steps end rest s.puts_before s.puts_after
      → PutAsDue (run_puts p names input steps) s status
  put_at_step_limit this put = put_whole (rw this at put)

  pub put_before_read : (notes : SinkUse) {answered : Status} → end ≡ EvalEnd.ReadFault → Noted notes read_fault_note Status.ReadFault answered
      → PutByRun p names input steps end rest s.puts_before s.puts_after → PutAsDue (run_puts p names input steps) s (code_of answered)
  put_before_read notes this noted put =
      let (spent, fewer, took, is) = rw this at put in
      put_unread notes (run_front p names input spent steps (omega arith) is) noted

  pub put_till_write : end ≡ EvalEnd.WriteFault → PutByRun p names input steps end rest s.puts_before s.puts_after
      → PutAsDue (run_puts p names input steps) s WRITE_FAULT
  put_till_write this put = put_cut (rw this at put)

  pub put_till_memory : end ≡ EvalEnd.Memory → PutByRun p names input steps end rest s.puts_before s.puts_after
      → PutAsDue (run_puts p names input steps) s OUT_OF_MEMORY
  put_till_memory this put =
      let (spent, within, took, is) = rw this at put in
      put_short (run_front p names input spent steps within is)
