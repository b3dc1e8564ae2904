-- A call of `session` satisfies the postcondition `SessionEnds` of the command: replies and status are those of the sequence of commands in its input, and the
-- input determines this sequence.
use Rattle.std.proofs.Common.{Err, List, Ok, Result, [], ap, arith, inl, inr, refl, sym, ℕ, ◌≡◌, ◌⊎◌}
use Rattle.cool_ports.specs.Counts.{Rose}
use Rattle.cool_session.proofs.OneExchange.{one_exchange}
use Rattle.cool_session.specs.{Conversations.{Conversed, Counted}, Held.{nothing_held}, declared.ending.Ending.{Ending}, declared.ending.Interruption.{Interruption}}
use Rattle.cool_driver.specs.{Calls.{Call, DidNothing, Got}, Does.{Goes}, Notes.{ending_note, read_fault_note}, Statuses.{code_of}, Telling.{NotedIfMade}}
use Rattle.cool_driver.specs.{commands.Session.{DueToSession, SessionComes, SessionEnds, SessionWent, status_of_ending}, declared.status.Status.{Status}}
use Rattle.cool_driver.proofs.DevicesOfCalls.{IsFinished, cut_goes, finished_goes, is_noted, short_goes}
use Rattle.cool_session.specs.Exchanges as exchange

-- each end of a session has one of its statuses
ending_status : (end : Ending) → (status_of_ending end ≡ 0) ⊎ (status_of_ending end ≡ 12)
ending_status Ending.Over = inl refl
ending_status _ = inr refl

-- the result that is due was written, and it is that of the one session that the input is
session_ended : {c : Call} {status : ℕ} {output note : List ℕ} → c.request.faults_after ≡ c.request.faults_before
    → DueToSession c.request.input status output note c.left → Got c.out output → Got c.notes note → SessionEnds c status
session_ended calm (DueToSession.to_end replies end left whole) out notes = record {
  calm = calm;
  session_ends = SessionComes.ended replies end whole out notes;
  session_exactly = λ others other rest is _ _.
      let (lines, how, leaves) = one_exchange _ replies others end other _ rest whole is in
      inr (ap status_of_ending how, rw lines at out, rw how at notes, leaves);
}
session_ended calm (DueToSession.to_read replies left cut) out notes =
    record { calm = calm; session_ends = SessionComes.unread replies cut out notes; session_exactly = λ others other rest is _ _. inl refl }

-- a write failed, or memory ran out
session_cut : {c : Call} {status : ℕ} → c.request.faults_after ≡ c.request.faults_before → (status ≡ 8) ⊎ (status ≡ 9) → SessionComes c status
    → SessionEnds c status
session_cut calm cut comes = record {
  calm = calm;
  session_ends = comes;
  session_exactly = λ others other rest is eight nine. absurd (grind (arith, cut));
}

-- a status and a note are due
due_over : {c : Call} {status : ℕ} {output note : List ℕ} → c.request.faults_after ≡ c.request.faults_before
    → DueToSession c.request.input status output note c.left → Got c.out output
    → ((status ≡ 0) ⊎ (status ≡ 12)) × (c.input_after ≡ c.input_before) ⊎ (status ≡ 7) × Rose c.input_before c.input_after
    → IsFinished SessionEnds c status [] note
due_over calm due out input = record {
  shelf = omega arith;
  known = grind arith;
  out = out.1;
  input = grind arith;
  whole = session_ended calm due out;
  cut = λ part. session_cut calm (inl refl) (SessionComes.unnoted _ _ _ due out part);
}

-- memory ran out
session_short_goes : {c : Call} → c.request.faults_after ≡ c.request.faults_before
    → SessionWent c (Err Interruption.Memory) ⊎ ((end : Ending) × (status_of_ending end ≡ 12) × SessionWent c (Ok end)) → Got c.notes []
    → (c.input_after ≡ c.input_before) × (c.out.faults_after ≡ c.out.faults_before) → Goes SessionEnds c 9
session_short_goes calm went notes count =
    short_goes (omega arith) count notes.1
    (session_cut calm (inr refl) (SessionComes.short (record { went = went; notes = notes; out_calm = count.1; input_calm = count.0 })))

module _ {c : Call} {result : Result Ending Interruption} (calm : c.request.faults_after ≡ c.request.faults_before)
    (went : Conversed c.request.input result c.left c.out.held_before c.out.held_after)
    (counted : Counted result c.input_before c.input_after c.out.faults_before c.out.faults_after) where
  -- it came to its end
  pub came_to_end : (end : Ending) → result ≡ Ok end → IsFinished SessionEnds c (status_of_ending end) [] (ending_note end)
  came_to_end end is =
      let (replies, whole, put) = rw is at went in
      let count = rw is at counted in
      due_over calm (DueToSession.to_end replies end _ whole) (put, count.1) (inl (ending_status end, count.0))

  -- a read failed
  pub cut_by_read : result ≡ Err Interruption.ReadFault → IsFinished SessionEnds c 7 [] read_fault_note
  cut_by_read is =
      let (replies, cut, put) = rw is at went in
      let count = rw is at counted in
      due_over calm (DueToSession.to_read replies _ cut) (put, count.1) (inr (refl, count.0))

  -- a write failed
  pub cut_by_write : result ≡ Err Interruption.WriteFault → Got c.notes [] → Goes SessionEnds c 8
  cut_by_write is notes =
      let (replies, lines, work, got) = rw is at went in
      let count = rw is at counted in
      cut_goes (omega arith) count notes.1 (session_cut calm (inl refl) (SessionComes.unwritten replies lines work (got, count.1) notes))

  -- memory ran out
  pub cut_by_memory : result ≡ Err Interruption.Memory → Got c.notes [] → Goes SessionEnds c 9
  cut_by_memory is notes = let count = rw is at counted in session_short_goes calm (inl (rw is at went)) notes count

  -- it came to an end of status 12, and the note of it was written, or that write failed, or memory ran out for it
  pub noted_end : (end : Ending) (answered : Status) → result ≡ Ok end → status_of_ending end ≡ 12
      → NotedIfMade c.notes (ending_note end) Status.Unfit answered → Goes SessionEnds c (code_of answered)
  noted_end end answered is twelve (inl noted) = finished_goes (came_to_end end is) (rw twelve (is_noted noted))
  noted_end end answered is twelve (inr (short, notes)) =
      rw short (let count = rw is at counted in session_short_goes calm (inr (end, twelve, rw is at went)) notes count)

-- only one status is that of a read that failed
pub read_fault_of_seven : (status : Status) → code_of status ≡ 7 → status ≡ Status.ReadFault
read_fault_of_seven Status.ReadFault e = refl
read_fault_of_seven _ e = absurd (omega (arith, e))

-- memory ran out before it began
pub unbegun : {c : Call} → c.request.faults_after ≡ c.request.faults_before → DidNothing c → SessionEnds c 9
unbegun calm (out, notes, left, input) = session_cut calm (inr refl) (SessionComes.short (record {
  went = inl (inl ([], record { count = 0; held = nothing_held; rest = _; did = exchange.none; begins = exchange.Begins.a_line [] (sym left) (omega arith) refl }, out.0));
  notes = notes;
  out_calm = out.1;
  input_calm = input;
}))
