-- A call satisfies its command's postcondition, and its status agrees with the failures of files, input and outputs, whether its last write succeeds or fails
-- or memory runs out.
use Rattle.std.proofs.Common.{List, Option, Some, [], arith, inl, inr, refl, sym, ℕ, ◌++◌, ◌<◌, ◌≡◌, ◌≢◌, ◌≤◌, ◌⊎◌}
use Rattle.cool_ports.proofs.GettingBytes.{appended-nil}
use Rattle.cool_ports.specs.{Counts.{Rose}, SinkBytes.{appended}}
use Rattle.spim_machine.specs.declared.halt.Halt.{Halt}
use Rattle.cool_driver.specs.{Calls.{Call, Got, GotPart, Request}, Comes.{Comes, Dues, Pieces}, Does.{Goes}, Execution.{note_of_halt, status_of_halt}, Statuses.{code_of}}
use Rattle.cool_driver.specs.{Telling.{HaltNoted, Noted}, declared.status.Status.{Status}}

-- A status that is due: it is one of those that may be, and what it says of the shelf.
pub record IsStatus (r : Request) (status : ℕ) : Type 0 where
  pub known : (status < 8) ⊎ (9 < status) × (status ≤ 12)
  pub shelf : (status ≡ 10) ⊎ (r.faults_after ≡ r.faults_before)

-- the result that was due was written, unless a write failed or memory ran out
pub came : {due : Dues} {pieces : Pieces} {c : Call} {status : ℕ} → Comes due pieces c status → status ≢ 8 → status ≢ 9
    → (output : List ℕ) × (note : List ℕ) × due status output note c.left × Got c.out output × Got c.notes note
came (Comes.written status output note is out notes) eight nine = (output, note, is, out, notes)
came _ eight nine = absurd (omega arith)

-- The output of a call came and some notes, and a status and one more note are due: what is promised where that comes, and where its write fails.
pub record IsFinished (Promise : Call → ℕ → Type 0) (c : Call) (status : ℕ) (notes note : List ℕ) : Type 0 where
  pub shelf : c.request.faults_before ≤ c.request.faults_after
  pub known : IsStatus c.request status × (status ≢ 2)
  pub out : c.out.faults_after ≡ c.out.faults_before
  pub input : (status ≢ 7) × (c.input_after ≡ c.input_before) ⊎ (status ≡ 7) × Rose c.input_before c.input_after
  pub whole : Got c.notes (notes ++ note) → Promise c status
  pub cut : GotPart c.notes notes note → Promise c 8

-- It came, or its write failed.
pub data IsNoted (c : Call) (status : ℕ) (notes note : List ℕ) : ℕ → Type 0 where
  noted : Got c.notes (notes ++ note) → IsNoted c status notes note status
  failed : GotPart c.notes notes note → IsNoted c status notes note 8

pub finished_goes : {Promise : Call → ℕ → Type 0} {c : Call} {status answered : ℕ} {notes note : List ℕ} → IsFinished Promise c status notes note
    → IsNoted c status notes note answered → Goes Promise c answered
finished_goes f (IsNoted.noted got) = let ends = f.whole got in grind arith
finished_goes f (IsNoted.failed part) = let ends = f.cut part in grind arith

pub is_noted : {c : Call} {status answered : Status} {note : List ℕ} → Noted c.notes note status answered
    → IsNoted c (code_of status) [] note (code_of answered)
is_noted (inl (is, got)) = rw is (IsNoted.noted got)
is_noted (inr (is, part)) = rw is (IsNoted.failed part)

pub halt_noted : {c : Call} (halt : Halt) {answered : Status} → HaltNoted c.notes halt answered
    → IsNoted c (status_of_halt halt) [] (note_of_halt halt) (code_of answered)
halt_noted halt (inl (is, got)) = rw is (IsNoted.noted got)
halt_noted halt (inr (is, some, part)) = rw is (IsNoted.failed part)

-- the end of a call, by the result that is due and how it was written
pub due_finished : {due : Dues} {pieces : Pieces} {Promise : Call → ℕ → Type 0} {c : Call} {status : ℕ} {output note : List ℕ}
    → ((status : ℕ) → Comes due pieces c status → Promise c status) → c.request.faults_before ≤ c.request.faults_after
    → IsStatus c.request status × (status ≢ 2) → due status output note c.left → Got c.out output
    → (status ≢ 7) × (c.input_after ≡ c.input_before) ⊎ (status ≡ 7) × Rose c.input_before c.input_after → IsFinished Promise c status [] note
due_finished promise shelf known is out input = record {
  shelf = shelf;
  known = known;
  out = out.1;
  input = input;
  whole = λ got. promise _ (Comes.written _ _ _ is out got);
  cut = λ part. promise _ (Comes.unnoted _ _ _ is out part);
}

-- nothing was done, with status 0
pub done_goes : {Promise : Call → ℕ → Type 0} {c : Call} → c.request.faults_after ≡ c.request.faults_before → c.input_after ≡ c.input_before
    → Got c.out [] → Got c.notes [] → Promise c 0 → Goes Promise c 0
done_goes shelf input out notes ends = grind arith

-- the write of the output failed, or memory ran out
pub cut_goes : {Promise : Call → ℕ → Type 0} {c : Call} → c.request.faults_before ≤ c.request.faults_after
    → (c.input_after ≡ c.input_before) × Rose c.out.faults_before c.out.faults_after → c.notes.faults_after ≡ c.notes.faults_before → Promise c 8
    → Goes Promise c 8
cut_goes shelf counted notes ends = grind arith

pub short_goes : {Promise : Call → ℕ → Type 0} {c : Call} → c.request.faults_before ≤ c.request.faults_after
    → (c.input_after ≡ c.input_before) × (c.out.faults_after ≡ c.out.faults_before) → c.notes.faults_after ≡ c.notes.faults_before → Promise c 9
    → Goes Promise c 9
short_goes shelf counted notes ends = grind arith

-- a sink that is neither used nor written got nothing
pub got_nothing : (held : Option (List ℕ)) (faults : ℕ) → (held ≡ appended held []) × (faults ≡ faults)
got_nothing held faults = (sym (appended-nil held), refl)

-- a sink that held nothing holds just what it got
pub got_alone : (bytes : List ℕ) → Some bytes ≡ appended (Some []) bytes
unfolding appended
got_alone bytes = refl
