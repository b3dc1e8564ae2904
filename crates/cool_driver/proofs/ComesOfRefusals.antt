-- A call that writes only one text, or that only reports why its files are refused, ends as the specification of its command demands.
use Rattle.std.proofs.Common.{List, [], arith, inl, inr, ℕ, ◌≡◌, ◌≢◌, ◌≤◌}
use Rattle.cool_driver.specs.{Calls.{Call, Got, Request, shelf_of}, Comes.{Comes, Dues, Pieces}, Does.{Goes}, Refusals.{IsTold, RefusalNoted}, Sources.{IsNoProgram}}
use Rattle.cool_driver.specs.{Statuses.{code_of}, Telling.{Noted}, declared.refusal.Refusal.{Refusal}, declared.status.Status.{Status}}
use Rattle.cool_driver.proofs.DevicesOfCalls.{IsStatus, due_finished, finished_goes, is_noted, short_goes}

-- bytes that are due with status 0 were written, or that write failed
pub put_goes : {due : Dues} {pieces : Pieces} {Promise : Call → ℕ → Type 0} {c : Call} {answered : Status} {bytes : List ℕ}
    → ((status : ℕ) → Comes due pieces c status → Promise c status) → c.request.faults_after ≡ c.request.faults_before
    → c.input_after ≡ c.input_before → due 0 bytes [] c.left → pieces [] bytes c.left → Got c.notes [] → Noted c.out bytes Status.Done answered
    → Goes Promise c (code_of answered)
put_goes promise calm input is piece notes (inl (told, got)) = rw told (let ends = promise _ (Comes.written _ _ _ is got notes) in grind arith)
put_goes promise calm input is piece notes (inr (failed, part)) = rw failed (let ends = promise _ (Comes.unwritten _ _ piece part notes) in grind arith)

-- a status of a refusal
abbrev pub IsRefusalStatus : Request → ℕ → Type 0
IsRefusalStatus r status = IsStatus r status × (status ≢ 2) × (status ≢ 7)

pub refused_status : {r : Request} {names : List (List ℕ)} {status : ℕ} {note : List ℕ} → IsNoProgram (shelf_of r) names status note
    → IsRefusalStatus r status
refused_status (IsNoProgram.not_read note why) = grind arith
refused_status (IsNoProgram.faulty contents faults read is) = let calm = read.calm in grind arith

-- a call goes so that told a refusal, if memory did not run out for it, and did nothing else
pub told_goes : {due : Dues} {pieces : Pieces} {Promise : Call → ℕ → Type 0} {c : Call} (P : ℕ → List ℕ → Type 0) (refusal : Refusal) (answered : Status)
    → ((status : ℕ) → Comes due pieces c status → Promise c status) → ((status : ℕ) (note : List ℕ) → P status note → due status [] note c.left)
    → ((status : ℕ) (note : List ℕ) → P status note → IsRefusalStatus c.request status) → c.request.faults_before ≤ c.request.faults_after
    → c.left ≡ c.request.input → c.input_after ≡ c.input_before → Got c.out [] → IsTold P refusal → RefusalNoted c.notes refusal answered
    → Goes Promise c (code_of answered)
told_goes P (Refusal.Told status lines) answered promise row known shelf left input out told noted =
    let is = known _ _ told.1 in
    finished_goes (due_finished promise shelf (is.0, is.1) (row _ _ told.1) out (inl (is.2, input))) (is_noted noted)
told_goes P Refusal.Memory answered promise row known shelf left input out told noted =
    rw noted.0 (short_goes shelf (input, out.1) noted.1.1 (promise 9 (Comes.short (out, noted.1, left, input))))

-- the result that is due if files are refused: only a note
pub data DueToRefusal (P : ℕ → List ℕ → Type 0) (r : Request) : ℕ → List ℕ → List ℕ → List ℕ → Type 0 where
  refused : (status : ℕ) (note : List ℕ) → P status note → DueToRefusal P r status [] note r.input

-- so one does whose files are no program
pub refusal_goes : {due : Dues} {pieces : Pieces} {Promise : Call → ℕ → Type 0} {c : Call} (names : List (List ℕ)) (refusal : Refusal) (answered : Status)
    → ((status : ℕ) → Comes due pieces c status → Promise c status)
    → ((status : ℕ) (note : List ℕ) → IsNoProgram (shelf_of c.request) names status note → due status [] note c.left)
    → c.request.faults_before ≤ c.request.faults_after → c.left ≡ c.request.input → c.input_after ≡ c.input_before → Got c.out []
    → IsTold (IsNoProgram (shelf_of c.request) names) refusal → RefusalNoted c.notes refusal answered → Goes Promise c (code_of answered)
refusal_goes {c = c} names refusal answered promise row =
    told_goes (IsNoProgram (shelf_of c.request) names) refusal answered promise row (λ status note. refused_status)

-- the end of a call with one result that is due, derived from that with another
pub comes_map : {due other : Dues} {pieces others : Pieces} {c : Call} {status : ℕ}
    → ((status : ℕ) (output note left : List ℕ) → due status output note left → other status output note left)
    → ((before piece left : List ℕ) → pieces before piece left → others before piece left) → Comes due pieces c status → Comes other others c status
comes_map rows parts (Comes.written status output note is out notes) = Comes.written _ _ _ (rows _ _ _ _ is) out notes
comes_map rows parts (Comes.unwritten before piece is part notes) = Comes.unwritten _ _ (parts _ _ _ is) part notes
comes_map rows parts (Comes.unnoted status output note is out part) = Comes.unnoted _ _ _ (rows _ _ _ _ is) out part
comes_map rows parts (Comes.short nothing) = Comes.short nothing

-- a call goes as another promise says that follows
pub goes_map : {Promise Other : Call → ℕ → Type 0} {c : Call} {status : ℕ} → (Promise c status → Other c status) → Goes Promise c status
    → Goes Other c status
goes_map f g = record { devices = g.devices; ends = f g.ends; usage_only = g.usage_only }
