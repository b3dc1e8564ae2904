-- The texts that a call writes to its output are the specified ones in order, one write for each, or the first of these if a read or write fails or memory runs
-- out.
use Rattle.std.proofs.Common.{List, [], ◌++◌, ap, append-nil, inl, inr, refl, subst, sym, ℕ, ◌≡◌, ◌≢◌}
use Rattle.cool_ports.specs.SinkPuts.{PutFront}
use Rattle.spim_machine.specs.{Puts.{PutWithin}, declared.halt.Halt.{Halt}}
use Rattle.spim_machine.specs.declared.halt.Halt.TheVariants as halts
use Rattle.cool_driver.specs.{Calls.{Call, SinkUse}, Comes.{Comes, NoPieces, PutAsDue}}
use Rattle.cool_driver.specs.{Statuses.{READ_FAULT, WRITE_FAULT, OUT_OF_MEMORY, code_of}, Telling.{HaltNoted, Noted}, declared.status.Status.{Status}}
use Rattle.cool_driver.proofs.ComesOfRefusals.{DueToRefusal}

-- all is a front of it
whole_front : (before texts after : List (List ℕ)) → after ≡ before ++ texts → PutFront before texts after
whole_front before texts after is = ([], record { front = texts; cut = sym (append-nil texts); put = is })

-- nothing is one
pub nothing_front : (before texts : List (List ℕ)) → PutFront before texts before
nothing_front before texts = (texts, record { front = []; cut = refl; put = sym (append-nil before) })

-- all was put
pub put_whole : {texts : List (List ℕ)} {s : SinkUse} {status : ℕ} → s.puts_after ≡ s.puts_before ++ texts → PutAsDue texts s status
put_whole {texts} {s} is = record { front = whole_front s.puts_before texts s.puts_after is; all = λ seven eight nine. is }

-- a front was, before memory ran out; nothing is one
pub put_short : {texts : List (List ℕ)} {s : SinkUse} → PutFront s.puts_before texts s.puts_after → PutAsDue texts s OUT_OF_MEMORY
put_short front = record { front = front; all = λ seven eight nine. absurd (nine refl) }

pub put_none : {texts : List (List ℕ)} {s : SinkUse} → s.puts_after ≡ s.puts_before → PutAsDue texts s OUT_OF_MEMORY
put_none {texts} {s} none =
    put_short (subst (λ (after : List (List ℕ)). PutFront s.puts_before texts after) (sym none) (nothing_front s.puts_before texts))

-- a failed device has a status of its own
cut : {texts : List (List ℕ)} {s : SinkUse} {status : ℕ} → PutFront s.puts_before texts s.puts_after
    → (status ≢ READ_FAULT → status ≢ WRITE_FAULT → ⊥) → PutAsDue texts s status
cut front failed = record { front = front; all = λ seven eight nine. absurd (failed seven eight) }

-- a write failed
pub put_cut : {texts : List (List ℕ)} {s : SinkUse} → PutFront s.puts_before texts s.puts_after → PutAsDue texts s WRITE_FAULT
put_cut front = cut front (λ seven eight. eight refl)

-- a read failed, and that was noted
pub put_unread : {texts : List (List ℕ)} {s : SinkUse} (notes : SinkUse) {note : List ℕ} {answered : Status} → PutFront s.puts_before texts s.puts_after
    → Noted notes note Status.ReadFault answered → PutAsDue texts s (code_of answered)
put_unread notes front (inl (is, got)) = cut front (λ seven eight. seven (ap code_of is))
put_unread notes front (inr (is, part)) = cut front (λ seven eight. eight (ap code_of is))

-- as a machine put it whose halt was noted
pub put_by_halt : {texts : List (List ℕ)} {s : SinkUse} (notes : SinkUse) (halt : Halt) {answered : Status} → PutWithin halt texts s.puts_before s.puts_after
    → HaltNoted notes halt answered → PutAsDue texts s (code_of answered)
put_by_halt notes (halts.Exit code) put noted = put_whole put
put_by_halt notes (halts.Trap trap) put noted = put_whole put
put_by_halt notes halts.StepLimit put noted = put_whole put
put_by_halt notes halts.ReadFault put (inl (answers, got)) = cut put (λ seven eight. seven answers)
put_by_halt notes halts.ReadFault put (inr (is, some, part)) = cut put (λ seven eight. eight (ap code_of is))
put_by_halt notes halts.WriteFault put (inl (answers, got)) = cut put (λ seven eight. eight answers)
put_by_halt notes halts.WriteFault put (inr (is, some, part)) = cut put (λ seven eight. eight (ap code_of is))

-- nothing was put where files were refused, and so there is nothing to compare where they cannot have been
pub put_refused : {P : ℕ → List ℕ → Type 0} {c : Call} {texts : List (List ℕ)} {status : ℕ} → ((status : ℕ) (note : List ℕ) → P status note → ⊥)
    → c.out.puts_after ≡ c.out.puts_before → Comes (DueToRefusal P c.request) NoPieces c status → PutAsDue texts c.out status
put_refused never none (Comes.written s _ _ (DueToRefusal.refused _ note why) out notes) = absurd (never s note why)
put_refused never none (Comes.unwritten before piece row part notes) = absurd row
put_refused never none (Comes.unnoted s _ _ (DueToRefusal.refused _ note why) out part) = absurd (never s note why)
put_refused never none (Comes.short nothing) = put_none none
