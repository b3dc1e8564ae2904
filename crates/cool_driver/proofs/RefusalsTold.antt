-- If a command refuses its files, its message has one line for each compile-time error, or one line with the reason, and each line ends in a line feed.
use Rattle.std.proofs.Common.{◌≡◌, ◌≢◌, ◌∙◌, ℕ, true, List, [], ◌++◌, Some, inl, inr, refl, sym, ap, subst, arith}
use Rattle.std.specs.{Prelude.{Result, Ok, Err, IfErr, codes}, List.{concat}}
use Rattle.cool_faults.specs.{declared.fault.Fault.{Fault}, Shown.{shown}, Verdicts.{IsRefused}}
use Rattle.cool_ports.specs.declared.shelf.ShelfFault.{ShelfFault}
use Rattle.cool_ports.specs.declared.shelf.ShelfFault.TheVariants as faults
use Rattle.cool_syntax.specs.declared.TheConstants.{MOST_SOURCE_BYTES}
use Rattle.cool_driver.specs.{Calls.{ShelfUse, SinkUse}, Notes.{missing_note, unread_note, too_large_note}, Sources.{IsStopAt, AreRead, IsDueUnread}}
use Rattle.cool_driver.specs.{Refusals.{IsTold, IsLine, AreLinesOf, IsDueToFaults, HasLines, PutsFaults, AreFaultLines}, Sources.AreUnread.{missing, unread, too_large}}
use Rattle.cool_driver.specs.{Statuses.{code_of}, Telling.{AreLines, Noted, ends_line, fault_note}, declared.refusal.Refusal.{Refusal}}
use Rattle.cool_driver.specs.{declared.refusal.Refusal.TheVariants.{Told, Memory}, declared.status.Status.{Status}}
use Rattle.cool_driver.specs.declared.status.Status.TheVariants as statuses
use Rattle.cool_driver.proofs.LinesOfNotes.{ends_after, feed, file_line, fault_lines, one_line}

-- one line that is due
pub line_told : (Due : ℕ → List ℕ → Type 0) (status : Status) (line : List ℕ) (refusal : Refusal) → ends_line line ≡ true → Due (code_of status) line
    → IsLine status line refusal → IsTold Due refusal
line_told Due status line (Told told lines) some due h = rw (h.0, one_line lines.items line h.1) (subst AreLines (sym h.1) (some, tt), due)
line_told Due status line Memory some due h = tt

-- a line for each fault
pub faults_told : (names contents : List (List ℕ)) (faults : List Fault) (refusal : Refusal) → IsRefused contents faults
    → AreLinesOf names faults refusal → IsTold (IsDueToFaults names contents) refusal
faults_told names contents faults (Told status lines) is h = (subst AreLines (sym h.1) (fault_lines names faults), (faults, is, h.0, ap concat h.1))
faults_told names contents faults Memory is h = tt

-- a consequence of each status and note
pub told_so : (P Q : ℕ → List ℕ → Type 0) (refusal : Refusal) → ((status : ℕ) (note : List ℕ) → P status note → Q status note) → IsTold P refusal
    → IsTold Q refusal
told_so P Q (Told status lines) f h = (h.0, f (code_of status) _ h.1)
told_so P Q Memory f h = tt

-- its lines end in line feeds
pub has_lines : (P : ℕ → List ℕ → Type 0) (refusal : Refusal) → IsTold P refusal → HasLines refusal
has_lines P (Told status lines) h = h.0
has_lines P Memory h = tt

-- a line is due for a file that the shelf refused
pub stop_told : (shelf : ShelfUse) (most : ℕ) (names : List (List ℕ)) (name : List ℕ) (fault : ShelfFault) (refusal : Refusal)
    → IsStopAt shelf names most name fault → ((note : List ℕ) → fault_note name fault ≡ Some note → IsLine statuses.FileFault note refusal) → IsTold (IsDueUnread shelf most names) refusal
stop_told shelf most names name faults.Missing refusal (contents, read, cause) line =
    line_told (IsDueUnread shelf most names) statuses.FileFault (missing_note name) refusal (file_line (shown name) (codes ": missing"))
    (refl, missing name contents read cause) (line (missing_note name) refl)
stop_told shelf most names name faults.Failed refusal (contents, read, cause) line =
    line_told (IsDueUnread shelf most names) statuses.FileFault (unread_note name) refusal (file_line (shown name) (codes ": read failed"))
    (refl, unread name contents read cause) (line (unread_note name) refl)
stop_told shelf most names name faults.TooLarge refusal (contents, read, cause) line =
    line_told (IsDueUnread shelf most names) statuses.FileFault too_large_note refusal (ends_after (codes "cool: files too large") (codes "\n") feed)
    (refl, too_large name contents read cause) (line too_large_note refl)
stop_told shelf most names name faults.Memory refusal (contents, read, cause) line = absurd cause

-- facts that hold when memory runs out
pub memory_so : {T : Type 0} (P : Refusal → Type 0) (result : Result T Refusal) → P Memory → IfErr result (λ refusal. refusal ≡ Memory) → IfErr result P
memory_so P (Ok made) of h = tt
memory_so P (Err refusal) of h = subst P (sym h) of

-- The lines of faults

pub faults_lined : (names contents : List (List ℕ)) (shelf : ShelfUse) (faults : List Fault) (refusal : Refusal)
    → AreRead shelf MOST_SOURCE_BYTES names contents → IsRefused contents faults → AreLinesOf names faults refusal → AreFaultLines names shelf refusal
faults_lined names contents shelf faults (Told status lines) read is h = λ _. (contents, faults, read, is, h.1)
faults_lined names contents shelf faults Memory read is h = tt

-- a refusal of another status has none
pub other_lined : (P : ℕ → List ℕ → Type 0) (names : List (List ℕ)) (shelf : ShelfUse) (refusal : Refusal)
    → ((status : ℕ) (note : List ℕ) → P status note → status ≢ 1) → IsTold P refusal → AreFaultLines names shelf refusal
other_lined P names shelf (Told status lines) other h = λ is. absurd (other (code_of status) _ h.1 is)
other_lined P names shelf Memory other h = tt

pub line_lined : (names : List (List ℕ)) (shelf : ShelfUse) (status : Status) (line : List ℕ) (refusal : Refusal) → code_of status ≢ 1
    → IsLine status line refusal → AreFaultLines names shelf refusal
line_lined names shelf status line (Told told lines) other h = λ is. absurd (other (sym (ap code_of h.0) ∙ is))
line_lined names shelf status line Memory other h = tt

-- they were put
pub faults_put : (names : List (List ℕ)) (shelf : ShelfUse) (lines before after : List (List ℕ)) → PutsFaults names shelf [] lines
    → after ≡ before ++ lines → PutsFaults names shelf before after
faults_put names shelf lines before after (contents, faults, read, is, same) put =
    (contents, faults, read, is, put ∙ ap (λ (puts : List (List ℕ)). before ++ puts) same)

-- status 1 is that of what was told
pub status_told : (s : SinkUse) (bytes : List ℕ) (status answered : Status) → code_of answered ≡ 1 → Noted s bytes status answered → code_of status ≡ 1
status_told s bytes status answered is (inl (told, got)) = sym (ap code_of told) ∙ is
status_told s bytes status answered is (inr (failed, part)) = absurd (omega (arith, is, ap code_of failed))
