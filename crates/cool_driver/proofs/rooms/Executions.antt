-- A call of `exec` that ran the image of its file, or reported why there is none, satisfies the postcondition `ExecEnds` of the command.
use Rattle.std.proofs.Common.{Err, IfErr, IfOk, List, Ok, Result, [], ap, arith, get_or, inl, inr, refl, subst, true, ℕ, ◌∷◌, ◌≡◌, ◌⊎◌}
use Rattle.std.specs.Global.{Vec}
use Rattle.cool_words.specs.declared.plan.RunLimits.{RunLimits}
use Rattle.mips_isa.specs.{ImageBounds.{ImageParts}, declared.asm_fault.AsmFault.{AsmFault}}
use Rattle.cool_driver.specs.{Calls.{Call, Request, ShelfUse, shelf_of}, Comes.{Comes, NoPieces, PutAsDue}, Contents.{texts}, Does.{Goes}}
use Rattle.cool_driver.specs.{Execution.{IsRunnable, IsTextFault, is_text_file, run_of, status_of}, Notes.{asm_note}, Refusals.{IsTold}, Runs.{DueToRun, PiecesOfRun, puts_of_run}}
use Rattle.cool_driver.specs.{Sources.{AreRead}, commands.Exec.{DueToExec, ExecEnds, FileIsKnown, FileIsRead, IsDueToBytes, IsLoaded, IsNoImage, PiecesOfExec}}
use Rattle.cool_driver.specs.{declared.TheConstants.{MOST_IMAGE_BYTES}, declared.refusal.Refusal.{Refusal}}
use Rattle.cool_driver.proofs.{ComesOfRefusals.{DueToRefusal, IsRefusalStatus, comes_map, goes_map}, ComesOfRuns.{run_so}, DevicesOfCalls.{came}, PutsOfCalls.{put_refused}, RefusalsTold.{told_so}}
use Rattle.cool_driver.proofs.{RunnableFiles.{fault_or_runs, one_runnable, one_text_fault, unfit_or_runs}, SourcesOfCalls.{WereRead, files_told, no_unread, same_contents}}

-- The bytes read of the file

-- files that were read of one name are that file
pub file_read : {shelf : ShelfUse} {name : List ℕ} {bytes : Vec ℕ} (contents : List (Vec ℕ)) → bytes ≡ get_or contents 0 bytes
    → AreRead shelf MOST_IMAGE_BYTES (name ∷ []) (texts contents) → FileIsRead shelf name bytes.items
file_read [] is read = absurd read.held
file_read (file ∷ []) is read = rw is read
file_read (file ∷ more ∷ files) is read = absurd read.held.1

-- it stands for an image
pub loaded : {shelf : ShelfUse} {name bytes : List ℕ} (result : Result ImageParts Refusal) → FileIsRead shelf name bytes
    → IfOk result (λ image. IsRunnable image bytes) → IfOk result (IsLoaded shelf name)
loaded (Ok image) read runs = record { bytes = _; read = read; runs = runs }
loaded (Err refusal) read runs = tt

-- or why it stands for none
pub unloaded : {shelf : ShelfUse} {name bytes : List ℕ} (result : Result ImageParts Refusal) → FileIsRead shelf name bytes
    → IfErr result (IsTold (IsDueToBytes name bytes)) → IfErr result (IsTold (IsNoImage shelf name))
unloaded (Ok image) read why = tt
unloaded {shelf} {name} {bytes} (Err refusal) read why = told_so (IsDueToBytes name bytes) (IsNoImage shelf name) refusal so why
  where
    so : (status : ℕ) (note : List ℕ) → IsDueToBytes name bytes status note → IsNoImage shelf name status note
    so status note (is, inl why) = rw (is, why.1) (IsNoImage.unfit bytes why.0 read why.2 why.3)
    so status note (is, inr why) = rw (is, why.1) (IsNoImage.misread bytes why.0 read why.2 why.3)

-- Consequences of the result that is due

module _ {name : List ℕ} {r : Request} where
  -- the status of a file that stands for no image
  pub no_image_status : {status : ℕ} {note : List ℕ} → IsNoImage (shelf_of r) name status note → IsRefusalStatus r status
  no_image_status (IsNoImage.not_read note why) = grind arith
  no_image_status (IsNoImage.unfit bytes fault read binary is) = let calm = read.calm in grind arith
  no_image_status (IsNoImage.misread bytes fault read text wrong) = let calm = read.calm in grind arith

  -- the file was read, or status 10 is left
  read_one : {limits : RunLimits} {status : ℕ} {output note left : List ℕ} → DueToExec name limits r status output note left
      → WereRead (shelf_of r) MOST_IMAGE_BYTES (name ∷ []) status
  read_one (DueToExec.ran image status output note left is due) = inl (is.bytes ∷ [], is.read)
  read_one (DueToExec.refused status note (IsNoImage.unfit bytes fault read binary is)) = inl (bytes ∷ [], read)
  read_one (DueToExec.refused status note (IsNoImage.misread bytes fault read text wrong)) = inl (bytes ∷ [], read)
  read_one (DueToExec.refused status note (IsNoImage.not_read _ why)) = inr refl

-- a file is read once
same : {shelf : ShelfUse} {name bytes other : List ℕ} → FileIsKnown shelf name bytes → FileIsRead shelf name other → other ≡ bytes
same known again = let one = same_contents known again in cc

-- it stands for an image, or there is a reason why for none
runs_or_none : {shelf : ShelfUse} {name bytes : List ℕ} → FileIsKnown shelf name bytes → {image : ImageParts} → IsRunnable image bytes
    → {status : ℕ} {note : List ℕ} → IsNoImage shelf name status note → ⊥
runs_or_none known runs (IsNoImage.unfit other fault again binary is) = unfit_or_runs _ other fault binary is (rw (← same known again) at runs)
runs_or_none known runs (IsNoImage.misread other fault again text wrong) = fault_or_runs _ other fault text wrong (rw (← same known again) at runs)
runs_or_none known runs (IsNoImage.not_read note why) = no_unread known why

module _ {name : List ℕ} {limits : RunLimits} {r : Request} {bytes : List ℕ} (known : FileIsKnown (shelf_of r) name bytes) where
  -- the case that it stands for an image
  executed_so : {image : ImageParts} → IsRunnable image bytes → {status : ℕ} {output note left : List ℕ}
      → DueToExec name limits r status output note left → (status ≡ 7) ⊎ (status ≡ status_of (run_of limits image r.input))
  executed_so runs (DueToExec.ran found status output note left is row) = run_so (one_runnable _ _ _ (rw (same known is.read) at is.runs) runs) row
  executed_so runs (DueToExec.refused _ _ why) = absurd (runs_or_none known runs why)

  -- the case that it stands for none
  unfit_so : ((image : ImageParts) → IsRunnable image bytes → ⊥) → {status : ℕ} {output note left : List ℕ}
      → DueToExec name limits r status output note left → status ≡ 12
  unfit_so none (DueToExec.ran found status output note left is row) = absurd (none found (rw (same known is.read) at is.runs))
  unfit_so none (DueToExec.refused _ _ (IsNoImage.unfit other fault again binary is)) = refl
  unfit_so none (DueToExec.refused _ _ (IsNoImage.misread other fault again text wrong)) = refl
  unfit_so none (DueToExec.refused _ _ (IsNoImage.not_read note why)) = absurd (no_unread known why)

  -- the case that it is a text with a fault
  misread_so : {fault : AsmFault} → is_text_file bytes ≡ true → IsTextFault bytes fault → {status : ℕ} {output note left : List ℕ}
      → DueToExec name limits r status output note left → (status ≡ 12) × (note ≡ asm_note name fault)
  misread_so text wrong (DueToExec.ran found status output note left is row) =
      absurd (fault_or_runs found bytes _ text wrong (rw (same known is.read) at is.runs))
  misread_so text wrong (DueToExec.refused _ _ (IsNoImage.unfit other found again binary is)) = absurd (let here = rw (same known again) at binary in cc)
  misread_so text wrong (DueToExec.refused _ _ (IsNoImage.misread other found again text' wrong')) =
      (refl, ap (asm_note name) (one_text_fault bytes found _ (rw (same known again) at wrong') wrong))
  misread_so text wrong (DueToExec.refused _ _ (IsNoImage.not_read note why)) = absurd (no_unread known why)

-- the puts for the image that a file stands for
abbrev IsPrinted : List ℕ → RunLimits → Call → ℕ → Type 0
IsPrinted name limits c status = (bytes : List ℕ) (image : ImageParts) → FileIsKnown (shelf_of c.request) name bytes → IsRunnable image bytes
    → PutAsDue (puts_of_run limits image c.request.input) c.out status

-- so it ends as it should
exec_ends : {name : List ℕ} {limits : RunLimits} {c : Call} {status : ℕ} → IsPrinted name limits c status
    → Comes (DueToExec name limits c.request) (PiecesOfExec name limits c.request) c status → ExecEnds name limits c status
exec_ends printed comes = record {
  comes = comes;
  printed_exactly = printed;
  executed_exactly = λ bytes image known runs eight nine.
      let (output, note, row, out, notes) = came comes eight nine in executed_so known runs row;
  unfit_exactly = λ bytes known none eight nine.
      let (output, note, row, out, notes) = came comes eight nine in unfit_so known none row;
  misread_exactly = λ bytes fault known text wrong eight nine.
      let (output, note, row, out, notes) = came comes eight nine in
      let so = misread_so known text wrong row in
      (so.0, rw so.1 at notes);
  files = files_told (λ eight nine. let (output, note, row, out, notes) = came comes eight nine in read_one row);
}

-- the image ran
pub ran_goes : {name : List ℕ} {limits : RunLimits} {c : Call} {status : ℕ} {image : ImageParts} → IsLoaded (shelf_of c.request) name image
    → PutAsDue (puts_of_run limits image c.request.input) c.out status → Goes (Comes (DueToRun limits image c.request.input) (PiecesOfRun limits image c.request.input)) c status → Goes (ExecEnds name limits) c status
ran_goes {limits = limits} {c} {status} is put = goes_map (λ comes. exec_ends
    (λ bytes image known runs. subst (λ (i : ImageParts). PutAsDue (puts_of_run limits i c.request.input) c.out status) (one_runnable _ _ _ (rw (same known is.read) at is.runs) runs) put)
    (comes_map (λ s o n l row. DueToExec.ran _ s o n l is row) (λ b p l row. PiecesOfExec.of_run _ b p l is row) comes))

-- the file was refused, and nothing was put
row_of : {name : List ℕ} {limits : RunLimits} {r : Request} {status : ℕ} {output note left : List ℕ}
    → DueToRefusal (IsNoImage (shelf_of r) name) r status output note left → DueToExec name limits r status output note left
row_of (DueToRefusal.refused status note why) = DueToExec.refused status note why

pub unloaded_ends : {name : List ℕ} {limits : RunLimits} {c : Call} {status : ℕ} → c.out.puts_after ≡ c.out.puts_before
    → Comes (DueToRefusal (IsNoImage (shelf_of c.request) name) c.request) NoPieces c status → ExecEnds name limits c status
unloaded_ends none comes =
    exec_ends (λ bytes image known runs. put_refused (λ s n why. runs_or_none known runs why) none comes)
    (comes_map (λ s o n l row. row_of row) (λ b p l row. absurd row) comes)
