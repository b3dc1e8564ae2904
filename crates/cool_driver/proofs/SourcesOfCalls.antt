-- If the contents of the file system are known, the source files of a call are either exactly one program, or have exactly one list of errors, and never both.
use Rattle.std.proofs.Common.{Err, IfErr, IfOk, List, Ok, Result, Some, String, [], ap, arith, inl, inr, length, refl, string_bytes, sym, true, ℕ, ◌<◌, ◌∙◌, ◌≡◌, ◌≢◌, ◌≤◌, ◌⊎◌}
use Rattle.std.proofs.lemmas.List.{length-map}
use Rattle.std.specs.{Global.{Global, Vec}, List.{AllByRecursion, list_all}}
use Rattle.cool_classes.specs.Chains.{Class}
use Rattle.cool_faults.proofs.{AcceptedFiles.{accepted_list}, OneVerdict.{never_both_verdicts, one_list, one_program}}
use Rattle.cool_faults.specs.{Files.{total}, Verdicts.{IsAccepted, IsFaultList}, declared.fault.Fault.{Fault}}
use Rattle.cool_ports.specs.ShelfFiles.{FileMap, AreHeld}
use Rattle.cool_syntax.specs.declared.TheConstants.{MOST_FILES, MOST_SOURCE_BYTES}
use Rattle.cool_words.specs.Plans.{is_file_name, words_of}
use Rattle.cool_driver.specs.{Calls.{Call, HasTold, Request, ShelfUse, UnlessCutShort, shelf_of}, Comes.{Comes, Dues, Pieces}, Contents.{texts}, Notes.{refused_note}}
use Rattle.cool_driver.specs.{Refusals.{IsDueToFaults, IsTold}, Sources.{AreKnown, AreRead, AreSources, AreUnread, EndsWith, FilesExactly, IsNoProgram, IsProgram, SourcesExactly}}
use Rattle.cool_driver.specs.{Statuses.{FILE_FAULT, REFUSED}, declared.refusal.Refusal.{Refusal}}
use Rattle.cool_driver.proofs.{ComesOfRefusals.{refused_status}, DevicesOfCalls.{IsStatus, came}, HeldFiles.{ends_same, held_length, held_same, none_missing, not_longer, not_missing}, RefusalsTold.{told_so}}
use Rattle.cool_driver.proofs.StatusesOfRuns.{IsOneOf, good_status}
use Rattle.lists.specs.Bytes.{AreBytes}

-- files that were read are sources
pub sources_read : (names : List (String Global)) (contents files : List (Vec ℕ)) → contents ≡ files → list_all is_file_name (words_of names) ≡ true
    → 0 < length names → length names ≤ MOST_FILES → length (words_of names) ≡ length (texts files) → AllByRecursion AreBytes (texts files)
    → total (texts files) ≤ MOST_SOURCE_BYTES → AreSources names contents
sources_read names contents files same named some few each bytes small =
    let as_many : length names ≡ length files = omega (arith, each, length-map names string_bytes, length-map files (λ (file : Vec ℕ). file.items)) in
    rw same (record { each = as_many; named = named; some = some; bytes = bytes; few = omega (arith, as_many, few); small = small })

-- files that were read and accepted are a program
pub program_of : {E : Type 0} {shelf : ShelfUse} {names : List (List ℕ)} {contents again : List (Vec ℕ)} (result : Result (List Class) E)
    → again ≡ contents → AreRead shelf MOST_SOURCE_BYTES names (texts contents) → AllByRecursion AreBytes (texts contents)
    → IfOk result (IsAccepted (texts again)) → IfOk result (IsProgram shelf names)
program_of (Ok p) same read bytes is = record { contents = _; read = read; bytes = bytes; accepted = rw same at is }
program_of (Err e) same read bytes is = tt

-- and files that were read and have faults are none
pub faulty_of : {T : Type 0} {shelf : ShelfUse} {names : List (List ℕ)} {contents again : List (Vec ℕ)} (result : Result T Refusal)
    → again ≡ contents → AreRead shelf MOST_SOURCE_BYTES names (texts contents) → IfErr result (IsTold (IsDueToFaults names (texts again)))
    → IfErr result (IsTold (IsNoProgram shelf names))
faulty_of (Ok p) same read is = tt
faulty_of {shelf = shelf} {names = names} {again = again} (Err refusal) same read is =
    told_so (IsDueToFaults names (texts again)) (IsNoProgram shelf names) refusal (λ status note why. rw (why.2, why.3) (IsNoProgram.faulty _ why.0 read (rw same at why.1))) is

-- Facts about files

-- the files that a told shelf gave are held
are_held : {shelf : ShelfUse} {files : FileMap} {most : ℕ} {names contents : List (List ℕ)} → HasTold shelf files → AreRead shelf most names contents
    → AreHeld (Some files) names contents
are_held told read = rw told.0 at read.held

module _ {shelf : ShelfUse} {most : ℕ} {names contents : List (List ℕ)} (known : AreKnown shelf most names contents) where
  -- they are read once
  pub same_contents : {other : List (List ℕ)} → AreRead shelf most names other → other ≡ contents
  same_contents {other} again = by known.known
    where
      by : ((files : FileMap) × (shelf.files ≡ Some files)) ⊎ EndsWith contents shelf.gave_after → other ≡ contents
      by (inl (files, told)) = sym (held_same files names contents other (rw told at known.held) (rw told at again.held))
      by (inr gave) =
          ends_same shelf.gave_after other contents again.gave gave
          (sym (held_length shelf.files names other again.held) ∙ held_length shelf.files names contents known.held)

  -- so there is no reason why they were not read
  pub no_unread : {note : List ℕ} → AreUnread shelf most names note → ⊥
  no_unread (AreUnread.too_many many calm) = let few = known.few in omega arith
  no_unread (AreUnread.missing name some u gone) =
      not_missing shelf.files u.front u.rest name some contents _ _ (rw u.stands at known.held) u.held known.below known.calm gone
  no_unread (AreUnread.unread name some u rose) = omega (arith, rose.more known.below, known.calm)
  no_unread (AreUnread.too_large name some u long) =
      not_longer shelf.files u.front u.rest name some contents most _ _ (rw u.stands at known.held) u.held known.within known.below known.calm long

module _ {shelf : ShelfUse} {names contents : List (List ℕ)} (known : AreKnown shelf MOST_SOURCE_BYTES names contents) where
  -- files that are accepted are this program
  pub same_program : {p q : List Class} → IsAccepted contents p → IsProgram shelf names q → q ≡ p
  same_program is other = one_program contents _ _ (rw (same_contents known other.read) at other.accepted) is

  -- and there is no reason why they are none
  pub no_refusal : {p : List Class} {status : ℕ} {note : List ℕ} → IsAccepted contents p → IsNoProgram shelf names status note → ⊥
  no_refusal is (IsNoProgram.not_read note why) = no_unread known why
  no_refusal is (IsNoProgram.faulty other faults again refused) = never_both_verdicts contents _ faults is (rw (same_contents known again) at refused)

  -- a program has no faults
  pub program_faultless : {p : List Class} {faults : List Fault} → IsProgram shelf names p → IsFaultList contents faults → faults ≡ []
  program_faultless is list =
      one_list contents _ [] list (rw (same_contents known is.read) at (accepted_list is.contents _ is.accepted))

  -- and what is none has just its fault list
  pub refused_with : {faults : List Fault} {status : ℕ} {note : List ℕ} → IsNoProgram shelf names status note → IsFaultList contents faults
      → (faults ≢ []) × (status ≡ REFUSED) × (note ≡ refused_note names faults)
  refused_with (IsNoProgram.not_read note why) list = absurd (no_unread known why)
  refused_with (IsNoProgram.faulty other found again refused) list =
      let one = one_list contents found _ (rw (same_contents known again) at refused.list) list in
      (λ none. refused.some (one ∙ none), refl, ap (refused_note names) one)

-- Consequences of the result that is due

-- The files of these names are a program, and the status is one of a run, or there is a reason why not, of this status and this note.
abbrev pub IsVerdictOn : ShelfUse → List (List ℕ) → ℕ → List ℕ → Type 0
IsVerdictOn shelf names status note = ((p : List Class) × IsProgram shelf names p × IsOneOf status) ⊎ IsNoProgram shelf names status note

-- so that status is good
pub verdict_status : {r : Request} {names : List (List ℕ)} {status : ℕ} {note : List ℕ} → IsVerdictOn (shelf_of r) names status note
    → IsStatus r status × (status ≢ 2)
verdict_status (inl (p, is, known)) = good_status is.read.calm known
verdict_status (inr why) = let known = refused_status why in (known.0, known.1)

-- files were read, or that is told
abbrev pub WereRead : ShelfUse → ℕ → List (List ℕ) → ℕ → Type 0
WereRead shelf most names status = ((contents : List (List ℕ)) × AreRead shelf most names contents) ⊎ (status ≡ FILE_FAULT)

-- files that were read for a verdict
pub read_for : {shelf : ShelfUse} {names : List (List ℕ)} {status : ℕ} {note : List ℕ} → IsVerdictOn shelf names status note
    → WereRead shelf MOST_SOURCE_BYTES names status
read_for (inl (p, is, known)) = inl (is.contents, is.read)
read_for (inr (IsNoProgram.not_read note why)) = inr refl
read_for (inr (IsNoProgram.faulty contents faults read refused)) = inl (contents, read)

-- the fault list says the status and the note
pub faults_so : {shelf : ShelfUse} {names contents : List (List ℕ)} {faults : List Fault} {status : ℕ} {note : List ℕ}
    → AreKnown shelf MOST_SOURCE_BYTES names contents → IsFaultList contents faults → faults ≢ []
    → IsVerdictOn shelf names status note → (status ≡ REFUSED) × (note ≡ refused_note names faults)
faults_so files list some (inl (p, is, known)) = absurd (some (program_faultless files is list))
faults_so files list some (inr refused) = let so = refused_with files refused list in (so.1, so.2)

-- So a call is exact about its files where they were read, or status 10 comes.
pub files_told : {names : List (List ℕ)} {most : ℕ} {c : Call} {status : ℕ} → UnlessCutShort status (WereRead (shelf_of c.request) most names status)
    → FilesExactly names most c status
files_told {names} {most} {c} {status} read = record {
  too_many_exactly = λ many. unread_if (λ contents h. let few = h.few in omega arith);
  missing_exactly = λ files name told named gone. unread_if (λ contents h. none_missing files names contents name (are_held told h) named gone);
  too_large_exactly = λ files large told held more.
      unread_if (λ contents h.
      let within = h.within in
      omega (arith, ap total (held_same files names contents large (are_held told h) held)));
}
  where
    by : ((contents : List (List ℕ)) → AreRead (shelf_of c.request) most names contents → ⊥) → WereRead (shelf_of c.request) most names status
        → status ≡ FILE_FAULT
    by none (inl (contents, h)) = absurd (none contents h)
    by none (inr e) = e

    unread_if : ((contents : List (List ℕ)) → AreRead (shelf_of c.request) most names contents → ⊥) → UnlessCutShort status (status ≡ FILE_FAULT)
    unread_if none = λ eight nine. by none (read eight nine)

-- And so is a command whose dues come of a verdict on its files.
pub sources_exactly : {due : Dues} {pieces : Pieces} {names : List (List ℕ)} {c : Call} {status : ℕ}
    → ((status : ℕ) (output note left : List ℕ) → due status output note left → IsVerdictOn (shelf_of c.request) names status note)
    → Comes due pieces c status → SourcesExactly names c status
sources_exactly verdict comes = record {
  files = files_told (λ eight nine. let (output, note, is, out, notes) = came comes eight nine in read_for (verdict _ _ _ _ is));
  refused_exactly = λ contents faults known list some eight nine.
      let (output, note, is, out, notes) = came comes eight nine in
      let so = faults_so known list some (verdict _ _ _ _ is) in
      (so.0, rw so.1 at notes);
}
