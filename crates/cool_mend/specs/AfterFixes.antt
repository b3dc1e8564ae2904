-- `AreAfterFixes` says which errors are told behind the first ones: those that the files have once fixes told so far are made, step by step. An error that
-- comes from a place of the given files where one was told before is not told again.
use Rattle.std.specs.Prelude.{◌≡◌, refl, ℕ, ◌+◌, ◌-◌, List, [], ◌∷◌, ◌++◌, map, length, Bool, ◌&&◌, ◌||◌, not, nat_eq, nat_lt, nat_le, if◌then◌else◌}
use Rattle.std.specs.List.{AllByRecursion, filter, list_any, slice_get}
use Rattle.std.specs.Prelude.{Some}
use Rattle.cool_syntax.specs.TokenFacts.{IsPlaced}
use Rattle.cool_faults.specs.Files.{bytes_of}
use Rattle.cool_faults.specs.declared.fault.Fault.{Fault}
use Rattle.cool_faults.specs.Verdicts.{IsFaultList, place_of}
use Rattle.cool_mend.specs.declared.edit.Edit.{Edit}
use Rattle.cool_mend.specs.declared.explanation.AfterFixes.{AfterFixes}
use Rattle.cool_mend.specs.declared.explanation.Explanation.{Explanation}
use Rattle.cool_mend.specs.declared.explanation.Mend.{Mend}
use Rattle.cool_mend.specs.declared.explanation.Origin.{Origin}
use Rattle.cool_mend.specs.declared.shift.Shift.{Shift}
use Rattle.cool_mend.specs.Edits.{IsEdit, edited}
use Rattle.cool_mend.specs.Explanations.{IsMend, IsTold}

-- Several edits, one after the other

-- the files after edits
abbrev pub edited_by : List Edit → List (List ℕ) → List (List ℕ)
edited_by [] files = files
edited_by (e ∷ es) files = edited_by es (edited e files)

-- each is an edit of the files after those in front of it
abbrev pub AreEdits : List (List ℕ) → List Edit → Type 0
AreEdits files [] = Unit {0}
AreEdits files (e ∷ es) = IsEdit files e × AreEdits (edited e files) es

-- Places before edits

abbrev pub shift_of : Edit → Shift
shift_of e = record { file = e.file; start = e.start; end = e.end; size = length e.text.items }

-- the byte of a file from which one comes that stands there after an edit; added bytes come from the place of the edit
abbrev pub byte_before : Shift → ℕ → ℕ → ℕ
byte_before s file byte =
    if not (nat_eq file s.file) || nat_lt byte s.start then byte
    else (if nat_le (s.start + s.size) byte then s.end + (byte - (s.start + s.size)) else s.start)

-- the same before several edits
abbrev pub first_byte : List Shift → ℕ → ℕ → ℕ
first_byte [] file byte = byte
first_byte (s ∷ ss) file byte = byte_before s file (first_byte ss file byte)

-- where a fault comes from that files have after these edits
abbrev pub origin_of : List Shift → Fault → Origin
origin_of shifts f = let at = place_of f in record { file = at.file; byte = first_byte shifts at.file at.byte }

-- Faults that are told after fixes

abbrev pub is_same : Origin → Origin → Bool
is_same a b = nat_eq a.file b.file && nat_eq a.byte b.byte

abbrev pub is_new : List Origin → List Shift → Fault → Bool
is_new told shifts f = not (list_any (is_same (origin_of shifts f)) told)

-- the faults that come from other places than these
abbrev pub new_faults : List Origin → List Shift → List Fault → List Fault
new_faults told shifts = filter (is_new told shifts)

-- the files so far, the edits that led to them, the explanations of their faults, and the places from which the faults come that were told
pub record Progress : Type 0 where
  pub files : List (List ℕ)
  pub shifts : List Shift
  pub explained : List Explanation
  pub told : List Origin

abbrev pub begun : List (List ℕ) → List Explanation → Progress
begun files all = record { files = files; shifts = []; explained = all; told = map (λ x. origin_of [] x.fault) all }

abbrev pub after : Progress → AfterFixes → Progress
after p a = record {
  files = bytes_of a.files.items;
  shifts = p.shifts ++ map shift_of a.edits.items;
  explained = a.explanations.items;
  told = p.told ++ a.origins.items;
}

-- Two edits do the same.
pub record IsSameEdit (a b : Edit) : Type 0 where
  pub file : b.file ≡ a.file
  pub start : b.start ≡ a.start
  pub end : b.end ≡ a.end
  pub text : b.text.items ≡ a.text.items

-- An edit is the first one that is suggested in one of these explanations.
pub record IsFixOf (explained : List Explanation) (e : Edit) : Type 0 where
  pub number : ℕ
  pub told : Explanation
  pub stands : slice_get explained number ≡ Some told
  pub fix : Mend
  pub first : slice_get told.mends.items 0 ≡ Some fix
  pub same : IsSameEdit fix.edit e

-- Edits of files that were suggested in these explanations lead to these files.
pub record AreMade (files : List (List ℕ)) (explained : List Explanation) (edits : List Edit) (fixed : List (List ℕ)) : Type 0 where
  pub valid : AreEdits files edits
  pub suggested : AllByRecursion (IsFixOf explained) edits
  pub lead : fixed ≡ edited_by edits files

-- An explanation is that of one of the faults of files, is told as the definitions of its parts say, and its edits mend the fault.
pub record IsExplained (files : List (List ℕ)) (faults : List Fault) (x : Explanation) : Type 0 where
  pub told : IsTold files x
  pub number : ℕ
  pub stands : slice_get faults number ≡ Some x.fault
  pub mends : AllByRecursion (IsMend files faults number) x.mends.items

-- The new ones of these faults of files are explained, in order, and each comes from this place of the given files.
pub record AreExplainedNew (files : List (List ℕ)) (faults : List Fault) (shifts : List Shift) (told : List Origin) (explained : List Explanation) (origins : List Origin) : Type 0 where
  pub new : map (λ x. x.fault) explained ≡ new_faults told shifts faults
  pub places : origins ≡ map (λ x. origin_of shifts x.fault) explained
  pub each : AllByRecursion (IsExplained files faults) explained

-- Fixes that were told are made, and the new faults of the files after them are explained.
pub record IsAfterFixes (p : Progress) (a : AfterFixes) : Type 0 where
  pub made : AreMade p.files p.explained a.edits.items (bytes_of a.files.items)
  pub faults : List Fault
  pub list : IsFaultList (bytes_of a.files.items) faults
  pub new : AreExplainedNew (bytes_of a.files.items) faults (p.shifts ++ map shift_of a.edits.items) p.told a.explanations.items a.origins.items

-- the same, step by step
abbrev pub AreAfterFixes : Progress → List AfterFixes → Type 0
AreAfterFixes p [] = Unit {0}
AreAfterFixes p (a ∷ rest) = IsAfterFixes p a × AreAfterFixes (after p a) rest

-- these are the shifts and the places so far
pub record HasProgress (p : Progress) (shifts : List Shift) (told : List Origin) : Type 0 where
  pub moved : shifts ≡ p.shifts
  pub known : told ≡ p.told

-- each fault that is explained is in one of so many files
abbrev pub ArePlaced : ℕ → AfterFixes → Type 0
ArePlaced many a = AllByRecursion (λ x. IsPlaced many (place_of x.fault)) a.explanations.items

-- Worked examples: `;` is added at byte 7 of file 0, so byte 8 comes from byte 7, and another file stays; and two bytes are taken away at byte 3.
added : first_byte (record { file = 0; start = 7; end = 7; size = 1 } ∷ []) 0 8 ≡ 7
added = refl

elsewhere : first_byte (record { file = 0; start = 7; end = 7; size = 1 } ∷ []) 1 8 ≡ 8
elsewhere = refl

removed : first_byte (record { file = 0; start = 3; end = 5; size = 0 } ∷ []) 0 3 ≡ 5
removed = refl
