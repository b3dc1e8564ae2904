-- `Mends` says when an edit mends (fixes) a fault of files: the fault is gone and no other has come, or the files pass the phase of the compiler that found
-- it.
use Rattle.std.specs.Prelude.{◌≡◌, ◌⊎◌, ℕ, ◌+◌, ◌-◌, ◌<◌, ◌≤◌, List, [], ◌∷◌, ◌++◌, map, length, get_or, take, drop, ◌&&◌, nat_eq, nat_le, if◌then◌else◌, Some}
use Rattle.std.specs.List.{slice_get}
use Rattle.cool_syntax.specs.declared.place.Place.{Place}
use Rattle.cool_syntax.specs.FaultOrder.{Standing}
use Rattle.cool_classes.specs.declared.fault.ClassKind.{ClassKind}
use Rattle.cool_classes.specs.declared.fault.ClassKind.TheVariants.{C1, C2, C3, C4, C5, C6, C7, F1, F2, F3, F4, F5, F6, F7, F8, F9}
use Rattle.cool_faults.specs.declared.fault.Fault.{Fault}
use Rattle.cool_faults.specs.declared.fault.Fault.TheVariants.{Lex, Syntax, Class as OfClasses, Typing}
use Rattle.cool_faults.specs.Verdicts.{IsFaultList, place_of, rank, standing_of}
use Rattle.cool_mend.specs.declared.edit.Edit.{Edit}
use Rattle.cool_mend.specs.Edits.{edited}

-- the phase that finds a fault: lexemes, syntax, classes, features, typing
abbrev pub class_phase : ClassKind → ℕ
class_phase C1 = 2
class_phase C2 = 2
class_phase C3 = 2
class_phase C4 = 2
class_phase C5 = 2
class_phase C6 = 2
class_phase C7 = 2
class_phase F1 = 3
class_phase F2 = 3
class_phase F3 = 3
class_phase F4 = 3
class_phase F5 = 3
class_phase F6 = 3
class_phase F7 = 3
class_phase F8 = 3
class_phase F9 = 3

abbrev pub phase_of : Fault → ℕ
phase_of (Lex f) = 0
phase_of (Syntax f) = 1
phase_of (OfClasses f) = class_phase f.kind
phase_of (Typing f) = 4

-- how far files with this fault list come: up to the phase that finds the faults, and past all phases if the list is empty
abbrev pub reached : List Fault → ℕ
reached [] = 5
reached (f ∷ fs) = phase_of f

-- how many lines end in some bytes
abbrev pub line_ends : List ℕ → ℕ
line_ends [] = 0
line_ends (b ∷ bs) = if nat_eq b 10 then 1 + line_ends bs else line_ends bs

-- the bytes in whose place an edit puts others
abbrev pub taken : Edit → List (List ℕ) → List ℕ
taken e files = take (e.end - e.start) (drop e.start (get_or files e.file []))

-- where a place is after an edit that adds and takes so many ends of lines: what stands behind its range moves with it
abbrev pub moved : Edit → ℕ → ℕ → Place → Place
moved e more less p =
    if nat_eq p.file e.file && nat_le e.end p.byte
    then record { file = p.file; line = p.line + more - less; byte = e.start + length e.text.items + (p.byte - e.end) }
    else p

-- where a fault stands after an edit, and the rank of its kind
abbrev pub moved_standing : Edit → ℕ → ℕ → Fault → Standing
moved_standing e more less f = record { at = moved e more less (place_of f); rank = rank f }

-- a list without some of its items
pub data IsPart {X : Type 0} : List X → List X → Type 0 where
  none : IsPart [] []
  kept : (x : X) (xs ys : List X) → IsPart xs ys → IsPart (x ∷ xs) (x ∷ ys)
  left : (y : X) (xs ys : List X) → IsPart xs ys → IsPart xs (y ∷ ys)

-- where the faults but the one of this number stand after an edit of files
abbrev pub others : List (List ℕ) → Edit → ℕ → List Fault → List Standing
others files e number faults = map (moved_standing e (line_ends e.text.items) (line_ends (taken e files))) (take number faults ++ drop (number + 1) faults)

-- how many bytes of its file stand behind the place of a fault
abbrev pub bytes_behind : List (List ℕ) → Fault → ℕ
bytes_behind files f = length (get_or files (place_of f).file []) - (place_of f).byte

-- A fault after an edit is the next one behind a fault before it: the same phase finds it in the same file, not in the bytes that the edit adds or in front of
-- them, and fewer bytes stand behind it.
pub record IsNext (files : List (List ℕ)) (e : Edit) (old new : Fault) : Type 0 where
  pub phase : phase_of new ≡ phase_of old
  pub file : (place_of new).file ≡ (place_of old).file
  pub behind : (place_of new).file ≡ e.file → e.start + length e.text.items ≤ (place_of new).byte
  pub fewer : bytes_behind (edited e files) new < bytes_behind files old

-- The faults after an edit are the next one behind the fault of this number, and no fault but the other ones before the edit.
pub record Advances (files : List (List ℕ)) (e : Edit) (before : List Fault) (number : ℕ) (after : List Fault) : Type 0 where
  pub old : Fault
  pub stands : slice_get before number ≡ Some old
  pub front : List Fault
  pub new : Fault
  pub back : List Fault
  pub list : after ≡ front ++ new ∷ back
  pub next : IsNext files e old new
  pub rest : IsPart (map standing_of (front ++ back)) (others files e number before)

-- The second fault list, which files have after an edit, mends the fault of this number of the first: it is that of a later phase, or empty, or has no fault
-- but the other ones, by their kinds and where they stand then, or but those and the next one behind the fault.
abbrev pub IsMended : List (List ℕ) → Edit → List Fault → ℕ → List Fault → Type 0
IsMended files e before number after =
    (reached before < reached after) ⊎ (IsPart (map standing_of after) (others files e number before) ⊎ Advances files e before number after)

-- An edit mends the fault of this number of files that have this fault list: the edited files have one that mends it.
pub record Mends (files : List (List ℕ)) (before : List Fault) (number : ℕ) (e : Edit) : Type 0 where
  pub stands : number < length before
  pub after : List Fault
  pub list : IsFaultList (edited e files) after
  pub mended : IsMended files e before number after
