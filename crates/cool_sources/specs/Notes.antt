-- The texts of a program's messages on invalid arguments and on files that it could not read. They are the same as those of `cool`, with the program's own
-- name.
use Rattle.std.specs.Prelude.{◌≡◌, refl, ℕ, List, [], ◌++◌, codes}
use Rattle.cool_ports.specs.declared.shelf.ShelfFault.{ShelfFault}
use Rattle.cool_ports.specs.declared.shelf.ShelfFault.TheVariants.{Missing, Failed, TooLarge, Memory}
use Rattle.cool_faults.specs.Shown.{shown}
use Rattle.cool_sources.specs.declared.note.Note.{Note}
use Rattle.cool_sources.specs.declared.note.Note.TheVariants.{Fixed, Made}
use Rattle.cool_sources.specs.declared.note.Notes.{Notes}

-- the note on arguments that are not a valid command line
abbrev pub usage_note : List ℕ → List ℕ
usage_note program = program ++ codes ": bad command line\n"

abbrev pub too_many_note : List ℕ → List ℕ
too_many_note program = program ++ codes ": too many files\n"

abbrev pub too_large_note : List ℕ → List ℕ
too_large_note program = program ++ codes ": files too large\n"

-- the notes that name a file: the name is written as it is shown
abbrev pub missing_note : List ℕ → List ℕ → List ℕ
missing_note program name = program ++ (codes ": " ++ (shown name ++ codes ": missing\n"))

abbrev pub failed_note : List ℕ → List ℕ → List ℕ
failed_note program name = program ++ (codes ": " ++ (shown name ++ codes ": read failed\n"))

-- the note on the file of this name at which reading stopped, by the cause
abbrev pub file_note : List ℕ → List ℕ → ShelfFault → List ℕ
file_note program name Missing = missing_note program name
file_note program name Failed = failed_note program name
file_note program name TooLarge = too_large_note program
file_note program name Memory = []

-- the fixed notes of a program
pub record AreNotes (program : List ℕ) (notes : Notes) : Type 0 where
  pub name : notes.program.now ≡ program
  pub usage : notes.usage.now ≡ usage_note program
  pub too_many : notes.too_many.now ≡ too_many_note program
  pub too_large : notes.too_large.now ≡ too_large_note program

-- the bytes of a note
abbrev pub note_text : Note → List ℕ
note_text (Fixed bytes) = bytes.now
note_text (Made bytes) = bytes.items

-- Worked examples.
missing_file : file_note (codes "cool_explain") (codes "a.cl") Missing ≡ codes "cool_explain: a.cl: missing\n"
unfolding shown
missing_file = refl

large_file : file_note (codes "cool_editor") (codes "a.cl") TooLarge ≡ codes "cool_editor: files too large\n"
large_file = refl
