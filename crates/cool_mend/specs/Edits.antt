-- `edited` gives the files after an edit, which replaces a range of bytes in one of them.
use Rattle.std.specs.Prelude.{ℕ, ◌+◌, ◌<◌, ◌≤◌, List, [], ◌∷◌, ◌++◌, drop, get_or, length, take}
use Rattle.cool_syntax.specs.declared.TheConstants.{MOST_SOURCE_BYTES}
use Rattle.cool_faults.specs.Files.{total}
use Rattle.cool_mend.specs.declared.edit.Edit.{Edit}

-- the bytes of a file, with these in the place of those from `start` up to `end`
abbrev pub replaced : ℕ → ℕ → List ℕ → List ℕ → List ℕ
replaced start end text bytes = take start bytes ++ (text ++ drop end bytes)

-- the bytes of the edited file
abbrev pub edited_file : Edit → List (List ℕ) → List ℕ
edited_file e files = replaced e.start e.end e.text.items (get_or files e.file [])

-- the edited files
abbrev pub edited : Edit → List (List ℕ) → List (List ℕ)
edited e files = take e.file files ++ edited_file e files ∷ drop (e.file + 1) files

-- The range lies in one of the files, and the edited files keep the limit on bytes.
pub record IsEdit (files : List (List ℕ)) (e : Edit) : Type 0 where
  pub file : e.file < length files
  pub order : e.start ≤ e.end
  pub within : e.end ≤ length (get_or files e.file [])
  pub small : total (edited e files) ≤ MOST_SOURCE_BYTES
