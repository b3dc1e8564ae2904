-- `IsChange` says that a change of a line is one of the edited file: an old line stands at its number in the file, and a new line at its number in the
-- edited file. `IsReplacement` adds that all other lines of the file stay, and `HasAllChanges` that no change is left out.
use Rattle.std.specs.Prelude.{◌≡◌, ◌≢◌, ℕ, ◌+◌, ◌-◌, ◌≤◌, List, ◌++◌, length, slice_get, Contains, Option, Some, None, get_or, []}
use Rattle.std.specs.List.{AllByRecursion}
use Rattle.cool_mend.specs.declared.edit.Edit.{Edit}
use Rattle.cool_mend.specs.Edits.{edited_file}
use Rattle.cool_explanations.specs.Changes.Change.{comes, goes, becomes}
use Rattle.cool_explanations.specs.Changes.{Change, Stretch, changes_by, lines, touched, without_end}

-- The lines of a file and those of the edited file are the same in front of a stretch and behind it.
pub record IsReplacement (file edited : List ℕ) (s : Stretch) : Type 0 where
  pub before : List (List ℕ)
  pub after : List (List ℕ)
  pub olds : lines file ≡ before ++ (s.olds ++ after)
  pub news : lines edited ≡ before ++ (s.news ++ after)
  pub number : s.number ≡ length before + 1

-- this is the line of bytes with this number, counted from 1
abbrev pub IsLine : List ℕ → ℕ → List ℕ → Type 0
IsLine bytes n line = (1 ≤ n) × (slice_get (lines bytes) (n - 1) ≡ Some line)

-- a change is at its line
abbrev pub IsChange : List ℕ → List ℕ → Change → Type 0
IsChange file edited (comes n new) = IsLine edited n new
IsChange file edited (goes n old) = IsLine file n old
IsChange file edited (becomes n old new) = IsLine file n old × IsLine edited n new

-- The change of the line of this number from an old line to a new one is in the list. A line with no old one comes, and one with no new one goes.
abbrev pub HasChange : List Change → ℕ → Option (List ℕ) → Option (List ℕ) → Type 0
HasChange all n None None = ⊥
HasChange all n None (Some new) = Contains all (comes n new)
HasChange all n (Some old) None = Contains all (goes n old)
HasChange all n (Some old) (Some new) = Contains all (becomes n old new)

-- At each position of a stretch, if the old line and the new line differ, or only one of both is there, the list has the change.
abbrev pub HasAllChanges : Stretch → List Change → Type 0
HasAllChanges s all = (i : ℕ) → slice_get s.olds i ≢ slice_get s.news i → HasChange all (s.number + i) (slice_get s.olds i) (slice_get s.news i)

-- The lines that are shown of an edit are those that it changes: each is at its line, and none is left out.
pub record ShowsEdit (files : List (List ℕ)) (e : Edit) : Type 0 where
  pub replaced : IsReplacement (get_or files e.file []) (edited_file e files) (without_end (touched (get_or files e.file []) e))
  pub each : AllByRecursion (IsChange (get_or files e.file []) (edited_file e files)) (changes_by (get_or files e.file []) e)
  pub complete : HasAllChanges (without_end (touched (get_or files e.file []) e)) (changes_by (get_or files e.file []) e)
