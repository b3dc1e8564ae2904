-- `changes_by` lists the lines of a file that an edit adds, removes or replaces, and `changed_text` is the text that shows them. `ChangedLines.antt` says
-- which lines of the file and of the edited file these are.
use Rattle.std.specs.Prelude.{ℕ, suc, ◌+◌, ◌-◌, List, [], ◌∷◌, ◌++◌, map, length, get_or, take, drop, codes, Bool, nat_eq, nat_le, if◌then◌else◌, Option, Some, None}
use Rattle.std.specs.List.{concat, count_by, list_all}
use Rattle.std.specs.Str.{bytes_eq}
use Rattle.cool_faults.specs.Shown.{shown}
use Rattle.cool_mend.specs.declared.edit.Edit.{Edit}
use Rattle.cool_explanations.specs.Shown.{part}
use Rattle.cool_explanations.specs.SourceLines.{first_line, last_line, number}

-- Lines

-- the lines of bytes that go on a line, without their newlines
abbrev pub lines_from : List ℕ → List ℕ → List (List ℕ)
lines_from line [] = line ∷ []
lines_from line (b ∷ bs) = if nat_eq b 10 then line ∷ lines_from [] bs else lines_from (line ++ b ∷ []) bs

abbrev pub lines : List ℕ → List (List ℕ)
lines = lines_from []

-- the number of the line that begins or goes on behind these bytes of a file
abbrev pub line_number : List ℕ → ℕ
line_number bytes = count_by (λ b. nat_eq b 10) bytes + 1

-- the last line, or nothing, and the lines but that one
abbrev pub last_of : List (List ℕ) → List ℕ
last_of all = get_or all (length all - 1) []

abbrev pub all_but_last : List (List ℕ) → List (List ℕ)
all_but_last all = take (length all - 1) all

-- Lines of a file that an edit replaces by others

-- the number of the first of some lines, the lines as they are in the file, and those that stand there after the edit
pub record Stretch : Type 0 where
  pub number : ℕ
  pub olds : List (List ℕ)
  pub news : List (List ℕ)

-- from the line in which the range of an edit begins to the one in which it ends
abbrev pub touched : List ℕ → Edit → Stretch
touched file e =
    let front = last_line (take e.start file) in
    let back = first_line (drop e.end file) in
    record {
      number = line_number (take e.start file);
      olds = lines (front ++ (part e.start e.end file ++ back));
      news = lines (front ++ (e.text.items ++ back));
    }

-- the same without the last line of both, if that stays
abbrev pub without_end : Stretch → Stretch
without_end s =
    if bytes_eq (last_of s.olds) (last_of s.news)
    then record { number = s.number; olds = all_but_last s.olds; news = all_but_last s.news }
    else s

-- Changes

-- a line that comes, a line that goes, and a line that becomes another, each with its number
pub data Change : Type 0 where
  comes : (number : ℕ) (new : List ℕ) → Change
  goes : (number : ℕ) (old : List ℕ) → Change
  becomes : (number : ℕ) (old new : List ℕ) → Change

-- the change of a line, if it does not stay
abbrev pub change_at : ℕ → Option (List ℕ) → Option (List ℕ) → List Change
change_at n None None = []
change_at n None (Some new) = comes n new ∷ []
change_at n (Some old) None = goes n old ∷ []
change_at n (Some old) (Some new) = if bytes_eq old new then [] else becomes n old new ∷ []

-- lines, from this number on, that become others, one by one; then those that come, or those that go
abbrev pub changes : ℕ → List (List ℕ) → List (List ℕ) → List Change
changes n [] [] = []
changes n [] (new ∷ news) = change_at n None (Some new) ++ changes (suc n) [] news
changes n (old ∷ olds) [] = change_at n (Some old) None ++ changes (suc n) olds []
changes n (old ∷ olds) (new ∷ news) = change_at n (Some old) (Some new) ++ changes (suc n) olds news

-- the changes of a file by an edit
abbrev pub changes_in : Stretch → List Change
changes_in s = changes s.number s.olds s.news

abbrev pub changes_by : List ℕ → Edit → List Change
changes_by file e = changes_in (without_end (touched file e))

-- Text

-- a line with its number and a sign
abbrev pub numbered : ℕ → List ℕ → List ℕ → List ℕ
numbered n sign line = number n ++ (sign ++ (shown line ++ codes "\n"))

-- a line of white space alone
abbrev pub is_blank : List ℕ → Bool
is_blank = list_all (λ b. nat_le b 32)

-- the new line with `+`, or the old one with `-`, where only white space is left of it
abbrev pub change_text : Change → List ℕ
change_text (comes n new) = numbered n (codes " + ") new
change_text (goes n old) = numbered n (codes " - ") old
change_text (becomes n old new) = if is_blank new then numbered n (codes " - ") old else numbered n (codes " + ") new

-- the first eight, and .. where there are more
abbrev pub shortened : List (List ℕ) → List ℕ
shortened all = if nat_le (length all) 8 then concat all else concat (take 8 all) ++ codes "      ..\n"

-- the text of the lines of a file that an edit changes
abbrev pub changed_text : List ℕ → Edit → List ℕ
changed_text file e = shortened (map change_text (changes_by file e))
