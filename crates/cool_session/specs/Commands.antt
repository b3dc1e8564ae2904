-- `command` parses a line of a session's input as one of its commands `file`, `drop`, `check` and `quit`. Words are separated by one space.
use Rattle.std.specs.Prelude.{◌≡◌, refl, ℕ, ◌&&◌, nat_le, if◌then◌else◌, List, [], ◌∷◌, length, codes, bytes_eq, Bool, Option, Some, None}
use Rattle.std.specs.List.{list_all}
use Rattle.cool_syntax.specs.Lexemes.{is_digit, value}
use Rattle.lists.specs.Words.{words_in}

pub data Command : Type 0 where
  -- set the file of this name to the next so many bytes
  File : List ℕ → ℕ → Command
  -- take the file of this name away
  Drop : List ℕ → Command
  Check : Command
  Quit : Command

-- a name: 1 to 255 bytes from 33 to 126
abbrev pub is_name : List ℕ → Bool
is_name word = nat_le 1 (length word) && (nat_le (length word) 255 && list_all (λ b. nat_le 33 b && nat_le b 126) word)

-- a length: 1 to 7 digits
abbrev pub is_length : List ℕ → Bool
is_length word = nat_le 1 (length word) && (nat_le (length word) 7 && list_all is_digit word)

-- the command of a single word, of one with a name, and of one with a name and a length
abbrev pub alone : List ℕ → Option Command
alone word = if bytes_eq word (codes "check") then Some Check else if bytes_eq word (codes "quit") then Some Quit else None

abbrev pub with_name : List ℕ → List ℕ → Option Command
with_name word name = if bytes_eq word (codes "drop") && is_name name then Some (Drop name) else None

abbrev pub with_length : List ℕ → List ℕ → List ℕ → Option Command
with_length word name digits =
    if bytes_eq word (codes "file") && (is_name name && is_length digits) then Some (File name (value digits)) else None

-- the command of words, if they are one
abbrev pub asked : List (List ℕ) → Option Command
asked (word ∷ []) = alone word
asked (word ∷ name ∷ []) = with_name word name
asked (word ∷ name ∷ digits ∷ []) = with_length word name digits
asked words = None

-- the command of a line without its newline
unfoldable pub command : List ℕ → Option Command
command line = asked (words_in line)

-- Worked examples
file_line : command (codes "file p.cl 120") ≡ Some (File (codes "p.cl") 120)
unfolding command
file_line = refl

drop_line : command (codes "drop p.cl") ≡ Some (Drop (codes "p.cl"))
unfolding command
drop_line = refl

quit_line : command (codes "quit") ≡ Some Quit
unfolding command
quit_line = refl

two_spaces : command (codes "drop  a") ≡ None
unfolding command
two_spaces = refl

space_at_the_end : command (codes "check ") ≡ None
unfolding command
space_at_the_end = refl

eight_digits : command (codes "file a 00000001") ≡ None
unfolding command
eight_digits = refl

no_length : command (codes "file a") ≡ None
unfolding command
no_length = refl
