-- `IsRangeAt` says which range of a file an explanation marks at a place: that of the token or other lexical item that begins there, or of the lexical
-- error there.
use Rattle.std.specs.Prelude.{◌≡◌, ◌≢◌, ℕ, ◌+◌, ◌≤◌, List, [], length, get_or, drop, None}
use Rattle.cool_syntax.specs.declared.place.Place.{Place}
use Rattle.cool_syntax.specs.Lexemes.{Form}
use Rattle.cool_syntax.specs.LexicalStructure.{fault, IsItem}
use Rattle.cool_guess.specs.declared.lexeme.Lexeme.{Lexeme}
use Rattle.cool_guess.specs.Lexemes.{lexeme_size}
use Rattle.cool_mend.specs.declared.explanation.Notice.{Notice}

-- so many bytes from a byte on
abbrev pub range : ℕ → ℕ → Lexeme
range at size = record { start = at; end = at + size }

-- The range at a byte of a text has the bytes of the item (lexeme, white space or comment) that begins there. If a lexical error begins there, it has those of
-- a string up to the end of its line, of a word, or one byte. At the end of the text it is empty.
pub record IsRange (bytes : List ℕ) (at : ℕ) (told : Lexeme) : Type 0 where
  pub item : (form : Form) (size : ℕ) → IsItem (drop at bytes) form size → told ≡ range at size
  pub fault : fault (drop at bytes) ≢ None → told ≡ range at (lexeme_size (drop at bytes))
  pub ends : length bytes ≤ at → told ≡ range at 0

-- the range at a place in files
abbrev pub IsRangeAt : List (List ℕ) → Place → Lexeme → Type 0
IsRangeAt files place = IsRange (get_or files place.file []) place.byte

-- from the place of a notice to its end is the range there
abbrev pub HasRange : List (List ℕ) → Notice → Type 0
HasRange files n = IsRangeAt files n.at (record { start = n.at.byte; end = n.end })
