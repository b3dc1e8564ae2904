-- `BeginsWithItem` says that a text begins with a valid lexeme, white space or a comment of the given number of bytes.
use Rattle.std.specs.Prelude.{ℕ, List}
use Rattle.cool_syntax.specs.Lexemes.{Form}
use Rattle.cool_syntax.specs.LexicalStructure.{IsItem}

-- The text begins with an item of this size, which has no fault.
abbrev pub BeginsWithItem : List ℕ → ℕ → Type 0
BeginsWithItem text size = (form : Form) × IsItem text form size
