-- `HasReading` says that a file is a list of tokens or has a first lexical error; the lexer's crate proves it of every file.
use Rattle.std.specs.Prelude.{◌⊎◌, ℕ, List}
use Rattle.cool_syntax.specs.declared.place.Place.{Place}
use Rattle.cool_syntax.specs.declared.token.Token.{Token}
use Rattle.cool_syntax.specs.declared.lexical.LexKind.{LexKind}
use Rattle.cool_syntax.specs.LexicalStructure.{Lexes, LexFault}

-- A file has tokens, or a first fault.
abbrev pub HasReading : ℕ → List ℕ → Type 0
HasReading file bytes = ((tokens : List Token) × Lexes file bytes tokens) ⊎ ((kind : LexKind) × (place : Place) × LexFault file bytes kind place)
