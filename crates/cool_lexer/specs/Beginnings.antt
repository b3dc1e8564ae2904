-- `AreUpTo` says which tokens the lexer returns for a file: all of them, or those before the first lexical error.
use Rattle.std.specs.Prelude.{◌≡◌, ℕ, List, length, Option, Some, None}
use Rattle.cool_syntax.specs.declared.token.Token.{Token}
use Rattle.cool_syntax.specs.LexicalStructure.{Lexes, place_at, tokens_of}
use Rattle.cool_syntax.specs.LexicalStructure as lexical
use Rattle.cool_lexer.specs.declared.error.LexFault.{LexFault}

-- A file without a fault has these tokens; in a file with a fault, they are the lexemes before the first fault.
abbrev pub AreUpTo : ℕ → List ℕ → List Token → Option LexFault → Type 0
AreUpTo file bytes tokens None = Lexes file bytes tokens
AreUpTo file bytes tokens (Some fault) = (found : lexical.LexFault file bytes fault.kind fault.at) × (tokens ≡ tokens_of file bytes found.items)
