-- `IsFirstFault` says that the error which the lexer returns is the first lexical error of the file, with its source location, or out of memory.
use Rattle.std.specs.Prelude.{ℕ, List}
use Rattle.cool_syntax.specs.LexicalStructure as lexical
use Rattle.cool_lexer.specs.declared.error.LexError.{LexError}
use Rattle.cool_lexer.specs.declared.error.LexError.TheVariants.{Memory, Fault}

-- A fault is the first one of the file, at its place.
abbrev pub IsFirstFault : ℕ → List ℕ → LexError → Type 0
IsFirstFault file bytes Memory = Unit {0}
IsFirstFault file bytes (Fault fault) = lexical.LexFault file bytes fault.kind fault.at
