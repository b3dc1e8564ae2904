-- `IsFault` says which error `parse` returns: the first syntax error of the tokens, or out of memory.
use Rattle.std.specs.Prelude.{◌≡◌, List}
use Rattle.cool_syntax.specs.declared.place.Place.{Place}
use Rattle.cool_syntax.specs.declared.token.Token.{Token}
use Rattle.cool_syntax.specs.Grammar.{IsUnexpected}
use Rattle.cool_parser.specs.declared.fault.ParseError.{ParseError}
use Rattle.cool_parser.specs.declared.fault.ParseError.TheVariants.{Memory, Fault}
use Rattle.cool_parser.specs.ParsingMachine.{Outcome, Unexpected}

-- a fault is the first one of the tokens; out of memory says nothing
abbrev pub IsFault : List Token → Place → ParseError → Type 0
IsFault tokens end (Fault f) = IsUnexpected tokens end f.at
IsFault tokens end Memory = Unit {0}

-- a fault at this place, or out of memory
abbrev pub IsFaultAt : Place → ParseError → Type 0
IsFaultAt at (Fault f) = f.at ≡ at
IsFaultAt at Memory = Unit {0}

-- a fault where the machine stops, or out of memory
abbrev pub IsOutcome : Outcome → ParseError → Type 0
IsOutcome o (Fault f) = o ≡ Unexpected f.at
IsOutcome o Memory = Unit {0}
