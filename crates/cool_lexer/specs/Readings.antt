-- `Passes` and `Stops` define one step of the lexer: it reads a lexeme, white space or a comment, or stops at a lexical error.
use Rattle.std.specs.Prelude.{◌≡◌, ◌⊎◌, ℕ, ◌+◌, ◌≤◌, Bool, ◌==◌, List, ◌++◌, length, take}
use Rattle.std.specs.List.{count_by}
use Rattle.cool_syntax.specs.declared.TheConstants.{MOST_TOKENS}
use Rattle.cool_syntax.specs.declared.place.Place.{Place}
use Rattle.cool_syntax.specs.declared.token.TokenKind.{TokenKind}
use Rattle.cool_syntax.specs.declared.lexical.LexKind.TheVariants.{L8}
use Rattle.cool_syntax.specs.Lexemes.{Form, Lexeme}
use Rattle.cool_syntax.specs.LexicalStructure.{fault, fault_at, IsItem, token_of, run_of, FitsRuns}
use Rattle.cool_lexer.specs.declared.error.LexError.{LexError}
use Rattle.cool_lexer.specs.declared.error.LexError.TheVariants as error
use Rattle.cool_lexer.specs.declared.front.Scan.{Scan}
use Rattle.cool_lexer.specs.declared.reading.Reading.{Reading}
use Rattle.cool_lexer.specs.Views.{form_seen, run_seen}

abbrev pub is_newline : ℕ → Bool
is_newline b = b == 10

-- the place after these bytes
abbrev pub place_after : Place → List ℕ → Place
place_after place passed = record { file = place.file; line = place.line + count_by is_newline passed; byte = place.byte + length passed }

-- A form was kept as a token, or dropped.
pub record Keeps (form : Scan) (old new : Reading) : Type 0 where
  pub fits : FitsRuns (run_seen old.run) (token_of (form_seen form) old.place)
  pub tokens : new.tokens.items ≡ old.tokens.items ++ token_of (form_seen form) old.place
  pub run : run_seen new.run ≡ run_of (run_seen old.run) (token_of (form_seen form) old.place)
  pub place : new.place ≡ old.place

-- A form was refused: it is a lexeme one too many for its run.
abbrev pub Refuses : Scan → Reading → LexError → Type 0
Refuses form old error.Memory = Unit {0}
Refuses form old (error.Fault f) = (lexeme : TokenKind) × (form_seen form ≡ Lexeme lexeme) × (old.run.length ≡ MOST_TOKENS) × (f.kind ≡ L8) × (f.at ≡ old.place)

-- The item at the front of the rest was read.
pub record Passes (rest : List ℕ) (old new : Reading) (size : ℕ) : Type 0 where
  pub form : Form
  pub item : IsItem rest form size
  pub fits : FitsRuns (run_seen old.run) (token_of form old.place)
  pub tokens : new.tokens.items ≡ old.tokens.items ++ token_of form old.place
  pub run : run_seen new.run ≡ run_of (run_seen old.run) (token_of form old.place)
  pub place : new.place ≡ place_after old.place (take size rest)

-- The rest begins with a fault, or with a lexeme one too many for its run.
abbrev pub Stops : List ℕ → Reading → LexError → Type 0
Stops rest old error.Memory = Unit {0}
Stops rest old (error.Fault f) =
    ((offset : ℕ) × (offset ≤ length rest) × (fault rest ≡ fault_at f.kind offset) × (f.at ≡ place_after old.place (take offset rest)))
    ⊎ ((lexeme : TokenKind) × (size : ℕ) × IsItem rest (Lexeme lexeme) size × (old.run.length ≡ MOST_TOKENS) × (f.kind ≡ L8) × (f.at ≡ old.place))

-- A fault left the tokens as they were; if memory ran out, nothing is said of them.
abbrev pub Stays : Reading → Reading → LexError → Type 0
Stays old new error.Memory = Unit {0}
Stays old new (error.Fault f) = new.tokens ≡ old.tokens
