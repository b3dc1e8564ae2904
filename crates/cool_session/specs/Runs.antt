-- `bounds_of` finds the features (attributes and methods) of files. Each is a sequence of tokens, given by its file and the positions of its first token and of
-- the one after its last.
use Rattle.std.specs.Prelude.{ℕ, ◌+◌, ◌<◌, ◌≤◌, List, [], ◌∷◌, ◌++◌, length, get_or, if◌then◌else◌}
use Rattle.std.specs.List.{slice_range}
use Rattle.cool_syntax.specs.declared.token.Token.{Token}
use Rattle.cool_syntax.specs.declared.token.TokenKind.{TokenKind}
use Rattle.cool_syntax.specs.declared.token.TokenKind.TheVariants as kind
use Rattle.cool_syntax.specs.declared.token.Sign.TheVariants as sign
use Rattle.cool_syntax.specs.LexicalStructure.{depth_after, ends_run}
use Rattle.cool_lexer.specs.declared.lexer.Lexed.{Lexed}
use Rattle.cool_session.specs.declared.runs.Run.{Run}
use Rattle.cool_session.specs.Bases.{tokens_of}

-- a run that ends with a semicolon is a feature, and another the head of a class
abbrev pub bounds_ended : TokenKind → Run → List Run
bounds_ended (kind.Sign sign.Semi) run = run ∷ []
bounds_ended _ run = []

-- the features among tokens from a position on, by how deep the tokens before stand and where the run that goes on begins
abbrev pub bounds_from : ℕ → ℕ → ℕ → ℕ → List Token → List Run
bounds_from file depth start at [] = []
bounds_from file depth start at (t ∷ ts) =
    if ends_run t.kind depth
    then bounds_ended t.kind (record { file = file; start = start; end = at + 1 }) ++ bounds_from file (depth_after t.kind depth) (at + 1) (at + 1) ts
    else bounds_from file (depth_after t.kind depth) start (at + 1) ts

-- the features of a file of this number
abbrev pub bounds_in : ℕ → List Token → List Run
bounds_in file = bounds_from file 0 0 0

-- the features of files, of which the first has this number
abbrev pub bounds_of : ℕ → List Lexed → List Run
bounds_of file [] = []
bounds_of file (lexed ∷ files) = bounds_in file lexed.tokens.items ++ bounds_of (file + 1) files

-- the tokens of the file of a number
abbrev pub file_tokens : List Lexed → ℕ → List Token
file_tokens files k = get_or (tokens_of files) k []

-- a run lies within the tokens of one of the files
pub record IsWithin (files : List Lexed) (run : Run) : Type 0 where
  pub file : run.file < length files
  pub start : run.start ≤ run.end
  pub end : run.end ≤ length (file_tokens files run.file)

abbrev pub run_tokens : List Lexed → Run → List Token
run_tokens files run = slice_range (file_tokens files run.file) run.start run.end
