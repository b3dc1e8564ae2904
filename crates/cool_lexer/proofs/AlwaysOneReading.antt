-- Each text either is a list of tokens or has a first lexical error.
use Rattle.std.proofs.Common.{◌≡◌, ◌∙◌, ap, refl, subst, arith, inl, inr, ◌⊎◌, ℕ, zero, suc, ◌+◌, ◌<◌, ◌≤◌, List, [], ◌∷◌, ◌++◌, length, drop, length-drop}
use Rattle.std.proofs.lemmas.Bool.{cases_lt}
use Rattle.cool_syntax.specs.declared.TheConstants.{MOST_TOKENS}
use Rattle.cool_syntax.specs.declared.place.Place.{Place}
use Rattle.cool_syntax.specs.declared.token.Token.{Token}
use Rattle.cool_syntax.specs.declared.token.TokenKind.{TokenKind}
use Rattle.cool_syntax.specs.declared.lexical.LexKind.{LexKind}
use Rattle.cool_syntax.specs.declared.lexical.LexKind.TheVariants.{L8}
use Rattle.cool_syntax.specs.Lexemes.{Form, Space, Comment, Lexeme, class_of}
use Rattle.cool_syntax.specs.LexicalStructure.{IsItem, token_of, place_at, Run, first_run, run_of, FitsRuns, Shows}
use Rattle.cool_lexer.specs.declared.front.Front.{Front}
use Rattle.cool_lexer.specs.declared.front.Front.TheVariants as front
use Rattle.cool_lexer.specs.declared.front.Scan.TheVariants as scan
use Rattle.cool_lexer.specs.Fronts.{Begins, front_of}
use Rattle.cool_lexer.specs.Laws.{HasReading}
use Rattle.cool_lexer.proofs.Items.{begins, item_size}
use Rattle.cool_lexer.proofs.ReadSoFar.{IsRead, start, goes_on, bounds, lexes}

-- there is a reading wherever some bytes more are read
abbrev Further : ℕ → List ℕ → ℕ → Type 0
Further file bytes at = (tokens : List Token) (run : Run) (place : Place) (size : ℕ) → 1 ≤ size → IsRead file bytes (at + size) tokens run place → HasReading file bytes

-- a place that shows a fault is the first fault
at_fault : (file : ℕ) (bytes : List ℕ) (at : ℕ) (tokens : List Token) (run : Run) (place p : Place) (k : LexKind) → IsRead file bytes at tokens run place
    → Shows file bytes at (drop at bytes) run k p → HasReading file bytes
at_fault file bytes at tokens run place p k read shows = inr (
  k,
  p,
  record {
    items = read.items;
    at = at;
    left = drop at bytes;
    leads = read.leads;
    runs = subst (FitsRuns first_run) read.lexemes read.runs;
    shows = subst (λ (r : Run). Shows file bytes at (drop at bytes) r k p) (read.run_is ∙ ap (run_of first_run) read.lexemes) shows;
  },
)

-- past a good item that fits its run the text goes on
past : (file : ℕ) (bytes : List ℕ) (at : ℕ) (tokens : List Token) (run : Run) (place : Place) (f : Form) (size : ℕ) → IsRead file bytes at tokens run place
    → IsItem (drop at bytes) f size → FitsRuns run (token_of f place) → Further file bytes at → HasReading file bytes
past file bytes at tokens run place f size read item fits further =
    further (tokens ++ token_of f place) (run_of run (token_of f place)) _ size (item_size (drop at bytes) f size item)
    (goes_on file bytes at tokens (tokens ++ token_of f place) run (run_of run (token_of f place)) place _ f size read item fits refl refl refl)

-- a lexeme goes on, or is one too many for its run
at_lexeme : (file : ℕ) (bytes : List ℕ) (at : ℕ) (tokens : List Token) (run : Run) (place : Place) (k : TokenKind) (size : ℕ) → IsRead file bytes at tokens run place
    → IsItem (drop at bytes) (Lexeme k) size → Further file bytes at → (run.length < MOST_TOKENS) ⊎ (MOST_TOKENS ≤ run.length) → HasReading file bytes
at_lexeme file bytes at tokens run place k size read item further (inl room) = past file bytes at tokens run place (Lexeme k) size read item (room, tt) further
at_lexeme file bytes at tokens run place k size read item further (inr full) =
    let within = bounds file bytes at tokens run place read in
    at_fault file bytes at tokens run place (place_at file bytes at) L8 read (inr (k, size, item, omega (arith, within.1), refl, refl))

-- a front is an item that goes on, or a fault
at_front : (s : Front) (file : ℕ) (bytes : List ℕ) (at : ℕ) (tokens : List Token) (run : Run) (place : Place) → IsRead file bytes at tokens run place → Begins (drop at bytes) s → Further file bytes at → HasReading file bytes
at_front (front.Fault k n) file bytes at tokens run place read begin further = at_fault file bytes at tokens run place (place_at file bytes (at + n)) k read (inl (n, begin.0, refl))
at_front (front.Item scan.Space n) file bytes at tokens run place read begin further = past file bytes at tokens run place Space (n + 1) read begin tt further
at_front (front.Item scan.Comment n) file bytes at tokens run place read begin further = past file bytes at tokens run place Comment (n + 1) read begin tt further
at_front (front.Item (scan.Lexeme k) n) file bytes at tokens run place read begin further =
    at_lexeme file bytes at tokens run place k (n + 1) read begin further (cases_lt run.length MOST_TOKENS)

-- the rest is empty, or begins with a front
at_rest : (rest : List ℕ) (file : ℕ) (bytes : List ℕ) (at : ℕ) (tokens : List Token) (run : Run) (place : Place) → rest ≡ drop at bytes → IsRead file bytes at tokens run place → Further file bytes at → HasReading file bytes
at_rest [] file bytes at tokens run place is read further = inl (tokens, lexes file bytes at tokens run place read (omega (arith, ap length is, length-drop at bytes)))
at_rest (b ∷ bs) file bytes at tokens run place is read further =
    at_front (front_of (class_of b) b bs) file bytes at tokens run place read (subst (λ (l : List ℕ). Begins l (front_of (class_of b) b bs)) is (begins b bs)) further

-- there is a reading from each place on
reading : (fuel : ℕ) (file : ℕ) (bytes : List ℕ) (at : ℕ) (tokens : List Token) (run : Run) (place : Place) → length bytes ≤ at + fuel → IsRead file bytes at tokens run place → HasReading file bytes
reading zero file bytes at tokens run place l read = inl (tokens, lexes file bytes at tokens run place read (omega arith))
reading (suc fuel) file bytes at tokens run place l read =
    at_rest (drop at bytes) file bytes at tokens run place refl read
    (λ ts r p size some next. reading fuel file bytes (at + size) ts r p (omega arith) next)

-- each text has tokens or a first fault
pub always_one : (file : ℕ) (bytes : List ℕ) → HasReading file bytes
always_one file bytes = reading (length bytes) file bytes 0 [] first_run _ (omega arith) (start file bytes)
