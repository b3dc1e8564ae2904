-- Lemmas on a sequence of items (lexemes, white space and comments) of a text: each makes at most one token, and the limit on tokens in a row is checked token
-- by token.
use Rattle.std.proofs.Common.{◌≡◌, ◌∙◌, sym, ap, refl, subst, arith, ℕ, ◌+◌, ◌<◌, ◌≤◌, Bool, true, false, List, [], ◌∷◌, ◌++◌, length, drop, append_assoc, length-append}
use Rattle.std.specs.Prelude.{if◌then◌else◌}
use Rattle.cool_syntax.specs.declared.TheConstants.{MOST_TOKENS}
use Rattle.cool_syntax.specs.Lexemes.{Form, Space, Comment, Lexeme}
use Rattle.cool_syntax.specs.declared.place.Place.{Place}
use Rattle.cool_syntax.specs.declared.token.Token.{Token}
use Rattle.cool_syntax.specs.declared.token.TokenKind.{TokenKind}
use Rattle.cool_syntax.specs.declared.token.TokenKind.TheVariants as kind
use Rattle.cool_syntax.specs.declared.token.Key.TheVariants as key
use Rattle.cool_syntax.specs.declared.token.Sign.TheVariants as sign
use Rattle.cool_syntax.specs.LexicalStructure.{IsItem, Item, Leads, token_of, tokens_of, place_at, Run, run_of, run_after, depth_after, ends_run, FitsRuns}
use Rattle.cool_lexer.proofs.Items.{item_size}

-- one more item
pub leads_append : (at : ℕ) (rest : List ℕ) (items : List Item) (to : ℕ) (left : List ℕ) (i : Item) → Leads at rest items to left → i.offset ≡ to → IsItem left i.form i.size
    → Leads at rest (items ++ i ∷ []) (to + i.size) (drop i.size left)
leads_append at rest [] to left i h offset item =
    (offset ∙ sym h.0, subst (λ (l : List ℕ). IsItem l i.form i.size) (sym h.1) item, (ap (λ n. n + i.size) h.0, ap (drop i.size) h.1))
leads_append at rest (j ∷ items) to left i h offset item = (h.0, h.1, leads_append (at + j.size) (drop j.size rest) items to left i h.2 offset item)

-- nothing more is the same
pub append_none : (l : List Token) → l ++ [] ≡ l
append_none [] = refl
append_none (x ∷ l) = ap (λ r. x ∷ r) (append_none l)

-- the tokens with one more item
pub tokens_append : (file : ℕ) (bytes : List ℕ) (items : List Item) (i : Item) → tokens_of file bytes (items ++ i ∷ []) ≡ tokens_of file bytes items ++ token_of i.form (place_at file bytes i.offset)
tokens_append file bytes [] i = append_none (token_of i.form (place_at file bytes i.offset))
tokens_append file bytes (j ∷ items) i =
    ap (λ l. token_of j.form (place_at file bytes j.offset) ++ l) (tokens_append file bytes items i)
    ∙ sym (append_assoc (token_of j.form (place_at file bytes j.offset)) (tokens_of file bytes items) (token_of i.form (place_at file bytes i.offset)))

-- more tokens that fit their runs
pub fits_append : (r : Run) (ts us : List Token) → FitsRuns r ts → FitsRuns (run_of r ts) us → FitsRuns r (ts ++ us)
fits_append r [] us h k = k
fits_append r (t ∷ ts) us h k = (h.0, fits_append (run_after r t.kind) ts us h.1 k)

-- the first tokens of those that fit do
pub fits_front : (r : Run) (ts us : List Token) → FitsRuns r (ts ++ us) → FitsRuns r ts
fits_front r [] us h = tt
fits_front r (t ∷ ts) us h = (h.0, fits_front (run_after r t.kind) ts us h.1)

-- and those after them do
pub fits_after : (r : Run) (ts us : List Token) → FitsRuns r (ts ++ us) → FitsRuns (run_of r ts) us
fits_after r [] us h = h
fits_after r (t ∷ ts) us h = fits_after (run_after r t.kind) ts us h.1

-- the run after more tokens
pub run_append : (r : Run) (ts us : List Token) → run_of r (ts ++ us) ≡ run_of (run_of r ts) us
run_append r [] us = refl
run_append r (t ∷ ts) us = run_append (run_after r t.kind) ts us

-- a token deepens a run by one at most
deeper : (k : TokenKind) (d : ℕ) → depth_after k d ≤ d + 1
deeper (kind.Sign sign.LBrace) d = omega arith
deeper (kind.Key key.Case) d = omega arith
deeper (kind.Sign sign.RBrace) d = omega arith
deeper (kind.Key key.Esac) d = omega arith
deeper _ d = omega arith

-- a run is no deeper than its tokens are many
pub run_deep : (r : Run) (ts : List Token) → (run_of r ts).depth ≤ r.depth + length ts
run_deep r [] = omega arith
run_deep r (t ∷ ts) = omega (arith, run_deep (run_after r t.kind) ts, deeper t.kind r.depth)

-- a run that has room for a token is within the limit after it
no_longer : (ended : Bool) (n : ℕ) → n < MOST_TOKENS → (if ended then 0 else n + 1) ≤ MOST_TOKENS
no_longer true n h = omega arith
no_longer false n h = omega arith

-- no run that fits is longer than the limit
pub run_long : (r : Run) (ts : List Token) → r.length ≤ MOST_TOKENS → FitsRuns r ts → (run_of r ts).length ≤ MOST_TOKENS
run_long r [] h fits = h
run_long r (t ∷ ts) h fits = run_long (run_after r t.kind) ts (no_longer (ends_run t.kind r.depth) r.length fits.0) fits.1

-- an item makes one token at most
one_at_most : (f : Form) (p : Place) → length (token_of f p) ≤ 1
one_at_most Space p = omega arith
one_at_most Comment p = omega arith
one_at_most (Lexeme k) p = omega arith

-- there are no more tokens than bytes
pub few : (file : ℕ) (bytes : List ℕ) (at : ℕ) (rest : List ℕ) (items : List Item) (to : ℕ) (left : List ℕ) → Leads at rest items to left → length (tokens_of file bytes items) + at ≤ to
few file bytes at rest [] to left h = omega arith
few file bytes at rest (i ∷ items) to left h =
    omega (
      arith,
      few file bytes (at + i.size) (drop i.size rest) items to left h.2,
      one_at_most i.form (place_at file bytes i.offset),
      item_size rest i.form i.size h.1,
      length-append (token_of i.form (place_at file bytes i.offset)) (tokens_of file bytes items),
    )
