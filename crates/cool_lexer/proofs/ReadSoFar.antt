-- `IsRead` is the invariant of the lexer's loop at an offset of the text. It holds at the start, is kept by each item, and at the end or at an error gives the
-- definition's tokens.
use Rattle.std.proofs.Common.{◌≡◌, ◌∙◌, sym, ap, refl, subst, arith, inl, inr, ℕ, zero, suc, ◌+◌, ◌≤◌, List, [], ◌∷◌, ◌++◌, length, take, drop, length-drop}
use Rattle.std.specs.Prelude.{Some}
use Rattle.std.specs.List.{count_by}
use Rattle.std.proofs.Math.Seq.{take-add}
use Rattle.std.proofs.lemmas.List.{length-take-le, drop-drop}
use Rattle.std.proofs.lemmas.List.Sums.{sum_by-append, count_by-le-length}
use Rattle.cool_syntax.specs.declared.TheConstants.{MOST_TOKENS}
use Rattle.cool_syntax.specs.declared.place.Place.{Place}
use Rattle.cool_syntax.specs.declared.token.Token.{Token}
use Rattle.cool_syntax.specs.Lexemes.{Form}
use Rattle.cool_syntax.specs.LexicalStructure.{IsItem, Item, Leads, token_of, tokens_of, place_at, Run, first_run, run_of, FitsRuns, Lexes, Shows}
use Rattle.cool_lexer.specs.declared.error.LexFault.{LexFault}
use Rattle.cool_lexer.specs.Beginnings.{AreUpTo}
use Rattle.cool_lexer.specs.declared.error.LexError.TheVariants as error
use Rattle.cool_lexer.specs.declared.reading.Reading.{Reading}
use Rattle.cool_lexer.specs.Views.{run_seen}
use Rattle.cool_lexer.specs.Readings.{is_newline, place_after, Stops}
use Rattle.cool_lexer.proofs.ItemsInARow.{leads_append, tokens_append, fits_append, run_append, run_deep, run_long, few}

-- The text is read up to a place.
pub record IsRead (file : ℕ) (bytes : List ℕ) (at : ℕ) (tokens : List Token) (run : Run) (place : Place) : Type 0 where
  pub items : List Item
  pub within : at ≤ length bytes
  pub leads : Leads 0 bytes items at (drop at bytes)
  pub lexemes : tokens ≡ tokens_of file bytes items
  pub runs : FitsRuns first_run tokens
  pub run_is : run ≡ run_of first_run tokens
  pub place_is : place ≡ place_at file bytes at

-- at the start of the text nothing is read
pub start : (file : ℕ) (bytes : List ℕ) → IsRead file bytes 0 [] first_run (record { file = file; line = 1; byte = 0 })
start file bytes = record { items = []; within = omega arith; leads = (refl, refl); lexemes = refl; runs = tt; run_is = refl; place_is = refl }

-- the place some bytes on
pub place_on : (file : ℕ) (bytes : List ℕ) (at n : ℕ) → at + n ≤ length bytes → place_at file bytes (at + n) ≡ place_after (place_at file bytes at) (take n (drop at bytes))
place_on file bytes at n h =
    let lines : count_by is_newline (take (at + n) bytes) ≡ count_by is_newline (take at bytes) + count_by is_newline (take n (drop at bytes)) =
    ap (count_by is_newline) (take-add at n bytes) ∙ sum_by-append _ (take at bytes) (take n (drop at bytes)) in
    let line : 1 + count_by is_newline (take (at + n) bytes) ≡ 1 + count_by is_newline (take at bytes) + count_by is_newline (take n (drop at bytes)) = omega arith in
    let byte : at + n ≡ at + length (take n (drop at bytes)) = omega (arith, length-take-le n (drop at bytes) (omega (arith, length-drop at bytes))) in
    λ i. record { file = file; line = line i; byte = byte i }

-- one more item
pub goes_on : (file : ℕ) (bytes : List ℕ) (at : ℕ) (tokens more : List Token) (run next : Run) (place after : Place) (f : Form) (size : ℕ) → IsRead file bytes at tokens run place
    → IsItem (drop at bytes) f size → FitsRuns run (token_of f place) → more ≡ tokens ++ token_of f place → next ≡ run_of run (token_of f place)
    → after ≡ place_after place (take size (drop at bytes)) → IsRead file bytes (at + size) more next after
goes_on file bytes at tokens more run next place after f size read item fits is_more is_next is_after =
    let i : Item = record { form = f; offset = at; size = size } in
    let here : token_of f place ≡ token_of f (place_at file bytes at) = ap (token_of f) read.place_is in
    let within : at + size ≤ length bytes = omega (arith, read.within, item.within, length-drop at bytes) in
    record {
      items = read.items ++ i ∷ [];
      within = within;
      leads = subst (λ (l : List ℕ). Leads 0 bytes (read.items ++ i ∷ []) (at + size) l) (drop-drop size at bytes) (leads_append 0 bytes read.items at (drop at bytes) i read.leads refl item);
      lexemes = is_more ∙ (λ j. read.lexemes j ++ here j) ∙ sym (tokens_append file bytes read.items i);
      runs = subst (FitsRuns first_run) (sym is_more) (fits_append first_run tokens (token_of f place) read.runs (subst (λ (r : Run). FitsRuns r (token_of f place)) read.run_is fits));
      run_is = is_next ∙ ap (λ r. run_of r (token_of f place)) read.run_is ∙ sym (run_append first_run tokens (token_of f place)) ∙ ap (run_of first_run) (sym is_more);
      place_is = is_after ∙ ap (λ p. place_after p (take size (drop at bytes))) read.place_is ∙ sym (place_on file bytes at size within);
    }

-- nothing has grown beyond the bytes read
pub bounds : (file : ℕ) (bytes : List ℕ) (at : ℕ) (tokens : List Token) (run : Run) (place : Place) → IsRead file bytes at tokens run place
    → (run.depth ≤ at) × (run.length ≤ MOST_TOKENS) × (place.line ≤ at + 1) × (place.byte ≡ at) × (length tokens ≤ at)
bounds file bytes at tokens run place read =
    let count : length tokens ≤ at = omega (arith, ap length read.lexemes, few file bytes 0 bytes read.items at (drop at bytes) read.leads) in (
      omega (arith, ap (λ (r : Run). r.depth) read.run_is, run_deep first_run tokens, count),
      omega (arith, ap (λ (r : Run). r.length) read.run_is, run_long first_run tokens (omega arith) read.runs),
      omega (arith, ap (λ (p : Place). p.line) read.place_is, count_by-le-length is_newline (take at bytes), length-take-le at bytes read.within),
      ap (λ (p : Place). p.byte) read.place_is,
      count,
    )

-- at the end
pub lexes : (file : ℕ) (bytes : List ℕ) (at : ℕ) (tokens : List Token) (run : Run) (place : Place) → IsRead file bytes at tokens run place → length bytes ≤ at → Lexes file bytes tokens
lexes file bytes at tokens run place read end =
    let whole : at ≡ length bytes = omega (arith, read.within) in
    let nothing : drop at bytes ≡ [] = none_left at bytes end in
    record {
      items = read.items;
      leads = subst (λ (l : List ℕ). Leads 0 bytes read.items (length bytes) l) nothing (subst (λ (n : ℕ). Leads 0 bytes read.items n (drop at bytes)) whole read.leads);
      lexemes = read.lexemes;
      runs = read.runs;
    }
  where
    none_left : (n : ℕ) (l : List ℕ) → length l ≤ n → drop n l ≡ []
    none_left zero [] h = refl
    none_left (suc n) [] h = refl
    none_left zero (x ∷ l) h = absurd (omega arith)
    none_left (suc n) (x ∷ l) h = none_left n l (omega arith)

-- at a fault: the tokens so far are those before the first one
pub up_to_fault : (file : ℕ) (bytes : List ℕ) (at : ℕ) (reading : Reading) (f : LexFault) → IsRead file bytes at reading.tokens.items (run_seen reading.run) reading.place → Stops (drop at bytes) reading (error.Fault f)
    → AreUpTo file bytes reading.tokens.items (Some f)
up_to_fault file bytes at reading f read stops = (
  record {
    items = read.items;
    at = at;
    left = drop at bytes;
    leads = read.leads;
    runs = subst (FitsRuns first_run) read.lexemes read.runs;
    shows = elim stops as (λ _. Shows file bytes at (drop at bytes) (run_of first_run (tokens_of file bytes read.items)) f.kind f.at) [
      | inl h ↦ inl (h.0, h.2, h.3 ∙ ap (λ p. place_after p (take h.0 (drop at bytes))) read.place_is ∙ sym (place_on file bytes at h.0 (omega (arith, h.1, read.within, length-drop at bytes))))
      | inr h ↦ inr (h.0, h.1, h.2, ap (λ (r : Run). r.length) (sym (read.run_is ∙ ap (run_of first_run) read.lexemes)) ∙ h.3, h.4, h.5 ∙ read.place_is)
    ];
  },
  read.lexemes,
)
