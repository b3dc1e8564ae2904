-- A text has only one list of tokens or one first lexical error, and never both.
use Rattle.std.proofs.Common.{◌≡◌, ◌∙◌, sym, ap, refl, subst, arith, inl, inr, ℕ, ◌+◌, ◌<◌, List, [], ◌∷◌, ◌++◌, length, drop}
use Rattle.std.specs.Prelude.{None}
use Rattle.cool_syntax.specs.declared.TheConstants.{MOST_TOKENS}
use Rattle.cool_syntax.specs.declared.place.Place.{Place}
use Rattle.cool_syntax.specs.declared.token.Token.{Token}
use Rattle.cool_syntax.specs.declared.lexical.LexKind.{LexKind}
use Rattle.cool_syntax.specs.Lexemes.{Form, Lexeme}
use Rattle.cool_syntax.specs.LexicalStructure.{fault, Fault, fault_at, IsItem, Item, Leads, token_of, tokens_of, place_at, Run, first_run, run_of, FitsRuns, Lexes, LexFault, Shows}
use Rattle.cool_lexer.proofs.Items.{item_size, one_size, one_form}
use Rattle.cool_lexer.proofs.ItemsInARow.{fits_front, fits_after, run_append}
use Rattle.std.proofs.lemmas.Option.{same_Some}

-- no item begins an empty text
no_item : (f : Form) (n : ℕ) (rest : List ℕ) → rest ≡ [] → IsItem rest f n → ⊥
no_item f n rest nothing item = omega (arith, item.within, item_size rest f n item, ap length nothing)

-- two items at a place lead to one text after them
leads_same : (at m n : ℕ) (rest : List ℕ) (items : List Item) (to : ℕ) (left : List ℕ) → n ≡ m → Leads (at + n) (drop n rest) items to left → Leads (at + m) (drop m rest) items to left
leads_same at m n rest items to left e h = subst (λ (k : ℕ). Leads (at + k) (drop k rest) items to left) e h

-- and make one token
token_same : (file : ℕ) (bytes : List ℕ) (at : ℕ) (rest : List ℕ) (i j : Item) → i.offset ≡ at → j.offset ≡ at → IsItem rest i.form i.size → IsItem rest j.form j.size
    → token_of i.form (place_at file bytes i.offset) ≡ token_of j.form (place_at file bytes j.offset)
token_same file bytes at rest i j here there a b =
    let forms = one_form rest i.form j.form i.size j.size a b in
    λ k. token_of (forms k) (place_at file bytes ((here ∙ sym there) k))

-- two rows of items through one text make the same tokens
cut_same : (file : ℕ) (bytes : List ℕ) (at : ℕ) (rest : List ℕ) (is js : List Item) (to : ℕ) → Leads at rest is to [] → Leads at rest js to [] → tokens_of file bytes is ≡ tokens_of file bytes js
cut_same file bytes at rest [] [] to h k = refl
cut_same file bytes at rest [] (j ∷ js) to h k = absurd (no_item j.form j.size rest h.1 k.1)
cut_same file bytes at rest (i ∷ is) [] to h k = absurd (no_item i.form i.size rest k.1 h.1)
cut_same file bytes at rest (i ∷ is) (j ∷ js) to h k =
    let size : j.size ≡ i.size = one_size rest j.form i.form j.size i.size k.1 h.1 in
    let after = cut_same file bytes (at + i.size) (drop i.size rest) is js to h.2 (leads_same at i.size j.size rest js to [] size k.2) in
    λ n. token_same file bytes at rest i j h.0 k.0 h.1 k.1 n ++ after n

-- a text has one list of tokens
pub one_cutting : (file : ℕ) (bytes : List ℕ) (ts us : List Token) → Lexes file bytes ts → Lexes file bytes us → ts ≡ us
one_cutting file bytes ts us a b = a.lexemes ∙ cut_same file bytes 0 bytes a.items b.items (length bytes) a.leads b.leads ∙ sym b.lexemes

-- if something shows a fault, no item goes on
full_run : (f : Form) (p : Place) (r : Run) (g : Form) → g ≡ f → (t : Token) → token_of g p ≡ t ∷ [] → FitsRuns r (token_of f p) → r.length < MOST_TOKENS
full_run f p r g same t is fits =
    let there : FitsRuns r (t ∷ []) = subst (FitsRuns r) (sym (ap (λ x. token_of x p) same) ∙ is) fits in
    there.0

-- if a fault shows, no good item stands that fits its run
shown_stops : (file : ℕ) (bytes : List ℕ) (at : ℕ) (rest : List ℕ) (r : Run) (k : LexKind) (p q : Place) (f : Form) (n : ℕ) → Shows file bytes at rest r k p → IsItem rest f n → FitsRuns r (token_of f q) → ⊥
shown_stops file bytes at rest r k p q f n (inl h) item fits = absurd (let good = item.good in let bad = h.1 in cc)
shown_stops file bytes at rest r k p q f n (inr h) item fits =
    omega (arith, full_run f q r (Lexeme h.0) (one_form rest (Lexeme h.0) f h.1 n h.2 item) _ refl fits, h.3)

-- and have one kind and one offset
fault_same : (k l : LexKind) (m n : ℕ) → fault_at k m ≡ fault_at l n → (k ≡ l) × (m ≡ n)
fault_same k l m n h =
    let same = same_Some (record { kind = k; offset = m }) (record { kind = l; offset = n }) h in
    (ap (λ (f : Fault). f.kind) same, ap (λ (f : Fault). f.offset) same)

-- one place shows one fault
shown_same : (file : ℕ) (bytes : List ℕ) (at : ℕ) (rest : List ℕ) (r : Run) (k l : LexKind) (p q : Place) → Shows file bytes at rest r k p → Shows file bytes at rest r l q → (k ≡ l) × (p ≡ q)
shown_same file bytes at rest r k l p q (inl h) (inl g) =
    let same = fault_same k l h.0 g.0 (sym h.1 ∙ g.1) in
    (same.0, h.2 ∙ ap (λ n. place_at file bytes (at + n)) same.1 ∙ sym g.2)
shown_same file bytes at rest r k l p q (inl h) (inr g) = absurd (let bad = h.1 in let item = g.2 in let good = item.good in cc)
shown_same file bytes at rest r k l p q (inr h) (inl g) = absurd (let bad = g.1 in let item = h.2 in let good = item.good in cc)
shown_same file bytes at rest r k l p q (inr h) (inr g) = (h.4 ∙ sym g.4, h.5 ∙ sym g.5)

-- a fault that shows at the end of no items shows where they began
shows_here : (file : ℕ) (bytes : List ℕ) (at to : ℕ) (rest left : List ℕ) (r : Run) (k : LexKind) (p : Place) → at ≡ to → rest ≡ left → Shows file bytes to left r k p → Shows file bytes at rest r k p
shows_here file bytes at to rest left r k p e d h =
    subst (λ (n : ℕ). Shows file bytes n rest r k p) (sym e) (subst (λ (l : List ℕ). Shows file bytes to l r k p) (sym d) h)

-- and after the first item its run goes on
shows_after : (file : ℕ) (bytes : List ℕ) (to : ℕ) (left : List ℕ) (r : Run) (ts us : List Token) (k : LexKind) (p : Place)
    → Shows file bytes to left (run_of r (ts ++ us)) k p → Shows file bytes to left (run_of (run_of r ts) us) k p
shows_after file bytes to left r ts us k p h = subst (λ (s : Run). Shows file bytes to left s k p) (run_append r ts us) h

-- two rows of items that lead to a fault lead to one
first_same : (file : ℕ) (bytes : List ℕ) (at : ℕ) (rest : List ℕ) (r : Run) (is js : List Item) (to also : ℕ) (left right : List ℕ) (k l : LexKind) (p q : Place)
    → Leads at rest is to left → Leads at rest js also right → FitsRuns r (tokens_of file bytes is) → FitsRuns r (tokens_of file bytes js)
    → Shows file bytes to left (run_of r (tokens_of file bytes is)) k p → Shows file bytes also right (run_of r (tokens_of file bytes js)) l q → (k ≡ l) × (p ≡ q)
first_same file bytes at rest r [] [] to also left right k l p q a b fits also_fits s t =
    shown_same file bytes at rest r k l p q (shows_here file bytes at to rest left r k p a.0 a.1 s) (shows_here file bytes at also rest right r l q b.0 b.1 t)
first_same file bytes at rest r [] (j ∷ js) to also left right k l p q a b fits also_fits s t =
    absurd (shown_stops file bytes at rest r k p (place_at file bytes j.offset) j.form j.size (shows_here file bytes at to rest left r k p a.0 a.1 s) b.1
    (fits_front r (token_of j.form (place_at file bytes j.offset)) (tokens_of file bytes js) also_fits))
first_same file bytes at rest r (i ∷ is) [] to also left right k l p q a b fits also_fits s t =
    absurd (shown_stops file bytes at rest r l q (place_at file bytes i.offset) i.form i.size (shows_here file bytes at also rest right r l q b.0 b.1 t) a.1
    (fits_front r (token_of i.form (place_at file bytes i.offset)) (tokens_of file bytes is) fits))
first_same file bytes at rest r (i ∷ is) (j ∷ js) to also left right k l p q a b fits also_fits s t =
    let size : j.size ≡ i.size = one_size rest j.form i.form j.size i.size b.1 a.1 in
    let same : token_of j.form (place_at file bytes j.offset) ≡ token_of i.form (place_at file bytes i.offset) = token_same file bytes at rest j i b.0 a.0 b.1 a.1 in
    first_same file bytes (at + i.size) (drop i.size rest) (run_of r (token_of i.form (place_at file bytes i.offset))) is js to also left right k l p q
    a.2 (leads_same at i.size j.size rest js also right size b.2)
    (fits_after r (token_of i.form (place_at file bytes i.offset)) (tokens_of file bytes is) fits)
    (subst (λ (ts : List Token). FitsRuns (run_of r ts) (tokens_of file bytes js)) same (fits_after r (token_of j.form (place_at file bytes j.offset)) (tokens_of file bytes js) also_fits))
    (shows_after file bytes to left r (token_of i.form (place_at file bytes i.offset)) (tokens_of file bytes is) k p s)
    (subst (λ (ts : List Token). Shows file bytes also right (run_of (run_of r ts) (tokens_of file bytes js)) l q) same (shows_after file bytes also right r (token_of j.form (place_at file bytes j.offset)) (tokens_of file bytes js) l q t))

-- a text has one first fault
pub one_first_fault : (file : ℕ) (bytes : List ℕ) (k l : LexKind) (p q : Place) → LexFault file bytes k p → LexFault file bytes l q → (k ≡ l) × (p ≡ q)
one_first_fault file bytes k l p q a b =
    first_same file bytes 0 bytes first_run a.items b.items a.at b.at a.left b.left k l p q a.leads b.leads a.runs b.runs a.shows b.shows

-- nothing shows in an empty text
shows_nothing : (file : ℕ) (bytes : List ℕ) (at : ℕ) (rest : List ℕ) (r : Run) (k : LexKind) (p : Place) → rest ≡ [] → Shows file bytes at rest r k p → ⊥
shows_nothing file bytes at rest r k p nothing (inl h) = absurd (let bad = h.1 in let none : fault rest ≡ None = ap fault nothing in cc)
shows_nothing file bytes at rest r k p nothing (inr h) = no_item (Lexeme h.0) h.1 rest nothing h.2

-- no row of items goes through a text while another leads to a fault
both_never : (file : ℕ) (bytes : List ℕ) (at : ℕ) (rest : List ℕ) (r : Run) (is js : List Item) (to also : ℕ) (right : List ℕ) (k : LexKind) (p : Place)
    → Leads at rest is to [] → Leads at rest js also right → FitsRuns r (tokens_of file bytes is) → Shows file bytes also right (run_of r (tokens_of file bytes js)) k p → ⊥
both_never file bytes at rest r [] [] to also right k p a b fits s = shows_nothing file bytes at rest r k p a.1 (shows_here file bytes at also rest right r k p b.0 b.1 s)
both_never file bytes at rest r [] (j ∷ js) to also right k p a b fits s = no_item j.form j.size rest a.1 b.1
both_never file bytes at rest r (i ∷ is) [] to also right k p a b fits s =
    shown_stops file bytes at rest r k p (place_at file bytes i.offset) i.form i.size (shows_here file bytes at also rest right r k p b.0 b.1 s) a.1
    (fits_front r (token_of i.form (place_at file bytes i.offset)) (tokens_of file bytes is) fits)
both_never file bytes at rest r (i ∷ is) (j ∷ js) to also right k p a b fits s =
    let size : j.size ≡ i.size = one_size rest j.form i.form j.size i.size b.1 a.1 in
    let same : token_of j.form (place_at file bytes j.offset) ≡ token_of i.form (place_at file bytes i.offset) = token_same file bytes at rest j i b.0 a.0 b.1 a.1 in
    both_never file bytes (at + i.size) (drop i.size rest) (run_of r (token_of i.form (place_at file bytes i.offset))) is js to also right k p
    a.2 (leads_same at i.size j.size rest js also right size b.2)
    (fits_after r (token_of i.form (place_at file bytes i.offset)) (tokens_of file bytes is) fits)
    (subst (λ (ts : List Token). Shows file bytes also right (run_of (run_of r ts) (tokens_of file bytes js)) k p) same (shows_after file bytes also right r (token_of j.form (place_at file bytes j.offset)) (tokens_of file bytes js) k p s))

-- no text has tokens and a first fault
pub never_both : (file : ℕ) (bytes : List ℕ) (ts : List Token) (k : LexKind) (p : Place) → Lexes file bytes ts → LexFault file bytes k p → ⊥
never_both file bytes ts k p a b =
    both_never file bytes 0 bytes first_run a.items b.items (length bytes) b.at b.left k p a.leads b.leads (subst (FitsRuns first_run) a.lexemes a.runs) b.shows
