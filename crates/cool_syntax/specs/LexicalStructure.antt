-- Cool's lexical structure (manual, section 10), with this compiler's limits: `Lexes` says which tokens the bytes of a file are, and `LexFault` which lexical
-- error of a file is the first, with its source location.
use Rattle.std.specs.Prelude.{◌≡◌, ◌⊎◌, ℕ, ◌+◌, ◌-◌, ◌≤◌, ◌<◌, Bool, false, ◌&&◌, ◌==◌, nat_lt, if◌then◌else◌, List, [], ◌∷◌, ◌++◌, length, take, drop, codes, Option, Some, None, refl}
use Rattle.std.specs.List.{count_by, take_while}
use Rattle.std.specs.Option.{is_none}
use Rattle.cool_syntax.specs.declared.TheConstants.{MOST_BYTES, MOST_TOKENS}
use Rattle.cool_syntax.specs.declared.place.Place.{Place}
use Rattle.cool_syntax.specs.declared.token.Token.{Token}
use Rattle.cool_syntax.specs.declared.token.TokenKind.{TokenKind}
use Rattle.cool_syntax.specs.declared.token.TokenKind.TheVariants as kind
use Rattle.cool_syntax.specs.declared.token.Key.TheVariants as key
use Rattle.cool_syntax.specs.declared.token.Sign.TheVariants as sign
use Rattle.cool_syntax.specs.declared.lexical.LexKind.{LexKind}
use Rattle.cool_syntax.specs.declared.lexical.LexKind.TheVariants.{L1, L2, L3, L4, L5, L6, L7, L8}
use Rattle.cool_syntax.specs.Lexemes.{Form, Lexeme, Class, class_of, is_digit, value, Piece, piece, is_backslash, comment_size, form}
use Rattle.cool_syntax.specs.Lexemes as lexemes

-- The place of a text's k-th byte in a file. Its line is 1 and a line more for each newline before it.
abbrev pub place_at : ℕ → List ℕ → ℕ → Place
place_at file bytes k = record { file = file; line = 1 + count_by (λ b. b == 10) (take k bytes); byte = k }

-- Faulty items

-- a fault, and how far after the item's first byte it stands
pub record Fault : Type 0 where
  pub kind : LexKind
  pub offset : ℕ

abbrev pub fault_at : LexKind → ℕ → Option Fault
fault_at k offset = Some (record { kind = k; offset = offset })

abbrev pub fault_if : Bool → LexKind → Option Fault
fault_if holds k = if holds then fault_at k 0 else None

-- The fault that a piece of a string shows, where its constant has `held` bytes so far; `rest` is that of the bytes that follow.
abbrev pub shown : Piece → ℕ → ℕ → Option Fault → Option Fault
shown lexemes.Ends offset held rest = None
shown lexemes.Newline offset held rest = fault_at L2 0
shown lexemes.Null offset held rest = fault_at L3 offset
shown lexemes.Backslash offset held rest = rest
shown (lexemes.Means c) offset held rest = if held == MOST_BYTES then fault_at L4 0 else rest

abbrev pub held_after : Piece → ℕ → ℕ
held_after (lexemes.Means c) held = held + 1
held_after _ held = held

-- The first fault of a string, by the bytes from the offset on: there its constant has `held` bytes.
abbrev pub string_fault : Bool → ℕ → ℕ → List ℕ → Option Fault
string_fault escaped offset held [] = fault_at L2 0
string_fault escaped offset held (b ∷ bs) =
    shown (piece escaped b) offset held
    (string_fault (is_backslash (piece escaped b)) (offset + 1) (held_after (piece escaped b) held) bs)

abbrev pub begins_with : ℕ → List ℕ → Bool
begins_with b [] = false
begins_with b (c ∷ cs) = c == b

abbrev pub is_never_closed : List ℕ → Bool
is_never_closed [] = false
is_never_closed (b ∷ bs) = b == 42 && is_none (comment_size 1 0 bs)

abbrev pub fault_of : Class → ℕ → List ℕ → Option Fault
fault_of lexemes.Stray b bs = fault_at L1 0
fault_of lexemes.Quote b bs = string_fault false 1 0 bs
fault_of lexemes.Open b bs = fault_if (is_never_closed bs) L5
fault_of lexemes.Star b bs = fault_if (begins_with 41 bs) L6
fault_of lexemes.Digit b bs = fault_if (nat_lt 2147483647 (value (take_while is_digit (b ∷ bs)))) L7
fault_of _ b bs = None

-- The fault of the item that a rest of a text begins with.
abbrev pub fault : List ℕ → Option Fault
fault [] = None
fault (b ∷ bs) = fault_of (class_of b) b bs

-- Good items

-- The rest of a text begins with an item of this form and size, which has no fault, and with no longer form.
pub record IsItem (rest : List ℕ) (f : Form) (size : ℕ) : Type 0 where
  pub good : fault rest ≡ None
  pub within : size ≤ length rest
  pub is_form : form (take size rest) ≡ Some f
  pub longest : (m : ℕ) (other : Form) → m ≤ length rest → form (take m rest) ≡ Some other → m ≤ size

pub record Item : Type 0 where
  pub form : Form
  pub offset : ℕ
  pub size : ℕ

-- These items, one after the other, are the text from one offset to another; `rest` is the text from the first offset on, `left` from the second.
abbrev pub Leads : ℕ → List ℕ → List Item → ℕ → List ℕ → Type 0
Leads at rest [] to left = (at ≡ to) × (rest ≡ left)
Leads at rest (i ∷ is) to left = (i.offset ≡ at) × IsItem rest i.form i.size × Leads (at + i.size) (drop i.size rest) is to left

abbrev pub token_of : Form → Place → List Token
token_of (Lexeme k) place = record { kind = k; at = place } ∷ []
token_of _ place = []

-- the lexemes among the items of a text
abbrev pub tokens_of : ℕ → List ℕ → List Item → List Token
tokens_of file bytes [] = []
tokens_of file bytes (i ∷ is) = token_of i.form (place_at file bytes i.offset) ++ tokens_of file bytes is

-- Runs

-- the depth of the tokens so far in braces and cases, and the number of those in the current run
pub record Run : Type 0 where
  pub depth : ℕ
  pub length : ℕ

abbrev pub first_run : Run
first_run = record { depth = 0; length = 0 }

abbrev pub depth_after : TokenKind → ℕ → ℕ
depth_after (kind.Sign sign.LBrace) d = d + 1
depth_after (kind.Key key.Case) d = d + 1
depth_after (kind.Sign sign.RBrace) d = d - 1
depth_after (kind.Key key.Esac) d = d - 1
depth_after _ d = d

-- a brace that opens a class, and a semicolon of a class's own level: the next token is the first of a run
abbrev pub ends_run : TokenKind → ℕ → Bool
ends_run (kind.Sign sign.LBrace) d = d == 0
ends_run (kind.Sign sign.Semi) d = d == 1
ends_run _ d = false

abbrev pub run_after : Run → TokenKind → Run
run_after r k = record { depth = depth_after k r.depth; length = if ends_run k r.depth then 0 else r.length + 1 }

abbrev pub run_of : Run → List Token → Run
run_of r [] = r
run_of r (t ∷ ts) = run_of (run_after r t.kind) ts

-- before each token, its run has fewer than MOST_TOKENS tokens
abbrev pub FitsRuns : Run → List Token → Type 0
FitsRuns r [] = Unit {0}
FitsRuns r (t ∷ ts) = (r.length < MOST_TOKENS) × FitsRuns (run_after r t.kind) ts

-- Whole texts

-- The bytes of a file are items without a fault, one after the other; the tokens are its lexemes, and no run is too long.
pub record Lexes (file : ℕ) (bytes : List ℕ) (tokens : List Token) : Type 0 where
  pub items : List Item
  pub leads : Leads 0 bytes items (length bytes) []
  pub lexemes : tokens ≡ tokens_of file bytes items
  pub runs : FitsRuns first_run tokens

-- The item at the place shows a fault, or is a token one too many for its run.
abbrev pub Shows : ℕ → List ℕ → ℕ → List ℕ → Run → LexKind → Place → Type 0
Shows file bytes at left r k place =
    ((offset : ℕ) × (fault left ≡ fault_at k offset) × (place ≡ place_at file bytes (at + offset)))
    ⊎ ((lexeme : TokenKind) × (size : ℕ) × IsItem left (Lexeme lexeme) size × (r.length ≡ MOST_TOKENS) × (k ≡ L8) × (place ≡ place_at file bytes at))

-- Items without a fault, in runs that are not too long, lead up to the first fault of a file.
pub record LexFault (file : ℕ) (bytes : List ℕ) (k : LexKind) (place : Place) : Type 0 where
  pub items : List Item
  pub at : ℕ
  pub left : List ℕ
  pub leads : Leads 0 bytes items at left
  pub runs : FitsRuns first_run (tokens_of file bytes items)
  pub shows : Shows file bytes at left (run_of first_run (tokens_of file bytes items)) k place

-- Worked examples

open_string : fault (codes "\"ab\nc\"") ≡ fault_at L2 0
open_string = refl

escaped_newline : fault (codes "\"ab\\\nc\"") ≡ None
escaped_newline = refl

null_in_string : fault (codes "\"ab" ++ 92 ∷ 0 ∷ codes "\"") ≡ fault_at L3 4
null_in_string = refl

stray_byte : fault (codes "_a") ≡ fault_at L1 0
stray_byte = refl

open_comment : fault (codes "(*(*)*)") ≡ fault_at L5 0
open_comment = refl

stray_close : fault (codes "*)") ≡ fault_at L6 0
stray_close = refl

large_integer : fault (codes "2147483648") ≡ fault_at L7 0
large_integer = refl

largest_integer : fault (codes "02147483647;") ≡ None
largest_integer = refl

line : place_at 0 (codes "a\nb\nc") 4 ≡ record { file = 0; line = 3; byte = 4 }
line = refl
