-- `front_of` computes the lexeme, white space, comment or lexical error at the front of a text, by the class of the first byte and the bytes after it. `Begins`
-- says that a result is the one that Cool's lexical structure demands; a proof shows that the two agree.
use Rattle.std.specs.Prelude.{◌≡◌, ℕ, ◌+◌, ◌≤◌, Bool, false, not, ◌==◌, nat_lt, if◌then◌else◌, List, [], ◌∷◌, ◌++◌, length, take, Option, Some, None}
use Rattle.std.specs.List.{prefix_len}
use Rattle.cool_syntax.specs.declared.TheConstants.{MOST_BYTES}
use Rattle.cool_syntax.specs.declared.token.Sign.{Sign}
use Rattle.cool_syntax.specs.declared.token.Sign.TheVariants as sign
use Rattle.cool_syntax.specs.declared.token.TokenKind.TheVariants as kind
use Rattle.cool_syntax.specs.declared.lexical.LexKind.TheVariants.{L1, L2, L3, L4, L5, L6, L7}
use Rattle.cool_syntax.specs.Lexemes as lexemes
use Rattle.cool_syntax.specs.LexicalStructure.{fault_of, fault_at, fault, IsItem}
use Rattle.cool_lexer.specs.declared.front.Front.{Front}
use Rattle.cool_lexer.specs.declared.front.Front.TheVariants.{Item, Fault}
use Rattle.cool_lexer.specs.declared.front.Scan.TheVariants as scan
use Rattle.cool_lexer.specs.declared.span.Span.{Span}
use Rattle.cool_lexer.specs.declared.span.Span.TheVariants as span
use Rattle.cool_lexer.specs.Views.{form_seen}

-- the bytes that a span takes
abbrev pub takes : Span → ℕ → Bool
takes span.Word b = lexemes.is_in_word b
takes span.Digits b = lexemes.is_digit b
takes span.Line b = not (b == 10)

-- Signs

abbrev pub single_front : Sign → ℕ → Front
single_front s after = Item (scan.Lexeme (kind.Sign s)) after

abbrev pub angle_front : List ℕ → Front
angle_front [] = single_front sign.Less 0
angle_front (b ∷ bs) = if b == 61 then single_front sign.LessEqual 1 else (if b == 45 then single_front sign.Arrow 1 else single_front sign.Less 0)

abbrev pub equals_front : List ℕ → Front
equals_front [] = single_front sign.Equal 0
equals_front (b ∷ bs) = if b == 62 then single_front sign.FatArrow 1 else single_front sign.Equal 0

abbrev pub star_front : List ℕ → Front
star_front [] = single_front sign.Star 0
star_front (b ∷ bs) = if b == 41 then Fault L6 0 else single_front sign.Star 0

-- Words and integers

abbrev pub word_front : ℕ → List ℕ → Front
word_front b bs = Item (scan.Lexeme (lexemes.word b (take (prefix_len (takes span.Word) bs) bs))) (prefix_len (takes span.Word) bs)

abbrev pub within_limit : ℕ → Option ℕ
within_limit n = if nat_lt 2147483647 n then None else Some n

abbrev pub integer_front : Option ℕ → ℕ → Front
integer_front (Some n) after = Item (scan.Lexeme (kind.Int n)) after
integer_front None after = Fault L7 0

abbrev pub number_front : ℕ → List ℕ → Front
number_front b bs = integer_front (within_limit (lexemes.value (b ∷ take (prefix_len (takes span.Digits) bs) bs))) (prefix_len (takes span.Digits) bs)

-- Strings

-- the front that this piece decides, with the constant so far; rest is that of the bytes that follow
abbrev pub piece_front : lexemes.Piece → ℕ → List ℕ → Front → Front
piece_front lexemes.Ends offset held rest = Item (scan.Lexeme (kind.Str held)) offset
piece_front lexemes.Newline offset held rest = Fault L2 0
piece_front lexemes.Null offset held rest = Fault L3 offset
piece_front lexemes.Backslash offset held rest = rest
piece_front (lexemes.Means c) offset held rest = if length held == MOST_BYTES then Fault L4 0 else rest

abbrev pub held_after : lexemes.Piece → List ℕ → List ℕ
held_after (lexemes.Means c) held = held ++ c ∷ []
held_after _ held = held

-- the front of a string, by its bytes from the offset on, with the constant so far
abbrev pub string_front : Bool → ℕ → List ℕ → List ℕ → Front
string_front escaped offset held [] = Fault L2 0
string_front escaped offset held (b ∷ bs) =
    piece_front (lexemes.piece escaped b) offset held
    (string_front (lexemes.is_backslash (lexemes.piece escaped b)) (offset + 1) (held_after (lexemes.piece escaped b) held) bs)

-- Comments

abbrev pub dash_front : List ℕ → Front
dash_front [] = single_front sign.Minus 0
dash_front (b ∷ bs) = if b == 45 then Item scan.Comment (1 + prefix_len (takes span.Line) bs) else single_front sign.Minus 0

abbrev pub block_front : Option ℕ → Front
block_front (Some n) = Item scan.Comment (1 + n)
block_front None = Fault L5 0

abbrev pub open_front : List ℕ → Front
open_front [] = single_front sign.LParen 0
open_front (b ∷ bs) = if b == 42 then block_front (lexemes.comment_size 1 0 bs) else single_front sign.LParen 0

-- All classes

abbrev pub front_of : lexemes.Class → ℕ → List ℕ → Front
front_of lexemes.Capital b bs = word_front b bs
front_of lexemes.Small b bs = word_front b bs
front_of lexemes.Digit b bs = number_front b bs
front_of lexemes.Quote b bs = string_front false 1 [] bs
front_of lexemes.White b bs = Item scan.Space 0
front_of lexemes.Dash b bs = dash_front bs
front_of lexemes.Star b bs = star_front bs
front_of lexemes.Open b bs = open_front bs
front_of lexemes.Angle b bs = angle_front bs
front_of lexemes.Equals b bs = equals_front bs
front_of (lexemes.Single s) b bs = single_front s 0
front_of lexemes.Stray b bs = Fault L1 0

-- After a first byte of this class, an item of this form has this many more bytes and no fault, and no longer form begins there.
pub record IsAfter (class : lexemes.Class) (b : ℕ) (bs : List ℕ) (f : lexemes.Form) (after : ℕ) : Type 0 where
  pub good : fault_of class b bs ≡ None
  pub within : after ≤ length bs
  pub is_form : lexemes.form_of class b (take after bs) ≡ Some f
  pub longest : (m : ℕ) (other : lexemes.Form) → m ≤ length bs → lexemes.form_of class b (take m bs) ≡ Some other → m ≤ after

-- The front is the item or the fault of a text with a first byte of this class.
abbrev pub IsFront : lexemes.Class → ℕ → List ℕ → Front → Type 0
IsFront class b bs (Item f after) = IsAfter class b bs (form_seen f) after
IsFront class b bs (Fault k offset) = (fault_of class b bs ≡ fault_at k offset) × (offset ≤ length bs)

-- The front is the item or the fault that a text begins with.
abbrev pub Begins : List ℕ → Front → Type 0
Begins text (Item f after) = IsItem text (form_seen f) (after + 1)
Begins text (Fault k offset) = (fault text ≡ fault_at k offset) × (offset + 1 ≤ length text)
