-- `form` classifies a text that is a single lexeme, one byte of white space or one comment, by Cool's lexical structure (manual, section 10). The first byte of
-- a text decides which rule applies. LexicalStructure.antt adds the limits on integers and strings.
use Rattle.std.specs.Prelude.{◌≡◌, ℕ, suc, zero, ◌+◌, ◌-◌, ◌*◌, Bool, true, false, not, ◌&&◌, ◌||◌, ◌==◌, nat_le, bytes_eq, if◌then◌else◌, List, [], ◌∷◌, length, map, codes, Option, Some, None, option_map, refl}
use Rattle.std.specs.List.{fold, list_all}
use Rattle.cool_syntax.specs.declared.token.TokenKind.{TokenKind}
use Rattle.cool_syntax.specs.declared.token.TokenKind.TheVariants as kind
use Rattle.cool_syntax.specs.declared.token.Key.{Key}
use Rattle.cool_syntax.specs.declared.token.Key.TheVariants as key
use Rattle.cool_syntax.specs.declared.token.Sign.{Sign}
use Rattle.cool_syntax.specs.declared.token.Sign.TheVariants as sign

pub data Form : Type 0 where
  Space : Form
  Comment : Form
  Lexeme : (kind : TokenKind) → Form

-- Bytes

abbrev pub is_between : ℕ → ℕ → ℕ → Bool
is_between low high b = nat_le low b && nat_le b high

abbrev pub is_capital : ℕ → Bool
is_capital b = is_between 65 90 b

abbrev pub is_small : ℕ → Bool
is_small b = is_between 97 122 b

abbrev pub is_digit : ℕ → Bool
is_digit b = is_between 48 57 b

-- a letter, a digit or an underscore
abbrev pub is_in_word : ℕ → Bool
is_in_word b = is_capital b || (is_small b || (is_digit b || b == 95))

-- space, newline, form feed, carriage return, tab, vertical tab
abbrev pub is_white : ℕ → Bool
is_white b = b == 32 || (b == 10 || (b == 12 || (b == 13 || (b == 9 || b == 11))))

-- the class of the first byte of a form
pub data Class : Type 0 where
  Capital : Class
  Small : Class
  Digit : Class
  Quote : Class
  White : Class
  Dash : Class
  Star : Class
  Open : Class
  Angle : Class
  Equals : Class
  Single : (sign : Sign) → Class
  Stray : Class

abbrev pub class_of : ℕ → Class
class_of b =
    if is_capital b then Capital
    else (if is_small b then Small
    else (if is_digit b then Digit
    else (if is_white b then White
    else (if b == 34 then Quote
    else (if b == 45 then Dash
    else (if b == 42 then Star
    else (if b == 40 then Open
    else (if b == 60 then Angle
    else (if b == 61 then Equals
    else (if b == 123 then Single sign.LBrace
    else (if b == 125 then Single sign.RBrace
    else (if b == 41 then Single sign.RParen
    else (if b == 58 then Single sign.Colon
    else (if b == 59 then Single sign.Semi
    else (if b == 44 then Single sign.Comma
    else (if b == 46 then Single sign.Dot
    else (if b == 64 then Single sign.At
    else (if b == 126 then Single sign.Tilde
    else (if b == 47 then Single sign.Slash
    else (if b == 43 then Single sign.Plus
    else Stray))))))))))))))))))))

-- Words

abbrev pub lower : ℕ → ℕ
lower b = if is_capital b then b + 32 else b

pub record Keyword : Type 0 where
  pub spelling : List ℕ
  pub key : Key

abbrev pub keywords : List Keyword
keywords =
    record { spelling = codes "class"; key = key.Class }
    ∷ record { spelling = codes "else"; key = key.Else }
    ∷ record { spelling = codes "false"; key = key.False }
    ∷ record { spelling = codes "fi"; key = key.Fi }
    ∷ record { spelling = codes "if"; key = key.If }
    ∷ record { spelling = codes "in"; key = key.In }
    ∷ record { spelling = codes "inherits"; key = key.Inherits }
    ∷ record { spelling = codes "isvoid"; key = key.IsVoid }
    ∷ record { spelling = codes "let"; key = key.Let }
    ∷ record { spelling = codes "loop"; key = key.Loop }
    ∷ record { spelling = codes "pool"; key = key.Pool }
    ∷ record { spelling = codes "then"; key = key.Then }
    ∷ record { spelling = codes "while"; key = key.While }
    ∷ record { spelling = codes "case"; key = key.Case }
    ∷ record { spelling = codes "esac"; key = key.Esac }
    ∷ record { spelling = codes "new"; key = key.New }
    ∷ record { spelling = codes "of"; key = key.Of }
    ∷ record { spelling = codes "not"; key = key.Not }
    ∷ record { spelling = codes "true"; key = key.True }
    ∷ []

-- the keyword with this spelling
abbrev pub key_among : List Keyword → List ℕ → Option Key
key_among [] word = None
key_among (k ∷ ks) word = if bytes_eq k.spelling word then Some k.key else key_among ks word

abbrev pub is_truth : Key → Bool
is_truth key.True = true
is_truth key.False = true
is_truth _ = false

-- A word is a keyword where its letters, of any case, are; but true and false begin with a small letter.
abbrev pub named : Bool → List ℕ → Option Key → TokenKind
named capital text (Some k) = if capital && is_truth k then kind.TypeId text else kind.Key k
named capital text None = if capital then kind.TypeId text else kind.ObjectId text

abbrev pub word : ℕ → List ℕ → TokenKind
word b bs = named (is_capital b) (b ∷ bs) (key_among keywords (map lower (b ∷ bs)))

-- Integers

-- the number of these digits
abbrev pub value : List ℕ → ℕ
value = fold (λ n b. 10 * n + (b - 48)) 0

-- Strings

-- the meaning of a byte of a string
pub data Piece : Type 0 where
  Ends : Piece
  Newline : Piece
  Null : Piece
  Backslash : Piece
  Means : (byte : ℕ) → Piece

-- the byte that a backslash and c denote
abbrev pub escape : ℕ → ℕ
escape c = if c == 98 then 8 else (if c == 116 then 9 else (if c == 110 then 10 else (if c == 102 then 12 else c)))

-- after a backslash, or not
abbrev pub piece : Bool → ℕ → Piece
piece true b = if b == 0 then Null else Means (escape b)
piece false b = if b == 34 then Ends else (if b == 10 then Newline else (if b == 0 then Null else (if b == 92 then Backslash else Means b)))

abbrev pub is_backslash : Piece → Bool
is_backslash Backslash = true
is_backslash _ = false

-- the constant of a string whose piece p is followed by a text with the constant `rest`
abbrev pub denoted : Piece → List ℕ → Option (List ℕ) → Option (List ℕ)
denoted Ends [] rest = Some []
denoted Ends (b ∷ bs) rest = None
denoted (Means c) bs rest = option_map (λ cs. c ∷ cs) rest
denoted Backslash bs rest = rest
denoted Newline bs rest = None
denoted Null bs rest = None

-- The constant of a string, from the text after its opening quote, the closing one included. The flag says whether a backslash comes before.
abbrev pub constant : Bool → List ℕ → Option (List ℕ)
constant escaped [] = None
constant escaped (b ∷ bs) = denoted (piece escaped b) bs (constant (is_backslash (piece escaped b)) bs)

-- Comments

pub data Mark : Type 0 where
  Opens : Mark
  Closes : Mark
  Plain : Mark

-- the mark that a text begins with
abbrev pub mark : List ℕ → Mark
mark (b ∷ c ∷ bs) = if b == 40 && c == 42 then Opens else (if b == 42 && c == 41 then Closes else Plain)
mark (b ∷ []) = Plain
mark [] = Plain

abbrev pub depth_after : Mark → ℕ → ℕ
depth_after Opens d = d + 1
depth_after Closes d = d - 1
depth_after Plain d = d

-- the number of bytes of a mark after its first
abbrev pub more_bytes : Mark → ℕ
more_bytes Plain = 0
more_bytes _ = 1

abbrev pub ended : Mark → ℕ → Option ℕ → Option ℕ
ended Closes (suc zero) rest = Some 2
ended _ d rest = option_map (λ n. n + 1) rest

-- The number of bytes up to the point where d open comments are closed, after k bytes passed over. Comments nest.
abbrev pub comment_size : ℕ → ℕ → List ℕ → Option ℕ
comment_size d k [] = None
comment_size d (suc k) (b ∷ bs) = option_map (λ n. n + 1) (comment_size d k bs)
comment_size d zero (b ∷ bs) =
    ended (mark (b ∷ bs)) d (comment_size (depth_after (mark (b ∷ bs)) d) (more_bytes (mark (b ∷ bs))) bs)

-- Forms

abbrev pub is_whole : Option ℕ → List ℕ → Bool
is_whole (Some n) bs = n == length bs
is_whole None bs = false

abbrev pub lexeme_if : Bool → TokenKind → Option Form
lexeme_if holds k = if holds then Some (Lexeme k) else None

abbrev pub comment_if : Bool → Option Form
comment_if holds = if holds then Some Comment else None

abbrev pub string_of : Option (List ℕ) → Option Form
string_of = option_map (λ bytes. Lexeme (kind.Str bytes))

-- `-`, and a comment up to the end of a line
abbrev pub dash : List ℕ → Option Form
dash [] = Some (Lexeme (kind.Sign sign.Minus))
dash (b ∷ bs) = comment_if (b == 45 && list_all (λ c. not (c == 10)) bs)

-- `(`, and a block comment
abbrev pub open_sign : List ℕ → Option Form
open_sign [] = Some (Lexeme (kind.Sign sign.LParen))
open_sign (b ∷ bs) = comment_if (b == 42 && is_whole (comment_size 1 0 bs) bs)

-- `<`, `<=` and `<-`
abbrev pub angle : List ℕ → Option Form
angle [] = Some (Lexeme (kind.Sign sign.Less))
angle (b ∷ []) = if b == 61 then Some (Lexeme (kind.Sign sign.LessEqual)) else lexeme_if (b == 45) (kind.Sign sign.Arrow)
angle (b ∷ c ∷ bs) = None

-- `=` and `=>`
abbrev pub equals : List ℕ → Option Form
equals [] = Some (Lexeme (kind.Sign sign.Equal))
equals (b ∷ []) = lexeme_if (b == 62) (kind.Sign sign.FatArrow)
equals (b ∷ c ∷ bs) = None

-- a text of one byte
abbrev pub alone : Form → List ℕ → Option Form
alone f [] = Some f
alone f (b ∷ bs) = None

abbrev pub form_of : Class → ℕ → List ℕ → Option Form
form_of Capital b bs = lexeme_if (list_all is_in_word bs) (word b bs)
form_of Small b bs = lexeme_if (list_all is_in_word bs) (word b bs)
form_of Digit b bs = lexeme_if (list_all is_digit bs) (kind.Int (value (b ∷ bs)))
form_of Quote b bs = string_of (constant false bs)
form_of White b bs = alone Space bs
form_of Dash b bs = dash bs
form_of Star b bs = alone (Lexeme (kind.Sign sign.Star)) bs
form_of Open b bs = open_sign bs
form_of Angle b bs = angle bs
form_of Equals b bs = equals bs
form_of (Single s) b bs = alone (Lexeme (kind.Sign s)) bs
form_of Stray b bs = None

-- the form that a text is, as a whole
abbrev pub form : List ℕ → Option Form
form [] = None
form (b ∷ bs) = form_of (class_of b) b bs

-- Worked examples

keyword_of_any_case : form (codes "CLaSS") ≡ Some (Lexeme (kind.Key key.Class))
keyword_of_any_case = refl

truth : form (codes "tRUE") ≡ Some (Lexeme (kind.Key key.True))
truth = refl

no_truth : form (codes "True") ≡ Some (Lexeme (kind.TypeId (codes "True")))
no_truth = refl

type_of_self : form (codes "SELF_TYPE") ≡ Some (Lexeme (kind.TypeId (codes "SELF_TYPE")))
type_of_self = refl

leading_zeros : form (codes "0012") ≡ Some (Lexeme (kind.Int 12))
leading_zeros = refl

two_tokens : form (codes "12ab") ≡ None
two_tokens = refl

escapes : form (codes "\"a\\n\\c\\\\\\\"\"") ≡ Some (Lexeme (kind.Str (codes "a\nc\\\"")))
escapes = refl

arrow : form (codes "<-") ≡ Some (Lexeme (kind.Sign sign.Arrow))
arrow = refl

nested : form (codes "(*(*)*)*)") ≡ Some Comment
nested = refl

open_comment : form (codes "(*)") ≡ None
open_comment = refl

line : form (codes "--(* \"") ≡ Some Comment
line = refl
