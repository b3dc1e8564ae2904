-- The lexer gives string constants that consist of bytes (numbers below 256), if the file does.
use Rattle.std.proofs.Common.{ℕ, zero, suc, ◌+◌, ◌<◌, List, [], ◌∷◌, length, take, drop, Option, Some, None, Bool, true, false, sym, subst, arith}
use Rattle.std.specs.Prelude.{if◌then◌else◌, ◌==◌, ◌&&◌, not, map, option_map}
use Rattle.std.specs.List.{AllByRecursion, list_all}
use Rattle.cool_syntax.specs.declared.token.Token.{Token}
use Rattle.cool_syntax.specs.declared.token.Key.{Key}
use Rattle.cool_syntax.specs.declared.token.Sign.TheVariants as sign
use Rattle.cool_syntax.specs.declared.token.TokenKind.{TokenKind}
use Rattle.cool_syntax.specs.declared.token.TokenKind.TheVariants as kind
use Rattle.cool_syntax.specs.declared.place.Place.{Place}
use Rattle.cool_syntax.specs.Lexemes.{Form, Lexeme, Space, Comment, Piece, Ends, Newline, Null, Backslash, Means, piece, escape, is_backslash, denoted, constant, form, form_of, class_of, string_of, lexeme_if, comment_if, word, named, dash, open_sign, angle, equals, alone, is_truth, is_capital, is_in_word, is_digit, value, keywords, key_among, lower, is_whole, comment_size}
use Rattle.cool_syntax.specs.Lexemes as classes
use Rattle.cool_syntax.specs.LexicalStructure.{Item, Leads, tokens_of, token_of, place_at, Lexes}
use Rattle.lists.proofs.AllItems.{all_append}
use Rattle.lists.specs.Bytes.{AreBytes}
use Rattle.lists.proofs.ByteLists.{bytes_left}

-- a token whose string constant is bytes
abbrev pub IsByteKind : TokenKind → Type 0
IsByteKind (kind.Str bytes) = AreBytes bytes
IsByteKind (kind.TypeId name) = Unit {0}
IsByteKind (kind.ObjectId name) = Unit {0}
IsByteKind (kind.Int n) = Unit {0}
IsByteKind (kind.Key k) = Unit {0}
IsByteKind (kind.Sign s) = Unit {0}

abbrev pub AreByteTokens : List Token → Type 0
AreByteTokens = AllByRecursion (λ (t : Token). IsByteKind t.kind)

-- a form, if it is a lexeme
abbrev IsByteForm : Option Form → Type 0
IsByteForm None = Unit {0}
IsByteForm (Some (Lexeme k)) = IsByteKind k
IsByteForm (Some Space) = Unit {0}
IsByteForm (Some Comment) = Unit {0}

abbrev IsBytes : Option (List ℕ) → Type 0
IsBytes None = Unit {0}
IsBytes (Some bytes) = AreBytes bytes

-- Strings

abbrev IsBytePiece : Piece → Type 0
IsBytePiece (Means byte) = byte < 256
IsBytePiece Ends = Unit {0}
IsBytePiece Newline = Unit {0}
IsBytePiece Null = Unit {0}
IsBytePiece Backslash = Unit {0}

if_piece : (t : Bool) (x y : Piece) → IsBytePiece x → IsBytePiece y → IsBytePiece (if t then x else y)
if_piece true x y h k = h
if_piece false x y h k = k

if_small : (t : Bool) (x y : ℕ) → x < 256 → y < 256 → (if t then x else y) < 256
if_small true x y h k = h
if_small false x y h k = k

escape_small : (c : ℕ) → c < 256 → escape c < 256
escape_small c h =
    if_small (c == 98) 8 _ (omega arith) (if_small (c == 116) 9 _ (omega arith) (if_small (c == 110) 10 _ (omega arith) (if_small (c == 102) 12 c (omega arith) h)))

piece_small : (escaped : Bool) (b : ℕ) → b < 256 → IsBytePiece (piece escaped b)
piece_small true b h = if_piece (b == 0) Null (Means (escape b)) tt (escape_small b h)
piece_small false b h = if_piece (b == 34) Ends _ tt (if_piece (b == 10) Newline _ tt (if_piece (b == 0) Null _ tt (if_piece (b == 92) Backslash (Means b) tt h)))

more_bytes : (c : ℕ) (o : Option (List ℕ)) → c < 256 → IsBytes o → IsBytes (option_map (λ cs. c ∷ cs) o)
more_bytes c None h k = tt
more_bytes c (Some cs) h k = (h, k)

denoted_small : (x : Piece) (bs : List ℕ) (rest : Option (List ℕ)) → IsBytePiece x → IsBytes rest → IsBytes (denoted x bs rest)
denoted_small Ends [] rest h k = tt
denoted_small Ends (b ∷ bs) rest h k = tt
denoted_small (Means c) bs rest h k = more_bytes c rest h k
denoted_small Backslash bs rest h k = k
denoted_small Newline bs rest h k = tt
denoted_small Null bs rest h k = tt

constant_small : (escaped : Bool) (bs : List ℕ) → AreBytes bs → IsBytes (constant escaped bs)
constant_small escaped [] h = tt
constant_small escaped (b ∷ bs) h = denoted_small (piece escaped b) bs _ (piece_small escaped b h.0) (constant_small (is_backslash (piece escaped b)) bs h.1)

-- Forms

string_small : (o : Option (List ℕ)) → IsBytes o → IsByteForm (string_of o)
string_small None h = tt
string_small (Some bytes) h = h

lexeme_small : (t : Bool) (k : TokenKind) → IsByteKind k → IsByteForm (lexeme_if t k)
lexeme_small true k h = h
lexeme_small false k h = tt

comment_small : (t : Bool) → IsByteForm (comment_if t)
comment_small true = tt
comment_small false = tt

alone_small : (f : Form) (bs : List ℕ) → IsByteForm (Some f) → IsByteForm (alone f bs)
alone_small f [] h = h
alone_small f (b ∷ bs) h = tt

if_kind : (t : Bool) (x y : TokenKind) → IsByteKind x → IsByteKind y → IsByteKind (if t then x else y)
if_kind true x y h k = h
if_kind false x y h k = k

named_small : (t : Bool) (text : List ℕ) (o : Option Key) → IsByteKind (named t text o)
named_small t text (Some k) = if_kind (t && is_truth k) (kind.TypeId text) (kind.Key k) tt tt
named_small t text None = if_kind t (kind.TypeId text) (kind.ObjectId text) tt tt

dash_small : (bs : List ℕ) → IsByteForm (dash bs)
dash_small [] = tt
dash_small (b ∷ bs) = comment_small (b == 45 && list_all (λ c. not (c == 10)) bs)

open_small : (bs : List ℕ) → IsByteForm (open_sign bs)
open_small [] = tt
open_small (b ∷ bs) = comment_small (b == 42 && is_whole (comment_size 1 0 bs) bs)

if_form : (t : Bool) (x y : Option Form) → IsByteForm x → IsByteForm y → IsByteForm (if t then x else y)
if_form true x y h k = h
if_form false x y h k = k

angle_small : (bs : List ℕ) → IsByteForm (angle bs)
angle_small [] = tt
angle_small (b ∷ []) = if_form (b == 61) (Some (Lexeme (kind.Sign sign.LessEqual))) (lexeme_if (b == 45) (kind.Sign sign.Arrow)) tt (lexeme_small (b == 45) (kind.Sign sign.Arrow) tt)
angle_small (b ∷ c ∷ bs) = tt

equals_small : (bs : List ℕ) → IsByteForm (equals bs)
equals_small [] = tt
equals_small (b ∷ []) = lexeme_small (b == 62) (kind.Sign sign.FatArrow) tt
equals_small (b ∷ c ∷ bs) = tt

form_of_small : (c : classes.Class) (b : ℕ) (bs : List ℕ) → AreBytes bs → IsByteForm (form_of c b bs)
form_of_small classes.Capital b bs h = lexeme_small (list_all is_in_word bs) (word b bs) (named_small (is_capital b) (b ∷ bs) (key_among keywords (map lower (b ∷ bs))))
form_of_small classes.Small b bs h = lexeme_small (list_all is_in_word bs) (word b bs) (named_small (is_capital b) (b ∷ bs) (key_among keywords (map lower (b ∷ bs))))
form_of_small classes.Digit b bs h = lexeme_small (list_all is_digit bs) (kind.Int (value (b ∷ bs))) tt
form_of_small classes.Quote b bs h = string_small (constant false bs) (constant_small false bs h)
form_of_small classes.White b bs h = alone_small Space bs tt
form_of_small classes.Dash b bs h = dash_small bs
form_of_small classes.Star b bs h = alone_small (Lexeme (kind.Sign sign.Star)) bs tt
form_of_small classes.Open b bs h = open_small bs
form_of_small classes.Angle b bs h = angle_small bs
form_of_small classes.Equals b bs h = equals_small bs
form_of_small (classes.Single s) b bs h = alone_small (Lexeme (kind.Sign s)) bs tt
form_of_small classes.Stray b bs h = tt

form_small : (bytes : List ℕ) → AreBytes bytes → IsByteForm (form bytes)
form_small [] h = tt
form_small (b ∷ bs) h = form_of_small (class_of b) b bs h.1

-- Texts

taken_bytes : (n : ℕ) (bytes : List ℕ) → AreBytes bytes → AreBytes (take n bytes)
taken_bytes zero bytes h = tt
taken_bytes (suc n) [] h = tt
taken_bytes (suc n) (b ∷ bytes) h = (h.0, taken_bytes n bytes h.1)

token_small : (f : Form) (at : Place) → IsByteForm (Some f) → AreByteTokens (token_of f at)
token_small (Lexeme k) at h = (h, tt)
token_small Space at h = tt
token_small Comment at h = tt

tokens_small : (file : ℕ) (bytes : List ℕ) (at : ℕ) (rest : List ℕ) (items : List Item) (to : ℕ) (left : List ℕ) → AreBytes rest → Leads at rest items to left → AreByteTokens (tokens_of file bytes items)
tokens_small file bytes at rest [] to left h leads = tt
tokens_small file bytes at rest (i ∷ is) to left h leads =
    all_append (λ (t : Token). IsByteKind t.kind) (token_of i.form (place_at file bytes i.offset)) (tokens_of file bytes is)
    (token_small i.form (place_at file bytes i.offset) (subst IsByteForm leads.1.is_form (form_small (take i.size rest) (taken_bytes i.size rest h))))
    (tokens_small file bytes (at + i.size) (drop i.size rest) is to left (bytes_left i.size rest h) leads.2)

-- the strings of tokens that are lexed from bytes are bytes
pub lexed_bytes : (file : ℕ) (bytes : List ℕ) (tokens : List Token) → AreBytes bytes → Lexes file bytes tokens → AreByteTokens tokens
lexed_bytes file bytes tokens h l = subst AreByteTokens (sym l.lexemes) (tokens_small file bytes 0 bytes l.items (length bytes) [] h l.leads)
