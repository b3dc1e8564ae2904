-- The tokens of a text weigh no more than the text has bytes, because no lexeme weighs more than its own bytes. Weights are the measure that bounds the size of
-- syntax trees.
use Rattle.std.proofs.Common.{subst, arith, ℕ, suc, ◌+◌, ◌≤◌, Bool, true, false, List, [], ◌∷◌, ◌++◌, length, take, drop}
use Rattle.std.specs.Prelude.{Option, Some, None, ◌==◌, ◌&&◌, option_map, not, if◌then◌else◌}
use Rattle.std.specs.List.{list_all}
use Rattle.std.proofs.lemmas.List.{length-take-le}
use Rattle.cool_syntax.specs.declared.place.Place.{Place}
use Rattle.cool_syntax.specs.declared.token.Token.{Token}
use Rattle.cool_syntax.specs.declared.token.Key.{Key}
use Rattle.cool_syntax.specs.declared.token.TokenKind.{TokenKind}
use Rattle.cool_syntax.specs.declared.token.TokenKind.TheVariants as kind
use Rattle.cool_syntax.specs.declared.token.Sign.TheVariants as sign
use Rattle.cool_syntax.specs.Lexemes.{Form, Space, Comment, Lexeme, Class, Capital, Small, Digit, Quote, White, Dash, Star, Open, Angle, Equals, Single, Stray, class_of, is_in_word, is_digit, is_truth, is_whole, comment_size, named, word, value, Piece, Ends, Newline, Null, Backslash, Means, piece, is_backslash, denoted, constant, lexeme_if, comment_if, string_of, dash, open_sign, angle, equals, alone, form_of, form}
use Rattle.cool_syntax.specs.LexicalStructure.{IsItem, Item, Leads, token_of, tokens_of, place_at}
use Rattle.cool_syntax.specs.TokenFacts.{weight, weights}

-- a lexeme of this form weighs no more than so many bytes
abbrev Weighs : Option Form → ℕ → Type 0
Weighs (Some (Lexeme k)) n = weight k ≤ n
Weighs (Some Space) n = Unit {0}
Weighs (Some Comment) n = Unit {0}
Weighs None n = Unit {0}

-- a word that is a keyword, or the identifier of its text
truth_or_key : (both : Bool) (text : List ℕ) (k : Key) → 1 ≤ length text → weight (if both then kind.TypeId text else kind.Key k) ≤ length text
truth_or_key true text k h = omega arith
truth_or_key false text k h = h

-- a word weighs no more than its bytes
named_weighs : (capital : Bool) (text : List ℕ) (o : Option Key) → 1 ≤ length text → weight (named capital text o) ≤ length text
named_weighs capital text (Some k) h = truth_or_key (capital && is_truth k) text k h
named_weighs true text None h = omega arith
named_weighs false text None h = h

-- a lexeme under a test
if_weighs : (holds : Bool) (k : TokenKind) (n : ℕ) → weight k ≤ n → Weighs (lexeme_if holds k) n
if_weighs true k n h = h
if_weighs false k n h = tt

-- a comment is no lexeme
comment_weighs : (holds : Bool) (n : ℕ) → Weighs (comment_if holds) n
comment_weighs true n = tt
comment_weighs false n = tt

-- a constant has so many bytes at most
abbrev HasAtMost : Option (List ℕ) → ℕ → Type 0
HasAtMost None n = Unit {0}
HasAtMost (Some cs) n = length cs ≤ n

-- the constant of a text has no more bytes than the text
no_less : (o : Option (List ℕ)) (n : ℕ) → HasAtMost o n → HasAtMost o (suc n)
no_less None n h = tt
no_less (Some cs) n h = omega (arith, h)

-- a byte more of the constant takes one of the text
one_more : (o : Option (List ℕ)) (c n : ℕ) → HasAtMost o n → HasAtMost (option_map (λ cs. c ∷ cs) o) (suc n)
one_more None c n h = tt
one_more (Some cs) c n h = omega (arith, h)

-- so it is for each piece
denoted_few : (p : Piece) (bs : List ℕ) (rest : Option (List ℕ)) → HasAtMost rest (length bs) → HasAtMost (denoted p bs rest) (suc (length bs))
denoted_few Ends [] rest h = omega arith
denoted_few Ends (b ∷ bs) rest h = tt
denoted_few Newline bs rest h = tt
denoted_few Null bs rest h = tt
denoted_few Backslash bs rest h = no_less rest (length bs) h
denoted_few (Means c) bs rest h = one_more rest c (length bs) h

-- a constant has no more bytes than the text after its opening quote
constant_few : (e : Bool) (bs : List ℕ) → HasAtMost (constant e bs) (length bs)
constant_few e [] = tt
constant_few e (b ∷ bs) = denoted_few (piece e b) bs (constant (is_backslash (piece e b)) bs) (constant_few (is_backslash (piece e b)) bs)

-- a string weighs no more than its bytes
string_weighs : (o : Option (List ℕ)) (n : ℕ) → HasAtMost o n → Weighs (string_of o) (suc n)
string_weighs None n h = tt
string_weighs (Some cs) n h = omega (arith, h)

-- `-`, and a comment
dash_weighs : (bs : List ℕ) → Weighs (dash bs) (suc (length bs))
dash_weighs [] = omega arith
dash_weighs (b ∷ bs) = comment_weighs (b == 45 && list_all (λ c. not (c == 10)) bs) _

-- `(`, and a comment
open_weighs : (bs : List ℕ) → Weighs (open_sign bs) (suc (length bs))
open_weighs [] = omega arith
open_weighs (b ∷ bs) = comment_weighs (b == 42 && is_whole (comment_size 1 0 bs) bs) _

-- one of two lexemes
less_or : (is : Bool) (k : TokenKind) (o : Option Form) (n : ℕ) → weight k ≤ n → Weighs o n → Weighs (if is then Some (Lexeme k) else o) n
less_or true k o n h g = h
less_or false k o n h g = g

-- `<`, `<=` and `<-`
angle_weighs : (bs : List ℕ) → Weighs (angle bs) (suc (length bs))
angle_weighs [] = omega arith
angle_weighs (b ∷ []) = less_or (b == 61) (kind.Sign sign.LessEqual) _ _ (omega arith) (if_weighs (b == 45) (kind.Sign sign.Arrow) _ (omega arith))
angle_weighs (b ∷ c ∷ bs) = tt

-- `=` and `=>`
equals_weighs : (bs : List ℕ) → Weighs (equals bs) (suc (length bs))
equals_weighs [] = omega arith
equals_weighs (b ∷ []) = if_weighs (b == 62) (kind.Sign sign.FatArrow) _ (omega arith)
equals_weighs (b ∷ c ∷ bs) = tt

-- a form of one byte
alone_weighs : (f : Form) (bs : List ℕ) → Weighs (Some f) 1 → Weighs (alone f bs) (suc (length bs))
alone_weighs f [] h = h
alone_weighs f (b ∷ bs) h = tt

-- the lexeme of each class weighs no more than its bytes
class_weighs : (c : Class) (b : ℕ) (bs : List ℕ) → Weighs (form_of c b bs) (suc (length bs))
class_weighs Capital b bs = if_weighs (list_all is_in_word bs) (word b bs) _ (named_weighs _ (b ∷ bs) _ (omega arith))
class_weighs Small b bs = if_weighs (list_all is_in_word bs) (word b bs) _ (named_weighs _ (b ∷ bs) _ (omega arith))
class_weighs Digit b bs = if_weighs (list_all is_digit bs) (kind.Int (value (b ∷ bs))) _ (omega arith)
class_weighs Quote b bs = string_weighs (constant false bs) (length bs) (constant_few false bs)
class_weighs White b bs = alone_weighs Space bs tt
class_weighs Dash b bs = dash_weighs bs
class_weighs Star b bs = alone_weighs (Lexeme (kind.Sign sign.Star)) bs (omega arith)
class_weighs Open b bs = open_weighs bs
class_weighs Angle b bs = angle_weighs bs
class_weighs Equals b bs = equals_weighs bs
class_weighs (Single s) b bs = alone_weighs (Lexeme (kind.Sign s)) bs (omega arith)
class_weighs Stray b bs = tt

-- a text that is a lexeme weighs no more than its bytes
form_weighs : (text : List ℕ) → Weighs (form text) (length text)
form_weighs [] = tt
form_weighs (b ∷ bs) = class_weighs (class_of b) b bs

-- the lexeme of an item weighs no more than its size
item_weighs : (rest : List ℕ) (k : TokenKind) (size : ℕ) → IsItem rest (Lexeme k) size → weight k ≤ size
item_weighs rest k size item =
    let h : weight k ≤ length (take size rest) = subst (λ (o : Option Form). Weighs o (length (take size rest))) item.is_form (form_weighs (take size rest)) in
    omega (arith, h, length-take-le size rest item.within)

-- the token of an item in front of others
weights_more : (f : Form) (p : Place) (rest : List ℕ) (size : ℕ) (ts : List Token) → IsItem rest f size → weights (token_of f p ++ ts) ≤ size + weights ts
weights_more Space p rest size ts item = omega arith
weights_more Comment p rest size ts item = omega arith
weights_more (Lexeme k) p rest size ts item = omega (arith, item_weighs rest k size item)

-- the tokens of items weigh no more than the bytes from where they begin to where they lead
pub tokens_weigh : (file : ℕ) (bytes : List ℕ) (at : ℕ) (rest : List ℕ) (items : List Item) (to : ℕ) (left : List ℕ) → Leads at rest items to left → weights (tokens_of file bytes items) + at ≤ to
tokens_weigh file bytes at rest [] to left h = omega arith
tokens_weigh file bytes at rest (i ∷ items) to left h =
    omega (
      arith,
      tokens_weigh file bytes (at + i.size) (drop i.size rest) items to left h.2,
      weights_more i.form (place_at file bytes i.offset) rest i.size (tokens_of file bytes items) h.1,
    )
