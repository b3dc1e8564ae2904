-- The names of methods, attributes and variables of a parsed program contain only characters that may stand in names of assembly.
use Rattle.std.proofs.Common.{◌≡◌, ℕ, List, [], ◌∷◌, Option, Some, None, Bool, true, false, ◌&&◌, ◌==◌, refl, sym, ◌∙◌, subst, true≢false}
use Rattle.std.specs.Prelude.{if◌then◌else◌, not, map}
use Rattle.std.specs.List.{list_all}
use Rattle.mips_text.specs.Letters.{name_rest}
use Rattle.cool_syntax.specs.declared.token.Key.{Key}
use Rattle.cool_syntax.specs.declared.token.Sign.TheVariants as sign
use Rattle.cool_syntax.specs.declared.token.TokenKind.{TokenKind}
use Rattle.cool_syntax.specs.declared.token.TokenKind.TheVariants as kind
use Rattle.cool_syntax.specs.Lexemes.{Form, Lexeme, Space, Comment, constant, form_of, class_of, string_of, lexeme_if, comment_if, word, named, dash, open_sign, angle, equals, alone, is_truth, is_capital, is_small, is_in_word, is_digit, is_white, value, keywords, key_among, lower, is_whole, comment_size}
use Rattle.cool_syntax.specs.Lexemes as classes
use Rattle.cool_syntax.specs.TreesWithinLimits.{IsObjectName}
use Rattle.cool_simulation.proofs.theorem.NamesOfLabels.{AreInName, in_word_in_name, word_in_name}
use Rattle.std.proofs.lemmas.Bool.{and_from}

-- a lexeme that, if it is the name of a feature or a variable, contains only bytes of names; and a form that is such a lexeme, if it is one

abbrev IsGoodKind : TokenKind → Type 0
IsGoodKind (kind.ObjectId name) = AreInName name
IsGoodKind (kind.Str bytes) = Unit {0}
IsGoodKind (kind.TypeId name) = Unit {0}
IsGoodKind (kind.Int n) = Unit {0}
IsGoodKind (kind.Key k) = Unit {0}
IsGoodKind (kind.Sign s) = Unit {0}

abbrev IsGood : Option Form → Type 0
IsGood None = Unit {0}
IsGood (Some (Lexeme k)) = IsGoodKind k
IsGood (Some Space) = Unit {0}
IsGood (Some Comment) = Unit {0}

-- Parts of forms

if_form : (t : Bool) (x y : Option Form) → IsGood x → IsGood y → IsGood (if t then x else y)
if_form true x y h k = h
if_form false x y h k = k

if_kind : (t : Bool) (x y : TokenKind) → IsGoodKind x → IsGoodKind y → IsGoodKind (if t then x else y)
if_kind true x y h k = h
if_kind false x y h k = k

good_lexeme : (t : Bool) (k : TokenKind) → IsGoodKind k → IsGood (lexeme_if t k)
good_lexeme t k h = if_form t (Some (Lexeme k)) None h tt

good_comment : (t : Bool) → IsGood (comment_if t)
good_comment t = if_form t (Some Comment) None tt tt

good_string : (o : Option (List ℕ)) → IsGood (string_of o)
good_string None = tt
good_string (Some bytes) = tt

good_alone : (f : Form) (bs : List ℕ) → IsGood (Some f) → IsGood (alone f bs)
good_alone f [] h = h
good_alone f (b ∷ bs) h = tt

good_named : (t : Bool) (text : List ℕ) (o : Option Key) → AreInName text → IsGoodKind (named t text o)
good_named t text (Some k) h = if_kind (t && is_truth k) (kind.TypeId text) (kind.Key k) tt tt
good_named t text None h = if_kind t (kind.TypeId text) (kind.ObjectId text) tt h

good_dash : (bs : List ℕ) → IsGood (dash bs)
good_dash [] = tt
good_dash (b ∷ bs) = good_comment (b == 45 && list_all (λ c. not (c == 10)) bs)

good_open : (bs : List ℕ) → IsGood (open_sign bs)
good_open [] = tt
good_open (b ∷ bs) = good_comment (b == 42 && is_whole (comment_size 1 0 bs) bs)

good_angle : (bs : List ℕ) → IsGood (angle bs)
good_angle [] = tt
good_angle (b ∷ []) = if_form (b == 61) (Some (Lexeme (kind.Sign sign.LessEqual))) (lexeme_if (b == 45) (kind.Sign sign.Arrow)) tt (good_lexeme (b == 45) (kind.Sign sign.Arrow) tt)
good_angle (b ∷ c ∷ bs) = tt

good_equals : (bs : List ℕ) → IsGood (equals bs)
good_equals [] = tt
good_equals (b ∷ []) = good_lexeme (b == 62) (kind.Sign sign.FatArrow) tt
good_equals (b ∷ c ∷ bs) = tt

-- a word that begins with a byte of names
good_word : (b : ℕ) (bs : List ℕ) → name_rest b ≡ true → IsGood (lexeme_if (list_all is_in_word bs) (word b bs))
good_word b bs h = by (list_all is_in_word bs) refl
  where
    by : (t : Bool) → list_all is_in_word bs ≡ t → IsGood (lexeme_if t (word b bs))
    by true e = good_named (is_capital b) (b ∷ bs) (key_among keywords (map lower (b ∷ bs))) (and_from (name_rest b) (list_all name_rest bs) h (word_in_name bs e))
    by false e = tt

-- Classes of first bytes

abbrev is_letter : classes.Class → Bool
is_letter classes.Capital = true
is_letter classes.Small = true
is_letter classes.Digit = false
is_letter classes.Quote = false
is_letter classes.White = false
is_letter classes.Dash = false
is_letter classes.Star = false
is_letter classes.Open = false
is_letter classes.Angle = false
is_letter classes.Equals = false
is_letter (classes.Single s) = false
is_letter classes.Stray = false

no_letter : (t : Bool) (x y : classes.Class) → is_letter x ≡ false → is_letter y ≡ false → is_letter (if t then x else y) ≡ false
no_letter true x y h k = h
no_letter false x y h k = k

-- a byte that is classed as a letter may stand in a name
letter_in_name : (b : ℕ) → is_letter (class_of b) ≡ true → name_rest b ≡ true
letter_in_name b h = by (is_capital b) refl (is_small b) refl
  where
    other : is_capital b ≡ false → is_small b ≡ false → is_letter (class_of b) ≡ false
    other c s =
        rw (c, s) (no_letter (is_digit b) classes.Digit _ refl (no_letter (is_white b) classes.White _ refl (no_letter (b == 34) classes.Quote _ refl (no_letter (b == 45) classes.Dash _ refl
        (no_letter (b == 42) classes.Star _ refl (no_letter (b == 40) classes.Open _ refl (no_letter (b == 60) classes.Angle _ refl (no_letter (b == 61) classes.Equals _ refl
        (no_letter (b == 123) (classes.Single sign.LBrace) _ refl (no_letter (b == 125) (classes.Single sign.RBrace) _ refl (no_letter (b == 41) (classes.Single sign.RParen) _ refl
        (no_letter (b == 58) (classes.Single sign.Colon) _ refl (no_letter (b == 59) (classes.Single sign.Semi) _ refl (no_letter (b == 44) (classes.Single sign.Comma) _ refl
        (no_letter (b == 46) (classes.Single sign.Dot) _ refl (no_letter (b == 64) (classes.Single sign.At) _ refl (no_letter (b == 126) (classes.Single sign.Tilde) _ refl
        (no_letter (b == 47) (classes.Single sign.Slash) _ refl (no_letter (b == 43) (classes.Single sign.Plus) classes.Stray refl refl)))))))))))))))))))

    by : (c : Bool) → is_capital b ≡ c → (s : Bool) → is_small b ≡ s → name_rest b ≡ true
    by true e s k = in_word_in_name b (rw e refl)
    by false e true k = in_word_in_name b (rw (e, k) refl)
    by false e false k = absurd (true≢false (sym h ∙ other e k))

-- Forms

good_form : (c : classes.Class) (b : ℕ) (bs : List ℕ) → (is_letter c ≡ true → name_rest b ≡ true) → IsGood (form_of c b bs)
good_form classes.Capital b bs h = good_word b bs (h refl)
good_form classes.Small b bs h = good_word b bs (h refl)
good_form classes.Digit b bs h = good_lexeme (list_all is_digit bs) (kind.Int (value (b ∷ bs))) tt
good_form classes.Quote b bs h = good_string (constant false bs)
good_form classes.White b bs h = good_alone Space bs tt
good_form classes.Dash b bs h = good_dash bs
good_form classes.Star b bs h = good_alone (Lexeme (kind.Sign sign.Star)) bs tt
good_form classes.Open b bs h = good_open bs
good_form classes.Angle b bs h = good_angle bs
good_form classes.Equals b bs h = good_equals bs
good_form (classes.Single s) b bs h = good_alone (Lexeme (kind.Sign s)) bs tt
good_form classes.Stray b bs h = tt

-- the name of a feature contains only bytes of names
pub object_in_name : (name : List ℕ) → IsObjectName name → AreInName name
object_in_name [] h = refl
object_in_name (b ∷ bs) h = subst IsGood h (good_form (class_of b) b bs (letter_in_name b))
