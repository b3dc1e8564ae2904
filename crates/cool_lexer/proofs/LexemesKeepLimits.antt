-- Each token of a text is a valid lexeme within the limits on integers and strings, and the tokens' source locations increase.
use Rattle.std.proofs.Common.{◌≡◌, ◌∙◌, ap, refl, subst, arith, ℕ, ◌+◌, ◌<◌, ◌≤◌, Bool, true, false, List, [], ◌∷◌, ◌++◌, length, take, drop, length-append}
use Rattle.std.specs.Prelude.{Option, Some, None, ◌==◌, ◌&&◌, nat_lt, if◌then◌else◌}
use Rattle.std.specs.List.{count_by, prefix_len, AllByRecursion}
use Rattle.std.proofs.lemmas.List.{length-take}
use Rattle.std.proofs.lemmas.List.Sums.{count_by-le-length}
use Rattle.std.proofs.lemmas.Bool.Decides.{nat_tests}
use Rattle.cool_syntax.specs.declared.TheConstants.{MOST_BYTES, MOST_SOURCE_BYTES}
use Rattle.cool_syntax.specs.declared.token.Token.{Token}
use Rattle.cool_syntax.specs.declared.token.Key.{Key}
use Rattle.cool_syntax.specs.declared.token.TokenKind.{TokenKind}
use Rattle.cool_syntax.specs.declared.token.TokenKind.TheVariants as kind
use Rattle.cool_syntax.specs.declared.lexical.LexKind.TheVariants.{L4}
use Rattle.cool_syntax.specs.Lexemes.{Form, Space, Comment, Lexeme, Class, Capital, Small, Digit, Quote, White, Dash, Star, Open, Angle, Equals, Single, Stray, class_of, is_in_word, is_truth, named, word, value, is_digit, comment_size, Piece, Ends, Newline, Null, Backslash, Means, piece, escape, is_backslash, form_of, form}
use Rattle.cool_syntax.specs.LexicalStructure.{IsItem, Item, Leads, token_of, tokens_of, place_at}
use Rattle.cool_syntax.specs.TokenFacts.{IsWithinLimits, AreWithinLimits, AreRising}
use Rattle.cool_lexer.specs.declared.front.Front.{Front}
use Rattle.cool_lexer.specs.declared.front.Front.TheVariants as front
use Rattle.cool_lexer.specs.declared.front.Scan.TheVariants as scan
use Rattle.cool_lexer.specs.Fronts.{Begins, piece_front, held_after, string_front, angle_front, equals_front, star_front, dash_front, block_front, open_front, integer_front, front_of}
use Rattle.cool_lexer.specs.Readings.{is_newline}
use Rattle.cool_lexer.proofs.Prefixes.{front_passes}
use Rattle.cool_lexer.proofs.Items.{begins, one_form, item_size}

-- a front keeps the limits
abbrev Keeps : Front → Type 0
Keeps (front.Item (scan.Lexeme k) n) = IsWithinLimits k
Keeps (front.Item scan.Space n) = Unit {0}
Keeps (front.Item scan.Comment n) = Unit {0}
Keeps (front.Fault k n) = Unit {0}

-- Words

-- a keyword, or True and False as identifiers
truth_or_key : (both : Bool) (text : List ℕ) (k : Key) → form text ≡ Some (Lexeme (if both then kind.TypeId text else kind.Key k)) → IsWithinLimits (if both then kind.TypeId text else kind.Key k)
truth_or_key true text k h = h
truth_or_key false text k h = tt

-- a word
named_keeps : (capital : Bool) (text : List ℕ) (o : Option Key) → form text ≡ Some (Lexeme (named capital text o)) → IsWithinLimits (named capital text o)
named_keeps capital text (Some k) h = truth_or_key (capital && is_truth k) text k h
named_keeps true text None h = h
named_keeps false text None h = h

-- Integers

-- an integer, by whether it is above the limit
limit_keeps : (over : Bool) (n k : ℕ) → nat_lt 2147483647 n ≡ over → Keeps (integer_front (if over then None else Some n) k)
limit_keeps true n k h = tt
limit_keeps false n k h = grind (arith, nat_tests)

-- Strings

-- one more byte that is not 0
all_append : (xs : List ℕ) (c : ℕ) → AllByRecursion (λ b. 1 ≤ b) xs → 1 ≤ c → AllByRecursion (λ b. 1 ≤ b) (xs ++ c ∷ [])
all_append [] c h l = (l, tt)
all_append (x ∷ xs) c h l = (h.0, all_append xs c h.1 l)

-- no escape makes a 0 of another byte
escaped_some : (b c d e : Bool) (x : ℕ) → 1 ≤ x → 1 ≤ (if b then 8 else (if c then 9 else (if d then 10 else (if e then 12 else x))))
escaped_some true c d e x h = omega arith
escaped_some false true d e x h = omega arith
escaped_some false false true e x h = omega arith
escaped_some false false false true x h = omega arith
escaped_some false false false false x h = h

-- after a backslash a byte that is not null means one that is not 0
null_or : (null : Bool) (b x c : ℕ) → (b == 0) ≡ null → (1 ≤ b → 1 ≤ x) → (if null then Null else Means x) ≡ Means c → 1 ≤ c
null_or true b x c h some is = absurd (cc)
null_or false b x c h some is = let same : x ≡ c = cc in let there : 1 ≤ b = grind (arith, nat_tests) in omega (arith, some there)

-- so does a byte with no backslash before it
plain_or : (quote newline null slash : Bool) (b c : ℕ) → (b == 0) ≡ null → (if quote then Ends else (if newline then Newline else (if null then Null else (if slash then Backslash else Means b)))) ≡ Means c → 1 ≤ c
plain_or true newline null slash b c h is = absurd (cc)
plain_or false true null slash b c h is = absurd (cc)
plain_or false false true slash b c h is = absurd (cc)
plain_or false false false true b c h is = absurd (cc)
plain_or false false false false b c h is = let same : b ≡ c = cc in grind (arith, nat_tests)

-- no byte of a constant is 0
never_null : (e : Bool) (b c : ℕ) → piece e b ≡ Means c → 1 ≤ c
never_null true b c h = null_or (b == 0) b (escape b) c refl (λ l. escaped_some (b == 98) (b == 116) (b == 110) (b == 102) b l) h
never_null false b c h = plain_or (b == 34) (b == 10) (b == 0) (b == 92) b c refl h

-- the constant so far keeps the limits
abbrev Held : List ℕ → Type 0
Held held = (length held ≤ MOST_BYTES) × AllByRecursion (λ b. 1 ≤ b) held

-- one byte more keeps them, or is one too many
full_keeps : (full : Bool) (held : List ℕ) (c : ℕ) (rest : Front) → (length held == MOST_BYTES) ≡ full → Held held → 1 ≤ c → (Held (held ++ c ∷ []) → Keeps rest) → Keeps (if full then front.Fault L4 0 else rest)
full_keeps true held c rest h keeps l rec = tt
full_keeps false held c rest h keeps l rec =
    let less : length held < MOST_BYTES = grind (arith, nat_tests, keeps.0) in
    rec (omega (arith, length-append held (c ∷ [])), all_append held c keeps.1 l)

-- each piece keeps them
piece_keeps : (p : Piece) (e : Bool) (b o : ℕ) (held : List ℕ) (rest : Front) → piece e b ≡ p → Held held → (Held (held_after p held) → Keeps rest) → Keeps (piece_front p o held rest)
piece_keeps Ends e b o held rest h keeps rec = keeps
piece_keeps Newline e b o held rest h keeps rec = tt
piece_keeps Null e b o held rest h keeps rec = tt
piece_keeps Backslash e b o held rest h keeps rec = rec keeps
piece_keeps (Means c) e b o held rest h keeps rec = full_keeps (length held == MOST_BYTES) held c rest refl keeps (never_null e b c h) rec

-- a string keeps its limits
string_keeps : (e : Bool) (o : ℕ) (held bs : List ℕ) → Held held → Keeps (string_front e o held bs)
string_keeps e o held [] h = tt
string_keeps e o held (b ∷ bs) h =
    piece_keeps (piece e b) e b o held (string_front (is_backslash (piece e b)) (o + 1) (held_after (piece e b) held) bs) refl h
    (λ k. string_keeps (is_backslash (piece e b)) (o + 1) (held_after (piece e b) held) bs k)

-- Signs and comments

-- a choice of two fronts that keep the limits
either : (test : Bool) (x y : Front) → Keeps x → Keeps y → Keeps (if test then x else y)
either true x y h k = h
either false x y h k = k

-- the item that `<` begins
angle_keeps : (bs : List ℕ) → Keeps (angle_front bs)
angle_keeps [] = tt
angle_keeps (b ∷ bs) = either (b == 61) _ _ tt (either (b == 45) _ _ tt tt)

-- the item that `=` begins
equals_keeps : (bs : List ℕ) → Keeps (equals_front bs)
equals_keeps [] = tt
equals_keeps (b ∷ bs) = either (b == 62) _ _ tt tt

-- the item that `*` begins
star_keeps : (bs : List ℕ) → Keeps (star_front bs)
star_keeps [] = tt
star_keeps (b ∷ bs) = either (b == 41) _ _ tt tt

-- the item that `-` begins
dash_keeps : (bs : List ℕ) → Keeps (dash_front bs)
dash_keeps [] = tt
dash_keeps (b ∷ bs) = either (b == 45) _ _ tt tt

-- the item that `(*` begins
block_keeps : (o : Option ℕ) → Keeps (block_front o)
block_keeps None = tt
block_keeps (Some n) = tt

-- the item that `(` begins
open_keeps : (bs : List ℕ) → Keeps (open_front bs)
open_keeps [] = tt
open_keeps (b ∷ bs) = either (b == 42) _ _ (block_keeps (comment_size 1 0 bs)) tt

-- All classes

-- the form of a text by the class of its first byte
word_form : (c : Class) (b : ℕ) (bs : List ℕ) (f : Form) → class_of b ≡ c → form_of c b bs ≡ Some f → form (b ∷ bs) ≡ Some f
word_form c b bs f h k = ap (λ d. form_of d b bs) h ∙ k

-- the front of each class keeps the limits
class_keeps : (c : Class) (b : ℕ) (bs : List ℕ) → class_of b ≡ c → Keeps (front_of c b bs)
class_keeps Capital b bs h =
    let text : List ℕ = take (prefix_len is_in_word bs) bs in
    let is : form_of Capital b text ≡ Some (Lexeme (word b text)) = rw (front_passes is_in_word bs) refl in
    named_keeps _ (b ∷ text) _ (word_form Capital b text _ h is)
class_keeps Small b bs h =
    let text : List ℕ = take (prefix_len is_in_word bs) bs in
    let is : form_of Small b text ≡ Some (Lexeme (word b text)) = rw (front_passes is_in_word bs) refl in
    named_keeps _ (b ∷ text) _ (word_form Small b text _ h is)
class_keeps Digit b bs h = limit_keeps _ (value (b ∷ take (prefix_len is_digit bs) bs)) _ refl
class_keeps Quote b bs h = string_keeps false 1 [] bs (omega arith, tt)
class_keeps White b bs h = tt
class_keeps Dash b bs h = dash_keeps bs
class_keeps Star b bs h = star_keeps bs
class_keeps Open b bs h = open_keeps bs
class_keeps Angle b bs h = angle_keeps bs
class_keeps Equals b bs h = equals_keeps bs
class_keeps (Single s) b bs h = tt
class_keeps Stray b bs h = tt

-- the lexeme that a text begins with is that of its front
same_keeps : (s : Front) (rest : List ℕ) (k : TokenKind) (size : ℕ) → Begins rest s → Keeps s → IsItem rest (Lexeme k) size → IsWithinLimits k
same_keeps (front.Fault j n) rest k size begin keeps item = absurd (let good = item.good in let bad = begin.0 in cc)
same_keeps (front.Item scan.Space n) rest k size begin keeps item = absurd (let same = one_form rest Space (Lexeme k) (n + 1) size begin item in cc)
same_keeps (front.Item scan.Comment n) rest k size begin keeps item = absurd (let same = one_form rest Comment (Lexeme k) (n + 1) size begin item in cc)
same_keeps (front.Item (scan.Lexeme j) n) rest k size begin keeps item =
    let same : Lexeme j ≡ Lexeme k = one_form rest (Lexeme j) (Lexeme k) (n + 1) size begin item in
    let kinds : j ≡ k = cc in
    subst IsWithinLimits kinds keeps

-- a lexeme of a text keeps its limits
pub lexeme_keeps : (rest : List ℕ) (k : TokenKind) (size : ℕ) → IsItem rest (Lexeme k) size → IsWithinLimits k
lexeme_keeps [] k size item = absurd (omega (arith, item.within, item_size [] (Lexeme k) size item))
lexeme_keeps (b ∷ bs) k size item = same_keeps (front_of (class_of b) b bs) (b ∷ bs) k size (begins b bs) (class_keeps (class_of b) b bs refl) item

-- Whole texts

-- no line of a text is past the limit by more than one
line_within : (bytes : List ℕ) (at : ℕ) → length bytes ≤ MOST_SOURCE_BYTES → 1 + count_by is_newline (take at bytes) ≤ MOST_SOURCE_BYTES + 1
line_within bytes at h = omega (arith, h, count_by-le-length is_newline (take at bytes), length-take at bytes)

-- one more item keeps the limits
limits_more : (files file : ℕ) (bytes : List ℕ) (f : Form) (at size : ℕ) (rest : List ℕ) (ts : List Token) → file < files → length bytes ≤ MOST_SOURCE_BYTES → IsItem rest f size → AreWithinLimits files ts
    → AreWithinLimits files (token_of f (place_at file bytes at) ++ ts)
limits_more files file bytes Space at size rest ts m l item h = h
limits_more files file bytes Comment at size rest ts m l item h = h
limits_more files file bytes (Lexeme k) at size rest ts m l item h = (((m, line_within bytes at l), lexeme_keeps rest k size item), h)

-- the tokens of items keep their limits
pub limits : (files file : ℕ) (bytes : List ℕ) (at : ℕ) (rest : List ℕ) (items : List Item) (to : ℕ) (left : List ℕ) → file < files → length bytes ≤ MOST_SOURCE_BYTES → Leads at rest items to left
    → AreWithinLimits files (tokens_of file bytes items)
limits files file bytes at rest [] to left m l h = tt
limits files file bytes at rest (i ∷ items) to left m l h =
    limits_more files file bytes i.form i.offset i.size rest (tokens_of file bytes items) m l h.1 (limits files file bytes (at + i.size) (drop i.size rest) items to left m l h.2)

-- one more item stands before those after it
rising_more : (file : ℕ) (bytes : List ℕ) (f : Form) (low at size : ℕ) (rest : List ℕ) (ts : List Token) → low ≤ at → 1 ≤ size → ((next : ℕ) → next ≤ at + size → AreRising file next ts)
    → AreRising file low (token_of f (place_at file bytes at) ++ ts)
rising_more file bytes Space low at size rest ts l s h = h low (omega arith)
rising_more file bytes Comment low at size rest ts l s h = h low (omega arith)
rising_more file bytes (Lexeme k) low at size rest ts l s h = (refl, l, h (at + 1) (omega arith))

-- the tokens of items stand in rising places
pub rising : (file : ℕ) (bytes : List ℕ) (low at : ℕ) (rest : List ℕ) (items : List Item) (to : ℕ) (left : List ℕ) → low ≤ at → Leads at rest items to left → AreRising file low (tokens_of file bytes items)
rising file bytes low at rest [] to left l h = tt
rising file bytes low at rest (i ∷ items) to left l h =
    rising_more file bytes i.form low i.offset i.size rest (tokens_of file bytes items) (omega (arith, h.0)) (item_size rest i.form i.size h.1)
    (λ next k. rising file bytes next (at + i.size) (drop i.size rest) items to left (omega (arith, h.0)) h.2)
