-- Labels made of class names, numbers and the text between them are valid names of assembly.
use Rattle.std.proofs.Common.{◌≡◌, ℕ, zero, suc, ◌+◌, ◌/◌, ◌%◌, ◌<◌, List, [], ◌∷◌, ◌++◌, Bool, true, false, ◌||◌, ◌==◌, refl, sym, ap, ◌∙◌, subst, arith, true≢false, decimal}
use Rattle.std.specs.Prelude.{if◌then◌else◌, nat_lt, codes}
use Rattle.std.specs.Char.{is_ascii_digit}
use Rattle.std.specs.Fmt.{digits, digits_onto, digit_glyph}
use Rattle.std.specs.List.{list_all}
use Rattle.std.proofs.lemmas.List.Folds.{list_all-append}
use Rattle.mips_text.specs.Letters.{name_start, name_rest}
use Rattle.mips_text.specs.Printable.{IsName}
use Rattle.cool_syntax.specs.Lexemes.{is_capital, is_small, is_digit, is_in_word}
use Rattle.cool_syntax.specs.TreesWithinLimits.{IsTypeName}
use Rattle.cool_codegen.specs.Labels.{inner}
use Rattle.cool_emit.proofs.NamesOfClasses.{is_word}
use Rattle.std.proofs.lemmas.Bool.{and_from, and_parts}
use Rattle.lists.proofs.TruthValues.{or_true}
use Rattle.lists.proofs.Numbers.{digit_byte}

-- bytes that may stand in a name after its first
abbrev pub AreInName : List ℕ → Type 0
AreInName bytes = list_all name_rest bytes ≡ true

-- two texts of such bytes, one after the other, are of such bytes
pub in_name-append : (xs ys : List ℕ) → AreInName xs → AreInName ys → AreInName (xs ++ ys)
in_name-append xs ys h k = list_all-append name_rest xs ys ∙ and_from (list_all name_rest xs) (list_all name_rest ys) h k

-- a name with such bytes after it is a name
pub name-append : (xs ys : List ℕ) → IsName xs → AreInName ys → IsName (xs ++ ys)
name-append [] ys h k = absurd (true≢false (sym h))
name-append (x ∷ xs) ys h k =
    let each = and_parts (name_start x) (list_all name_rest xs) h in
    and_from (name_start x) (list_all name_rest (xs ++ ys)) each.0 (in_name-append xs ys each.1 k)

-- Words

-- a capital letter begins a name
capital_begins : (b : ℕ) → is_capital b ≡ true → name_start b ≡ true
capital_begins b h = rw h refl

-- a byte of a word may stand in a name
pub in_word_in_name : (b : ℕ) → is_in_word b ≡ true → name_rest b ≡ true
in_word_in_name b h = by (is_capital b) (is_small b) (is_digit b) (b == 95) (b == 46) h
  where
    by : (c s d u e : Bool) → (c || (s || (d || u))) ≡ true → ((c || s || u || e) || d) ≡ true
    by true s d u e h = refl
    by false true d u e h = refl
    by false false true true e h = refl
    by false false true false true h = refl
    by false false true false false h = refl
    by false false false true e h = refl
    by false false false false e h = absurd (true≢false (sym h))

-- so may the bytes of a word
pub word_in_name : (bs : List ℕ) → list_all is_in_word bs ≡ true → AreInName bs
word_in_name [] h = refl
word_in_name (b ∷ bs) h =
    let each = and_parts (is_in_word b) (list_all is_in_word bs) h in
    and_from (name_rest b) (list_all name_rest bs) (in_word_in_name b each.0) (word_in_name bs each.1)

-- the name of a type is a name
pub type_is_name : (name : List ℕ) → IsTypeName name → IsName name
type_is_name name h =
    let w = is_word name h in
    subst IsName (sym w.is) (and_from (name_start w.first) (list_all name_rest w.rest) (capital_begins w.first w.capital) (word_in_name w.rest w.word))

-- Numbers

-- a digit may stand in a name
digit_in_name : (b : ℕ) → is_ascii_digit b ≡ true → name_rest b ≡ true
digit_in_name b h = ap (λ (t : Bool). name_start b || t) h ∙ or_true (name_start b)

glyph_in_name : (d : ℕ) → d < 10 → name_rest (digit_glyph false d) ≡ true
glyph_in_name d low =
    let less : nat_lt d 10 ≡ true = grind arith in
    ap (λ (t : Bool). name_rest (if t then 48 + d else 87 + d)) less ∙ digit_in_name (48 + d) (digit_byte d low)

digits_in_name : (k n : ℕ) (after : List ℕ) → AreInName after → AreInName (digits_onto k 10 false n after)
digits_in_name zero n after h = h
digits_in_name (suc k) n after h =
    let digit : name_rest (digit_glyph false (n % 10)) ≡ true = glyph_in_name (n % 10) (omega arith) in
    let more : AreInName (digit_glyph false (n % 10) ∷ after) = and_from (name_rest (digit_glyph false (n % 10))) (list_all name_rest after) digit h in
    by (n / 10 == 0) (digit_glyph false (n % 10) ∷ after) more (digits_in_name k (n / 10) (digit_glyph false (n % 10) ∷ after) more)
  where
    by : (t : Bool) (bs : List ℕ) → AreInName bs → AreInName (digits_onto k 10 false (n / 10) bs) → AreInName (if t then bs else digits_onto k 10 false (n / 10) bs)
    by true bs h rest = h
    by false bs h rest = rest

-- a number may stand in a name
pub decimal_in_name : (n : ℕ) → AreInName (decimal n)
unfolding digits
decimal_in_name n = digits_in_name 64 n [] refl

-- a name with a number after it is a name
pub numbered_is_name : (text : List ℕ) (n : ℕ) → IsName text → IsName (text ++ decimal n)
numbered_is_name text n h = name-append text (decimal n) h (decimal_in_name n)

-- so is a label within a feature, where its kind is a name
pub inner_is_name : (kind : List ℕ) (class feature node : ℕ) → IsName kind → IsName (inner kind class feature node)
inner_is_name kind class feature node h =
    let last : AreInName (codes "_" ++ decimal node) = in_name-append (codes "_") (decimal node) refl (decimal_in_name node) in
    let second : AreInName (codes "_" ++ (decimal feature ++ (codes "_" ++ decimal node))) =
    in_name-append (codes "_") (decimal feature ++ (codes "_" ++ decimal node)) refl (in_name-append (decimal feature) (codes "_" ++ decimal node) (decimal_in_name feature) last) in
    name-append kind (codes "_" ++ (decimal class ++ (codes "_" ++ (decimal feature ++ (codes "_" ++ decimal node))))) h
    (in_name-append (codes "_") (decimal class ++ (codes "_" ++ (decimal feature ++ (codes "_" ++ decimal node)))) refl
    (in_name-append (decimal class) (codes "_" ++ (decimal feature ++ (codes "_" ++ decimal node))) (decimal_in_name class) second))
