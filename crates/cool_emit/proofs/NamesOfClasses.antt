-- The names of classes begin with a capital letter and consist of letters, digits and underscores, are all different, and are not names of basic classes except
-- those of the basic classes themselves.
use Rattle.std.proofs.Common.{◌≡◌, ℕ, zero, suc, ◌<◌, ◌≤◌, List, [], ◌∷◌, length, map, get_or, get_or-take, Option}
use Rattle.std.proofs.Common.{Some, None, Bool, true, false, ◌==◌, refl, sym, ap, ◌∙◌, arith, true≢false}
use Rattle.std.specs.Prelude.{bytes_eq, if◌then◌else◌}
use Rattle.std.specs.List.{list_all, list_any, position_or_len}
use Rattle.std.proofs.lemmas.List.Sums.{position_or_len_is}
use Rattle.cool_syntax.specs.declared.token.TokenKind.{TokenKind}
use Rattle.cool_syntax.specs.declared.token.TokenKind.TheVariants as kind
use Rattle.cool_syntax.specs.declared.token.Key.{Key}
use Rattle.cool_syntax.specs.Lexemes.{Form, Lexeme, Space, Comment, form_of, class_of, lexeme_if}
use Rattle.cool_syntax.specs.Lexemes.{comment_if, string_of, dash, open_sign, angle, equals, alone, word}
use Rattle.cool_syntax.specs.Lexemes.{named, key_among, keywords, lower, is_capital}
use Rattle.cool_syntax.specs.Lexemes.{is_in_word}
use Rattle.cool_syntax.specs.Lexemes as classes
use Rattle.cool_syntax.specs.TreesWithinLimits.{IsTypeName}
use Rattle.cool_classes.specs.declared.class_id.ClassId.{ClassId}
use Rattle.cool_classes.specs.Chains.{Class, class_number, name_of, features_of, nothing}
use Rattle.cool_classes.specs.Tables.{IsTable, basic_classes}
use Rattle.cool_layout.proofs.BasicNames.{five, basic_name}
use Rattle.cool_emit.proofs.NamesApart.{IsWord, basic_texts}
use Rattle.lists.proofs.EqualBytes.{bytes_equal, bytes_eq-same}

-- whether a form is the name of a type
abbrev is_type : Option Form → Bool
is_type (Some (Lexeme (kind.TypeId name))) = true
is_type (Some (Lexeme (kind.ObjectId name))) = false
is_type (Some (Lexeme (kind.Key k))) = false
is_type (Some (Lexeme (kind.Int n))) = false
is_type (Some (Lexeme (kind.Str bytes))) = false
is_type (Some (Lexeme (kind.Sign s))) = false
is_type (Some Space) = false
is_type (Some Comment) = false
is_type None = false

-- no other form is one

no_named : (text : List ℕ) (o : Option Key) (b : Bool) → is_type (lexeme_if b (named false text o)) ≡ false
no_named text None true = refl
no_named text (Some k) true = refl
no_named text o false = refl

no_word : (b : ℕ) (bs : List ℕ) (all : Bool) → is_capital b ≡ false → is_type (lexeme_if all (word b bs)) ≡ false
no_word b bs all small =
    let k = key_among keywords (map lower (b ∷ bs)) in
    ap (λ (t : Bool). is_type (lexeme_if all (named t (b ∷ bs) k))) small ∙ no_named (b ∷ bs) k all

if_lexeme : (b : Bool) (k : TokenKind) → is_type (Some (Lexeme k)) ≡ false → is_type (lexeme_if b k) ≡ false
if_lexeme true k h = h
if_lexeme false k h = refl

if_comment : (b : Bool) → is_type (comment_if b) ≡ false
if_comment true = refl
if_comment false = refl

no_string : (o : Option (List ℕ)) → is_type (string_of o) ≡ false
no_string None = refl
no_string (Some bytes) = refl

stands_alone : (f : Form) (bs : List ℕ) → is_type (Some f) ≡ false → is_type (alone f bs) ≡ false
stands_alone f [] h = h
stands_alone f (b ∷ bs) h = refl

no_dash : (bs : List ℕ) → is_type (dash bs) ≡ false
no_dash [] = refl
no_dash (b ∷ bs) = if_comment _

no_open : (bs : List ℕ) → is_type (open_sign bs) ≡ false
no_open [] = refl
no_open (b ∷ bs) = if_comment _

either : (b : Bool) (o q : Option Form) → is_type o ≡ false → is_type q ≡ false → is_type (if b then o else q) ≡ false
either true o q h i = h
either false o q h i = i

no_angle : (bs : List ℕ) → is_type (angle bs) ≡ false
no_angle [] = refl
no_angle (b ∷ []) = either (b == 61) _ _ refl (if_lexeme (b == 45) _ refl)
no_angle (b ∷ c ∷ bs) = refl

no_equals : (bs : List ℕ) → is_type (equals bs) ≡ false
no_equals [] = refl
no_equals (b ∷ []) = if_lexeme (b == 62) _ refl
no_equals (b ∷ c ∷ bs) = refl

-- a text whose first byte is no capital is no name of a type
no_type : (c : classes.Class) (b : ℕ) (bs : List ℕ) → is_capital b ≡ false → is_type (form_of c b bs) ≡ false
no_type classes.Capital b bs small = no_word b bs _ small
no_type classes.Small b bs small = no_word b bs _ small
no_type classes.Digit b bs small = if_lexeme _ _ refl
no_type classes.Quote b bs small = no_string _
no_type classes.White b bs small = stands_alone _ bs refl
no_type classes.Dash b bs small = no_dash bs
no_type classes.Star b bs small = stands_alone _ bs refl
no_type classes.Open b bs small = no_open bs
no_type classes.Angle b bs small = no_angle bs
no_type classes.Equals b bs small = no_equals bs
no_type (classes.Single s) b bs small = stands_alone _ bs refl
no_type classes.Stray b bs small = refl

-- the name of a type is a word
pub is_word : (name : List ℕ) → IsTypeName name → IsWord name
is_word [] h = absurd (true≢false (sym (ap is_type h)))
is_word (b ∷ bs) h = by (is_capital b) refl
  where
    by : (t : Bool) → is_capital b ≡ t → IsWord (b ∷ bs)
    by false e = absurd (true≢false (sym (ap is_type h) ∙ no_type (class_of b) b bs e))
    by true e = record { first = b; rest = bs; is = refl; capital = e; word = all (list_all is_in_word bs) refl }
      where
        capital_class : class_of b ≡ classes.Capital
        capital_class = rw e refl

        all : (t : Bool) → list_all is_in_word bs ≡ t → list_all is_in_word bs ≡ true
        all true g = g
        all false g =
            absurd (true≢false (sym (ap is_type h) ∙ ap (λ (c : classes.Class). is_type (form_of c b bs)) capital_class
            ∙ ap (λ (t : Bool). is_type (lexeme_if t (word b bs))) g))

-- the place of the class with a name
abbrev pub class_place : List Class → List ℕ → ℕ
class_place p name = position_or_len (λ (c : Class). bytes_eq c.name name) p

module _ (p : List Class) (table : IsTable p) (c : ClassId) (within : c.0 < length p) where
  -- a class stands at its own number
  pub own_place : class_place p (name_of p c) ≡ c.0
  own_place =
      position_or_len_is (λ (d : Class). bytes_eq d.name (name_of p c)) p c.0 nothing (omega arith)
      (λ k l. other k l (bytes_eq (name_of p (class_number k)) (name_of p c)) refl) (λ l. bytes_eq-same (name_of p c))
    where
      other : (k : ℕ) → k < c.0 → (b : Bool) → bytes_eq (name_of p (class_number k)) (name_of p c) ≡ b
          → bytes_eq (name_of p (class_number k)) (name_of p c) ≡ false
      other k l false e = e
      other k l true e =
          let is : class_number k ≡ c =
          table.names (class_number k) c (omega arith) within (bytes_equal (name_of p (class_number k)) (name_of p c) e) in
          let n : k ≡ c.0 = ap (λ (d : ClassId). d.0) is in
          absurd (omega arith)

  -- a class after the basic ones has another name than each of those
  other_name : (k : ℕ) → k < 5 → 5 ≤ c.0 → bytes_eq (name_of p c) (name_of basic_classes (class_number k)) ≡ false
  other_name k low high = by (bytes_eq (name_of p c) (name_of basic_classes (class_number k))) refl
    where
      by : (b : Bool) → bytes_eq (name_of p c) (name_of basic_classes (class_number k)) ≡ b
          → bytes_eq (name_of p c) (name_of basic_classes (class_number k)) ≡ false
      by false e = e
      by true e =
          let l = five p table.basic in
          let is : c ≡ class_number k =
          table.names c (class_number k) within (omega arith)
          (bytes_equal (name_of p c) (name_of basic_classes (class_number k)) e ∙ sym (basic_name p table.basic k low)) in
          let n : c.0 ≡ k = ap (λ (d : ClassId). d.0) is in
          absurd (omega arith)

  -- so its methods are not those of the routines
  pub not_basic : 5 ≤ c.0 → list_any (bytes_eq (name_of p c)) basic_texts ≡ false
  not_basic high = rw (other_name 0 (omega arith) high, other_name 1 (omega arith) high, other_name 4 (omega arith) high) refl

  -- the basic classes have no features of the text
  pub no_features : c.0 < 5 → features_of p c ≡ []
  no_features low =
      ap (λ (d : Class). d.features) (sym (get_or-take 5 p c.0 nothing low) ∙ ap (λ ps. get_or ps c.0 nothing) table.basic)
      ∙ none c.0 low
    where
      none : (k : ℕ) → k < 5 → features_of basic_classes (class_number k) ≡ []
      none zero l = refl
      none (suc zero) l = refl
      none (suc (suc zero)) l = refl
      none (suc (suc (suc zero))) l = refl
      none (suc (suc (suc (suc zero)))) l = refl
      none (suc (suc (suc (suc (suc k))))) l = absurd (omega arith)
