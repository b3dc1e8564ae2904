-- The scanning functions return the lexeme, white space or comment that a text begins with, or the lexical error there.
use Rattle.std.proofs.Common.{◌≡◌, ◌∙◌, sym, ap, refl, arith, ℕ, zero, suc, ◌+◌, ◌≤◌, Bool, true, false, List, [], ◌∷◌, length, take, length-take}
use Rattle.std.specs.Prelude.{Option, Some, None, ◌==◌, ◌&&◌, nat_lt, if◌then◌else◌}
use Rattle.std.specs.List.{list_all, prefix_len, take_while}
use Rattle.std.proofs.lemmas.List.Sums.{prefix_len-le-length, take_while-cons}
use Rattle.std.proofs.lemmas.Bool.Decides.{nat_tests}
use Rattle.cool_syntax.specs.declared.token.TokenKind.{TokenKind}
use Rattle.cool_syntax.specs.declared.token.Sign.TheVariants as sign
use Rattle.cool_syntax.specs.declared.lexical.LexKind.TheVariants.{L6, L7}
use Rattle.cool_syntax.specs.Lexemes as lexemes
use Rattle.cool_lexer.specs.Views as views
use Rattle.cool_syntax.specs.Lexemes.{Form, Comment, Class, Capital, Small, Digit, Quote, White, Dash, Star, Open, Angle, Equals, Single, Stray, class_of, is_digit, is_in_word, value, comment_size, constant, is_whole, lexeme_if, comment_if, string_of, dash, open_sign, angle, equals, alone}
use Rattle.cool_syntax.specs.LexicalStructure.{fault_if}
use Rattle.cool_lexer.specs.declared.front.Front.{Front}
use Rattle.cool_lexer.specs.declared.front.Front.TheVariants.{Item, Fault}
use Rattle.cool_lexer.specs.declared.front.Scan.TheVariants as scan
use Rattle.cool_lexer.specs.declared.span.Span.TheVariants as span
use Rattle.cool_lexer.specs.Fronts.{takes, single_front, angle_front, equals_front, star_front, integer_front, string_front, dash_front, block_front, open_front, front_of, IsFront}
use Rattle.cool_lexer.proofs.Prefixes.{front_passes, no_longer}
use Rattle.cool_lexer.proofs.ClosedComments.{closed_front, closed_there}
use Rattle.cool_lexer.proofs.StringConstants.{Stands, string_stands, mapped, constant_longest}
use Rattle.std.proofs.lemmas.Bool.{and_parts}

-- Signs and white space

-- a text of one byte is no longer
alone_longest : (f : Form) (bs : List ℕ) (m : ℕ) (other : Form) → m ≤ length bs → alone f (take m bs) ≡ Some other → m ≤ 0
alone_longest f bs zero other l h = omega arith
alone_longest f [] (suc m) other l h = omega arith
alone_longest f (b ∷ bs) (suc m) other l h = absurd (cc)

-- no sign with `<` has more than two bytes
angle_longest : (bs : List ℕ) (m : ℕ) (other : Form) → m ≤ length bs → angle (take m bs) ≡ Some other → m ≤ 1
angle_longest bs zero other l h = omega arith
angle_longest bs (suc zero) other l h = omega arith
angle_longest [] (suc (suc m)) other l h = absurd (omega arith)
angle_longest (b ∷ []) (suc (suc m)) other l h = absurd (omega arith)
angle_longest (b ∷ c ∷ bs) (suc (suc m)) other l h = absurd (cc)

-- `<` by itself is the longest if no `=` and no `-` follows
less_longest : (b : ℕ) (bs : List ℕ) (m : ℕ) (other : Form) → (b == 61) ≡ false → (b == 45) ≡ false → m ≤ length (b ∷ bs) → angle (take m (b ∷ bs)) ≡ Some other → m ≤ 0
less_longest b bs zero other no_equal no_dash l h = omega arith
less_longest b bs (suc zero) other no_equal no_dash l h = absurd (let none : angle (b ∷ []) ≡ None = rw (no_equal, no_dash) refl in cc)
less_longest b [] (suc (suc m)) other no_equal no_dash l h = absurd (omega arith)
less_longest b (c ∷ bs) (suc (suc m)) other no_equal no_dash l h = absurd (cc)

-- the item that `<` begins, by the byte after it
angle_by : (a : ℕ) (b : ℕ) (bs : List ℕ) (e d : Bool) → (b == 61) ≡ e → (b == 45) ≡ d
    → IsFront Angle a (b ∷ bs) (if e then single_front sign.LessEqual 1 else (if d then single_front sign.Arrow 1 else single_front sign.Less 0))
angle_by a b bs true d is_equal is_dash = record { good = refl; within = omega arith; is_form = rw is_equal refl; longest = λ m other l h. angle_longest (b ∷ bs) m other l h }
angle_by a b bs false true is_equal is_dash = record { good = refl; within = omega arith; is_form = rw (is_equal, is_dash) refl; longest = λ m other l h. angle_longest (b ∷ bs) m other l h }
angle_by a b bs false false is_equal is_dash = record { good = refl; within = omega arith; is_form = refl; longest = λ m other l h. less_longest b bs m other is_equal is_dash l h }

-- the item that `<` begins
angle_is : (a : ℕ) (bs : List ℕ) → IsFront Angle a bs (angle_front bs)
angle_is a [] = record { good = refl; within = omega arith; is_form = refl; longest = λ m other l h. omega arith }
angle_is a (b ∷ bs) = angle_by a b bs (b == 61) (b == 45) refl refl

-- no sign with `=` has more than two bytes
equals_longest : (bs : List ℕ) (m : ℕ) (other : Form) → m ≤ length bs → equals (take m bs) ≡ Some other → m ≤ 1
equals_longest bs zero other l h = omega arith
equals_longest bs (suc zero) other l h = omega arith
equals_longest [] (suc (suc m)) other l h = absurd (omega arith)
equals_longest (b ∷ []) (suc (suc m)) other l h = absurd (omega arith)
equals_longest (b ∷ c ∷ bs) (suc (suc m)) other l h = absurd (cc)

-- `=` by itself is the longest if no `>` follows
equal_longest : (b : ℕ) (bs : List ℕ) (m : ℕ) (other : Form) → (b == 62) ≡ false → m ≤ length (b ∷ bs) → equals (take m (b ∷ bs)) ≡ Some other → m ≤ 0
equal_longest b bs zero other no_angle l h = omega arith
equal_longest b bs (suc zero) other no_angle l h = absurd (let none : equals (b ∷ []) ≡ None = rw no_angle refl in cc)
equal_longest b [] (suc (suc m)) other no_angle l h = absurd (omega arith)
equal_longest b (c ∷ bs) (suc (suc m)) other no_angle l h = absurd (cc)

-- the item that `=` begins, by the byte after it
equals_by : (a : ℕ) (b : ℕ) (bs : List ℕ) (e : Bool) → (b == 62) ≡ e → IsFront Equals a (b ∷ bs) (if e then single_front sign.FatArrow 1 else single_front sign.Equal 0)
equals_by a b bs true is_angle = record { good = refl; within = omega arith; is_form = rw is_angle refl; longest = λ m other l h. equals_longest (b ∷ bs) m other l h }
equals_by a b bs false is_angle = record { good = refl; within = omega arith; is_form = refl; longest = λ m other l h. equal_longest b bs m other is_angle l h }

-- the item that `=` begins
equals_is : (a : ℕ) (bs : List ℕ) → IsFront Equals a bs (equals_front bs)
equals_is a [] = record { good = refl; within = omega arith; is_form = refl; longest = λ m other l h. omega arith }
equals_is a (b ∷ bs) = equals_by a b bs (b == 62) refl

-- the item that `*` begins, by the byte after it
star_by : (a : ℕ) (b : ℕ) (bs : List ℕ) (e : Bool) → (b == 41) ≡ e → IsFront Star a (b ∷ bs) (if e then Fault L6 0 else single_front sign.Star 0)
star_by a b bs true closes = (rw closes refl, omega arith)
star_by a b bs false closes = record { good = rw closes refl; within = omega arith; is_form = refl; longest = λ m other l h. alone_longest _ (b ∷ bs) m other l h }

-- the item that `*` begins
star_is : (a : ℕ) (bs : List ℕ) → IsFront Star a bs (star_front bs)
star_is a [] = record { good = refl; within = omega arith; is_form = refl; longest = λ m other l h. omega arith }
star_is a (b ∷ bs) = star_by a b bs (b == 41) refl

-- Words and integers

-- a lexeme comes only where its test holds
lexeme_holds : (holds : Bool) (k : TokenKind) (f : Form) → lexeme_if holds k ≡ Some f → holds ≡ true
lexeme_holds true k f h = refl
lexeme_holds false k f h = absurd (cc)

-- a comment comes only where its test holds
comment_holds : (holds : Bool) (f : Form) → comment_if holds ≡ Some f → holds ≡ true
comment_holds true f h = refl
comment_holds false f h = absurd (cc)

-- the item that a capital letter begins
capital_is : (b : ℕ) (bs : List ℕ) → IsFront Capital b bs (front_of Capital b bs)
capital_is b bs = record {
  good = refl;
  within = prefix_len-le-length is_in_word bs;
  is_form = rw (front_passes is_in_word bs) refl;
  longest = λ m other l h. no_longer is_in_word bs m l (lexeme_holds _ _ _ h);
}

-- the item that a small letter begins
small_is : (b : ℕ) (bs : List ℕ) → IsFront Small b bs (front_of Small b bs)
small_is b bs = record {
  good = refl;
  within = prefix_len-le-length is_in_word bs;
  is_form = rw (front_passes is_in_word bs) refl;
  longest = λ m other l h. no_longer is_in_word bs m l (lexeme_holds _ _ _ h);
}

-- the digits of a text that begins with one
digits : (b : ℕ) (bs : List ℕ) → is_digit b ≡ true → take_while is_digit (b ∷ bs) ≡ b ∷ take (prefix_len is_digit bs) bs
digits b bs h = take_while-cons is_digit b bs ∙ ap (λ e. if e then b ∷ take_while is_digit bs else []) h

-- the item that a digit begins, by whether its number is above the limit
number_by : (b : ℕ) (bs : List ℕ) (e : Bool) → is_digit b ≡ true → nat_lt 2147483647 (value (b ∷ take (prefix_len is_digit bs) bs)) ≡ e
    → IsFront Digit b bs (integer_front (if e then None else Some (value (b ∷ take (prefix_len is_digit bs) bs))) (prefix_len is_digit bs))
number_by b bs true h over = (ap (λ ds. fault_if (nat_lt 2147483647 (value ds)) L7) (digits b bs h) ∙ ap (λ e. fault_if e L7) over, omega arith)
number_by b bs false h over = record {
  good = ap (λ ds. fault_if (nat_lt 2147483647 (value ds)) L7) (digits b bs h) ∙ ap (λ e. fault_if e L7) over;
  within = prefix_len-le-length is_digit bs;
  is_form = rw (front_passes is_digit bs) refl;
  longest = λ m other l k. no_longer is_digit bs m l (lexeme_holds _ _ _ k);
}

-- Strings

-- the item that a quote begins
string_is : (b : ℕ) (bs : List ℕ) (r : Front) → Stands false 1 [] bs r → IsFront Quote b bs r
string_is b bs (Fault k o) s = (s.0, omega (arith, s.1))
string_is b bs (Item f n) s =
    let size : n ≡ s.2 = omega (arith, s.4) in
    record {
      good = s.0;
      within = omega (arith, s.5);
      is_form = ap (λ x. string_of (constant false (take x bs))) size ∙ ap string_of s.6 ∙ ap (λ x. Some (views.form_seen x)) (sym s.3);
      longest = λ m other l h. let o = mapped _ (constant false (take m bs)) other h in omega (arith, constant_longest bs false m s.2 o.0 s.1 l o.1 s.6);
    }

-- Comments

-- `-` by itself is the longest if no `-` follows
dash_longest : (b : ℕ) (bs : List ℕ) (m : ℕ) (other : Form) → (b == 45) ≡ false → m ≤ length (b ∷ bs) → dash (take m (b ∷ bs)) ≡ Some other → m ≤ 0
dash_longest b bs zero other no_dash l h = omega arith
dash_longest b bs (suc m) other no_dash l h =
    let holds = and_parts (b == 45) (list_all (takes span.Line) (take m bs)) (comment_holds _ other h) in
    absurd (cc (holds.0, no_dash))

-- no comment goes beyond its line
line_longest : (b : ℕ) (bs : List ℕ) (m : ℕ) (other : Form) → m ≤ length (b ∷ bs) → dash (take m (b ∷ bs)) ≡ Some other → m ≤ 1 + prefix_len (takes span.Line) bs
line_longest b bs zero other l h = omega arith
line_longest b bs (suc m) other l h =
    let holds = and_parts (b == 45) (list_all (takes span.Line) (take m bs)) (comment_holds _ other h) in
    omega (arith, no_longer (takes span.Line) bs m (omega arith) holds.1)

-- two dashes and a line are a comment
line_form : (b : ℕ) (bs : List ℕ) (n : ℕ) → (b == 45) ≡ true → list_all (takes span.Line) (take n bs) ≡ true → dash (take (suc n) (b ∷ bs)) ≡ Some Comment
line_form b bs n is_dash all = ap (λ e. comment_if (e && list_all (takes span.Line) (take n bs))) is_dash ∙ ap comment_if all

-- the item that `-` begins, by the byte after it
dash_by : (a : ℕ) (b : ℕ) (bs : List ℕ) (e : Bool) → (b == 45) ≡ e → IsFront Dash a (b ∷ bs) (if e then Item scan.Comment (1 + prefix_len (takes span.Line) bs) else single_front sign.Minus 0)
dash_by a b bs true is_dash =
    let next : 1 + prefix_len (takes span.Line) bs ≡ suc (prefix_len (takes span.Line) bs) = omega arith in
    record {
      good = refl;
      within = omega (arith, prefix_len-le-length (takes span.Line) bs);
      is_form = ap (λ n. dash (take n (b ∷ bs))) next ∙ line_form b bs _ is_dash (front_passes (takes span.Line) bs);
      longest = λ m other l h. line_longest b bs m other l h;
    }
dash_by a b bs false is_dash = record { good = refl; within = omega arith; is_form = refl; longest = λ m other l h. dash_longest b bs m other is_dash l h }

-- the item that `-` begins
dash_is : (a : ℕ) (bs : List ℕ) → IsFront Dash a bs (dash_front bs)
dash_is a [] = record { good = refl; within = omega arith; is_form = refl; longest = λ m other l h. omega arith }
dash_is a (b ∷ bs) = dash_by a b bs (b == 45) refl

-- `(` by itself is the longest if no `*` follows
paren_longest : (b : ℕ) (bs : List ℕ) (m : ℕ) (other : Form) → (b == 42) ≡ false → m ≤ length (b ∷ bs) → open_sign (take m (b ∷ bs)) ≡ Some other → m ≤ 0
paren_longest b bs zero other no_star l h = omega arith
paren_longest b bs (suc m) other no_star l h =
    let holds = and_parts (b == 42) (is_whole (comment_size 1 0 (take m bs)) (take m bs)) (comment_holds _ other h) in
    absurd (cc (holds.0, no_star))

-- a comment that is a whole text has its length
whole_size : (o : Option ℕ) (bs : List ℕ) → is_whole o bs ≡ true → o ≡ Some (length bs)
whole_size None bs h = absurd (cc)
whole_size (Some n) bs h = ap Some (grind (arith, nat_tests))

-- a comment that is the whole of a front is the one that stands in the text
block_longest : (b : ℕ) (bs : List ℕ) (m n : ℕ) (other : Form) → comment_size 1 0 bs ≡ Some n → m ≤ length (b ∷ bs) → open_sign (take m (b ∷ bs)) ≡ Some other → m ≤ 1 + n
block_longest b bs zero n other is l h = omega arith
block_longest b bs (suc m) n other is l h =
    let holds = and_parts (b == 42) (is_whole (comment_size 1 0 (take m bs)) (take m bs)) (comment_holds _ other h) in
    let there : comment_size 1 0 bs ≡ Some (length (take m bs)) = closed_front 1 0 m (length (take m bs)) bs (whole_size (comment_size 1 0 (take m bs)) (take m bs) holds.1) in
    let same : Some n ≡ Some (length (take m bs)) = sym is ∙ there in
    let sizes : n ≡ length (take m bs) = cc in
    omega (arith, length-take m bs)

-- a front that is closed at its end is a comment
block_form : (b : ℕ) (bs : List ℕ) (n : ℕ) → (b == 42) ≡ true → n ≤ length bs → comment_size 1 0 (take n bs) ≡ Some n → open_sign (take (suc n) (b ∷ bs)) ≡ Some Comment
block_form b bs n is_star within is =
    let whole : (n == length (take n bs)) ≡ true = grind (arith, nat_tests, length-take n bs) in
    ap (λ e. comment_if (e && is_whole (comment_size 1 0 (take n bs)) (take n bs))) is_star ∙ ap (λ o. comment_if (is_whole o (take n bs))) is ∙ ap comment_if whole

-- the item that `(*` begins, by whether it is closed
block_by : (a : ℕ) (b : ℕ) (bs : List ℕ) (o : Option ℕ) → (b == 42) ≡ true → comment_size 1 0 bs ≡ o → IsFront Open a (b ∷ bs) (block_front o)
block_by a b bs None is_star is = (rw (is_star, is) refl, omega arith)
block_by a b bs (Some n) is_star is =
    let there = closed_there 1 0 bs n is in
    let next : 1 + n ≡ suc n = omega arith in
    record {
      good = rw (is_star, is) refl;
      within = omega (arith, there.0);
      is_form = ap (λ x. open_sign (take x (b ∷ bs))) next ∙ block_form b bs n is_star there.0 there.1;
      longest = λ m other l h. block_longest b bs m n other is l h;
    }

-- the item that `(` begins, by the byte after it
open_by : (a : ℕ) (b : ℕ) (bs : List ℕ) (e : Bool) → (b == 42) ≡ e → IsFront Open a (b ∷ bs) (if e then block_front (comment_size 1 0 bs) else single_front sign.LParen 0)
open_by a b bs true is_star = block_by a b bs (comment_size 1 0 bs) is_star refl
open_by a b bs false is_star = record { good = rw is_star refl; within = omega arith; is_form = refl; longest = λ m other l h. paren_longest b bs m other is_star l h }

-- the item that `(` begins
open_is : (a : ℕ) (bs : List ℕ) → IsFront Open a bs (open_front bs)
open_is a [] = record { good = refl; within = omega arith; is_form = refl; longest = λ m other l h. omega arith }
open_is a (b ∷ bs) = open_by a b bs (b == 42) refl

-- All classes

-- the front of each class
by_class : (c : Class) (b : ℕ) (bs : List ℕ) → (c ≡ Digit → is_digit b ≡ true) → IsFront c b bs (front_of c b bs)
by_class Capital b bs h = capital_is b bs
by_class Small b bs h = small_is b bs
by_class Digit b bs h = number_by b bs _ (h refl) refl
by_class Quote b bs h = string_is b bs (string_front false 1 [] bs) (string_stands false 1 [] bs (omega arith))
by_class White b bs h = record { good = refl; within = omega arith; is_form = refl; longest = λ m other l k. alone_longest _ bs m other l k }
by_class Dash b bs h = dash_is b bs
by_class Star b bs h = star_is b bs
by_class Open b bs h = open_is b bs
by_class Angle b bs h = angle_is b bs
by_class Equals b bs h = equals_is b bs
by_class (Single s) b bs h = record { good = refl; within = omega arith; is_form = refl; longest = λ m other l k. alone_longest _ bs m other l k }
by_class Stray b bs h = (refl, omega arith)

-- a choice of two classes that are not Digit is not Digit
neither : (test : Bool) (c d : Class) → (c ≡ Digit → ⊥) → (d ≡ Digit → ⊥) → (if test then c else d) ≡ Digit → ⊥
neither true c d h k = h
neither false c d h k = k

-- after the tests of letters, `Digit` depends only on its own test
digit_by : (capital small digit : Bool) (c : Class) → (c ≡ Digit → ⊥) → (if capital then Capital else (if small then Small else (if digit then Digit else c))) ≡ Digit → digit ≡ true
digit_by true small digit c h is = absurd (cc)
digit_by false true digit c h is = absurd (cc)
digit_by false false true c h is = refl
digit_by false false false c h is = absurd (h is)

-- a byte of the class Digit is a digit
digit_class : (b : ℕ) → class_of b ≡ Digit → is_digit b ≡ true
digit_class b is =
    digit_by _ _ (is_digit b) _
    (neither (lexemes.is_white b) White _ (λ e. absurd (cc))
    (neither (b == 34) Quote _ (λ e. absurd (cc))
    (neither (b == 45) Dash _ (λ e. absurd (cc))
    (neither (b == 42) Star _ (λ e. absurd (cc))
    (neither (b == 40) Open _ (λ e. absurd (cc))
    (neither (b == 60) Angle _ (λ e. absurd (cc))
    (neither (b == 61) Equals _ (λ e. absurd (cc))
    (neither (b == 123) (Single sign.LBrace) _ (λ e. absurd (cc))
    (neither (b == 125) (Single sign.RBrace) _ (λ e. absurd (cc))
    (neither (b == 41) (Single sign.RParen) _ (λ e. absurd (cc))
    (neither (b == 58) (Single sign.Colon) _ (λ e. absurd (cc))
    (neither (b == 59) (Single sign.Semi) _ (λ e. absurd (cc))
    (neither (b == 44) (Single sign.Comma) _ (λ e. absurd (cc))
    (neither (b == 46) (Single sign.Dot) _ (λ e. absurd (cc))
    (neither (b == 64) (Single sign.At) _ (λ e. absurd (cc))
    (neither (b == 126) (Single sign.Tilde) _ (λ e. absurd (cc))
    (neither (b == 47) (Single sign.Slash) _ (λ e. absurd (cc))
    (neither (b == 43) (Single sign.Plus) _ (λ e. absurd (cc))
    (λ e. absurd (cc))))))))))))))))))))
    is

-- the front of each class is its item or its fault
pub front_is : (b : ℕ) (bs : List ℕ) → IsFront (class_of b) b bs (front_of (class_of b) b bs)
front_is b bs = by_class (class_of b) b bs (digit_class b)
