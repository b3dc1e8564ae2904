-- A line of a session's input is parsed by its words: names are texts, and lengths are numbers of at most seven digits.
use Rattle.std.proofs.Common.{◌≡◌, refl, sym, ◌∙◌, subst, ℕ, zero, suc, ◌+◌, ◌-◌, ◌*◌, ◌<◌, ◌≤◌, Bool, true, false, true≢false, List, [], ◌∷◌, length, map, get_or, drop, drop-cons, add-one, arith}
use Rattle.std.specs.Prelude.{None, nat_le, ◌&&◌}
use Rattle.std.specs.List.{list_all, fold}
use Rattle.std.specs.Str.{IsUtf8, IsAscii}
use Rattle.std.proofs.lemmas.Bool.{and_parts}
use Rattle.std.proofs.lemmas.Str.{IsUtf8-from_ascii}
use Rattle.std.proofs.lemmas.Str.Ascii.{IsAscii-nil, IsAscii-cons}
use Rattle.std.proofs.lemmas.List.Folds.{list_all_at}
use denote.Ref.{Bor}
use Rattle.cool_syntax.specs.Lexemes.{is_digit}
use Rattle.cool_session.specs.Commands.{asked, is_name, is_length}

-- four words and more ask nothing
pub more_words : (words : List (Bor (List ℕ))) → 4 ≤ length words → None ≡ asked (map (λ word. word.now) words)
more_words [] many = absurd (omega arith)
more_words (a ∷ []) many = absurd (omega arith)
more_words (a ∷ b ∷ []) many = absurd (omega arith)
more_words (a ∷ b ∷ c ∷ []) many = absurd (omega arith)
more_words (a ∷ b ∷ c ∷ d ∷ more) many = refl

-- the first so many powers of ten are small
pub ten_to : ℕ → ℕ
ten_to zero = 1
ten_to (suc n) = 10 * ten_to n

pub ten_more : (n : ℕ) → ten_to (n + 1) ≡ 10 * ten_to n
unfolding ten_to
ten_more n = rw add-one refl

grows : (n k : ℕ) → ten_to n ≤ ten_to (n + k)
grows n zero = let e : n + 0 ≡ n = omega arith in rw e (omega arith)
grows n (suc k) = let e : n + suc k ≡ n + k + 1 = omega arith in rw e (omega (arith, ten_more (n + k), grows n k))

pub ten_small : (n k : ℕ) → n + k ≡ 7 → ten_to n ≤ 10000000
unfolding ten_to
ten_small n k e = let most : ten_to n ≤ ten_to (n + k) = grows n k in subst (λ (m : ℕ). ten_to n ≤ ten_to m) e most

pub ten_zero : ten_to 0 ≡ 1
unfolding ten_to
ten_zero = refl

-- a digit of a length
digit_small : (b : ℕ) → is_digit b ≡ true → b - 48 ≤ 9
digit_small b e = grind (arith, e)

digit_or_not : (b : Bool) (P : Type 0) → (b ≡ true → P) → (b ≡ false → P) → P
digit_or_not true P h k = h refl
digit_or_not false P h k = k refl

pub length_digits : (word : List ℕ) → is_length word ≡ true → (length word ≤ 7) × (list_all is_digit word ≡ true)
length_digits word e =
    let parts = and_parts (nat_le 1 (length word)) (nat_le (length word) 7 && list_all is_digit word) e in
    let more = and_parts (nat_le (length word) 7) (list_all is_digit word) parts.1 in
    (grind (arith, more.0), more.1)

pub digit_of_length : (word : List ℕ) (i : ℕ) → is_length word ≡ true → i < length word → get_or word i 0 - 48 ≤ 9
digit_of_length word i e h =
    let all = (length_digits word e).1 in
    digit_or_not (is_digit (get_or word i 0)) _ (digit_small (get_or word i 0))
    (λ no. absurd (true≢false (sym all ∙ list_all_at is_digit word i 0 h no)))

-- so many digits are a small number
pub number_small : (word : List ℕ) (i n : ℕ) → is_length word ≡ true → i < length word → n < ten_to i → n < 10000000
number_small word i n e less small =
    let few = (length_digits word e).1 in
    let most : ten_to i ≤ 10000000 = ten_small i (7 - i) (omega (arith, (length_digits word e).0, less)) in
    omega (arith, small, most)

-- one more digit
pub digit_more : (word : List ℕ) (i n v : ℕ) → i < length word → fold (λ m b. 10 * m + (b - 48)) n (drop i word) ≡ v
    → fold (λ m b. 10 * m + (b - 48)) (10 * n + (get_or word i 0 - 48)) (drop (i + 1) word) ≡ v
digit_more word i n v less e = rw (add-one i) (rw (drop-cons word i 0) at e)

-- a name is a text
letter : (b : ℕ) → (nat_le 33 b && nat_le b 126) ≡ true → b < 128
letter b e = let most : nat_le b 126 ≡ true = (and_parts (nat_le 33 b) (nat_le b 126) e).1 in grind (arith, most)

name_ascii : (word : List ℕ) → list_all (λ b. nat_le 33 b && nat_le b 126) word ≡ true → IsAscii word
name_ascii [] e = IsAscii-nil
name_ascii (b ∷ bs) e =
    let parts = and_parts (nat_le 33 b && nat_le b 126) (list_all (λ b. nat_le 33 b && nat_le b 126) bs) e in
    IsAscii-cons b bs (letter b parts.0) (name_ascii bs parts.1)

pub name_text : (word : List ℕ) → is_name word ≡ true → IsUtf8 word
name_text word e =
    let parts = and_parts (nat_le 1 (length word)) (nat_le (length word) 255 && list_all (λ b. nat_le 33 b && nat_le b 126) word) e in
    let more = and_parts (nat_le (length word) 255) (list_all (λ b. nat_le 33 b && nat_le b 126) word) parts.1 in
    IsUtf8-from_ascii word (name_ascii word more.1)
