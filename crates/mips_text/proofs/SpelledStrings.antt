-- If a string is printed in quotes with escapes and scanned again, the result is a token that stands for the same bytes.
use Rattle.std.proofs.Common.{◌≡◌, ◌∙◌, sym, ap, refl, arith, ℕ, ◌+◌, Bool, true, false, List, [], ◌∷◌, ◌++◌, append_assoc, length, take, flat_map, length-append, if◌then◌else◌}
use Rattle.std.specs.Prelude.{Some, option_map, not, ◌&&◌, ◌==◌}
use Rattle.std.specs.List.{list_all}
use Rattle.std.proofs.lemmas.List.Folds.{list_all-append}
use Rattle.std.proofs.Math.Seq.{take-append_seam}
use Rattle.std.proofs.lemmas.Bool.Decides.{nat_tests}
use Rattle.mips_text.specs.declared.class.Start.TheVariants as start
use Rattle.mips_text.specs.Spelling.{letter_text}
use Rattle.mips_text.specs.Printing.{string_operand}
use Rattle.mips_text.specs.Strings.{all_known, is_known, letter, unescaped}
use Rattle.mips_text.specs.Words.{Text, words_of}
use Rattle.mips_text.specs.Fronts.{closing_quote, text_front}
use Rattle.mips_text.proofs.SpelledWords.{Spells, in_line, word_here}

-- the spelling of a byte: as an escape, or as itself
data Letter (b : ℕ) : Type 0 where
  escape : (c : ℕ) → letter_text b ≡ 92 ∷ c ∷ [] → is_known true c ≡ true → letter true c ≡ b → in_line c ≡ true → Letter b
  itself : letter_text b ≡ b ∷ [] → (b == 34) ≡ false → (b == 92) ≡ false → (b == 10) ≡ false → Letter b

letter_by : (b : ℕ) (n t q s : Bool) → (b == 10) ≡ n → (b == 9) ≡ t → (b == 34) ≡ q → (b == 92) ≡ s → Letter b
letter_by b true t q s hn ht hq hs = escape 110 (rw hn refl) refl (let e : b ≡ 10 = grind (arith, nat_tests) in sym e) refl
letter_by b false true q s hn ht hq hs = escape 116 (rw (hn, ht) refl) refl (let e : b ≡ 9 = grind (arith, nat_tests) in sym e) refl
letter_by b false false true s hn ht hq hs = escape 34 (rw (hn, ht, hq) refl) refl (let e : b ≡ 34 = grind (arith, nat_tests) in sym e) refl
letter_by b false false false true hn ht hq hs = escape 92 (rw (hn, ht, hq, hs) refl) refl (let e : b ≡ 92 = grind (arith, nat_tests) in sym e) refl
letter_by b false false false false hn ht hq hs = itself (rw (hn, ht, hq, hs) refl) hq hs hn

letter_of : (b : ℕ) → Letter b
letter_of b = letter_by b (b == 10) (b == 9) (b == 34) (b == 92) refl refl refl refl

-- the spelling of bytes
abbrev raw : List ℕ → List ℕ
raw = flat_map letter_text

known_by : (b : ℕ) (more : List ℕ) → Letter b → all_known false (letter_text b ++ more) ≡ all_known false more
known_by b more (escape c e k l i) = ap (λ t. all_known false (t ++ more)) e ∙ rw k refl
known_by b more (itself e q s n) = ap (λ t. all_known false (t ++ more)) e ∙ ap (λ (t : Bool). all_known t more) s

-- all escapes of a spelling are known
pub raw_known : (bytes : List ℕ) → all_known false (raw bytes) ≡ true
raw_known [] = refl
raw_known (b ∷ bytes) = known_by b (raw bytes) (letter_of b) ∙ raw_known bytes

unescaped_by : (b : ℕ) (more : List ℕ) → Letter b → unescaped false (letter_text b ++ more) ≡ b ∷ unescaped false more
unescaped_by b more (escape c e k l i) = ap (λ t. unescaped false (t ++ more)) e ∙ ap (λ x. x ∷ unescaped false more) l
unescaped_by b more (itself e q s n) = ap (λ t. unescaped false (t ++ more)) e ∙ ap (λ (t : Bool). if t then unescaped true more else b ∷ unescaped false more) s

-- it stands for the bytes
pub raw_unescaped : (bytes : List ℕ) → unescaped false (raw bytes) ≡ bytes
raw_unescaped [] = refl
raw_unescaped (b ∷ bytes) = unescaped_by b (raw bytes) (letter_of b) ∙ ap (λ l. b ∷ l) (raw_unescaped bytes)

quote_by : (b place : ℕ) (more : List ℕ) → Letter b → closing_quote false place (letter_text b ++ more) ≡ closing_quote false (place + length (letter_text b)) more
quote_by b place more (escape c e k l i) =
    let at : place + 1 + 1 ≡ place + length (letter_text b) = omega (arith, ap length e) in
    ap (λ t. closing_quote false place (t ++ more)) e ∙ ap (λ p. closing_quote false p more) at
quote_by b place more (itself e q s n) =
    let at : place + 1 ≡ place + length (letter_text b) = omega (arith, ap length e) in
    ap (λ t. closing_quote false place (t ++ more)) e ∙ (rw (q, s) refl ∙ ap (λ p. closing_quote false p more) at)

-- its quote is found behind it
quote_found : (bytes rest : List ℕ) (place : ℕ) → closing_quote false place (raw bytes ++ (34 ∷ rest)) ≡ Some (place + length (raw bytes))
quote_found [] rest place = let e : place ≡ place + 0 = omega arith in ap (λ p. Some p) e
quote_found (b ∷ bytes) rest place =
    let size : place + length (letter_text b) + length (raw bytes) ≡ place + length (letter_text b ++ raw bytes) = omega (arith, length-append (letter_text b) (raw bytes)) in
    ap (closing_quote false place) (append_assoc (letter_text b) (raw bytes) (34 ∷ rest))
    ∙ (quote_by b place (raw bytes ++ (34 ∷ rest)) (letter_of b) ∙ (quote_found bytes rest (place + length (letter_text b)) ∙ ap (λ p. Some p) size))

line_by : (b : ℕ) → Letter b → list_all in_line (letter_text b) ≡ true
line_by b (escape c e k l i) = ap (list_all in_line) e ∙ ap (λ (t : Bool). t && true) i
line_by b (itself e q s n) = ap (list_all in_line) e ∙ ap (λ (t : Bool). not t && true) n

raw_in_line : (bytes : List ℕ) → list_all in_line (raw bytes) ≡ true
raw_in_line [] = refl
raw_in_line (b ∷ bytes) =
    list_all-append in_line (letter_text b) (raw bytes) ∙ (ap (λ (t : Bool). t && list_all in_line (raw bytes)) (line_by b (letter_of b)) ∙ raw_in_line bytes)

string_read : (bytes rest : List ℕ) → words_of (34 ∷ ((raw bytes ++ (34 ∷ [])) ++ rest)) ≡ Text (raw bytes) ∷ words_of rest
string_read bytes rest =
    let group : (raw bytes ++ (34 ∷ [])) ++ rest ≡ raw bytes ++ (34 ∷ rest) = append_assoc (raw bytes) (34 ∷ []) rest in
    let size : length (raw bytes) + 1 ≡ length (raw bytes ++ (34 ∷ [])) = omega (arith, length-append (raw bytes) (34 ∷ [])) in
    let found : closing_quote false 0 ((raw bytes ++ (34 ∷ [])) ++ rest) ≡ Some (length (raw bytes)) =
    ap (closing_quote false 0) group ∙ (quote_found bytes rest 0 ∙ ap (λ p. Some p) (let z : 0 + length (raw bytes) ≡ length (raw bytes) = omega arith in z)) in
    let text : take (length (raw bytes)) ((raw bytes ++ (34 ∷ [])) ++ rest) ≡ raw bytes = ap (take (length (raw bytes))) group ∙ take-append_seam (raw bytes) (34 ∷ rest) in
    word_here start.Text 34 (raw bytes ++ (34 ∷ [])) rest (Text (raw bytes)) refl
    (ap (option_map (text_front ((raw bytes ++ (34 ∷ [])) ++ rest))) found ∙ (λ i. Some (record { word = Text (text i); after = size i })))

pub string_spells : (bytes : List ℕ) → Spells (string_operand bytes) (Text (raw bytes) ∷ [])
string_spells bytes = record {
  reads = λ rest r. string_read bytes rest;
  one_line = list_all-append in_line (raw bytes) (34 ∷ []) ∙ ap (λ (t : Bool). t && true) (raw_in_line bytes);
}
