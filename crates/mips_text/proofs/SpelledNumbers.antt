-- If a number is printed in decimal and scanned again, the result is one token with the same number.
use Rattle.std.proofs.Common.{◌≡◌, ◌∙◌, ap, refl, arith, ℕ, suc, ◌+◌, ◌-◌, ◌*◌, ◌/◌, ◌%◌, ◌^◌, ◌≤◌, ◌<◌, ℤ, pos, negsuc, Bool, true, false, List, [], ◌∷◌, ◌++◌, length, take, min, if◌then◌else◌}
use Rattle.std.specs.Prelude.{Some, None, option_map, not, ◌&&◌, ◌==◌}
use Rattle.std.specs.Option.{option_or}
use Rattle.std.specs.List.{list_all, prefix_len}
use Rattle.std.specs.Char.{is_ascii_digit}
use Rattle.std.specs.Fmt.{decimal, signed_decimal}
use Rattle.std.proofs.lemmas.Fmt.{decimal_by_steps}
use Rattle.std.proofs.lemmas.List.Sums.{fold-append}
use Rattle.std.proofs.lemmas.List.Folds.{list_all-append}
use Rattle.std.proofs.Math.Seq.{take-append_seam}
use Rattle.std.proofs.lemmas.Bool.Decides.{nat_tests}
use Rattle.mips_text.specs.declared.class.Class.TheVariants as class
use Rattle.mips_text.specs.declared.class.Start.TheVariants as start
use Rattle.mips_text.specs.declared.span.Span.TheVariants as span
use Rattle.mips_text.specs.declared.numbers.TheConstants.{LARGEST}
use Rattle.mips_text.specs.Letters.{class_of, name_rest}
use Rattle.mips_text.specs.Words.{Word, Number, digit_value, value, words_of}
use Rattle.mips_text.specs.Fronts.{decimal_found, decimal_of, digits_front, hexadecimal_found, magnitude_found, minus_front, takes}
use Rattle.mips_text.proofs.SpelledWords.{Spells, all_in_line, breaks, in_line, prefix_stop, stops, word_here}
use Rattle.std.proofs.lemmas.Bool.{and_parts}
use Rattle.lists.proofs.Numbers.{digit_byte, zero_less}
use Rattle.lists.proofs.TruthValues.{and_false}

-- decimal digits, one at the least, and their value
pub record Writes (n : ℕ) (ds : List ℕ) : Type 0 where
  pub digits : list_all is_ascii_digit ds ≡ true
  pub some : 0 < length ds
  pub value_is : value 10 ds ≡ n

one_value : (n : ℕ) → n < 10 → digit_value (48 + n) ≡ n
one_value n h = grind (arith, nat_tests)

writes_one : (n : ℕ) → n < 10 → Writes n ((48 + n) ∷ [])
writes_one n h = record {
  digits = ap (λ (t : Bool). t && true) (digit_byte n h);
  some = omega arith;
  value_is = let v : digit_value (48 + n) ≡ n = one_value n h in omega arith;
}

writes_more : (n : ℕ) (ds : List ℕ) → 10 ≤ n → Writes (n / 10) ds → Writes n (ds ++ ((48 + n % 10) ∷ []))
writes_more n ds l h =
    let low : n % 10 < 10 = omega arith in
    let v : digit_value (48 + n % 10) ≡ n % 10 = one_value (n % 10) low in
    record {
      digits = list_all-append is_ascii_digit ds ((48 + n % 10) ∷ []) ∙ (ap (λ (t : Bool). t && (is_ascii_digit (48 + n % 10) && true)) h.digits ∙ ap (λ (t : Bool). t && true) (digit_byte (n % 10) low));
      some = omega (arith, Rattle.std.proofs.Common.length-append ds ((48 + n % 10) ∷ []));
      value_is = fold-append (λ k byte. k * 10 + digit_value byte) 0 ds ((48 + n % 10) ∷ []) ∙ (let e : value 10 ds ≡ n / 10 = h.value_is in omega arith);
    }

pub decimal_writes : (n : ℕ) → n < 2 ^ 64 → Writes n (decimal n)
decimal_writes n h = decimal_by_steps Writes writes_one writes_more n h

-- a digit or a break is no `x`
digit_no_x : (b : ℕ) → is_ascii_digit b ≡ true → (b == 120) ≡ false
digit_no_x b h = grind (arith, nat_tests)

break_no_x : (b : ℕ) → not (name_rest b) ≡ true → (b == 120) ≡ false
break_no_x b h = grind (arith, nat_tests)

break_no_digit : (b : ℕ) → not (name_rest b) ≡ true → not (is_ascii_digit b) ≡ true
break_no_digit b h = grind (arith, nat_tests)

digits_stop : (rest : List ℕ) → breaks rest ≡ true → stops is_ascii_digit rest ≡ true
digits_stop [] h = refl
digits_stop (c ∷ cs) h = break_no_digit c h

second_is_no_x : (z x : ℕ) (bs : List ℕ) → (x == 120) ≡ false → hexadecimal_found (z ∷ x ∷ bs) ≡ None
second_is_no_x z x bs h = let t : (z == 48 && x == 120) ≡ false = ap (λ (t : Bool). z == 48 && t) h ∙ and_false (z == 48) in rw t refl

no_hexadecimal : (ds rest : List ℕ) → list_all is_ascii_digit ds ≡ true → 0 < length ds → breaks rest ≡ true → hexadecimal_found (ds ++ rest) ≡ None
no_hexadecimal [] rest h l g = absurd (omega arith)
no_hexadecimal (b ∷ []) [] h l g = refl
no_hexadecimal (b ∷ []) (c ∷ cs) h l g = second_is_no_x b c cs (break_no_x c g)
no_hexadecimal (b ∷ c ∷ ds) rest h l g =
    let behind = and_parts (is_ascii_digit b) (list_all is_ascii_digit (c ∷ ds)) h in
    let second = and_parts (is_ascii_digit c) (list_all is_ascii_digit ds) behind.1 in
    second_is_no_x b c (ds ++ rest) (digit_no_x c second.0)

-- the result for digits before a break
pub magnitude_read : (n : ℕ) (ds rest : List ℕ) → Writes n ds → breaks rest ≡ true → magnitude_found (ds ++ rest) ≡ Some (record { value = n; size = length ds })
magnitude_read n ds rest h g =
    let size : prefix_len (takes span.Digits) (ds ++ rest) ≡ length ds = prefix_stop is_ascii_digit ds rest h.digits (digits_stop rest g) in
    let found : decimal_found (ds ++ rest) ≡ decimal_of (length ds) (ds ++ rest) = ap (λ k. decimal_of k (ds ++ rest)) size in
    let some : decimal_of (length ds) (ds ++ rest) ≡ Some (record { value = value 10 (take (length ds) (ds ++ rest)); size = length ds }) =
    ap (λ (t : Bool). if t then Some (record { value = value 10 (take (length ds) (ds ++ rest)); size = length ds }) else None) (zero_less (length ds) h.some) in
    ap (λ o. option_or o (decimal_found (ds ++ rest))) (no_hexadecimal ds rest h.digits h.some g)
    ∙ (found ∙ (some ∙ ap (λ v. Some (record { value = v; size = length ds })) (ap (value 10) (take-append_seam ds rest) ∙ h.value_is)))

digit_class : (b : ℕ) → is_ascii_digit b ≡ true → class_of b ≡ class.Word start.Digit
digit_class b h = grind (arith, nat_tests)

digit_in_line : (b : ℕ) → is_ascii_digit b ≡ true → in_line b ≡ true
digit_in_line b h = grind (arith, nat_tests)

natural_read : (n : ℕ) (ds rest : List ℕ) → n ≤ LARGEST → Writes n ds → breaks rest ≡ true → words_of (ds ++ rest) ≡ Number (pos n) ∷ words_of rest
natural_read n [] rest l h g = absurd (omega (arith, h.some))
natural_read n (b ∷ bs) rest l h g =
    let first = and_parts (is_ascii_digit b) (list_all is_ascii_digit bs) h.digits in
    let cap : min n LARGEST ≡ n = omega arith in
    let size : length (b ∷ bs) - 1 ≡ length bs = omega arith in
    let e : option_map digits_front (magnitude_found (b ∷ (bs ++ rest))) ≡ Some (record { word = Number (pos (min n LARGEST)); after = length (b ∷ bs) - 1 }) = ap (option_map digits_front) (magnitude_read n (b ∷ bs) rest h g) in
    word_here start.Digit b bs rest (Number (pos n)) (digit_class b first.0)
    (e ∙ (λ i. Some (record { word = Number (pos (cap i)); after = size i })))

below_zero_read : (n : ℕ) (ds rest : List ℕ) → suc n ≤ LARGEST → Writes (suc n) ds → breaks rest ≡ true → words_of (45 ∷ (ds ++ rest)) ≡ Number (negsuc n) ∷ words_of rest
below_zero_read n ds rest l h g =
    let cap : min (suc n) LARGEST ≡ suc n = omega arith in
    word_here start.Minus 45 ds rest (Number (negsuc n)) refl
    (ap (option_map minus_front) (magnitude_read (suc n) ds rest h g) ∙ ap (λ k. Some (record { word = Number (Rattle.mips_text.specs.Words.negative k); after = length ds })) cap)

-- a number that is not past every range
abbrev pub IsSmall : ℤ → Type 0
IsSmall (pos n) = n ≤ LARGEST
IsSmall (negsuc n) = suc n ≤ LARGEST

pub number_spells : (z : ℤ) → IsSmall z → Spells (signed_decimal z) (Number z ∷ [])
number_spells (pos n) h =
    let w : Writes n (decimal n) = decimal_writes n (omega arith) in
    record {
      reads = λ rest r. natural_read n (decimal n) rest h w r;
      one_line = all_in_line is_ascii_digit digit_in_line (decimal n) w.digits;
    }
number_spells (negsuc n) h =
    let w : Writes (suc n) (decimal (suc n)) = decimal_writes (suc n) (omega arith) in
    record {
      reads = λ rest r. below_zero_read n (decimal (suc n)) rest h w r;
      one_line = all_in_line is_ascii_digit digit_in_line (decimal (suc n)) w.digits;
    }
