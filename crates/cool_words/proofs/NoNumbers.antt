-- If decimal digits do not parse as a number below 2^64, they denote no number within any bounds that the command line allows.
use Rattle.std.proofs.Common.{◌≡◌, ◌<◌, ◌^◌, ◌∙◌, sym, ap, refl, subst, arith, ℕ, Bool, true, false, List, [], ◌∷◌, None, Some}
use Rattle.std.specs.Prelude.{◌&&◌, if◌then◌else◌}
use Rattle.std.specs.List.{list_all}
use Rattle.std.specs.Char.{digit_value, is_ascii_digit}
use Rattle.std.specs.Str.Parse.{AllDigits, IsNumeral, digits_value, without_leading_plus}
use Rattle.std.proofs.lemmas.Str.Parse.{without_leading_plus_none}
use Rattle.cool_words.specs.Numbers.{is_number, is_within, number_in}

-- a digit's value is below 10
digit_below : (c : ℕ) → is_ascii_digit c ≡ true → digit_value c < 10
digit_below c e = grind arith

-- digits by the test are digits
all_digits : (ds : List ℕ) → list_all is_ascii_digit ds ≡ true → AllDigits 10 ds
all_digits [] e = tt
all_digits (c ∷ cs) e =
    let first : is_ascii_digit c ≡ true = grind (arith, e) in
    let rest : list_all is_ascii_digit cs ≡ true = grind (arith, e) in
    (digit_below c first, all_digits cs rest)

-- no digit is a plus
no_plus : (c : ℕ) (cs : List ℕ) → list_all is_ascii_digit (c ∷ cs) ≡ true → without_leading_plus (c ∷ cs) ≡ c ∷ cs
no_plus c cs e =
    let first : is_ascii_digit c ≡ true = grind (arith, e) in
    without_leading_plus_none (c ∷ cs) (λ plus. let bad : is_ascii_digit 43 ≡ true = ap is_ascii_digit (sym plus) ∙ first in absurd (grind (arith, bad)))

-- a value past the bounds is not within them
past_bounds : (b : Bool) (low high n : ℕ) → high < n → (b && is_within low high n) ≡ false
past_bounds b low high n past = grind arith

-- a number that is not below 2^64 exceeds a bound that is
past_64 : (n high : ℕ) → high < 2 ^ 64 → (n < 2 ^ 64 → ⊥) → high < n
past_64 n high fits fails = grind (arith, fails)

-- digits that do not parse are no number up to a bound of 64 bits
pub no_number : (low high : ℕ) (text : List ℕ) → high < 2 ^ 64 → list_all is_ascii_digit text ≡ true
    → ((IsNumeral 10 (without_leading_plus text) × digits_value 10 (without_leading_plus text) < 2 ^ 64) → ⊥) → None ≡ number_in low high text
no_number low high [] fits digits fails = refl
no_number low high (c ∷ cs) fits digits fails =
    let same = no_plus c cs digits in
    let numeral : IsNumeral 10 (c ∷ cs) = (omega arith, all_digits (c ∷ cs) digits) in
    let past : high < digits_value 10 (c ∷ cs) = past_64 _ high fits (λ small. fails (subst (λ ds. IsNumeral 10 ds × digits_value 10 ds < 2 ^ 64) (sym same) (numeral, small))) in
    sym (ap (λ b. if b then Some (digits_value 10 (c ∷ cs)) else None) (past_bounds (is_number (c ∷ cs)) low high _ past))
