-- The scanner finds the longest decimal or hexadecimal number without a sign at the front of a text, or reports that no number stands there.
use Rattle.std.proofs.Common.{◌≡◌, ◌∙◌, ap, refl, arith, ℕ, zero, suc, ◌+◌, ◌≤◌, ◌<◌, ◌⊎◌, ⊎_elim, Bool, true, false, List, [], ◌∷◌, length, take, nat_lt, if◌then◌else◌}
use Rattle.std.specs.Prelude.{Option, Some, None, ◌&&◌, ◌==◌}
use Rattle.std.specs.Option.{option_or}
use Rattle.std.specs.List.{list_all, prefix_len}
use Rattle.std.specs.Char.{is_ascii_digit}
use Rattle.std.proofs.lemmas.Bool.Decides.{nat_tests}
use Rattle.mips_text.specs.declared.span.Span.TheVariants as span
use Rattle.mips_text.specs.Letters.{hex_digit}
use Rattle.mips_text.specs.Fronts.{Magnitude, takes, decimal_found, hexadecimal_of, hexadecimal_found, magnitude_found}
use Rattle.mips_text.specs.Words.{value, some_all, decimal, hexadecimal, magnitude}
use Rattle.mips_text.proofs.Longest.{IsLongest, HasNone}
use Rattle.mips_text.proofs.LongestWords.{none_left, some_longest, some_none}
use Rattle.lists.proofs.Numbers.{zero_less, none_or_some}
use Rattle.lists.proofs.TruthValues.{and_false, and_second}

-- the number that is found is the longest of a form, or there is none
abbrev pub IsFound : (List ℕ → Option ℕ) → List ℕ → Option Magnitude → Type 0
IsFound form bs (Some m) = IsLongest form bs m.value m.size
IsFound form bs None = HasNone form bs

-- digits
decimal_is : (bs : List ℕ) → IsFound decimal bs (decimal_found bs)
decimal_is bs =
    let n : ℕ = prefix_len (takes span.Digits) bs in
    ⊎_elim (λ h. rw (zero_less n h) (some_longest is_ascii_digit (value 10) bs h))
    (λ h. rw (none_left n h) (some_none is_ascii_digit (value 10) bs h))
    (none_or_some n)

-- a form of two bytes more
two_more_none : (form g : List ℕ → Option ℕ) (z x : ℕ) (ds : List ℕ) → ((xs : List ℕ) → form (z ∷ x ∷ xs) ≡ g xs) → form [] ≡ None → form (z ∷ []) ≡ None → HasNone g ds → HasNone form (z ∷ x ∷ ds)
two_more_none form g z x ds same e f h zero l = e
two_more_none form g z x ds same e f h (suc zero) l = f
two_more_none form g z x ds same e f h (suc (suc m)) l = same (take m ds) ∙ h m (omega arith)

two_more_longer : (form g : List ℕ → Option ℕ) (z x : ℕ) (ds : List ℕ) (v n : ℕ) → ((xs : List ℕ) → form (z ∷ x ∷ xs) ≡ g xs) → IsLongest g ds v n → (m : ℕ) → n + 2 < m → m ≤ length (z ∷ x ∷ ds) → form (take m (z ∷ x ∷ ds)) ≡ None
two_more_longer form g z x ds v n same h zero l w = absurd (omega arith)
two_more_longer form g z x ds v n same h (suc zero) l w = absurd (omega arith)
two_more_longer form g z x ds v n same h (suc (suc m)) l w = same (take m ds) ∙ h.longer m (omega arith) (omega arith)

two_more : (form g : List ℕ → Option ℕ) (z x : ℕ) (ds : List ℕ) (v n : ℕ) → ((xs : List ℕ) → form (z ∷ x ∷ xs) ≡ g xs) → IsLongest g ds v n → IsLongest form (z ∷ x ∷ ds) v (n + 2)
two_more form g z x ds v n same h =
    let size : n + 2 ≡ suc (suc n) = omega arith in
    record {
      within = omega (arith, h.within);
      is_form = ap (λ k. form (take k (z ∷ x ∷ ds))) size ∙ (same (take n ds) ∙ h.is_form);
      longer = λ m l w. two_more_longer form g z x ds v n same h m l w;
    }

-- `0x` and digits are no decimal number
x_is_no_digit : (x : ℕ) → (x == 120) ≡ true → is_ascii_digit x ≡ false
x_is_no_digit x h = grind (arith, nat_tests)

and_no : (a b : Bool) → (a && (false && b)) ≡ false
and_no true b = refl
and_no false b = refl

no_decimal : (z x : ℕ) (ds : List ℕ) → (x == 120) ≡ true → (k : ℕ) → 2 ≤ k → decimal (take k (z ∷ x ∷ ds)) ≡ None
no_decimal z x ds h zero l = absurd (omega arith)
no_decimal z x ds h (suc zero) l = absurd (omega arith)
no_decimal z x ds h (suc (suc k)) l =
    let not_all : list_all is_ascii_digit (z ∷ x ∷ take k ds) ≡ false =
    ap (λ (t : Bool). is_ascii_digit z && (t && list_all is_ascii_digit (take k ds))) (x_is_no_digit x h) ∙ and_no (is_ascii_digit z) (list_all is_ascii_digit (take k ds)) in
    let none : some_all is_ascii_digit (z ∷ x ∷ take k ds) ≡ false = ap (λ (t : Bool). nat_lt 0 (length (z ∷ x ∷ take k ds)) && t) not_all ∙ and_false (nat_lt 0 (length (z ∷ x ∷ take k ds))) in
    ap (λ (t : Bool). if t then Some (value 10 (z ∷ x ∷ take k ds)) else None) none

-- the result for a hexadecimal number, which is no decimal one
abbrev IsHexadecimal : List ℕ → Option Magnitude → Type 0
IsHexadecimal bs (Some m) = IsLongest hexadecimal bs m.value m.size × (2 ≤ m.size) × ((k : ℕ) → 2 ≤ k → decimal (take k bs) ≡ None)
IsHexadecimal bs None = HasNone hexadecimal bs

nothing_none : (m : ℕ) → hexadecimal (take m []) ≡ None
nothing_none zero = refl
nothing_none (suc m) = refl

one_none : (z m : ℕ) → hexadecimal (take m (z ∷ [])) ≡ None
one_none z zero = refl
one_none z (suc zero) = refl
one_none z (suc (suc m)) = refl

hexadecimal_by : (z x : ℕ) (ds : List ℕ) (t : Bool) → (z == 48 && x == 120) ≡ t → IsHexadecimal (z ∷ x ∷ ds) (if t then hexadecimal_of (prefix_len (takes span.HexDigits) ds) ds else None)
hexadecimal_by z x ds true h =
    let n : ℕ = prefix_len (takes span.HexDigits) ds in
    let same : (xs : List ℕ) → hexadecimal (z ∷ x ∷ xs) ≡ (if some_all hex_digit xs then Some (value 16 xs) else None) =
    λ xs. ap (λ (t : Bool). if t && some_all hex_digit xs then Some (value 16 xs) else None) h in
    ⊎_elim (λ l. rw (zero_less n l) (two_more hexadecimal _ z x ds _ n same (some_longest hex_digit (value 16) ds l), omega arith, no_decimal z x ds (and_second (z == 48) (x == 120) h)))
    (λ l. rw (none_left n l) (two_more_none hexadecimal _ z x ds same refl refl (some_none hex_digit (value 16) ds l)))
    (none_or_some n)
hexadecimal_by z x ds false h =
    let same : (xs : List ℕ) → hexadecimal (z ∷ x ∷ xs) ≡ None =
    λ xs. ap (λ (t : Bool). if t && some_all hex_digit xs then Some (value 16 xs) else None) h in
    two_more_none hexadecimal (λ xs. None) z x ds same refl refl (λ m l. refl)

hexadecimal_is : (bs : List ℕ) → IsHexadecimal bs (hexadecimal_found bs)
hexadecimal_is [] = λ m l. nothing_none m
hexadecimal_is (z ∷ []) = λ m l. one_none z m
hexadecimal_is (z ∷ x ∷ ds) = hexadecimal_by z x ds (z == 48 && x == 120) refl

-- both together
or_none : (o : Option ℕ) → option_or o None ≡ o
or_none (Some v) = refl
or_none None = refl

decimal_alone : (bs : List ℕ) (o : Option Magnitude) → HasNone hexadecimal bs → IsFound decimal bs o → IsFound magnitude bs o
decimal_alone bs (Some m) none h =
    let same : (k : ℕ) → k ≤ length bs → magnitude (take k bs) ≡ decimal (take k bs) = λ k l. ap (λ o. option_or (decimal (take k bs)) o) (none k l) ∙ or_none (decimal (take k bs)) in
    record {
      within = h.within;
      is_form = same m.size h.within ∙ h.is_form;
      longer = λ k l w. same k w ∙ h.longer k l w;
    }
decimal_alone bs None none h = λ k l. ap (λ o. option_or (decimal (take k bs)) o) (none k l) ∙ (or_none (decimal (take k bs)) ∙ h k l)

magnitude_by : (bs : List ℕ) (o d : Option Magnitude) → IsHexadecimal bs o → IsFound decimal bs d → IsFound magnitude bs (option_or o d)
magnitude_by bs (Some m) d h e = record {
  within = h.0.within;
  is_form = ap (λ x. option_or x (hexadecimal (take m.size bs))) (h.2 m.size h.1) ∙ h.0.is_form;
  longer = λ k l w. ap (λ x. option_or x (hexadecimal (take k bs))) (h.2 k (omega (arith, h.1))) ∙ h.0.longer k l w;
}
magnitude_by bs None d h e = decimal_alone bs d h e

-- the longest number without a sign is the one that is found
pub magnitude_is : (bs : List ℕ) → IsFound magnitude bs (magnitude_found bs)
magnitude_is bs = magnitude_by bs (hexadecimal_found bs) (decimal_found bs) (hexadecimal_is bs) (decimal_is bs)
