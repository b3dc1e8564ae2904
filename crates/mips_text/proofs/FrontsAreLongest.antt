-- The scanning functions return the longest token at each position of a line of assembly, as the definition demands.
use Rattle.std.proofs.Common.{◌≡◌, ◌∙◌, sym, ap, refl, arith, ℕ, zero, suc, ◌-◌, ◌≤◌, ◌<◌, ◌⊎◌, ⊎_elim, Bool, false, List, [], ◌∷◌, take, if◌then◌else◌}
use Rattle.std.specs.Prelude.{Option, Some, None, option_map}
use Rattle.std.specs.List.{prefix_len}
use Rattle.std.specs.Char.{is_ascii_alphanumeric}
use Rattle.mips_text.specs.declared.class.Start.{Start}
use Rattle.mips_text.specs.declared.class.Start.TheVariants as start
use Rattle.mips_text.specs.declared.span.Span.TheVariants as span
use Rattle.mips_text.specs.Letters.{name_rest}
use Rattle.mips_text.specs.Words.{Name, Register, Text, Colon, Open, Close, front, magnitude, enclosed, number, number_below_zero}
use Rattle.mips_text.specs.Fronts.{Magnitude, takes, front_found, digits_front, minus_front, text_front}
use Rattle.mips_text.proofs.Longest.{IsLongest, behind_longest, behind_none, front_fails, front_finds, seen_longest, seen_none}
use Rattle.mips_text.proofs.LongestWords.{all_longest, alone_longest, none_left, some_longest, some_none}
use Rattle.mips_text.proofs.LongestStrings.{IsQuote, quote_is}
use Rattle.mips_text.proofs.LongestNumbers.{IsFound, magnitude_is}
use Rattle.lists.proofs.Numbers.{zero_less, none_or_some}

name_is : (b : ℕ) (bs : List ℕ) → front start.Name b bs ≡ front_found start.Name b bs
name_is b bs = front_finds start.Name b bs _ _ (all_longest name_rest (λ xs. Name (b ∷ xs)) bs)

register_is : (b : ℕ) (bs : List ℕ) → front start.Register b bs ≡ front_found start.Register b bs
register_is b bs =
    let n : ℕ = prefix_len (takes span.Register) bs in
    ⊎_elim (λ h. front_finds start.Register b bs _ _ (some_longest is_ascii_alphanumeric Register bs h) ∙ sym (ap (λ (t : Bool). if t then Some (record { word = Register (take n bs); after = n }) else None) (zero_less n h)))
    (λ h. front_fails start.Register b bs (some_none is_ascii_alphanumeric Register bs h) ∙ sym (ap (λ (t : Bool). if t then Some (record { word = Register (take n bs); after = n }) else None) (none_left n h)))
    (none_or_some n)

text_by : (b : ℕ) (bs : List ℕ) (q : Option ℕ) → IsQuote bs q → front start.Text b bs ≡ option_map (text_front bs) q
text_by b bs (Some n) h = front_finds start.Text b bs _ _ (seen_longest Text (enclosed false) bs _ _ h)
text_by b bs None h = front_fails start.Text b bs (seen_none Text (enclosed false) bs h)

minus_by : (b : ℕ) (bs : List ℕ) (o : Option Magnitude) → IsFound magnitude bs o → front start.Minus b bs ≡ option_map minus_front o
minus_by b bs (Some m) h = front_finds start.Minus b bs _ _ (seen_longest number_below_zero magnitude bs _ _ h)
minus_by b bs None h = front_fails start.Minus b bs (seen_none number_below_zero magnitude bs h)

-- a number has a byte
no_number : (form : List ℕ → Option ℕ) (bs : List ℕ) (v n : ℕ) → form [] ≡ None → IsLongest form bs v n → 0 < n
no_number form bs v zero e h = absurd (let some : form [] ≡ Some v = h.is_form in cc)
no_number form bs v (suc n) e h = omega arith

digit_by : (b : ℕ) (bs : List ℕ) (v n : ℕ) → IsLongest magnitude (b ∷ bs) v n → front start.Digit b bs ≡ Some (digits_front (record { value = v; size = n }))
digit_by b bs v zero h = absurd (omega (arith, no_number magnitude (b ∷ bs) v 0 refl h))
digit_by b bs v (suc n) h =
    let size : suc n - 1 ≡ n = omega arith in
    front_finds start.Digit b bs _ _ (seen_longest number (λ xs. magnitude (b ∷ xs)) bs _ _ (behind_longest magnitude b bs v n h)) ∙ ap (λ k. Some (record { word = number v; after = k })) (sym size)

digits_by : (b : ℕ) (bs : List ℕ) (o : Option Magnitude) → IsFound magnitude (b ∷ bs) o → front start.Digit b bs ≡ option_map digits_front o
digits_by b bs (Some m) h = digit_by b bs m.value m.size h
digits_by b bs None h = front_fails start.Digit b bs (seen_none number (λ xs. magnitude (b ∷ xs)) bs (behind_none magnitude b bs h))

-- all classes
pub front_is : (s : Start) (b : ℕ) (bs : List ℕ) → front s b bs ≡ front_found s b bs
front_is start.Name b bs = name_is b bs
front_is start.Digit b bs = digits_by b bs _ (magnitude_is (b ∷ bs))
front_is start.Minus b bs = minus_by b bs _ (magnitude_is bs)
front_is start.Register b bs = register_is b bs
front_is start.Text b bs = text_by b bs _ (quote_is bs)
front_is start.Colon b bs = front_finds start.Colon b bs _ _ (alone_longest Colon bs)
front_is start.Open b bs = front_finds start.Open b bs _ _ (alone_longest Open bs)
front_is start.Close b bs = front_finds start.Close b bs _ _ (alone_longest Close bs)
front_is start.Stray b bs = front_fails start.Stray b bs (λ m l. refl)
