-- The longest string constant at the front of a text is the one up to its closing quote.
use Rattle.std.proofs.Common.{◌≡◌, ◌∙◌, sym, ap, refl, arith, ℕ, zero, suc, ◌+◌, ◌≤◌, ◌<◌, Bool, true, false, List, [], ◌∷◌, length, take, subst}
use Rattle.std.specs.Prelude.{Option, Some, None, option_map}
use Rattle.mips_text.specs.Strings.{closes_string, opens_escape}
use Rattle.mips_text.specs.Fronts.{closing_quote}
use Rattle.mips_text.specs.Words.{enclosed}
use Rattle.mips_text.proofs.Longest.{IsLongest, HasNone}

-- the result of a search for the quote, from a place on
abbrev QuoteAt : Bool → ℕ → List ℕ → Option ℕ → Type 0
QuoteAt escaped place bs (Some q) = (n : ℕ) × (q ≡ place + n) × IsLongest (enclosed escaped) bs (take n bs) (n + 1)
QuoteAt escaped place bs None = HasNone (enclosed escaped) bs

open_none : (escaped : Bool) (b : ℕ) (bs : List ℕ) → closes_string escaped b ≡ false → HasNone (enclosed (opens_escape escaped b)) bs → HasNone (enclosed escaped) (b ∷ bs)
open_none escaped b bs e h zero l = refl
open_none escaped b bs e h (suc m) l = rw e (ap (option_map (λ raw. b ∷ raw)) (h m (omega arith)))

more_none : (escaped : Bool) (b : ℕ) (bs : List ℕ) (n : ℕ) → closes_string escaped b ≡ false → IsLongest (enclosed (opens_escape escaped b)) bs (take n bs) (n + 1) → (m : ℕ) → suc n + 1 < m → m ≤ length (b ∷ bs) → enclosed escaped (take m (b ∷ bs)) ≡ None
more_none escaped b bs n e h zero l w = absurd (omega arith)
more_none escaped b bs n e h (suc m) l w = rw e (ap (option_map (λ raw. b ∷ raw)) (h.longer m (omega arith) (omega arith)))

open_longest : (escaped : Bool) (b : ℕ) (bs : List ℕ) (n : ℕ) → closes_string escaped b ≡ false → IsLongest (enclosed (opens_escape escaped b)) bs (take n bs) (n + 1) → IsLongest (enclosed escaped) (b ∷ bs) (take (suc n) (b ∷ bs)) (suc n + 1)
open_longest escaped b bs n e h =
    let size : suc n + 1 ≡ suc (n + 1) = omega arith in
    let here : enclosed escaped (take (suc (n + 1)) (b ∷ bs)) ≡ Some (take (suc n) (b ∷ bs)) = rw e (ap (option_map (λ raw. b ∷ raw)) h.is_form) in
    record {
      within = omega (arith, h.within);
      is_form = ap (λ k. enclosed escaped (take k (b ∷ bs))) size ∙ here;
      longer = λ m l w. more_none escaped b bs n e h m l w;
    }

closed_none : (escaped : Bool) (b : ℕ) (bs : List ℕ) → closes_string escaped b ≡ true → (m : ℕ) → 1 < m → m ≤ length (b ∷ bs) → enclosed escaped (take m (b ∷ bs)) ≡ None
closed_none escaped b bs e zero l w = absurd (omega arith)
closed_none escaped b bs e (suc zero) l w = absurd (omega arith)
closed_none escaped b [] e (suc (suc m)) l w = absurd (omega arith)
closed_none escaped b (c ∷ cs) e (suc (suc m)) l w = rw e refl

closed_longest : (escaped : Bool) (b : ℕ) (bs : List ℕ) → closes_string escaped b ≡ true → IsLongest (enclosed escaped) (b ∷ bs) [] 1
closed_longest escaped b bs e = record {
  within = omega arith;
  is_form = rw e refl;
  longer = λ m l w. closed_none escaped b bs e m l w;
}

open_at : (escaped : Bool) (place b : ℕ) (bs : List ℕ) (q : Option ℕ) → closes_string escaped b ≡ false → QuoteAt (opens_escape escaped b) (place + 1) bs q → QuoteAt escaped place (b ∷ bs) q
open_at escaped place b bs (Some q) e h = (suc h.0, omega (arith, h.1), open_longest escaped b bs h.0 e h.2)
open_at escaped place b bs None e h = open_none escaped b bs e h

quote_by : (escaped : Bool) (place b : ℕ) (bs : List ℕ) (t : Bool) → closes_string escaped b ≡ t → QuoteAt (opens_escape escaped b) (place + 1) bs (closing_quote (opens_escape escaped b) (place + 1) bs) → QuoteAt escaped place (b ∷ bs) (closing_quote escaped place (b ∷ bs))
quote_by escaped place b bs true e h = rw e (0, omega arith, closed_longest escaped b bs e)
quote_by escaped place b bs false e h = rw e (open_at escaped place b bs _ e h)

nothing_closed : (escaped : Bool) (m : ℕ) → enclosed escaped (take m []) ≡ None
nothing_closed escaped zero = refl
nothing_closed escaped (suc m) = refl

quote_at : (escaped : Bool) (place : ℕ) (bs : List ℕ) → QuoteAt escaped place bs (closing_quote escaped place bs)
quote_at escaped place [] = λ m l. nothing_closed escaped m
quote_at escaped place (b ∷ bs) = quote_by escaped place b bs (closes_string escaped b) refl (quote_at (opens_escape escaped b) (place + 1) bs)

-- the same, from the start on
abbrev pub IsQuote : List ℕ → Option ℕ → Type 0
IsQuote bs (Some n) = IsLongest (enclosed false) bs (take n bs) (n + 1)
IsQuote bs None = HasNone (enclosed false) bs

from_start : (bs : List ℕ) (q : Option ℕ) → QuoteAt false 0 bs q → IsQuote bs q
from_start bs (Some q) h =
    let e : q ≡ h.0 = omega (arith, h.1) in
    subst (λ (k : ℕ). IsLongest (enclosed false) bs (take k bs) (k + 1)) (sym e) h.2
from_start bs None h = h

pub quote_is : (bs : List ℕ) → IsQuote bs (closing_quote false 0 bs)
quote_is bs = from_start bs _ (quote_at false 0 bs)
