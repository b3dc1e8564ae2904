-- In a binary search for the number of tokens before a place, a token before this place gives a lower bound of that number, and any other token gives an
-- upper bound.
use Rattle.std.proofs.Common.{◌≡◌, ℕ, zero, suc, ◌+◌, ◌<◌, ◌≤◌, Bool, true, false, cond, List, [], ◌∷◌, length, get_or, ap, ◌∙◌, refl, arith}
use Rattle.std.specs.Prelude.{nat_lt}
use Rattle.std.proofs.lemmas.Bool.{lt-ltb, le-ltb}
use Rattle.std.proofs.lemmas.List.Sums.{sum_by-cons}
use Rattle.cool_syntax.specs.declared.place.Place.{Place}
use Rattle.cool_syntax.specs.declared.token.Token.{Token}
use Rattle.cool_syntax.specs.TokenFacts.{AreRising}
use Rattle.cool_extents.specs.FoundExtents.{number_of}

-- a token more is one before the place, or none
one_more : (t : Token) (ts : List Token) (at : Place) → number_of (t ∷ ts) at ≡ cond (nat_lt t.at.byte at.byte) 1 0 + number_of ts at
one_more t ts at = sum_by-cons (λ (u : Token). cond (nat_lt u.at.byte at.byte) 1 0) t ts

one_before : (t : Token) (ts : List Token) (at : Place) → t.at.byte < at.byte → number_of (t ∷ ts) at ≡ 1 + number_of ts at
one_before t ts at less = one_more t ts at ∙ ap (λ (b : Bool). cond b 1 0 + number_of ts at) (lt-ltb t.at.byte at.byte less)

one_behind : (t : Token) (ts : List Token) (at : Place) → at.byte ≤ t.at.byte → number_of (t ∷ ts) at ≡ 0 + number_of ts at
one_behind t ts at more = one_more t ts at ∙ ap (λ (b : Bool). cond b 1 0 + number_of ts at) (le-ltb t.at.byte at.byte more)

at_most_one : (b : Bool) → cond b 1 0 ≤ 1
at_most_one true = omega arith
at_most_one false = omega arith

-- the token of a number stands at the first byte or after it
from_low : (file low : ℕ) (ts : List Token) (k : ℕ) (d : Token) → AreRising file low ts → k < length ts → low ≤ (get_or ts k d).at.byte
from_low file low [] k d h within = absurd (omega arith)
from_low file low (u ∷ ts) zero d h within = h.1
from_low file low (u ∷ ts) (suc k) d h within = let more = from_low file (u.at.byte + 1) ts k d h.2 (omega arith) in omega (arith, h.1, more)

-- no token stands before a place at the first byte or before it
none_before : (file low : ℕ) (ts : List Token) (at : Place) → AreRising file low ts → at.byte ≤ low → number_of ts at ≡ 0
none_before file low [] at h less = refl
none_before file low (u ∷ ts) at h less =
    let rest = none_before file (u.at.byte + 1) ts at h.2 (omega (arith, h.1)) in
    omega (arith, one_behind u ts at (omega (arith, h.1)), rest)

-- if the token of a number stands before a place, so do those before it
pub low_is_less : (file low : ℕ) (ts : List Token) (at : Place) (k : ℕ) (d : Token) → AreRising file low ts → k < length ts → (get_or ts k d).at.byte < at.byte → k + 1 ≤ number_of ts at
low_is_less file low [] at k d h within less = absurd (omega arith)
low_is_less file low (u ∷ ts) at zero d h within less = omega (arith, one_before u ts at less)
low_is_less file low (u ∷ ts) at (suc k) d h within less =
    let later = from_low file (u.at.byte + 1) ts k d h.2 (omega arith) in
    let rest = low_is_less file (u.at.byte + 1) ts at k d h.2 (omega arith) less in
    omega (arith, one_before u ts at (omega (arith, later, less)), rest)

-- if the token of a number does not stand before a place, no more do than those before it
pub high_is_more : (file low : ℕ) (ts : List Token) (at : Place) (k : ℕ) (d : Token) → AreRising file low ts → k < length ts → at.byte ≤ (get_or ts k d).at.byte → number_of ts at ≤ k
high_is_more file low [] at k d h within more = absurd (omega arith)
high_is_more file low (u ∷ ts) at zero d h within more =
    let none = none_before file (u.at.byte + 1) ts at h.2 (omega (arith, more)) in
    omega (arith, one_behind u ts at more, none)
high_is_more file low (u ∷ ts) at (suc k) d h within more =
    let rest = high_is_more file (u.at.byte + 1) ts at k d h.2 (omega arith) more in
    omega (arith, one_more u ts at, at_most_one (nat_lt u.at.byte at.byte), rest)
