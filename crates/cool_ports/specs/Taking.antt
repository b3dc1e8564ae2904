-- `Took` relates two states of a source (an input stream): the bytes that were taken between them, and whether its end was reached.
use Rattle.std.specs.Prelude.{◌≡◌, ℕ, ◌+◌, ◌<◌, Bool, true, false, List, [], ◌∷◌, ◌++◌, replicate, Option, Some, None, Result, Ok, Err}
use Rattle.cool_ports.specs.declared.Failed.{Failed}
use Rattle.cool_ports.specs.Answers.{Past, Leaves}
use Rattle.cool_ports.specs.SourceBytes.{IsAtEnd}

-- the bytes that a source had left before it gave these
abbrev pub with_front : List ℕ → Option (List ℕ) → Option (List ℕ)
with_front front None = None
with_front front (Some rest) = Some (front ++ rest)

-- the number of times that the end was answered, from whether it had been before, and is now
abbrev pub EndsOnce : Bool → Bool → List ℕ → ℕ → ℕ → Option (List ℕ) → Type 0
EndsOnce true is front before after left = (is ≡ true) × (front ≡ []) × (after ≡ before)
EndsOnce false true front before after left = (after ≡ before + 1) × IsAtEnd left
EndsOnce false false front before after left = after ≡ before

-- The bytes taken from a source between two points, and then perhaps its end, which is asked for once. `was` and `is` say whether the end was answered at
-- the first point and at the second; if it was at the first, the source is not asked. If a source tells what it has left, these bytes were the first of it,
-- and nothing is left after it answered its end.
pub record Took (was is : Bool) (before after : Past) (left left' : Option (List ℕ)) : Type 0 where
  pub front : List ℕ
  pub given : after.given ≡ before.given ++ front
  pub told : left ≡ with_front front left'
  pub ends : EndsOnce was is front before.ends after.ends left'

-- The statement holds for each input that the source may have had, and the rest of that input.
abbrev pub OfAnyInput : Past → Past → (Option (List ℕ) → Option (List ℕ) → Type 0) → Type 0
OfAnyInput before after holds = (input rest : List ℕ) → Leaves before after input rest → holds (Some input) (Some rest)

-- The next byte other than 0 was asked for, where the end was answered before or not: it came after zeros, or the end was
-- answered, or a take failed. Where the end was answered before, the source is not asked.
abbrev pub GaveByte : Bool → Option (List ℕ) → Result (Option ℕ) Failed → Bool → Option (List ℕ) → Type 0
GaveByte true before (Ok None) ended after = (ended ≡ true) × (after ≡ before)
GaveByte true before (Ok (Some byte)) ended after = ⊥
GaveByte true before (Err failed) ended after = ⊥
GaveByte false before (Ok None) ended after =
    (ended ≡ true) × IsAtEnd after × ((zeros : ℕ) × (before ≡ with_front (replicate zeros 0) after))
GaveByte false before (Ok (Some byte)) ended after =
    (ended ≡ false) × (0 < byte) × ((zeros : ℕ) × (before ≡ with_front (replicate zeros 0 ++ byte ∷ []) after))
GaveByte false before (Err failed) ended after = (ended ≡ false) × ((zeros : ℕ) × (before ≡ with_front (replicate zeros 0) after))
