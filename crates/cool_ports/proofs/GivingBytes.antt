-- The bytes that a source (input stream) gave over several reads, followed by those that are left, are the bytes that it had before.
use Rattle.std.proofs.Common.{◌≡◌, ℕ, ◌+◌, ◌<◌, Bool, true, false, List, [], ◌∷◌, ◌++◌, replicate, refl, sym, ◌∙◌, ap, append_assoc}
use Rattle.std.specs.Prelude.{Option, Some, None, Ok, Err}
use Rattle.std.proofs.lemmas.List.{replicate_more}
use Rattle.cool_ports.specs.declared.Failed.{Failed}
use Rattle.cool_ports.specs.SourceBytes.{put_back}
use Rattle.cool_ports.specs.Taking.{with_front, GaveByte}

-- no bytes change nothing
pub front-nil : (left : Option (List ℕ)) → with_front [] left ≡ left
front-nil None = refl
front-nil (Some rest) = refl

-- some bytes before more are all of them
pub front-append : (a b : List ℕ) (left : Option (List ℕ)) → with_front a (with_front b left) ≡ with_front (a ++ b) left
front-append a b None = refl
front-append a b (Some rest) = ap Some (sym (append_assoc a b rest))

-- a byte that was taken is one byte in front
pub put_back-front : (byte : ℕ) (left : Option (List ℕ)) → put_back byte left ≡ with_front (byte ∷ []) left
unfolding put_back
put_back-front byte None = refl
put_back-front byte (Some rest) = refl

-- bytes before what a source had left that tells it are before what it has left
pub front-told : (front : List ℕ) (left : Option (List ℕ)) (input : List ℕ) → with_front front left ≡ Some input → (rest : List ℕ) × (left ≡ Some rest) × (input ≡ front ++ rest)
front-told front None input is = cc
front-told front (Some rest) input is = (rest, refl, cc)

-- A source gave zeros, so many that it had `before` left and has `after`.
pub record GaveZeros (before after : Option (List ℕ)) : Type 0 where
  pub zeros : ℕ
  pub gave : before ≡ with_front (replicate zeros 0) after

-- at the start it gave none
pub gave_none : (left : Option (List ℕ)) → GaveZeros left left
gave_none left = record { zeros = 0; gave = sym (front-nil left) }

-- a byte after the zeros
byte_after : (before : Option (List ℕ)) (rest : List ℕ) (byte : ℕ) → (z : GaveZeros before (Some (byte ∷ rest))) → before ≡ with_front (replicate z.zeros 0 ++ byte ∷ []) (Some rest)
byte_after before rest byte z = z.gave ∙ front-append (replicate z.zeros 0) (byte ∷ []) (Some rest)

-- one more zero
pub zeros_before : (before : Option (List ℕ)) (rest : List ℕ) (byte : ℕ) → byte ≡ 0 → GaveZeros before (Some (byte ∷ rest)) → GaveZeros before (Some rest)
zeros_before before rest byte zero_is z =
    let here : before ≡ with_front (replicate z.zeros 0 ++ 0 ∷ []) (Some rest) = byte_after before rest byte z ∙ ap (λ b. with_front (replicate z.zeros 0 ++ b ∷ []) (Some rest)) zero_is in
    record { zeros = z.zeros + 1; gave = here ∙ ap (λ zeros. with_front zeros (Some rest)) (replicate_more z.zeros 0) }

-- the end was answered before
pub next_is_past : (left : Option (List ℕ)) (ended : Bool) → ended ≡ true → GaveByte ended left (Ok None) ended left
next_is_past left true is = (refl, refl)
next_is_past left false is = cc

-- a byte came after zeros
pub next_is_some : (before : Option (List ℕ)) (rest : List ℕ) (was ended : Bool) (byte : ℕ) → was ≡ false → ended ≡ false → GaveZeros before (Some (byte ∷ rest)) → 0 < byte → GaveByte was before (Ok (Some byte)) ended (Some rest)
next_is_some before rest true ended byte was_is is z above = cc
next_is_some before rest false ended byte was_is is z above = (is, above, (z.zeros, byte_after before rest byte z))

-- the end came after zeros
pub next_is_end : (before : Option (List ℕ)) (rest : List ℕ) (was : Bool) → was ≡ false → GaveZeros before (Some rest) → rest ≡ [] → GaveByte was before (Ok None) true (Some rest)
next_is_end before rest true was_is z none = cc
next_is_end before rest false was_is z none = (refl, none, (z.zeros, z.gave))

-- a take failed after zeros
pub next_is_failed : (before after : Option (List ℕ)) (was ended : Bool) (failed : Failed) → was ≡ false → ended ≡ false → GaveZeros before after → GaveByte was before (Err failed) ended after
next_is_failed before after true ended failed was_is is z = cc
next_is_failed before after false ended failed was_is is z = (is, (z.zeros, z.gave))
