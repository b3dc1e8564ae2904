-- The bytes that are read one after another up to a newline or the end of the input, without bytes 0, are the line that the semantics reads.
use Rattle.std.proofs.Common.{◌≡◌, ℕ, zero, suc, ◌<◌, Bool, true, false, List, [], ◌∷◌, ◌++◌, replicate, refl, sym, ◌∙◌, ap, append_assoc, append-nil, arith}
use Rattle.std.specs.Prelude.{Option, Some, None, Ok, Err, ◌==◌}
use Rattle.cool_ports.specs.declared.Failed.{Failed}
use Rattle.cool_ports.specs.Taking.{with_front, GaveByte}
use Rattle.cool_meaning.specs.BasicMethods.{Line, line_of}
use Rattle.cool_meaning.proofs.MoreSteps.{line_taken}

-- these bytes, and then a line
abbrev pub prepend : List ℕ → Line → Line
prepend said line = record { bytes = said ++ line.bytes; rest = line.rest }

-- bytes 0 are dropped
line-zeros : (k : ℕ) (more : List ℕ) → line_of (replicate k 0 ++ more) ≡ line_of more
line-zeros zero more = refl
line-zeros (suc k) more = line-zeros k more

-- another byte than 0 and the newline is of the line
line-byte : (b : ℕ) (more : List ℕ) → 0 < b → (b == 10) ≡ false → line_of (b ∷ more) ≡ prepend (b ∷ []) (line_of more)
line-byte b more above other =
    let some : (b == 0) ≡ false = grind arith in
    rw (some, other) refl

-- the input left after a line is the end of the input
leaves_by : (zero_byte newline : Bool) (b : ℕ) (more kept : List ℕ) → (b == 0) ≡ zero_byte → (b == 10) ≡ newline → more ≡ kept ++ (line_of more).rest → (front : List ℕ) × (b ∷ more ≡ front ++ (line_of (b ∷ more)).rest)
leaves_by true newline b more kept is _ more_is = (b ∷ kept, rw is (ap (λ bytes. b ∷ bytes) more_is))
leaves_by false true b more kept is ten more_is = (b ∷ [], rw (is, ten) refl)
leaves_by false false b more kept is ten more_is = (b ∷ kept, rw (is, ten) (ap (λ bytes. b ∷ bytes) more_is))

-- The bytes of a line so far came from an input, of which a rest is left; where the end was answered before, none was left.
pub record LineUpTo (was : Bool) (said input rest : List ℕ) : Type 0 where
  pub is : line_of input ≡ prepend said (line_of rest)
  pub ended : was ≡ true → rest ≡ []

-- at the start none came
pub line_begun : (was : Bool) (input : List ℕ) → (was ≡ true → input ≡ []) → LineUpTo was [] input input
line_begun was input ended = record { is = refl; ended = ended }

-- the bytes told in front
front_told : (front mid rest : List ℕ) → Some mid ≡ with_front front (Some rest) → mid ≡ front ++ rest
front_told front mid rest told = cc

-- bytes after zeros are those of the line
line_after_zeros : (mid rest : List ℕ) (zeros : ℕ) → Some mid ≡ with_front (replicate zeros 0) (Some rest) → line_of mid ≡ line_of rest
line_after_zeros mid rest zeros told = ap line_of (front_told _ mid rest told) ∙ line-zeros zeros rest

line_after_byte : (mid rest : List ℕ) (zeros byte : ℕ) → Some mid ≡ with_front (replicate zeros 0 ++ byte ∷ []) (Some rest) → line_of mid ≡ line_of (byte ∷ rest)
line_after_byte mid rest zeros byte told = ap line_of (front_told _ mid rest told ∙ append_assoc (replicate zeros 0) (byte ∷ []) rest) ∙ line-zeros zeros (byte ∷ rest)

-- a byte of the line came
pub line_more : (was ended : Bool) (byte : ℕ) (said input mid rest : List ℕ) → LineUpTo was said input mid → GaveByte was (Some mid) (Ok (Some byte)) ended (Some rest) → (byte == 10) ≡ false → LineUpTo was (said ++ byte ∷ []) input rest
line_more true ended byte said input mid rest l g other = absurd g
line_more false ended byte said input mid rest l (is, above, (zeros, told)) other = record {
  is = l.is ∙ ap (prepend said) (line_after_byte mid rest zeros byte told ∙ line-byte byte rest above other) ∙ ap (λ bytes. record { bytes = bytes; rest = (line_of rest).rest }) (sym (append_assoc said (byte ∷ []) (line_of rest).bytes));
  ended = λ was. absurd cc;
}

-- a newline ends the line
pub line_newline : (was ended : Bool) (said input mid rest : List ℕ) → LineUpTo was said input mid → GaveByte was (Some mid) (Ok (Some 10)) ended (Some rest) → line_of input ≡ record { bytes = said; rest = rest }
line_newline true ended said input mid rest l g = absurd g
line_newline false ended said input mid rest l (is, above, (zeros, told)) =
    l.is ∙ ap (prepend said) (line_after_byte mid rest zeros 10 told) ∙ ap (λ bytes. record { bytes = bytes; rest = rest }) (append-nil said)

-- the input's end ends the line
line_at_end : (said input mid : List ℕ) → line_of input ≡ prepend said (line_of mid) → line_of mid ≡ line_of [] → line_of input ≡ record { bytes = said; rest = [] }
line_at_end said input mid is none = is ∙ ap (prepend said) none ∙ ap (λ bytes. record { bytes = bytes; rest = [] }) (append-nil said)

pub line_end : (was ended : Bool) (said input mid rest : List ℕ) → LineUpTo was said input mid → GaveByte was (Some mid) (Ok None) ended (Some rest) → line_of input ≡ record { bytes = said; rest = rest }
line_end true ended said input mid rest l (is, same) =
    let none : mid ≡ [] = l.ended refl in
    let rest_none : rest ≡ [] = cc in
    rw rest_none (line_at_end said input mid l.is (ap line_of none))
line_end false ended said input mid rest l (is, at_end, (zeros, told)) =
    rw at_end (line_at_end said input mid l.is (line_after_zeros mid rest zeros told ∙ ap line_of at_end))

-- a take failed: what the line leaves is left
pub line_failed : (was ended : Bool) (failed : Failed) (said input mid rest : List ℕ) → LineUpTo was said input mid → GaveByte was (Some mid) (Err failed) ended (Some rest) → (kept : List ℕ) × (rest ≡ kept ++ (line_of input).rest)
line_failed true ended failed said input mid rest l g = absurd g
line_failed false ended failed said input mid rest l (is, (zeros, told)) =
    let later = line_taken rest in
    let same : (line_of input).rest ≡ (line_of rest).rest = ap (λ line. line.rest) (l.is ∙ ap (prepend said) (line_after_zeros mid rest zeros told)) in
    (later.0, rw same later.1)

-- a byte of the line came, and there was no memory for it
pub line_short : (was ended : Bool) (byte : ℕ) (said input mid rest : List ℕ) → LineUpTo was said input mid → GaveByte was (Some mid) (Ok (Some byte)) ended (Some rest) → (byte == 10) ≡ false → (kept : List ℕ) × (rest ≡ kept ++ (line_of input).rest)
line_short was ended byte said input mid rest l g other =
    let later = line_taken rest in
    let more = line_more was ended byte said input mid rest l g other in
    let same : (line_of input).rest ≡ (line_of rest).rest = ap (λ line. line.rest) more.is in
    (later.0, rw same later.1)

-- if a byte came, it is not said that the end was answered
pub still_ended : (was ended : Bool) (byte : ℕ) (before after : Option (List ℕ)) → GaveByte was before (Ok (Some byte)) ended after → ended ≡ was
still_ended true ended byte before after g = absurd g
still_ended false ended byte before after g = g.0
