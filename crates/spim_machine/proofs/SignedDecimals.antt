-- If a 32-bit word is printed as a signed number, the text is the decimal text that the definition gives.
use Rattle.std.proofs.Common.{◌≡◌, ◌∙◌, ap, ℕ, ◌-◌, ◌<◌, true, false, List, length, ℤ, pos, negsuc, w32, Bool, refl, if◌then◌else◌, arith}
use Rattle.std.specs.Int.{cast_signed, cast_unsigned}
use Rattle.std.specs.Fmt.{signed_decimal}
use Rattle.std.proofs.lemmas.Int.{of_z-to_z}
use Rattle.std.proofs.lemmas.Fmt.{decimal_nonempty}
use Rattle.mips_isa.specs.Machine.{is_negative}
use Rattle.mips_isa.specs.Calls.{signed}

-- the signed number of the code is that of the definition
signed_is : (a : ℕ) → a < 4294967296 → cast_signed w32 a ≡ signed a
signed_is a small = grind arith

-- the text of a word, as the code prints it
pub text_of_word : (a word : ℕ) (z : ℤ) (text : List ℕ) → a ≡ word → a < 4294967296 → z ≡ cast_signed w32 a
    → text ≡ signed_decimal (cast_signed w32 (cast_unsigned w32 z)) → text ≡ signed_decimal (signed word)
text_of_word a word z text same small z_is text_is =
    text_is
    ∙ ap (λ n. signed_decimal (cast_signed w32 (cast_unsigned w32 n))) z_is
    ∙ ap (λ n. signed_decimal (cast_signed w32 n)) (of_z-to_z w32 a small)
    ∙ ap signed_decimal (signed_is a small)
    ∙ ap (λ n. signed_decimal (signed n)) same

-- a decimal is not empty, with a sign or without
not_empty : (negative : Bool) (a : ℕ) → a < 4294967296 → 0 < length (signed_decimal (if negative then negsuc (4294967295 - a) else pos a))
not_empty true a small = omega arith
not_empty false a small = decimal_nonempty a (omega (arith, small))

-- and so the text is not
pub text_not_empty : (a : ℕ) (z : ℤ) (text : List ℕ) → a < 4294967296 → z ≡ cast_signed w32 a
    → text ≡ signed_decimal (cast_signed w32 (cast_unsigned w32 z)) → 0 < length text
text_not_empty a z text small z_is text_is = rw (text_of_word a a z text refl small z_is text_is) (not_empty (is_negative a) a small)
