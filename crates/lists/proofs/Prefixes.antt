-- A list of bytes is a suffix of itself, and stays one if more bytes come before the whole.
use Rattle.std.proofs.Common.{ℕ, List, [], ◌++◌, refl, sym, ap, ◌∙◌, append_assoc}
use Rattle.lists.specs.Prefixes.{IsSuffix}

-- they end themselves
pub suffix_same : (whole : List ℕ) → IsSuffix whole whole
suffix_same whole = ([], refl)

-- and what has more before it
pub suffix_more : (back whole front : List ℕ) → IsSuffix back whole → IsSuffix back (front ++ whole)
suffix_more back whole front h = (front ++ h.0, ap (λ l. front ++ l) h.1 ∙ sym (append_assoc front h.0 back))

pub suffix_then : (back middle whole : List ℕ) → IsSuffix back middle → IsSuffix middle whole → IsSuffix back whole
suffix_then back middle whole h k = (k.0 ++ h.0, k.1 ∙ ap (λ l. k.0 ++ l) h.1 ∙ sym (append_assoc k.0 h.0 back))
