-- A text trimmed as the standard library defines it is the `trimmed` text of the description of a fix: the text without the white space around it.
use Rattle.std.proofs.Common.{◌≡◌, ℕ, List, drop, refl}
use Rattle.std.specs.List.{prefix_len}
use Rattle.std.specs.Char.{is_ascii_whitespace}
use Rattle.std.specs.Str.{IsTrimAscii}
use Rattle.std.proofs.lemmas.Str.Ascii.{trim_ascii_is}
use Rattle.cool_guess.specs.Words.{trimmed}

-- both are the same text
pub trimmed_is : (s r : List ℕ) → IsTrimAscii s r → r ≡ trimmed s
trimmed_is s r is = trim_ascii_is s r (drop (prefix_len is_ascii_whitespace s) s) refl is
