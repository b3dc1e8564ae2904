-- The properties of tokens that the parser and later phases may assume: names and constants are lexemes within the limits, source locations increase within a
-- file, and tokens take no more bytes than the file has.
use Rattle.std.specs.Prelude.{◌≡◌, ℕ, ◌+◌, ◌<◌, ◌≤◌, List, [], ◌∷◌, length, codes, Some, refl}
use Rattle.std.specs.List.{AllByRecursion}
use Rattle.cool_syntax.specs.declared.TheConstants.{MOST_BYTES, MOST_SOURCE_BYTES}
use Rattle.cool_syntax.specs.declared.place.Place.{Place}
use Rattle.cool_syntax.specs.declared.token.Token.{Token}
use Rattle.cool_syntax.specs.declared.token.TokenKind.{TokenKind}
use Rattle.cool_syntax.specs.declared.token.TokenKind.TheVariants as kind
use Rattle.cool_syntax.specs.Lexemes.{Lexeme, form}

-- An identifier's name, read as a text, is this identifier and so no keyword; integers and strings keep their limits, and no byte of
-- a string is 0.
abbrev pub IsWithinLimits : TokenKind → Type 0
IsWithinLimits (kind.TypeId name) = form name ≡ Some (Lexeme (kind.TypeId name))
IsWithinLimits (kind.ObjectId name) = form name ≡ Some (Lexeme (kind.ObjectId name))
IsWithinLimits (kind.Int n) = n ≤ 2147483647
IsWithinLimits (kind.Str bytes) = (length bytes ≤ MOST_BYTES) × AllByRecursion (λ b. 1 ≤ b) bytes
IsWithinLimits (kind.Key k) = Unit {0}
IsWithinLimits (kind.Sign s) = Unit {0}

-- a place in one of so many files, on one of the lines that a file of the most bytes can have
abbrev pub IsPlaced : ℕ → Place → Type 0
IsPlaced files at = (at.file < files) × (at.line ≤ MOST_SOURCE_BYTES + 1)

abbrev pub AreWithinLimits : ℕ → List Token → Type 0
AreWithinLimits files = AllByRecursion (λ t. IsPlaced files t.at × IsWithinLimits t.kind)

-- The tokens are in this file, each after the one before, and the first is at this byte or after it.
abbrev pub AreRising : ℕ → ℕ → List Token → Type 0
AreRising file low [] = Unit {0}
AreRising file low (t ∷ ts) = (t.at.file ≡ file) × (low ≤ t.at.byte) × AreRising file (t.at.byte + 1) ts

-- a lower bound on the bytes of a token in the text: those of a type's name, those of a string and one quote, and one for any other token
abbrev pub weight : TokenKind → ℕ
weight (kind.TypeId name) = length name
weight (kind.Str bytes) = 1 + length bytes
weight (kind.ObjectId name) = 1
weight (kind.Int n) = 1
weight (kind.Key k) = 1
weight (kind.Sign s) = 1

abbrev pub weights : List Token → ℕ
weights [] = 0
weights (t ∷ ts) = weight t.kind + weights ts

-- Worked example: of the five bytes of `"a\\n"` its constant has two.
weight_of_string : weight (kind.Str (codes "a\n")) ≡ 3
weight_of_string = refl
