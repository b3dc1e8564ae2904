-- `lexeme_size` is the size of the lexeme that any bytes begin with, valid or not: a string, a sign of two bytes, a name or number, or one byte.
use Rattle.std.specs.Prelude.{◌≡◌, ℕ, ◌+◌, Bool, true, false, ◌&&◌, ◌||◌, ◌==◌, if◌then◌else◌, List, [], ◌∷◌, codes, refl}
use Rattle.std.specs.List.{prefix_len}
use Rattle.cool_syntax.specs.Lexemes.{is_in_word}

-- The size of a string that begins with these bytes: up to its closing quote, or to the end of its line. A byte behind a backslash is a part of it.
abbrev pub string_size : (escaped : Bool) → List ℕ → ℕ
string_size escaped [] = 0
string_size escaped (b ∷ bs) = if escaped then 1 + string_size false bs else (if b == 34 then 1 else (if b == 10 then 0 else 1 + string_size (b == 92) bs))

-- `<-`, `<=` and `=>`
abbrev pub is_pair : List ℕ → Bool
is_pair (a ∷ b ∷ bs) = (a == 60 && (b == 45 || b == 61)) || (a == 61 && b == 62)
is_pair _ = false

abbrev pub lexeme_size : List ℕ → ℕ
lexeme_size [] = 0
lexeme_size (b ∷ bs) =
    if b == 34 then string_size true (b ∷ bs)
    else (if is_pair (b ∷ bs) then 2
    else (if is_in_word b then prefix_len is_in_word (b ∷ bs) else 1))

-- Worked examples: the second string is not closed.
closed_string : lexeme_size (codes "\"a\\\"b\" c") ≡ 6
closed_string = refl

open_string : lexeme_size (codes "\"ab\nc\"") ≡ 3
open_string = refl

stray_name : lexeme_size (codes "_a1 b") ≡ 3
stray_name = refl
