-- `unescaped` gives the bytes that a string in assembly stands for: each byte stands for itself, except for a backslash with the byte behind it.
use Rattle.std.specs.Prelude.{◌≡◌, refl, ℕ, Bool, true, false, not, ◌==◌, ◌&&◌, ◌||◌, if◌then◌else◌, List, [], ◌∷◌, codes}

-- a backslash that begins an escape, where none is open
abbrev pub opens_escape : Bool → ℕ → Bool
opens_escape escaped byte = not escaped && byte == 92

-- the quote that ends a string
abbrev pub closes_string : Bool → ℕ → Bool
closes_string escaped byte = not escaped && byte == 34

-- the bytes allowed behind a backslash: n, t, a quote, a backslash
abbrev pub is_known : Bool → ℕ → Bool
is_known escaped byte = not escaped || (byte == 110 || (byte == 116 || (byte == 34 || byte == 92)))

-- all escapes of these bytes are known, after a backslash or not
abbrev pub all_known : Bool → List ℕ → Bool
all_known escaped [] = not escaped
all_known escaped (b ∷ bs) = if is_known escaped b then all_known (opens_escape escaped b) bs else false

-- n stands for a newline behind a backslash, and t for a tab
abbrev pub letter : Bool → ℕ → ℕ
letter escaped byte = if escaped && byte == 110 then 10 else (if escaped && byte == 116 then 9 else byte)

-- the bytes that these stand for, after a backslash or not
abbrev pub unescaped : Bool → List ℕ → List ℕ
unescaped escaped [] = []
unescaped escaped (b ∷ bs) = if opens_escape escaped b then unescaped true bs else letter escaped b ∷ unescaped false bs

-- worked examples

known_escapes : unescaped false (codes "a\\n\\\"\\\\\\t") ≡ codes "a\n\"\\\t"
known_escapes = refl

unknown_escape : all_known false (codes "a\\q\\n") ≡ false
unknown_escape = refl
