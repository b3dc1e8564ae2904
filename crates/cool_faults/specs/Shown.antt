-- `shown` writes `?` for each byte of a character in a text that would control a terminal. Such a character is a control character of ASCII or Unicode,
-- which may begin an escape sequence, or one of Unicode's marks of text direction (its property Bidi_Control).
use Rattle.std.specs.Prelude.{◌≡◌, refl, ℕ, zero, suc, ◌-◌, Bool, ◌&&◌, ◌||◌, List, [], ◌∷◌, codes, nat_eq, if◌then◌else◌}
use Rattle.std.specs.{Char.{is_ascii_control}, Int.{is_in_range}}

-- a byte as it is shown by itself: a carriage return is a blank, and another control byte but tab a question mark
abbrev pub shown_byte : ℕ → ℕ
shown_byte b = if nat_eq b 9 then b else (if nat_eq b 13 then 32 else (if is_ascii_control b then 63 else b))

-- Two bytes of UTF-8 are a control character from U+0080 to U+009F, for example U+009B, which begins an escape sequence, or the direction mark U+061C.
abbrev pub is_obeyed_pair : ℕ → ℕ → Bool
is_obeyed_pair a b = (nat_eq a 194 && is_in_range 128 159 b) || (nat_eq a 216 && nat_eq b 156)

-- Three bytes of UTF-8 are a direction mark: U+200E, U+200F, U+202A to U+202E, or U+2066 to U+2069.
abbrev pub is_obeyed_triple : ℕ → ℕ → ℕ → Bool
is_obeyed_triple a b c =
    nat_eq a 226
    && ((nat_eq b 128 && (is_in_range 142 143 c || is_in_range 170 174 c))
    || (nat_eq b 129 && is_in_range 166 169 c))

-- the number of bytes of such a character at the front of a text; 0 where none stands there
abbrev pub obeyed : List ℕ → ℕ
obeyed [] = 0
obeyed (a ∷ []) = 0
obeyed (a ∷ b ∷ []) = if is_obeyed_pair a b then 2 else 0
obeyed (a ∷ b ∷ c ∷ rest) = if is_obeyed_pair a b then 2 else (if is_obeyed_triple a b c then 3 else 0)

-- the same, where so many bytes at the front are the rest of such a character
abbrev pub obeyed_from : ℕ → List ℕ → ℕ
obeyed_from zero text = obeyed text
obeyed_from (suc left) text = suc left

-- a byte as it is shown, where it is the first of so many bytes of such a character
abbrev pub shown_first : ℕ → ℕ → ℕ
shown_first zero b = shown_byte b
shown_first (suc left) b = 63

-- a text as it is shown, where so many bytes at its front are the rest of such a character
abbrev pub shown_from : ℕ → List ℕ → List ℕ
shown_from left [] = []
shown_from left (b ∷ bs) = shown_first (obeyed_from left (b ∷ bs)) b ∷ shown_from (obeyed_from left (b ∷ bs) - 1) bs

-- a text as it is shown
unfoldable pub shown : List ℕ → List ℕ
shown = shown_from 0

-- Worked examples: an escape sequence loses its effect, also behind the one character U+009B, and so does a mark of direction. Letters of UTF-8 stay, and so
-- does a byte that is not behind the first byte of such a character.
escape : shown (27 ∷ codes "[2J") ≡ codes "?[2J"
unfolding shown
escape = refl

line_end : shown (codes "a.cl\r\n") ≡ codes "a.cl ?"
unfolding shown
line_end = refl

long_escape : shown (194 ∷ 155 ∷ codes "2J") ≡ codes "??2J"
unfolding shown
long_escape = refl

direction : shown (97 ∷ 226 ∷ 128 ∷ 174 ∷ codes "b") ≡ codes "a???b"
unfolding shown
direction = refl

letters : shown (195 ∷ 169 ∷ 226 ∷ 130 ∷ 172 ∷ []) ≡ 195 ∷ 169 ∷ 226 ∷ 130 ∷ 172 ∷ []
unfolding shown
letters = refl

lone_byte : shown (155 ∷ codes "2J") ≡ 155 ∷ codes "2J"
unfolding shown
lone_byte = refl
