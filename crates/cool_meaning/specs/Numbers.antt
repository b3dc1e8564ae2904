-- The numbers of Cool: signed 32-bit integers, exact arithmetic with an error if a result does not fit, and numbers read from text (the Cool manual, section
-- 8.3; the error for overflow is this compiler's rule).
use Rattle.std.specs.Prelude.{◌≡◌, refl, ℕ, ◌+◌, ◌-◌, ◌*◌, ◌%◌, ◌^◌, ℤ, pos, negsuc, Bool, false, ◌&&◌, ◌||◌, ◌==◌, nat_le, nat_lt, if◌then◌else◌, List, [], ◌∷◌}

-- the integers from -2 ^ 31 to 2 ^ 31 - 1
abbrev pub fits : ℤ → Bool
fits (pos n) = nat_lt n (2 ^ 31)
fits (negsuc n) = nat_lt n (2 ^ 31)

abbrev pub is_zero : ℤ → Bool
is_zero (pos n) = n == 0
is_zero (negsuc n) = false

-- the low 32 bits, read with their sign
abbrev pub signed : ℕ → ℤ
signed n = if nat_lt (n % 2 ^ 32) (2 ^ 31) then pos (n % 2 ^ 32) else negsuc (2 ^ 32 - 1 - n % 2 ^ 32)

-- a number of 32 bits as a word
abbrev pub word_of : ℤ → ℕ
word_of (pos n) = n
word_of (negsuc n) = 2 ^ 32 - 1 - n

-- a number at the front of a line: blanks and tabs, an optional minus sign, digits

abbrev pub is_blank : ℕ → Bool
is_blank b = b == 32 || b == 9

abbrev pub skip_blanks : List ℕ → List ℕ
skip_blanks [] = []
skip_blanks (b ∷ rest) = if is_blank b then skip_blanks rest else b ∷ rest

abbrev pub is_digit : ℕ → Bool
is_digit b = nat_le 48 b && nat_le b 57

abbrev pub digits_from : ℕ → List ℕ → ℕ
digits_from n [] = n
digits_from n (b ∷ rest) = if is_digit b then digits_from (10 * n + (b - 48)) rest else n

-- a number up to 2 ^ 32 that has the low 32 bits of minus n
abbrev pub negated : ℕ → ℕ
negated n = 2 ^ 32 - n % 2 ^ 32

abbrev pub number_after_blanks : List ℕ → ℤ
number_after_blanks [] = pos 0
number_after_blanks (b ∷ rest) = if b == 45 then signed (negated (digits_from 0 rest)) else signed (digits_from 0 (b ∷ rest))

abbrev pub number_of : List ℕ → ℤ
number_of line = number_after_blanks (skip_blanks line)

-- Worked examples: the smallest number fits, and the number one below it does not; the words of the largest number and of -1; -7 from text, and a number
-- that wraps around.
smallest : fits (negsuc 2147483647) ≡ Bool.true
smallest = refl

below_smallest : fits (negsuc 2147483648) ≡ false
below_smallest = refl

largest_word : signed 2147483647 ≡ pos 2147483647
largest_word = refl

word_below_zero : signed 4294967295 ≡ negsuc 0
word_below_zero = refl

seven_below : number_of (32 ∷ 45 ∷ 55 ∷ 120 ∷ []) ≡ negsuc 6
seven_below = refl

wraps : number_of (50 ∷ 49 ∷ 52 ∷ 55 ∷ 52 ∷ 56 ∷ 51 ∷ 54 ∷ 52 ∷ 56 ∷ []) ≡ negsuc 2147483647
wraps = refl

no_number : number_of (43 ∷ 55 ∷ []) ≡ pos 0
no_number = refl
