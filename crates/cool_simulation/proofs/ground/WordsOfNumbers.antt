-- Numbers of 32 bits are represented by machine words, and the machine reads and prints each number as the semantics says.
use Rattle.std.proofs.Common.{◌≡◌, ℕ, ◌+◌, ◌-◌, ◌*◌, ◌%◌, ◌<◌, ℤ, Bool, true, false, List, [], ◌∷◌, ◌++◌, refl, sym, ◌∙◌, ap, arith}
use Rattle.std.specs.Prelude.{pos, negsuc, nat_lt, nat_le, ◌==◌, if◌then◌else◌}
use Rattle.mips_isa.specs.Calls as machine
use Rattle.cool_meaning.specs.Numbers.{fits, signed, digits_from, is_digit, is_blank, skip_blanks, negated, number_after_blanks, number_of, word_of}
use Rattle.lists.proofs.Numbers.{digit_same}

-- a number of 32 bits is below 2 ^ 32 as a word, and the machine reads it back

pub word_read : (v : ℤ) → fits v ≡ true → machine.signed (word_of v) ≡ v
word_read (pos n) h = let low : nat_le 2147483648 n ≡ false = grind arith in rw low refl
word_read (negsuc n) h =
    let high : nat_le 2147483648 (4294967295 - n) ≡ true = grind arith in
    let back : 4294967295 - (4294967295 - n) ≡ n = grind arith in
    rw (high, back) refl

signed_by : (b : Bool) (r : ℕ) → r < 4294967296 → nat_lt r 2147483648 ≡ b → (word_of (if b then pos r else negsuc (4294967295 - r)) ≡ r) × (fits (if b then pos r else negsuc (4294967295 - r)) ≡ true)
signed_by true r small e = (refl, e)
signed_by false r small e = (omega arith, grind arith)

pub signed_word : (n : ℕ) → (word_of (signed n) ≡ n % 4294967296) × (fits (signed n) ≡ true)
signed_word n = signed_by (nat_lt (n % 4294967296) 2147483648) (n % 4294967296) (omega arith) refl

-- digits with only the low 32 bits

digits_same : (bytes : List ℕ) (n m : ℕ) → m < 4294967296 → n % 4294967296 ≡ m → digits_from n bytes % 4294967296 ≡ machine.digits_from m bytes
digits_same [] n m small same = same
digits_same (b ∷ rest) n m small same =
    let next : (10 * n + (b - 48)) % 4294967296 ≡ (10 * m + (b - 48)) % 4294967296 = digit_same n m (b - 48) (omega arith) in
    by (is_digit b) (digits_same rest (10 * n + (b - 48)) ((10 * m + (b - 48)) % 4294967296) (omega arith) next)
  where
    by : (x : Bool) → digits_from (10 * n + (b - 48)) rest % 4294967296 ≡ machine.digits_from ((10 * m + (b - 48)) % 4294967296) rest → (if x then digits_from (10 * n + (b - 48)) rest else n) % 4294967296 ≡ (if x then machine.digits_from ((10 * m + (b - 48)) % 4294967296) rest else m)
    by true more = more
    by false more = same

after_same : (bytes : List ℕ) → word_of (number_after_blanks bytes) ≡ machine.number_after_blanks bytes
after_same [] = refl
after_same (b ∷ rest) = by (b == 45)
  where
    by : (x : Bool) → word_of (if x then signed (negated (digits_from 0 rest)) else signed (digits_from 0 (b ∷ rest))) ≡ (if x then (4294967296 - machine.digits_from 0 rest) % 4294967296 else machine.digits_from 0 (b ∷ rest))
    by true = let same = digits_same rest 0 0 (omega arith) (omega arith) in (signed_word (negated (digits_from 0 rest))).0 ∙ omega arith
    by false = (signed_word (digits_from 0 (b ∷ rest))).0 ∙ digits_same (b ∷ rest) 0 0 (omega arith) (omega arith)

-- a newline at the end is no part of the number

digits_line : (bytes : List ℕ) (m : ℕ) → machine.digits_from m (bytes ++ 10 ∷ []) ≡ machine.digits_from m bytes
digits_line [] m = refl
digits_line (b ∷ rest) m = by (is_digit b) (digits_line rest ((10 * m + (b - 48)) % 4294967296))
  where
    by : (x : Bool) → machine.digits_from ((10 * m + (b - 48)) % 4294967296) (rest ++ 10 ∷ []) ≡ machine.digits_from ((10 * m + (b - 48)) % 4294967296) rest → (if x then machine.digits_from ((10 * m + (b - 48)) % 4294967296) (rest ++ 10 ∷ []) else m) ≡ (if x then machine.digits_from ((10 * m + (b - 48)) % 4294967296) rest else m)
    by true more = more
    by false more = refl

after_line : (bytes : List ℕ) → machine.number_after_blanks (bytes ++ 10 ∷ []) ≡ machine.number_after_blanks bytes
after_line [] = refl
after_line (b ∷ rest) = by (b == 45)
  where
    by : (x : Bool) → (if x then (4294967296 - machine.digits_from 0 (rest ++ 10 ∷ [])) % 4294967296 else machine.digits_from 0 (b ∷ (rest ++ 10 ∷ []))) ≡ (if x then (4294967296 - machine.digits_from 0 rest) % 4294967296 else machine.digits_from 0 (b ∷ rest))
    by true = ap (λ k. (4294967296 - k) % 4294967296) (digits_line rest 0)
    by false = digits_line (b ∷ rest) 0

skip_line : (bytes : List ℕ) → machine.number_after_blanks (machine.skip_blanks (bytes ++ 10 ∷ [])) ≡ machine.number_after_blanks (machine.skip_blanks bytes)
skip_line [] = refl
skip_line (b ∷ rest) = by (is_blank b) (skip_line rest)
  where
    by : (x : Bool) → machine.number_after_blanks (machine.skip_blanks (rest ++ 10 ∷ [])) ≡ machine.number_after_blanks (machine.skip_blanks rest) → machine.number_after_blanks (if x then machine.skip_blanks (rest ++ 10 ∷ []) else b ∷ (rest ++ 10 ∷ [])) ≡ machine.number_after_blanks (if x then machine.skip_blanks rest else b ∷ rest)
    by true more = more
    by false more = after_line (b ∷ rest)

skip_same : (bytes : List ℕ) → skip_blanks bytes ≡ machine.skip_blanks bytes
skip_same [] = refl
skip_same (b ∷ rest) = by (is_blank b) (skip_same rest)
  where
    by : (x : Bool) → skip_blanks rest ≡ machine.skip_blanks rest → (if x then skip_blanks rest else b ∷ rest) ≡ (if x then machine.skip_blanks rest else b ∷ rest)
    by true more = more
    by false more = refl

-- the number of a line, with its newline or without
pub number_word : (bytes : List ℕ) → word_of (number_of bytes) ≡ machine.number_of bytes
number_word bytes = after_same (skip_blanks bytes) ∙ ap machine.number_after_blanks (skip_same bytes)

pub number_line_word : (bytes : List ℕ) → word_of (number_of bytes) ≡ machine.number_of (bytes ++ 10 ∷ [])
number_line_word bytes = number_word bytes ∙ sym (skip_line bytes)

after_fits : (bytes : List ℕ) → fits (number_after_blanks bytes) ≡ true
after_fits [] = refl
after_fits (b ∷ rest) = by (b == 45)
  where
    by : (x : Bool) → fits (if x then signed (negated (digits_from 0 rest)) else signed (digits_from 0 (b ∷ rest))) ≡ true
    by true = (signed_word (negated (digits_from 0 rest))).1
    by false = (signed_word (digits_from 0 (b ∷ rest))).1

pub number_fits : (bytes : List ℕ) → fits (number_of bytes) ≡ true
number_fits bytes = after_fits (skip_blanks bytes)
