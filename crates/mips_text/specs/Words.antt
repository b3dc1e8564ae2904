-- `Word` lists the kinds of tokens in a line of assembly. The definitions give the longest token at a position, and all tokens up to the end, to a comment, or
-- to the first byte that begins none. The rule is in `docs/assembly.md`, Lines.
use Rattle.std.specs.Prelude.{◌≡◌, refl, ℕ, zero, suc, ◌+◌, ◌-◌, ◌*◌, ◌≤◌, min, ℤ, pos, negsuc, Bool, false, ◌&&◌, ◌==◌, nat_le, nat_lt, if◌then◌else◌, List, [], ◌∷◌, length, take, codes, Option, Some, None, option_map}
use Rattle.std.specs.Option.{option_or}
use Rattle.std.specs.List.{fold, list_all}
use Rattle.std.specs.Char.{is_ascii_digit, is_ascii_alphanumeric}
use Rattle.mips_text.specs.declared.class.Class.{Class}
use Rattle.mips_text.specs.declared.class.Class.TheVariants as class
use Rattle.mips_text.specs.declared.class.Start.{Start}
use Rattle.mips_text.specs.declared.class.Start.TheVariants as start
use Rattle.mips_text.specs.declared.numbers.TheConstants.{LARGEST}
use Rattle.mips_text.specs.Strings.{closes_string, opens_escape}
use Rattle.mips_text.specs.Letters.{name_rest, hex_digit, class_of}

pub data Word : Type 0 where
  Name : (bytes : List ℕ) → Word
  Number : (value : ℤ) → Word
  -- the bytes after the `$`
  Register : (name : List ℕ) → Word
  -- the bytes between the quotes
  Text : (raw : List ℕ) → Word
  Colon : Word
  Open : Word
  Close : Word
  -- a byte that begins no word, or a string that is not closed
  Stray : Word

-- Numbers

-- the value of a digit
abbrev pub digit_value : ℕ → ℕ
digit_value byte = if nat_le byte 57 then byte - 48 else (if nat_le byte 70 then byte - 55 else byte - 87)

-- the value of digits in a base
abbrev pub value : ℕ → List ℕ → ℕ
value base = fold (λ n byte. n * base + digit_value byte) 0

-- a number of no operand's range stands for all that are larger
abbrev pub capped : ℕ → ℕ
capped n = min n LARGEST

-- at least one of these bytes, and each is one of a kind
abbrev pub some_all : (ℕ → Bool) → List ℕ → Bool
some_all test bytes = nat_lt 0 (length bytes) && list_all test bytes

-- one or more digits
abbrev pub decimal : List ℕ → Option ℕ
decimal digits = if some_all is_ascii_digit digits then Some (value 10 digits) else None

-- `0x`, and one or more hexadecimal digits
abbrev pub hexadecimal : List ℕ → Option ℕ
hexadecimal [] = None
hexadecimal (z ∷ []) = None
hexadecimal (z ∷ x ∷ digits) = if z == 48 && x == 120 && some_all hex_digit digits then Some (value 16 digits) else None

abbrev pub magnitude : List ℕ → Option ℕ
magnitude bytes = option_or (decimal bytes) (hexadecimal bytes)

abbrev pub negative : ℕ → ℤ
negative zero = pos 0
negative (suc n) = negsuc n

abbrev pub number : ℕ → Word
number n = Number (pos (capped n))

abbrev pub number_below_zero : ℕ → Word
number_below_zero n = Number (negative (capped n))

-- Strings

abbrev pub nothing_if_empty : List ℕ → Option (List ℕ)
nothing_if_empty [] = Some []
nothing_if_empty (b ∷ bs) = None

-- The bytes before a closing quote, if that is the last of these bytes. A backslash takes the next byte with it.
abbrev pub enclosed : Bool → List ℕ → Option (List ℕ)
enclosed escaped [] = None
enclosed escaped (b ∷ bs) =
    if closes_string escaped b then nothing_if_empty bs else option_map (λ raw. b ∷ raw) (enclosed (opens_escape escaped b) bs)

-- Words

abbrev pub word_if : Bool → Word → Option Word
word_if holds word = if holds then Some word else None

abbrev pub alone : Word → List ℕ → Option Word
alone word [] = Some word
alone word (b ∷ bs) = None

-- the word that a first byte of this class and the bytes after it are, as a whole
abbrev pub form_of : Start → ℕ → List ℕ → Option Word
form_of start.Name b bs = word_if (list_all name_rest bs) (Name (b ∷ bs))
form_of start.Digit b bs = option_map number (magnitude (b ∷ bs))
form_of start.Minus b bs = option_map number_below_zero (magnitude bs)
form_of start.Register b bs = word_if (some_all is_ascii_alphanumeric bs) (Register bs)
form_of start.Text b bs = option_map Text (enclosed false bs)
form_of start.Colon b bs = alone Colon bs
form_of start.Open b bs = alone Open bs
form_of start.Close b bs = alone Close bs
form_of start.Stray b bs = None

-- a word at a place, and the bytes of it after the first
pub record Front : Type 0 where
  pub word : Word
  pub after : ℕ

abbrev pub found : Option Word → ℕ → Option Front → Option Front
found (Some word) after shorter = Some (record { word = word; after = after })
found None after shorter = shorter

-- the longest word with at most so many bytes after the first
abbrev pub longest : Start → ℕ → List ℕ → ℕ → Option Front
longest s b bs zero = found (form_of s b []) 0 None
longest s b bs (suc k) = found (form_of s b (take (suc k) bs)) (suc k) (longest s b bs k)

abbrev pub front : Start → ℕ → List ℕ → Option Front
front s b bs = longest s b bs (length bs)

-- This word is there, and no longer one.
pub record IsLongestWord (s : Start) (b : ℕ) (bs : List ℕ) (f : Front) : Type 0 where
  pub within : f.after ≤ length bs
  pub is_word : form_of s b (take f.after bs) ≡ Some f.word
  pub longest : (m : ℕ) (other : Word) → m ≤ length bs → form_of s b (take m bs) ≡ Some other → m ≤ f.after

-- No word is there.
abbrev pub HasNoWord : Start → ℕ → List ℕ → Type 0
HasNoWord s b bs = (m : ℕ) → m ≤ length bs → form_of s b (take m bs) ≡ None

abbrev pub IsWordThere : Start → ℕ → List ℕ → Option Front → Type 0
IsWordThere s b bs (Some f) = IsLongestWord s b bs f
IsWordThere s b bs None = HasNoWord s b bs

-- Lines

-- a word, and the words behind it
abbrev pub with_front : Option Front → (ℕ → List Word) → List Word
with_front None behind = Stray ∷ []
with_front (Some f) behind = f.word ∷ behind f.after

abbrev pub with_class : Class → ℕ → List ℕ → (ℕ → List Word) → List Word
with_class class.Blank b bs behind = behind 0
with_class class.Comment b bs behind = []
with_class (class.Word s) b bs behind = with_front (front s b bs) behind

-- the words of a line behind its first bytes, which are so many
abbrev pub words_behind : ℕ → List ℕ → List Word
words_behind k [] = []
words_behind (suc k) (b ∷ bs) = words_behind k bs
words_behind zero (b ∷ bs) = with_class (class_of b) b bs (λ n. words_behind n bs)

abbrev pub words_of : List ℕ → List Word
words_of line = words_behind 0 line

-- Worked examples

joined_words : words_of (codes "lw$t0-4($sp)#x") ≡ Name (codes "lw") ∷ Register (codes "t0") ∷ Number (negsuc 3) ∷ Open ∷ Register (codes "sp") ∷ Close ∷ []
joined_words = refl

no_hexadecimal : words_of (codes "0xg -0x1F") ≡ Number (pos 0) ∷ Name (codes "xg") ∷ Number (negsuc 30) ∷ []
no_hexadecimal = refl

one_string : words_of (codes "\"a\\\"#\"b:") ≡ Text (codes "a\\\"#") ∷ Name (codes "b") ∷ Colon ∷ []
one_string = refl

open_string : words_of (codes "b \"a\\\"") ≡ Name (codes "b") ∷ Stray ∷ []
open_string = refl

minus_alone : words_of (codes "5, - 5") ≡ Number (pos 5) ∷ Stray ∷ []
minus_alone = refl
