-- `front_found` computes the longest token at a position of a line of assembly from its first byte and the bytes after it. A proof, not this file, shows that
-- it is the longest.
use Rattle.std.specs.Prelude.{ℕ, ◌+◌, ◌-◌, nat_lt, Bool, false, not, ◌&&◌, ◌==◌, if◌then◌else◌, List, [], ◌∷◌, take, Option, Some, None, option_map}
use Rattle.std.specs.Option.{option_or}
use Rattle.std.specs.List.{prefix_len}
use Rattle.std.specs.Char.{is_ascii_digit, is_ascii_alphanumeric}
use Rattle.mips_text.specs.declared.class.Start.{Start}
use Rattle.mips_text.specs.declared.class.Start.TheVariants as start
use Rattle.mips_text.specs.declared.span.Span.{Span}
use Rattle.mips_text.specs.declared.span.Span.TheVariants as span
use Rattle.mips_text.specs.Letters.{name_rest, hex_digit}
use Rattle.mips_text.specs.Strings.{closes_string, opens_escape}
use Rattle.mips_text.specs.Words.{Word, Name, Register, Text, Colon, Open, Close, Front, value, capped, number, number_below_zero}

-- whether a span takes a byte
abbrev pub takes : Span → ℕ → Bool
takes span.Name b = name_rest b
takes span.Register b = is_ascii_alphanumeric b
takes span.Digits b = is_ascii_digit b
takes span.HexDigits b = hex_digit b
takes span.Line b = not (b == 10)

-- a number without its sign, and how many bytes it has
pub record Magnitude : Type 0 where
  pub value : ℕ
  pub size : ℕ

abbrev pub decimal_of : ℕ → List ℕ → Option Magnitude
decimal_of size bytes = if nat_lt 0 size then Some (record { value = value 10 (take size bytes); size = size }) else None

abbrev pub decimal_found : List ℕ → Option Magnitude
decimal_found bytes = decimal_of (prefix_len (takes span.Digits) bytes) bytes

abbrev pub hexadecimal_of : ℕ → List ℕ → Option Magnitude
hexadecimal_of size bytes = if nat_lt 0 size then Some (record { value = value 16 (take size bytes); size = size + 2 }) else None

abbrev pub hexadecimal_found : List ℕ → Option Magnitude
hexadecimal_found [] = None
hexadecimal_found (z ∷ []) = None
hexadecimal_found (z ∷ x ∷ bytes) = if z == 48 && x == 120 then hexadecimal_of (prefix_len (takes span.HexDigits) bytes) bytes else None

abbrev pub magnitude_found : List ℕ → Option Magnitude
magnitude_found bytes = option_or (hexadecimal_found bytes) (decimal_found bytes)

-- the same number, or the number that stands for all beyond the range of every operand
abbrev pub capped_magnitude : Magnitude → Magnitude
capped_magnitude m = record { value = capped m.value; size = m.size }

-- the place of the closing quote, in bytes from this place on
abbrev pub closing_quote : Bool → ℕ → List ℕ → Option ℕ
closing_quote escaped place [] = None
closing_quote escaped place (b ∷ bs) =
    if closes_string escaped b then Some place else closing_quote (opens_escape escaped b) (place + 1) bs

abbrev pub name_front : ℕ → List ℕ → ℕ → Front
name_front b bs size = record { word = Name (b ∷ take size bs); after = size }

abbrev pub digits_front : Magnitude → Front
digits_front m = record { word = number m.value; after = m.size - 1 }

abbrev pub minus_front : Magnitude → Front
minus_front m = record { word = number_below_zero m.value; after = m.size }

abbrev pub register_front : ℕ → List ℕ → Option Front
register_front size bytes = if nat_lt 0 size then Some (record { word = Register (take size bytes); after = size }) else None

abbrev pub text_front : List ℕ → ℕ → Front
text_front bytes size = record { word = Text (take size bytes); after = size + 1 }

abbrev pub sign_front : Word → Front
sign_front word = record { word = word; after = 0 }

-- the word at a first byte of this class
abbrev pub front_found : Start → ℕ → List ℕ → Option Front
front_found start.Name b bs = Some (name_front b bs (prefix_len (takes span.Name) bs))
front_found start.Digit b bs = option_map digits_front (magnitude_found (b ∷ bs))
front_found start.Minus b bs = option_map minus_front (magnitude_found bs)
front_found start.Register b bs = register_front (prefix_len (takes span.Register) bs) bs
front_found start.Text b bs = option_map (text_front bs) (closing_quote false 0 bs)
front_found start.Colon b bs = Some (sign_front Colon)
front_found start.Open b bs = Some (sign_front Open)
front_found start.Close b bs = Some (sign_front Close)
front_found start.Stray b bs = None
