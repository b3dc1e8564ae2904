-- The classes of bytes in assembly: blanks, the begin of a comment, and the bytes that begin or continue a name, a number, a register or a string.
use Rattle.std.specs.Prelude.{ℕ, Bool, ◌==◌, ◌||◌, if◌then◌else◌}
use Rattle.std.specs.Char.{is_ascii_digit}
use Rattle.std.specs.Int.{is_in_range}
use Rattle.mips_text.specs.declared.class.Class.{Class}
use Rattle.mips_text.specs.declared.class.Class.TheVariants as class
use Rattle.mips_text.specs.declared.class.Start.{Start}
use Rattle.mips_text.specs.declared.class.Start.TheVariants as start

-- space, tab, carriage return and comma part words
abbrev pub blank : ℕ → Bool
blank byte = byte == 32 || byte == 9 || byte == 13 || byte == 44

-- a letter, `_` or `.` begins a name
abbrev pub name_start : ℕ → Bool
name_start byte = is_in_range 65 90 byte || is_in_range 97 122 byte || byte == 95 || byte == 46

-- a digit may follow
abbrev pub name_rest : ℕ → Bool
name_rest byte = name_start byte || is_ascii_digit byte

-- a hexadecimal digit, of either case
abbrev pub hex_digit : ℕ → Bool
hex_digit byte = is_ascii_digit byte || is_in_range 65 70 byte || is_in_range 97 102 byte

-- the kind of word that a byte begins: a name, a number without a sign or below zero, a register, a string, a sign, or none
abbrev pub start_of : ℕ → Start
start_of byte =
    if name_start byte then start.Name
    else (if is_ascii_digit byte then start.Digit
    else (if byte == 45 then start.Minus
    else (if byte == 36 then start.Register
    else (if byte == 34 then start.Text
    else (if byte == 58 then start.Colon
    else (if byte == 40 then start.Open
    else (if byte == 41 then start.Close
    else start.Stray)))))))

-- the class of a byte: a blank, a comment up to the line's end, or a word
abbrev pub class_of : ℕ → Class
class_of byte = if blank byte then class.Blank else (if byte == 35 then class.Comment else class.Word (start_of byte))
