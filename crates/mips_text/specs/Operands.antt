-- The operands that statements of assembly take, with the ranges of numbers, and the error for the first token that is not a valid operand. The rule is in
-- `docs/assembly.md`, Statements and Faults.
use Rattle.std.specs.Prelude.{ℕ, ◌+◌, ◌^◌, ℤ, pos, negsuc, nat_lt, nat_le, Bool, false, if◌then◌else◌, bytes_eq, List, [], ◌∷◌, codes, Option, Some, None, is_some}
use Rattle.std.specs.Option.{option_or}
use Rattle.mips_isa.specs.declared.address_map.TheConstants.{MOST_DATA_BYTES}
use Rattle.mips_isa.specs.declared.asm_fault.AsmKind.{AsmKind}
use Rattle.mips_isa.specs.declared.asm_fault.AsmKind.TheVariants.{A1, A2, A3}
use Rattle.mips_text.specs.declared.wanted.Range.{Range}
use Rattle.mips_text.specs.declared.wanted.Range.TheVariants as range
use Rattle.mips_text.specs.declared.wanted.Wanted.{Wanted}
use Rattle.mips_text.specs.declared.wanted.Wanted.TheVariants as wanted
use Rattle.mips_text.specs.Names.{register_texts}
use Rattle.mips_text.specs.Strings.{all_known}
use Rattle.mips_text.specs.Words.{Word, Name, Number, Register, Text, Open, Close, Stray}

-- the numbers of registers, in decimal without leading zeros
abbrev pub number_texts : List (List ℕ)
number_texts =
    codes "0" ∷ codes "1" ∷ codes "2" ∷ codes "3" ∷ codes "4" ∷ codes "5" ∷ codes "6" ∷ codes "7"
    ∷ codes "8" ∷ codes "9" ∷ codes "10" ∷ codes "11" ∷ codes "12" ∷ codes "13" ∷ codes "14" ∷ codes "15"
    ∷ codes "16" ∷ codes "17" ∷ codes "18" ∷ codes "19" ∷ codes "20" ∷ codes "21" ∷ codes "22" ∷ codes "23"
    ∷ codes "24" ∷ codes "25" ∷ codes "26" ∷ codes "27" ∷ codes "28" ∷ codes "29" ∷ codes "30" ∷ codes "31" ∷ []

-- the place of a name in a table, whose first place is this one
abbrev pub place_from : ℕ → List (List ℕ) → List ℕ → Option ℕ
place_from index [] name = None
place_from index (known ∷ table) name = if bytes_eq known name then Some index else place_from (index + 1) table name

-- the register of a name or of a number, without its `$`
unfoldable pub register_named : List ℕ → Option ℕ
register_named name = option_or (place_from 0 number_texts name) (place_from 0 register_texts name)

-- the ranges of numbers
abbrev pub is_within : Range → ℤ → Bool
is_within range.Signed (pos n) = nat_lt n 32768
is_within range.Signed (negsuc n) = nat_lt n 32768
is_within range.Unsigned (pos n) = nat_lt n 65536
is_within range.Unsigned (negsuc n) = false
is_within range.Shift (pos n) = nat_lt n 32
is_within range.Shift (negsuc n) = false
is_within range.Index (pos n) = nat_lt n (2 ^ 26)
is_within range.Index (negsuc n) = false
is_within range.Word (pos n) = nat_lt n (2 ^ 32)
is_within range.Word (negsuc n) = nat_lt n (2 ^ 31)
is_within range.Byte (pos n) = nat_lt n 256
is_within range.Byte (negsuc n) = nat_lt n 128
is_within range.Space (pos n) = nat_le n MOST_DATA_BYTES
is_within range.Space (negsuc n) = false
is_within range.Power (pos n) = nat_le n 12
is_within range.Power (negsuc n) = false

abbrev pub fault_unless : Bool → AsmKind → Option AsmKind
fault_unless holds kind = if holds then None else Some kind

-- the fault of a word where none is allowed
abbrev pub misplaced : Word → AsmKind
misplaced Stray = A1
misplaced _ = A2

-- the fault of a word, if it is not what is wanted at its place
abbrev pub word_fault : Wanted → Word → Option AsmKind
word_fault _ Stray = Some A1
word_fault wanted.Register (Register name) = fault_unless (is_some (register_named name)) A2
word_fault (wanted.Number r) (Number value) = fault_unless (is_within r value) A3
word_fault wanted.Name (Name bytes) = None
word_fault (wanted.Target r) (Number value) = fault_unless (is_within r value) A3
word_fault (wanted.Target r) (Name bytes) = None
word_fault wanted.Text (Text raw) = fault_unless (all_known false raw) A2
word_fault wanted.Open Open = None
word_fault wanted.Close Close = None
word_fault _ _ = Some A2

-- the fault of the first bad word of a row; one that is missing is bad where the words end, and one too many where it stands
abbrev pub row_fault : List Wanted → List Word → Option AsmKind
row_fault [] [] = None
row_fault (w ∷ ws) [] = Some A2
row_fault [] (x ∷ xs) = Some (misplaced x)
row_fault (w ∷ ws) (x ∷ xs) = option_or (word_fault w x) (row_fault ws xs)

-- the same for one or more words of a kind
abbrev pub each_fault : Wanted → List Word → Option AsmKind
each_fault w [] = None
each_fault w (x ∷ xs) = option_or (word_fault w x) (each_fault w xs)

abbrev pub many_fault : Wanted → List Word → Option AsmKind
many_fault w [] = Some A2
many_fault w (x ∷ xs) = each_fault w (x ∷ xs)
