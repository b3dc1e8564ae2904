-- `call` defines the system calls of SPIM, one case for each number, on the `State` of a machine: registers, memory, heap, input and output.
use Rattle.std.specs.Prelude.{◌≡◌, refl, ℕ, zero, suc, ◌+◌, ◌-◌, ◌*◌, ◌%◌, ◌^◌, ℤ, pos, negsuc, Bool, true, false, ◌&&◌, ◌||◌, ◌==◌, not, nat_le, if◌then◌else◌, List, [], ◌∷◌, ◌++◌, length, Option, Some, None, option_map}
use Rattle.std.specs.Fmt.{signed_decimal}
use Rattle.mips_isa.specs.declared.register.TheConstants.{V0, A0, A1}
use Rattle.mips_isa.specs.declared.system_call.TheConstants.{PRINT_INT, PRINT_STRING, READ_INT, READ_STRING, SBRK, EXIT, PRINT_CHAR, READ_CHAR, EXIT2}
use Rattle.mips_isa.specs.declared.trap.Trap.{Trap}
use Rattle.mips_isa.specs.declared.trap.TrapKind.TheVariants.{BadAddress, BadCall}
use Rattle.mips_isa.specs.declared.address_map.TheConstants.{TEXT_START, DATA_START, HEAP_START, STACK_END}
use Rattle.mips_isa.specs.Bytes.{Bytes, set_byte, Segments, lies, writable}
use Rattle.mips_isa.specs.Machine.{Core, set_register, wrap, is_negative}

-- The state: registers and memory, the end of what `sbrk` gave, the input that is left, whether its end was answered, and
-- the output.
pub record State : Type 0 where
  pub core : Core
  pub heap_break : ℕ
  pub input : List ℕ
  pub ended : Bool
  pub output : List ℕ

-- A run goes on, or ended with a code, or with a trap; and the state that it left.
pub data Outcome : Type 0 where
  Running : State → Outcome
  Exited : ℕ → State → Outcome
  Trapped : Trap → State → Outcome

-- The input that a call takes, and the input that is left.
pub record Taken : Type 0 where
  pub got : List ℕ
  pub rest : List ℕ
  pub ended : Bool

-- the first bytes other than 0, so many at most, up to a newline
abbrev pub taken : ℕ → List ℕ → Taken
taken zero input = record { got = []; rest = input; ended = false }
taken (suc n) [] = record { got = []; rest = []; ended = true }
taken (suc n) (b ∷ rest) =
    if b == 0 then taken (suc n) rest
    else (if b == 10 then record { got = 10 ∷ []; rest = rest; ended = false }
    else (let t : Taken = taken n rest in record t { got = b ∷ t.got }))

-- if the end was answered, it is not asked for again
abbrev pub asked : Bool → ℕ → List ℕ → Taken
asked ended n input = if ended then record { got = []; rest = input; ended = true } else taken n input

-- a whole line: more bytes than there are
abbrev pub asked_line : Bool → List ℕ → Taken
asked_line ended input = asked ended (suc (length input)) input

-- a number at the front of a line: blanks and tabs, an optional minus sign, digits; its low 32 bits

abbrev pub is_blank : ℕ → Bool
is_blank b = b == 32 || b == 9

abbrev pub skip_blanks : List ℕ → List ℕ
skip_blanks [] = []
skip_blanks (b ∷ rest) = if is_blank b then skip_blanks rest else b ∷ rest

abbrev pub is_digit : ℕ → Bool
is_digit b = nat_le 48 b && nat_le b 57

abbrev pub digits_from : ℕ → List ℕ → ℕ
digits_from n [] = n
digits_from n (b ∷ rest) = if is_digit b then digits_from (wrap (10 * n + (b - 48))) rest else n

abbrev pub number_after_blanks : List ℕ → ℕ
number_after_blanks [] = 0
number_after_blanks (b ∷ rest) = if b == 45 then wrap (2 ^ 32 - digits_from 0 rest) else digits_from 0 (b ∷ rest)

abbrev pub number_of : List ℕ → ℕ
number_of line = number_after_blanks (skip_blanks line)

-- a word as a signed number
abbrev pub signed : ℕ → ℤ
signed a = if is_negative a then negsuc (2 ^ 32 - 1 - a) else pos a

-- the end of the segment in which an address lies
abbrev pub segment_end : Segments → ℕ → Option ℕ
segment_end s a =
    if lies TEXT_START s.text_end a 1 then Some s.text_end
    else (if lies DATA_START s.data_end a 1 then Some s.data_end
    else (if lies HEAP_START s.heap_end a 1 then Some s.heap_end
    else (if lies s.stack_low STACK_END a 1 then Some STACK_END else None)))

-- the bytes up to a 0, if there is one among so many
abbrev pub up_to_zero : Bytes → ℕ → ℕ → Option (List ℕ)
up_to_zero m a zero = None
up_to_zero m a (suc n) = if m a == 0 then Some [] else option_map (λ rest. m a ∷ rest) (up_to_zero m (a + 1) n)

-- the string at an address, if it ends in its segment
abbrev pub string_in : Bytes → ℕ → Option ℕ → Option (List ℕ)
string_in m a None = None
string_in m a (Some end) = up_to_zero m a (end - a)

abbrev pub string_at : Segments → Bytes → ℕ → Option (List ℕ)
string_at s m a = string_in m a (segment_end s a)

-- each of so many bytes may be stored
abbrev pub all_writable : Segments → ℕ → ℕ → Bool
all_writable s a zero = true
all_writable s a (suc n) = writable s a 1 && all_writable s (a + 1) n

abbrev pub set_bytes : Bytes → ℕ → List ℕ → Bytes
set_bytes m a [] = m
set_bytes m a (b ∷ rest) = set_bytes (set_byte m a b) (a + 1) rest

abbrev pub v0 : State → ℕ
v0 s = s.core.registers V0

abbrev pub a0 : State → ℕ
a0 s = s.core.registers A0

abbrev pub a1 : State → ℕ
a1 s = s.core.registers A1

abbrev pub with_v0 : State → ℕ → State
with_v0 s v = record s { core = record s.core { registers = set_register s.core.registers V0 v } }

abbrev pub after_taking : State → Taken → State
after_taking s t = record s { input = t.rest; ended = t.ended }

-- pc stands after the call
abbrev pub bad_address : State → Outcome
bad_address s = Trapped (record { kind = BadAddress; address = a0 s; pc = s.core.pc - 4 }) s

abbrev pub bad_call : State → Outcome
bad_call s = Trapped (record { kind = BadCall; address = s.core.pc - 4; pc = s.core.pc - 4 }) s

abbrev pub print : State → List ℕ → Outcome
print s bytes = Running (record s { output = s.output ++ bytes })

abbrev pub print_string : State → Option (List ℕ) → Outcome
print_string s None = bad_address s
print_string s (Some bytes) = print s bytes

abbrev pub read_int : State → Taken → Outcome
read_int s t = Running (with_v0 (after_taking s t) (number_of t.got))

abbrev pub char_of : List ℕ → ℕ
char_of [] = 2 ^ 32 - 1
char_of (b ∷ rest) = b

abbrev pub read_char : State → Taken → Outcome
read_char s t = Running (with_v0 (after_taking s t) (char_of t.got))

-- the bytes that came, and a 0
abbrev pub store_string : State → Taken → Outcome
store_string s t =
    Running (record (after_taking s t) { core = record s.core { memory = set_bytes s.core.memory (a0 s) (t.got ++ 0 ∷ []) } })

-- a buffer of n bytes takes a byte less of the input
abbrev pub read_string : Segments → State → Outcome
read_string b s =
    if is_negative (a1 s) || a1 s == 0 then Running s
    else (if not (all_writable b (a0 s) (a1 s)) then bad_address s else store_string s (asked s.ended (a1 s - 1) s.input))

abbrev pub sbrk : Segments → State → Outcome
sbrk b s =
    if nat_le (s.heap_break + a0 s) b.heap_end then Running (record (with_v0 s s.heap_break) { heap_break = s.heap_break + a0 s })
    else Running (with_v0 s (2 ^ 32 - 1))

-- the system call whose number is in $v0
abbrev pub call : Segments → State → Outcome
call b s =
    if v0 s == PRINT_INT then print s (signed_decimal (signed (a0 s)))
    else (if v0 s == PRINT_STRING then print_string s (string_at b s.core.memory (a0 s))
    else (if v0 s == READ_INT then read_int s (asked_line s.ended s.input)
    else (if v0 s == READ_STRING then read_string b s
    else (if v0 s == SBRK then sbrk b s
    else (if v0 s == EXIT then Exited 0 s
    else (if v0 s == PRINT_CHAR then print s (a0 s % 256 ∷ [])
    else (if v0 s == READ_CHAR then read_char s (asked s.ended 1 s.input)
    else (if v0 s == EXIT2 then Exited (a0 s) s
    else bad_call s))))))))

-- Worked examples: the line `  -7x` and a newline before the bytes `ab`, with a 0 within; a line without a number; a line
-- that the end of the input ends; a string that a newline ends, and one that its room ends.
line_of_number : taken 20 (32 ∷ 32 ∷ 45 ∷ 0 ∷ 55 ∷ 120 ∷ 10 ∷ 97 ∷ 98 ∷ [])
    ≡ record { got = 32 ∷ 32 ∷ 45 ∷ 55 ∷ 120 ∷ 10 ∷ []; rest = 97 ∷ 98 ∷ []; ended = false }
line_of_number = refl

number_of_line : number_of (32 ∷ 32 ∷ 45 ∷ 55 ∷ 120 ∷ 10 ∷ []) ≡ 0xfffffff9
number_of_line = refl

no_number : number_of (43 ∷ 55 ∷ 10 ∷ []) ≡ 0
no_number = refl

last_line : taken 20 (97 ∷ 0 ∷ []) ≡ record { got = 97 ∷ []; rest = []; ended = true }
last_line = refl

short_room : taken 1 (97 ∷ 0 ∷ 98 ∷ []) ≡ record { got = 97 ∷ []; rest = 0 ∷ 98 ∷ []; ended = false }
short_room = refl
