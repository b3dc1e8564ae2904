-- The definition of the assembler: `place_of` gives the addresses of labels, `image_of` the words and bytes that lines are assembled to, and `fault_of` the
-- first line with an error.
use Rattle.std.specs.Prelude.{◌≡◌, refl, ℕ, suc, ◌+◌, ◌-◌, ◌*◌, ◌/◌, ◌%◌, ◌^◌, ◌&&◌, ◌||◌, not, nat_le, nat_lt, ℤ, pos, negsuc, Bool, true, false, if◌then◌else◌, List, [], ◌∷◌, ◌++◌, length, map, flat_map, replicate, codes, bytes_eq, Option, Some, None, is_some, Result, Ok, Err}
use Rattle.std.specs.List.{list_any}
use Rattle.mips_isa.specs.declared.instr.Instr.{Instr}
use Rattle.mips_isa.specs.declared.instr.Instr.TheVariants as instr
use Rattle.mips_isa.specs.declared.instr.ThreeOp.TheVariants.{Addu, Sub, Slt}
use Rattle.mips_isa.specs.declared.instr.ShiftOp.TheVariants.{Sll}
use Rattle.mips_isa.specs.declared.instr.ImmOp.TheVariants.{Ori}
use Rattle.mips_isa.specs.declared.instr.TwoOp.{TwoOp}
use Rattle.mips_isa.specs.declared.instr.TwoOp.TheVariants.{Beq, Bne}
use Rattle.mips_isa.specs.declared.instr.MulDivOp.TheVariants.{Mult}
use Rattle.mips_isa.specs.declared.instr.FromOp.TheVariants.{Mflo}
use Rattle.mips_isa.specs.declared.instr.JumpOp.TheVariants.{Jal}
use Rattle.mips_isa.specs.declared.line.ZeroOp.{ZeroOp}
use Rattle.mips_isa.specs.declared.line.ZeroOp.TheVariants.{Beqz, Bnez}
use Rattle.mips_isa.specs.declared.line.OrderOp.{OrderOp}
use Rattle.mips_isa.specs.declared.line.OrderOp.TheVariants.{Bgt, Bge, Blt, Ble}
use Rattle.mips_isa.specs.declared.asm_fault.AsmKind.{AsmKind}
use Rattle.mips_isa.specs.declared.asm_fault.AsmKind.TheVariants.{A5, A6, A7, A8, A9}
use Rattle.mips_isa.specs.declared.asm_fault.AsmFault.{AsmFault}
use Rattle.mips_isa.specs.declared.asm_fault.AsmError.{AsmError}
use Rattle.mips_isa.specs.declared.asm_fault.AsmError.TheVariants.{Memory, Fault}
use Rattle.mips_isa.specs.declared.place.Segment.{Segment}
use Rattle.mips_isa.specs.declared.place.Segment.TheVariants.{Text, Data}
use Rattle.mips_isa.specs.declared.place.Place.{Place}
use Rattle.mips_isa.specs.declared.address_map.TheConstants.{TEXT_START, DATA_START, MOST_TEXT_WORDS, MOST_DATA_BYTES}
use Rattle.mips_isa.specs.declared.register.TheConstants.{ZERO, AT, V0, A0, RA}
use Rattle.mips_isa.specs.declared.system_call.TheConstants.{PRINT_STRING, EXIT}
use Rattle.mips_isa.specs.ImageBounds.{ImageParts}
use Rattle.mips_isa.specs.Bytes.{byte_of_word}
use Rattle.mips_isa.specs.Words.{word_of, bits_of}
use Rattle.mips_isa.specs.Lines as statements
use Rattle.mips_isa.specs.Lines.{Name, WordItem, Number, Address, AsmInstr, Plain, ToTwo, ToOne, ToJump, La, Li, Move, Neg, Nop, B, BranchZero, BranchOrder, Mul, DataItem, Word, Byte, Ascii, Asciiz, Space, AsmDirective, ToText, ToData, Globl, Align, Statement, Empty, Instruction, Directive, Line}

-- Sizes

-- The space that a statement needs: nothing; words of text; an item of data that begins at a multiple of a unit and has so many bytes; a switch to another
-- segment; or padding of the data up to a multiple of a unit.
pub data Need : Type 0 where
  Nothing : Need
  Words : ℕ → Need
  Item : ℕ → ℕ → Need
  Switch : Segment → Need
  Padding : ℕ → Need

-- the words of text that an instruction is assembled to
abbrev pub words_of_instruction : AsmInstr → ℕ
words_of_instruction (Plain i) = 1
words_of_instruction (ToTwo op rs rt target) = 1
words_of_instruction (ToOne op rs target) = 1
words_of_instruction (ToJump op target) = 1
words_of_instruction (La rd label) = 2
words_of_instruction (Li rd value) = 2
words_of_instruction (Move rd rs) = 1
words_of_instruction (Neg rd rs) = 1
words_of_instruction Nop = 1
words_of_instruction (B target) = 1
words_of_instruction (BranchZero op rs target) = 1
words_of_instruction (BranchOrder op rs rt target) = 2
words_of_instruction (Mul rd rs rt) = 2

abbrev pub need_of_data : DataItem → Need
need_of_data (Word list) = Item 4 (4 * length list)
need_of_data (Byte list) = Item 1 (length list)
need_of_data (Ascii bytes) = Item 1 (length bytes)
need_of_data (Asciiz bytes) = Item 1 (length bytes + 1)
need_of_data (Space n) = Item 1 n

abbrev pub need_of_directive : AsmDirective → Need
need_of_directive ToText = Switch Text
need_of_directive ToData = Switch Data
need_of_directive (Globl name) = Nothing
need_of_directive (Align n) = Padding (2 ^ n)

abbrev pub need : Statement → Need
need Empty = Nothing
need (Instruction i) = Words (words_of_instruction i)
need (statements.Data item) = need_of_data item
need (Directive directive) = need_of_directive directive

-- The fill of the segments, and the segment that is open.
pub record Position : Type 0 where
  pub words : ℕ
  pub bytes : ℕ
  pub segment : Segment

-- a file begins in text
abbrev pub start_position : Position
start_position = record { words = 0; bytes = 0; segment = Text }

-- up to a multiple of a unit
abbrev pub up : ℕ → ℕ → ℕ
up unit n = (n + (unit - 1)) / unit * unit

-- padding has no effect in text
abbrev pub padded : Segment → ℕ → Position → Position
padded Text unit p = p
padded Data unit p = record p { bytes = up unit p.bytes }

abbrev pub after_need : Need → Position → Position
after_need Nothing p = p
after_need (Words n) p = record p { words = p.words + n }
after_need (Item unit size) p = record p { bytes = up unit p.bytes + size }
after_need (Switch segment) p = record p { segment = segment }
after_need (Padding unit) p = padded p.segment unit p

abbrev pub after_line : Line → Position → Position
after_line line p = after_need (need line.statement) p

-- Places

-- the beginning of an item, or else another place
abbrev pub item_or : Need → Position → ℕ → ℕ
item_or Nothing p other = other
item_or (Words n) p other = other
item_or (Item unit size) p other = up unit p.bytes
item_or (Switch segment) p other = other
item_or (Padding unit) p other = other

-- the beginning of the next item of data, after its padding; without one, the end of the data
abbrev pub next_item : Position → List Line → ℕ
next_item p [] = p.bytes
next_item p (line ∷ rest) = item_or (need line.statement) p (next_item (after_line line p) rest)

-- the place of a label before these lines
abbrev pub place_in : Segment → Position → List Line → Place
place_in Text p lines = record { segment = Text; address = TEXT_START + 4 * p.words }
place_in Data p lines = record { segment = Data; address = DATA_START + next_item p lines }

abbrev pub has : List Name → Name → Bool
has names name = list_any (bytes_eq name) names

-- the place of the first label of this name
abbrev pub place_from : Position → List Line → Name → Option Place
place_from p [] name = None
place_from p (line ∷ rest) name =
    if has line.labels name then Some (place_in p.segment p (line ∷ rest)) else place_from (after_line line p) rest name

abbrev pub place_of : List Line → Name → Option Place
place_of lines name = place_from start_position lines name

abbrev pub is_text : Segment → Bool
is_text Text = true
is_text Data = false

-- a label in text
abbrev pub in_text : Option Place → Bool
in_text None = false
in_text (Some place) = is_text place.segment

-- its address, which is 0 for a name without one
abbrev pub address_or_zero : Option Place → ℕ
address_or_zero None = 0
address_or_zero (Some place) = place.address

-- If no `__start` is defined and `main` is a label in text, the call of `main` and an exit are added.

abbrev pub start_name : Name
start_name = codes "__start"

abbrev pub main_name : Name
main_name = codes "main"

abbrev pub unlabelled : Statement → Line
unlabelled statement = record { labels = []; statement = statement }

abbrev pub instruction_line : AsmInstr → Line
instruction_line i = unlabelled (Instruction i)

abbrev pub data_line : DataItem → Line
data_line item = unlabelled (statements.Data item)

abbrev pub directive_line : AsmDirective → Line
directive_line directive = unlabelled (Directive directive)

abbrev pub added_lines : List Line
added_lines =
    directive_line ToText ∷ record { labels = start_name ∷ []; statement = Instruction (ToJump Jal main_name) }
    ∷ instruction_line (Plain (instr.Imm Ori V0 ZERO (pos EXIT))) ∷ instruction_line (Plain instr.Syscall) ∷ []

abbrev pub completed : List Line → List Line
completed lines = if not (is_some (place_of lines start_name)) && in_text (place_of lines main_name) then lines ++ added_lines else lines

-- The words and bytes that a statement is assembled to, if names have addresses

-- the words from the instruction after an address to a target
abbrev pub offset : ℕ → ℕ → ℤ
offset at target = if nat_le (at + 4) target then pos ((target - (at + 4)) / 4) else negsuc ((at + 4 - target) / 4 - 1)

abbrev pub load_address : ℕ → ℕ → List Instr
load_address rd n = instr.Lui rd (pos (n / 65536)) ∷ instr.Imm Ori rd rd (pos (n % 65536)) ∷ []

abbrev pub zero_branch : ZeroOp → TwoOp
zero_branch Beqz = Beq
zero_branch Bnez = Bne

-- the order is put into $at, and the branch goes by that
abbrev pub order_branch : OrderOp → ℕ → ℕ → ℤ → List Instr
order_branch Bgt rs rt imm = instr.Three Slt AT rt rs ∷ instr.BranchTwo Bne AT ZERO imm ∷ []
order_branch Bge rs rt imm = instr.Three Slt AT rs rt ∷ instr.BranchTwo Beq AT ZERO imm ∷ []
order_branch Blt rs rt imm = instr.Three Slt AT rs rt ∷ instr.BranchTwo Bne AT ZERO imm ∷ []
order_branch Ble rs rt imm = instr.Three Slt AT rt rs ∷ instr.BranchTwo Beq AT ZERO imm ∷ []

-- the one instruction or the two of a line's instruction
abbrev pub expansion : (Name → ℕ) → ℕ → AsmInstr → List Instr
expansion address at (Plain i) = i ∷ []
expansion address at (ToTwo op rs rt target) = instr.BranchTwo op rs rt (offset at (address target)) ∷ []
expansion address at (ToOne op rs target) = instr.BranchOne op rs (offset at (address target)) ∷ []
expansion address at (ToJump op target) = instr.Jump op (address target / 4) ∷ []
expansion address at (La rd label) = load_address rd (address label)
expansion address at (Li rd value) = load_address rd (bits_of value)
expansion address at (Move rd rs) = instr.Three Addu rd rs ZERO ∷ []
expansion address at (Neg rd rs) = instr.Three Sub rd ZERO rs ∷ []
expansion address at Nop = instr.Shift Sll ZERO ZERO 0 ∷ []
expansion address at (B target) = instr.BranchTwo Beq ZERO ZERO (offset at (address target)) ∷ []
expansion address at (BranchZero op rs target) = instr.BranchTwo (zero_branch op) rs ZERO (offset at (address target)) ∷ []
expansion address at (BranchOrder op rs rt target) = order_branch op rs rt (offset (at + 4) (address target))
expansion address at (Mul rd rs rt) = instr.MulDiv Mult rs rt ∷ instr.MoveFrom Mflo rd ∷ []

abbrev pub instructions : (Name → ℕ) → ℕ → Statement → List Instr
instructions address at Empty = []
instructions address at (Instruction i) = expansion address at i
instructions address at (statements.Data item) = []
instructions address at (Directive directive) = []

abbrev pub item_value : (Name → ℕ) → WordItem → ℕ
item_value address (Number n) = bits_of n
item_value address (Address label) = address label

abbrev pub four_bytes : ℕ → List ℕ
four_bytes n = byte_of_word n 0 ∷ byte_of_word n 1 ∷ byte_of_word n 2 ∷ byte_of_word n 3 ∷ []

-- the bytes of an item, without its padding

abbrev pub bytes_of_data : (Name → ℕ) → DataItem → List ℕ
bytes_of_data address (Word list) = flat_map (λ item. four_bytes (item_value address item)) list
bytes_of_data address (Byte list) = map (λ n. bits_of n % 256) list
bytes_of_data address (Ascii bytes) = bytes
bytes_of_data address (Asciiz bytes) = bytes ++ 0 ∷ []
bytes_of_data address (Space n) = replicate n 0

abbrev pub item_bytes : (Name → ℕ) → Statement → List ℕ
item_bytes address Empty = []
item_bytes address (Instruction i) = []
item_bytes address (statements.Data item) = bytes_of_data address item
item_bytes address (Directive directive) = []

-- the zeros before an item, or those of `.align` in data
abbrev pub padding_to : Segment → ℕ → ℕ → ℕ
padding_to Text unit n = 0
padding_to Data unit n = up unit n - n

abbrev pub padding : Need → Position → ℕ
padding Nothing p = 0
padding (Words n) p = 0
padding (Item unit size) p = padding_to Data unit p.bytes
padding (Switch segment) p = 0
padding (Padding unit) p = padding_to p.segment unit p.bytes

abbrev pub text_from : (Name → ℕ) → Position → List Line → List ℕ
text_from address p [] = []
text_from address p (line ∷ rest) =
    map word_of (instructions address (TEXT_START + 4 * p.words) line.statement) ++ text_from address (after_line line p) rest

abbrev pub bytes_from : (Name → ℕ) → Position → List Line → List ℕ
bytes_from address p [] = []
bytes_from address p (line ∷ rest) =
    replicate (padding (need line.statement) p) 0 ++ (item_bytes address line.statement ++ bytes_from address (after_line line p) rest)

-- the image of lines that are already completed
abbrev pub image_of_all : List Line → ImageParts
image_of_all lines =
    let address : Name → ℕ = λ name. address_or_zero (place_of lines name) in
    record { entry = address start_name; text = text_from address start_position lines; bytes = bytes_from address start_position lines }

abbrev pub image_of : List Line → ImageParts
image_of lines = image_of_all (completed lines)

-- Faults of the first pass: the wrong segment, a label defined before, a segment that is too large

abbrev pub is_wrong : Need → Segment → Bool
is_wrong Nothing segment = false
is_wrong (Words n) segment = not (is_text segment)
is_wrong (Item unit size) segment = is_text segment
is_wrong (Switch other) segment = false
is_wrong (Padding unit) segment = is_text segment && nat_lt 4 unit

-- one of the labels was defined before, by other lines or on this one
abbrev pub any_twice : List Name → List Name → Bool
any_twice seen [] = false
any_twice seen (label ∷ rest) = has seen label || any_twice (label ∷ seen) rest

abbrev pub is_too_large : Position → Bool
is_too_large p = nat_lt MOST_TEXT_WORDS p.words || nat_lt MOST_DATA_BYTES p.bytes

abbrev pub defining_fault : List Name → Position → Line → Option AsmKind
defining_fault seen p line =
    if is_wrong (need line.statement) p.segment then Some A8
    else (if any_twice seen line.labels then Some A5
    else (if is_too_large (after_line line p) then Some A9 else None))

abbrev pub fault_or : ℕ → Option AsmKind → Option AsmFault → Option AsmFault
fault_or number None other = other
fault_or number (Some kind) other = Some (record { kind = kind; line = number })

abbrev pub first_pass : List Name → Position → ℕ → List Line → Option AsmFault
first_pass seen p number [] = None
first_pass seen p number (line ∷ rest) =
    fault_or number (defining_fault seen p line) (first_pass (seen ++ line.labels) (after_line line p) (suc number) rest)

-- Faults of the second pass: a name without a place, a target that is too far or not in text

-- the names that a statement uses; `.globl` uses none
abbrev pub names_of_items : List WordItem → List Name
names_of_items [] = []
names_of_items (Number n ∷ rest) = names_of_items rest
names_of_items (Address label ∷ rest) = label ∷ names_of_items rest

abbrev pub names_of_instruction : AsmInstr → List Name
names_of_instruction (Plain i) = []
names_of_instruction (ToTwo op rs rt target) = target ∷ []
names_of_instruction (ToOne op rs target) = target ∷ []
names_of_instruction (ToJump op target) = target ∷ []
names_of_instruction (La rd label) = label ∷ []
names_of_instruction (Li rd value) = []
names_of_instruction (Move rd rs) = []
names_of_instruction (Neg rd rs) = []
names_of_instruction Nop = []
names_of_instruction (B target) = target ∷ []
names_of_instruction (BranchZero op rs target) = target ∷ []
names_of_instruction (BranchOrder op rs rt target) = target ∷ []
names_of_instruction (Mul rd rs rt) = []

abbrev pub names_of_data : DataItem → List Name
names_of_data (Word list) = names_of_items list
names_of_data (Byte list) = []
names_of_data (Ascii bytes) = []
names_of_data (Asciiz bytes) = []
names_of_data (Space n) = []

abbrev pub used : Statement → List Name
used Empty = []
used (Instruction i) = names_of_instruction i
used (statements.Data item) = names_of_data item
used (Directive directive) = []

-- a branch at an address reaches a label of text from -32768 to 32767 words after the next instruction
abbrev pub is_reach : ℤ → Bool
is_reach (pos n) = nat_lt n 32768
is_reach (negsuc n) = nat_lt n 32768

abbrev pub branch_reaches : ℕ → Option Place → Bool
branch_reaches at place = in_text place && is_reach (offset at (address_or_zero place))

-- a jump reaches a label of text but one where the data begins, which its index cannot hold
abbrev pub jump_reaches : Option Place → Bool
jump_reaches place = in_text place && nat_lt (address_or_zero place) DATA_START

abbrev pub instruction_reaches : (Name → Option Place) → ℕ → AsmInstr → Bool
instruction_reaches place at (Plain i) = true
instruction_reaches place at (ToTwo op rs rt target) = branch_reaches at (place target)
instruction_reaches place at (ToOne op rs target) = branch_reaches at (place target)
instruction_reaches place at (ToJump op target) = jump_reaches (place target)
instruction_reaches place at (La rd label) = true
instruction_reaches place at (Li rd value) = true
instruction_reaches place at (Move rd rs) = true
instruction_reaches place at (Neg rd rs) = true
instruction_reaches place at Nop = true
instruction_reaches place at (B target) = branch_reaches at (place target)
instruction_reaches place at (BranchZero op rs target) = branch_reaches at (place target)
instruction_reaches place at (BranchOrder op rs rt target) = branch_reaches (at + 4) (place target)
instruction_reaches place at (Mul rd rs rt) = true

abbrev pub reaches : (Name → Option Place) → ℕ → Statement → Bool
reaches place at Empty = true
reaches place at (Instruction i) = instruction_reaches place at i
reaches place at (statements.Data item) = true
reaches place at (Directive directive) = true

abbrev pub any_without_place : (Name → Option Place) → List Name → Bool
any_without_place place [] = false
any_without_place place (name ∷ rest) = not (is_some (place name)) || any_without_place place rest

abbrev pub using_fault : (Name → Option Place) → Position → Line → Option AsmKind
using_fault place p line =
    if any_without_place place (used line.statement) then Some A6
    else (if not (reaches place (TEXT_START + 4 * p.words) line.statement) then Some A7 else None)

-- after the last line, `__start` has to be the label of a word of the text
abbrev pub start_fault : Option Place → Position → Option AsmKind
start_fault place p = if in_text place && nat_lt (address_or_zero place) (TEXT_START + 4 * p.words) then None else Some A6

abbrev pub second_pass : (Name → Option Place) → Position → ℕ → List Line → Option AsmFault
second_pass place p number [] = fault_or number (start_fault (place start_name) p) None
second_pass place p number (line ∷ rest) = fault_or number (using_fault place p line) (second_pass place (after_line line p) (suc number) rest)

abbrev pub first_or : Option AsmFault → Option AsmFault → Option AsmFault
first_or None other = other
first_or (Some fault) other = Some fault

-- the first fault of lines that are already completed; lines are counted from 1
abbrev pub fault_of_all : List Line → Option AsmFault
fault_of_all lines = first_or (first_pass [] start_position 1 lines) (second_pass (place_of lines) start_position 1 lines)

abbrev pub fault_of : List Line → Option AsmFault
fault_of lines = fault_of_all (completed lines)

-- The result of assembling: the image, or the first fault, unless memory ran out.
abbrev pub Assembles : List Line → Result ImageParts AsmError → Type 0
Assembles lines (Ok image) = (fault_of lines ≡ None) × (image ≡ image_of lines)
Assembles lines (Err Memory) = Unit {0}
Assembles lines (Err (Fault fault)) = fault_of lines ≡ Some fault

-- A worked example: m: .asciiz "hi\n" in the data; main: la $a0, m; li $v0, 4; syscall; jr $ra in the text.
abbrev hello : List Line
hello =
    directive_line ToData ∷ record { labels = codes "m" ∷ []; statement = statements.Data (Asciiz (codes "hi\n")) } ∷ directive_line ToText
    ∷ record { labels = main_name ∷ []; statement = Instruction (La A0 (codes "m")) } ∷ instruction_line (Li V0 (pos PRINT_STRING))
    ∷ instruction_line (Plain instr.Syscall) ∷ instruction_line (Plain (instr.Jr RA)) ∷ []

hello_has_no_fault : fault_of hello ≡ None
hello_has_no_fault = refl

hello_image : image_of hello ≡ record {
  entry = 0x00400018;
  text = 0x3c041000 ∷ 0x34840000 ∷ 0x3c020000 ∷ 0x34420004 ∷ 0x0000000c ∷ 0x03e00008 ∷ 0x0c100000 ∷ 0x3402000a ∷ 0x0000000c ∷ [];
  bytes = 0x68 ∷ 0x69 ∷ 0x0a ∷ 0 ∷ [];
}
hello_image = refl

-- two labels of one name; a name without a place; a label of data that waits for its item's padding
twice : fault_of (record { labels = codes "a" ∷ []; statement = Empty } ∷ record { labels = codes "a" ∷ []; statement = Empty } ∷ [])
    ≡ Some (record { kind = A5; line = 2 })
twice = refl

nothing_at_all : fault_of [] ≡ Some (record { kind = A6; line = 1 })
nothing_at_all = refl

waiting : place_of (directive_line ToData ∷ data_line (Byte (pos 1 ∷ [])) ∷ record { labels = codes "a" ∷ []; statement = Directive (Align 1) }
    ∷ data_line (Word (Number (pos 5) ∷ [])) ∷ []) (codes "a")
    ≡ Some (record { segment = Data; address = 0x10000004 })
waiting = refl
