-- Definitions for assembling one line: the label that its instruction refers to, its errors, and the machine words and data bytes that it adds.
use Rattle.std.specs.Prelude.{◌≡◌, ℕ, ◌+◌, ◌*◌, ◌%◌, ◌≤◌, true, if◌then◌else◌, List, [], ◌∷◌, ◌++◌, map, replicate, Option, Some, None, Result, Ok, Err}
use Rattle.mips_isa.specs.declared.instr.Instr.{Instr}
use Rattle.mips_isa.specs.declared.place.Place.{Place}
use Rattle.mips_isa.specs.declared.asm_fault.AsmKind.{AsmKind}
use Rattle.mips_isa.specs.declared.asm_fault.AsmKind.TheVariants.{A6, A7}
use Rattle.mips_isa.specs.declared.asm_fault.AsmError.{AsmError}
use Rattle.mips_isa.specs.declared.asm_fault.AsmError.TheVariants.{Memory, Fault}
use Rattle.mips_isa.specs.Words.{bits_of, word_of}
use Rattle.mips_isa.specs.declared.place.Segment.{Segment}
use Rattle.mips_isa.specs.declared.place.Segment.TheVariants.{Text, Data}
use Rattle.mips_isa.specs.Lines as statements
use Rattle.mips_isa.specs.Lines.{Name, Line, WordItem, Number, Address, AsmInstr, Plain, ToTwo, ToOne, ToJump, La, Li, Move, Neg, Nop, B, BranchZero, BranchOrder, Mul, DataItem, Statement, Empty, Instruction, Directive}
use Rattle.mips_isa.specs.Assembly as assembly
use Rattle.mips_isa.specs.declared.address_map.TheConstants.{TEXT_START}
use Rattle.mips_isa.specs.ImageBounds.{ImageParts}
use Rattle.mips_isa.specs.Assembly.{Need, need, padding_to, instructions, item_bytes, address_or_zero, is_text, instruction_reaches, any_without_place, names_of_items, names_of_data, fault_or, start_fault, start_name, start_position, second_pass, place_of, image_of_all}
use Rattle.mips_asm.specs.declared.target.Target.{Target}
use Rattle.mips_asm.specs.declared.target.Target.TheVariants.{Unused, Missing, Found}
use Rattle.mips_asm.specs.declared.expansion.Expansion.{Expansion}
use Rattle.mips_asm.specs.declared.expansion.Expansion.TheVariants.{One, Two}

-- the place of the label that an instruction uses

abbrev pub found : Option Place → Target
found None = Missing
found (Some place) = Found place

abbrev pub target_in : (Name → Option Place) → AsmInstr → Target
target_in place (Plain i) = Unused
target_in place (ToTwo op rs rt target) = found (place target)
target_in place (ToOne op rs target) = found (place target)
target_in place (ToJump op target) = found (place target)
target_in place (La rd label) = found (place label)
target_in place (Li rd value) = Unused
target_in place (Move rd rs) = Unused
target_in place (Neg rd rs) = Unused
target_in place Nop = Unused
target_in place (B target) = found (place target)
target_in place (BranchZero op rs target) = found (place target)
target_in place (BranchOrder op rs rt target) = found (place target)
target_in place (Mul rd rs rt) = Unused

-- the instructions of an expansion
abbrev pub expanded : Expansion → List Instr
expanded (One i) = i ∷ []
expanded (Two i j) = i ∷ j ∷ []

-- the fault of an instruction's target

abbrev pub target_fault : ℕ → AsmInstr → Target → Option AsmKind
target_fault at instruction Unused = None
target_fault at instruction Missing = Some A6
target_fault at instruction (Found place) = if instruction_reaches (λ _. Some place) at instruction then None else Some A7

abbrev pub instruction_fault : (Name → Option Place) → ℕ → AsmInstr → Option AsmKind
instruction_fault place at instruction = target_fault at instruction (target_in place instruction)

-- An error is this fault on this line, unless memory ran out.
abbrev pub IsError : ℕ → Option AsmKind → AsmError → Type 0
IsError number kind Memory = Unit {0}
IsError number kind (Fault fault) = fault_or number kind None ≡ Some fault

-- the address of a target, or 0
abbrev pub target_address : Target → ℕ
target_address Unused = 0
target_address Missing = 0
target_address (Found place) = place.address

-- the word of an item, if its label has a place

abbrev pub address_if : Option Place → Option ℕ
address_if None = None
address_if (Some place) = Some place.address

abbrev pub word_in : (Name → Option Place) → WordItem → Option ℕ
word_in place (Number n) = Some (bits_of n)
word_in place (Address label) = address_if (place label)

-- the fault of the items of `.word`, and of an item of data

abbrev pub items_fault : (Name → Option Place) → List WordItem → Option AsmKind
items_fault place items = if any_without_place place (names_of_items items) then Some A6 else None

abbrev pub item_fault : (Name → Option Place) → DataItem → Option AsmKind
item_fault place item = if any_without_place place (names_of_data item) then Some A6 else None

-- the zeros before an item, where a segment is open and the data has so many bytes
abbrev pub zeros : Need → Segment → ℕ → ℕ
zeros assembly.Nothing segment n = 0
zeros (assembly.Words count) segment n = 0
zeros (assembly.Item unit size) segment n = padding_to Data unit n
zeros (assembly.Switch other) segment n = 0
zeros (assembly.Padding unit) segment n = padding_to segment unit n

-- the fault of a statement after so many words
abbrev pub statement_fault : (Name → Option Place) → ℕ → Statement → Option AsmKind
statement_fault place words Empty = None
statement_fault place words (Instruction i) = instruction_fault place (TEXT_START + 4 * words) i
statement_fault place words (statements.Data item) = item_fault place item
statement_fault place words (Directive directive) = None

-- the words and bytes that a statement is assembled to, after so many words and so many bytes

abbrev pub words_of_statement : (Name → Option Place) → ℕ → Statement → List ℕ
words_of_statement place words statement = map word_of (instructions (λ name. address_or_zero (place name)) (TEXT_START + 4 * words) statement)

abbrev pub bytes_of_statement : (Name → Option Place) → Segment → ℕ → Statement → List ℕ
bytes_of_statement place segment n statement =
    replicate (zeros (need statement) segment n) 0 ++ item_bytes (λ name. address_or_zero (place name)) statement

-- the fault after the last line, if there are so many words
abbrev pub last_fault : (Name → Option Place) → ℕ → Option AsmKind
last_fault place words = start_fault (place start_name) (record { words = words; bytes = 0; segment = Text })

-- A place in text is the address of a word.
abbrev pub IsWordPlace : Option Place → Type 0
IsWordPlace None = Unit {0}
IsWordPlace (Some place) = is_text place.segment ≡ true → (place.address % 4 ≡ 0) × (TEXT_START ≤ place.address)

-- The result of the second pass for lines without a fault in the first.
abbrev pub IsImageOrFault : List Line → Result ImageParts AsmError → Type 0
IsImageOrFault lines (Ok image) = (second_pass (place_of lines) start_position 1 lines ≡ None) × (image ≡ image_of_all lines)
IsImageOrFault lines (Err Memory) = Unit {0}
IsImageOrFault lines (Err (Fault fault)) = second_pass (place_of lines) start_position 1 lines ≡ Some fault
