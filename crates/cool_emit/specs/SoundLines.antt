-- `AreSound` gives a condition under which lines of assembly, text and then data, assemble without error. It is stated line by line, so that it can be shown
-- for the parts of a program separately.
use Rattle.std.specs.Prelude.{◌≡◌, ℕ, suc, zero, ◌+◌, ◌<◌, ◌≤◌, List, [], ◌∷◌, ◌++◌, flat_map, Contains}
use Rattle.std.specs.List.{AllByRecursion}
use Rattle.mips_isa.specs.declared.address_map.TheConstants.{MOST_DATA_BYTES}
use Rattle.mips_isa.specs.Words.{InRange}
use Rattle.mips_isa.specs.Lines.{Name, WordItem, Number, Address, AsmInstr, Plain, ToTwo, ToOne, ToJump, La, Li, Move, Neg, Nop, B, BranchZero, BranchOrder, Mul, DataItem, Word, Byte, Ascii, Asciiz, Space, AsmDirective, ToText, ToData, Globl, Align, Statement, Empty, Instruction, Data, Directive, Line, IsWord}
use Rattle.mips_isa.specs.Assembly.{Need, Nothing, Words, Item, Switch, Padding, need, directive_line, start_name}
use Rattle.cool_runtime.specs.Instructions.{label, la}
use Rattle.lists.specs.Different.{AreDifferent}

-- An instruction of text has numbers in their ranges. A jump goes to a target; an address is that of a name that may be used.
abbrev pub IsTextInstruction : (Name → Type 0) → (Name → Type 0) → AsmInstr → Type 0
IsTextInstruction target known (Plain i) = InRange i
IsTextInstruction target known (ToJump op name) = target name
IsTextInstruction target known (La rd name) = (rd < 32) × known name
IsTextInstruction target known (Li rd value) = (rd < 32) × IsWord value
IsTextInstruction target known (Move rd rs) = (rd < 32) × (rs < 32)
IsTextInstruction target known (ToTwo op rs rt name) = ⊥
IsTextInstruction target known (ToOne op rs name) = ⊥
IsTextInstruction target known (Neg rd rs) = ⊥
IsTextInstruction target known Nop = ⊥
IsTextInstruction target known (B name) = ⊥
IsTextInstruction target known (BranchZero op rs name) = ⊥
IsTextInstruction target known (BranchOrder op rs rt name) = ⊥
IsTextInstruction target known (Mul rd rs rt) = ⊥

-- a statement of text: no more than a label's line, or an instruction
abbrev pub IsText : (Name → Type 0) → (Name → Type 0) → Statement → Type 0
IsText target known Empty = Unit {0}
IsText target known (Instruction i) = IsTextInstruction target known i
IsText target known (Data item) = ⊥
IsText target known (Directive directive) = ⊥

abbrev pub IsDataWord : (Name → Type 0) → WordItem → Type 0
IsDataWord known (Number n) = IsWord n
IsDataWord known (Address name) = known name

-- an item of data: words, or a text up to a zero
abbrev pub IsDataItem : (Name → Type 0) → DataItem → Type 0
IsDataItem known (Word items) = AllByRecursion (IsDataWord known) items
IsDataItem known (Asciiz bytes) = Unit {0}
IsDataItem known (Byte items) = ⊥
IsDataItem known (Ascii bytes) = ⊥
IsDataItem known (Space n) = ⊥

-- a directive of data: a fill-up to a word
abbrev pub IsDataDirective : AsmDirective → Type 0
IsDataDirective (Align n) = n ≡ 2
IsDataDirective ToText = ⊥
IsDataDirective ToData = ⊥
IsDataDirective (Globl name) = ⊥

-- a statement of data: no more than a label's line, an item, or a directive
abbrev pub IsData : (Name → Type 0) → Statement → Type 0
IsData known Empty = Unit {0}
IsData known (Instruction i) = ⊥
IsData known (Data item) = IsDataItem known item
IsData known (Directive directive) = IsDataDirective directive

abbrev pub AreText : (Name → Type 0) → (Name → Type 0) → List Line → Type 0
AreText target known = AllByRecursion (λ line. IsText target known line.statement)

abbrev pub AreData : (Name → Type 0) → List Line → Type 0
AreData known = AllByRecursion (λ line. IsData known line.statement)

-- the labels of lines
abbrev pub labels_of : List Line → List Name
labels_of = flat_map (λ line. line.labels)

-- The space that lines take: a line of text takes its words, and at least one; a line of data takes its bytes and four more, for its padding. So there are
-- no more lines than this space.

abbrev pub text_need : Need → ℕ
text_need Nothing = 1
text_need (Words zero) = 1
text_need (Words (suc n)) = suc n
text_need (Item unit size) = 1
text_need (Switch segment) = 1
text_need (Padding unit) = 1

abbrev pub text_room : List Line → ℕ
text_room [] = 0
text_room (line ∷ rest) = text_need (need line.statement) + text_room rest

abbrev pub data_need : Need → ℕ
data_need Nothing = 4
data_need (Words n) = 4
data_need (Item unit size) = 4 + size
data_need (Switch segment) = 4
data_need (Padding unit) = 4

abbrev pub data_room : List Line → ℕ
data_room [] = 0
data_room (line ∷ rest) = data_need (need line.statement) + data_room rest

-- the lines of a program of text and data
abbrev pub joined_lines : List Line → List Line → List Line
joined_lines text items = text ++ directive_line ToData ∷ items

-- So many words of text a program has at most; the assembler takes 66,060,288.
abbrev pub MOST_TEXT_WORDS : ℕ
MOST_TEXT_WORDS = 66000000

-- Text and data that assemble: every jump goes to a label of text, every name is a label, no label stands twice, the segments have room,
-- and the text begins with the label at which a run starts, before an instruction.
pub record AreSound (text items : List Line) : Type 0 where
  pub text_lines : AreText (Contains (labels_of text)) (Contains (labels_of (joined_lines text items))) text
  pub data_lines : AreData (Contains (labels_of (joined_lines text items))) items
  pub different : AreDifferent (labels_of (joined_lines text items))
  pub text_fits : text_room text ≤ MOST_TEXT_WORDS
  pub data_fits : data_room items ≤ MOST_DATA_BYTES
  pub main : Name
  pub behind : List Line
  pub starts : text ≡ label start_name ∷ la 4 main ∷ behind
