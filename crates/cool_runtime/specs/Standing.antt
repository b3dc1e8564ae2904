-- `HasLines` says that the text segment of a machine has the instructions of given assembly lines from an address on, and that their labels have their
-- addresses.
use Rattle.std.specs.Prelude.{ℕ, ◌+◌, ◌*◌, ◌%◌, ◌^◌, ◌<◌, ◌≤◌, ◌≡◌, List, [], ◌∷◌, Some}
use Rattle.mips_isa.specs.declared.address_map.TheConstants.{TEXT_START, DATA_START}
use Rattle.mips_isa.specs.declared.instr.Instr.{Instr}
use Rattle.mips_isa.specs.Decoding.{decoded}
use Rattle.mips_isa.specs.Machine.{word_of_text}
use Rattle.mips_isa.specs.Lines.{Name, AsmInstr, Plain, ToTwo, ToOne, ToJump, La, Li, Move, Neg, Nop, B, BranchZero, BranchOrder, Mul, Statement, Empty, Instruction, Data, Directive, Line}
use Rattle.mips_isa.specs.Assembly.{need, instructions}
use Rattle.cool_runtime.specs.Reaches.{World}
use Rattle.mips_asm.specs.TextWords.{words_needed}

-- an instruction stands at an address
pub record InstructionAt (w : World) (pc : ℕ) (i : Instr) : Type 0 where
  pub even : pc % 4 ≡ 0
  pub from : TEXT_START ≤ pc
  pub to : pc + 4 ≤ w.segments.text_end
  pub low : pc + 4 < DATA_START
  pub is : decoded (word_of_text w.text pc) ≡ Some i

abbrev pub InstructionsAt : World → ℕ → List Instr → Type 0
InstructionsAt w pc [] = Unit {0}
InstructionsAt w pc (i ∷ rest) = InstructionAt w pc i × InstructionsAt w (pc + 4) rest

-- a label to which jumps and branches may go
pub record IsTarget (w : World) (label : Name) : Type 0 where
  pub even : w.place label % 4 ≡ 0
  pub low : w.place label < DATA_START

-- the names of an instruction have addresses that it can hold
abbrev pub InstructionHolds : World → AsmInstr → Type 0
InstructionHolds w (Plain i) = Unit {0}
InstructionHolds w (ToTwo op rs rt target) = IsTarget w target
InstructionHolds w (ToOne op rs target) = IsTarget w target
InstructionHolds w (ToJump op target) = IsTarget w target
InstructionHolds w (La rd label) = w.place label < 2 ^ 32
InstructionHolds w (Li rd value) = Unit {0}
InstructionHolds w (Move rd rs) = Unit {0}
InstructionHolds w (Neg rd rs) = Unit {0}
InstructionHolds w Nop = Unit {0}
InstructionHolds w (B target) = IsTarget w target
InstructionHolds w (BranchZero op rs target) = IsTarget w target
InstructionHolds w (BranchOrder op rs rt target) = IsTarget w target
InstructionHolds w (Mul rd rs rt) = Unit {0}

-- the names of a statement have addresses that it can hold
abbrev pub Holds : World → Statement → Type 0
Holds w Empty = Unit {0}
Holds w (Instruction i) = InstructionHolds w i
Holds w (Data item) = Unit {0}
Holds w (Directive directive) = Unit {0}

-- the bytes of text that a line takes
abbrev pub size : Line → ℕ
size line = 4 * words_needed (need line.statement)

abbrev pub sizes : List Line → ℕ
sizes [] = 0
sizes (line ∷ rest) = size line + sizes rest

-- labels are at an address
abbrev pub PlacedAt : World → ℕ → List Name → Type 0
PlacedAt w pc [] = Unit {0}
PlacedAt w pc (label ∷ rest) = (w.place label ≡ pc) × PlacedAt w pc rest

-- a line of text stands at an address
pub record LineAt (w : World) (pc : ℕ) (line : Line) : Type 0 where
  pub labels : PlacedAt w pc line.labels
  pub words : InstructionsAt w pc (instructions w.place pc line.statement)
  pub names : Holds w line.statement

-- lines of text stand from an address on
abbrev pub HasLines : World → ℕ → List Line → Type 0
HasLines w pc [] = Unit {0}
HasLines w pc (line ∷ rest) = LineAt w pc line × HasLines w (pc + size line) rest
