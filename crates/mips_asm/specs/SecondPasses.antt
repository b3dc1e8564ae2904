-- `HasLeft` is the invariant of the assembler's second pass: it relates the lines still to assemble, and the text and data assembled so far, to the result for
-- all lines.
use Rattle.std.specs.Prelude.{◌≡◌, ℕ, ◌≤◌, List, [], ◌++◌, length, Option, None, Some, Result, Ok, Err}
use Rattle.mips_isa.specs.declared.place.Place.{Place}
use Rattle.mips_isa.specs.declared.place.Segment.{Segment}
use Rattle.mips_isa.specs.declared.asm_fault.AsmFault.{AsmFault}
use Rattle.mips_isa.specs.declared.asm_fault.AsmError.{AsmError}
use Rattle.mips_isa.specs.declared.asm_fault.AsmError.TheVariants.{Memory, Fault}
use Rattle.mips_isa.specs.declared.address_map.TheConstants.{MOST_TEXT_WORDS, MOST_DATA_BYTES}
use Rattle.mips_isa.specs.Lines.{Name, Line, lines_of, AreInRange}
use Rattle.mips_isa.specs.Assembly.{Position, start_position, place_of, address_or_zero, text_from, bytes_from, completed, first_pass, second_pass, fault_of}
use Rattle.mips_asm.specs.declared.second_pass.SecondPass.{SecondPass}
use Rattle.mips_asm.specs.declared.second_pass.Assembly.{Assembly}
use Rattle.mips_asm.specs.Places.{places_of}

abbrev pub filled : ℕ → ℕ → Segment → Position
filled words bytes segment = record { words = words; bytes = bytes; segment = segment }

-- These lines of all are left, the first of them with this number; the others were assembled to this text and these bytes.
pub record Assembled (place : Name → Option Place) (all : List Line) (rest : List Line) (number : ℕ) (text bytes : List ℕ) (segment : Segment) : Type 0 where
  pub ranges : AreInRange rest
  pub seen : List Name
  pub from : ℕ
  pub first : first_pass seen (filled (length text) (length bytes) segment) from rest ≡ None
  pub fault : second_pass place (filled (length text) (length bytes) segment) number rest ≡ second_pass place start_position 1 all
  pub text_is : text ++ text_from (λ name. address_or_zero (place name)) (filled (length text) (length bytes) segment) rest ≡ text_from (λ name. address_or_zero (place name)) start_position all
  pub bytes_is : bytes ++ bytes_from (λ name. address_or_zero (place name)) (filled (length text) (length bytes) segment) rest ≡ bytes_from (λ name. address_or_zero (place name)) start_position all
  pub words_fit : length text ≤ MOST_TEXT_WORDS
  pub bytes_fit : length bytes ≤ MOST_DATA_BYTES

-- these lines are left, or all lines have this fault
abbrev pub LeftBy : Option AsmFault → (Name → Option Place) → List Line → List Line → Assembly → Type 0
LeftBy None place all rest a = Assembled place all rest a.number a.output.text.items a.output.bytes.items a.output.segment
LeftBy (Some fault) place all rest a = second_pass (place_of all) start_position 1 all ≡ Some fault

-- these lines are left of all lines, whose labels have these places
pub record IsLeft (place : Name → Option Place) (all rest : List Line) (a : Assembly) : Type 0 where
  pub places : place ≡ place_of all
  pub state : LeftBy a.fault place all rest a

-- these lines come next
abbrev pub IsNext : (Name → Option Place) → Assembly → List Line → Type 0
IsNext place a lines = (all : List Line) × ((rest : List Line) × IsLeft place all (lines ++ rest) a)

-- The last ones of these lines, whose first pass was without a fault, are to be taken.
pub record HasLeft (pass : SecondPass) (lines rest : List Line) : Type 0 where
  pub completing : completed lines ≡ lines ++ lines_of pass.added.items
  pub ranges : AreInRange (lines_of pass.added.items)
  pub fine : first_pass [] start_position 1 (lines ++ lines_of pass.added.items) ≡ None
  pub left : IsLeft (places_of pass.labels) (lines ++ lines_of pass.added.items) (rest ++ lines_of pass.added.items) pass.assembly

-- These lines are to be taken next.
abbrev pub IsDue : SecondPass → List Line → Type 0
IsDue pass lines = (all : List Line) × ((rest : List Line) × HasLeft pass all (lines ++ rest))

-- The result of the first pass over lines: the second pass, which is to take them all, or their first fault.
abbrev pub Begins : List Line → Result SecondPass AsmError → Type 0
Begins lines (Ok pass) = HasLeft pass lines lines
Begins lines (Err Memory) = Unit {0}
Begins lines (Err (Fault fault)) = fault_of lines ≡ Some fault
