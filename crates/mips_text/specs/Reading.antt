-- The parsing of assembly: `Reads` gives the lines of a text, and `FirstFault` the first line that is not valid, with the error of its first wrong token. The
-- rule is in `docs/assembly.md`, Lines, Statements and Faults.
use Rattle.std.specs.Prelude.{◌≡◌, refl, ℕ, pos, negsuc, ◌+◌, Bool, false, ◌==◌, ◌&&◌, if◌then◌else◌, List, [], ◌∷◌, ◌++◌, length, map, codes, Option, Some, None, Result, Ok, Err}
use Rattle.mips_isa.specs.declared.asm_fault.AsmKind.{AsmKind}
use Rattle.mips_isa.specs.declared.asm_fault.AsmKind.TheVariants.{A1, A2, A3, A4}
use Rattle.mips_isa.specs.declared.asm_fault.AsmFault.{AsmFault}
use Rattle.mips_isa.specs.declared.instr.Instr.{Instr}
use Rattle.mips_isa.specs.declared.instr.Instr.TheVariants as instr
use Rattle.mips_isa.specs.declared.instr.MemOp.TheVariants.{Lw, Sw}
use Rattle.mips_isa.specs.declared.register.TheConstants.{A0, T0, T9, SP, RA}
use Rattle.mips_isa.specs.Lines as statements
use Rattle.mips_isa.specs.Lines.{Line, Statement, Empty, Instruction}
use Rattle.mips_text.specs.declared.directives.Directive.{Directive}
use Rattle.mips_text.specs.declared.mnemonics.Mnemonic.{Mnemonic}
use Rattle.mips_text.specs.Names.{directive_named, mnemonic_named}
use Rattle.mips_text.specs.Operands.{register_named, row_fault}
use Rattle.mips_text.specs.Statements.{directive_fault, directive_made, has_colon, has_name, instruction_made, instruction_operands}
use Rattle.mips_text.specs.Words.{Word, Name, Colon, words_of}

-- Statements

abbrev pub judged : Option AsmKind → Statement → Result Statement AsmKind
judged None statement = Ok statement
judged (Some kind) statement = Err kind

abbrev pub directive_read : Option Directive → List Word → Result Statement AsmKind
directive_read None words = Err A4
directive_read (Some directive) words = judged (directive_fault directive words) (directive_made directive words)

abbrev pub instruction_read : Option Mnemonic → List Word → Result Statement AsmKind
instruction_read None words = Err A1
instruction_read (Some mnemonic) words =
    judged (row_fault (instruction_operands mnemonic words) words) (Instruction (instruction_made mnemonic words))

abbrev pub begins_with_dot : List ℕ → Bool
begins_with_dot [] = false
begins_with_dot (b ∷ bs) = b == 46

-- the statement whose first word is this name, with the words behind it
abbrev pub statement_read : List ℕ → List Word → Result Statement AsmKind
statement_read name words =
    if begins_with_dot name then directive_read (directive_named name) words else instruction_read (mnemonic_named name) words

-- Lines

abbrev pub with_label : List ℕ → Result Line AsmKind → Result Line AsmKind
with_label name (Ok line) = Ok (record { labels = name ∷ line.labels; statement = line.statement })
with_label name (Err kind) = Err kind

abbrev pub without_label : Result Statement AsmKind → Result Line AsmKind
without_label (Ok statement) = Ok (record { labels = []; statement = statement })
without_label (Err kind) = Err kind

-- a statement, or none where there is no word
abbrev pub rest_read : List Word → Result Statement AsmKind
rest_read [] = Ok Empty
rest_read (Name name ∷ words) = statement_read name words
rest_read (_ ∷ words) = Err A1

-- a label is a name before a colon
abbrev pub has_label : List Word → ℕ → Bool
has_label words index = has_name words index && has_colon words (index + 1)

-- labels, and the rest
abbrev pub line_read : List Word → Result Line AsmKind
line_read (Name name ∷ Colon ∷ words) = with_label name (line_read words)
line_read words = without_label (rest_read words)

-- Texts

abbrev pub with_byte : ℕ → List (List ℕ) → List (List ℕ)
with_byte b [] = (b ∷ []) ∷ []
with_byte b (line ∷ lines) = (b ∷ line) ∷ lines

-- A line ends at a newline; a rest after the last one is a line where it is not empty.
abbrev pub lines_in : List ℕ → List (List ℕ)
lines_in [] = []
lines_in (b ∷ bs) = if b == 10 then [] ∷ lines_in bs else with_byte b (lines_in bs)

-- the reading of each line
abbrev pub readings : List ℕ → List (Result Line AsmKind)
readings bytes = map (λ line. line_read (words_of line)) (lines_in bytes)

-- The text is these lines.
abbrev pub Reads : List ℕ → List Line → Type 0
Reads bytes lines = readings bytes ≡ map Ok lines

-- The text's first line that is none has this number, from 1, and is at fault as told.
pub record FirstFault (bytes : List ℕ) (fault : AsmFault) : Type 0 where
  pub good : List Line
  pub rest : List (Result Line AsmKind)
  pub readings_are : readings bytes ≡ map Ok good ++ Err fault.kind ∷ rest
  pub line : fault.line ≡ length good + 1

-- Worked examples: forms of words and of statements, and the kinds of faults

abbrev reading : List ℕ → Result Line AsmKind
reading line = line_read (words_of line)

abbrev plain : List (List ℕ) → Instr → Result Line AsmKind
plain labels i = Ok (record { labels = labels; statement = Instruction (statements.Plain i) })

joined : reading (codes "main:lw$a0,-4($sp)# x") ≡ plain (codes "main" ∷ []) (instr.Mem Lw A0 SP (negsuc 3))
unfolding mnemonic_named register_named
joined = refl

no_offset : reading (codes "a : b: sw $8 ( $29 )") ≡ plain (codes "a" ∷ codes "b" ∷ []) (instr.Mem Sw T0 SP (pos 0))
unfolding mnemonic_named register_named
no_offset = refl

one_register : reading (codes "jalr $t9") ≡ plain [] (instr.Jalr RA T9)
unfolding mnemonic_named register_named
one_register = refl

named_as_directive : reading (codes ".word : .word -1-2 a") ≡ Ok (record {
  labels = codes ".word" ∷ [];
  statement = statements.Data (statements.Word (statements.Number (negsuc 0) ∷ statements.Number (negsuc 1) ∷ statements.Address (codes "a") ∷ []));
})
unfolding directive_named
named_as_directive = refl

a_string : reading (codes ".asciiz \"# \\\"\\n\"#\"") ≡ Ok (record { labels = []; statement = statements.Data (statements.Asciiz (codes "# \"\n")) })
unfolding directive_named
a_string = refl

stray_byte : reading (codes "nop @") ≡ Err A1
unfolding mnemonic_named
stray_byte = refl

no_instruction : reading (codes "ADD $1 $2 $3") ≡ Err A1
unfolding mnemonic_named
no_instruction = refl

number_first : reading (codes "a: 5") ≡ Err A1
number_first = refl

open_string : reading (codes ".ascii \"a\\\"") ≡ Err A1
unfolding directive_named
open_string = refl

one_missing : reading (codes "add $1 $2") ≡ Err A2
unfolding mnemonic_named register_named
one_missing = refl

no_register : reading (codes "jr $08") ≡ Err A2
unfolding mnemonic_named register_named
no_register = refl

bad_before_open : reading (codes "add $1 5 \"x") ≡ Err A2
unfolding mnemonic_named register_named
bad_before_open = refl

other_escape : reading (codes ".ascii \"\\q\"") ≡ Err A2
unfolding directive_named
other_escape = refl

out_of_range : reading (codes "lw $1 40000") ≡ Err A3
unfolding mnemonic_named register_named
out_of_range = refl

forty_digits : reading (codes "li $1 9999999999999999999999999999999999999999") ≡ Err A3
unfolding mnemonic_named register_named
forty_digits = refl

no_directive : reading (codes ".half \"") ≡ Err A4
unfolding directive_named
no_directive = refl

three_lines : lines_in (codes "nop\n\nb a") ≡ codes "nop" ∷ [] ∷ codes "b a" ∷ []
three_lines = refl

ended_line : lines_in (codes "nop\n") ≡ codes "nop" ∷ []
ended_line = refl

fault_on_three : FirstFault (codes "nop\n\nb 5\n@") (record { kind = A2; line = 3 })
unfolding mnemonic_named
fault_on_three = record {
  good = record { labels = []; statement = Instruction statements.Nop } ∷ record { labels = []; statement = Empty } ∷ [];
  rest = Err A1 ∷ [];
  readings_are = refl;
  line = refl;
}
