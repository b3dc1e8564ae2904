-- `Meets` and `TextReadsAs` say that the functions that parse assembly return the results of the definition (`Reading.antt`), unless memory ran out.
use Rattle.std.specs.Prelude.{◌≡◌, ℕ, List, [], ◌∷◌, Result, Ok, Err, Vec}
use Rattle.mips_isa.specs.declared.asm_fault.AsmKind.{AsmKind}
use Rattle.mips_isa.specs.declared.asm_fault.AsmError.{AsmError}
use Rattle.mips_isa.specs.declared.asm_fault.AsmError.TheVariants as error
use Rattle.mips_isa.specs.Lines.{Line, lines_of}
use Rattle.mips_isa.specs.declared.line.Line as declared_line
use Rattle.mips_text.specs.declared.flaw.Flaw.{Flaw}
use Rattle.mips_text.specs.declared.flaw.Flaw.TheVariants as flaw
use Rattle.mips_text.specs.Reading.{Reads, FirstFault, with_label}

-- the result of reading a part of a line
abbrev pub Meets : {A B : Type 0} → (A → B) → Result A Flaw → Result B AsmKind → Type 0
Meets see (Ok x) read = read ≡ Ok (see x)
Meets see (Err flaw.Memory) read = Unit {0}
Meets see (Err (flaw.Fault kind)) read = read ≡ Err kind

-- the result of parsing a line, with these labels put before the rest of it
abbrev pub labelled : List (List ℕ) → Result Line AsmKind → Result Line AsmKind
labelled [] read = read
labelled (name ∷ names) read = with_label name (labelled names read)

-- A text is read: as its lines, or with its first fault, unless memory ran out.
abbrev pub TextReadsAs : {A : Type 0} → List ℕ → Result (Vec declared_line.Line A) AsmError → Type 0
TextReadsAs bytes (Ok lines) = Reads bytes (lines_of lines.items)
TextReadsAs bytes (Err error.Memory) = Unit {0}
TextReadsAs bytes (Err (error.Fault fault)) = FirstFault bytes fault
