-- `run_puts` lists the writes (puts) of a run of the machine: one for each number and each byte that is printed, and for a string one for each 64 of its bytes.
use Rattle.std.specs.Prelude.{◌≡◌, refl, ℕ, zero, suc, ◌%◌, ◌==◌, if◌then◌else◌, List, [], ◌∷◌, ◌++◌, Option, Some, None, Result, Ok, Err}
use Rattle.std.specs.Fmt.{signed_decimal}
use Rattle.cool_ports.specs.SinkPuts.{pieces_of, PutFront}
use Rattle.mips_isa.specs.declared.register.TheConstants.{V0, A0}
use Rattle.mips_isa.specs.declared.system_call.TheConstants.{PRINT_INT, PRINT_STRING, PRINT_CHAR}
use Rattle.mips_isa.specs.Bytes.{Bytes, Segments}
use Rattle.mips_isa.specs.Machine.{Core, Next, On, Call, Stop, step}
use Rattle.mips_isa.specs.Calls.{State, Outcome, Running, Exited, Trapped, signed, string_at}
use Rattle.mips_isa.specs.Run.{cycle}
use Rattle.spim_machine.specs.declared.halt.Halt.{Halt}
use Rattle.spim_machine.specs.declared.halt.Halt.TheVariants.{Exit, Trap, StepLimit, ReadFault, WriteFault}

-- the puts of a string
abbrev pub string_puts : Option (List ℕ) → List (List ℕ)
string_puts None = []
string_puts (Some bytes) = pieces_of 64 bytes

-- the puts of the system call in $v0
abbrev pub call_puts : Segments → Core → List (List ℕ)
call_puts b c =
    if c.registers V0 == PRINT_INT then signed_decimal (signed (c.registers A0)) ∷ []
    else (if c.registers V0 == PRINT_STRING then string_puts (string_at b c.memory (c.registers A0))
    else (if c.registers V0 == PRINT_CHAR then (c.registers A0 % 256 ∷ []) ∷ []
    else []))

-- Worked example: 321 is printed as its low byte
printed_alone : (b : Segments) (memory : Bytes)
    → call_puts b (record { registers = λ k. if k == V0 then PRINT_CHAR else 321; hi = 0; lo = 0; pc = 0x00400004; memory = memory }) ≡ (65 ∷ []) ∷ []
printed_alone b memory = refl

-- the puts of an instruction, which may be a system call
abbrev pub next_puts : Segments → Next → List (List ℕ)
next_puts b (On core) = []
next_puts b (Call core) = call_puts b core
next_puts b (Stop trap) = []

abbrev pub cycle_puts : List ℕ → Segments → Core → List (List ℕ)
cycle_puts text b c = next_puts b (step text b c)

-- the puts of so many instructions of a run, the one that exits or traps included
abbrev pub puts_then : Outcome → (State → List (List ℕ)) → List (List ℕ)
puts_then (Running s) later = later s
puts_then (Exited code s) later = []
puts_then (Trapped trap s) later = []

abbrev pub run_puts : List ℕ → Segments → ℕ → State → List (List ℕ)
run_puts text b zero s = []
run_puts text b (suc n) s = cycle_puts text b s.core ++ puts_then (cycle text b s) (run_puts text b n)

-- the output of a run with this outcome
abbrev pub output_of : Outcome → List ℕ
output_of (Running s) = s.output
output_of (Exited code s) = s.output
output_of (Trapped trap s) = s.output

-- These texts were put, or a front of them where a put failed.
abbrev pub PutBy : Halt → List (List ℕ) → List (List ℕ) → List (List ℕ) → Type 0
PutBy WriteFault due before after = PutFront before due after
PutBy (Exit code) due before after = after ≡ before ++ due
PutBy (Trap trap) due before after = after ≡ before ++ due
PutBy StepLimit due before after = after ≡ before ++ due
PutBy ReadFault due before after = after ≡ before ++ due

abbrev pub PutIf : Result Unit Halt → List (List ℕ) → List (List ℕ) → List (List ℕ) → Type 0
PutIf (Ok done) due before after = after ≡ before ++ due
PutIf (Err halt) due before after = PutBy halt due before after

-- These texts were put, or a front of them where a read or a put failed.
abbrev pub PutWithin : Halt → List (List ℕ) → List (List ℕ) → List (List ℕ) → Type 0
PutWithin ReadFault due before after = PutFront before due after
PutWithin WriteFault due before after = PutFront before due after
PutWithin (Exit code) due before after = after ≡ before ++ due
PutWithin (Trap trap) due before after = after ≡ before ++ due
PutWithin StepLimit due before after = after ≡ before ++ due
