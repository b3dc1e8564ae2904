-- `run` executes n instructions of a machine, or fewer if it exits or traps, and gives the outcome. `run_image` starts with a loaded image (an executable
-- program).
use Rattle.std.specs.Prelude.{ℕ, zero, suc, ◌==◌, false, if◌then◌else◌, List, []}
use Rattle.mips_isa.specs.declared.register.TheConstants.{S6, S7, GP, SP}
use Rattle.mips_isa.specs.ImageBounds.{ImageParts}
use Rattle.mips_isa.specs.declared.address_map.TheConstants.{HEAP_START, STACK_END}
use Rattle.mips_isa.specs.Bytes.{Segments, segments_of, bytes_of_image}
use Rattle.mips_isa.specs.Machine.{Core, Registers, Next, On, Call, Stop, step}
use Rattle.mips_isa.specs.Calls.{State, Outcome, Running, Exited, Trapped, call}

-- the outcome after an instruction; one that traps changes nothing
abbrev pub after : Segments → State → Next → Outcome
after b s (On core) = Running (record s { core = core })
after b s (Call core) = call b (record s { core = core })
after b s (Stop trap) = Trapped trap s

-- an instruction, and the system call that it may be
abbrev pub cycle : List ℕ → Segments → State → Outcome
cycle text b s = after b s (step text b s.core)

abbrev pub and_then : Outcome → (State → Outcome) → Outcome
and_then (Running s) go = go s
and_then (Exited code s) go = Exited code s
and_then (Trapped trap s) go = Trapped trap s

-- so many instructions, the one that exits or traps included
abbrev pub run : List ℕ → Segments → ℕ → State → Outcome
run text b zero s = Running s
run text b (suc n) s = and_then (cycle text b s) (run text b n)

-- $s6 is the stack's lowest address, $s7 the heap's end, $gp the heap's start, $sp the stack's end
abbrev pub start_registers : Segments → Registers
start_registers b = λ k.
    if k == S6 then b.stack_low else (if k == S7 then b.heap_end else (if k == GP then HEAP_START else (if k == SP then STACK_END else 0)))

abbrev pub start_core : ImageParts → Segments → Core
start_core image b = record { registers = start_registers b; hi = 0; lo = 0; pc = image.entry; memory = bytes_of_image image }

-- the state of a machine that was loaded
abbrev pub start : ImageParts → Segments → List ℕ → State
start image b input = record { core = start_core image b; heap_break = HEAP_START; input = input; ended = false; output = [] }

-- the run of an image with so many bytes of heap and stack
abbrev pub run_image : ImageParts → ℕ → ℕ → List ℕ → ℕ → Outcome
run_image image heap stack input n =
    run image.text (segments_of image heap stack) n (start image (segments_of image heap stack) input)
