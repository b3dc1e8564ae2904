-- Lemmas on the outcome of a system call that prints: all of its bytes were written to the output, or it trapped and changed nothing.
use Rattle.std.proofs.Common.{◌≡◌, ◌∙◌, refl, sym, ap, ap₂, subst, ℕ, ◌-◌, List, ◌++◌}
use Rattle.std.specs.Prelude.{Option, Some, None, Ok, Err}
use Rattle.cool_ports.specs.SinkBytes.{appended}
use Rattle.cool_ports.proofs.GettingBytes.{appended-appended}
use Rattle.mips_isa.specs.declared.trap.Trap.{Trap}
use Rattle.mips_isa.specs.declared.trap.TrapKind.TheVariants.{BadAddress}
use Rattle.mips_isa.specs.Calls.{State, Outcome, Trapped, string_at, a0, print, print_string}
use Rattle.spim_memory.specs.Memory.{MemoryParts, segments, bytes_of}
use Rattle.spim_machine.specs.declared.halt.Halt.{Halt}
use Rattle.spim_machine.specs.declared.halt.Halt.TheVariants as halts
use Rattle.spim_machine.specs.MachineStates.{MachineParts, state_of}
use Rattle.spim_machine.specs.Ends.{stores_none, IsResultOf}
use Rattle.spim_machine.proofs.PartsOfMachines.{a0_of, memory_of}

-- in any state that the machine may be in, the call prints these bytes
abbrev pub Prints : (State → Outcome) → MachineParts → List ℕ → Type 0
Prints does m bytes = (input output : List ℕ) → does (state_of m input output) ≡ print (state_of m input output) bytes

-- all of the bytes were put
pub printed : (does : State → Outcome) (m : MachineParts) (bytes : List ℕ) (left held held' : Option (List ℕ)) → Prints does m bytes
    → held' ≡ appended held bytes → IsResultOf does stores_none m left held (Ok tt) m left held'
printed does m bytes left held held' prints put input output first left_is held_is = (
  record (state_of m input output) { output = output ++ bytes },
  prints input output,
  record {
    core = refl;
    heap_break = refl;
    ended = refl;
    input = left_is;
    output = put ∙ ap (λ before. appended before bytes) held_is ∙ appended-appended first output bytes;
  },
)

-- a call traps in any state that the machine may be in, and changes nothing
pub trapped : (does : State → Outcome) (m : MachineParts) (trap : Trap) (halt : Halt) (left held : Option (List ℕ))
    → ((input output : List ℕ) → does (state_of m input output) ≡ Trapped trap (state_of m input output)) → halt ≡ halts.Trap trap
    → IsResultOf does stores_none m left held (Err halt) m left held
trapped does m trap halt left held traps is =
    subst (λ h. IsResultOf does stores_none m left held (Err h) m left held) (sym is)
    (λ input output first left_is held_is. (state_of m input output, traps input output, record { core = refl; heap_break = refl; ended = refl; input = left_is; output = held_is }))

-- the string at an address of a memory
abbrev string_in_memory : MemoryParts → ℕ → Option (List ℕ)
string_in_memory memory a = string_at (segments memory) (bytes_of memory) a

-- the effect of print_string in the states of a machine
abbrev pub string_call : MachineParts → State → Outcome
string_call m s = print_string s (string_at (segments m.cpu.memory) s.core.memory (a0 s))

-- the string that the code found is that at $a0
string_is : (m : MachineParts) (memory : MemoryParts) (a : ℕ) (found : Option (List ℕ)) → memory ≡ memory_of m → a ≡ a0_of m
    → string_in_memory memory a ≡ found
    → (input output : List ℕ) → string_call m (state_of m input output) ≡ print_string (state_of m input output) found
string_is m memory a found memory_is a_is found_is input output =
    ap (print_string (state_of m input output)) (sym (ap₂ string_in_memory memory_is a_is) ∙ found_is)

-- the string was put
pub string_printed : (m : MachineParts) (memory : MemoryParts) (a : ℕ) (bytes : List ℕ) (left held held' : Option (List ℕ))
    → memory ≡ memory_of m → a ≡ a0_of m → string_in_memory memory a ≡ Some bytes
    → held' ≡ appended held bytes → IsResultOf (string_call m) stores_none m left held (Ok tt) m left held'
string_printed m memory a bytes left held held' memory_is a_is found =
    printed (string_call m) m bytes left held held' (string_is m memory a (Some bytes) memory_is a_is found)

-- there is no string
pub string_trapped : (m : MachineParts) (memory : MemoryParts) (a : ℕ) (halt : Halt) (left held : Option (List ℕ))
    → memory ≡ memory_of m → a ≡ a0_of m → string_in_memory memory a ≡ None
    → halt ≡ halts.Trap (record { kind = BadAddress; address = a0_of m; pc = m.cpu.pc - 4 })
    → IsResultOf (string_call m) stores_none m left held (Err halt) m left held
string_trapped m memory a halt left held memory_is a_is none =
    trapped (string_call m) m (record { kind = BadAddress; address = a0_of m; pc = m.cpu.pc - 4 }) halt left held (string_is m memory a None memory_is a_is none)
