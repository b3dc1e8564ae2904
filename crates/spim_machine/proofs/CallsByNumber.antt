-- Each system call has the effect that SPIM defines for the number in `$v0`.
use Rattle.std.proofs.Common.{◌≡◌, refl, ℕ, ◌-◌, ◌%◌, List, [], ◌∷◌, Option, Some, arith}
use Rattle.std.specs.Prelude.{Result, Ok, Err, false, ◌==◌}
use Rattle.std.specs.Fmt.{signed_decimal}
use Rattle.cool_ports.specs.SinkBytes.{appended}
use Rattle.mips_isa.specs.declared.trap.TrapKind.TheVariants.{BadCall}
use Rattle.mips_isa.specs.Bytes.{Segments}
use Rattle.mips_isa.specs.Calls.{State, Exited, call, a0, print, print_string, string_at, read_int, asked_line, read_string, sbrk, read_char, asked, signed, bad_call}
use Rattle.spim_cpu.specs.Cpu.{core_of}
use Rattle.spim_machine.specs.declared.halt.Halt.{Halt}
use Rattle.spim_machine.specs.declared.halt.Halt.TheVariants.{Exit, Trap}
use Rattle.spim_machine.specs.MachineStates.{MachineParts, state_of, IsIn}
use Rattle.spim_machine.specs.Ends.{stores_none, stores_string, call_stores, IsResultOf}
use Rattle.spim_machine.proofs.SameResults.{results_as}
use Rattle.std.proofs.lemmas.Bool.{ne_eqb}

-- a call of another number than read_string's stores no byte
stores_nothing : (k : ℕ) (s : State) (front : List ℕ) → s.core.registers 2 ≡ k → (k == 8) ≡ false
    → call_stores s front ≡ stores_none s front
stores_nothing k s front is other = rw (is, other) refl

-- read_string stores the bytes that it got
stores_some : (s : State) (front : List ℕ) → s.core.registers 2 ≡ 8 → call_stores s front ≡ stores_string s front
stores_some s front is = rw is refl

-- 1: $a0 is printed as a signed decimal
calls_print_int : (b : Segments) (s : State) → s.core.registers 2 ≡ 1 → call b s ≡ print s (signed_decimal (signed (a0 s)))
calls_print_int b s is = rw is refl

pub does_print_int : (b : Segments) (old new : MachineParts) (left held left' held' : Option (List ℕ)) (result : Result Unit Halt)
    → (core_of old.cpu).registers 2 ≡ 1
    → IsResultOf (λ s. print s (signed_decimal (signed (a0 s)))) stores_none old left held result new left' held'
    → IsResultOf (call b) call_stores old left held result new left' held'
does_print_int b old new left held left' held' result is =
    results_as (call b) (λ s. print s (signed_decimal (signed (a0 s)))) call_stores stores_none old new left held left' held' result
    (λ given output. calls_print_int b (state_of old given output) is) (λ given output front. stores_nothing 1 (state_of old given output) front is refl)

-- 4: the string at $a0 is printed
calls_print_string : (b : Segments) (s : State) → s.core.registers 2 ≡ 4 → call b s ≡ print_string s (string_at b s.core.memory (a0 s))
calls_print_string b s is = rw is refl

pub does_print_string : (b : Segments) (old new : MachineParts) (left held left' held' : Option (List ℕ))
    (result : Result Unit Halt) → (core_of old.cpu).registers 2 ≡ 4
    → IsResultOf (λ s. print_string s (string_at b s.core.memory (a0 s))) stores_none old left held result new left' held'
    → IsResultOf (call b) call_stores old left held result new left' held'
does_print_string b old new left held left' held' result is =
    results_as (call b) (λ s. print_string s (string_at b s.core.memory (a0 s))) call_stores stores_none old new left held left' held' result
    (λ given output. calls_print_string b (state_of old given output) is) (λ given output front. stores_nothing 4 (state_of old given output) front is refl)

-- 5: a line is read, and the number at its front
calls_read_int : (b : Segments) (s : State) → s.core.registers 2 ≡ 5 → call b s ≡ read_int s (asked_line s.ended s.input)
calls_read_int b s is = rw is refl

pub does_read_int : (b : Segments) (old new : MachineParts) (left held left' held' : Option (List ℕ)) (result : Result Unit Halt)
    → (core_of old.cpu).registers 2 ≡ 5
    → IsResultOf (λ s. read_int s (asked_line s.ended s.input)) stores_none old left held result new left' held'
    → IsResultOf (call b) call_stores old left held result new left' held'
does_read_int b old new left held left' held' result is =
    results_as (call b) (λ s. read_int s (asked_line s.ended s.input)) call_stores stores_none old new left held left' held' result
    (λ given output. calls_read_int b (state_of old given output) is) (λ given output front. stores_nothing 5 (state_of old given output) front is refl)

-- 8: a line is read into a buffer
calls_read_string : (b : Segments) (s : State) → s.core.registers 2 ≡ 8 → call b s ≡ read_string b s
calls_read_string b s is = rw is refl

pub does_read_string : (b : Segments) (old new : MachineParts) (left held left' held' : Option (List ℕ)) (result : Result Unit Halt)
    → (core_of old.cpu).registers 2 ≡ 8
    → IsResultOf (read_string b) stores_string old left held result new left' held'
    → IsResultOf (call b) call_stores old left held result new left' held'
does_read_string b old new left held left' held' result is =
    results_as (call b) (read_string b) call_stores stores_string old new left held left' held' result
    (λ given output. calls_read_string b (state_of old given output) is) (λ given output front. stores_some (state_of old given output) front is)

-- 9: the break moves
calls_sbrk : (b : Segments) (s : State) → s.core.registers 2 ≡ 9 → call b s ≡ sbrk b s
calls_sbrk b s is = rw is refl

pub does_sbrk : (b : Segments) (old new : MachineParts) (left held : Option (List ℕ)) → (core_of old.cpu).registers 2 ≡ 9
    → IsResultOf (sbrk b) stores_none old left held (Ok tt) new left held
    → IsResultOf (call b) call_stores old left held (Ok tt) new left held
does_sbrk b old new left held is =
    results_as (call b) (sbrk b) call_stores stores_none old new left held left held (Ok tt)
    (λ given output. calls_sbrk b (state_of old given output) is) (λ given output front. stores_nothing 9 (state_of old given output) front is refl)

-- 11: the low byte of $a0 is printed
calls_print_char : (b : Segments) (s : State) → s.core.registers 2 ≡ 11 → call b s ≡ print s (a0 s % 256 ∷ [])
calls_print_char b s is = rw is refl

pub does_print_char : (b : Segments) (old new : MachineParts) (left held left' held' : Option (List ℕ)) (result : Result Unit Halt)
    → (core_of old.cpu).registers 2 ≡ 11
    → IsResultOf (λ s. print s (a0 s % 256 ∷ [])) stores_none old left held result new left' held'
    → IsResultOf (call b) call_stores old left held result new left' held'
does_print_char b old new left held left' held' result is =
    results_as (call b) (λ s. print s (a0 s % 256 ∷ [])) call_stores stores_none old new left held left' held' result
    (λ given output. calls_print_char b (state_of old given output) is) (λ given output front. stores_nothing 11 (state_of old given output) front is refl)

-- 12: a byte is read
calls_read_char : (b : Segments) (s : State) → s.core.registers 2 ≡ 12 → call b s ≡ read_char s (asked s.ended 1 s.input)
calls_read_char b s is = rw is refl

pub does_read_char : (b : Segments) (old new : MachineParts) (left held left' held' : Option (List ℕ)) (result : Result Unit Halt)
    → (core_of old.cpu).registers 2 ≡ 12
    → IsResultOf (λ s. read_char s (asked s.ended 1 s.input)) stores_none old left held result new left' held'
    → IsResultOf (call b) call_stores old left held result new left' held'
does_read_char b old new left held left' held' result is =
    results_as (call b) (λ s. read_char s (asked s.ended 1 s.input)) call_stores stores_none old new left held left' held' result
    (λ given output. calls_read_char b (state_of old given output) is) (λ given output front. stores_nothing 12 (state_of old given output) front is refl)

-- a machine is in the state of its parts
stands : (old : MachineParts) (left held first : Option (List ℕ)) (input output : List ℕ) → left ≡ Some input
    → held ≡ appended first output → IsIn first (state_of old input output) old left held
stands old left held first input output left_is held_is = record { core = refl; heap_break = refl; ended = refl; input = left_is; output = held_is }

-- 10 and 17: the run exits, with 0 or with the code in $a0
calls_exit : (b : Segments) (s : State) → s.core.registers 2 ≡ 10 → call b s ≡ Exited 0 s
calls_exit b s is = rw is refl

pub does_exit : (b : Segments) (old : MachineParts) (left held : Option (List ℕ)) → (core_of old.cpu).registers 2 ≡ 10
    → IsResultOf (call b) call_stores old left held (Err (Exit 0)) old left held
does_exit b old left held is input output first left_is held_is =
    (state_of old input output, calls_exit b (state_of old input output) is, stands old left held first input output left_is held_is)

calls_exit_with : (b : Segments) (s : State) (code : ℕ) → s.core.registers 2 ≡ 17 → code ≡ s.core.registers 4 → call b s ≡ Exited code s
calls_exit_with b s code is code_is = rw (is, code_is) refl

pub does_exit_with : (b : Segments) (old : MachineParts) (left held : Option (List ℕ)) (code : ℕ)
    → (core_of old.cpu).registers 2 ≡ 17 → code ≡ (core_of old.cpu).registers 4
    → IsResultOf (call b) call_stores old left held (Err (Exit code)) old left held
does_exit_with b old left held code is code_is input output first left_is held_is =
    (state_of old input output, calls_exit_with b (state_of old input output) code is code_is, stands old left held first input output left_is held_is)

-- none of the nine numbers of calls
pub record IsNoCall (v : ℕ) : Type 0 where
  pub not_1 : v ≡ 1 → ⊥
  pub not_4 : v ≡ 4 → ⊥
  pub not_5 : v ≡ 5 → ⊥
  pub not_8 : v ≡ 8 → ⊥
  pub not_9 : v ≡ 9 → ⊥
  pub not_10 : v ≡ 10 → ⊥
  pub not_11 : v ≡ 11 → ⊥
  pub not_12 : v ≡ 12 → ⊥
  pub not_17 : v ≡ 17 → ⊥

-- it traps
calls_none : (b : Segments) (s : State) → IsNoCall (s.core.registers 2) → call b s ≡ bad_call s
calls_none b s is =
    rw (ne_eqb _ 1 is.not_1, ne_eqb _ 4 is.not_4, ne_eqb _ 5 is.not_5, ne_eqb _ 8 is.not_8, ne_eqb _ 9 is.not_9, ne_eqb _ 10 is.not_10, ne_eqb _ 11 is.not_11, ne_eqb _ 12 is.not_12, ne_eqb _ 17 is.not_17) refl

-- the trap of such a call
abbrev pub no_call : MachineParts → Halt
no_call old = Trap (record { kind = BadCall; address = old.cpu.pc - 4; pc = old.cpu.pc - 4 })

pub does_none : (b : Segments) (old : MachineParts) (left held : Option (List ℕ)) → IsNoCall ((core_of old.cpu).registers 2)
    → IsResultOf (call b) call_stores old left held (Err (no_call old)) old left held
does_none b old left held is input output first left_is held_is =
    (state_of old input output, calls_none b (state_of old input output) is, stands old left held first input output left_is held_is)
