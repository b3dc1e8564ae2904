-- The system call `read_string` has the effect that the definition gives for each size: it does nothing, traps, or stores a line in the buffer, unless a read
-- fails.
use Rattle.std.proofs.Common.{◌≡◌, ℕ, ◌-◌, ◌<◌, Bool, true, false, not, List, [], ◌∷◌, ◌++◌, ℤ, pos, w32, if◌then◌else◌, refl, sym, ◌∙◌, ap, arith}
use Rattle.std.specs.Prelude.{Option, Result, Ok, Err, ◌==◌, ◌||◌, int_lt}
use Rattle.std.specs.Int.{cast_signed, cast_unsigned}
use Rattle.std.proofs.lemmas.Int.{of_z-to_z}
use Rattle.mips_isa.specs.declared.trap.TrapKind.TheVariants.{BadAddress}
use Rattle.mips_isa.specs.Bytes.{Segments}
use Rattle.mips_isa.specs.Machine.{Core, is_negative}
use Rattle.mips_isa.specs.Calls.{State, Outcome, Running, asked, all_writable, set_bytes, a0, a1, bad_address, read_string}
use Rattle.spim_cpu.specs.Cpu.{core_of}
use Rattle.spim_machine.specs.declared.halt.Halt.{Halt}
use Rattle.spim_machine.specs.declared.halt.Halt.TheVariants as halts
use Rattle.spim_machine.specs.Input.{TookAll}
use Rattle.spim_machine.specs.MachineStates.{MachineParts, state_of}
use Rattle.spim_machine.specs.Ends.{stores_string, IsResultOf}
use Rattle.spim_machine.proofs.FillingBuffers.{StoredSome, with_bytes}
use Rattle.spim_machine.proofs.SameResults.{results_as}
use Rattle.spim_machine.proofs.ReadingCalls.{reading, does_all, does_failed}

-- a size is below 1 as signed where it is negative or 0
small_at : (size : ℕ) → size < 4294967296 → int_lt (cast_signed w32 size) (pos 1) ≡ (is_negative size || size == 0)
small_at size fits = grind arith

-- the same of the code's test of it
pub small_is : (size : ℕ) (x : ℤ) (small : Bool) → size < 4294967296 → x ≡ cast_signed w32 size
    → int_lt (cast_signed w32 (cast_unsigned w32 x)) (pos 1) ≡ small → (is_negative size || size == 0) ≡ small
small_is size x small fits same test =
    sym (small_at size fits) ∙ ap (λ n. int_lt (cast_signed w32 n) (pos 1)) (sym (of_z-to_z w32 size fits)) ∙ ap (λ z. int_lt (cast_signed w32 (cast_unsigned w32 z)) (pos 1)) (sym same) ∙ test

-- with bytes and a 0 at an address
abbrev pub with_string : ℕ → Core → List ℕ → Core
with_string address core got = record core { memory = set_bytes core.memory address (got ++ 0 ∷ []) }

-- the call, by whether the size is below 1 and whether all of the buffer may be stored
abbrev pub string_by : Bool → Bool → ℕ → ℕ → State → Outcome
string_by small may address size s =
    if small then Running s else (if not may then bad_address s else reading (with_string address) (λ ended. asked ended (size - 1)) s)

-- so does the definition
pub read_string_is : (b : Segments) (s : State) (address size : ℕ) (small may : Bool) → address ≡ a0 s → size ≡ a1 s
    → (is_negative size || size == 0) ≡ small → all_writable b address size ≡ may
    → read_string b s ≡ string_by small may address size s
read_string_is b s address size small may at count is_small is_may =
    let small_here = rw count at is_small in
    let may_here = rw (at, count) at is_may in
    rw (at, count, small_here, may_here) refl

module _ (b : Segments) (old : MachineParts) (address size : ℕ) (at : address ≡ (core_of old.cpu).registers 4) (count : size ≡ (core_of old.cpu).registers 5) where
  -- the call by its tests has the effect of read_string
  does_as : (small may : Bool) → (is_negative size || size == 0) ≡ small → all_writable b address size ≡ may
      → (result : Result Unit Halt) (new : MachineParts) (left left' held : Option (List ℕ))
      → IsResultOf (string_by small may address size) stores_string old left held result new left' held
      → IsResultOf (read_string b) stores_string old left held result new left' held
  does_as small may is_small is_may result new left left' held is =
      results_as (read_string b) (string_by small may address size) stores_string stores_string old new left held left' held result
      (λ given output. read_string_is b (state_of old given output) address size small may at count is_small is_may) (λ given output front. refl) is

  -- below 1 it does nothing
  pub does_nothing : (is_negative size || size == 0) ≡ true → (left held : Option (List ℕ))
      → IsResultOf (read_string b) stores_string old left held (Ok tt) old left held
  does_nothing is_small left held =
      does_as true (all_writable b address size) is_small refl (Ok tt) old left left held
      (λ input output first told holds. (state_of old input output, refl, record { core = refl; heap_break = refl; ended = refl; input = told; output = holds }))

  -- it traps where not all of the buffer may be stored
  pub does_trap : (is_negative size || size == 0) ≡ false → all_writable b address size ≡ false
      → (halt : Halt) → halt ≡ halts.Trap (record { kind = BadAddress; address = (core_of old.cpu).registers 4; pc = old.cpu.pc - 4 })
      → (left held : Option (List ℕ)) → IsResultOf (read_string b) stores_string old left held (Err halt) old left held
  does_trap is_small is_may halt is left held = rw is (
      does_as false false is_small is_may (Err (halts.Trap (record { kind = BadAddress; address = (core_of old.cpu).registers 4; pc = old.cpu.pc - 4 }))) old left left held
      (λ input output first told holds. (state_of old input output, refl, record { core = refl; heap_break = refl; ended = refl; input = told; output = holds })))

  -- it fills the buffer
  pub does_fill : (new : MachineParts) (left left' : Option (List ℕ)) → (is_negative size || size == 0) ≡ false
      → all_writable b address size ≡ true
      → (got : List ℕ) × TookAll (asked old.ended (size - 1)) got left new.ended left' × (core_of new.cpu ≡ with_string address (core_of old.cpu) got)
      → new.heap_break ≡ old.heap_break → (held : Option (List ℕ))
      → IsResultOf (read_string b) stores_string old left held (Ok tt) new left' held
  does_fill new left left' is_small is_may (got, took, core) heap_break held =
      does_as false true is_small is_may (Ok tt) new left left' held
      (does_all (with_string address) (λ ended. asked ended (size - 1)) stores_string old new left left' new.ended got took refl core heap_break held)

  -- the bytes that came are those that the definition says
  stored_is : (ended : Bool) (front got : List ℕ) (core : Core)
      → asked ended (size - 1) front ≡ record { got = got; rest = []; ended = true }
      → core ≡ with_bytes (core_of old.cpu) address got
      → core ≡ with_bytes (core_of old.cpu) ((core_of old.cpu).registers 4) (asked ended ((core_of old.cpu).registers 5 - 1) front).got
  stored_is ended front got core asks is =
      let some : got ≡ (asked ended ((core_of old.cpu).registers 5 - 1) front).got = sym (ap (λ t. t.got) asks) ∙ ap (λ n. (asked ended (n - 1) front).got) count in
      is ∙ ap (λ a. with_bytes (core_of old.cpu) a got) at ∙ ap (with_bytes (core_of old.cpu) ((core_of old.cpu).registers 4)) some

  -- a take failed
  pub does_unfilled : (new : MachineParts) (left left' : Option (List ℕ)) → (is_negative size || size == 0) ≡ false
      → all_writable b address size ≡ true
      → StoredSome old.ended (size - 1) left new.ended left' (core_of old.cpu) (core_of new.cpu) address → new.heap_break ≡ old.heap_break
      → (held : Option (List ℕ)) → IsResultOf (read_string b) stores_string old left held (Err halts.ReadFault) new left' held
  does_unfilled new left left' is_small is_may (got, open_yet, ends, some, core) heap_break held =
      does_as false true is_small is_may (Err halts.ReadFault) new left left' held
      (does_failed (with_string address) (λ ended. asked ended (size - 1)) stores_string old new left left' got open_yet ends some
      (λ input output. stored_is old.ended some.front got (core_of new.cpu) some.asks core) heap_break held)
