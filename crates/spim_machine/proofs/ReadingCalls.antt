-- The effect of a system call that reads is determined by the bytes that it took from the input stream, also if a read failed.
use Rattle.std.proofs.Common.{◌≡◌, ℕ, Bool, false, List, ◌++◌, refl, sym, ◌∙◌, ap}
use Rattle.std.specs.Prelude.{Option, Some, Ok, Err}
use Rattle.cool_ports.specs.SinkBytes.{appended}
use Rattle.mips_isa.specs.Machine.{Core, set_register}
use Rattle.mips_isa.specs.Calls.{State, Outcome, Running, Taken, after_taking}
use Rattle.spim_cpu.specs.Cpu.{core_of}
use Rattle.spim_machine.specs.declared.halt.Halt.TheVariants.{ReadFault}
use Rattle.spim_machine.specs.Input.{TookAll, TookSome}
use Rattle.spim_machine.specs.MachineStates.{MachineParts, state_of}
use Rattle.spim_machine.specs.Ends.{stores_none, with_stored, IsResultIn, IsResultOf}
use Rattle.cool_ports.proofs.GivingBytes.{front-told}

-- the state after a call that changes the core by the bytes that it got
abbrev pub next_of : (Core → List ℕ → Core) → State → Taken → State
next_of change s t = record (after_taking s t) { core = change s.core t.got }

-- a call that takes `ask` of the input, and changes the core by the bytes that it got
abbrev pub reading : (Core → List ℕ → Core) → (Bool → List ℕ → Taken) → State → Outcome
reading change ask s = Running (next_of change s (ask s.ended s.input))

-- a core with the number of the bytes in $v0
abbrev pub put_v0 : (List ℕ → ℕ) → Core → List ℕ → Core
put_v0 number core got = record core { registers = set_register core.registers 2 (number got) }

module _ (change : Core → List ℕ → Core) (ask : Bool → List ℕ → Taken) (stores : State → List ℕ → List ℕ) (old new : MachineParts) (left left' : Option (List ℕ)) where
  -- it took the front of this input, and the machine is in the next state
  all_came : (got : List ℕ) (held first : Option (List ℕ)) (input output front rest : List ℕ)
      → (ask old.ended (front ++ rest) ≡ record { got = got; rest = rest; ended = new.ended }) → left' ≡ Some rest
      → input ≡ front ++ rest → held ≡ appended first output
      → core_of new.cpu ≡ change (core_of old.cpu) got → new.heap_break ≡ old.heap_break
      → IsResultIn (λ given. reading change ask (state_of old given output)) (stores (state_of old input output))
      (state_of old input output) first (Ok tt) new left' held
  all_came got held first input output front rest asked told cut holds core heap_break = (
    next_of change (state_of old input output) (record { got = got; rest = rest; ended = new.ended }),
    ap (λ given. reading change ask (state_of old given output)) cut ∙ ap (λ t. Running (next_of change (state_of old input output) t)) asked,
    record { core = core; heap_break = heap_break; ended = refl; input = told; output = holds },
  )

  -- if it took all that it asks for, it does what the definition says
  pub does_all : (ended : Bool) (got : List ℕ) → TookAll (ask old.ended) got left ended left' → new.ended ≡ ended
      → core_of new.cpu ≡ change (core_of old.cpu) got → new.heap_break ≡ old.heap_break
      → (held : Option (List ℕ)) → IsResultOf (reading change ask) stores old left held (Ok tt) new left' held
  does_all ended got took ends core heap_break held input output first is_told holds =
      let cut = front-told took.front left' input (sym took.gave ∙ is_told) in
      all_came got held first input output took.front cut.0 (took.asked cut.0 cut.1 ∙ ap (λ e. record { got = got; rest = cut.0; ended = e }) (sym ends)) cut.1 cut.2 holds core heap_break

-- if a take failed, the call would have met the end of the part that it took, and has stored what it stores of that part
pub does_failed : (change : Core → List ℕ → Core) (ask : Bool → List ℕ → Taken) (stores : State → List ℕ → List ℕ)
    (old new : MachineParts) (left left' : Option (List ℕ)) (got : List ℕ)
    → old.ended ≡ false → new.ended ≡ old.ended → (some : TookSome (ask old.ended) got left left')
    → ((input output : List ℕ) → core_of new.cpu ≡ (with_stored (state_of old input output) (stores (state_of old input output) some.front)).core)
    → new.heap_break ≡ old.heap_break
    → (held : Option (List ℕ)) → IsResultOf (reading change ask) stores old left held (Err ReadFault) new left' held
does_failed change ask stores old new left left' got open_yet ends some core heap_break held input output first is_told holds =
    let cut = front-told some.front left' input (sym some.gave ∙ is_told) in (
      record { not_ended = open_yet; front = some.front; rest = cut.0; cut = cut.2; asks = ap (λ t. t.ended) some.asks; left_is = cut.1; held_is = holds },
      record { core = core input output; heap_break = heap_break; ended = ends },
    )

-- a core with this number in $v0
put_same : (number : List ℕ → ℕ) (core : Core) (got : List ℕ) (v : ℕ) → v ≡ number got
    → record core { registers = set_register core.registers 2 v } ≡ put_v0 number core got
put_same number core got v is = ap (λ n. record core { registers = set_register core.registers 2 n }) is

-- A call took all that it asks for, and this is the number of it.
abbrev pub TookFor : (List ℕ → ℕ) → (List ℕ → Taken) → Option (List ℕ) → Bool → Option (List ℕ) → ℕ → Type 0
TookFor number ask before ended after v = (got : List ℕ) × TookAll ask got before ended after × (v ≡ number got)

-- the same of a call whose number goes to $v0
pub does_number : (number : List ℕ → ℕ) (ask : Bool → List ℕ → Taken) (old new : MachineParts) (left left' : Option (List ℕ))
    (ended : Bool) (v : ℕ)
    → TookFor number (ask old.ended) left ended left' v → new.ended ≡ ended
    → core_of new.cpu ≡ record (core_of old.cpu) { registers = set_register (core_of old.cpu).registers 2 v }
    → new.heap_break ≡ old.heap_break
    → (held : Option (List ℕ)) → IsResultOf (reading (put_v0 number) ask) stores_none old left held (Ok tt) new left' held
does_number number ask old new left left' ended v (got, took, is) ends core heap_break =
    does_all (put_v0 number) ask stores_none old new left left' ended got took ends (core ∙ put_same number (core_of old.cpu) got v is) heap_break
