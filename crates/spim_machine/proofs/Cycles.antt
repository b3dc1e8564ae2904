-- The outcome of one instruction in the machine's definition follows from the processor's result: no system call, a system call, or a trap.
use Rattle.std.proofs.Common.{◌≡◌, ◌∙◌, refl, sym, ap, subst, ℕ, List, Option}
use Rattle.std.specs.Prelude.{Result, Ok, Err}
use Rattle.mips_isa.specs.declared.trap.Trap.{Trap}
use Rattle.mips_isa.specs.Bytes.{Segments}
use Rattle.mips_isa.specs.Machine.{Core, Next, On, Call, Stop, step}
use Rattle.mips_isa.specs.Calls.{State, call}
use Rattle.mips_isa.specs.Run.{after}
use Rattle.spim_cpu.specs.Cpu.{CpuParts, core_of, Stepped}
use Rattle.spim_cpu.specs.declared.step.Step.TheVariants as answer
use Rattle.spim_machine.specs.declared.halt.Halt.{Halt}
use Rattle.spim_machine.specs.declared.halt.Halt.TheVariants as halts
use Rattle.spim_machine.specs.MachineStates.{MachineParts, state_of, IsIn}
use Rattle.spim_machine.specs.Ends.{call_stores, IsResultIn, IsResultOf, Cycled}
use Rattle.spim_machine.proofs.RunsGoOn.{is_state}

-- the definition's next step, by the result of the processor: no system call, a system call, a trap
pub next_is : (n : Next) (old new : CpuParts) → Stepped n answer.Next old new → n ≡ On (core_of new)
next_is (On core) old new is = ap On (sym is)
next_is (Call core) old new is = absurd is
next_is (Stop trap) old new is = absurd is

pub call_is : (n : Next) (old new : CpuParts) → Stepped n answer.Call old new → n ≡ Call (core_of new)
call_is (On core) old new is = absurd is
call_is (Call core) old new is = ap Call (sym is)
call_is (Stop trap) old new is = absurd is

pub trap_is : (n : Next) (t : Trap) (old new : CpuParts) → Stepped n (answer.Trap t) old new → (n ≡ Stop t) × (new ≡ old)
trap_is (On core) t old new is = absurd is
trap_is (Call core) t old new is = absurd is
trap_is (Stop trap) t old new (same, kept) = (ap Stop (sym same), kept)

-- the definition's step is from the state's core
from_core : (text : List ℕ) (b : Segments) (old : MachineParts) (first : Option (List ℕ)) (s : State) (left held : Option (List ℕ))
    (n : Next) → IsIn first s old left held → step text b (core_of old.cpu) ≡ n → step text b s.core ≡ n
from_core text b old first s left held n is steps = ap (step text b) (sym is.core) ∙ steps

-- an instruction that is no system call
pub cycled_next : (text : List ℕ) (b : Segments) (old : MachineParts) (cpu : CpuParts) (first : Option (List ℕ)) (s : State)
    (left held : Option (List ℕ)) → Stepped (step text b (core_of old.cpu)) answer.Next old.cpu cpu → IsIn first s old left held
    → Cycled text b s first (Ok tt) (record old { cpu = cpu }) left held
cycled_next text b old cpu first s left held steps is = (
  record s { core = core_of cpu },
  ap (after b s) (from_core text b old first s left held (On (core_of cpu)) is (next_is (step text b (core_of old.cpu)) old.cpu cpu steps)),
  record { core = refl; heap_break = is.heap_break; ended = is.ended; input = is.input; output = is.output },
)

-- an instruction that traps
pub cycled_trap : (text : List ℕ) (b : Segments) (old : MachineParts) (cpu : CpuParts) (trap : Trap) (first : Option (List ℕ))
    (s : State) (left held : Option (List ℕ)) → Stepped (step text b (core_of old.cpu)) (answer.Trap trap) old.cpu cpu
    → IsIn first s old left held → Cycled text b s first (Err (halts.Trap trap)) (record old { cpu = cpu }) left held
cycled_trap text b old cpu trap first s left held steps is =
    let stops = trap_is (step text b (core_of old.cpu)) trap old.cpu cpu steps in (
      s,
      ap (after b s) (from_core text b old first s left held (Stop trap) is stops.0),
      record { core = ap core_of stops.1 ∙ is.core; heap_break = is.heap_break; ended = is.ended; input = is.input; output = is.output },
    )

-- the outcome of the call is the outcome of the instruction
after_call : (text : List ℕ) (b : Segments) (s : State) (core : Core) (first : Option (List ℕ)) (result : Result Unit Halt)
    (new : MachineParts) (left held : Option (List ℕ)) → step text b s.core ≡ Call core
    → IsResultIn (λ given. call b (record s { core = core; input = given })) (call_stores (record s { core = core }))
    (record s { core = core }) first result new left held → Cycled text b s first result new left held
after_call text b s core first (Ok done) new left held calls (next, does, is) = (next, ap (after b s) calls ∙ does, is)
after_call text b s core first (Err (halts.Exit code)) new left held calls (next, does, is) = (next, ap (after b s) calls ∙ does, is)
after_call text b s core first (Err (halts.Trap trap)) new left held calls (next, does, is) = (next, ap (after b s) calls ∙ does, is)
after_call text b s core first (Err halts.StepLimit) new left held calls came = absurd came
after_call text b s core first (Err halts.ReadFault) new left held calls fails = (core, calls, fails)
after_call text b s core first (Err halts.WriteFault) new left held calls fails = (core, calls, fails)

-- the outcome of the call, in the state that the machine is in
came_of_call : (b : Segments) (old : MachineParts) (cpu : CpuParts) (first : Option (List ℕ)) (s : State)
    (left held : Option (List ℕ)) (result : Result Unit Halt) (new : MachineParts) (left' held' : Option (List ℕ))
    → s ≡ state_of old s.input s.output
    → IsResultIn (λ given. call b (state_of (record old { cpu = cpu }) given s.output))
    (call_stores (state_of (record old { cpu = cpu }) s.input s.output))
    (state_of (record old { cpu = cpu }) s.input s.output) first result new left' held'
    → IsResultIn (λ given. call b (record s { core = core_of cpu; input = given })) (call_stores (record s { core = core_of cpu }))
    (record s { core = core_of cpu }) first result new left' held'
came_of_call b old cpu first s left held result new left' held' is came =
    subst (λ (t : State). IsResultIn (λ given. call b (record t { core = core_of cpu; input = given })) (call_stores (record t { core = core_of cpu })) (record t { core = core_of cpu }) first result new left' held') (sym is) came

-- a system call; the segments of the machine that calls are those of the machine before
pub cycled_call : (text : List ℕ) (b at_call : Segments) (old : MachineParts) (cpu : CpuParts) (first : Option (List ℕ)) (s : State)
    (left held : Option (List ℕ)) (result : Result Unit Halt) (new : MachineParts) (left' held' : Option (List ℕ))
    → Stepped (step text b (core_of old.cpu)) answer.Call old.cpu cpu → at_call ≡ b → IsIn first s old left held
    → IsResultOf (call at_call) call_stores (record old { cpu = cpu }) left held result new left' held'
    → Cycled text b s first result new left' held'
cycled_call text b at_call old cpu first s left held result new left' held' steps same is does =
    after_call text b s (core_of cpu) first result new left' held'
    (from_core text b old first s left held (Call (core_of cpu)) is (call_is (step text b (core_of old.cpu)) old.cpu cpu steps))
    (came_of_call b old cpu first s left held result new left' held' (is_state first s old left held is)
    (subst (λ (q : Segments). IsResultOf (call q) call_stores (record old { cpu = cpu }) left held result new left' held') same does s.input s.output first is.input is.output))
