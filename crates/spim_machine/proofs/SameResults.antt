-- If two system calls have the same effect and store the same bytes in each state, a possible result of one is a possible result of the other.
use Rattle.std.proofs.Common.{◌≡◌, ◌∙◌, sym, subst, ℕ, List, Option}
use Rattle.std.specs.Prelude.{Result, Ok, Err}
use Rattle.mips_isa.specs.Calls.{State, Outcome}
use Rattle.spim_machine.specs.declared.halt.Halt.{Halt}
use Rattle.spim_machine.specs.declared.halt.Halt.TheVariants.{Exit, Trap, StepLimit, ReadFault, WriteFault}
use Rattle.spim_machine.specs.MachineStates.{MachineParts, state_of, HasParts}
use Rattle.spim_machine.specs.Ends.{MetEnd, with_stored, IsResultIn, IsResultOf}

-- a result of a call that does g, and stores `others`, is one of a call that does f, and stores `stores`
result_as : (f g : List ℕ → Outcome) (stores others : List ℕ → List ℕ) (s : State) (first : Option (List ℕ))
    (result : Result Unit Halt) (m : MachineParts) (left held : Option (List ℕ))
    → ((given : List ℕ) → f given ≡ g given) → ((front : List ℕ) → stores front ≡ others front)
    → IsResultIn g others s first result m left held → IsResultIn f stores s first result m left held
result_as f g stores others s first (Ok done) m left held same stored (next, does, is) = (next, same s.input ∙ does, is)
result_as f g stores others s first (Err (Exit code)) m left held same stored (next, does, is) = (next, same s.input ∙ does, is)
result_as f g stores others s first (Err (Trap trap)) m left held same stored (next, does, is) = (next, same s.input ∙ does, is)
result_as f g stores others s first (Err StepLimit) m left held same stored none = none
result_as f g stores others s first (Err ReadFault) m left held same stored (fails, parts) = (
  record {
    not_ended = fails.not_ended;
    front = fails.front;
    rest = fails.rest;
    cut = fails.cut;
    asks = subst MetEnd (sym (same fails.front)) fails.asks;
    left_is = fails.left_is;
    held_is = fails.held_is;
  },
  subst (λ (bytes : List ℕ). HasParts (with_stored s bytes) m) (sym (stored fails.front)) parts,
)
result_as f g stores others s first (Err WriteFault) m left held same stored (fails, parts) = (
  record {
    bytes = fails.bytes;
    prints = same s.input ∙ fails.prints;
    left_is = fails.left_is;
    held_is = fails.held_is;
  },
  parts,
)

-- so in each state of a machine
pub results_as : (f g : State → Outcome) (stores others : State → List ℕ → List ℕ) (old new : MachineParts)
    (left held left' held' : Option (List ℕ)) (result : Result Unit Halt)
    → ((given output : List ℕ) → f (state_of old given output) ≡ g (state_of old given output))
    → ((given output front : List ℕ) → stores (state_of old given output) front ≡ others (state_of old given output) front)
    → IsResultOf g others old left held result new left' held' → IsResultOf f stores old left held result new left' held'
results_as f g stores others old new left held left' held' result same stored is input output first left_is held_is =
    result_as (λ given. f (state_of old given output)) (λ given. g (state_of old given output)) (stores (state_of old input output)) (others (state_of old input output))
    (state_of old input output) first result new left' held' (λ given. same given output) (stored input output) (is input output first left_is held_is)
