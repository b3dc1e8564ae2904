use Rattle.std.proofs.Common.{◌≡◌, ◌≤◌, ◌-◌, ◌++◌, ℕ, List, Option}
use Rattle.mips_isa.specs.Calls.{State}
use Rattle.spim_memory.specs.Memory.{segments}
use Rattle.cool_ports.specs.Taking.{Took, OfAnyInput}
use Rattle.spim_machine.specs.MachineStates.{IsIn, Keeps}
use Rattle.spim_machine.specs.Counting.{moved}
use Rattle.spim_machine.specs.Puts.{run_puts}
use Rattle.spim_machine.proofs.RunsUpToBreaks.{Stands}
use Rattle.spim_machine.proofs.machine.Machine.run_to.Given as goal

-- the instructions so far went on, the next one is to be executed, and no take and no put failed
abbrev pub invariant-loop-left : goal.invariant-loop-left
invariant-loop-left g l =
    let breaks = g.B.Breaks.holds l.breaks in
    let left = g.S.Source.left in
    let past = g.S.Source.past in
    let held = g.K.Sink.held in
    let puts = g.K.Sink.puts in
    let faults = g.S.Source.faults in
    let failures = g.K.Sink.faults in
    let text = l.fn.self.cpu.memory.text in
    let b = segments l.fn.self.cpu.memory in
    record {
      took : Took l.fn.self.ended l.self.ended (past l.fn.source) (past l.source) (left l.fn.source) (left l.source);
      stands : (first : Option (List ℕ)) (s : State)
          → OfAnyInput (past l.fn.source) (past l.source) (λ input rest. IsIn first s l.fn.self input (held l.fn.sink)
          → Stands (moved breaks text b) breaks text b l.budget l.left s first l.self rest (held l.sink));
      put : (first : Option (List ℕ)) (s : State)
          → OfAnyInput (past l.fn.source) (past l.source) (λ input rest. IsIn first s l.fn.self input (held l.fn.sink)
          → puts l.sink ≡ puts l.fn.sink ++ run_puts text b (l.budget - l.left) s);
      keeps : Keeps l.fn.self l.self;
      source : faults l.source ≡ faults l.fn.source;
      sink : failures l.sink ≡ failures l.fn.sink;
      within : l.left ≤ l.budget;
    }

abbrev pub decreases-loop-left : goal.decreases-loop-left
decreases-loop-left g l = l.left
