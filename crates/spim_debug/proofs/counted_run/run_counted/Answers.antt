use Rattle.std.proofs.Common.{sym, subst, rules}
use Rattle.std.specs.Prelude.{Some}
use Rattle.mips_isa.specs.Calls.{State}
use Rattle.spim_memory.specs.Memory.{segments}
use Rattle.spim_machine.specs.Counting.{RanTo}
use Rattle.spim_machine.specs.Ends.{Counted}
use Rattle.spim_machine.specs.MachineStates.{IsIn}
use Rattle.spim_machine.specs.Puts.{run_puts}
use Rattle.spim_debug.proofs.OneReference.{number_kept, kept_by, grew_by}
use Rattle.spim_debug.proofs.counted_run.run_counted.Goals as goal

pub returns-clause-counts : goal.returns-clause-counts
returns-clause-counts g c none =
    let run = c.run_to-stopped.ensures in
    let stopped = c.run_to-stopped.result in
    let text = c.args.machine.now.cpu.memory.text in
    let b = segments c.args.machine.now.cpu.memory in
    let kept = number_kept c.args.machine.now _ _ _ _ _ _ _ stopped.halt (λ (s : State). run_puts text b stopped.executed s) _ _ _ _ (c.law_possible_inputs.ensures.some _ _ _ _ _ _) (run.took none) (λ first s input rest leaves is. run.puts first s none input rest leaves is) in
    let counts = subst (λ k. Counted stopped.halt (g.S.Source.faults c.args.source.now) (g.S.Source.faults c.run_to-stopped.new.source) (g.K.Sink.faults k) (g.K.Sink.faults c.run_to-stopped.new.sink.sink.now)) c.new-counting.ensures.sink (run.counts none) in
    kept_by (λ k. Counted stopped.halt (g.S.Source.faults c.args.source.now) (g.S.Source.faults c.run_to-stopped.new.source) (g.K.Sink.faults c.args.sink.now) (g.K.Sink.faults k)) _ _ _ _ kept (search rules) counts

pub returns-clause-ran : goal.returns-clause-ran
returns-clause-ran g c first s none input rest leaves is =
    let run = c.run_to-stopped.ensures in
    let stopped = c.run_to-stopped.result in
    let text = c.args.machine.now.cpu.memory.text in
    let b = segments c.args.machine.now.cpu.memory in
    let kept = number_kept c.args.machine.now _ _ _ _ _ _ _ stopped.halt (λ (s : State). run_puts text b stopped.executed s) _ _ _ _ (c.law_possible_inputs.ensures.some _ _ _ _ _ _) (run.took none) (λ first s input rest leaves is. run.puts first s none input rest leaves is) in
    let at = subst (λ k. IsIn first s c.args.machine.now (Some input) (g.K.Sink.held k)) (sym c.new-counting.ensures.sink) is in
    kept_by (λ k. RanTo (g.B.Breaks.holds c.args.breaks.now) text b c.args.budget s first stopped c.run_to-stopped.new.self (Some rest) (g.K.Sink.held k)) _ _ _ _ kept (search rules)
    (run.ran first s none input rest leaves at)

pub returns-clause-bytes : goal.returns-clause-bytes
returns-clause-bytes g c first s none input rest leaves is =
    let run = c.run_to-stopped.ensures in
    let at = subst (λ k. IsIn first s c.args.machine.now (Some input) (g.K.Sink.held k)) (sym c.new-counting.ensures.sink) is in
    grew_by c.run_to-stopped.result.halt _ _ _ _ _ _ s.output _ c.new-counting.ensures.none (run.puts first s none input rest leaves at) c.bytes.ensures (c.law_puts_are_output.ensures.added _ _ _ s)
