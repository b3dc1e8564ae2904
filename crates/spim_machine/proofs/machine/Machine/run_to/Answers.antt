use Rattle.std.proofs.Common.{◌∙◌, ◌-◌, ℕ, refl, sym, subst, arith, Some}
use Rattle.spim_memory.specs.Memory.{segments}
use Rattle.cool_ports.specs.Taking.{Took}
use Rattle.spim_machine.specs.MachineStates.{MachineParts, Keeps}
use Rattle.spim_machine.specs.Counting.{before_break, moved, RanTo}
use Rattle.cool_ports.proofs.InputsInParts.{took_nothing, took_both, in_two, leaves_same}
use Rattle.spim_machine.proofs.AdvancesAreRuns.{advanced_keeps}
use Rattle.spim_machine.proofs.RunsByCycles.{kept_on}
use Rattle.spim_machine.proofs.RunsUpToBreaks.{stands_first, stands_turned, stands_as, at_break, stops_there, ran_to_end, ran_to_noted}
use Rattle.spim_machine.proofs.CountsOfRuns.{moved_spent, before_stops, before_goes}
use Rattle.spim_machine.proofs.PutsOfRuns.{no_puts, puts_turned, puts_ended}
use Rattle.spim_machine.proofs.machine.Machine.run_to.Goals as goal
use Rattle.spim_machine.proofs.machine.Machine.run_to.Goals.{else-loop-left-test, then-loop-left-test+in_default-cycle+then-contains}

pub loop-left-init : goal.loop-left-init
loop-left-init g c = record {
  took = took_nothing _ _ _;
  stands = λ first s input rest leaves. rw (leaves_same _ input rest leaves) (λ is. stands_first _ _ _ c.args.budget s first _ _ _ is);
  put = λ first s input rest leaves is. no_puts _ _ c.args.budget s _;
  keeps = record { memory = record { text = refl; segments = refl }; halted = refl };
  source = refl;
  sink = refl;
  within = omega arith;
}

pub loop-left-preserved : goal.loop-left-preserved
loop-left-preserved g c =
    let i = c.loop-left.invariant in
    let breaks = g.B.Breaks.holds c.args.breaks.now in
    let old = c.args.self.now.cpu.memory in
    let text = old.text in
    let b = segments old in
    let parts = c.self-in-loop-left.inside in
    let mid : MachineParts = record { cpu = parts.cpu; heap_break = parts.heap_break; ended = parts.ended; halted = parts.halted } in
    let is_mid = sym c.self-in-loop-left.view_is in
    let left : ℕ = c.loop-left.left - 1 in
    let n = c.advance-left.result in
    let keeps = subst (λ (q : MachineParts). Keeps c.args.self.now q) is_mid (kept_on _ _ _ i.keeps c.cycle.ensures.keeps) in
    let past = g.S.Source.past in
    let source = g.S.Source.left in
    record {
      took = subst (λ (q : MachineParts). Took c.args.self.now.ended q.ended (past c.args.source.now) (past c.cycle.new.source) (source c.args.source.now) (source c.cycle.new.source)) is_mid (took_both _ _ _ _ _ _ _ _ _ i.took c.cycle.ensures.took);
      stands = λ first s input rest leaves is.
          let two = in_two _ _ _ _ _ _ _ _ _ input rest i.took c.cycle.ensures.took leaves in
          let on = stands_turned breaks old c.loop-left.self.cpu.memory n c.args.budget c.loop-left.left s first c.loop-left.self c.cycle.new.self mid c.advance-left.new.self _ _ _ _
          i.keeps.memory keeps.memory c.loop-left-test.true i.within c.advance-left.ensures.most is_mid (i.stands first s input two.middle two.before is)
          (λ t at. c.in_default-cycle.ensures.cycled first t two.middle rest two.later at) c.advance-left.ensures.goes in
          stands_as (before_break breaks text b) (moved breaks text b) breaks text b c.args.budget (left - n) s first _ _ _
          (λ t at. before_goes breaks text b (left - n) t (at_break breaks c.advance-left.new.self t c.pc.result c.contains.result _ at.core c.pc.ensures c.contains.ensures c.if-contains.false)) on;
      put = λ first s input rest leaves is.
          let two = in_two _ _ _ _ _ _ _ _ _ input rest i.took c.cycle.ensures.took leaves in
          puts_turned breaks old c.loop-left.self.cpu.memory n c.args.budget c.loop-left.left s first c.loop-left.self c.cycle.new.self mid c.advance-left.new.self _ _ _ _ _ _ _
          i.keeps.memory keeps.memory c.loop-left-test.true i.within c.advance-left.ensures.most is_mid (i.stands first s input two.middle two.before is)
          (λ t at. c.in_default-cycle.ensures.cycled first t two.middle rest two.later at) c.advance-left.ensures.goes (i.put first s input two.middle two.before is) c.in_default-cycle.ensures.puts;
      keeps = advanced_keeps c.args.self.now mid c.advance-left.new.self keeps c.advance-left.ensures.segments;
      source = c.in_default-cycle.ensures.counts.0 ∙ i.source;
      sink = c.in_default-cycle.ensures.counts.1 ∙ i.sink;
      within = omega (arith, i.within);
    }

pub returns-in-Err-clause-ran : goal.returns-in-Err-clause-ran
returns-in-Err-clause-ran g c first s goes input rest leaves is =
    let i = c.loop-left.invariant in
    let breaks = g.B.Breaks.holds c.args.breaks.now in
    let old = c.args.self.now.cpu.memory in
    let two = in_two _ _ _ _ _ _ _ _ _ input rest i.took c.cycle.ensures.took leaves in
    let ended = ran_to_end breaks old c.loop-left.self.cpu.memory c.args.budget c.loop-left.left s first c.in-Err.halt c.loop-left.self c.cycle.new.self _ _ _ _ i.keeps.memory c.loop-left-test.true i.within (i.stands first s input two.middle two.before is)
    (λ t at. c.in-Err.ensures.cycled first t two.middle rest two.later at) in
    let end = c.self-in-loop-left.inside in
    let m : MachineParts = record { cpu = end.cpu; heap_break = end.heap_break; ended = end.ended; halted = end.halted } in
    ran_to_noted _ _ _ c.args.budget s first c.in-Err.halt (c.args.budget - (c.loop-left.left - 1)) m _ _ _
    (subst (λ (q : MachineParts). RanTo breaks old.text (segments old) c.args.budget s first (record { halt = c.in-Err.halt; executed = c.args.budget - (c.loop-left.left - 1) }) q (Some rest) (g.K.Sink.held c.cycle.new.sink)) (sym c.self-in-loop-left.view_is) ended)

pub returns-clause-ran : goal.returns-clause-ran
returns-clause-ran g c first s goes =
    let i = c.loop-left.invariant in
    let breaks = g.B.Breaks.holds c.args.breaks.now in
    let old = c.args.self.now.cpu.memory in
    let text = old.text in
    let b = segments old in
    elim c.loop-left-test.branch [
      | else-loop-left-test w ↦ λ input rest leaves is.
          rw (w.self-is, w.sink-is, w.left-is)
          (stops_there (moved breaks text b) breaks text b c.args.budget c.loop-left.left s first c.loop-left.self _ _
          (λ t at. moved_spent breaks text b c.loop-left.left t (omega (arith, w.loop-left-test.false)))
          (i.stands first s input rest (rw w.source-is at leaves) is))
      | then-loop-left-test+in_default-cycle+then-contains w ↦ λ input rest leaves is.
          let parts = w.self-in-loop-left.inside in
          let mid : MachineParts = record { cpu = parts.cpu; heap_break = parts.heap_break; ended = parts.ended; halted = parts.halted } in
          let is_mid = sym w.self-in-loop-left.view_is in
          let left : ℕ = c.loop-left.left - 1 - w.advance-left.result in
          let keeps = subst (λ (q : MachineParts). Keeps c.args.self.now q) is_mid (kept_on _ _ _ i.keeps w.cycle.ensures.keeps) in
          let two = in_two _ _ _ _ _ _ _ _ _ input rest i.took w.cycle.ensures.took (rw w.source-is at leaves) in
          let on = stands_turned breaks old c.loop-left.self.cpu.memory w.advance-left.result c.args.budget c.loop-left.left s first c.loop-left.self w.cycle.new.self mid w.advance-left.new.self _ _ _ _
          i.keeps.memory keeps.memory w.loop-left-test.true i.within w.advance-left.ensures.most is_mid (i.stands first s input two.middle two.before is)
          (λ t at. w.in_default-cycle.ensures.cycled first t two.middle rest two.later at) w.advance-left.ensures.goes in
          rw (w.self-is, w.sink-is, w.left-is)
          (stops_there (before_break breaks text b) breaks text b c.args.budget left s first _ _ _
          (λ t at. before_stops breaks text b left t (at_break breaks w.advance-left.new.self t w.pc.result w.contains.result _ at.core w.pc.ensures w.contains.ensures w.if-contains.true)) on)
    ]

pub returns-in-Err-clause-puts : goal.returns-in-Err-clause-puts
returns-in-Err-clause-puts g c first s goes input rest leaves is =
    let i = c.loop-left.invariant in
    let breaks = g.B.Breaks.holds c.args.breaks.now in
    let old = c.args.self.now.cpu.memory in
    let two = in_two _ _ _ _ _ _ _ _ _ input rest i.took c.cycle.ensures.took leaves in
    puts_ended breaks old c.loop-left.self.cpu.memory c.args.budget c.loop-left.left s first c.in-Err.halt c.loop-left.self _ _ _ _ _ i.keeps.memory c.loop-left-test.true i.within (i.stands first s input two.middle two.before is)
    (i.put first s input two.middle two.before is) c.in-Err.ensures.puts

pub returns-clause-puts : goal.returns-clause-puts
returns-clause-puts g c first s goes =
    let i = c.loop-left.invariant in
    let breaks = g.B.Breaks.holds c.args.breaks.now in
    let old = c.args.self.now.cpu.memory in
    elim c.loop-left-test.branch [
      | else-loop-left-test w ↦ λ input rest leaves is. rw (w.sink-is, w.left-is) (i.put first s input rest (rw w.source-is at leaves) is)
      | then-loop-left-test+in_default-cycle+then-contains w ↦ λ input rest leaves is.
          let parts = w.self-in-loop-left.inside in
          let mid : MachineParts = record { cpu = parts.cpu; heap_break = parts.heap_break; ended = parts.ended; halted = parts.halted } in
          let is_mid = sym w.self-in-loop-left.view_is in
          let keeps = subst (λ (q : MachineParts). Keeps c.args.self.now q) is_mid (kept_on _ _ _ i.keeps w.cycle.ensures.keeps) in
          let two = in_two _ _ _ _ _ _ _ _ _ input rest i.took w.cycle.ensures.took (rw w.source-is at leaves) in
          rw (w.sink-is, w.left-is)
          (puts_turned breaks old c.loop-left.self.cpu.memory w.advance-left.result c.args.budget c.loop-left.left s first c.loop-left.self w.cycle.new.self mid w.advance-left.new.self _ _ _ _ _ _ _
          i.keeps.memory keeps.memory w.loop-left-test.true i.within w.advance-left.ensures.most is_mid (i.stands first s input two.middle two.before is)
          (λ t at. w.in_default-cycle.ensures.cycled first t two.middle rest two.later at) w.advance-left.ensures.goes (i.put first s input two.middle two.before is) w.in_default-cycle.ensures.puts)
    ]

pub returns-clause-took : goal.returns-clause-took
returns-clause-took g c goes =
    let i = c.loop-left.invariant in
    let past = g.S.Source.past in
    let source = g.S.Source.left in
    elim c.loop-left-test.branch [
      | else-loop-left-test w ↦ rw (w.self-is, w.source-is) i.took
      | then-loop-left-test+in_default-cycle+then-contains w ↦
          let is_mid = sym w.self-in-loop-left.view_is in
          rw (w.self-is, w.source-is)
          (subst (λ (q : MachineParts). Took c.args.self.now.ended q.ended (past c.args.source.now) (past w.cycle.new.source) (source c.args.source.now) (source w.cycle.new.source)) is_mid (took_both _ _ _ _ _ _ _ _ _ i.took w.cycle.ensures.took))
    ]
