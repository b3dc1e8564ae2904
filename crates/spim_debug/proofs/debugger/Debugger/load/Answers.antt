use Rattle.std.proofs.Common.{◌∙◌, refl, sym, ap, [], length, arith}
use Rattle.std.specs.Prelude.{Some}
use Rattle.cool_ports.specs.SinkBytes.{appended}
use Rattle.cool_ports.proofs.GettingBytes.{appended-nil}
use Rattle.mips_isa.specs.Calls.{State}
use Rattle.spim_debug.specs.ByteCounts.{counted}
use Rattle.spim_debug.proofs.debugger.Debugger.load.Goals as goal

-- no instruction is executed yet
pub returns-clause-stands : goal.returns-clause-stands
returns-clause-stands c input first =
    let loaded = c.in_ok-load.ensures in
    let state = loaded.state input in
    record {
      text = loaded.text;
      segments = loaded.segments;
      budget = refl;
      executed = refl;
      within = omega arith;
      state = record {
        core = ap (λ (s : State). s.core) state;
        heap_break = ap (λ (s : State). s.heap_break) state;
        ended = ap (λ (s : State). s.ended) state;
        input = ap (λ (s : State). Some s.input) state;
        output = sym (appended-nil first) ∙ ap (λ (s : State). appended first s.output) state;
      };
      halted = loaded.goes_on;
      breaks = c.in_ok-new.ensures.none;
      printed = ap (λ (s : State). counted (length s.output)) state;
    }

pub returns-clause-fresh : goal.returns-clause-fresh
returns-clause-fresh c = ap (λ (s : State). s.ended) (c.in_ok-load.ensures.state [])
