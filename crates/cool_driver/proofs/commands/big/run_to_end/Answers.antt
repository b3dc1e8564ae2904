use Rattle.std.proofs.Common.{Some, refl, [], ◌∙◌, ap, arith}
use Rattle.cool_ports.proofs.InputsInParts.{leaves_told}
use Rattle.cool_words.specs.Plans.{usual_limits}
use Rattle.cool_driver.proofs.{BigRuns.{outcome, counted_run, long_run}, RunsWithinLimits.{ran_within}}
use Rattle.cool_driver.proofs.commands.big.run_to_end.Goals as goal

pub returns-then-output-gt-MOST_BIG_OUTPUT : goal.returns-then-output-gt-MOST_BIG_OUTPUT
returns-then-output-gt-MOST_BIG_OUTPUT c =
    let loaded = c.in_ok-machine.ensures in
    let limits = c.machine_limits in
    let cut = leaves_told _ _ _ _ [] _ (rw (ap (λ s. s.left) c.new-nothing.ensures ∙ c.new.ensures.items) at (c.run.ensures.took loaded.goes_on)) in
    long_run _ c.run.result c.run.new.sink.bytes.items
    (outcome usual_limits c.args.image.now c.run.new.self (Some cut.0) c.run.new.sink.bytes.items c.run.result c.new-out.result.bytes.items
    (ran_within usual_limits c.args.image.now limits.result.heap limits.result.stack c.in_ok-machine.machine c.run.new.self usual_limits.steps []
    c.run.result (Some []) (Some c.new-out.result.bytes.items) (Some cut.0) (Some c.run.new.sink.bytes.items)
    limits.ensures.heap limits.ensures.stack (loaded.state []) loaded.text loaded.segments refl (λ first s is. c.run.ensures.ran first s loaded.goes_on [] cut.0 cut.2 is))
    c.new-out.ensures.empty _ _ (c.run.ensures.counts loaded.goes_on) c.in_default.not-WriteFault)
    (omega (arith, c.if-output-gt-MOST_BIG_OUTPUT.true, c.len-output.ensures))

pub returns : goal.returns
returns c =
    let loaded = c.in_ok-machine.ensures in
    let limits = c.machine_limits in
    let cut = leaves_told _ _ _ _ [] _ (rw (ap (λ s. s.left) c.new-nothing.ensures ∙ c.new.ensures.items) at (c.run.ensures.took loaded.goes_on)) in
    rw c.len-output.ensures
    (counted_run _ c.run.result c.run.new.sink.bytes.items _
    (outcome usual_limits c.args.image.now c.run.new.self (Some cut.0) c.run.new.sink.bytes.items c.run.result c.new-out.result.bytes.items
    (ran_within usual_limits c.args.image.now limits.result.heap limits.result.stack c.in_ok-machine.machine c.run.new.self usual_limits.steps []
    c.run.result (Some []) (Some c.new-out.result.bytes.items) (Some cut.0) (Some c.run.new.sink.bytes.items)
    limits.ensures.heap limits.ensures.stack (loaded.state []) loaded.text loaded.segments refl (λ first s is. c.run.ensures.ran first s loaded.goes_on [] cut.0 cut.2 is))
    c.new-out.ensures.empty _ _ (c.run.ensures.counts loaded.goes_on) c.in_default.not-WriteFault)
    (omega (arith, c.if-output-gt-MOST_BIG_OUTPUT.false, c.len-output.ensures))
    c.of_halt-status.ensures)
