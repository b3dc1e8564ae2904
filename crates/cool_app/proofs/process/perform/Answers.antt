-- `perform` satisfies its postconditions because it calls `cool_over_system` with new files, input and outputs, which were not used before.
use Rattle.cool_app.proofs.FreshDevices.{fresh_ends, fresh_ran}
use Rattle.cool_app.proofs.process.perform.Goals as goal

pub returns-clause-ends : goal.returns-clause-ends
returns-clause-ends g c =
    let files = c.new-files.ensures in
    let input = c.new-input.ensures in
    let out = c.new-out.ensures in
    let notes = c.new-notes.ensures in
    fresh_ends _ _ _ _ _ _ _ _ _ _ _ _ _ _ _ _ _ _ _ _ _ _ files.faults input.past input.faults out.held out.faults out.puts notes.held notes.faults notes.puts
    c.cool_over_system-status.ensures.ends

pub returns-clause-ran : goal.returns-clause-ran
returns-clause-ran g c =
    fresh_ran _ _ _ _ _ _ _ _ _ _ c.new-files.ensures.faults c.new-input.ensures.past c.new-out.ensures.held c.cool_over_system-status.ensures.ran
