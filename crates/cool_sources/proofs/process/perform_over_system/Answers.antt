-- `perform_over_system` satisfies the specification of a call because it calls `perform_task` with new files and outputs, which were not used before.
use Rattle.std.proofs.Common.{refl}
use Rattle.cool_sources.proofs.FreshDevices.{ended_fresh, is_fresh_shelf, is_fresh_sink}
use Rattle.cool_sources.proofs.process.perform_over_system.Goals as goal

pub returns-clause-ended : goal.returns-clause-ended
returns-clause-ended g c =
    ended_fresh _ _ _ _ _ _ _ _ _
    (is_fresh_shelf _ refl c.new-files.ensures.faults c.new-files.ensures.asked c.new-files.ensures.gave)
    (is_fresh_sink _ c.new-out.ensures.held c.new-out.ensures.faults c.new-out.ensures.puts)
    (is_fresh_sink _ c.new-notes.ensures.held c.new-notes.ensures.faults c.new-notes.ensures.puts)
    c.perform_task-status.ensures.ended
