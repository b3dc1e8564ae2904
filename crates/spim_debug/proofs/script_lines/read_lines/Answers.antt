-- `read_lines` returns the commands of the lines of a debugger script, because each iteration of its loop appends the command of one line, if it has one.
use Rattle.std.proofs.Common.{sym, ◌∙◌}
use Rattle.spim_debug.specs.ScriptLines.{place_by}
use Rattle.spim_debug.proofs.ScriptCommands.{line_on}
use Rattle.spim_debug.proofs.script_lines.read_lines.Goals as goal

pub loop-index-preserved : goal.loop-index-preserved
loop-index-preserved c =
    line_on (place_by c.args.labels.now) c.args.lines.now c.loop-index.index _ c.loop-index.commands.items c.keep.new.commands.items c.in-Ok.command c.loop-index-test.true
    (sym c.in-Ok.is ∙ c.in_ok-command.ensures) c.in_ok-keep-in-Ok.ensures
    ∙ c.loop-index.invariant
