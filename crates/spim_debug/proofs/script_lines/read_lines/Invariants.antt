use Rattle.std.proofs.Common.{◌≡◌, suc, map, drop}
use Rattle.spim_debug.specs.ScriptLines.{place_by}
use Rattle.spim_debug.specs.Scripts.{commands_from}
use Rattle.spim_debug.proofs.ScriptCommands.{behind}
use Rattle.spim_debug.proofs.script_lines.read_lines.Given as goal

abbrev pub invariant-loop-index : goal.invariant-loop-index
invariant-loop-index l =
    behind l.commands.items (commands_from (place_by l.labels) (suc l.index) (map (λ line. line.now) (drop l.index l.lines)))
    ≡ commands_from (place_by l.labels) 1 (map (λ line. line.now) l.lines)
