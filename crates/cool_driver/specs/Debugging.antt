-- The specification of the command `debug`: `commands_for` parses a script for a program, and `debug_notes` gives the messages that its commands write during
-- a run.
use Rattle.std.specs.{Prelude.{ℕ, List, Result}, List.{concat}}
use Rattle.cool_classes.specs.Chains.{Class}
use Rattle.cool_emit.specs.Programs.{program_lines}
use Rattle.mips_isa.specs.ImageBounds.{ImageParts}
use Rattle.spim_debug.specs.{Debugging.{debuggee}, Moves.{Debuggee, beginning}, Notes.{all_notes}, Scripts.{commands_in, place_of}, declared.script.DebugCommand.{DebugCommand}}
use Rattle.spim_debug.specs.declared.script.ScriptFault.{ScriptFault}
use Rattle.cool_words.specs.declared.plan.RunLimits.{RunLimits}
use Rattle.cool_driver.specs.Execution.{heap_of, stack_of}

-- the commands of a script for a program whose files have these names, or the script's first fault; its labels and words are those of the
-- program
unfoldable pub commands_for : List Class → List (List ℕ) → List ℕ → Result (List DebugCommand) ScriptFault
commands_for p names script = commands_in (place_of (program_lines p names)) script

-- the run of an image over an input, within limits, as the debugger has it
abbrev pub debuggee_within : RunLimits → ImageParts → List ℕ → Debuggee
debuggee_within limits image input = debuggee image (heap_of limits) (stack_of limits) limits.steps input

-- the notes that commands write during this run, one after another
unfoldable pub debug_notes : RunLimits → ImageParts → List DebugCommand → List ℕ → List ℕ
debug_notes limits image commands input = concat (all_notes (debuggee_within limits image input) commands beginning)
