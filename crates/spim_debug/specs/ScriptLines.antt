-- The shared parts of the functions that parse a debugger script: the address that a label or a number names (`place_by`), the command at an address, and a
-- command appended to a list.
use Rattle.std.specs.Prelude.{ℕ, List, [], ◌∷◌, ◌++◌, Option, Some, None}
use Rattle.mips_asm.specs.TextLabels.{TextLabelParts, address_of}
use Rattle.spim_debug.specs.declared.script.DebugCommand.{DebugCommand}
use Rattle.spim_debug.specs.declared.script.DebugCommand.TheVariants as command
use Rattle.spim_debug.specs.declared.script_lines.Asked.{Asked}
use Rattle.spim_debug.specs.declared.script_lines.Asked.TheVariants.{Break, Delete, List as Listed}
use Rattle.spim_debug.specs.Scripts.{place_in}

-- the address of the word that a label or an address names, by a table
abbrev pub place_by : TextLabelParts → List ℕ → Option ℕ
place_by table = place_in table.end (address_of table)

-- the command that is asked for, at an address
abbrev pub asked : Asked → ℕ → DebugCommand
asked Break address = command.Break address
asked Delete address = command.Delete address
asked (Listed count) address = command.List address count

-- commands, and one more if there is one
abbrev pub with_command : List DebugCommand → Option DebugCommand → List DebugCommand
with_command commands None = commands
with_command commands (Some command) = commands ++ command ∷ []
