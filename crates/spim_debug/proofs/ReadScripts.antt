-- Parsing the pieces between the newlines of a debugger script, with a table of label addresses, gives the commands that the definition has for the script.
use Rattle.std.proofs.Common.{◌≡◌, ap, subst, ◌∙◌, ℕ, List}
use Rattle.std.proofs.Math.Path.{fun_ext}
use Rattle.std.specs.Prelude.{◌==◌, Option, Result, Vec}
use Rattle.std.specs.Global.{Global}
use Rattle.std.specs.List.{slice_split}
use Rattle.mips_isa.specs.Lines as lines
use Rattle.spim_debug.specs.declared.script.DebugCommand.{DebugCommand}
use Rattle.spim_debug.specs.declared.script.ScriptFault.{ScriptFault}
use Rattle.spim_debug.specs.declared.script.ScriptError.{ScriptError}
use Rattle.spim_debug.specs.Scripts.{IsReadAs, commands_from, commands_in, place_in}
use Rattle.spim_debug.proofs.ScriptParts.{parts_say}

-- the table has the addresses that labels have and the end of the text, and the parts are those of the script
pub script_read : (own end : ℕ) (table label : lines.Name → Option ℕ) (bytes : List ℕ) (parts : List (List ℕ)) (answer : Result (Vec DebugCommand Global) ScriptError)
    → own ≡ end → ((name : lines.Name) → table name ≡ label name) → parts ≡ slice_split (λ b. b == 10) bytes → IsReadAs (commands_from (place_in own table) 1 parts) answer
    → IsReadAs (commands_in (place_in end label) bytes) answer
script_read own end table label bytes parts answer ends same cut h =
    let labels : table ≡ label = fun_ext same in
    let place : List ℕ → Option ℕ = place_in end label in
    subst (λ (told : Result (List DebugCommand) ScriptFault). IsReadAs told answer)
    (ap (λ (e : ℕ). commands_from (place_in e table) 1 parts) ends ∙ ap (λ (l : lines.Name → Option ℕ). commands_from (place_in end l) 1 parts) labels
    ∙ (ap (commands_from place 1) cut ∙ parts_say place bytes)) h
