-- Each message that the debugger writes to standard error ends in a line feed.
use Rattle.std.proofs.Common.{◌≡◌, ℕ, ◌+◌, Bool, true, false, inl, inr, List, [], ◌∷◌, ◌++◌, length, refl}
use Rattle.std.specs.{Prelude.{flat_map, codes, decimal, Option}, List.{range_with_len}}
use Rattle.cool_ports.specs.{Answers.{Past, Leaves}, Taking.{Took}}
use Rattle.cool_ports.proofs.InputsInParts.{leaves_none}
use Rattle.mips_isa.specs.{Calls.{Outcome, Running, Exited, Trapped}, Decoding.{decoded}}
use Rattle.spim_debug.specs.{ByteCounts.{counted}, Debugging.{PutInCommand, NotesPut}, Moves.{Debuggee, Progress, beginning, outcome, moves, all_moves}}
use Rattle.spim_debug.specs.Notes.{word_text, place_note, ended_note, spaced, instruction_text, listed_from, words_from, state_in, notes, all_notes}
use Rattle.spim_debug.specs.{declared.debugger.DebugEnd.{DebugEnd}, declared.script.DebugCommand.{DebugCommand}}
use Rattle.spim_debug.specs.declared.script.DebugCommand.TheVariants.{Break, Delete, Step, Run, Regs, Out, Show, Words, List as ListWords}
use Rattle.spim_debug.specs.declared.debugger.DebugEnd.TheVariants as end
use Rattle.spim_machine.specs.declared.halt.Halt.TheVariants.{Exit, Trap, StepLimit, ReadFault, WriteFault}
use Rattle.cool_driver.specs.Telling.{AreLines, PutsLines, ends_line}
use Rattle.cool_driver.proofs.LinesOfNotes.{ends_after, feed, no_lines, front_lines, more_lines}
use Rattle.lists.proofs.AllItems.{all_append}

ended_line : (n : ℕ) → ends_line (ended_note n) ≡ true
ended_line n = ends_after (codes "ended after ") _ (ends_after (decimal n) (codes "\n") feed)

place_line : (o : Outcome) (n : ℕ) → ends_line (place_note o n) ≡ true
place_line (Running s) n =
    ends_after (codes "at ") _ (ends_after (word_text s.core.pc) _ (ends_after (codes " after ") _ (ends_after (decimal n) (codes "\n") feed)))
place_line (Exited code s) n = ended_line n
place_line (Trapped trap s) n = ended_line n

listed_lines : (a : ℕ) (words : List ℕ) → AreLines (listed_from a words)
listed_lines a [] = tt
listed_lines a (w ∷ words) =
    (ends_after (word_text a) _ (ends_after (codes ": ") _ (ends_after (instruction_text (decoded w)) (codes "\n") feed)), listed_lines (a + 4) words)

command_lines : (d : Debuggee) (command : DebugCommand) (n : ℕ) → AreLines (notes d command n)
command_lines d (Break a) n = tt
command_lines d (Delete a) n = tt
command_lines d (Step most) n = (place_line (outcome d n) n, tt)
command_lines d Run n = (place_line (outcome d n) n, tt)
command_lines d Regs n =
    let c = (state_in (outcome d n)).core in
    let registers = flat_map (λ k. spaced (c.registers k)) (range_with_len 0 32) in
    (ends_after (codes "regs") _ (ends_after (spaced c.pc) _ (ends_after registers (codes "\n") feed)), tt)
command_lines d Out n = (ends_after (codes "out ") _ (ends_after (decimal (counted (length (state_in (outcome d n)).output))) (codes "\n") feed), tt)
command_lines d (Show a) n = (ends_after (word_text a) _ (ends_after (codes ": ") _ (ends_after _ (codes "\n") feed)), tt)
command_lines d (Words a count) n = (ends_after (word_text a) _ (ends_after (codes ":") _ (ends_after _ (codes "\n") feed)), tt)
command_lines d (ListWords a most) n = listed_lines a (words_from d.text a most)

script_lines : (d : Debuggee) (script : List DebugCommand) (p : Progress) → AreLines (all_notes d script p)
script_lines d [] p = tt
script_lines d (command ∷ rest) p =
    let q = moves d command p in all_append _ (notes d command q.executed) (all_notes d rest q) (command_lines d command q.executed) (script_lines d rest q)

begun_lines : (d : Debuggee) (script : List DebugCommand) (puts puts' : List (List ℕ)) → PutInCommand d script puts puts' → PutsLines puts puts'
begun_lines d script puts puts' h =
    more_lines puts (puts ++ all_notes d h.front beginning) puts' (all_notes d h.front beginning, refl, script_lines d h.front beginning)
    (front_lines _ _ _ (command_lines d h.command (moves d h.command (all_moves d h.front beginning)).executed) h.put)

-- so what it puts to its notes are lines
pub debugger_lines : (d : Debuggee) (script : List DebugCommand) (how : DebugEnd) (puts puts' : List (List ℕ)) → NotesPut d script how puts puts'
    → PutsLines puts puts'
debugger_lines d script (end.Halt (Exit code)) puts puts' put = (_, put, script_lines d script beginning)
debugger_lines d script (end.Halt (Trap trap)) puts puts' put = (_, put, script_lines d script beginning)
debugger_lines d script (end.Halt StepLimit) puts puts' put = (_, put, script_lines d script beginning)
debugger_lines d script (end.Halt ReadFault) puts puts' h = (_, h.put, script_lines d h.front beginning)
debugger_lines d script (end.Halt WriteFault) puts puts' h = (_, h.put, script_lines d h.front beginning)
debugger_lines d script end.NoteFault puts puts' h = begun_lines d script puts puts' h
debugger_lines d script end.Memory puts puts' (inl same) = rw same (no_lines puts)
debugger_lines d script end.Memory puts puts' (inr h) = begun_lines d script puts puts' h

-- whatever the input was
pub noted_lines : (d : List ℕ → Debuggee) (script : List DebugCommand) (how : DebugEnd) (before after : Past) (left left' : Option (List ℕ)) (puts puts' : List (List ℕ))
    → (ended : Bool) × Took false ended before after left left'
    → ((input rest : List ℕ) → Leaves before after input rest → NotesPut (d input) script how puts puts') → PutsLines puts puts'
noted_lines d script how before after left left' puts puts' (ended, took) put =
    debugger_lines (d took.front) script how puts puts' (put took.front [] (leaves_none false ended before after left left' took))
