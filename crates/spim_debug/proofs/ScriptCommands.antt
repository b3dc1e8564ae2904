-- Parsing a debugger script line by line gives the commands of the whole script: each line appends its command to those before, or is the first error.
use Rattle.std.proofs.Common.{◌≡◌, refl, sym, ap, ◌∙◌, arith, ℕ, suc, ◌+◌, ◌<◌, ◌≤◌, List, [], ◌∷◌, ◌++◌, append_assoc, length, map, drop, get_or}
use Rattle.std.specs.Prelude.{Option, Some, None, Result, Ok, Err}
use Rattle.std.proofs.lemmas.List.{drop_more}
use native.Mathlib.Numerals.{add-one}
use denote.Ref.{Bor}
use Rattle.spim_debug.specs.declared.script.DebugCommand.{DebugCommand}
use Rattle.spim_debug.specs.declared.script.ScriptKind.TheVariants.{B1}
use Rattle.spim_debug.specs.declared.script.ScriptFault.{ScriptFault}
use Rattle.spim_debug.specs.ScriptLines.{with_command}
use Rattle.spim_debug.specs.Scripts.{commands_from, said, said_by, then_commands}

-- commands before others, if these are without a fault
abbrev pub behind : List DebugCommand → Result (List DebugCommand) ScriptFault → Result (List DebugCommand) ScriptFault
behind done (Ok commands) = Ok (done ++ commands)
behind done (Err fault) = Err fault

-- a line of more than three words is in no form
pub more_words : (place : List ℕ → Option ℕ) (words : List (Bor (List ℕ))) → 4 ≤ length words → Err B1 ≡ said_by place (map (λ word. word.now) words)
more_words place [] many = absurd (omega arith)
more_words place (a ∷ []) many = absurd (omega arith)
more_words place (a ∷ b ∷ []) many = absurd (omega arith)
more_words place (a ∷ b ∷ c ∷ []) many = absurd (omega arith)
more_words place (a ∷ b ∷ c ∷ d ∷ more) many = refl

-- the command of a line goes behind the commands so far
behind_line : (done : List DebugCommand) (command : Option DebugCommand) (number : ℕ) (later : Result (List DebugCommand) ScriptFault)
    → behind (with_command done command) later ≡ behind done (then_commands number (Ok command) later)
behind_line done None number later = refl
behind_line done (Some command) number (Ok commands) = ap Ok (append_assoc done (command ∷ []) commands)
behind_line done (Some command) number (Err fault) = refl

-- one line on, with its command behind those so far, the rest says the same
pub line_on : (place : List ℕ → Option ℕ) (ls : List (Bor (List ℕ))) (i : ℕ) (d : Bor (List ℕ)) (done next : List DebugCommand) (command : Option DebugCommand) → i < length ls
    → Ok command ≡ said place (get_or ls i d).now → next ≡ with_command done command
    → behind next (commands_from place (suc (i + 1)) (map (λ line. line.now) (drop (i + 1) ls))) ≡ behind done (commands_from place (suc i) (map (λ line. line.now) (drop i ls)))
line_on place ls i d done next command less is put =
    let later = λ (n : ℕ). commands_from place (suc n) (map (λ line. line.now) (drop (i + 1) ls)) in
    let told = λ (xs : List (Bor (List ℕ))). behind done (commands_from place (suc i) (map (λ line. line.now) xs)) in
    ap (λ (cs : List DebugCommand). behind cs (later (i + 1))) put
    ∙ behind_line done command (suc i) (later (i + 1))
    ∙ (λ k. behind done (then_commands (suc i) (is k) (later (add-one i k))))
    ∙ sym (ap told (drop_more ls i d less))
