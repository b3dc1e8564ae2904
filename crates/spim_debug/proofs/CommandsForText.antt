-- Each address in the parsed commands of a debugger script is the address of a machine word in the program's text segment, if all labels and addresses that the
-- script may name are.
use Rattle.std.proofs.Common.{subst, ℕ, suc, Bool, true, false, List, [], ◌∷◌}
use Rattle.std.specs.Prelude.{◌||◌, if◌then◌else◌, codes, bytes_eq, Option, Some, None, IfSome, Result, Ok, Err, IfOk, Vec}
use Rattle.std.specs.Global.{Global}
use Rattle.std.specs.Option.{is_some}
use Rattle.mips_text.specs.Names.{is_name}
use Rattle.spim_debug.specs.declared.script.DebugCommand.{DebugCommand}
use Rattle.spim_debug.specs.declared.script.DebugCommand.TheVariants.{Break, Delete, Step, Run, Regs, Out, Show, Words, List as ListWords}
use Rattle.spim_debug.specs.declared.script.ScriptKind.TheVariants.{B1}
use Rattle.spim_debug.specs.declared.script.ScriptFault.{ScriptFault}
use Rattle.spim_debug.specs.declared.script.ScriptError.{ScriptError}
use Rattle.spim_debug.specs.declared.script.ScriptError.TheVariants.{Memory, Fault}
use Rattle.spim_debug.specs.Debugging.{IsTextAddress, IsCommandFor, IsScriptFor}
use Rattle.spim_debug.specs.Scripts.{Said, says, IsReadAs, number_in, address_in, with_number, with_numbers, at_place, with_place, with_both, alone, with_operand, with_operands, said_by, said, then_commands, commands_from}
use Rattle.lists.specs.Words.{words_in}

-- each place is the address of a word of the text, or none
abbrev pub NamesWords : List ℕ → (List ℕ → Option ℕ) → Type 0
NamesWords text place = (name : List ℕ) → IfSome (place name) (IsTextAddress text)

-- the command that a line says is for the text
abbrev SaysFor : List ℕ → Said → Type 0
SaysFor text (Ok None) = Unit {0}
SaysFor text (Ok (Some command)) = IsCommandFor text command
SaysFor text (Err kind) = Unit {0}

-- and what all lines say
abbrev pub AreFor : List ℕ → Result (List DebugCommand) ScriptFault → Type 0
AreFor text (Ok commands) = IsScriptFor text commands
AreFor text (Err fault) = Unit {0}

-- either of two
either_for : (text : List ℕ) (b : Bool) (s t : Said) → SaysFor text s → SaysFor text t → SaysFor text (if b then s else t)
either_for text true s t f g = f
either_for text false s t f g = g

-- with a number
number_for : (text : List ℕ) (o : Option ℕ) (command : ℕ → DebugCommand) → ((n : ℕ) → IsCommandFor text (command n)) → SaysFor text (with_number o command)
number_for text None command f = tt
number_for text (Some n) command f = f n

-- with an address and a number
numbers_for : (text : List ℕ) (a n : Option ℕ) → SaysFor text (with_numbers a n Words)
numbers_for text None n = tt
numbers_for text (Some a) n = number_for text n (Words a) (λ k. tt)

-- at a place
at_for : (text : List ℕ) (o : Option ℕ) (command : ℕ → DebugCommand) → IfSome o (IsTextAddress text) → ((a : ℕ) → IsTextAddress text a → IsCommandFor text (command a)) → SaysFor text (at_place o command)
at_for text None command h f = tt
at_for text (Some a) command h f = f a h

place_for : (text : List ℕ) (place : List ℕ → Option ℕ) (word : List ℕ) (command : ℕ → DebugCommand) → NamesWords text place → ((a : ℕ) → IsTextAddress text a → IsCommandFor text (command a)) → SaysFor text (with_place place word command)
place_for text place word command h f = either_for text (is_name word || is_some (address_in word)) (at_place (place word) command) (Err B1) (at_for text (place word) command (h word) f) tt

-- with both
both_for : (text : List ℕ) (place : List ℕ → Option ℕ) (word : List ℕ) (o : Option ℕ) → NamesWords text place → SaysFor text (with_both place word o ListWords)
both_for text place word None h = tt
both_for text place word (Some n) h = place_for text place word (λ a. ListWords a n) h (λ a k. k)

alone_for : (text verb : List ℕ) → SaysFor text (alone verb)
alone_for text verb =
    let out_or : Said = if bytes_eq verb (codes "out") then says Out else Err B1 in
    either_for text (bytes_eq verb (codes "run")) (says Run) (if bytes_eq verb (codes "regs") then says Regs else out_or) tt
    (either_for text (bytes_eq verb (codes "regs")) (says Regs) out_or tt (either_for text (bytes_eq verb (codes "out")) (says Out) (Err B1) tt tt))

operand_for : (text : List ℕ) (place : List ℕ → Option ℕ) (verb word : List ℕ) → NamesWords text place → SaysFor text (with_operand place verb word)
operand_for text place verb word h =
    let show_or : Said = if bytes_eq verb (codes "show") then with_number (address_in word) Show else Err B1 in
    let step_or : Said = if bytes_eq verb (codes "step") then with_number (number_in 10 1000000000 word) Step else show_or in
    let delete_or : Said = if bytes_eq verb (codes "delete") then with_place place word Delete else step_or in
    let shows : SaysFor text show_or =
    either_for text (bytes_eq verb (codes "show")) (with_number (address_in word) Show) (Err B1) (number_for text (address_in word) Show (λ n. tt)) tt in
    let steps : SaysFor text step_or =
    either_for text (bytes_eq verb (codes "step")) (with_number (number_in 10 1000000000 word) Step) show_or (number_for text (number_in 10 1000000000 word) Step (λ n. tt)) shows in
    let deletes : SaysFor text delete_or =
    either_for text (bytes_eq verb (codes "delete")) (with_place place word Delete) step_or (place_for text place word Delete h (λ a k. k)) steps in
    either_for text (bytes_eq verb (codes "break")) (with_place place word Break) delete_or (place_for text place word Break h (λ a k. k)) deletes

operands_for : (text : List ℕ) (place : List ℕ → Option ℕ) (verb first second : List ℕ) → NamesWords text place → SaysFor text (with_operands place verb first second)
operands_for text place verb first second h =
    let words_or : Said = if bytes_eq verb (codes "words") then with_numbers (address_in first) (number_in 4 1000 second) Words else Err B1 in
    either_for text (bytes_eq verb (codes "list")) (with_both place first (number_in 4 1000 second) ListWords) words_or (both_for text place first (number_in 4 1000 second) h)
    (either_for text (bytes_eq verb (codes "words")) (with_numbers (address_in first) (number_in 4 1000 second) Words) (Err B1) (numbers_for text (address_in first) (number_in 4 1000 second)) tt)

words_for : (text : List ℕ) (place : List ℕ → Option ℕ) (words : List (List ℕ)) → NamesWords text place → SaysFor text (said_by place words)
words_for text place [] h = tt
words_for text place (verb ∷ []) h = alone_for text verb
words_for text place (verb ∷ word ∷ []) h = operand_for text place verb word h
words_for text place (verb ∷ first ∷ second ∷ []) h = operands_for text place verb first second h
words_for text place (verb ∷ first ∷ second ∷ third ∷ more) h = tt

line_for : (text : List ℕ) (place : List ℕ → Option ℕ) (line : List ℕ) → NamesWords text place → SaysFor text (said place line)
line_for text place [] h = tt
line_for text place (b ∷ bs) h = words_for text place (words_in (b ∷ bs)) h

-- a line, and the others
then_for : (text : List ℕ) (number : ℕ) (s : Said) (later : Result (List DebugCommand) ScriptFault) → SaysFor text s → AreFor text later → AreFor text (then_commands number s later)
then_for text number (Err kind) later h g = tt
then_for text number (Ok None) later h g = g
then_for text number (Ok (Some command)) (Err fault) h g = tt
then_for text number (Ok (Some command)) (Ok commands) h g = (h, g)

-- all lines
pub commands_for : (text : List ℕ) (place : List ℕ → Option ℕ) (number : ℕ) (rows : List (List ℕ)) → NamesWords text place → AreFor text (commands_from place number rows)
commands_for text place number [] h = tt
commands_for text place number (row ∷ rows) h =
    then_for text number (said place row) (commands_from place (suc number) rows) (line_for text place row h) (commands_for text place (suc number) rows h)

-- the commands that are returned are for the text
pub answered_for : (text : List ℕ) (told : Result (List DebugCommand) ScriptFault) (answer : Result (Vec DebugCommand Global) ScriptError) → IsReadAs told answer → AreFor text told
    → IfOk answer (λ commands. IsScriptFor text commands.items)
answered_for text told (Ok commands) e h = subst (AreFor text) e h
answered_for text told (Err Memory) e h = tt
answered_for text told (Err (Fault fault)) e h = tt
