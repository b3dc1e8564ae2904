-- `commands_in` parses a debugger script: one command for each line that is not empty, or the first line that is not a command or names no machine word of the
-- program. The rule is in `docs/debugger.md`, Scripts.
use Rattle.std.specs.Prelude.{◌≡◌, refl, ℕ, suc, ◌==◌, ◌&&◌, ◌||◌, nat_le, if◌then◌else◌, List, [], ◌∷◌, length, bytes_eq, codes, Option, Some, None, Result, Ok, Err}
use Rattle.std.specs.Option.{is_some}
use Rattle.mips_isa.specs.Lines as lines
use Rattle.mips_asm.specs.TextLabels.{has_word, text_end, text_label}
use Rattle.mips_text.specs.Names.{is_name}
use Rattle.mips_text.specs.Reading.{lines_in}
use Rattle.mips_text.specs.Words.{decimal, hexadecimal}
use Rattle.spim_debug.specs.declared.script.DebugCommand.{DebugCommand}
use Rattle.spim_debug.specs.declared.script.DebugCommand.TheVariants.{Break, Delete, Step, Run, Regs, Out, Show, Words, List as ListWords}
use Rattle.spim_debug.specs.declared.script.ScriptKind.{ScriptKind}
use Rattle.spim_debug.specs.declared.script.ScriptKind.TheVariants.{B1, B2}
use Rattle.spim_debug.specs.declared.script.ScriptFault.{ScriptFault}
use Rattle.spim_debug.specs.declared.script.ScriptError.{ScriptError}
use Rattle.spim_debug.specs.declared.script.ScriptError.TheVariants.{Memory, Fault}
use Rattle.std.specs.Global.{Vec}
use Rattle.lists.specs.Words.{words_in}

-- the meaning of a line: a command, or nothing if it is empty; or its fault
abbrev pub Said : Type 0
Said = Result (Option DebugCommand) ScriptKind

abbrev pub says : DebugCommand → Said
says command = Ok (Some command)

-- a number from 1 on in at most so many digits, and at most so large
abbrev pub up_to : ℕ → Option ℕ → Option ℕ
up_to most None = None
up_to most (Some n) = if nat_le 1 n && nat_le n most then Some n else None

abbrev pub number_in : ℕ → ℕ → List ℕ → Option ℕ
number_in digits most word = if nat_le (length word) digits then up_to most (decimal word) else None

-- `0x` and eight hexadecimal digits
abbrev pub address_in : List ℕ → Option ℕ
address_in word = if length word == 10 then hexadecimal word else None

-- the address itself, where a text that ends at an address has a word at it
abbrev pub word_at : ℕ → Option ℕ → Option ℕ
word_at end None = None
word_at end (Some a) = if has_word end a then Some a else None

-- the address of the word that a label or an address names, where labels have these addresses and the text ends at an address
abbrev pub place_in : ℕ → (lines.Name → Option ℕ) → List ℕ → Option ℕ
place_in end label word = if is_name word then label word else word_at end (address_in word)

-- the address of the word that a label or an address names, in the text of lines of assembly
abbrev pub place_of : List lines.Line → List ℕ → Option ℕ
place_of rows = place_in (text_end rows) (text_label rows)

-- the command with a number or an address, if the operand is one
abbrev pub with_number : Option ℕ → (ℕ → DebugCommand) → Said
with_number None command = Err B1
with_number (Some n) command = says (command n)

-- the command at the address that a label or an address names, if that is a word of the text
abbrev pub at_place : Option ℕ → (ℕ → DebugCommand) → Said
at_place None command = Err B2
at_place (Some a) command = says (command a)

abbrev pub with_place : (List ℕ → Option ℕ) → List ℕ → (ℕ → DebugCommand) → Said
with_place place word command = if is_name word || is_some (address_in word) then at_place (place word) command else Err B1

-- the command with a label or an address, and a number
abbrev pub with_both : (List ℕ → Option ℕ) → List ℕ → Option ℕ → (ℕ → ℕ → DebugCommand) → Said
with_both place word None command = Err B1
with_both place word (Some n) command = with_place place word (λ a. command a n)

-- the command with an address and a number, if the operands are these
abbrev pub with_numbers : Option ℕ → Option ℕ → (ℕ → ℕ → DebugCommand) → Said
with_numbers None count command = Err B1
with_numbers (Some a) count command = with_number count (command a)

-- the meaning of a single word, of one with an operand, and with two
abbrev pub alone : List ℕ → Said
alone verb =
    if bytes_eq verb (codes "run") then says Run
    else (if bytes_eq verb (codes "regs") then says Regs
    else (if bytes_eq verb (codes "out") then says Out else Err B1))

abbrev pub with_operand : (List ℕ → Option ℕ) → List ℕ → List ℕ → Said
with_operand place verb word =
    if bytes_eq verb (codes "break") then with_place place word Break
    else (if bytes_eq verb (codes "delete") then with_place place word Delete
    else (if bytes_eq verb (codes "step") then with_number (number_in 10 1000000000 word) Step
    else (if bytes_eq verb (codes "show") then with_number (address_in word) Show else Err B1)))

abbrev pub with_operands : (List ℕ → Option ℕ) → List ℕ → List ℕ → List ℕ → Said
with_operands place verb first second =
    if bytes_eq verb (codes "list") then with_both place first (number_in 4 1000 second) ListWords
    else (if bytes_eq verb (codes "words") then with_numbers (address_in first) (number_in 4 1000 second) Words else Err B1)

abbrev pub said_by : (List ℕ → Option ℕ) → List (List ℕ) → Said
said_by place (verb ∷ []) = alone verb
said_by place (verb ∷ word ∷ []) = with_operand place verb word
said_by place (verb ∷ first ∷ second ∷ []) = with_operands place verb first second
said_by place words = Err B1

-- the meaning of a line, if labels and addresses name words at these addresses
abbrev pub said : (List ℕ → Option ℕ) → List ℕ → Said
said place [] = Ok None
said place (b ∷ bs) = said_by place (words_in (b ∷ bs))

-- the commands of lines from a number on, or the first fault
abbrev pub then_commands : ℕ → Said → Result (List DebugCommand) ScriptFault → Result (List DebugCommand) ScriptFault
then_commands number (Err kind) later = Err (record { kind = kind; line = number })
then_commands number (Ok None) later = later
then_commands number (Ok (Some command)) (Err fault) = Err fault
then_commands number (Ok (Some command)) (Ok commands) = Ok (command ∷ commands)

abbrev pub commands_from : (List ℕ → Option ℕ) → ℕ → List (List ℕ) → Result (List DebugCommand) ScriptFault
commands_from place number [] = Ok []
commands_from place number (line ∷ rest) = then_commands number (said place line) (commands_from place (suc number) rest)

-- the commands of a script, or its first fault
abbrev pub commands_in : (List ℕ → Option ℕ) → List ℕ → Result (List DebugCommand) ScriptFault
commands_in place bytes = commands_from place 1 (lines_in bytes)

-- The result of reading: the commands, or the first fault, unless memory ran out.
abbrev pub IsReadAs : Result (List DebugCommand) ScriptFault → Result (Vec DebugCommand) ScriptError → Type 0
IsReadAs told (Ok commands) = told ≡ Ok commands.items
IsReadAs told (Err Memory) = Unit {0}
IsReadAs told (Err (Fault fault)) = told ≡ Err fault

-- worked examples, of a text of two words, where only `main` is a label, at 0x00400000
abbrev main_alone : List ℕ → Option ℕ
main_alone = place_in 0x00400008 (λ name. if bytes_eq name (codes "main") then Some 0x00400000 else None)

a_script : commands_in main_alone (codes "break main\nrun\n\nlist main 2\nstep 5\nshow 0x1000000A\nregs")
    ≡ Ok (Break 0x00400000 ∷ Run ∷ ListWords 0x00400000 2 ∷ Step 5 ∷ Show 0x1000000a ∷ Regs ∷ [])
a_script = refl

unknown_label : commands_in main_alone (codes "run\nbreak Nope\nstep") ≡ Err (record { kind = B2; line = 2 })
unknown_label = refl

second_word : commands_in main_alone (codes "break 0x00400004\ndelete 0x00400004\nlist 0x00400000 1") ≡ Ok (Break 0x00400004 ∷ Delete 0x00400004 ∷ ListWords 0x00400000 1 ∷ [])
second_word = refl

behind_the_text : said main_alone (codes "break 0x00400008") ≡ Err B2
behind_the_text = refl

before_the_text : said main_alone (codes "break 0x003ffffc") ≡ Err B2
before_the_text = refl

within_a_word : said main_alone (codes "delete 0x00400002") ≡ Err B2
within_a_word = refl

seven_digits : said main_alone (codes "break 0x0400000") ≡ Err B1
seven_digits = refl

words_and_output : commands_in main_alone (codes "words 0x7fffff00 64\nout") ≡ Ok (Words 0x7fffff00 64 ∷ Out ∷ [])
words_and_output = refl

too_many_words : said main_alone (codes "words 0x7fffff00 1001") ≡ Err B1
too_many_words = refl

words_of_a_label : said main_alone (codes "words main 1") ≡ Err B1
words_of_a_label = refl

two_spaces : said main_alone (codes "step  1") ≡ Err B1
two_spaces = refl

no_step : said main_alone (codes "step 0") ≡ Err B1
no_step = refl

form_before_label : said main_alone (codes "list Nope 1001") ≡ Err B1
form_before_label = refl

eleven_digits : said main_alone (codes "step 00000000001") ≡ Err B1
eleven_digits = refl

no_label : said main_alone (codes "delete 1a") ≡ Err B1
no_label = refl
