-- `app_for` describes each command of the command line to clap, the library that parses arguments: its options, flags and positional arguments.
use Rattle.std.specs.Prelude.{true, [], Option, Some, None, bytes_eq, codes, if◌then◌else◌}
use Rattle.clap.specs.Words.{App, Rule, Text, new_rule, with_rule}
use Rattle.clap.specs.Simple.{new_shape}
use Rattle.clap.specs.declared.builder.action.ArgAction.{ArgAction}
use Rattle.clap.specs.declared.builder.action.ArgAction.TheVariants.{Set, Append, SetTrue}
use Rattle.cool_words.specs.declared.command_word.CommandWord.{CommandWord}
use Rattle.cool_words.specs.declared.command_word.CommandWord.TheVariants.{Check, Asm, Build, Run, Eval, Exec, Debug, Big, Session}

abbrev pub name_of : CommandWord → Text
name_of Check = codes "check"
name_of Asm = codes "asm"
name_of Build = codes "build"
name_of Run = codes "run"
name_of Eval = codes "eval"
name_of Exec = codes "exec"
name_of Debug = codes "debug"
name_of Big = codes "big"
name_of Session = codes "session"

abbrev pub command_of : Text → Option CommandWord
command_of word =
    if bytes_eq word (codes "check") then Some Check
    else (if bytes_eq word (codes "asm") then Some Asm
    else (if bytes_eq word (codes "build") then Some Build
    else (if bytes_eq word (codes "run") then Some Run
    else (if bytes_eq word (codes "eval") then Some Eval
    else (if bytes_eq word (codes "exec") then Some Exec
    else (if bytes_eq word (codes "debug") then Some Debug
    else (if bytes_eq word (codes "big") then Some Big
    else (if bytes_eq word (codes "session") then Some Session else None))))))))

-- an option `--name`, which takes one value, at most once
abbrev pub option_rule : Text → Rule
option_rule name = record (new_rule name) { long = Some name; action = Some Set }

-- an option `--name` without a value, at most once
abbrev pub flag_rule : Text → Rule
flag_rule name = record (new_rule name) { long = Some name; action = Some SetTrue }

-- a positional that must be there: one value, or with Append one or more
abbrev pub positional_rule : Text → ArgAction → Rule
positional_rule name action = record (new_rule name) { action = Some action; required = true }

abbrev pub FILES : Rule
FILES = positional_rule (codes "FILES") Append

-- a command with the option of steps
abbrev pub with_steps : App → App
with_steps app = with_rule app (option_rule (codes "steps"))

-- a command with the options of a run
abbrev pub with_limits : App → App
with_limits app = with_steps (with_rule (with_rule app (option_rule (codes "heap"))) (option_rule (codes "stack")))

-- a command with no arguments so far, and no `--help`
abbrev pub bare : Text → App
bare name = record { top = record (new_shape name) { disable_help_flag = true }; subs = [] }

-- the description of the command for clap
abbrev pub app_for : CommandWord → App
app_for Run = with_rule (with_rule (with_limits (bare (codes "run"))) (flag_rule (codes "fold"))) FILES
app_for Eval = with_rule (with_steps (bare (codes "eval"))) FILES
app_for Exec = with_rule (with_limits (bare (codes "exec"))) (positional_rule (codes "FILE") Set)
app_for Debug = with_rule (with_rule (with_limits (bare (codes "debug"))) (positional_rule (codes "SCRIPT") Set)) FILES
app_for Big = with_rule (bare (codes "big")) (positional_rule (codes "N") Set)
app_for Session = bare (codes "session")
app_for command = with_rule (bare (name_of command)) FILES
