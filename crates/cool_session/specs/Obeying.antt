-- The results of the functions that carry out a session: reading a line (`TookLine`) or a file (`TookFile`), writing replies (`PutLines`), and carrying out a
-- command (`Obeyed`).
use Rattle.std.specs.Prelude.{◌≡◌, ◌≢◌, ℕ, ◌<◌, ◌≤◌, ◌^◌, ◌⊎◌, ◌==◌, not, Bool, true, false, List, [], ◌++◌, length, Option, Some, None, Result, Ok, Err}
use Rattle.std.specs.Global.{Vec}
use Rattle.std.specs.List.{list_all}
use Rattle.cool_ports.specs.SinkPuts.{SinkSeen, after_puts, PutSome}
use Rattle.cool_session.specs.declared.command.Command.{Command}
use Rattle.cool_session.specs.declared.command.Command.TheVariants as read
use Rattle.cool_session.specs.declared.ending.Ending.{Ending}
use Rattle.cool_session.specs.declared.ending.Ending.TheVariants.{EndsInFile}
use Rattle.cool_session.specs.declared.ending.Interruption.{Interruption}
use Rattle.cool_session.specs.declared.ending.Interruption.TheVariants.{ReadFault, WriteFault, Memory}
use Rattle.cool_session.specs.declared.input.TakenLine.{TakenLine}
use Rattle.cool_session.specs.declared.input.TakenLine.TheVariants.{Whole, TooLong, Unended, Nothing}
use Rattle.cool_session.specs.Commands as commands
use Rattle.cool_session.specs.Exchanges.{Line, NoLine, head, Does, EndsAt, Begins}
use Rattle.cool_session.specs.Held.{Held}

-- whether a result says that the input has ended
abbrev pub line_ended : Result TakenLine Interruption → Bool
line_ended (Ok Unended) = true
line_ended (Ok Nothing) = true
line_ended _ = false

abbrev pub file_ended : {A : Type 0} → Result (Option A) Interruption → Bool
file_ended (Ok None) = true
file_ended _ = false

abbrev pub command_ended : Result (Option Ending) Interruption → Bool
command_ended (Ok (Some (EndsInFile n))) = true
command_ended _ = false

-- a part of a line was taken, without its newline and not too long
pub record IsPartOfLine (part input left : List ℕ) : Type 0 where
  pub is : input ≡ part ++ left
  pub short : length part ≤ 300
  pub no_newline : list_all (λ b. not (b == 10)) part ≡ true

-- A line was asked for, of an input of which this is left.
abbrev pub TookLine : Result TakenLine Interruption → List ℕ → List ℕ → Type 0
TookLine (Ok (Whole line)) input left = head input ≡ Line line.items left
TookLine (Ok TooLong) input left = (input ≢ []) × (head input ≡ NoLine left)
TookLine (Ok Unended) input left = (input ≢ []) × (head input ≡ NoLine left)
TookLine (Ok Nothing) input left = (input ≡ []) × (left ≡ [])
TookLine (Err ReadFault) input left = (part : List ℕ) × IsPartOfLine part input left
TookLine (Err WriteFault) input left = ⊥
TookLine (Err Memory) input left = (part : List ℕ) × IsPartOfLine part input left

-- reading a line took at least one byte, unless nothing was left
abbrev pub SpentLine : Result TakenLine Interruption → ℕ → ℕ → Type 0
SpentLine (Ok Nothing) before after = Unit {0}
SpentLine (Ok _) before after = (before < 2 ^ 64) × (after < before)
SpentLine (Err e) before after = Unit {0}

-- So many bytes were asked for, of an input of which this is left.
abbrev pub TookFile : ℕ → Result (Option (Vec ℕ)) Interruption → List ℕ → List ℕ → Type 0
TookFile n (Ok (Some bytes)) input left = (length bytes.items ≡ n) × (input ≡ bytes.items ++ left)
TookFile n (Ok None) input left = (length input < n) × (left ≡ [])
TookFile n (Err ReadFault) input left = (part : List ℕ) × (input ≡ part ++ left) × (length part < n)
TookFile n (Err WriteFault) input left = ⊥
TookFile n (Err Memory) input left = (part : List ℕ) × (input ≡ part ++ left) × (length part ≤ n)

-- the command that was read
abbrev pub command_of : Command → commands.Command
command_of (read.File name n) = commands.File name.now n
command_of (read.Drop name) = commands.Drop name.now
command_of read.Check = commands.Check
command_of read.Quit = commands.Quit

-- Lines were put to a sink of which `before` was known and `after` is, each by a put, or a front of them.
abbrev pub PutLines : List (List ℕ) → Result (Unit {0}) Interruption → SinkSeen → SinkSeen → Type 0
PutLines lines (Ok u) before after = after ≡ after_puts before lines
PutLines lines (Err ReadFault) before after = ⊥
PutLines lines (Err WriteFault) before after = PutSome before lines after
PutLines lines (Err Memory) before after = PutSome before lines after

-- The command at the head of an input was done, or ended the session, or was cut short; it had this number. The sink was seen as `before`, and now as
-- `after`.
abbrev pub Obeyed : ℕ → Held → List ℕ → Result (Option Ending) Interruption → Held → List ℕ → SinkSeen → SinkSeen → Type 0
Obeyed number h input (Ok None) h' left before after =
    (lines : List (List ℕ)) × Does h input lines h' left × (after ≡ after_puts before lines)
Obeyed number h input (Ok (Some end)) h' left before after = EndsAt number h input end left × (after ≡ before)
Obeyed number h input (Err ReadFault) h' left before after = Begins h input left × (after ≡ before)
Obeyed number h input (Err WriteFault) h' left before after =
    (lines : List (List ℕ)) × (now : Held) × Does h input lines now left × PutSome before lines after
Obeyed number h input (Err Memory) h' left before after =
    (Begins h input left × (after ≡ before))
    ⊎ ((lines : List (List ℕ)) × (now : Held) × Does h input lines now left × PutSome before lines after)
    ⊎ ((line : List ℕ) × (head input ≡ Line line left) × (after ≡ before))
