-- `Doing` is the specification of a command: the files that it reads, whether it reads the input, and its postcondition on the call and the exit status.
-- `DoesUnless` states the effects of a command on files, input and outputs.
use Rattle.std.specs.Prelude.{◌≡◌, ℕ, Bool, false, List, Option, IfSome}
use Rattle.cool_ports.specs.{Answers.{Leaves}, ShelfFiles.{AskedFront}, Taking.{Took}}
use Rattle.cool_driver.specs.{Calls.{Call, call_between, shelf_between}, Devices.{Devices}, Outside.{Outside}, Refusals.{PutsFaults}}
use Rattle.cool_driver.specs.{Statuses.{REFUSED, USAGE}, Telling.{PutsLines}}

-- The specification of a command: the names that the shelf is asked for, in order; those of the source files, if it reads some; whether it takes of the
-- input; and its promise about the call.
pub record Doing : Type 1 where
  pub asked : List (List ℕ)
  pub sources : Option (List (List ℕ))
  pub takes : Bool
  pub ends : Call → ℕ → Type 0

-- The end of a call with a status: the state of its devices, the promise, and that status 2 comes only if the arguments are not valid.
pub record EndsUnless (Unasked : Type 0) (Promise : Call → ℕ → Type 0) (c : Call) (status : ℕ) : Type 0 where
  pub devices : Devices c status
  pub ends : Promise c status
  pub usage_only : status ≡ USAGE → Unasked

-- the end of a call whose arguments are valid, so that its status is not 2
abbrev pub Goes : (Call → ℕ → Type 0) → Call → ℕ → Type 0
Goes = EndsUnless ⊥

-- The effects between two states of the outside, and the status: `Unasked` says that the arguments request nothing.
pub record DoesUnless (Unasked : Type 0) (d : Doing) (before after : Outside) (status : ℕ) : Type 0 where
  -- the shelf keeps its files
  pub files : after.shelf.files ≡ before.shelf.files
  -- it was asked for the names, each once, up to one that it refused
  pub asked : AskedFront d.asked before.shelf.asked after.shelf.asked
  -- each text that was put to the notes ends in a line feed
  pub lines : PutsLines before.notes.puts after.notes.puts
  -- if source files were refused for their faults, a line was put for each fault
  pub refused : status ≡ REFUSED → IfSome d.sources (λ names. PutsFaults names (shelf_between before.shelf after.shelf) before.notes.puts after.notes.puts)
  -- bytes of the input were taken, and then perhaps the answer that nothing is left, once
  pub taken : (ended : Bool) × Took false ended before.input.past after.input.past before.input.left after.input.left
  -- the end of the call, for any input that begins with the bytes that it took, and is no more than those if the end was answered
  pub ends : (words : List (List ℕ)) (given rest : List ℕ) → Leaves before.input.past after.input.past given rest
      → EndsUnless Unasked d.ends (call_between words before after given rest) status

-- the effects of a command whose arguments are valid, so that its status is not 2
abbrev pub Does : Doing → (before after : Outside) → ℕ → Type 0
Does = DoesUnless ⊥
