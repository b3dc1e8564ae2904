-- `Comes` says how a call with a specified result (`due`) ends: the whole result was written, or a part of it because a write failed, or nothing because memory
-- ran out before.
use Rattle.std.specs.Prelude.{◌≡◌, ◌≢◌, ℕ, List, [], ◌++◌}
use Rattle.cool_ports.specs.SinkPuts.{PutFront}
use Rattle.cool_driver.specs.{Calls.{Call, SinkUse, Got, GotPart, DidNothing, UnlessCutShort}, Statuses.{READ_FAULT, WRITE_FAULT, OUT_OF_MEMORY}}

-- a specified result: a relation of the status, the output, the note, and the rest of the input
abbrev pub Dues : Type 1
Dues = (status : ℕ) → (output note left : List ℕ) → Type 0

-- the pieces that are written at once: the output before each, its bytes, and the rest of the input
abbrev pub Pieces : Type 1
Pieces = (before piece left : List ℕ) → Type 0

-- The end of a call for which this result is due, if these pieces of it are written to the output.
pub data Comes (due : Dues) (pieces : Pieces) (c : Call) : ℕ → Type 0 where
  -- the result that is due was written and nothing else, and the rest of the input is as due
  written : (status : ℕ) (output note : List ℕ) → due status output note c.left → Got c.out output → Got c.notes note → Comes due pieces c status
  -- a write of the output failed: what is written before it came, and of its own bytes a prefix
  unwritten : (before piece : List ℕ) → pieces before piece c.left → GotPart c.out before piece → Got c.notes [] → Comes due pieces c WRITE_FAULT
  -- the write of the note failed: all else is as what is due
  unnoted : (status : ℕ) (output note : List ℕ) → due status output note c.left → Got c.out output → GotPart c.notes [] note
      → Comes due pieces c WRITE_FAULT
  -- memory ran out before anything was written or taken
  short : DidNothing c → Comes due pieces c OUT_OF_MEMORY

-- no output is written
abbrev pub NoPieces : Pieces
NoPieces before piece left = ⊥

-- These texts were put, a put for each, in order: a front of them, and all, unless a read or a write failed or memory ran out.
pub record PutAsDue (texts : List (List ℕ)) (s : SinkUse) (status : ℕ) : Type 0 where
  pub front : PutFront s.puts_before texts s.puts_after
  pub all : status ≢ READ_FAULT → UnlessCutShort status (s.puts_after ≡ s.puts_before ++ texts)
