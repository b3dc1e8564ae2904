-- The postcondition of a call whose arguments request no command: it writes a message about the usage to standard error.
use Rattle.std.specs.Prelude.{◌≡◌, ℕ, List, [], None, false}
use Rattle.cool_driver.specs.{Calls.{Request, Call, UnlessCutShort}, Comes.{Comes, NoPieces}, Does.{Doing}, Notes.{usage_note}, Statuses.{USAGE}}

pub data DueToUsage (r : Request) : ℕ → List ℕ → List ℕ → List ℕ → Type 0 where
  usage : r.faults_after ≡ r.faults_before → DueToUsage r USAGE [] usage_note r.input

pub record UsageEnds (c : Call) (status : ℕ) : Type 0 where
  pub comes : Comes (DueToUsage c.request) NoPieces c status
  pub usage_exactly : UnlessCutShort status (status ≡ USAGE)

abbrev pub noting : Doing
noting = record { asked = []; sources = None; takes = false; ends = UsageEnds }
