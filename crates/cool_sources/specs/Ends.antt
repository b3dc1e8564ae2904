-- `HasEnded` says how a call ends: the specified outcome (output text, message and status) is written, or a write of it fails and the status says so.
use Rattle.std.specs.Prelude.{◌≡◌, ℕ, List, [], ◌∷◌, ◌++◌, Option, Some, None}
use Rattle.cool_ports.specs.Counts.{Rose}
use Rattle.cool_ports.specs.SinkBytes.{appended, GotPrefix}
use Rattle.cool_ports.specs.SinkPuts.{PutFront, pieces_of}
use Rattle.cool_sources.specs.Devices.{ShelfUse, SinkUse}
use Rattle.cool_sources.specs.Tasks.{IsDue, TaskSpec}
use Rattle.cool_sources.specs.declared.status.Status.{Status}
use Rattle.cool_sources.specs.declared.status.Status.TheVariants.{WriteFault}

-- a note is put at once, if there is one
abbrev pub puts_of : List ℕ → List (List ℕ)
puts_of [] = []
puts_of (b ∷ note) = (b ∷ note) ∷ []

-- A sink got these bytes, and nothing else, in these puts.
pub record HasGot (sink : SinkUse) (bytes : List ℕ) (puts : List (List ℕ)) : Type 0 where
  pub calm : sink.faults_after ≡ sink.faults_before
  pub held : sink.held_after ≡ appended sink.held_before bytes
  pub put : sink.puts_after ≡ sink.puts_before ++ puts

-- A write failed, after which the sink has a prefix of these bytes.
pub record WasCut (sink : SinkUse) (bytes : List ℕ) : Type 0 where
  pub failed : Rose sink.faults_before sink.faults_after
  pub got : GotPrefix sink.held_before bytes sink.held_after

-- The note was written at once and the status is this one, or its write failed and the status says so.
pub data IsTold (status : Status) (note : List ℕ) (notes : SinkUse) : Status → Type 0 where
  told : HasGot notes note (puts_of note) → IsTold status note notes status
  cut : WasCut notes note → notes.puts_after ≡ notes.puts_before ++ puts_of note → IsTold status note notes WriteFault

-- The text was written in pieces of 4,096 bytes, and then the note; or a write of the text failed, nothing was noted, and the status says so.
pub data IsDone (status : Status) (text note : List ℕ) (out notes : SinkUse) : Status → Type 0 where
  whole : (result : Status) → HasGot out text (pieces_of 4096 text) → IsTold status note notes result → IsDone status text note out notes result
  out_cut : WasCut out text → PutFront out.puts_before (pieces_of 4096 text) out.puts_after → HasGot notes [] [] → IsDone status text note out notes WriteFault

-- The end of a call on files of these names, by its status: the outcome that is due, and whether it was written.
pub record HasEnded (task : TaskSpec) (shelf : ShelfUse) (names : List (List ℕ)) (out notes : SinkUse) (status : Status) : Type 0 where
  pub due_status : Status
  pub text : List ℕ
  pub note : List ℕ
  pub due : IsDue task shelf names due_status text note
  pub done : IsDone due_status text note out notes status

-- The use of devices of a process, which did nothing before: files that are not told, and a writer whose bytes are.
abbrev pub fresh_shelf : ℕ → List (List ℕ) → List (List ℕ) → ShelfUse
fresh_shelf faults asked gave = record {
  files = None;
  faults_before = 0;
  faults_after = faults;
  asked_before = [];
  asked_after = asked;
  gave_before = [];
  gave_after = gave;
}

abbrev pub fresh_sink : Option (List ℕ) → ℕ → List (List ℕ) → SinkUse
fresh_sink held faults puts = record {
  held_before = Some [];
  held_after = held;
  faults_before = 0;
  faults_after = faults;
  puts_before = [];
  puts_after = puts;
}
