-- `Outside` is the state, at one point, of all that a call uses: the file system (shelf), the input stream (source) and the two output streams (sinks).
use Rattle.std.specs.Prelude.{ℕ, List, Option}
use Rattle.cool_ports.specs.{Answers.{Past}, ShelfFiles.{FileMap}}
use Rattle.cool_ports.specs.declared.shelf.Shelf as shelf
use Rattle.cool_ports.specs.declared.sink.Sink as sink
use Rattle.cool_ports.specs.declared.source.Source as source

-- The state of a shelf: its files, if contracts can see them, its count of faults, and the names and files that it was asked for and gave so far.
pub record ShelfState : Type 0 where
  pub files : Option FileMap
  pub faults : ℕ
  pub asked : List (List ℕ)
  pub gave : List (List ℕ)

abbrev pub shelf_at : {S : Type 0} → shelf.Ghosts S → S → ShelfState
shelf_at of s = record { files = of.files s; faults = of.faults s; asked = of.asked s; gave = of.gave s }

-- The state of a source: the input that it gave so far, the rest if contracts can see it, and its count of faults.
pub record SourceState : Type 0 where
  pub past : Past
  pub left : Option (List ℕ)
  pub faults : ℕ

abbrev pub source_at : {S : Type 0} → source.Ghosts S → S → SourceState
source_at of s = record { past = of.past s; left = of.left s; faults = of.faults s }

-- The state of a sink: the bytes that it holds if contracts can see them, its count of faults, and the puts (writes) so far.
pub record SinkState : Type 0 where
  pub held : Option (List ℕ)
  pub faults : ℕ
  pub puts : List (List ℕ)

abbrev pub sink_at : {S : Type 0} → sink.Ghosts S → S → SinkState
sink_at of s = record { held = of.held s; faults = of.faults s; puts = of.puts s }

pub record Outside : Type 0 where
  pub shelf : ShelfState
  pub input : SourceState
  pub out : SinkState
  pub notes : SinkState

abbrev pub outside : ShelfState → SourceState → (out notes : SinkState) → Outside
outside shelf input out notes = record { shelf = shelf; input = input; out = out; notes = notes }
