-- `Call` describes one call of `cool`: its arguments, the files that it read, the bytes that it wrote, and the rest of its input. In names here, a note is a
-- message on standard error, a shelf is a file system, and a sink is an output stream.
use Rattle.std.specs.Prelude.{◌≡◌, ◌≢◌, ℕ, ◌<◌, ◌≤◌, List, [], Option, Some}
use Rattle.cool_ports.specs.{Counts.{last_count, Rose}, ShelfFiles.{FileMap}, SinkBytes.{appended, GotPrefix}}
use Rattle.cool_ports.specs.declared.shelf.Shelf as shelf
use Rattle.cool_ports.specs.declared.sink.Sink as sink
use Rattle.cool_driver.specs.{Outside.{Outside, ShelfState, SinkState, shelf_at, sink_at}, Statuses.{WRITE_FAULT, OUT_OF_MEMORY}}

-- The request of a call: its arguments; the files of the shelf, if contracts can see them, and its count of faults before and after; the names that it was
-- asked for and the bytes of each file that it gave up to the end; and an input that the source may have had left at first.
pub record Request : Type 0 where
  pub words : List (List ℕ)
  pub files : Option FileMap
  pub faults_before : ℕ
  pub faults_after : ℕ
  pub asked_after : List (List ℕ)
  pub gave_after : List (List ℕ)
  pub input : List ℕ

-- The use of a shelf by a call: its files, if contracts can see them, its count of faults before and after, and the names that it was asked for and the bytes
-- of each file that it gave up to the end.
pub record ShelfUse : Type 0 where
  pub files : Option FileMap
  pub faults_before : ℕ
  pub faults_after : ℕ
  pub asked_after : List (List ℕ)
  pub gave_after : List (List ℕ)

-- the use of a shelf between two states
abbrev pub shelf_between : ShelfState → ShelfState → ShelfUse
shelf_between before after = record {
  files = before.files;
  faults_before = before.faults;
  faults_after = after.faults;
  asked_after = after.asked;
  gave_after = after.gave;
}

abbrev pub shelf_use : {S : Type 0} → shelf.Ghosts S → S → S → ShelfUse
shelf_use of before after = shelf_between (shelf_at of before) (shelf_at of after)

-- the use of the shelf of a request
abbrev pub shelf_of : Request → ShelfUse
shelf_of r = record {
  files = r.files;
  faults_before = r.faults_before;
  faults_after = r.faults_after;
  asked_after = r.asked_after;
  gave_after = r.gave_after;
}

-- The use of a sink by a call: the bytes that it held, its count of faults, and the list of puts, before a call and after it.
pub record SinkUse : Type 0 where
  pub held_before : Option (List ℕ)
  pub held_after : Option (List ℕ)
  pub faults_before : ℕ
  pub faults_after : ℕ
  pub puts_before : List (List ℕ)
  pub puts_after : List (List ℕ)

-- the use of a sink between two states
abbrev pub sink_between : SinkState → SinkState → SinkUse
sink_between before after = record {
  held_before = before.held;
  held_after = after.held;
  faults_before = before.faults;
  faults_after = after.faults;
  puts_before = before.puts;
  puts_after = after.puts;
}

abbrev pub sink_use : {S : Type 0} → sink.Ghosts S → S → S → SinkUse
sink_use of before after = sink_between (sink_at of before) (sink_at of after)

-- the sink got exactly these bytes, without a fault
abbrev pub Got : SinkUse → List ℕ → Type 0
Got s bytes = (s.held_after ≡ appended s.held_before bytes) × (s.faults_after ≡ s.faults_before)

-- a write failed: the sink got the first bytes, and only a prefix of the others
abbrev pub GotPart : SinkUse → List ℕ → List ℕ → Type 0
GotPart s bytes more = GotPrefix (appended s.held_before bytes) more s.held_after × Rose s.faults_before s.faults_after

-- A call of `cool`: its request, the use of its output and of its notes, the rest of the input, and the input's count of faults before and after.
pub record Call : Type 0 where
  pub request : Request
  pub out : SinkUse
  pub notes : SinkUse
  pub left : List ℕ
  pub input_before : ℕ
  pub input_after : ℕ

-- no count of faults falls
pub record NoLess (c : Call) : Type 0 where
  pub files : c.request.faults_before ≤ c.request.faults_after
  pub input : c.input_before ≤ c.input_after
  pub out : c.out.faults_before ≤ c.out.faults_after
  pub notes : c.notes.faults_before ≤ c.notes.faults_after

-- nothing was written or taken
abbrev pub DidNothing : Call → Type 0
DidNothing c = Got c.out [] × Got c.notes [] × (c.left ≡ c.request.input) × (c.input_after ≡ c.input_before)

-- the request of a call by its arguments, over a shelf and an input
abbrev pub request_of : List (List ℕ) → ShelfUse → List ℕ → Request
request_of words shelf input = record {
  words = words;
  files = shelf.files;
  faults_before = shelf.faults_before;
  faults_after = shelf.faults_after;
  asked_after = shelf.asked_after;
  gave_after = shelf.gave_after;
  input = input;
}

-- a call by words over a shelf, a source and two sinks: the source may have had this input at first, of which a rest is left
abbrev pub call_of : List (List ℕ) → ShelfUse → (input rest : List ℕ) → (faults_before faults_after : ℕ) → (out notes : SinkUse) → Call
call_of words shelf input rest before after out notes = record {
  request = request_of words shelf input;
  out = out;
  notes = notes;
  left = rest;
  input_before = before;
  input_after = after;
}

-- a call by words from one state of the outside to another, of which the source may have had this input at first, of which a rest is left
abbrev pub call_between : List (List ℕ) → Outside → Outside → (input rest : List ℕ) → Call
call_between words before after input rest =
    call_of words (shelf_between before.shelf after.shelf) input rest before.input.faults after.input.faults (sink_between before.out after.out)
    (sink_between before.notes after.notes)

-- contracts can see that the shelf has these files, and no fault of it came
abbrev pub HasTold : ShelfUse → FileMap → Type 0
HasTold shelf files = (shelf.files ≡ Some files) × (shelf.faults_before < last_count) × (shelf.faults_after ≡ shelf.faults_before)

-- the fact holds, unless the status says that a write failed or that memory ran out
abbrev pub UnlessCutShort : ℕ → Type 0 → Type 0
UnlessCutShort status fact = status ≢ WRITE_FAULT → status ≢ OUT_OF_MEMORY → fact
