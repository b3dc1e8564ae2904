-- The use of files and outputs by a call: the state of a file system (shelf) and of an output stream (sink) before the call and after it.
use Rattle.std.specs.Prelude.{◌≡◌, ℕ, List, ◌++◌, Option}
use Rattle.cool_ports.specs.ShelfFiles.{FileMap, AreHeld}

-- The use of a shelf: its files if it tells them, its count of faults, the names that it was asked for, and the bytes of each file that it gave.
pub record ShelfUse : Type 0 where
  pub files : Option FileMap
  pub faults_before : ℕ
  pub faults_after : ℕ
  pub asked_before : List (List ℕ)
  pub asked_after : List (List ℕ)
  pub gave_before : List (List ℕ)
  pub gave_after : List (List ℕ)

abbrev pub shelf_use : {S : Type 0} → (S → Option FileMap) → (S → ℕ) → (S → List (List ℕ)) → (S → List (List ℕ)) → S → S → ShelfUse
shelf_use files faults asked gave before after = record {
  files = files before;
  faults_before = faults before;
  faults_after = faults after;
  asked_before = asked before;
  asked_after = asked after;
  gave_before = gave before;
  gave_after = gave after;
}

-- it was asked for nothing
pub record IsUnused (shelf : ShelfUse) : Type 0 where
  pub calm : shelf.faults_after ≡ shelf.faults_before
  pub asked : shelf.asked_after ≡ shelf.asked_before
  pub gave : shelf.gave_after ≡ shelf.gave_before

-- The files of these names were asked for, each once, in order, and were read: they have these bytes, as far as the shelf tells, and these it gave.
pub record AreRead (shelf : ShelfUse) (names contents : List (List ℕ)) : Type 0 where
  pub held : AreHeld shelf.files names contents
  pub asked : shelf.asked_after ≡ shelf.asked_before ++ names
  pub gave : shelf.gave_after ≡ shelf.gave_before ++ contents

-- The use of a sink: the bytes that it holds if it tells them, its count of faults, and the bytes that it was given to put.
pub record SinkUse : Type 0 where
  pub held_before : Option (List ℕ)
  pub held_after : Option (List ℕ)
  pub faults_before : ℕ
  pub faults_after : ℕ
  pub puts_before : List (List ℕ)
  pub puts_after : List (List ℕ)

abbrev pub sink_use : {S : Type 0} → (S → Option (List ℕ)) → (S → ℕ) → (S → List (List ℕ)) → S → S → SinkUse
sink_use held faults puts before after = record {
  held_before = held before;
  held_after = held after;
  faults_before = faults before;
  faults_after = faults after;
  puts_before = puts before;
  puts_after = puts after;
}

-- it got nothing
pub record GotNothing (sink : SinkUse) : Type 0 where
  pub held : sink.held_after ≡ sink.held_before
  pub puts : sink.puts_after ≡ sink.puts_before
