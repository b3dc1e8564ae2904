-- `SourceState` and `SinkState` are the states, as contracts see them, of the source (input stream) and the sink (output stream) that hold their bytes in
-- memory. A `Schedule` lists the calls that are to fail in a test.
use Rattle.std.specs.Prelude.{ℕ, ◌+◌, min, List, ◌++◌, [], ◌∷◌, Contains}
use Rattle.cool_ports.specs.Answers.{Past}
use Rattle.cool_ports.specs.Counts.{last_count}

-- The numbers of the calls that are to fail, from 1, with the numbers of calls made and of calls that failed.
pub record Schedule : Type 0 where
  pub failing : List ℕ
  pub calls : ℕ
  pub faults : ℕ

-- the schedule at first: no call is to fail, and none was made
abbrev pub no_faults : Schedule
no_faults = record { failing = []; calls = 0; faults = 0 }

-- the number of the next call, which stays at the greatest value of its type
abbrev pub next_call : Schedule → ℕ
next_call s = min (s.calls + 1) last_count

abbrev pub IsToFail : Schedule → Type 0
IsToFail s = Contains s.failing (next_call s)

-- the schedule after a call
abbrev pub called : Schedule → Schedule
called s = record { failing = s.failing; calls = next_call s; faults = s.faults }

-- the schedule after one more fault
abbrev pub faulted : Schedule → Schedule
faulted s = record { failing = s.failing; calls = s.calls; faults = min (s.faults + 1) last_count }

-- the schedule with one more call that is to fail
abbrev pub failing_at : Schedule → ℕ → Schedule
failing_at s number = record { failing = s.failing ++ number ∷ []; calls = s.calls; faults = s.faults }

-- A sink in memory: the bytes that it holds, the most that it can hold, and the bytes that each call gave it to write.
pub record SinkState : Type 0 where
  pub held : List ℕ
  pub room : ℕ
  pub puts : List (List ℕ)
  pub schedule : Schedule

-- A source in memory: the bytes that are left, and its answers so far.
pub record SourceState : Type 0 where
  pub left : List ℕ
  pub past : Past
  pub schedule : Schedule

-- A source in memory that never fails: the bytes that are left, and its answers so far.
pub record SureState : Type 0 where
  pub left : List ℕ
  pub past : Past
