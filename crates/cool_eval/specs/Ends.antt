-- `Evaluates` says how the evaluation of a program ends on a source and a sink that may fail, by the runs that the semantics gives. A run that has fewer steps
-- stops just before the call, the new value or the iteration of a loop that would be its next step. Methods that read or write are calls.
use Rattle.std.specs.Prelude.{◌≡◌, ◌⊎◌, ℕ, ◌+◌, ◌<◌, ◌≤◌, List, [], ◌++◌, Option}
use Rattle.cool_ports.specs.SinkBytes.{appended, GotPrefix}
use Rattle.cool_classes.specs.Chains.{Class}
use Rattle.cool_meaning.specs.Laws.{IsOver}
use Rattle.cool_meaning.specs.Meters as meters
use Rattle.cool_meaning.specs.SourceRun as runs
use Rattle.cool_meaning.specs.SourceRun.{Run, End, run, done_text, error_text}
use Rattle.cool_eval.specs.declared.evaluation.EvalEnd.{EvalEnd}
use Rattle.cool_eval.specs.declared.evaluation.EvalEnd.TheVariants.{Done, Error, StepLimit, ReadFault, WriteFault, Memory}

-- the whole of a run: a sink that held `held` got its output, and the input that it leaves is left
abbrev pub IsWhole : Run → Option (List ℕ) → List ℕ → Option (List ℕ) → Type 0
IsWhole r held rest held' = (held' ≡ appended held r.output) × (rest ≡ r.left)

-- A part of a run wrote these bytes, a prefix of its output, and left this of the input, at least what the run leaves.
pub record IsPartOf (r : Run) (output rest : List ℕ) : Type 0 where
  pub more : List ℕ
  pub output_is : r.output ≡ output ++ more
  pub kept : List ℕ
  pub left_is : rest ≡ kept ++ r.left

-- a part of a run: a sink that held `held` got what the part wrote, and the input that it left is left
abbrev pub IsPart : Run → Option (List ℕ) → List ℕ → Option (List ℕ) → Type 0
IsPart r held rest held' = (output : List ℕ) × (held' ≡ appended held output) × IsPartOf r output rest

-- A part of the input that the shorter run leaves was taken, and no more than the longer run takes.
pub record TookPart (shorter longer : Run) (rest : List ℕ) : Type 0 where
  pub taken : List ℕ
  pub left : shorter.left ≡ taken ++ rest
  pub kept : List ℕ
  pub later : rest ≡ kept ++ longer.left

-- A read failed. The run with `spent` steps stops before the call that reads: all that it writes was put. The call took a part of the input that this run
-- leaves, and no more than the run with one step more takes.
pub record StoppedReading (run : ℕ → Run) (steps : ℕ) (held : Option (List ℕ)) (rest : List ℕ)
    (held' : Option (List ℕ)) : Type 0 where
  pub spent : ℕ
  pub fewer : spent < steps
  pub goes_on : (run spent).end ≡ runs.GoesOn
  pub put : held' ≡ appended held (run spent).output
  pub input : TookPart (run spent) (run (spent + 1)) rest

-- A run with `spent` steps, fewer than there are, stops before its next step, and with one step more it writes these bytes after that.
pub record WritesNext (run : ℕ → Run) (steps spent : ℕ) (printed : List ℕ) : Type 0 where
  pub fewer : spent < steps
  pub goes_on : (run spent).end ≡ runs.GoesOn
  pub later : (run (spent + 1)).output ≡ (run spent).output ++ printed

-- A write of a call failed. The run with `spent` steps stops before the call that writes: all that it writes was put, and the input that it leaves is left.
-- A prefix of the bytes that the run with one step more writes after that was put, too.
pub record StoppedWriting (run : ℕ → Run) (steps : ℕ) (held : Option (List ℕ)) (rest : List ℕ)
    (held' : Option (List ℕ)) : Type 0 where
  pub spent : ℕ
  pub printed : List ℕ
  pub writes : WritesNext run steps spent printed
  pub left : rest ≡ (run spent).left
  pub got : GotPrefix (appended held (run spent).output) printed held'

-- the line that a run writes last, for its end
abbrev pub last_line : List Class → List (List ℕ) → End → List ℕ
last_line p names runs.Done = done_text
last_line p names (runs.Failed e) = error_text p names e
last_line p names runs.GoesOn = []
last_line p names runs.IsStuck = []

-- A run ends, and before the line that it writes last it writes these bytes.
pub record EndsAfter (p : List Class) (names : List (List ℕ)) (r : Run) (before : List ℕ) : Type 0 where
  pub over : IsOver r.end
  pub output_is : r.output ≡ before ++ last_line p names r.end

-- A write of the last line failed. The run ends, and the input that it leaves is left; all that it writes before the last line was put, and
-- a prefix of that line.
pub record StoppedAtLastLine (p : List Class) (names : List (List ℕ)) (r : Run) (held : Option (List ℕ)) (rest : List ℕ)
    (held' : Option (List ℕ)) : Type 0 where
  pub before : List ℕ
  pub ends : EndsAfter p names r before
  pub left : rest ≡ r.left
  pub got : GotPrefix (appended held before) (last_line p names r.end) held'

-- Memory ran out after `spent` steps, or in the next one. All that the run with so many steps writes was put, except for the line that it writes last if it
-- ends. A part of the input that it leaves was taken, and no more than the whole run takes.
pub record StoppedShort (p : List Class) (names : List (List ℕ)) (run : ℕ → Run) (steps : ℕ) (held : Option (List ℕ))
    (rest : List ℕ) (held' : Option (List ℕ)) : Type 0 where
  pub spent : ℕ
  pub within : spent ≤ steps
  pub before : List ℕ
  pub output : (run spent).output ≡ before ++ last_line p names (run spent).end
  pub put : held' ≡ appended held before
  pub input : TookPart (run spent) (run steps) rest

-- The end of an evaluation of a program, whose files have these names, on an input, with so many steps: that of its run, or within it, if a device failed
-- or memory ran out.
abbrev pub Evaluates : List Class → List (List ℕ) → List ℕ → ℕ → Option (List ℕ) → EvalEnd → List ℕ → Option (List ℕ)
    → Type 0
Evaluates p names input steps held Done rest held' =
    ((run p names input steps).end ≡ runs.Done) × IsWhole (run p names input steps) held rest held'
Evaluates p names input steps held Error rest held' =
    ((e : meters.Error) × ((run p names input steps).end ≡ runs.Failed e)) × IsWhole (run p names input steps) held rest held'
Evaluates p names input steps held StepLimit rest held' =
    ((run p names input steps).end ≡ runs.GoesOn) × IsWhole (run p names input steps) held rest held'
Evaluates p names input steps held ReadFault rest held' = StoppedReading (run p names input) steps held rest held'
Evaluates p names input steps held WriteFault rest held' =
    StoppedWriting (run p names input) steps held rest held' ⊎ StoppedAtLastLine p names (run p names input steps) held rest held'
Evaluates p names input steps held Memory rest held' = StoppedShort p names (run p names input) steps held rest held'
