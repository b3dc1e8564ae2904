-- The exit status of the command `eval`, and its message on standard error, for each way in which the evaluation of the source program can end. `GoesOn` means
-- that the evaluation reached its limit of steps.
use Rattle.std.specs.Prelude.{ℕ, List, [], Option, Some, None}
use Rattle.cool_meaning.specs.SourceRun.{End, Done, Failed, GoesOn, IsStuck}
use Rattle.cool_driver.specs.{Notes.{step_limit_note}, Statuses.{DONE, FAILED, STEP_LIMIT}}

-- the status for an end of a run, or for a run that goes on after its last step; a stuck run has none
abbrev pub status_of_end : End → Option ℕ
status_of_end Done = Some DONE
status_of_end (Failed error) = Some FAILED
status_of_end GoesOn = Some STEP_LIMIT
status_of_end IsStuck = None

abbrev pub note_of_end : End → List ℕ
note_of_end Done = []
note_of_end (Failed error) = []
note_of_end GoesOn = step_limit_note
note_of_end IsStuck = []
