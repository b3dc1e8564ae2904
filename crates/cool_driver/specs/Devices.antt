-- `Devices` relates the status of a call, for every command, to the failures of its files, input and outputs. The status reports a failed read or write only
-- if one failed, and no failure is ignored.
use Rattle.std.specs.Prelude.{◌≡◌, ℕ, ◌<◌, ◌≤◌, ◌⊎◌}
use Rattle.cool_ports.specs.Counts.{Rose}
use Rattle.cool_driver.specs.{Calls.{Call, NoLess}, Statuses.{READ_FAULT, WRITE_FAULT, OUT_OF_MEMORY, FILE_FAULT, UNFIT}}

pub record Devices (c : Call) (status : ℕ) : Type 0 where
  -- no other status comes
  pub statuses : status ≤ UNFIT
  -- a failed read and a failed write are answered only where the input, or the output or the notes, failed
  pub read_fault : status ≡ READ_FAULT → Rose c.input_before c.input_after
  pub write_fault : status ≡ WRITE_FAULT → Rose c.out.faults_before c.out.faults_after ⊎ Rose c.notes.faults_before c.notes.faults_after
  -- no fault is passed over, and none is taken back
  pub no_less : NoLess c
  pub out_fault : c.out.faults_before < c.out.faults_after → status ≡ WRITE_FAULT
  pub notes_fault : c.notes.faults_before < c.notes.faults_after → status ≡ WRITE_FAULT
  pub input_fault : c.input_before < c.input_after → (status ≡ READ_FAULT) ⊎ (status ≡ WRITE_FAULT)
  pub shelf_fault : c.request.faults_before < c.request.faults_after
      → (status ≡ WRITE_FAULT) ⊎ (status ≡ OUT_OF_MEMORY) ⊎ (status ≡ FILE_FAULT)
