-- The postcondition of `session`: it reads commands from the input and writes their replies to the output, and ends with the exit status and the message for
-- the end of the session.
use Rattle.std.specs.{Prelude.{◌≡◌, ◌⊎◌, ℕ, List, [], Result, Ok, Err, None, true}, List.{concat}}
use Rattle.cool_session.specs.{declared.ending.Ending.{Ending}, declared.ending.Ending.TheVariants.{Over, BadCommand, EndsInFile, TooLarge}}
use Rattle.cool_session.specs.{declared.ending.Interruption.{Interruption}, declared.ending.Interruption.TheVariants.{Memory}, Conversations.{Conversed}}
use Rattle.cool_session.specs.Exchanges.{Exchange, Unread, Unwritten}
use Rattle.cool_driver.specs.{Notes.{ending_note, read_fault_note}, Calls.{Got, GotPart, Call, UnlessCutShort}, Does.{Doing}, Statuses.{DONE, READ_FAULT, WRITE_FAULT, OUT_OF_MEMORY, UNFIT}}

-- the status of an end: 0 at `quit` or at the end of the input before a line's first byte, and 12 at B3, B4 and B5
abbrev pub status_of_ending : Ending → ℕ
status_of_ending Over = DONE
status_of_ending (BadCommand number) = UNFIT
status_of_ending (EndsInFile number) = UNFIT
status_of_ending (TooLarge number) = UNFIT

-- The result that is due for a session over an input: the status, the output, the note, and the rest of the input.
pub data DueToSession (input : List ℕ) : ℕ → List ℕ → List ℕ → List ℕ → Type 0 where
  -- it is whole: the replies of its commands, in order
  to_end : (replies : List (List ℕ)) (end : Ending) (left : List ℕ) → Exchange input replies end left
      → DueToSession input (status_of_ending end) (concat replies) (ending_note end) left
  -- a read cut it short: the replies of all commands that were read to their end before it, where no part of the input that was taken had
  -- ended the session
  to_read : (replies : List (List ℕ)) (left : List ℕ) → Unread input replies left → DueToSession input READ_FAULT (concat replies) read_fault_note left

-- the result of the session of a call, or the reason that cut it short: a failed device, or lack of memory
abbrev pub SessionWent : Call → Result Ending Interruption → Type 0
SessionWent c how = Conversed c.request.input how c.left c.out.held_before c.out.held_after

-- Memory ran out in a session, and no device failed: that cut the session short, or it came to an end with a note, which was not made.
pub record SessionShort (c : Call) : Type 0 where
  pub went : SessionWent c (Err Memory) ⊎ ((end : Ending) × (status_of_ending end ≡ UNFIT) × SessionWent c (Ok end))
  pub notes : Got c.notes []
  pub out_calm : c.out.faults_after ≡ c.out.faults_before
  pub input_calm : c.input_after ≡ c.input_before

-- a call ended as this session did: with the status of its end, just its replies, just the note of its end, and what it leaves of the input
abbrev pub EndsAsSession : Call → ℕ → List (List ℕ) → Ending → List ℕ → Type 0
EndsAsSession c status replies end left =
    (status ≡ status_of_ending end) × Got c.out (concat replies) × Got c.notes (ending_note end) × (c.left ≡ left)

-- The writing of the result that is due to a session, by the status.
pub data SessionComes (c : Call) : ℕ → Type 0 where
  -- status 0 or 12: the session over the input is whole. The replies of its commands were put, in order, and nothing else; the note is that of
  -- its end, and what it leaves is left.
  ended : (replies : List (List ℕ)) (end : Ending) → Exchange c.request.input replies end c.left → Got c.out (concat replies)
      → Got c.notes (ending_note end) → SessionComes c (status_of_ending end)
  -- status 7: a read failed. The replies of all commands that were read to their end before it were put, and nothing else; no part of the input
  -- that was taken had ended the session.
  unread : (replies : List (List ℕ)) → Unread c.request.input replies c.left → Got c.out (concat replies) → Got c.notes read_fault_note
      → SessionComes c READ_FAULT
  -- status 8: a write of the output failed. The replies of the commands before the last one of which all input was taken were put, and a prefix
  -- of its own.
  unwritten : (replies lines : List (List ℕ)) → Unwritten c.request.input replies lines c.left → GotPart c.out (concat replies) (concat lines)
      → Got c.notes [] → SessionComes c WRITE_FAULT
  -- status 8: the write of the note failed, and all else is as what is due
  unnoted : (due : ℕ) (output note : List ℕ) → DueToSession c.request.input due output note c.left → Got c.out output → GotPart c.notes [] note
      → SessionComes c WRITE_FAULT
  -- status 9: memory ran out. The replies of the commands that were done were put, and perhaps a prefix of that of one more.
  short : SessionShort c → SessionComes c OUT_OF_MEMORY

-- The end of a call of `session`.
pub record SessionEnds (c : Call) (status : ℕ) : Type 0 where
  -- the shelf is not used
  pub calm : c.request.faults_after ≡ c.request.faults_before
  -- it goes as the session over its input, whatever the status
  pub session_ends : SessionComes c status
  -- and where the input is a session that comes to its end, the status, the output and the note of that end come, and what it leaves of the
  -- input is left, unless a read failed
  pub session_exactly : (replies : List (List ℕ)) (end : Ending) (left : List ℕ) → Exchange c.request.input replies end left
      → UnlessCutShort status ((status ≡ READ_FAULT) ⊎ EndsAsSession c status replies end left)

-- The specification of `session`.
abbrev pub conversing : Doing
conversing = record { asked = []; sources = None; takes = true; ends = SessionEnds }
