-- `Ends` says how a call of `cool` ends: its status agrees with the failures of its files, input and outputs, and the postcondition of the requested command
-- holds.
use Rattle.std.specs.Prelude.{◌≡◌, ℕ, Option, None}
use Rattle.cool_words.specs.Plans.{Asked}
use Rattle.cool_driver.specs.{CommandLine.{asked_for, doing_of}, Calls.{Call}, Does.{EndsUnless}}

-- the promise for a request
abbrev pub EndsBy : Option Asked → Call → ℕ → Type 0
EndsBy asked = (doing_of asked).ends

-- The end of a call with a status; status 2 comes only if the arguments request nothing.
abbrev pub Ends : Call → ℕ → Type 0
Ends c = let asked = asked_for c.request.words in EndsUnless (asked ≡ None) (EndsBy asked) c
