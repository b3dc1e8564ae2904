-- `asked_for` parses the arguments of a call of `cool`, and `doing_of` gives the specification of the command that they request.
use Rattle.std.specs.Prelude.{◌≡◌, ℕ, false, List, Option, Some, None, IfSome}
pub use Rattle.cool_words.specs.Plans.{words_of}
use Rattle.cool_words.specs.Plans as words
use Rattle.cool_words.specs.Plans.{Asked}
use Rattle.cool_words.specs.Plans.Asked.{check, asm, build, run, eval, exec, debug, big, session}
use Rattle.cool_driver.specs.{Does.{Doing}, declared.commands.build.Form.TheVariants.{Text, Image}}
use Rattle.cool_driver.specs.commands.{Usage.{noting}, Check.{checking}, Build.{building}, Run.{running}, Eval.{evaluating}, Exec.{executing}, Debug.{debugging}}
use Rattle.cool_driver.specs.commands.{Big.{summing}, Session.{conversing}}

-- the request of the arguments
unfoldable pub asked_for : List (List ℕ) → Option Asked
asked_for given = words.plan_of given

-- the action for a request
abbrev pub doing_of : Option Asked → Doing
doing_of None = noting
doing_of (Some (check names)) = checking names
doing_of (Some (asm names)) = building Text names
doing_of (Some (build names)) = building Image names
doing_of (Some (run asked)) = running asked
doing_of (Some (eval names steps)) = evaluating names steps
doing_of (Some (exec name limits)) = executing name limits
doing_of (Some (debug script names limits)) = debugging script names limits
doing_of (Some (big n)) = summing n
doing_of (Some session) = conversing

-- the names of which the shelf is asked, in order
abbrev pub names_asked : Option Asked → List (List ℕ)
names_asked asked = (doing_of asked).asked

-- a property of the names of the source files, if the arguments request a command that reads some
abbrev pub IfSources : Option Asked → (List (List ℕ) → Type 0) → Type 0
IfSources asked = IfSome (doing_of asked).sources

-- the arguments request a command that does not read the input
abbrev pub TakesNoInput : List (List ℕ) → Type 0
TakesNoInput given = (doing_of (asked_for given)).takes ≡ false
