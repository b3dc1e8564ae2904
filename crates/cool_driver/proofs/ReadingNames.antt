-- If the files of a command are read, or one of them is refused, the file names requested and the contents returned satisfy the specification of the command's
-- source files.
use Rattle.std.proofs.Common.{◌≡◌, ℕ, ◌≤◌, List, [], length, ap, arith}
use Rattle.std.proofs.lemmas.Bool.{le-ltb}
use Rattle.std.specs.Prelude.{Bool, if◌then◌else◌}
use Rattle.cool_ports.specs.declared.shelf.ShelfFault.{ShelfFault}
use Rattle.cool_sources.specs.Devices as devices
use Rattle.cool_sources.specs.Reading.{IsRefusedAt}
use Rattle.cool_syntax.specs.declared.TheConstants.{MOST_FILES}
use Rattle.cool_driver.specs.{Calls.{ShelfUse}, Sources.{IsStopAt, unless_too_many}}

-- names that are not too many are asked for
pub few_asked : (files asked : List (List ℕ)) → length files ≤ MOST_FILES → unless_too_many files asked ≡ asked
few_asked files asked few = ap (λ (many : Bool). if many then [] else asked) (le-ltb MOST_FILES (length files) few)

-- the use of a shelf, by the names and files that it was asked for and gave at the end
abbrev pub at_end : devices.ShelfUse → ShelfUse
at_end shelf = record {
  files = shelf.files;
  faults_before = shelf.faults_before;
  faults_after = shelf.faults_after;
  asked_after = shelf.asked_after;
  gave_after = shelf.gave_after;
}

-- the case that it refused a file
pub refused_at : (shelf : devices.ShelfUse) (names : List (List ℕ)) (most : ℕ) (name : List ℕ) (fault : ShelfFault) → length names ≤ MOST_FILES → IsRefusedAt shelf names most name fault
    → IsStopAt (at_end shelf) names most name fault
refused_at shelf names most name fault few stop = (
  stop.contents,
  record {
    front = stop.front;
    rest = stop.rest;
    stands = stop.stands;
    few = few;
    held = stop.held;
    within = stop.within;
    asked = (shelf.asked_before, stop.asked);
    gave = (shelf.gave_before, stop.gave);
  },
  stop.cause,
)
