-- In the loop of `parse_files`, the trees and errors of the files so far, followed by those of the files that are left, are those of all files.
use Rattle.std.proofs.Common.{drop}
use Rattle.cool_faults.specs.Phases.{IsParsed, IsSyntactic}
use Rattle.cool_faults.proofs.FindingsInARow.{GoesOn}
use Rattle.cool_faults.proofs.parsing.parse_files.Given as goal

abbrev pub invariant-loop-index : goal.invariant-loop-index
invariant-loop-index l = GoesOn IsParsed IsSyntactic l.fn.files l.index (drop l.index l.fn.files) l.found
