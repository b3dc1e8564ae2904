-- In the loop of `changes`, the texts of the changed lines so far, followed by those of the lines that are left, are those of all changed lines.
use Rattle.std.proofs.Common.{◌≡◌, ◌+◌, ◌++◌, drop, map}
use Rattle.cool_faults.specs.Files.{bytes_of}
use Rattle.cool_explanations.specs.Changes.{change_text, changes}
use Rattle.cool_explanations.proofs.changes.changes.Given as goal

abbrev pub invariant-loop-index : goal.invariant-loop-index
invariant-loop-index l =
    bytes_of l.all.items ++ map change_text (changes (l.first + l.index) (drop l.index (bytes_of l.old)) (drop l.index (bytes_of l.new)))
    ≡ map change_text (changes l.first (bytes_of l.old) (bytes_of l.new))
