-- In the loop of `joined_lines`, the text so far, followed by the lines that are left, is the text of all lines.
use Rattle.std.proofs.Common.{◌≡◌, ◌++◌, drop}
use Rattle.std.specs.List.{concat}
use Rattle.cool_faults.specs.Files.{bytes_of}
use Rattle.cool_explanations.proofs.changes.joined_lines.Given as goal

abbrev pub invariant-loop-line : goal.invariant-loop-line
invariant-loop-line l = l.text.items ++ concat (bytes_of (drop l.line-index l.lines)) ≡ concat (bytes_of l.lines)
