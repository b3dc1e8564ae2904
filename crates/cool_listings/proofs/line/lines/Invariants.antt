-- In the loop of `lines`, the text so far, followed by the lines of the marks (occurrences of names) that are left, is the text of all marks.
use Rattle.std.proofs.Common.{◌≡◌, ◌++◌, drop, map}
use Rattle.std.specs.List.{concat}
use Rattle.cool_listings.specs.Lines.{mark_line}
use Rattle.cool_listings.proofs.line.lines.Given as goal

abbrev pub invariant-loop-mark : goal.invariant-loop-mark
invariant-loop-mark l = l.text.items ++ concat (map mark_line (drop l.mark-index l.marks)) ≡ concat (map mark_line l.marks)
