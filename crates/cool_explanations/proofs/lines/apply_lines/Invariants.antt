-- In the loop of `apply_lines`, the text so far, followed by the lines of the edits that are left, is the text of all edits.
use Rattle.std.proofs.Common.{◌≡◌, ◌++◌, drop}
use Rattle.std.specs.List.{flat_map}
use Rattle.cool_explanations.specs.Lines.{apply_line}
use Rattle.cool_explanations.proofs.lines.apply_lines.Given as goal

abbrev pub invariant-loop-edit : goal.invariant-loop-edit
invariant-loop-edit l = l.text.items ++ flat_map apply_line (drop l.edit-index l.edits) ≡ flat_map apply_line l.edits
