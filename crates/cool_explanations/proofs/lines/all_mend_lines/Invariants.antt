-- In the loop of `all_mend_lines`, the text so far, followed by the lines of the fixes that are left, is the text of all fixes.
use Rattle.std.proofs.Common.{◌≡◌, ◌++◌, drop}
use Rattle.std.specs.List.{flat_map}
use Rattle.cool_explanations.specs.Lines.{mend_lines}
use Rattle.cool_explanations.proofs.lines.all_mend_lines.Given as goal

abbrev pub invariant-loop-mend : goal.invariant-loop-mend
invariant-loop-mend l = l.text.items ++ flat_map mend_lines (drop l.mend-index l.mends) ≡ flat_map mend_lines l.mends
