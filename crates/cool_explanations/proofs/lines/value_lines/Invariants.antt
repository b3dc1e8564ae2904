-- In the loop of `value_lines`, the text so far, followed by the lines of the source places that are left, is the text of all places.
use Rattle.std.proofs.Common.{◌≡◌, ◌++◌, drop}
use Rattle.std.specs.List.{flat_map}
use Rattle.cool_explanations.specs.Lines.{value_line}
use Rattle.cool_explanations.proofs.lines.value_lines.Given as goal

abbrev pub invariant-loop-at : goal.invariant-loop-at
invariant-loop-at l = l.text.items ++ flat_map value_line (drop l.at-index l.places) ≡ flat_map value_line l.places
