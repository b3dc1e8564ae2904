-- In the loop of `origin_lines`, the text so far, followed by the lines of the places that are left, is the text of all places.
use Rattle.std.proofs.Common.{◌≡◌, ◌++◌, drop}
use Rattle.std.specs.List.{flat_map}
use Rattle.cool_explanations.specs.Lines.{origin_line}
use Rattle.cool_explanations.proofs.lines.origin_lines.Given as goal

abbrev pub invariant-loop-origin : goal.invariant-loop-origin
invariant-loop-origin l = l.text.items ++ flat_map origin_line (drop l.origin-index l.origins) ≡ flat_map origin_line l.origins
