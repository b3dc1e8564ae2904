-- In the loop of `value_lines`, the text so far, followed by the source lines of the places that are left, is the text of all places.
use Rattle.std.proofs.Common.{◌≡◌, ◌++◌, drop}
use Rattle.std.specs.List.{flat_map}
use Rattle.cool_faults.specs.Files.{bytes_of}
use Rattle.cool_explanations.specs.Texts.{value_line}
use Rattle.cool_explanations.proofs.values.value_lines.Given as goal

abbrev pub invariant-loop-place : goal.invariant-loop-place
invariant-loop-place l = l.text.items ++ flat_map (value_line (bytes_of l.files)) (drop l.place-index l.places) ≡ flat_map (value_line (bytes_of l.files)) l.places
