-- In the loop of `explanations_lines`, the text so far, followed by the lines of the explanations that are left, is the text of all explanations.
use Rattle.std.proofs.Common.{◌≡◌, ◌++◌, drop}
use Rattle.std.specs.List.{flat_map}
use Rattle.cool_faults.specs.Files.{bytes_of}
use Rattle.cool_explanations.specs.Lines.{explanation_lines}
use Rattle.cool_explanations.proofs.lines.explanations_lines.Given as goal

abbrev pub invariant-loop-told : goal.invariant-loop-told
invariant-loop-told l =
    l.text.items ++ flat_map (explanation_lines (bytes_of l.files)) (drop l.told-index l.all) ≡ flat_map (explanation_lines (bytes_of l.files)) l.all
