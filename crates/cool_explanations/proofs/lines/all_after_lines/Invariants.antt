-- In the loop of `all_after_lines`, the text so far, followed by the lines of the steps that are left, is the text of all steps.
use Rattle.std.proofs.Common.{◌≡◌, ◌++◌, drop}
use Rattle.std.specs.List.{flat_map}
use Rattle.cool_explanations.specs.Lines.{after_lines}
use Rattle.cool_explanations.proofs.lines.all_after_lines.Given as goal

abbrev pub invariant-loop-step : goal.invariant-loop-step
invariant-loop-step l = l.text.items ++ flat_map after_lines (drop l.step-index l.all) ≡ flat_map after_lines l.all
