-- In the loop of `formals_text`, the text so far, followed by the lines of the formal parameters that are left, is the text of all formal parameters.
use Rattle.std.proofs.Common.{◌≡◌, ◌++◌, drop, flat_map}
use Rattle.cool_listings.specs.TreeLines.{formal_line}
use Rattle.cool_listings.proofs.trees.formals_text.Given as goal

abbrev pub invariant-loop-formal : goal.invariant-loop-formal
invariant-loop-formal l = l.text.items ++ flat_map formal_line (drop l.formal-index l.formals) ≡ flat_map formal_line l.formals
