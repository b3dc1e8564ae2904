-- In the loop of `branches_text`, the text so far, followed by that of the branches that are left, is the text of all branches.
use Rattle.std.proofs.Common.{◌≡◌, ◌++◌, drop, flat_map}
use Rattle.cool_listings.specs.NodeTexts.{branch_text}
use Rattle.cool_listings.proofs.node_text.branches_text.Given as goal

abbrev pub invariant-loop-branch : goal.invariant-loop-branch
invariant-loop-branch l = l.text.items ++ flat_map branch_text (drop l.branch-index l.branches) ≡ flat_map branch_text l.branches
