-- In the loop of `body_notices`, the warnings about the nodes before the present one are added, up to the limit.
use Rattle.std.proofs.Common.{◌≡◌, take, []}
use Rattle.std.specs.List.{flat_map}
use Rattle.cool_syntax.specs.NodeLists.{all_trees}
use Rattle.cool_notices.specs.Notices.{notices_at, up_to}
use Rattle.cool_notices.proofs.noticing.body_notices.Given as goal

abbrev pub invariant-loop-number : goal.invariant-loop-number
invariant-loop-number l = l.all.items ≡ up_to l.most [] (flat_map notices_at (take l.number (all_trees l.body)))
