-- In the loop of `add_idle`, the warnings about expressions of a block that have no effect and whose values are not used are added for those before the
-- present one, up to the limit.
use Rattle.std.proofs.Common.{◌≡◌, take}
use Rattle.std.specs.List.{flat_map}
use Rattle.cool_syntax.specs.NodeLists.{all_trees}
use Rattle.cool_notices.specs.Notices.{up_to}
use Rattle.cool_notices.proofs.NoticesInOrder.{idle_at}
use Rattle.cool_notices.proofs.noticing.add_idle.Given as goal

abbrev pub invariant-loop-index : goal.invariant-loop-index
invariant-loop-index l = l.all.items ≡ up_to l.most l.fn.all.items (flat_map (idle_at (all_trees l.body)) (take l.index l.items))
