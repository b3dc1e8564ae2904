-- `depths` returns the class definitions on cycles of inheritance and, if there are none, the depth (number of ancestors) of each definition. Its loop walks
-- from each definition to its ancestors.
use Rattle.std.proofs.Common.{◌≤◌, length, refl, arith, rules}
use Rattle.cool_classes.proofs.CyclesCaught.{all_caught}
use Rattle.cool_classes.proofs.WalksFind.{all_known, walked_none}
use Rattle.cool_classes.proofs.depths.depths.Goals as goal

pub returns-clause-known : goal.returns-clause-known
returns-clause-known c none =
    let done : length c.args.parents.now ≤ c.loop-start.start = let t = c.loop-start-test.false in omega arith in
    all_known c.args.parents.now c.loop-start.found.known.items c.loop-start.found.cyclic.items c.loop-start.passed.items c.loop-start.start done c.loop-start.invariant none

pub returns-clause-cycles : goal.returns-clause-cycles
returns-clause-cycles c =
    let done : length c.args.parents.now ≤ c.loop-start.start = let t = c.loop-start-test.false in omega arith in
    all_caught c.args.parents.now c.loop-start.start c.loop-start.found.known.items c.loop-start.found.cyclic.items c.loop-start.passed.items done c.loop-start.invariant.cycles c.loop-start.invariant.right

pub loop-start-init : goal.loop-start-init
loop-start-init c =
    walked_none c.args.parents.now c.in_ok-from_elem.field-0.items c.in_ok-passed.passed.items c.new.result.items (length c.args.parents.now) refl
    (c.in_ok-from_elem.ensures.items_if_clones_equal (λ y same. search rules)) (c.in_ok-passed.ensures.items_if_clones_equal (λ y same. search rules)) c.new.ensures.items
