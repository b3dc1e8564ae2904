-- `is_below` returns true exactly if the second class is the first class or one of its ancestors: its loop follows the parents of the first class until it
-- meets the second.
use Rattle.std.proofs.Common.{◌≡◌, sym, ◌∙◌, refl}
use Rattle.cool_classes.specs.Entries.{classes, depth_at}
use Rattle.cool_classes.proofs.Climbs.{climbing_step, below_end}
use Rattle.cool_classes.proofs.Seen.{same_class, other_class}
use Rattle.cool_classes.proofs.climbing.is_below.Goals as goal

pub loop-b-preserved : goal.loop-b-preserved
loop-b-preserved c =
    let es = c.args.entries.now in
    climbing_step (classes es) (depth_at es) c.requires.grounded c.args.a c.loop-b.class c.in-Some.above c.args.b (other_class c.ne.result c.loop-b.class c.args.b c.ne.ensures c.loop-b-test.true) (sym c.parent.ensures ∙ c.in-Some.is) c.loop-b.invariant

pub returns : goal.returns
returns c =
    let es = c.args.entries.now in
    let same : c.loop-b.class ≡ c.args.b = same_class c.ne.result c.loop-b.class c.args.b c.ne.ensures c.loop-b-test.false in
    let there = c.loop-b.invariant.down (below_end (classes es) (depth_at es) c.requires.grounded c.loop-b.class c.args.b same c.loop-b.invariant.within) in
    (λ _. there, λ _. refl)
