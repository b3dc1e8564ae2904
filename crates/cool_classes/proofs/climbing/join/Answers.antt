-- `join` returns the least common ancestor of two classes. Its loop replaces a class that is at least as deep as the other by its parent, until the two are the
-- same.
use Rattle.std.proofs.Common.{◌≤◌, arith}
use Rattle.cool_classes.specs.Entries.{classes, depth_at}
use Rattle.cool_classes.proofs.Climbs.{meeting_start, meeting_left, meeting_right, meeting_end, lower_there}
use Rattle.cool_classes.proofs.Seen.{within_classes, same_class, other_class}
use Rattle.cool_classes.proofs.climbing.join.Goals as goal

pub loop-right-init : goal.loop-right-init
loop-right-init c =
    let es = c.args.entries.now in
    meeting_start (classes es) (depth_at es) c.requires.grounded c.args.a c.args.b (within_classes es c.args.a c.requires.a_within) (within_classes es c.args.b c.requires.b_within)

pub loop-right-preserved-then-depth : goal.loop-right-preserved-then-depth
loop-right-preserved-then-depth c =
    let es = c.args.entries.now in
    let h = c.if-depth.true in
    let a = c.depth.ensures in
    let b = c.depth-in-loop-right.ensures in
    let less : depth_at es c.loop-right.left ≤ depth_at es c.loop-right.right = omega arith in
    meeting_right (classes es) (depth_at es) c.requires.grounded c.args.a c.args.b c.loop-right.left c.loop-right.right c.parent_of_lower-right.result (other_class c.ne.result c.loop-right.left c.loop-right.right c.ne.ensures c.loop-right-test.true) less c.parent_of_lower-right.ensures
    c.loop-right.invariant

pub parent_of_lower-left-requires-clause-lower : goal.parent_of_lower-left-requires-clause-lower
parent_of_lower-left-requires-clause-lower c =
    let es = c.args.entries.now in
    let a = c.depth.ensures in
    let b = c.depth-in-loop-right.ensures in
    let h = c.if-depth.false in
    let less : depth_at es c.loop-right.right ≤ depth_at es c.loop-right.left = omega arith in
    lower_there (classes es) (depth_at es) c.requires.grounded c.loop-right.left c.loop-right.right (other_class c.ne.result c.loop-right.left c.loop-right.right c.ne.ensures c.loop-right-test.true) c.loop-right.invariant.left_within c.loop-right.invariant.right_within less

pub loop-right-preserved : goal.loop-right-preserved
loop-right-preserved c =
    let es = c.args.entries.now in
    let a = c.depth.ensures in
    let b = c.depth-in-loop-right.ensures in
    let h = c.if-depth.false in
    let less : depth_at es c.loop-right.right ≤ depth_at es c.loop-right.left = omega arith in
    meeting_left (classes es) (depth_at es) c.requires.grounded c.args.a c.args.b c.loop-right.left c.loop-right.right c.parent_of_lower-left.result (other_class c.ne.result c.loop-right.left c.loop-right.right c.ne.ensures c.loop-right-test.true) less c.parent_of_lower-left.ensures
    c.loop-right.invariant

pub returns-clause-join : goal.returns-clause-join
returns-clause-join c =
    let es = c.args.entries.now in
    meeting_end (classes es) c.args.a c.args.b c.loop-right.left c.loop-right.right (same_class c.ne.result c.loop-right.left c.loop-right.right c.ne.ensures c.loop-right-test.false) c.loop-right.invariant
