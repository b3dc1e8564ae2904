-- `place_among` returns the position at which `with_branch` of `Spans.antt` inserts a branch of a `case` whose class has a given depth. Both pass each branch
-- whose class is no less deep and stop at the first one that is less deep.
use Rattle.std.proofs.Common.{◌+◌, ◌<◌, map, length, ap, ◌∙◌, arith}
use Rattle.std.specs.Prelude.{nat_lt}
use Rattle.cool_codegen.specs.declared.arm.Arm as declared_arm
use Rattle.cool_codegen.specs.Spans.{branch_of}
use Rattle.cool_codegen.proofs.ArmsInOrder.{at_place, passes, stops, up_to}
use Rattle.cool_codegen.proofs.arm.place_among.Goals as goal
use Rattle.std.proofs.lemmas.Bool.{lt-ltb, le-ltb}

pub returns-then-arms-index-clause-put : goal.returns-then-arms-index-clause-put
returns-then-arms-index-clause-put g c b same =
    let xs = c.args.arms.now in
    let k = c.loop-index.index in
    let x = c.index-arms-index.result in
    let within : k < length xs = let t = c.loop-index-test.true in let e = c.loop-index.auto.index-end in omega arith in
    stops (map branch_of xs) k (branch_of x) b (at_place xs k x within c.index-arms-index.is)
    (ap (nat_lt x.depth) same ∙ lt-ltb x.depth c.args.depth (let t = c.if-arms-index.true in let e = ap (λ (a : declared_arm.Arm g.row.S.Denot). a.depth) c.index-arms-index.is in omega arith)) (c.loop-index.invariant b same)

pub loop-index-preserved : goal.loop-index-preserved
loop-index-preserved g c b same =
    let xs = c.args.arms.now in
    let k = c.loop-index.index in
    let x = c.index-arms-index.result in
    let within : k < length xs = let t = c.loop-index-test.true in let e = c.loop-index.auto.index-end in omega arith in
    passes (map branch_of xs) k (k + 1) (branch_of x) b (omega arith) (at_place xs k x within c.index-arms-index.is) (up_to xs k x within c.index-arms-index.is)
    (ap (nat_lt x.depth) same ∙ le-ltb x.depth c.args.depth (let t = c.if-arms-index.false in let e = ap (λ (a : declared_arm.Arm g.row.S.Denot). a.depth) c.index-arms-index.is in omega arith)) (c.loop-index.invariant b same)
