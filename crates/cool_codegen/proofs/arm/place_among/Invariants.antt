-- The loop of `place_among`, which searches the position for a new branch of a `case`, has so far passed only branches of classes that are no less deep, as
-- `with_branch` does.
use Rattle.std.proofs.Common.{◌≡◌, ◌++◌, map, take, drop}
use Rattle.cool_codegen.specs.Spans.{Branch, branch_of, with_branch}
use Rattle.cool_codegen.proofs.arm.place_among.Given as goal

abbrev pub invariant-loop-index : goal.invariant-loop-index
invariant-loop-index g l =
    (b : Branch g.row.S.Denot) → b.arm.depth ≡ l.depth → with_branch (map branch_of l.arms) b ≡ take l.index (map branch_of l.arms) ++ with_branch (drop l.index (map branch_of l.arms)) b
