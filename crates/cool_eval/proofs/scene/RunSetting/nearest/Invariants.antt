-- In the loop of `RunSetting::nearest`, the `case` branch that is found from the class `above` on is the one that is found from the first class on.
use Rattle.std.proofs.Common.{◌≡◌, suc, ◌-◌, length, Some}
use Rattle.cool_syntax.specs.Tree.{of_twigs}
use Rattle.cool_classes.specs.ClimbedChains.{chain}
use Rattle.cool_eval.specs.StackMachine.{nearest_branch}
use Rattle.cool_eval.proofs.NearestBranches.{nearest_up}
use Rattle.cool_eval.proofs.scene.RunSetting.nearest.Given as goal

abbrev pub invariant-loop : goal.invariant-loop
invariant-loop l =
    let p = l.self.table.now in
    nearest_branch p (of_twigs l.branches) (chain p l.fn.class) ≡ nearest_up p (of_twigs l.branches) (suc (length p - l.counter)) (Some l.above)
