-- `are_others` returns true only if all errors after an edit are errors from before it, moved by the edit, other than the one of the given number.
use Rattle.std.proofs.Common.{◌+◌, [], arith, drop, length-drop}
use Rattle.cool_mend.specs.Mends.{none}
use Rattle.cool_mend.proofs.FaultsPassed.{all_passed}
use Rattle.cool_mend.proofs.mended.are_others.Goals as goal

pub returns : goal.returns
returns c = λ all. all_passed _ _ (drop (c.args.number + 1) c.args.before.now) _ _ _ (omega (arith, length-drop (c.args.number + 1) c.args.before.now)) all (c.passed.ensures.part _ (c.passed-front.ensures.part [] none))
