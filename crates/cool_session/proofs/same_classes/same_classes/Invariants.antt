-- In the loop of `same_classes`, the classes before the present one are the same in both tables.
use Rattle.std.proofs.Common.{◌≡◌, take}
use Rattle.cool_session.specs.Bases.{views}
use Rattle.cool_session.proofs.same_classes.same_classes.Given as goal

abbrev pub invariant-loop-number : goal.invariant-loop-number
invariant-loop-number l = views (take l.number l.a) ≡ views (take l.number l.b)
