-- In the loop of `same_formals`, the first i formals of both lists have the same types.
use Rattle.std.proofs.Common.{◌≡◌, take}
use Rattle.cool_classes.specs.Declarations.{formal_types}
use Rattle.cool_session.proofs.same_classes.same_formals.Given as goal

abbrev pub invariant-loop-i : goal.invariant-loop-i
invariant-loop-i l = formal_types (take l.i l.a) ≡ formal_types (take l.i l.b)
