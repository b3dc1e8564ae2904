-- In the loop of `same_names`, the first i formals of both lists have the same names.
use Rattle.std.proofs.Common.{◌≡◌, take}
use Rattle.cool_classes.specs.Declarations.{formal_names}
use Rattle.cool_session.proofs.same_declarations.same_names.Given as goal

abbrev pub invariant-loop-i : goal.invariant-loop-i
invariant-loop-i l = formal_names (take l.i l.a) ≡ formal_names (take l.i l.b)
