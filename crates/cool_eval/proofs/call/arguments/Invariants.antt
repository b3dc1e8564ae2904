-- In the loop of `arguments`, the variables so far are the formal parameters from the present position on.
use Rattle.std.proofs.Common.{◌≡◌}
use Rattle.cool_eval.specs.Configurations.{locals_of}
use Rattle.cool_eval.proofs.ArgumentsLocated.{located_from}
use Rattle.cool_eval.proofs.call.arguments.Given as goal

abbrev pub invariant-loop-index : goal.invariant-loop-index
invariant-loop-index l = locals_of l.locals.items ≡ located_from l.formals l.first l.count l.index
