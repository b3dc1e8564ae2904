-- In the loop of `write_formals`, the tokens so far, followed by those of the formals that are left, are the tokens of all formals.
use Rattle.std.proofs.Common.{◌≡◌, ◌++◌, drop}
use Rattle.cool_syntax.specs.WrittenTrees.{written_formals, written_more_formals}
use Rattle.cool_expr.proofs.written_file.write_formals.Given as goal

abbrev pub invariant-loop-formal : goal.invariant-loop-formal
invariant-loop-formal l = l.out ++ written_more_formals (drop l.formal-index l.rest) ≡ l.fn.out ++ written_formals l.fn.formals
