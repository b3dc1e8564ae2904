-- In the loop of `fold`, the class table has the folded expressions put in so far, and would be the folded table if the others were put in too.
use Rattle.std.proofs.Common.{length}
use Rattle.cool_fold.specs.Folding.{fold_table}
use Rattle.cool_fold.proofs.ReplacedExpressions.{Becomes}
use Rattle.cool_fold.proofs.program.fold.Given as goal

abbrev pub invariant-loop-expression : goal.invariant-loop-expression
invariant-loop-expression l = Becomes l.table l.all.items (fold_table l.fn.p)

abbrev pub decreases-loop-expression : goal.decreases-loop-expression
decreases-loop-expression l = length l.all.items
