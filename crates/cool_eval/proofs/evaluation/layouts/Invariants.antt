-- In the loop of `layouts`, the list of attributes at the number of each class so far is that of the class.
use Rattle.std.proofs.Common.{◌≡◌, length}
use Rattle.cool_eval.proofs.LayoutsOfTables.{AreOf}
use Rattle.cool_eval.proofs.evaluation.layouts.Given as goal

abbrev pub invariant-loop-class : goal.invariant-loop-class
invariant-loop-class l =
    record {
      long : length l.layouts.items ≡ l.class;
      are : AreOf l.table l.layouts.items;
    }
