-- `check_number` adds no error if there are at most `MOST_CLASSES` class definitions, which is the limit: the specification `number_faults` of
-- `ClassFaults.antt` is empty then.
use Rattle.std.proofs.Common.{◌++◌, List, ap, sym, ◌∙◌, append-nil}
use Rattle.cool_syntax.specs.declared.file_tree.ClassDef.{ClassDef}
use Rattle.cool_classes.specs.ClassFaults.{first_fault}
use Rattle.cool_classes.proofs.FaultsLeft.{drop_past}
use Rattle.cool_classes.proofs.class_phase.check_number.Goals as goal

pub returns-else-definitions-gt-MOST_CLASSES-clause-exact : goal.returns-else-definitions-gt-MOST_CLASSES-clause-exact
returns-else-definitions-gt-MOST_CLASSES-clause-exact c =
    let before = c.args.faults.now.items in
    sym (ap (λ (ds : List ClassDef). before ++ first_fault ds) (drop_past c.args.definitions.now 1000 c.if-definitions-gt-MOST_CLASSES.false) ∙ append-nil before)
