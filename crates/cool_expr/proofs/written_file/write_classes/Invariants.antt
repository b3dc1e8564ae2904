-- In the loop of `write_classes`, the tokens so far, followed by those of the classes that are left, are the tokens of all classes.
use Rattle.std.proofs.Common.{◌≡◌, ◌++◌, drop}
use Rattle.cool_syntax.specs.WrittenTrees.{written_classes}
use Rattle.cool_expr.proofs.written_file.write_classes.Given as goal

abbrev pub invariant-loop-class : goal.invariant-loop-class
invariant-loop-class l = l.out ++ written_classes (drop l.class-index l.classes) ≡ l.fn.out ++ written_classes l.classes
