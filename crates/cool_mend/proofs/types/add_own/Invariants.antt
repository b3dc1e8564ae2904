-- In the loops of `add_own`, the method names so far, with those of the features and basic methods that are left, are all names of the class's own methods.
use Rattle.std.proofs.Common.{◌≡◌, ◌++◌, drop}
use Rattle.cool_classes.specs.BasicMethods.{named_methods}
use Rattle.cool_classes.specs.Features.{basic_methods}
use Rattle.cool_classes.specs.LawfulTables.{method_names}
use Rattle.cool_classes.specs.MethodNames.{method_names as basic_names}
use Rattle.cool_faults.specs.Files.{bytes_of}
use Rattle.cool_mend.specs.Told.{own_names, with_methods}
use Rattle.cool_mend.proofs.types.add_own.Given as goal

abbrev pub invariant-loop-feature : goal.invariant-loop-feature
invariant-loop-feature l =
    with_methods l.classes l.class (bytes_of l.all.items) (method_names (drop l.feature-index l.feature-items) ++ basic_names (basic_methods l.fn.here.0))
    ≡ with_methods l.classes l.class (bytes_of l.fn.all.items) (own_names l.classes l.fn.here)

abbrev pub invariant-loop-method : goal.invariant-loop-method
invariant-loop-method l =
    with_methods l.classes l.class (bytes_of l.all.items) (basic_names (named_methods (drop l.method-index l.method-items)))
    ≡ with_methods l.classes l.class (bytes_of l.fn.all.items) (own_names l.classes l.fn.here)
