-- In the loop of `add_basic`, the class has been added to the classes that define a method for each of its methods before the current one.
use Rattle.std.proofs.Common.{◌≡◌, ℕ, List, Bool as Truth, drop}
use Rattle.std.specs.Prelude.{◌&&◌, ◌||◌}
use Rattle.std.specs.List.{list_any}
use Rattle.cool_classes.specs.declared.class_id.ClassId.{ClassId}
use Rattle.cool_classes.specs.BasicMethods.{named_methods}
use Rattle.cool_classes.specs.Features.{basic_methods}
use Rattle.cool_fold.specs.Definers.{definers_in, is_basic_named}
use Rattle.cool_fold.proofs.definers.add_basic.Given as goal

abbrev pub invariant-loop-name : goal.invariant-loop-name
invariant-loop-name l =
    (f : ClassId → Truth) (name : List ℕ)
    → (list_any f (definers_in l.by_name.entries name)
    || (f l.class && list_any (is_basic_named name) (named_methods (drop l.name-index l.name-items))))
    ≡ (list_any f (definers_in l.fn.by_name.entries name) || (f l.class && list_any (is_basic_named name) (basic_methods l.class.0)))
