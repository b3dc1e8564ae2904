-- In the loop of `add_features`, the class has been added to the classes that define a method for each method among the features before the current one.
use Rattle.std.proofs.Common.{◌≡◌, ℕ, List, Bool as Truth, drop}
use Rattle.std.specs.Prelude.{◌&&◌, ◌||◌}
use Rattle.std.specs.List.{list_any}
use Rattle.cool_classes.specs.declared.class_id.ClassId.{ClassId}
use Rattle.cool_classes.specs.Features.{is_method_named}
use Rattle.cool_fold.specs.Definers.{definers_in}
use Rattle.cool_fold.proofs.definers.add_features.Given as goal

abbrev pub invariant-loop-feature : goal.invariant-loop-feature
invariant-loop-feature l =
    (f : ClassId → Truth) (name : List ℕ)
    → (list_any f (definers_in l.by_name.entries name) || (f l.class && list_any (is_method_named name) (drop l.feature-index l.features)))
    ≡ (list_any f (definers_in l.fn.by_name.entries name) || (f l.class && list_any (is_method_named name) l.features))
