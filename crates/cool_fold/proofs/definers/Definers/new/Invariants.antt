-- In the loop of `Definers::new`, each class before the current one has been added to the classes that define a method for each of its own methods.
use Rattle.std.proofs.Common.{◌≡◌, ◌-◌, ℕ, List, Bool as Truth, length, is_some}
use Rattle.std.specs.Prelude.{◌&&◌, ◌||◌}
use Rattle.std.specs.List.{list_any}
use Rattle.cool_classes.specs.declared.class_id.ClassId.{ClassId}
use Rattle.cool_classes.specs.Features.{own_method}
use Rattle.cool_fold.specs.Definers.{definers_in}
use Rattle.cool_fold.specs.Folding.{classes_from}
use Rattle.cool_fold.proofs.definers.Definers.new.Given as goal

abbrev pub invariant-loop-number : goal.invariant-loop-number
invariant-loop-number l =
    (f : ClassId → Truth) (name : List ℕ)
    → (list_any f (definers_in l.by_name.entries name)
    || list_any (λ c. f c && is_some (own_method l.table c name)) (classes_from l.number (length l.table - l.number)))
    ≡ list_any (λ c. f c && is_some (own_method l.table c name)) (classes_from 0 (length l.table))
