-- `Definers::new` returns for each name the classes that define a method of the name: each step of its loop adds one class under the names of its methods.
use Rattle.std.proofs.Common.{◌≡◌, ◌∙◌, ◌+◌, ◌-◌, ℕ, suc, length, ap, sym, is_some, arith, Bool as Truth}
use Rattle.std.specs.Prelude.{◌&&◌, ◌||◌}
use Rattle.std.specs.List.{list_any}
use Rattle.cool_classes.specs.declared.class_id.ClassId.{ClassId}
use Rattle.cool_classes.specs.Chains.{class_number}
use Rattle.cool_classes.specs.Features.{own_method}
use Rattle.cool_fold.specs.Definers.{definers_in}
use Rattle.cool_fold.specs.Folding.{classes_from}
use Rattle.cool_fold.proofs.DefinersGrow.{class_later}
use Rattle.cool_fold.proofs.definers.Definers.new.Goals as goal

pub loop-number-preserved : goal.loop-number-preserved
loop-number-preserved c f name =
    let p = c.args.table.now in
    let l = c.loop-number in
    let k = l.number in
    let has : ClassId → Truth = λ d. f d && is_some (own_method p d name) in
    let there = list_any f (definers_in l.by_name.entries name) in
    let test = c.loop-number-test.true in
    let count = c.count-number-end.ensures.count in
    let more : length p - k ≡ suc (length p - (k + 1)) = omega arith in
    let rest = list_any has (classes_from (k + 1) (length p - (k + 1))) in
    class_later (list_any f (definers_in c.add_class.new.by_name.entries name)) there (has (class_number k)) rest
    (c.in_ok-add_class.ensures f name)
    ∙ sym (ap (λ (n : ℕ). there || list_any has (classes_from k n)) more)
    ∙ l.invariant f name
