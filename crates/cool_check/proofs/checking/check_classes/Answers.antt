-- `check_classes` returns the type errors and the types of nodes of all classes: each step of its loop adds those of one class.
use Rattle.std.proofs.Common.{◌++◌, ◌+◌, ◌∙◌, List, drop, ap, arith, sym}
use Rattle.std.specs.Global.{Vec}
use Rattle.lists.proofs.JoinedLists.{none_both}
use Rattle.cool_classes.specs.declared.class_id.Ty.{Ty}
use Rattle.cool_classes.specs.Chains.{class_number, features_of}
use Rattle.cool_rules.specs.NodeTypes.{classes_types, columns_of}
use Rattle.cool_check.specs.declared.fault.TypeFault.{TypeFault}
use Rattle.cool_check.specs.TypingFaults.{classes_faults, features_faults}
use Rattle.cool_rules.proofs.ColumnsLeft.{columns_later}
use Rattle.cool_check.proofs.PartsLeft.{classes_later}
use Rattle.cool_check.proofs.checking.check_classes.Goals as goal

pub loop-number-preserved : goal.loop-number-preserved
loop-number-preserved c =
    let p = c.args.t.now in
    let k = c.loop-number.number in
    let rest = classes_faults p (k + 1) (drop (k + 1) p) in
    record {
      faults = ap (λ (fs : List TypeFault). fs ++ rest) c.in_ok-check_class.ensures.faults ∙ classes_later p c.loop-number.faults.items k (omega arith) ∙ c.loop-number.invariant.faults;
      types = λ none.
          let both = none_both c.loop-number.faults.items (features_faults p (class_number k) (features_of p (class_number k))) (sym c.in_ok-check_class.ensures.faults ∙ none) in
          ap (λ (held : List (Vec (List Ty))). columns_of held ++ classes_types p (k + 1) (drop (k + 1) p)) c.in_ok-push.ensures.items
          ∙ columns_later p c.loop-number.types.items k c.in_ok-check_class.field-0 (omega arith) (c.in_ok-check_class.ensures.types none)
          ∙ c.loop-number.invariant.types both.0;
      places = λ n h. c.in_ok-check_class.ensures.places n (h _ (omega arith)) (c.loop-number.invariant.places n h);
    }
