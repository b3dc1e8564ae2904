-- `fault_list` returns the stored type errors (faults) as `AreFaultsOf` of `KeptFaults.antt` defines: `kept_faults` collects them, and `in_order` sorts them.
use Rattle.std.proofs.Common.{◌≡◌, List, Result, Ok, Err, ap, ◌∙◌, subst, map}
use Rattle.std.specs.Prelude.{IfOk}
use Rattle.std.specs.Global.{Vec}
use Rattle.std.specs.List.Sorted.{IsPermutation}
use Rattle.cool_check.specs.declared.fault.TypeFault.{TypeFault}
use Rattle.cool_faults.specs.declared.fault.Fault.{Fault}
use Rattle.cool_faults.specs.declared.fault.Fault.TheVariants.{Typing}
use Rattle.cool_session.specs.KeptFaults.{AreFaultsOf}
use Rattle.cool_session.proofs.fault_list.fault_list.Goals as goal

where_listed : {E : Type 0} (found types : List TypeFault) (r : Result (Vec Fault) E)
    → ((faults : List Fault) → faults ≡ map Typing types → AreFaultsOf found faults)
    → IfOk r (λ (all : Vec Fault). all.items ≡ map Typing types) → IfOk r (λ (all : Vec Fault). AreFaultsOf found all.items)
where_listed found types (Ok all) h is = h all.items is
where_listed found types (Err e) h is = tt

pub returns : goal.returns
returns c =
    where_listed _ c.as_slice.result.now c.of_typing.result
    (λ faults is.
    record {
      types = c.in_order-faults.result.items;
      is = is ∙ ap (map Typing) c.as_slice.ensures.value;
      moved = subst (λ (fs : List TypeFault). IsPermutation fs c.in_order-faults.result.items) c.in_ok-kept_faults.ensures
          c.in_order-faults.ensures.permutation;
      order = c.in_order-faults.ensures.order;
    }) c.of_typing.ensures
