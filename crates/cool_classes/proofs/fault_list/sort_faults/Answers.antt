-- `sort_faults` sorts faults (compile-time errors) by file, byte, kind and line, which is the order that `AreInOrder` of `FaultOrder.antt` demands.
use Rattle.std.proofs.Common.{rules}
use Rattle.std.specs.List.Sorted.{IsSortedByKey}
use Rattle.std.proofs.lemmas.List.Sorted.{answers_always}
use Rattle.cool_classes.proofs.FaultsInOrder.{key_of, key_cmp, in_order}
use Rattle.cool_classes.proofs.fault_list.sort_faults.Goals as goal

pub returns-clause-order : goal.returns-clause-order
returns-clause-order c =
    let s : IsSortedByKey key_of key_cmp c.sort_by_key.new.self.items = c.in_ok-sort_by_key.ensures.sorted key_of (answers_always _ _ _ (λ f a r g k. search rules)) in
    in_order c.sort_by_key.new.self.items s
