-- `in_order` sorts type errors by file, byte, kind and line. The sort only moves them, so each type error keeps its source location.
use Rattle.std.proofs.Common.{◌≡◌, false, get_or, subst, rules, arith}
use native.Mathlib.Numerals.{add-one}
use Rattle.std.specs.Ordering.{is_lt}
use Rattle.std.proofs.lemmas.Fn.{always_returns_same}
use Rattle.std.proofs.lemmas.List.Elements.{All-from_recursion, recursion_from_All}
use Rattle.std.proofs.lemmas.List.Sorted.{All-permutation}
use Rattle.cool_syntax.specs.TokenFacts.{IsPlaced}
use Rattle.cool_check.specs.declared.fault.TypeFault.{TypeFault}
use Rattle.cool_check.proofs.FaultsInOrder.{fault_cmp, sorted_in_order}
use Rattle.cool_check.proofs.checking.in_order.Goals as goal

pub returns-clause-order : goal.returns-clause-order
returns-clause-order c =
    let up = c.sort_unstable_by_key.ensures.sorted (λ (f : TypeFault). (f.at.file, f.at.byte, f.kind, f.at.line)) (always_returns_same _ _ _ (λ a r f' k. search rules)) in
    let fs = c.sort_unstable_by_key.new.self.items in
    sorted_in_order fs (λ k d h. subst (λ j. is_lt (fault_cmp (get_or fs j d) (get_or fs k d)) ≡ false) (add-one k) (up k d (omega arith) (omega arith)))

pub returns-clause-places : goal.returns-clause-places
returns-clause-places c = λ n h.
    let P = λ (f : TypeFault). IsPlaced n f.at in
    recursion_from_All P _ (All-permutation P _ _ c.sort_unstable_by_key.ensures.permutation (All-from_recursion P _ h))
