-- `refuse_faults` returns exactly the faults (compile-time errors) that it was given, in order: sorting only permutes the list, so their kinds and locations
-- are the same.
use Rattle.std.proofs.Common.{rules, ◌≡◌, ◌≢◌, inl, inr, List, [], length, sym, ap, ◌∷◌, ◌∙◌, subst, arith}
use Rattle.std.specs.List.{AllByRecursion}
use Rattle.std.specs.List.Sorted.{IsPermutation}
use Rattle.cool_syntax.specs.FaultOrder.{AreInOrder}
use Rattle.std.proofs.lemmas.List.Sorted.{length_permutation}
use Rattle.cool_syntax.specs.TokenFacts.{IsPlaced}
use Rattle.cool_classes.specs.declared.fault.ClassFault.{ClassFault}
use Rattle.cool_classes.specs.FaultLists.{IsOfClasses, IsOfFeatures, IsFaultList, standing_of}
use Rattle.cool_classes.proofs.AllOfLists.{all_permuted}
use Rattle.cool_classes.proofs.fault_list.refuse_faults.Goals as goal
use Rattle.std.proofs.lemmas.List.{nil_from_length}

pub returns-clause-refusal : goal.returns-clause-refusal
returns-clause-refusal c =
    let before = c.args.faults.items in
    let after = c.sort_faults.new.faults.items in
    let moved = c.sort_faults.ensures.same in
    let some : before ≢ [] = λ e. search rules in
    let long = length_permutation before after moved in
    let list : IsFaultList after = record {
      some = λ e. some (nil_from_length before (sym long ∙ ap length e));
      phase = elim c.requires.phase [ inl all ↦ inl (all_permuted IsOfClasses before after moved all) | inr all ↦ inr (all_permuted IsOfFeatures before after moved all) ];
      order = c.in_ok-sort_faults.ensures.order;
    } in
    subst IsFaultList (sym c.new.ensures) list

pub returns-clause-places : goal.returns-clause-places
returns-clause-places c n all =
    subst (AllByRecursion (λ (f : ClassFault). IsPlaced n f.at)) (sym c.new.ensures)
    (all_permuted (λ (f : ClassFault). IsPlaced n f.at) c.args.faults.items c.sort_faults.new.faults.items c.sort_faults.ensures.same all)

pub returns-clause-exact : goal.returns-clause-exact
returns-clause-exact c =
    let before = c.args.faults.items in
    let after = c.sort_faults.new.faults.items in
    let moved = c.sort_faults.ensures.same in
    let some : before ≢ [] = λ e. search rules in
    let long = length_permutation before after moved in
    let order = c.in_ok-sort_faults.ensures.order in
    subst (λ (fs : List ClassFault). (fs ≢ []) × IsPermutation before fs × AreInOrder standing_of fs) (sym c.new.ensures) ((λ e. some (nil_from_length before (sym long ∙ ap length e))), moved, order)
