-- `find_parents` returns the parents of the class definitions, and adds the compile-time errors for parents that are `SELF_TYPE` (C2), undefined (C3), or Int,
-- Bool or String (C4). Each step of its loop adds the parent and the error of one definition.
use Rattle.std.proofs.Common.{◌++◌, ◌∷◌, ◌<◌, ℕ, List, [], take, length, ap, ◌∙◌, arith}
use Rattle.std.specs.Prelude.{IfSome}
use Rattle.cool_syntax.specs.TreesWithinLimits.{AreClassesWithin, IsTypeWithin}
use Rattle.cool_classes.specs.declared.class_id.ClassId.{ClassId}
use Rattle.cool_classes.specs.Settled.{names_with_basic, parents_meant}
use Rattle.cool_classes.proofs.AllOfLists.{class_within}
use Rattle.cool_classes.proofs.FaultsLeft.{parents_next}
use Rattle.cool_classes.proofs.FaultsAdded.{adds_both, adds_under}
use Rattle.cool_classes.proofs.ParentsOfDefinitions.{parents_more, known_more}
use Rattle.cool_classes.proofs.class_phase.find_parents.Goals as goal

pub loop-definition-preserved : goal.loop-definition-preserved
loop-definition-preserved c =
    let ds = c.args.definitions.now in
    let names = names_with_basic ds in
    let k = c.loop-definition.definition-index in
    let d = c.definition-item.result in
    let faults = c.loop-definition.faults.items in
    let after = c.find_parent.new.faults.items in
    let within : k < length ds = let t = c.loop-definition-test.true in let e = c.loop-definition.auto.definition-index-end in omega arith in
    let one = adds_under (λ (n : ℕ). AreClassesWithin n ds) (λ (n : ℕ). IfSome d.parent (IsTypeWithin n)) faults after (λ n all. (class_within n ds k d within c.definition-item.is all).2) c.in_ok-parent.ensures.adds in
    record {
      parents =
          c.in_ok-push.ensures.items
          ∙ ap (λ (xs : List ClassId). xs ++ c.in_ok-parent.parent ∷ []) c.loop-definition.invariant.parents
          ∙ ap (λ (q : ClassId). parents_meant names (take k ds) ++ q ∷ []) (c.in_ok-parent.ensures.parent names c.requires.finds)
          ∙ parents_more names ds k d within c.definition-item.is;
      adds = adds_both (λ (n : ℕ). AreClassesWithin n ds) c.args.faults.now.items faults after c.loop-definition.invariant.adds one;
      exact = parents_next names ds k d faults after within c.definition-item.is (c.in_ok-parent.ensures.exact names c.requires.finds) ∙ c.loop-definition.invariant.exact;
      known = λ none. known_more names ds k d within c.definition-item.is (c.in_ok-parent.ensures.known none names c.requires.finds) (c.loop-definition.invariant.known (one.kept none));
    }
