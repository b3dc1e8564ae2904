-- `add_cyclic` adds the compile-time error C5 at the name of each class definition on a cycle of inheritance: each step of its loop adds one error.
use Rattle.std.proofs.Common.{◌<◌, ℕ, List, Some, length, get_or, sym, ◌∙◌, subst, arith}
use Rattle.cool_syntax.specs.TreesWithinLimits.{IsClassWithin, AreClassesWithin}
use Rattle.cool_classes.specs.declared.fault.ClassFault.{ClassFault}
use Rattle.cool_classes.specs.declared.fault.ClassKind.TheVariants.{C5}
use Rattle.cool_classes.specs.Settled.{AddsFaults}
use Rattle.cool_classes.proofs.FaultsLeft.{cycles_next}
use Rattle.cool_classes.proofs.FaultsAdded.{adds_both, adds_one, some_fault}
use Rattle.cool_classes.proofs.class_phase.add_cyclic.Goals as goal
use Rattle.lists.proofs.AllItems.{all_at}

pub loop-class-preserved : goal.loop-class-preserved
loop-class-preserved c =
    let ds = c.args.definitions.now in
    let faults = c.loop-class.faults.items in
    let k = get_or c.args.cyclic.now c.loop-class.class-index 0 in
    let d = get_or ds k c.index-definitions-class.result in
    let less : c.loop-class.class-index < length c.args.cyclic.now = let t = c.loop-class-test.true in let e = c.loop-class.auto.class-index-end in omega arith in
    let within : k < length ds = all_at (λ (j : ℕ). j < length ds) c.args.cyclic.now c.loop-class.class-index 0 c.requires.within less in
    let one : AddsFaults (λ (n : ℕ). AreClassesWithin n ds) faults c.add_fault.new.faults.items =
    subst (λ (fs : List ClassFault). AddsFaults (λ (n : ℕ). AreClassesWithin n ds) faults fs) (sym c.in_ok-add_fault.ensures)
    (adds_one (λ (n : ℕ). AreClassesWithin n ds) (Some C5) d.at faults (omega arith) (λ n all. (all_at (IsClassWithin n) ds k c.index-definitions-class.result all within).0)) in
    record {
      adds = adds_both (λ (n : ℕ). AreClassesWithin n ds) c.args.faults.now.items faults c.add_fault.new.faults.items c.loop-class.invariant.adds one;
      exact = cycles_next ds c.args.cyclic.now c.loop-class.class-index c.index-definitions-class.result faults c.add_fault.new.faults.items less within c.in_ok-add_fault.ensures ∙ c.loop-class.invariant.exact;
      none = λ e. absurd (some_fault faults (record { kind = C5; at = d.at }) (sym c.in_ok-add_fault.ensures ∙ e));
    }
