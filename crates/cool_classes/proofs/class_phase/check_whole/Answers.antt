-- `check_whole` adds the compile-time errors for cycles of inheritance (C5), a missing class Main (C6) and too many classes (C7), one after the other.
use Rattle.cool_classes.specs.ClassFaults.{cycle_faults, main_faults, number_faults}
use Rattle.cool_classes.proofs.FaultsLeft.{joined_three}
use Rattle.cool_classes.proofs.class_phase.check_whole.Goals as goal

pub returns-clause-adds : goal.returns-clause-adds
returns-clause-adds c = record {
  kept = λ e. c.in_ok-add_cyclic.ensures.adds.kept (c.in_ok-check_main.ensures.adds.kept (c.in_ok-check_number.ensures.adds.kept e));
  phase = λ all. c.in_ok-check_number.ensures.adds.phase (c.in_ok-check_main.ensures.adds.phase (c.in_ok-add_cyclic.ensures.adds.phase all));
  places = λ n within all. c.in_ok-check_number.ensures.adds.places n within.1 (c.in_ok-check_main.ensures.adds.places n within.0 (c.in_ok-add_cyclic.ensures.adds.places n within.1 all));
}

pub returns-clause-exact : goal.returns-clause-exact
returns-clause-exact c = λ all finds.
    let ds = c.args.definitions.now in
    joined_three c.args.faults.now.items (cycle_faults ds c.args.cyclic.now) (main_faults all) (number_faults ds) c.add_cyclic.new.faults.items c.check_main.new.faults.items c.check_number.new.faults.items
    c.in_ok-add_cyclic.ensures.exact (c.in_ok-check_main.ensures.exact all finds) c.in_ok-check_number.ensures.exact
