-- `settle_classes` returns the names, parents and depths (numbers of ancestors) of the classes if no class definition has a compile-time error C1 to C7.
-- Otherwise it returns these errors, as `class_phase` of `ClassFaults.antt` lists them.
use Rattle.std.proofs.Common.{rules, ◌≡◌, ◌+◌, ◌<◌, ◌++◌, ℕ, List, length, sym, ap, ◌∙◌, subst}
use Rattle.std.specs.List.{AllByRecursion}
use Rattle.cool_syntax.specs.TokenFacts.{IsPlaced}
use Rattle.cool_classes.specs.declared.fault.ClassFault.{ClassFault}
use Rattle.cool_classes.specs.FaultLists.{IsPlacedRefusal}
use Rattle.cool_classes.specs.declared.class_id.ClassId.{ClassId}
use Rattle.cool_classes.specs.Cycles.{AreCycles}
use Rattle.cool_classes.specs.ClassFaults.{names_faults, parents_faults, cycle_faults, main_faults, number_faults, class_phase, HasClassFaults}
use Rattle.cool_classes.specs.Settled.{basic_names, names_with_basic, parents_meant}
use Rattle.cool_classes.proofs.ExactFaults.{refused_classes}
use Rattle.cool_classes.proofs.FaultsLeft.{joined_three}
use Rattle.cool_classes.proofs.ParentsOfDefinitions.{parents_within, parents_long}
use Rattle.cool_classes.proofs.class_phase.settle_classes.Goals as goal

pub depths-requires-clause-parents : goal.depths-requires-clause-parents
depths-requires-clause-parents c =
    let ds = c.args.definitions.now in
    subst (λ (xs : List ClassId). AllByRecursion (λ (q : ClassId). q.0 < length xs + 5) xs) (sym (c.deref.ensures.value ∙ c.in_ok-parents.ensures.parents)) (parents_within ds)

pub check_whole-requires : goal.check_whole-requires
check_whole-requires c =
    let ds = c.args.definitions.now in
    let all = c.in_ok-found.ensures.cyclic in
    let long : length c.deref.result.now ≡ length ds = ap length (c.deref.ensures.value ∙ c.in_ok-parents.ensures.parents) ∙ parents_long (names_with_basic ds) ds in
    record { within = subst (AllByRecursion (λ (k : ℕ). k < length ds)) (sym c.deref-2.ensures.value) (subst (λ (n : ℕ). AllByRecursion (λ (k : ℕ). k < n) c.in_ok-found.found.cyclic.items) long all) }

pub returns-in_err-refuse_faults-clause-places : goal.returns-in_err-refuse_faults-clause-places
returns-in_err-refuse_faults-clause-places c n some all =
    let start : AllByRecursion (λ (f : ClassFault). IsPlaced n f.at) c.new-faults.result.items = subst (AllByRecursion (λ (f : ClassFault). IsPlaced n f.at)) (sym c.new-faults.ensures.items) tt in
    let one = c.in_ok-names.ensures.adds.places n all start in
    let two = c.in_ok-parents.ensures.adds.places n all one in
    let three = c.in_ok-check_whole.ensures.adds.places n (some, all) two in
    let placed : IsPlacedRefusal n c.in_err-refuse_faults.field-0.0 = c.in_err-refuse_faults.ensures.places n three in
    search rules

pub returns-in_err-refuse_faults-clause-exact : goal.returns-in_err-refuse_faults-clause-exact
returns-in_err-refuse_faults-clause-exact c =
    let ds = c.args.definitions.now in
    let names = names_with_basic ds in
    let cyclic = c.deref-2.result.now in
    let cycles = subst (AreCycles (parents_meant names ds)) (sym c.deref-2.ensures.value)
    (subst (λ (ps : List ClassId). AreCycles ps c.in_ok-found.found.cyclic.items) (c.deref.ensures.value ∙ c.in_ok-parents.ensures.parents) c.in_ok-found.ensures.cycles) in
    let faults = c.check_whole.new.faults.items in
    let rest = cycle_faults ds cyclic ++ (main_faults names ++ number_faults ds) in
    let is : faults ≡ class_phase ds cyclic =
    joined_three c.new-faults.result.items (names_faults basic_names ds) (parents_faults names ds) rest c.find_names.new.faults.items c.find_parents.new.faults.items faults
    c.in_ok-names.ensures.exact c.in_ok-parents.ensures.exact (c.in_ok-check_whole.ensures.exact names c.in_ok-names.ensures.finds)
    ∙ ap (λ (fs : List ClassFault). fs ++ (names_faults basic_names ds ++ (parents_faults names ds ++ rest))) c.new-faults.ensures.items in
    let exact : HasClassFaults ds c.in_err-refuse_faults.field-0.0 = refused_classes ds faults c.in_err-refuse_faults.field-0.0 (cyclic, cycles, is) c.in_err-refuse_faults.ensures.exact in
    search rules

pub returns-clause-faultless : goal.returns-clause-faultless
returns-clause-faultless c =
    let ds = c.args.definitions.now in
    let names = names_with_basic ds in
    let cyclic = c.deref-2.result.now in
    let cycles = subst (AreCycles (parents_meant names ds)) (sym c.deref-2.ensures.value)
    (subst (λ (ps : List ClassId). AreCycles ps c.in_ok-found.found.cyclic.items) (c.deref.ensures.value ∙ c.in_ok-parents.ensures.parents) c.in_ok-found.ensures.cycles) in
    let faults = c.check_whole.new.faults.items in
    let rest = cycle_faults ds cyclic ++ (main_faults names ++ number_faults ds) in
    let is : faults ≡ class_phase ds cyclic =
    joined_three c.new-faults.result.items (names_faults basic_names ds) (parents_faults names ds) rest c.find_names.new.faults.items c.find_parents.new.faults.items faults
    c.in_ok-names.ensures.exact c.in_ok-parents.ensures.exact (c.in_ok-check_whole.ensures.exact names c.in_ok-names.ensures.finds)
    ∙ ap (λ (fs : List ClassFault). fs ++ (names_faults basic_names ds ++ (parents_faults names ds ++ rest))) c.new-faults.ensures.items in
    (cyclic, cycles, sym c.in_ok-refuse_faults.ensures.none ∙ is)
