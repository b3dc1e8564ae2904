-- `feature_faults` returns the faults (compile-time errors) of the features of all classes: each step of its loop adds those of one class. If there are none,
-- the declared types exist and the limits are kept (`AreGood` of `Resolved.antt`).
use Rattle.std.proofs.Common.{◌≡◌, ◌+◌, ◌++◌, ◌<◌, ◌≤◌, length, get_or, ap, ◌∙◌, subst, arith}
use Rattle.cool_syntax.specs.declared.place.Place.{Place}
use Rattle.cool_syntax.specs.TokenFacts.{IsPlaced}
use Rattle.cool_classes.specs.declared.class_id.ClassId.{ClassId}
use Rattle.cool_classes.specs.Chains.{class_number, parent_of, IsChain}
use Rattle.cool_classes.specs.Entries.{classes}
use Rattle.cool_classes.specs.FeatureFaults.{class_faults}
use Rattle.cool_classes.proofs.FeaturesChecked.{faults_next, all_good, all_at}
use Rattle.cool_classes.proofs.FaultsLeft.{features_next}
use Rattle.cool_classes.proofs.feature_phase.feature_faults.Goals as goal

pub loop-index-preserved : goal.loop-index-preserved
loop-index-preserved c =
    let es = c.args.table.now.entries.now in
    let k = c.loop-index.index in
    let faults = c.loop-index.faults.items in
    let above = c.in_ok-lineage.lineage.above.items in
    let class = c.in_ok-lineage.ensures.class in
    let none : Place = record { file = 0; line = 0; byte = 0 } in
    let at = get_or c.args.places.now k none in
    let number = c.requires.places in
    let less = c.loop-index-test.true in
    let within : 5 + k < length es = omega arith in
    let is : c.note_class.new.faults.items ≡ faults ++ class_faults (classes es) (class_number (5 + k)) above at =
    c.in_ok-note_class.ensures
    ∙ ap (λ (x : ClassId). faults ++ class_faults (classes es) x above at) class in
    let chain = subst (λ (x : ClassId). IsChain (classes es) (parent_of (classes es) x) above) class c.in_ok-lineage.ensures.lineage.chain in
    record {
      are = faults_next es c.args.places.now k faults c.note_class.new.faults.items above at c.requires.table.resolved within (λ n h. all_at (IsPlaced n) c.args.places.now k none less h) chain c.loop-index.invariant.are is;
      exact = features_next (classes es) c.args.places.now k faults c.note_class.new.faults.items above none less chain is ∙ c.loop-index.invariant.exact;
    }

pub returns-clause-good : goal.returns-clause-good
returns-clause-good c none =
    let past : length c.args.places.now ≤ c.loop-index.index = omega arith in
    all_good c.args.table.now.entries.now (length c.args.places.now) c.requires.table.resolved c.requires.places (λ k less. c.loop-index.invariant.are.good none k (omega arith))
