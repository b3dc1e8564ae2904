-- `check_feature` checks the feature of the given number. A type error in it is in one of the files, as all features of the class are.
use Rattle.std.proofs.Common.{◌≡◌, ◌<◌, ◌∙◌, List, length, Err, Ok, subst, sym, rules}
use Rattle.std.specs.Prelude.{IfErr, slice_get, Some}
use Rattle.std.proofs.lemmas.Option.{get_or_from_slice_get}
use Rattle.cool_syntax.specs.declared.file_tree.Feature.{Feature}
use Rattle.cool_syntax.specs.TreesWithinLimits.{IsFeatureWithin}
use Rattle.cool_classes.specs.Chains.{features_of}
use Rattle.cool_check.specs.Faults.{IsPlacedError}
use Rattle.cool_check.specs.TypingFaults.{feature_checked}
use Rattle.cool_check.proofs.PartsLeft.{holds_at}
use Rattle.cool_check.proofs.feature.check_feature.Goals as goal

pub returns-clause-typed : goal.returns-clause-typed
returns-clause-typed c = λ x at.
    let there = subst (λ (fs : List Feature). slice_get fs c.args.feature ≡ Some x) (sym c.features-features.ensures.features) at in
    let r = c.index-features-feature.result in
    let same = c.index-features-feature.is ∙ get_or_from_slice_get c.features-features.result.now c.args.feature x r there in
    subst (λ (f : Feature). feature_checked c.args.t.now c.args.c f ≡ Ok tt) same c.in_ok-check_among.ensures.typed

pub returns-in_err-check_among-clause-places : goal.returns-in_err-check_among-clause-places
returns-in_err-check_among-clause-places c = λ n h.
    let same = c.features-features.ensures.features in
    let within = subst (λ (fs : List Feature). c.args.feature < length fs) (sym same) c.requires.feature in
    let fault : c.from_residual-in_err-check_among.result ≡ Err c.in_err-check_among.field-0.0 = search rules in
    subst (λ r. IfErr r (IsPlacedError n)) (sym fault)
    (c.in_err-check_among.ensures.places n (holds_at (IsFeatureWithin n) (features_of c.args.t.now c.args.c) c.features-features.result.now c.args.feature _ h same within c.index-features-feature.is))
