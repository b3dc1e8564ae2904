-- `all_own_names` returns the names of the features of each class: each step of its loop adds those of one class.
use Rattle.std.proofs.Common.{◌≡◌, ◌<◌, ◌+◌, List, length, ap, sym, ◌∙◌, subst}
use Rattle.cool_syntax.specs.declared.file_tree.Feature.{Feature}
use Rattle.cool_classes.specs.declared.own_names.OwnNames.{OwnNames}
use Rattle.cool_classes.specs.Chains.{Class, class_number, features_of}
use Rattle.cool_classes.specs.Entries.{classes}
use Rattle.cool_classes.specs.OwnNames.{AreOwn, AreAllOwn}
use Rattle.cool_classes.proofs.Seen.{class_read, within_classes}
use Rattle.cool_classes.proofs.OwnNamesGrow.{all_own_next}
use Rattle.cool_classes.proofs.own_names.all_own_names.Goals as goal

pub own_names-requires : goal.own_names-requires
own_names-requires c =
    let es = c.args.entries.now in
    let id = class_number c.loop-index.index in
    let features : features_of (classes es) id ≡ c.as_slice.result.now = ap (λ (x : Class). x.features) (class_read es id c.index-entries-index.result c.loop-index-test.true) ∙ sym c.as_slice.ensures in
    record { few = subst (λ (fs : List Feature). length fs < 4294967296) features (c.requires.few_features id (within_classes es id c.loop-index-test.true)) }

pub loop-index-preserved : goal.loop-index-preserved
loop-index-preserved c =
    let es = c.args.entries.now in
    let id = class_number c.loop-index.index in
    let features : features_of (classes es) id ≡ c.as_slice.result.now = ap (λ (x : Class). x.features) (class_read es id c.index-entries-index.result c.loop-index-test.true) ∙ sym c.as_slice.ensures in
    let own = c.in_ok-own_names.field-0 in
    subst (λ (all : List OwnNames). AreAllOwn (c.loop-index.index + 1) all (classes es)) (sym c.in_ok-push.ensures.items)
    (all_own_next c.loop-index.index c.loop-index.all.items (classes es) own c.loop-index.invariant (subst (AreOwn own) (sym features) c.in_ok-own_names.ensures))
