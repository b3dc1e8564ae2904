-- `attributes` returns the attributes of a class and of all its ancestors, from Object down. Its loop reads the list of these classes from its end, and each
-- step adds the attributes of one class.
use Rattle.std.proofs.Common.{◌≡◌, ◌<◌, ◌-◌, ◌++◌, ℕ, List, length, drop, get_or, Some, ap, sym, ◌∙◌, subst, arith}
use Rattle.std.specs.List.{AllByRecursion}
use Rattle.cool_classes.specs.declared.class_id.ClassId.{ClassId}
use Rattle.cool_syntax.specs.declared.file_tree.Feature.{Feature}
use Rattle.cool_classes.specs.Chains.{Class, features_of}
use Rattle.cool_classes.specs.Features.{own_attributes, attributes_of, HasAttribute}
use Rattle.cool_classes.specs.Entries.{classes, depth_at}
use Rattle.cool_classes.proofs.Seen.{class_read, within_classes, within_entries}
use Rattle.cool_classes.proofs.Climbs.{all_within, chain_unique}
use Rattle.cool_classes.proofs.AttributesOfChains.{one_more, attributes_have}
use Rattle.cool_classes.proofs.attributes.attributes.Goals as goal

pub bounds-entries-id : goal.bounds-entries-id
bounds-entries-id c =
    let es = c.args.entries.now in
    let p = classes es in
    let ids = c.in_ok-ids.ids.items in
    let id = c.index-id.result.now in
    let a = c.loop-index-test.true in
    let b = c.loop-index.auto.index in
    let n = c.len-index.ensures in
    let less : c.loop-index.index - 1 < length ids = omega arith in
    let within : (get_or ids (c.loop-index.index - 1) id).0 < length p =
    all_within p (depth_at es) c.requires.whole.grounded c.args.c (within_classes es c.args.c c.requires.within) ids c.in_ok-ids.ensures (c.loop-index.index - 1) id less in
    let id_within : id.0 < length p = subst (λ (x : ClassId). x.0 < length p) (sym c.index-id.ensures) within in
    let id_entry = within_entries es id id_within in
    id_entry

pub add_own-requires : goal.add_own-requires
add_own-requires c =
    let es = c.args.entries.now in
    let p = classes es in
    let ids = c.in_ok-ids.ids.items in
    let id = c.index-id.result.now in
    let a = c.loop-index-test.true in
    let b = c.loop-index.auto.index in
    let n = c.len-index.ensures in
    let less : c.loop-index.index - 1 < length ids = omega arith in
    let within : (get_or ids (c.loop-index.index - 1) id).0 < length p =
    all_within p (depth_at es) c.requires.whole.grounded c.args.c (within_classes es c.args.c c.requires.within) ids c.in_ok-ids.ensures (c.loop-index.index - 1) id less in
    let id_within : id.0 < length p = subst (λ (x : ClassId). x.0 < length p) (sym c.index-id.ensures) within in
    let id_entry = within_entries es id id_within in
    let features : features_of p id ≡ c.as_slice.result.now = ap (λ (x : Class). x.features) (class_read es id c.index-entries-id.result id_entry) ∙ sym c.as_slice.ensures in
    record { few = subst (λ (fs : List Feature). length fs < 4294967296) features (c.requires.whole.table.few_features id id_within) }

pub loop-index-preserved : goal.loop-index-preserved
loop-index-preserved c =
    let es = c.args.entries.now in
    let p = classes es in
    let ids = c.in_ok-ids.ids.items in
    let id = c.index-id.result.now in
    let a = c.loop-index-test.true in
    let b = c.loop-index.auto.index in
    let n = c.len-index.ensures in
    let less : c.loop-index.index - 1 < length ids = omega arith in
    let within : (get_or ids (c.loop-index.index - 1) id).0 < length p =
    all_within p (depth_at es) c.requires.whole.grounded c.args.c (within_classes es c.args.c c.requires.within) ids c.in_ok-ids.ensures (c.loop-index.index - 1) id less in
    let id_within : id.0 < length p = subst (λ (x : ClassId). x.0 < length p) (sym c.index-id.ensures) within in
    let id_entry = within_entries es id id_within in
    let features : features_of p id ≡ c.as_slice.result.now = ap (λ (x : Class). x.features) (class_read es id c.index-entries-id.result id_entry) ∙ sym c.as_slice.ensures in
    c.in_ok-add_own.ensures ∙ ap (λ (fs : List Feature). c.loop-index.attributes.items ++ own_attributes id 0 fs) (sym features)
    ∙ ap (λ (x : ClassId). c.loop-index.attributes.items ++ own_attributes x 0 (features_of p x)) c.index-id.ensures
    ∙ one_more p ids c.loop-index.index id c.loop-index.attributes.items a less c.loop-index.invariant

pub returns-clause-attributes : goal.returns-clause-attributes
returns-clause-attributes c ds h =
    let p = classes c.args.entries.now in
    let ids = c.in_ok-ids.ids.items in
    let zero_there : c.loop-index.index ≡ 0 = let t = c.loop-index-test.false in omega arith in
    let all = ap (λ (k : ℕ). attributes_of p (drop k ids)) zero_there in
    c.loop-index.invariant ∙ all ∙ ap (attributes_of p) (chain_unique p (Some c.args.c) ids ds c.in_ok-ids.ensures h)

pub returns-clause-has : goal.returns-clause-has
returns-clause-has c =
    let es = c.args.entries.now in
    let p = classes es in
    let ids = c.in_ok-ids.ids.items in
    let zero_there : c.loop-index.index ≡ 0 = let t = c.loop-index-test.false in omega arith in
    let all = ap (λ (k : ℕ). attributes_of p (drop k ids)) zero_there in
    subst (AllByRecursion (HasAttribute p)) (sym (c.loop-index.invariant ∙ all))
    (attributes_have p ids (all_within p (depth_at es) c.requires.whole.grounded c.args.c (within_classes es c.args.c c.requires.within) ids c.in_ok-ids.ensures))
