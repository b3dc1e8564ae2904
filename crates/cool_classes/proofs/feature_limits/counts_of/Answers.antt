-- `counts_of` returns for each class the number of its attributes, and the number of method names that it adds to those of its ancestors. Each step of its loop
-- counts those of one class.
use Rattle.std.proofs.Common.{◌≡◌, ◌+◌, ◌++◌, ◌∷◌, [], ℕ, List, length, ap, sym, ◌∙◌, subst}
use Rattle.cool_syntax.specs.declared.file_tree.Feature.{Feature}
use Rattle.cool_classes.specs.declared.class_id.ClassId.{ClassId}
use Rattle.cool_classes.specs.Chains.{Class, class_number, features_of, parent_of, IsChain}
use Rattle.cool_classes.specs.Entries.{classes}
use Rattle.cool_classes.specs.Features.{own_attributes}
use Rattle.cool_classes.specs.Lineages.{AreCounted}
use Rattle.cool_classes.specs.MethodNames.{new_methods}
use Rattle.cool_classes.proofs.Climbs.{chain_unique}
use Rattle.cool_classes.proofs.NewMethods.{counted_next}
use Rattle.cool_classes.proofs.Seen.{class_read}
use Rattle.cool_classes.proofs.feature_limits.counts_of.Goals as goal

pub loop-index-preserved : goal.loop-index-preserved
loop-index-preserved c =
    let es = c.args.table.now.entries.now in
    let p = classes es in
    let k = c.loop-index.index in
    let id = class_number k in
    let gs = c.loop-index.attributes.items in
    let ms = c.loop-index.methods.items in
    let a = c.attribute_count.result in
    let m = c.new_method_count.result in
    let class = c.in_ok-lineage.ensures.class in
    let above = c.in_ok-lineage.lineage.above.items in
    let features : features_of p id ≡ c.as_slice.result.now = ap (λ (x : Class). x.features) (class_read es id c.index-entries-index.result c.loop-index-test.true) ∙ sym c.as_slice.ensures in
    let attributes : a ≡ length (own_attributes id 0 (features_of p id)) = c.attribute_count.ensures id ∙ ap (λ (fs : List Feature). length (own_attributes id 0 fs)) (sym features) in
    let chain : IsChain p (parent_of p id) above = subst (λ (x : ClassId). IsChain p (parent_of p x) above) class c.in_ok-lineage.ensures.lineage.chain in
    let next = counted_next k p gs ms a m c.loop-index.invariant attributes (λ ds h.
    c.new_method_count.ensures ∙ ap (λ (x : ClassId). length (new_methods p above x)) class ∙ ap (λ (xs : List ClassId). length (new_methods p xs id)) (chain_unique p (parent_of p id) above ds chain h)) in
    subst (λ (xs : List ℕ). AreCounted (k + 1) p xs c.push-in-loop-index.new.self.items) (sym c.in_ok-push.ensures.items)
    (subst (λ (xs : List ℕ). AreCounted (k + 1) p (gs ++ a ∷ []) xs) (sym c.in_ok-push-2.ensures.items) next)
