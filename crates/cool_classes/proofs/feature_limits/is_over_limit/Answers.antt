-- `is_over_limit` compares the numbers of attributes and of methods of a class with the compiler's limits. Each number is the sum of the counts of the class
-- and its ancestors.
use Rattle.std.proofs.Common.{ℕ, List, ◌∷◌, Some, length, ap, ◌∙◌, refl}
use Rattle.std.specs.Prelude.{nat_lt}
use Rattle.cool_classes.specs.declared.TheConstants.{MOST_ATTRIBUTES, MOST_METHODS}
use Rattle.cool_classes.specs.Entries.{classes}
use Rattle.cool_classes.specs.Features.{attributes_of}
use Rattle.cool_classes.specs.Lineages.{sum_at}
use Rattle.cool_classes.specs.MethodNames.{methods_of}
use Rattle.cool_classes.proofs.SameTypes.{or_first, or_second}
use Rattle.cool_classes.proofs.Lineages.{sum_attributes, sum_methods}
use Rattle.cool_classes.proofs.feature_limits.is_over_limit.Goals as goal

pub returns-then-exceed : goal.returns-then-exceed
returns-then-exceed c =
    let es = c.args.table.now.entries.now in
    let p = classes es in
    let ds = c.args.lineage.now.class ∷ c.args.lineage.now.above.items in
    let gs = c.args.counts.now.attributes.items in
    let ms = c.args.counts.now.methods.items in
    let lineage = c.requires.lineage in
    or_first c.exceed.result (nat_lt MOST_ATTRIBUTES (length (attributes_of p ds))) (nat_lt MOST_METHODS (length (methods_of p ds)))
    (c.exceed.ensures ∙ ap (λ (xs : List ℕ). nat_lt MOST_ATTRIBUTES (sum_at xs ds)) c.as_slice.ensures.value
    ∙ ap (nat_lt MOST_ATTRIBUTES) (sum_attributes es p gs ms c.requires.counts ds (lineage.within, lineage.above)))
    c.if-exceed.true

pub returns-else-exceed : goal.returns-else-exceed
returns-else-exceed c =
    let es = c.args.table.now.entries.now in
    let p = classes es in
    let ds = c.args.lineage.now.class ∷ c.args.lineage.now.above.items in
    let gs = c.args.counts.now.attributes.items in
    let ms = c.args.counts.now.methods.items in
    let lineage = c.requires.lineage in
    or_second c.exceed.result (nat_lt MOST_ATTRIBUTES (length (attributes_of p ds))) c.exceed-else-exceed.result (nat_lt MOST_METHODS (length (methods_of p ds)))
    (c.exceed.ensures ∙ ap (λ (xs : List ℕ). nat_lt MOST_ATTRIBUTES (sum_at xs ds)) c.as_slice.ensures.value
    ∙ ap (nat_lt MOST_ATTRIBUTES) (sum_attributes es p gs ms c.requires.counts ds (lineage.within, lineage.above)))
    c.if-exceed.false
    (c.exceed-else-exceed.ensures ∙ ap (λ (xs : List ℕ). nat_lt MOST_METHODS (sum_at xs ds)) c.as_slice-else-exceed.ensures.value
    ∙ ap (nat_lt MOST_METHODS) (sum_methods es p gs ms c.requires.counts (Some c.args.lineage.now.class) ds (refl, lineage.chain) (lineage.within, lineage.above)))
