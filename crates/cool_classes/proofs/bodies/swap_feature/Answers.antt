-- `swap_feature` changes the class-table entries only in one feature of one class. It takes the features out of the entry, replaces this feature and puts them
-- back.
use Rattle.std.proofs.Common.{◌≡◌, get_or, ap, ◌∙◌}
use Rattle.cool_syntax.specs.declared.file_tree.Feature.{Feature}
use Rattle.cool_classes.specs.Bodies.{changed_at}
use Rattle.cool_classes.specs.Entries.{entry_with_feature}
use Rattle.cool_classes.proofs.SwappedBodies.{set_changed}
use Rattle.cool_classes.proofs.bodies.swap_feature.Goals as goal

pub returns-clause-now : goal.returns-clause-now
returns-clause-now c =
    let es = c.args.entries.now in
    let n = c.args.c.0 in
    let k = c.args.index in
    let x = c.args.feature in
    let d = c.index-entries-c.result in
    let e = get_or es n d in
    let fs = c.into_vec-features.result.items in
    let y = c.index_mut.result.now in
    let before : fs ≡ e.features = c.into_vec-features.ensures ∙ c.replace.ensures.value in
    let features : c.new-3.result ≡ changed_at k (λ (z : Feature). x) e.features =
    c.new-3.ensures ∙ (set_changed (λ (z : Feature). x) fs k c.replace-before.new.dest y c.replace-before.ensures.after ∙ ap (changed_at k (λ (z : Feature). x)) before) in
    set_changed (entry_with_feature k x) es n (record { name = e.name; parent = e.parent; depth = e.depth; features = c.new-3.result }) d
    (λ i. record { name = e.name; parent = e.parent; depth = e.depth; features = features i })
