-- `swap_body` changes the class-table entries only in the expression of one feature of one class. It takes the features out of the entry, exchanges the
-- expression and puts them back.
use Rattle.std.proofs.Common.{◌≡◌, get_or, ap, ◌∙◌}
use Rattle.cool_classes.specs.Bodies.{with_body, changed_at}
use Rattle.cool_classes.specs.Entries.{entry_with_body}
use Rattle.cool_classes.proofs.SwappedBodies.{set_changed}
use Rattle.cool_classes.proofs.bodies.swap_body.Goals as goal

pub returns-clause-now : goal.returns-clause-now
returns-clause-now c =
    let es = c.args.entries.now in
    let n = c.args.c.0 in
    let k = c.args.feature in
    let t = c.args.body in
    let d = c.index-entries-c.result in
    let e = get_or es n d in
    let fs = c.into_vec-features.result.items in
    let x = c.exchange-before.new.feature in
    let y = c.index_mut.result.now in
    let exchanged : x ≡ with_body t (get_or fs k y) = c.exchange-before.ensures.now ∙ ap (with_body t) c.index_mut.ensures.value in
    let before : fs ≡ e.features = c.into_vec-features.ensures ∙ c.replace.ensures.value in
    let features : c.new-3.result ≡ changed_at k (with_body t) e.features =
    c.new-3.ensures ∙ (set_changed (with_body t) fs k x y exchanged ∙ ap (changed_at k (with_body t)) before) in
    set_changed (entry_with_body k t) es n (record { name = e.name; parent = e.parent; depth = e.depth; features = c.new-3.result }) d
    (λ i. record { name = e.name; parent = e.parent; depth = e.depth; features = features i })
