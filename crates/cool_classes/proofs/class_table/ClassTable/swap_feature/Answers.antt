-- `ClassTable::swap_feature` keeps the invariant of the class table, and changes only one feature (`with_feature_at` of `Bodies.antt`).
use Rattle.std.proofs.Common.{◌≡◌, List, length, sym, ap, ◌∙◌, subst}
use Rattle.std.specs.Prelude.{slice_get}
use Rattle.std.specs.Vec.{with_items}
use Rattle.std.proofs.lemmas.List.{with_items_is}
use Rattle.cool_classes.specs.declared.entry.Entry.{Entry}
use Rattle.cool_classes.specs.Bodies.{changed_at, with_feature_at}
use Rattle.cool_classes.specs.Chains.{Class, features_of}
use Rattle.cool_classes.specs.Declarations.{IsDeclaredBy}
use Rattle.cool_classes.specs.Entries.{classes, entry_with_feature}
use Rattle.cool_classes.specs.OwnNames.{IsIndexed}
use Rattle.cool_classes.proofs.SwappedBodies.{length_changed, seen_with_feature, indexed_with_feature}
use Rattle.cool_classes.proofs.class_table.ClassTable.swap_feature.Goals as goal

pub invariant_of-self : goal.invariant_of-self
invariant_of-self c =
    let v = c.self.inside.entries in
    let n = c.args.c.0 in
    let f = entry_with_feature c.args.index c.args.feature in
    let new = c.swap_feature.new.entries in
    let after : new ≡ changed_at n f v.items = c.swap_feature.ensures.now ∙ ap (changed_at n f) c.deref_mut.ensures.value in
    let long : length new ≡ v.len = ap length after ∙ (length_changed f v.items n ∙ sym v.ok.0) in
    let declared = subst (λ (p : List Class). IsDeclaredBy c.args.feature (slice_get (features_of p c.args.c) c.args.index)) (sym c.self.view_is) c.requires.same in
    subst (λ (es : List Entry). IsIndexed es c.self.inside.names.entries c.self.inside.own.items) (sym (with_items_is v new long ∙ after))
    (indexed_with_feature v.items n c.args.index c.args.feature declared c.self.inside.names.entries c.self.inside.own.items c.self.invariant)

pub returns-clause-now : goal.returns-clause-now
returns-clause-now c =
    let v = c.self.inside.entries in
    let n = c.args.c.0 in
    let f = entry_with_feature c.args.index c.args.feature in
    let new = c.swap_feature.new.entries in
    let after : new ≡ changed_at n f v.items = c.swap_feature.ensures.now ∙ ap (changed_at n f) c.deref_mut.ensures.value in
    let long : length new ≡ v.len = ap length after ∙ (length_changed f v.items n ∙ sym v.ok.0) in
    let is : (with_items v new).items ≡ changed_at n f v.items = with_items_is v new long ∙ after in
    ap classes is ∙ (seen_with_feature v.items n c.args.index c.args.feature
    ∙ ap (λ (p : List Class). with_feature_at p c.args.c c.args.index c.args.feature) c.self.view_is)
