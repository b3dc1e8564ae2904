-- `ClassTable::swap_body` keeps the invariant of the class table, and changes only the expression of one feature (`with_body_at` of `Bodies.antt`).
use Rattle.std.proofs.Common.{◌≡◌, List, length, sym, ap, ◌∙◌, subst}
use Rattle.std.specs.Vec.{with_items}
use Rattle.std.proofs.lemmas.List.{with_items_is}
use Rattle.cool_classes.specs.declared.entry.Entry.{Entry}
use Rattle.cool_classes.specs.Bodies.{changed_at, with_body_at}
use Rattle.cool_classes.specs.Chains.{Class}
use Rattle.cool_classes.specs.Entries.{classes, entry_with_body}
use Rattle.cool_classes.specs.OwnNames.{IsIndexed}
use Rattle.cool_classes.proofs.SwappedBodies.{length_changed, seen_with_body, indexed_with_body}
use Rattle.cool_classes.proofs.class_table.ClassTable.swap_body.Goals as goal

pub invariant_of-self : goal.invariant_of-self
invariant_of-self c =
    let v = c.self.inside.entries in
    let n = c.args.c.0 in
    let f = entry_with_body c.args.feature c.args.body in
    let new = c.swap_body.new.entries in
    let after : new ≡ changed_at n f v.items = c.swap_body.ensures.now ∙ ap (changed_at n f) c.deref_mut.ensures.value in
    let long : length new ≡ v.len = ap length after ∙ (length_changed f v.items n ∙ sym v.ok.0) in
    subst (λ (es : List Entry). IsIndexed es c.self.inside.names.entries c.self.inside.own.items) (sym (with_items_is v new long ∙ after))
    (indexed_with_body v.items n c.args.feature c.args.body c.self.inside.names.entries c.self.inside.own.items c.self.invariant)

pub returns-clause-now : goal.returns-clause-now
returns-clause-now c =
    let v = c.self.inside.entries in
    let n = c.args.c.0 in
    let f = entry_with_body c.args.feature c.args.body in
    let new = c.swap_body.new.entries in
    let after : new ≡ changed_at n f v.items = c.swap_body.ensures.now ∙ ap (changed_at n f) c.deref_mut.ensures.value in
    let long : length new ≡ v.len = ap length after ∙ (length_changed f v.items n ∙ sym v.ok.0) in
    let is : (with_items v new).items ≡ changed_at n f v.items = with_items_is v new long ∙ after in
    ap classes is ∙ (seen_with_body v.items n c.args.feature c.args.body
    ∙ ap (λ (p : List Class). with_body_at p c.args.c c.args.feature c.args.body) c.self.view_is)
