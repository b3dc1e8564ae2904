-- If `ClassTable::parent` returns a class, it is a class of the class table, because each parent is (`IsGrounded` of `Tables.antt`).
use Rattle.std.proofs.Common.{◌<◌, List, length, ap, sym, ◌∙◌, subst}
use Rattle.std.specs.Prelude.{IfSome}
use Rattle.cool_classes.specs.declared.entry.Entry.{Entry}
use Rattle.cool_classes.specs.Chains.{Class, parent_of}
use Rattle.cool_classes.specs.Entries.{classes, depth_at}
use Rattle.cool_classes.proofs.Climbs.{parent_within}
use Rattle.cool_classes.proofs.class_table.ClassTable.parent.Goals as goal

pub returns-clause-above : goal.returns-clause-above
returns-clause-above c =
    let es = c.self.inside.entries.items in
    let within = subst (λ (p : List Class). c.args.c.0 < length p) (sym c.self.view_is) c.requires.within in
    let is = sym (c.parent.ensures ∙ ap (λ (xs : List Entry). parent_of (classes xs) c.args.c) c.as_slice.ensures.value) in
    subst (λ (p : List Class). IfSome c.parent.result (λ q. q.0 < length p)) c.self.view_is
    (parent_within (classes es) (depth_at es) c.self.invariant.whole.grounded c.args.c within c.parent.result is)
