-- `ClassTable::depth` returns the number of ancestors of a class, which is one less than the length of its chain: the list of the class and its ancestors.
use Rattle.std.proofs.Common.{◌+◌, ◌<◌, ℕ, List, length, Some, ap, sym, ◌∙◌, subst}
use Rattle.cool_classes.specs.declared.entry.Entry.{Entry}
use Rattle.cool_classes.specs.Chains.{Class, IsChain}
use Rattle.cool_classes.specs.Entries.{classes, depth_at}
use Rattle.cool_classes.proofs.Climbs.{chain_length}
use Rattle.cool_classes.proofs.class_table.ClassTable.depth.Goals as goal

pub returns : goal.returns
returns c ds h =
    let es = c.self.inside.entries.items in
    let chain = subst (λ (p : List Class). IsChain p (Some c.args.c) ds) (sym c.self.view_is) h in
    let within = subst (λ (p : List Class). c.args.c.0 < length p) (sym c.self.view_is) c.requires.within in
    chain_length (classes es) (depth_at es) c.self.invariant.whole.grounded c.args.c within ds chain
    ∙ ap (λ (n : ℕ). n + 1) (sym (c.depth.ensures ∙ ap (λ (xs : List Entry). depth_at xs c.args.c) c.as_slice.ensures.value))
