-- `tag_above` returns the tag of the parent of a class, or none if there is no parent. The tag of the parent is less than that of the class.
use Rattle.std.proofs.Common.{ℕ, Some, sym, subst}
use Rattle.cool_layout.specs.Preorder.{tag}
use Rattle.cool_layout.specs.SlotTables.{IsAbove}
use Rattle.cool_layout.proofs.TablesInOrder.{parent_tag}
use Rattle.cool_layout.proofs.slots.tag_above.Goals as goal

pub returns-in-Some : goal.returns-in-Some
returns-in-Some c =
    let p = c.args.t.now in
    let q = c.in-Some.above in
    subst (λ (n : ℕ). IsAbove p (tag p c.args.class) (Some n)) (sym (c.requires.tags.tag_is q c.in-Some.ensures.above)) (parent_tag p c.requires.rooted c.args.class q c.requires.class (sym c.in-Some.ensures.parent))
