-- `count_above` returns the number of attributes of the parent of a class, which it reads at the tag of the parent. It returns 0 for a class without a parent.
use Rattle.std.proofs.Common.{ℕ, ◌<◌, length, Some, None, sym, ◌∙◌, subst, arith}
use Rattle.cool_layout.specs.Preorder.{tag}
use Rattle.cool_layout.specs.SlotTables.{IsAbove}
use Rattle.cool_layout.proofs.AttributesCounted.{above_by_tag, none_above}
use Rattle.cool_layout.proofs.offsets.count_above.Goals as goal

pub bounds-counts-above : goal.bounds-counts-above
bounds-counts-above c =
    let p = c.args.t.now in
    let up : IsAbove p (tag p c.args.class) (Some c.in-Some.above) = subst (IsAbove p (tag p c.args.class)) c.in-Some.is c.tag_above.ensures in
    let known = c.requires.known in
    let low = up.0 in
    omega arith

pub returns-in-Some : goal.returns-in-Some
returns-in-Some c =
    let p = c.args.t.now in
    let j : ℕ = c.in-Some.above in
    let up : IsAbove p (tag p c.args.class) (Some j) = subst (IsAbove p (tag p c.args.class)) c.in-Some.is c.tag_above.ensures in
    let known = c.requires.known in
    let below = up.0 in
    let low : j < length c.args.counts.now = omega arith in
    c.requires.counts j 0 low ∙ sym (above_by_tag p c.requires.rooted c.args.class c.requires.class j up)

pub returns-in-None : goal.returns-in-None
returns-in-None c =
    let p = c.args.t.now in
    let top : IsAbove p (tag p c.args.class) None = subst (IsAbove p (tag p c.args.class)) c.in-None.is c.tag_above.ensures in
    sym (none_above p c.requires.rooted c.args.class c.requires.class top)
