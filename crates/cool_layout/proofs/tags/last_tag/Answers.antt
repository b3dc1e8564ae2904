-- `last_tag` returns the greatest tag of a class and the classes below it. It is one less than the tag of the next class in preorder that is not below, or the
-- greatest of all tags if there is none.
use Rattle.std.proofs.Common.{◌-◌, sym, ap, ◌∙◌, arith}
use Rattle.cool_layout.proofs.LastTags.{tag_low, read_next, some_next, none_next}
use Rattle.cool_layout.proofs.tags.last_tag.Goals as goal

pub index-requires : goal.index-requires
index-requires c =
    let low = tag_low c.args.t.now c.requires.rooted c.args.walk.now c.requires.walk c.args.tags.now c.requires.tags c.args.class c.requires.within in
    let long = c.args.walk.now.next.ok in
    omega arith

pub bounds-tags-next : goal.bounds-tags-next
bounds-tags-next c =
    let read = read_next c.args.t.now c.requires.rooted c.args.walk.now c.requires.walk c.args.tags.now c.requires.tags c.args.class c.requires.within c.index.result.now c.index.ensures in
    (some_next c.args.t.now c.requires.rooted c.args.walk.now c.requires.walk c.args.tags.now c.requires.tags c.args.class c.requires.within c.in-Some.next (sym c.in-Some.is ∙ read)).0

pub overflow_sub-result : goal.overflow_sub-result
overflow_sub-result c =
    let read = read_next c.args.t.now c.requires.rooted c.args.walk.now c.requires.walk c.args.tags.now c.requires.tags c.args.class c.requires.within c.index.result.now c.index.ensures in
    (some_next c.args.t.now c.requires.rooted c.args.walk.now c.requires.walk c.args.tags.now c.requires.tags c.args.class c.requires.within c.in-Some.next (sym c.in-Some.is ∙ read)).1

pub returns-in-Some : goal.returns-in-Some
returns-in-Some c =
    let read = read_next c.args.t.now c.requires.rooted c.args.walk.now c.requires.walk c.args.tags.now c.requires.tags c.args.class c.requires.within c.index.result.now c.index.ensures in
    (some_next c.args.t.now c.requires.rooted c.args.walk.now c.requires.walk c.args.tags.now c.requires.tags c.args.class c.requires.within c.in-Some.next (sym c.in-Some.is ∙ read)).2

pub returns-in-None : goal.returns-in-None
returns-in-None c =
    let read = read_next c.args.t.now c.requires.rooted c.args.walk.now c.requires.walk c.args.tags.now c.requires.tags c.args.class c.requires.within c.index.result.now c.index.ensures in
    ap (λ n. n - 1) c.count.ensures.count ∙ none_next c.args.t.now c.requires.rooted c.args.walk.now c.requires.walk c.args.tags.now c.requires.tags c.args.class c.requires.within (sym c.in-None.is ∙ read)
