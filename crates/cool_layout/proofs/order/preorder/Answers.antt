-- `preorder` returns the classes in preorder, and for each class the next one that is not below it. Each step of its loop adds one class, and the classes that
-- remain become fewer.
use Rattle.std.proofs.Common.{◌≡◌, ◌<◌, List, ◌++◌, length, flat_map, sym, ap, ◌∙◌, subst}
use Rattle.std.specs.Prelude.{reverse, slice_get, ◌-◌}
use Rattle.cool_classes.specs.declared.class_id.ClassId.{ClassId}
use Rattle.cool_layout.specs.Preorder.{children, family}
use Rattle.cool_layout.proofs.Walking.{walking_step, fewer, last_within}
use Rattle.cool_layout.proofs.order.preorder.Goals as goal

pub loop-class-smaller : goal.loop-class-smaller
loop-class-smaller c =
    let p = c.args.t.now in
    let d : ClassId = c.in-Some.class in
    let rest : List ClassId = c.pop.new.self.items in
    let w = c.loop-class.invariant in
    let within = last_within p c.loop-class.order.items c.loop-class.next.items c.loop-class.waiting.items rest d c.in-Some.ensures.items w in
    let kids : c.as_slice-in-Some.result.now ≡ children p d =
    c.as_slice-in-Some.ensures.value ∙ ap (λ v. v.items) c.index.ensures ∙ c.in_ok-children.ensures.children.children d.0 c.index.result.now within in
    let now : c.add_reversed.new.waiting.items ≡ rest ++ reverse (children p d) = c.in_ok-add_reversed.ensures ∙ ap (λ (xs : List ClassId). rest ++ reverse xs) kids in
    subst (λ (xs : List ClassId). length (flat_map (family p) (reverse xs)) < length (flat_map (family p) (reverse c.loop-class.waiting.items))) (sym now)
    (fewer p c.loop-class.order.items c.loop-class.next.items c.loop-class.waiting.items rest d c.in-Some.ensures.items w)

pub loop-class-preserved : goal.loop-class-preserved
loop-class-preserved c =
    let p = c.args.t.now in
    let d : ClassId = c.in-Some.class in
    let rest : List ClassId = c.pop.new.self.items in
    let w = c.loop-class.invariant in
    let within = last_within p c.loop-class.order.items c.loop-class.next.items c.loop-class.waiting.items rest d c.in-Some.ensures.items w in
    let kids : c.as_slice-in-Some.result.now ≡ children p d =
    c.as_slice-in-Some.ensures.value ∙ ap (λ v. v.items) c.index.ensures ∙ c.in_ok-children.ensures.children.children d.0 c.index.result.now within in
    let now : c.add_reversed.new.waiting.items ≡ rest ++ reverse (children p d) = c.in_ok-add_reversed.ensures ∙ ap (λ (xs : List ClassId). rest ++ reverse xs) kids in
    let after : c.copied.result ≡ slice_get rest (length rest - 1) = c.copied.ensures ∙ c.last.ensures.value ∙ ap (λ (xs : List ClassId). slice_get xs (length xs - 1)) c.as_slice.ensures.value in
    let next = walking_step p c.loop-class.order.items c.loop-class.next.items c.loop-class.waiting.items rest d c.copied.result c.in-Some.ensures.items after w in
    rw (c.in_ok-push.ensures.items, c.in_ok-push-2.ensures.items, now) next
