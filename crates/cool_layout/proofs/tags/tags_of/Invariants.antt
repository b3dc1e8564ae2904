-- The loop of `tags_of` has stored the tag of each class whose tag is below the current one.
use Rattle.std.proofs.Common.{◌≡◌, ◌<◌, length, get_or}
use Rattle.cool_classes.specs.declared.class_id.ClassId.{ClassId}
use Rattle.cool_layout.specs.Preorder.{tag}
use Rattle.cool_layout.proofs.tags.tags_of.Given as goal

abbrev pub invariant-loop-tag : goal.invariant-loop-tag
invariant-loop-tag l = (length l.tags.items ≡ length l.t) × ((c : ClassId) → c.0 < length l.t → tag l.t c < l.tag → get_or l.tags.items c.0 0 ≡ tag l.t c)
