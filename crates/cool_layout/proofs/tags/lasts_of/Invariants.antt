-- The loop of `lasts_of` has added the last tag of each class before the current one: the greatest tag of the class and those below it.
use Rattle.std.proofs.Common.{◌≡◌, ◌<◌, length, get_or}
use Rattle.cool_classes.specs.declared.class_id.ClassId.{ClassId}
use Rattle.cool_layout.specs.Preorder.{last_tag}
use Rattle.cool_layout.proofs.tags.lasts_of.Given as goal

abbrev pub invariant-loop-number : goal.invariant-loop-number
invariant-loop-number l = (length l.lasts.items ≡ l.number) × ((c : ClassId) → c.0 < l.number → get_or l.lasts.items c.0 0 ≡ last_tag l.t c)
