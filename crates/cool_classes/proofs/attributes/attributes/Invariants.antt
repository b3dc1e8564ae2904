-- The loop of `attributes` has added the attributes of the classes from position `index` of the chain (the class and its ancestors) up to Object.
use Rattle.std.proofs.Common.{◌≡◌, drop}
use Rattle.cool_classes.specs.Features.{attributes_of}
use Rattle.cool_classes.specs.Entries.{classes}
use Rattle.cool_classes.proofs.attributes.attributes.Given as goal

abbrev pub invariant-loop-index : goal.invariant-loop-index
invariant-loop-index l = l.attributes.items ≡ attributes_of (classes l.entries) (drop l.index l.ids.items)
