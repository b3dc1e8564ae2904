-- The loop of `counts_of` has counted the attributes and the new method names of each class before the current one.
use Rattle.cool_classes.specs.Entries.{classes}
use Rattle.cool_classes.specs.Lineages.{AreCounted}
use Rattle.cool_classes.proofs.feature_limits.counts_of.Given as goal

abbrev pub invariant-loop-index : goal.invariant-loop-index
invariant-loop-index l = AreCounted l.index (classes l.entries) l.attributes.items l.methods.items
