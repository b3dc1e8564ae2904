-- In the loop of `class_text`, the text so far, followed by the lines of the features that are left, is the text of the class.
use Rattle.std.proofs.Common.{◌≡◌, ◌++◌, drop, flat_map}
use Rattle.std.specs.Option.{option_map}
use Rattle.cool_extents.specs.FoundExtents.{found_extents}
use Rattle.cool_listings.specs.TreeLines.{class_text, column_of, feature_text}
use Rattle.cool_listings.proofs.trees.class_text.Given as goal

abbrev pub invariant-loop-index : goal.invariant-loop-index
invariant-loop-index l =
    l.text.items ++ flat_map (λ feature. feature_text (column_of (option_map (λ p. p.now) l.program) l.number feature) (found_extents l.tokens) feature) (drop l.index l.features)
    ≡ class_text (option_map (λ p. p.now) l.program) (found_extents l.tokens) l.number l.fn.class
