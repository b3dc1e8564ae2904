-- In the loop of `of_parts`, the text so far, followed by that of the parts that are left, is the whole text.
use Rattle.std.proofs.Common.{◌≡◌, ◌++◌, drop, flat_map}
use Rattle.cool_listings.specs.NodeTexts.{parts_text}
use Rattle.cool_listings.proofs.node_text.of_parts.Given as goal

abbrev pub invariant-loop-part : goal.invariant-loop-part
invariant-loop-part l = l.text.items ++ parts_text (drop l.part-index l.parts) ≡ l.word ++ parts_text l.parts
