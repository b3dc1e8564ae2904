-- In the loop of `facts`, the facts about a compile-time error so far, followed by the further sentences that are left, are all facts.
use Rattle.std.proofs.Common.{◌≡◌, ◌++◌, drop}
use Rattle.cool_faults.specs.Files.{bytes_of}
use Rattle.cool_explanations.specs.Facts.{facts}
use Rattle.cool_explanations.proofs.facts.facts.Given as goal

abbrev pub invariant-loop-words : goal.invariant-loop-words
invariant-loop-words l = bytes_of l.all.items ++ bytes_of (drop l.words-index l.told.said.items) ≡ facts l.file l.told
