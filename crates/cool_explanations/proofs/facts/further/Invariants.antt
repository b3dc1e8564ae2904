-- In the loop of `further`, the text so far, followed by that of the methods that are left, is the text of the list of methods.
use Rattle.std.proofs.Common.{◌≡◌, ◌++◌, drop}
use Rattle.cool_faults.specs.Files.{bytes_of}
use Rattle.cool_explanations.specs.Facts.{further}
use Rattle.cool_explanations.proofs.facts.further.Given as goal

abbrev pub invariant-loop-method : goal.invariant-loop-method
invariant-loop-method l = l.words.items ++ further (bytes_of (drop l.method-index l.methods)) ≡ further (bytes_of l.methods)
