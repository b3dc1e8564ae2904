-- In the loop of `fact_lines`, the text so far, followed by the lines of the facts that are left, is the text of all facts.
use Rattle.std.proofs.Common.{◌≡◌, ◌++◌, drop}
use Rattle.std.specs.List.{flat_map}
use Rattle.cool_faults.specs.Files.{bytes_of}
use Rattle.cool_explanations.specs.Lines.{fact_line}
use Rattle.cool_explanations.proofs.lines.fact_lines.Given as goal

abbrev pub invariant-loop-words : goal.invariant-loop-words
invariant-loop-words l = l.text.items ++ flat_map fact_line (bytes_of (drop l.words-index l.all)) ≡ flat_map fact_line (bytes_of l.all)
