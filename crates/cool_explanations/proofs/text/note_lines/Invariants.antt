-- In the loop of `note_lines`, the text so far, followed by the lines of the sentences that are left, is the text of all sentences.
use Rattle.std.proofs.Common.{◌≡◌, ◌++◌, drop}
use Rattle.std.specs.List.{flat_map}
use Rattle.cool_faults.specs.Files.{bytes_of}
use Rattle.cool_explanations.specs.Texts.{note_line}
use Rattle.cool_explanations.proofs.text.note_lines.Given as goal

abbrev pub invariant-loop-words : goal.invariant-loop-words
invariant-loop-words l = l.text.items ++ flat_map note_line (bytes_of (drop l.words-index l.all)) ≡ flat_map note_line (bytes_of l.all)
