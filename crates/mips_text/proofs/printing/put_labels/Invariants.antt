use Rattle.std.proofs.Common.{◌≡◌, ◌++◌, drop, flat_map}
use Rattle.mips_text.specs.Printing.{label_text}
use Rattle.mips_text.proofs.printing.put_labels.Given as goal

abbrev pub invariant-loop-label : goal.invariant-loop-label
invariant-loop-label l = l.out.items ++ flat_map label_text (drop l.label-index l.labels) ≡ l.initial.out.items ++ flat_map label_text l.labels
