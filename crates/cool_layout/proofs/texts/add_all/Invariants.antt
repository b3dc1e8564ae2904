-- The loop of `add_all` has appended the lines of the texts before the current one.
use Rattle.std.proofs.Common.{◌≡◌, ◌++◌, flat_map, take}
use Rattle.mips_isa.specs.Lines.{lines_of}
use Rattle.cool_runtime.specs.LinesOfData.{text_lines}
use Rattle.cool_layout.proofs.texts.add_all.Given as goal

abbrev pub invariant-loop-text : goal.invariant-loop-text
invariant-loop-text l = lines_of l.lines.items ≡ lines_of l.initial.lines.items ++ flat_map (λ text. text_lines text.name.now text.bytes.now) (take l.text-index l.texts)
