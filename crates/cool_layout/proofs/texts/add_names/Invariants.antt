-- The loop of `add_names` has appended the lines of the String objects with the names of the classes before the current one.
use Rattle.std.proofs.Common.{◌≡◌, ◌++◌, flat_map, take}
use Rattle.mips_isa.specs.Lines.{lines_of}
use Rattle.cool_layout.specs.LinesOfLayout.{name_lines}
use Rattle.cool_layout.proofs.texts.add_names.Given as goal

abbrev pub invariant-loop-class : goal.invariant-loop-class
invariant-loop-class l = lines_of l.lines.items ≡ lines_of l.initial.lines.items ++ flat_map (name_lines l.t) (take l.class-index l.order)
