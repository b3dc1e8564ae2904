-- The loop of `add_dispatch_tables` has appended the dispatch tables of the classes before the current one.
use Rattle.std.proofs.Common.{◌≡◌, ◌++◌, flat_map, take}
use Rattle.mips_isa.specs.Lines.{lines_of}
use Rattle.cool_layout.specs.LinesOfLayout.{dispatch_table_lines}
use Rattle.cool_layout.proofs.tables.add_dispatch_tables.Given as goal

abbrev pub invariant-loop-tag : goal.invariant-loop-tag
invariant-loop-tag l = lines_of l.lines.items ≡ lines_of l.fn.lines.items ++ flat_map (dispatch_table_lines l.t) (take l.tag l.order)
