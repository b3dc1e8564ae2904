-- The loop of `add_prototypes` has appended the prototypes (the objects that `new` copies) of the classes before the current one, and has stored the attributes
-- of these classes.
use Rattle.std.proofs.Common.{◌≡◌, ◌++◌, flat_map, take, length}
use Rattle.mips_isa.specs.Lines.{lines_of}
use Rattle.cool_layout.specs.AttributeLists.{AreAttributes}
use Rattle.cool_layout.specs.LinesOfLayout.{prototype_lines}
use Rattle.cool_layout.proofs.prototypes.add_prototypes.Given as goal

abbrev pub invariant-loop-tag : goal.invariant-loop-tag
invariant-loop-tag l =
    (lines_of l.lines.items ≡ lines_of l.fn.lines.items ++ flat_map (prototype_lines l.t) (take l.tag l.order)) × (length l.known.items ≡ l.tag) × AreAttributes l.t l.known.items
