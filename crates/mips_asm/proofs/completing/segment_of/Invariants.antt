-- The loop of `segment_of` has passed only lines without the label that it searches for, so the answer for the remaining lines is the answer for all lines.
use Rattle.std.proofs.Common.{◌≡◌, drop}
use Rattle.mips_isa.specs.declared.place.Segment.TheVariants.{Text}
use Rattle.mips_isa.specs.Lines.{lines_of}
use Rattle.mips_asm.specs.Completing.{segment_of_name}
use Rattle.mips_asm.proofs.completing.segment_of.Given as goal

abbrev pub invariant-loop-line : goal.invariant-loop-line
invariant-loop-line l = segment_of_name l.segment (lines_of (drop l.line-index l.lines)) l.name ≡ segment_of_name Text (lines_of l.lines) l.name
