-- In the loop of `add_lines`, the assembly lines of the drafts (lines that borrow their labels) before the current one are appended, and the lines from before
-- the call are kept.
use Rattle.std.proofs.Common.{◌≡◌, ◌++◌, length, map, take}
use Rattle.mips_isa.specs.Lines.{lines_of}
use Rattle.cool_runtime.specs.Drafts.{drafted}
use Rattle.cool_runtime.proofs.draft.add_lines.Given as goal

abbrev pub invariant-loop-draft : goal.invariant-loop-draft
invariant-loop-draft l =
    (lines_of l.lines.items ≡ lines_of l.initial.lines.items ++ map drafted (take l.draft-index l.drafts))
    × (take (length l.initial.lines.items) l.lines.items ≡ l.initial.lines.items)
