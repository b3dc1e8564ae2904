-- If the numbers in all lines of assembly are within their ranges, so are those of the lines that a loop has still to process.
use Rattle.std.proofs.Common.{◌≡◌, ℕ, zero, suc, ◌+◌, ◌<◌, List, [], ◌∷◌, drop, ◌∙◌, true≢false, arith, subst}
use Rattle.mips_isa.specs.declared.line.Line as declared_line
use Rattle.mips_isa.specs.Lines.{line_of, lines_of, IsInRange, AreInRange}
use denote.Ref.{Bor}

-- the numbers of the lines from an index on are in their ranges
ranges_rest : (lines : List declared_line.Line) (k : ℕ) → AreInRange (lines_of lines) → AreInRange (lines_of (drop k lines))
ranges_rest lines zero h = h
ranges_rest [] (suc k) h = tt
ranges_rest (line ∷ rest) (suc k) h = ranges_rest rest k h.1

-- and so are those of the line at it
pub line_in_range : (lines : List declared_line.Line) (k : ℕ) (line : declared_line.Line) (rest : List declared_line.Line) → drop k lines ≡ line ∷ rest
    → AreInRange (lines_of lines) → IsInRange (line_of line).statement
line_in_range lines k line rest here h = (subst (λ (ls : List declared_line.Line). AreInRange (lines_of ls)) here (ranges_rest lines k h)).0
