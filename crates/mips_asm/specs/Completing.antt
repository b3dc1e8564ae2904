-- `segment_of_name` finds the segment, text or data, of the first label of a name in lines of assembly.
use Rattle.std.specs.Prelude.{Bool, false, List, [], ◌∷◌, Option, None, Some, if◌then◌else◌}
use Rattle.mips_isa.specs.declared.place.Segment.{Segment}
use Rattle.mips_isa.specs.Lines.{Name, Line}
use Rattle.mips_isa.specs.Assembly.{is_text, Need, Nothing, Words, Item, Switch, Padding, need, has}

-- the segment that is open after a statement that needs this
abbrev pub segment_after_need : Need → Segment → Segment
segment_after_need Nothing segment = segment
segment_after_need (Words n) segment = segment
segment_after_need (Item unit size) segment = segment
segment_after_need (Switch other) segment = other
segment_after_need (Padding unit) segment = segment

-- the segment of the first label of this name, where the lines begin in a segment
abbrev pub segment_of_name : Segment → List Line → Name → Option Segment
segment_of_name segment [] name = None
segment_of_name segment (line ∷ rest) name =
    if has line.labels name then Some segment else segment_of_name (segment_after_need (need line.statement) segment) rest name

-- the segment of a label, if there is one, is the text
abbrev pub is_text_segment : Option Segment → Bool
is_text_segment None = false
is_text_segment (Some segment) = is_text segment
