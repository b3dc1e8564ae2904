-- `lacks_start` returns whether the assembler must add a `__start`: no line has this label, and `main` is a label in the text segment. It looks up the segment
-- of each label with `segment_of`.
use Rattle.std.proofs.Common.{Some, None, sym, ◌∙◌, refl}
use Rattle.mips_isa.specs.declared.place.Segment.TheVariants.{Text}
use Rattle.mips_isa.specs.Lines.{lines_of}
use Rattle.mips_isa.specs.Assembly.{main_name}
use Rattle.mips_asm.specs.Completing.{segment_of_name}
use Rattle.mips_asm.proofs.Completions.{lacks}
use Rattle.mips_asm.proofs.completing.lacks_start.Goals as goal

pub returns-in-Some : goal.returns-in-Some
returns-in-Some c =
    let lines = lines_of c.args.lines.now in
    lacks lines (Some c.in-Some.field-0) (segment_of_name Text lines main_name) (sym c.in-Some.is ∙ c.segment_of.ensures) refl

pub returns-in-None : goal.returns-in-None
returns-in-None c =
    c.is_text_segment.ensures ∙ lacks (lines_of c.args.lines.now) None c.segment_of-in-None.result (sym c.in-None.is ∙ c.segment_of.ensures) c.segment_of-in-None.ensures
