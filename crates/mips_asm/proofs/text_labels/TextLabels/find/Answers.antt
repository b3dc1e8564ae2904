-- `TextLabels::find` returns the labels of lines that can be assembled. Such lines have no error, so the branch for an error is not reached.
use Rattle.std.proofs.Common.{◌≡◌, ◌∙◌, ap, sym, [], Option, Some, None, Err, subst}
use Rattle.mips_isa.specs.declared.asm_fault.AsmError.{AsmError}
use Rattle.mips_isa.specs.declared.place.Place.{Place}
use Rattle.mips_isa.specs.Lines.{Name, lines_of}
use Rattle.mips_isa.specs.Assembly.{start_position, first_pass}
use Rattle.mips_asm.specs.Passes.{FindsLabels}
use Rattle.mips_asm.specs.TextLabels.{address_or_start}
use Rattle.mips_asm.proofs.WordsOfText.{fine_lines}
use Rattle.mips_asm.proofs.text_labels.TextLabels.find.Goals as goal

pub returns-in-Ok-clause-labels : goal.returns-in-Ok-clause-labels
returns-in-Ok-clause-labels c = λ name.
    let text = c.find-text.result in
    ap (λ (place : Name → Option Place). address_or_start text.start text.end name (place name)) c.in-Ok.ensures.1 ∙ c.find-text.ensures.labels name

pub unreachable-requires : goal.unreachable-requires
unreachable-requires c =
    let lines = lines_of c.args.lines.now in
    let fine : first_pass [] start_position 1 lines ≡ None = fine_lines lines c.requires.image in
    let found : first_pass [] start_position 1 lines ≡ Some c.in-Err-Fault.field-0-0 =
    subst (λ (e : AsmError). FindsLabels lines (Err e)) c.in-Err-Fault.field-0-is c.in-Err-Fault.ensures in
    let both = sym fine ∙ found in
    cc
