-- `make_int` appends the code that makes an Int object of a result (`int_code` of `Code.antt`), which has the label of the source file's name. This label is
-- the same in each table that extends the constant table after the call (`Extends`).
use Rattle.std.proofs.Common.{◌++◌, ap, ◌∙◌, append_assoc}
use Rattle.std.specs.Prelude.{codes}
use Rattle.mips_isa.specs.Lines.{lines_of}
use Rattle.cool_runtime.specs.RoutineLabels.{overflow_abort}
use Rattle.cool_runtime.specs.Routines.{new_int_lines}
use Rattle.cool_codegen.specs.Code.{file_label, label_at}
use Rattle.cool_codegen.specs.CodeSettings.{context}
use Rattle.cool_codegen.specs.Pieces.{ends_where_lines}
use Rattle.cool_codegen.proofs.operation.make_int.Goals as goal

pub returns-clause-lines : goal.returns-clause-lines
unfolding overflow_abort
returns-clause-lines c g more =
    let fits = c.deref.ensures.value ∙ c.in_ok-fits.ensures in
    let file = c.deref-2.ensures.value ∙ c.in_ok-file.ensures.label g more in
    let before = lines_of c.args.lines.now.items in
    let ends = c.in_ok-write.ensures.written ∙ ap (λ xs. before ++ xs) (c.ends_where.ensures ∙ (λ i. ends_where_lines (fits i) (file i) c.args.at.line overflow_abort)) in
    c.in_ok-write-2.ensures.written
    ∙ (λ i. ends i ++ c.new_int.ensures i)
    ∙ append_assoc before (ends_where_lines (label_at (context c.args.setting.now) (codes "fits") c.args.id) (file_label (context c.args.setting.now) g c.args.at) c.args.at.line overflow_abort) new_int_lines
