-- `test_divisor` appends the code that tests whether a divisor is 0 (`divisor_code` of `Code.antt`), which has the label of the source file's name. This label
-- is the same in each table that extends the constant table after the call (`Extends`).
use Rattle.std.proofs.Common.{◌++◌, ap, ◌∙◌, append_assoc}
use Rattle.std.specs.Prelude.{codes}
use Rattle.mips_isa.specs.Lines.{lines_of}
use Rattle.cool_runtime.specs.Labels.{div_abort}
use Rattle.cool_codegen.specs.Code.{file_label, label_at}
use Rattle.cool_codegen.specs.CodeSettings.{context}
use Rattle.cool_codegen.specs.Pieces.{is_zero_lines, ends_where_lines}
use Rattle.cool_codegen.proofs.operation.test_divisor.Goals as goal

pub returns-clause-lines : goal.returns-clause-lines
unfolding div_abort
returns-clause-lines c g more =
    let some = c.deref.ensures.value ∙ c.in_ok-some.ensures in
    let file = c.deref-2.ensures.value ∙ c.in_ok-file.ensures.label g more in
    let before = lines_of c.args.lines.now.items in
    let tests = c.in_ok-write.ensures.written ∙ ap (λ xs. before ++ xs) c.is_zero.ensures in
    let ends = c.ends_where.ensures ∙ (λ i. ends_where_lines (some i) (file i) c.args.at.line div_abort) in
    c.in_ok-write-2.ensures.written
    ∙ (λ i. tests i ++ ends i)
    ∙ append_assoc before is_zero_lines (ends_where_lines (label_at (context c.args.setting.now) (codes "some") c.args.id) (file_label (context c.args.setting.now) g c.args.at) c.args.at.line div_abort)
