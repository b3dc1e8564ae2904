-- `Code::begin_case` appends the lines that begin a `case` (`case_begin_lines` of `Pieces.antt`), with the label of the source file's name. The constant table
-- has this name after the call of `file_label`, and the label is the one in that table.
use Rattle.std.proofs.Common.{◌≡◌, ◌++◌, ap, ◌∙◌}
use Rattle.mips_isa.specs.Lines.{lines_of}
use Rattle.cool_consts.specs.Constants.{Constants}
use Rattle.cool_codegen.specs.Code.{file_label, file_name}
use Rattle.cool_codegen.specs.Numbered.{with_bytes}
use Rattle.cool_codegen.specs.Pieces.{case_begin_lines}
use Rattle.cool_codegen.specs.CodeSettings.{context}
use Rattle.cool_codegen.proofs.NumbersAgree.{extends_same}
use Rattle.cool_codegen.proofs.code.Code.begin_case.Goals as goal

pub returns-clause-lines : goal.returns-clause-lines
returns-clause-lines c =
    let s = context c.args.self.now.setting in
    let now = c.file_label.new.consts in
    let asked : now ≡ with_bytes c.args.self.now.consts (file_name s c.args.at) = λ i. record { integers = c.file_label.ensures.integers i; strings = c.in_ok-file.ensures.strings i } in
    let file = c.deref.ensures.value ∙ c.in_ok-file.ensures.label now (extends_same now) ∙ ap (λ (t : Constants). file_label s t c.args.at) asked in
    c.in_ok-write.ensures.written
    ∙ ap (λ xs. lines_of c.args.self.now.lines.items ++ xs) (c.case_begin.ensures ∙ (λ i. case_begin_lines (file i) c.args.at.line))
