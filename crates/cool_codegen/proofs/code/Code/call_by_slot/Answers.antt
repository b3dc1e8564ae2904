-- `Code::call_by_slot` appends the call of a method through the dispatch table (`slot_code` of `Code.antt`), with the label of the source file's name. The
-- constant table has this name after the call of `file_label`, and the label is the one in that table.
use Rattle.std.proofs.Common.{◌≡◌, ◌++◌, ap, ◌∙◌, rules, arith, w32}
use Rattle.std.proofs.lemmas.Int.{to_z-of_z}
use Rattle.mips_isa.specs.Lines.{lines_of}
use Rattle.cool_consts.specs.Constants.{Constants}
use Rattle.cool_codegen.specs.Code.{file_label, file_name}
use Rattle.cool_codegen.specs.Numbered.{with_bytes}
use Rattle.cool_codegen.specs.Pieces.{call_lines}
use Rattle.cool_codegen.specs.CodeSettings.{context}
use Rattle.cool_codegen.proofs.NumbersAgree.{extends_same}
use Rattle.cool_codegen.proofs.code.Code.call_by_slot.Goals as goal

pub returns-clause-lines : goal.returns-clause-lines
returns-clause-lines c =
    let s = context c.args.self.now.setting in
    let now = c.file_label.new.consts in
    let asked : now ≡ with_bytes c.args.self.now.consts (file_name s c.args.at) = λ i. record { integers = c.file_label.ensures.integers i; strings = c.in_ok-file.ensures.strings i } in
    let file = c.deref.ensures.value ∙ c.in_ok-file.ensures.label now (extends_same now) ∙ ap (λ (t : Constants). file_label s t c.args.at) asked in
    let offset = to_z-of_z w32 c.slot_offset-offset.result (search (rules, arith)) ∙ c.slot_offset-offset.ensures in
    c.in_ok-write.ensures.written
    ∙ ap (λ xs. lines_of c.args.self.now.lines.items ++ xs) (c.call.ensures ∙ (λ i. call_lines (file i) c.args.at.line (offset i)))
