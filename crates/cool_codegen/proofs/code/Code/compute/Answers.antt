-- `Code::compute` appends the code of an arithmetic operation on two operands, and of the new Int object for its result (`operation_lines` of `Numbered.antt`).
-- Its labels are those of the constant table after `make_int`, which only extends the table that `operate` leaves.
use Rattle.std.proofs.Common.{◌≡◌, ◌++◌, [], ◌∷◌, ap, subst, ◌∙◌, append_assoc}
use Rattle.mips_isa.specs.Lines.{lines_of}
use Rattle.cool_consts.specs.Constants.{Constants, with_string}
use Rattle.cool_codegen.specs.Asked.{Extends}
use Rattle.cool_codegen.specs.Code.{file_name, int_code, operation_code}
use Rattle.cool_codegen.specs.Numbered.{with_bytes}
use Rattle.cool_codegen.specs.Pieces.{values_lines}
use Rattle.cool_codegen.specs.CodeSettings.{context}
use Rattle.cool_codegen.proofs.NumbersAgree.{extends_before, extends_same}
use Rattle.cool_codegen.proofs.OperationsAsk.{asked_is}
use Rattle.cool_codegen.proofs.code.Code.compute.Goals as goal

pub returns-clause-lines : goal.returns-clause-lines
returns-clause-lines c =
    let s = context c.args.self.now.setting in
    let op = c.args.op in
    let at = c.args.at in
    let id = c.args.id in
    let old = c.args.self.now.consts in
    let between = c.operate.new.consts in
    let now = c.make_int.new.consts in
    let file = file_name s at in
    let last : now ≡ with_bytes between file = λ i. record { integers = c.make_int.ensures.integers i; strings = c.in_ok-make_int.ensures.strings i } in
    let is = asked_is s.files op at old now (c.make_int.ensures.integers ∙ c.operate.ensures.integers) (c.in_ok-make_int.ensures.strings ∙ ap (λ xs. with_string xs file) c.in_ok-operate.ensures.strings) in
    let more = extends_before between now [] (file ∷ []) (subst (λ (u : Constants). Extends u now) last (extends_same now)) in
    c.in_ok-make_int.ensures.lines now (extends_same now)
    ∙ ap (λ xs. xs ++ int_code s now at id) (c.in_ok-operate.ensures.lines now more ∙ ap (λ xs. xs ++ operation_code s now op at id) (c.in_ok-write.ensures.written ∙ ap (λ xs. lines_of c.args.self.now.lines.items ++ xs) c.values.ensures) ∙ append_assoc (lines_of c.args.self.now.lines.items) values_lines (operation_code s now op at id))
    ∙ append_assoc (lines_of c.args.self.now.lines.items) (values_lines ++ operation_code s now op at id) (int_code s now at id)
    ∙ ap (λ xs. lines_of c.args.self.now.lines.items ++ xs) (append_assoc values_lines (operation_code s now op at id) (int_code s now at id))
    ∙ ap (λ g. lines_of c.args.self.now.lines.items ++ (values_lines ++ (operation_code s g op at id ++ int_code s g at id))) is
