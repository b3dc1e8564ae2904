-- `method_code` returns the label of a method, the lines that set up its frame (`enter_lines`), the code of its body and the lines that return (`leave_lines`).
-- The spans (ranges of lines) of the body are counted from the first line after `enter_lines`.
use Rattle.std.proofs.Common.{◌≡◌, ◌+◌, ◌*◌, ◌++◌, length, map, ap, ◌∙◌, append_assoc, rules, arith}
use Rattle.std.specs.Prelude.{pos}
use Rattle.std.proofs.lemmas.List.{length-append}
use Rattle.mips_isa.specs.Lines.{lines_of}
use Rattle.cool_classes.specs.declared.method.MethodRef.TheVariants.{User}
use Rattle.cool_runtime.specs.CodeOfCalls.{enter_lines}
use Rattle.cool_layout.specs.Labels.{method_label}
use Rattle.cool_codegen.specs.Code.{code}
use Rattle.cool_codegen.specs.Features.{attributes_in, with_formals}
use Rattle.cool_codegen.specs.Pieces.{leave_lines, mark_lines}
use Rattle.cool_codegen.specs.CodeSettings.{context}
use Rattle.cool_codegen.specs.Shown.{noted, shown}
use Rattle.cool_codegen.specs.Spans.{spans}
use Rattle.cool_codegen.proofs.feature.method_code.Goals as goal

pub returns : goal.returns
returns c =
    let s = context c.args.setting.now in
    let p = c.args.setting.now.table.now in
    let fs = c.args.formals.now in
    let made = c.in_ok-code.ensures.made in
    let scope = c.in_ok-formal_variables.ensures.variables ∙ ap (with_formals p fs) c.in_ok-variables.ensures.variables in
    let mark = mark_lines (method_label p (User s.class s.feature)) in
    let entered : lines_of c.write-2.new.lines.items ≡ mark ++ enter_lines = search rules in
    let from : length (lines_of c.write-2.new.lines.items) ≡ 0 + length mark + length enter_lines = omega (arith, ap length entered, length-append mark enter_lines) in
    let leave = leave_lines (pos (12 + 4 * length fs)) in
    let left : lines_of c.write-3.new.lines.items ≡ lines_of c.in_ok-code.code.lines.items ++ leave = search rules in
    record {
      made = record {
        lines = λ g more.
            left ∙ (λ i. (made.lines g more ∙ (λ j. entered j ++ code s g (scope j) 0 0 c.args.setting.now.body.now)) i ++ leave)
            ∙ append_assoc (mark ++ enter_lines) (code s g (with_formals p fs (attributes_in p s.class)) 0 0 c.args.setting.now.body.now) leave
            ∙ append_assoc mark enter_lines (code s g (with_formals p fs (attributes_in p s.class)) 0 0 c.args.setting.now.body.now ++ leave);
        spans = λ g. made.spans g ∙ (λ i. noted c.args.setting.now.wanted (map (shown s g) (spans length s g (scope i) 0 0 (from i) c.args.setting.now.body.now)));
        names = made.names ∙ scope;
        integers = made.integers;
        strings = made.strings;
        kept = made.kept;
      };
    }
