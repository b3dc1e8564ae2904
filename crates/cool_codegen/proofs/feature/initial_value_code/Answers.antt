-- `initial_value_code` returns the code of an initial value, followed by the store into the attribute. The spans (ranges of lines) of the initial value are
-- counted from line 0, because no line comes before it.
use Rattle.std.proofs.Common.{length, map, ◌∙◌, rules}
use Rattle.mips_isa.specs.Lines.{lines_of}
use Rattle.cool_codegen.specs.CodeSettings.{context}
use Rattle.cool_codegen.specs.Shown.{noted, shown}
use Rattle.cool_codegen.specs.Spans.{spans}
use Rattle.cool_codegen.proofs.feature.initial_value_code.Goals as goal

pub returns : goal.returns
returns c =
    let s = context c.args.setting.now in
    let made = c.in_ok-code.ensures.made in
    let scope = c.in_ok-variables.ensures.variables in
    record {
      made = record {
        lines = search (rules, made);
        spans = λ g. made.spans g ∙ (λ i. noted c.args.setting.now.wanted (map (shown s g) (spans length s g (scope i) 0 0 (length (lines_of (c.in_ok-lines.ensures.none i))) c.args.setting.now.body.now)));
        names = made.names ∙ scope;
        integers = made.integers;
        strings = made.strings;
        kept = made.kept;
      };
    }
