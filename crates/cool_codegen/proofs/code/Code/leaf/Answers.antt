-- `Code::leaf` appends the lines of a name, a constant or a new object (`node_lines` of `Numbered.antt`). An integer or a string has the label that the
-- constant table gives after `int_label` or `string_label`.
use Rattle.std.proofs.Common.{◌≡◌, ◌++◌, map, ap, refl, sym, ◌∙◌, rules, arith}
use Rattle.std.proofs.lemmas.Grind.{common_steps}
use Rattle.std.proofs.lemmas.List.{append-nil}
use Rattle.mips_isa.specs.Lines.{lines_of}
use Rattle.cool_codegen.specs.Code.{integer_label, string_label}
use Rattle.cool_codegen.specs.Numbered.{node_lines, node_spans, with_bytes, with_value}
use Rattle.cool_codegen.specs.Shown.{shown_of}
use Rattle.cool_codegen.specs.Pieces.{take_lines}
use Rattle.cool_codegen.specs.CodeSettings.{context}
use Rattle.cool_codegen.proofs.NumbersAgree.{extends_same}
use Rattle.cool_codegen.proofs.code.Code.leaf.Goals as goal

pub returns-in_ok-write-in-Int : goal.returns-in_ok-write-in-Int
returns-in_ok-write-in-Int c =
    let v = c.in-Int.value in
    let old = c.args.self.now.consts in
    let now = c.int_label.new.consts in
    let asked : now ≡ with_value old v = λ i. record { integers = c.in_ok-label-in-Int.ensures.integers i; strings = c.int_label.ensures.strings i } in
    let name = c.deref.ensures.value ∙ c.in_ok-label-in-Int.ensures.label now (extends_same now) ∙ ap (λ t. integer_label t v) asked in
    record {
      made = record {
        setting = refl;
        scope = refl;
        lines =
            c.in_ok-write-in-Int.ensures.written
            ∙ ap (λ xs. lines_of c.args.self.now.lines.items ++ xs) c.take.ensures
            ∙ ap (λ n. lines_of c.args.self.now.lines.items ++ take_lines n) name
            ∙ ap (λ n. lines_of c.args.self.now.lines.items ++ node_lines (context c.args.self.now.setting) c.args.self.now.setting.body.now old c.args.self.now.variables c.args.depth c.args.id n) (sym c.in-Int.is);
        spans =
            sym (append-nil (map shown_of c.args.self.now.spans.items))
            ∙ ap (λ n. map shown_of c.args.self.now.spans.items ++ node_spans c.args.self.now.setting.wanted (context c.args.self.now.setting) c.args.self.now.setting.body.now old c.args.self.now.variables c.args.depth (lines_of c.args.self.now.lines.items) c.args.id n) (sym c.in-Int.is);
        asked = search rules;
        more_integers = first_of (search rules, grind (arith, common_steps));
        more_strings = first_of (search rules, grind (arith, common_steps));
        kept = search rules;
      };
    }

pub returns-in_ok-write-in-Str : goal.returns-in_ok-write-in-Str
returns-in_ok-write-in-Str c =
    let v = c.as_slice.result.now in
    let old = c.args.self.now.consts in
    let now = c.string_label.new.consts in
    let asked : now ≡ with_bytes old v = λ i. record { integers = c.string_label.ensures.integers i; strings = c.in_ok-label-in-Str.ensures.strings i } in
    let name = c.deref-in-Str.ensures.value ∙ c.in_ok-label-in-Str.ensures.label now (extends_same now) ∙ ap (λ t. string_label t v) asked ∙ ap (λ b. string_label (with_bytes old b) b) c.as_slice.ensures in
    record {
      made = record {
        setting = refl;
        scope = refl;
        lines =
            c.in_ok-write-in-Str.ensures.written
            ∙ ap (λ xs. lines_of c.args.self.now.lines.items ++ xs) c.take-in-Str.ensures
            ∙ ap (λ n. lines_of c.args.self.now.lines.items ++ take_lines n) name
            ∙ ap (λ n. lines_of c.args.self.now.lines.items ++ node_lines (context c.args.self.now.setting) c.args.self.now.setting.body.now old c.args.self.now.variables c.args.depth c.args.id n) (sym c.in-Str.is);
        spans =
            sym (append-nil (map shown_of c.args.self.now.spans.items))
            ∙ ap (λ n. map shown_of c.args.self.now.spans.items ++ node_spans c.args.self.now.setting.wanted (context c.args.self.now.setting) c.args.self.now.setting.body.now old c.args.self.now.variables c.args.depth (lines_of c.args.self.now.lines.items) c.args.id n) (sym c.in-Str.is);
        asked = search rules;
        more_integers = first_of (search rules, grind (arith, common_steps));
        more_strings = first_of (search rules, grind (arith, common_steps));
        kept = search rules;
      };
    }
