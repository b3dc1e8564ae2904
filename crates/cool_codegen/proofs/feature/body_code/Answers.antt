-- `body_code` appends the code of the whole expression of a feature: it calls `expression` for the root node, whose tree is the whole tree.
use Rattle.std.proofs.Common.{◌++◌, length, map, ap, sym, subst, ◌∙◌, rules, arith}
use Rattle.mips_isa.specs.Lines.{lines_of}
use Rattle.cool_syntax.specs.TreesWithinLimits.{IsTreeWithin}
use Rattle.cool_rules.specs.TypedParts.{IsPart}
use Rattle.cool_consts.specs.Constants.{Constants}
use Rattle.cool_codegen.specs.Asked.{Extends, Keeps}
use Rattle.cool_codegen.specs.Numbered.{asked_at, lines_at, spans_at}
use Rattle.cool_codegen.specs.Shown.{shown_of}
use Rattle.cool_codegen.specs.CodeSettings.{context, typed_body}
use Rattle.cool_codegen.specs.Variables.{scope_of}
use Rattle.cool_rules.proofs.PartsStand.{whole_is_part}
use Rattle.cool_codegen.proofs.WholeBodies.{whole_asked, whole_lines, whole_size, whole_spans}
use Rattle.cool_codegen.proofs.feature.body_code.Goals as goal

pub expression-made-requires-clause-expression : goal.expression-made-requires-clause-expression
expression-made-requires-clause-expression c = record {
  part = subst (IsPart (typed_body c.args.setting.now) (scope_of c.args.variables)) (sym c.root-root.ensures.last) (whole_is_part (typed_body c.args.setting.now) (scope_of c.args.variables) c.requires.types);
  places = subst (IsTreeWithin (length c.args.setting.now.names.now)) (sym c.root-root.ensures.tree) c.requires.places;
}

pub expression-made-requires-clause-room : goal.expression-made-requires-clause-room
expression-made-requires-clause-room c =
    let size = whole_size c.args.setting.now.body.now c.root-root.result c.root-root.ensures.tree in
    let room = c.requires.room in
    let integers = ap (λ (t : Constants). length t.integers) c.replace.ensures.value in
    let strings = ap (λ (t : Constants). length t.strings) c.replace.ensures.value in
    record { deep = omega arith; integers = omega arith; strings = omega arith }

pub returns : goal.returns
returns c =
    let want = c.args.setting.now.wanted in
    let s = context c.args.setting.now in
    let b = c.args.setting.now.body.now in
    let root = c.root-root.result in
    let vs = c.args.variables in
    let before = lines_of c.args.lines.items in
    let made = c.in_ok-made.ensures.made in
    let asked = made.asked ∙ ap (λ (t : Constants). asked_at s.files b t root) c.replace.ensures.value in
    let all = asked ∙ whole_asked s.files b c.args.consts.now root c.root-root.ensures.last in
    record {
      made = record {
        lines = λ g more.
            made.lines
            ∙ ap (λ (t : Constants). before ++ lines_at s b t vs 0 root) c.replace.ensures.value
            ∙ ap (λ xs. before ++ xs) (whole_lines s b c.args.consts.now g vs root c.root-root.ensures.last (subst (λ (u : Constants). Extends u g) asked more));
        spans = λ g.
            made.spans
            ∙ ap (λ xs. map shown_of xs ++ spans_at want s b vs 0 (length before) root) c.new-2.ensures.items
            ∙ whole_spans want s b g vs (length before) root c.root-root.ensures.last;
        names = made.scope;
        integers = ap (λ (t : Constants). t.integers) all;
        strings = ap (λ (t : Constants). t.strings) all;
        kept = subst (λ (t : Constants). Keeps t c.expression-made.new.self.consts) c.replace.ensures.value made.kept;
      };
    }

pub returns-in_err-made : goal.returns-in_err-made
returns-in_err-made c = record {
  made = record {
    lines = search rules;
    spans = search rules;
    names = search rules;
    integers = search rules;
    strings = search rules;
    kept = subst (λ (t : Constants). Keeps t c.expression-made.new.self.consts) c.replace.ensures.value c.expression-made.ensures.made.kept;
  };
}
