-- `Code::end_span` sets the end of the span (range of lines) at a number to the number of lines so far, if spans are wanted.
use Rattle.std.proofs.Common.{◌∷◌, [], ◌++◌, length, ap, sym, ◌∙◌}
use Rattle.mips_isa.specs.Lines.{lines_of}
use Rattle.cool_codegen.specs.declared.code_setting.Wanted.{Wanted}
use Rattle.cool_codegen.specs.Shown.{ended, noted}
use Rattle.cool_codegen.proofs.SpansNoted.{as_many, replaced}
use Rattle.cool_codegen.proofs.code.Code.end_span.Goals as goal

pub returns-in-Spans-clause-spans : goal.returns-in-Spans-clause-spans
returns-in-Spans-clause-spans c before rest x has number =
    let wanted = c.in-Spans.is in
    replaced c.args.self.now.spans.items before rest x c.args.number c.index_mut.result.now c.len.result (has ∙ ap (λ (v : Wanted). before ++ (noted v (x ∷ []) ++ rest)) wanted) number c.index_mut.ensures.value (c.requires.begun wanted)
    ∙ ap (λ n. before ++ ended n x ∷ rest) (c.len.ensures ∙ c.args.self.now.lines.ok.0 ∙ sym (as_many c.args.self.now.lines.items))
    ∙ ap (λ (v : Wanted). before ++ (noted v (ended (length (lines_of c.args.self.now.lines.items)) x ∷ []) ++ rest)) (sym wanted)
