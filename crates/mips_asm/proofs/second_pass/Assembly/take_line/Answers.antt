-- `Assembly::take_line` assembles one line, in three cases: the line has no error, it has one, or an earlier line has one.
use Rattle.std.proofs.Common.{◌≡◌, ◌+◌, ◌∙◌, length, sym, refl, subst, rules}
use Rattle.mips_isa.specs.declared.asm_fault.AsmError.{AsmError}
use Rattle.mips_isa.specs.Lines.{line_of}
use Rattle.mips_asm.specs.Places.{places_of}
use Rattle.mips_asm.specs.Parts.{IsError, statement_fault}
use Rattle.mips_asm.proofs.LinesLeft.{left_now, left_at_fault, left_more, left_at_line}
use Rattle.mips_asm.proofs.second_pass.Assembly.take_line.Goals as goal

pub returns-then-is_some : goal.returns-then-is_some
returns-then-is_some c = λ all rest h. left_at_fault (places_of c.args.labels.now) all rest (line_of c.args.line.now) c.args.self.now (sym c.is_some.ensures ∙ c.if-is_some.true) h

pub add-requires-clause-words : goal.add-requires-clause-words
add-requires-clause-words c = (left_now (places_of c.args.labels.now) _ _ c.args.self.now (sym c.is_some.ensures ∙ c.if-is_some.false) c.requires.next.1.1).words_fit

pub add-requires-clause-bytes : goal.add-requires-clause-bytes
add-requires-clause-bytes c = (left_now (places_of c.args.labels.now) _ _ c.args.self.now (sym c.is_some.ensures ∙ c.if-is_some.false) c.requires.next.1.1).bytes_fit

pub returns-in-Ok : goal.returns-in-Ok
returns-in-Ok c = λ all rest h.
    let old = c.args.self.now in
    let next : c.in-Some.number ≡ old.number + 1 = search rules in
    left_more (places_of c.args.labels.now) all rest (line_of c.args.line.now) old _ (sym c.is_some.ensures ∙ c.if-is_some.false) refl next
    c.in-Ok.ensures.checked c.in-Ok.ensures.text c.in-Ok.ensures.bytes c.in-Ok.ensures.segment h

pub returns-in-Err-Fault : goal.returns-in-Err-Fault
returns-in-Err-Fault c = λ all rest h.
    let old = c.args.self.now in
    let place = places_of c.args.labels.now in
    let told = subst (λ (e : AsmError). IsError old.number (statement_fault place (length old.output.text.items) (line_of c.args.line.now).statement) e) c.in-Err-Fault.field-0-is c.in-Err-Fault.ensures.error in
    left_at_line place all rest (line_of c.args.line.now) old _ c.in-Err-Fault.fault (sym c.is_some.ensures ∙ c.if-is_some.false) refl told h
