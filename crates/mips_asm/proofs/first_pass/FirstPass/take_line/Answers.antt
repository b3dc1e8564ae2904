-- `FirstPass::take_line` keeps the invariant of the first pass (`HasTaken`) for one more line, in three cases: the line has no error, it has one, or an earlier
-- line has one.
use Rattle.std.proofs.Common.{◌≡◌, ◌∙◌, ◌+◌, ◌++◌, length, ap, sym, refl, subst, None, Err, rules}
use Rattle.mips_isa.specs.declared.asm_fault.AsmError.{AsmError}
use Rattle.mips_isa.specs.Lines.{line_of}
use Rattle.mips_isa.specs.Assembly.{Need}
use Rattle.mips_asm.specs.declared.mark.Mark.{Mark}
use Rattle.mips_asm.specs.Passes.{shown, item_in, mark_in, marked, Steps}
use Rattle.mips_asm.proofs.FirstPasses.{taken_fits, taken_at_fault, taken_more, passed, passed_fault}
use Rattle.mips_asm.proofs.first_pass.FirstPass.take_line.Goals as goal
use Rattle.lists.proofs.Options.{none_is}

pub returns-then-is_some : goal.returns-then-is_some
returns-then-is_some c = λ taken h. taken_at_fault c.args.self.now taken (line_of c.args.line.now) (sym c.is_some.ensures ∙ c.if-is_some.true) h

pub mark_at-mark-requires : goal.mark_at-mark-requires
mark_at-mark-requires c =
    let none : c.args.self.now.fault ≡ None = none_is c.args.self.now.fault (sym c.is_some.ensures ∙ c.if-is_some.false) in
    record { words = (taken_fits c.args.self.now c.requires.some.0 none c.requires.some.1).words_fit }

pub step-requires-clause-fits : goal.step-requires-clause-fits
step-requires-clause-fits c =
    let none : c.args.self.now.fault ≡ None = none_is c.args.self.now.fault (sym c.is_some.ensures ∙ c.if-is_some.false) in
    taken_fits c.args.self.now c.requires.some.0 none c.requires.some.1

pub returns-in_ok-add_item-in-Ok : goal.returns-in_ok-add_item-in-Ok
returns-in_ok-add_item-in-Ok c = λ taken h.
    let pass = c.args.self.now in
    let labels = c.args.line.now.labels in
    let next : c.in-Some.number ≡ pass.lines + 1 = search rules in
    let count : c.len.result ≡ length pass.items.items = search rules in
    let mark : c.mark_at-mark.result ≡ mark_in pass.position.segment pass.position.words (length pass.items.items) =
    c.mark_at-mark.ensures ∙ ap (mark_in pass.position.segment pass.position.words) count in
    taken_more pass (record {
      alloc = pass.alloc;
      table = c.step.new.table;
      items = c.add_item.new.items;
      position = c.in-Ok.next;
      lines = c.in-Some.number;
      fault = pass.fault;
    }) taken (line_of c.args.line.now) (sym c.is_some.ensures ∙ c.if-is_some.false) refl c.in-Ok.ensures.0
    (c.in-Ok.ensures.2 ∙ ap (λ (m : Mark). shown pass.table.entries ++ marked m labels) mark)
    (c.in_ok-add_item-in-Ok.ensures ∙ ap (λ (n : Need). pass.items.items ++ item_in n pass.position.bytes) c.need_of_statement.ensures.exact)
    c.in-Ok.ensures.1 next h

pub returns-in-Err-Fault : goal.returns-in-Err-Fault
returns-in-Err-Fault c = λ taken h.
    let pass = c.args.self.now in
    let next : c.in-Some.number ≡ pass.lines + 1 = search rules in
    let told = subst (λ (e : AsmError). Steps (shown pass.table.entries) pass.position (line_of c.args.line.now) c.mark_at-mark.result c.in-Some.number (Err e) (shown c.step.new.table.entries)) c.in-Err-Fault.field-0-is c.in-Err-Fault.ensures in
    passed_fault pass taken (line_of c.args.line.now) c.in-Err-Fault.fault (passed pass taken (none_is pass.fault (sym c.is_some.ensures ∙ c.if-is_some.false)) h) told.0 (told.1 ∙ next)
