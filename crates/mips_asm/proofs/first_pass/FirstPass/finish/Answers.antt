-- `FirstPass::finish` adds the lines that define `__start`, if they are missing, and begins the second pass with the labels of all lines.
use Rattle.std.proofs.Common.{◌≡◌, ◌++◌, [], List, ap, sym, ◌∙◌, subst, rules}
use Rattle.mips_isa.specs.Lines.{Line, lines_of, AreInRange}
use Rattle.mips_isa.specs.Assembly.{start_position, first_pass, place_of}
use Rattle.mips_asm.specs.Places.{places_of}
use Rattle.mips_asm.proofs.PlacesOfMarks.{completed_fine}
use Rattle.mips_asm.proofs.LinesLeft.{begins, begins_at_fault}
use Rattle.mips_asm.proofs.first_pass.FirstPass.finish.Goals as goal

pub take-requires-clause-ranges : goal.take-requires-clause-ranges
take-requires-clause-ranges c = subst AreInRange (sym (ap lines_of c.deref.ensures.value)) c.in_ok-added.ensures.ranges

pub labels-requires : goal.labels-requires
labels-requires c = record { some = (c.requires.some.0 ++ lines_of c.deref.result.now, c.in_ok-take.ensures c.requires.some.0 c.requires.some.1) }

pub returns-in_err-labels : goal.returns-in_err-labels
returns-in_err-labels c = λ taken ranges h.
    let added = lines_of c.deref.result.now in
    begins_at_fault c.args.self taken added c.lacks_start.result (ap lines_of c.deref.ensures.value ∙ c.in_ok-added.ensures.lines) h c.lacks_start.ensures
    c.in_err-labels.field-0.0 (c.in_err-labels.ensures (taken ++ added) (c.in_ok-take.ensures taken h)) c.from_residual-in_err-labels.result (search rules)

pub returns : goal.returns
returns c = λ taken ranges h.
    let added = lines_of c.deref.result.now in
    let found = c.in_ok-labels.ensures (taken ++ added) (c.in_ok-take.ensures taken h) in
    let complete = completed_fine taken added c.lacks_start.result (ap lines_of c.deref.ensures.value ∙ c.in_ok-added.ensures.lines) c.args.self h c.lacks_start.ensures found.0 in
    let tail : lines_of c.new.result.added.items ≡ added = ap lines_of (c.new.ensures.added ∙ sym c.deref.ensures.value) in
    begins c.new.result taken (complete ∙ ap (λ (ls : List Line). taken ++ ls) (sym tail)) ranges
    (subst AreInRange (sym (ap lines_of c.new.ensures.added)) c.in_ok-added.ensures.ranges)
    (ap (λ (ls : List Line). first_pass [] start_position 1 (taken ++ ls)) tail ∙ found.0)
    (ap places_of c.new.ensures.labels ∙ found.1 ∙ ap (λ (ls : List Line). place_of (taken ++ ls)) (sym tail))
    c.new.ensures.fault c.new.ensures.number c.new.ensures.text c.new.ensures.bytes c.new.ensures.segment
