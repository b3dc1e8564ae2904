-- `Assembly::finish`, called after the last line, returns the image (the executable program) that the definition gives, or its first error.
use Rattle.std.proofs.Common.{◌≡◌, [], refl, Some, None, Option}
use Rattle.mips_isa.specs.declared.asm_fault.AsmFault.{AsmFault}
use Rattle.mips_isa.specs.Assembly.{start_name}
use Rattle.mips_asm.specs.Places.{places_of}
use Rattle.mips_asm.proofs.AllAssembled.{word_place, answer_at_end}
use Rattle.mips_asm.proofs.LinesLeft.{left_here}
use Rattle.mips_asm.proofs.second_pass.Assembly.finish.Goals as goal

-- no fault is there
no_fault : (o : Option AsmFault) → ((f : AsmFault) → o ≡ Some f → ⊥) → o ≡ None
no_fault None h = refl
no_fault (Some f) h = absurd (h f refl)

pub finish-requires-clause-start : goal.finish-requires-clause-start
finish-requires-clause-start c = word_place (places_of c.args.labels.now) c.requires.next.0 start_name c.requires.next.1.1.places

pub returns : goal.returns
returns c = λ all h.
    let none : c.args.self.fault ≡ None = no_fault c.args.self.fault c.in_default.not-Some in
    answer_at_end (places_of c.args.labels.now) all _ _ _ _ c.finish.result h.places (left_here (places_of c.args.labels.now) all [] c.args.self none h)
    c.finish.ensures.checked c.finish.ensures.image c.finish.ensures.error
