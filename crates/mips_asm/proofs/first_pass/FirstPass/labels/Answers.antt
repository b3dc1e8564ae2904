-- `FirstPass::labels` returns the labels of the lines that were taken, with the segments and addresses that `place_of` defines, or the first error of these
-- lines.
use Rattle.std.proofs.Common.{◌≡◌, ◌+◌, ◌++◌, ◌∷◌, [], ap, ◌∙◌, refl, arith, Some, None, Option}
use Rattle.mips_isa.specs.declared.asm_fault.AsmFault.{AsmFault}
use Rattle.mips_isa.specs.Assembly.{Position}
use Rattle.mips_asm.specs.Passes.{shown}
use Rattle.mips_asm.proofs.FirstPasses.{fault_of_taken, passed, taken_fits}
use Rattle.mips_asm.proofs.PlacesOfMarks.{places_found}
use Rattle.mips_asm.proofs.first_pass.FirstPass.labels.Goals as goal

-- no fault is there
no_fault : (o : Option AsmFault) → ((f : AsmFault) → o ≡ Some f → ⊥) → o ≡ None
no_fault None h = refl
no_fault (Some f) h = absurd (h f refl)

pub returns-in-Some : goal.returns-in-Some
returns-in-Some c = λ taken h. fault_of_taken c.args.self taken c.in-Some.fault c.in-Some.is h

pub overflow_add-self : goal.overflow_add-self
overflow_add-self c =
    let none : c.args.self.fault ≡ None = no_fault c.args.self.fault c.in_default.not-Some in
    let fits = taken_fits c.args.self c.requires.some.0 none c.requires.some.1 in
    let bytes = fits.bytes_fit in
    omega arith

pub returns : goal.returns
returns c = λ taken h.
    let none : c.args.self.fault ≡ None = no_fault c.args.self.fault c.in_default.not-Some in
    let d = passed c.args.self taken none h in (
      d.fine,
      places_found c.new.result (shown c.args.self.table.entries) c.args.self.items.items c.args.self.position.bytes taken
          (c.new.ensures ∙ ap (λ items. (shown c.args.self.table.entries, items)) c.in_ok-push.ensures.items) d.table d.items (ap (λ (p : Position). p.bytes) d.position),
    )
