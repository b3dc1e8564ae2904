-- `SecondPass::take` assembles the lines that it is given; the lines that define a missing `__start` stay to be assembled after all others (`HasLeft`).
use Rattle.std.proofs.Common.{◌++◌, List, append_assoc, subst}
use Rattle.mips_isa.specs.Lines.{Line, lines_of}
use Rattle.mips_asm.specs.Places.{places_of}
use Rattle.mips_asm.specs.SecondPasses.{IsLeft}
use Rattle.mips_asm.proofs.LinesLeft.{after_ok}
use Rattle.mips_asm.proofs.second_pass.SecondPass.take.Goals as goal

pub take-requires-clause-next : goal.take-requires-clause-next
take-requires-clause-next c =
    let pass = c.args.self.now in
    let tail = lines_of pass.added.items in
    let all = c.requires.due.0 in
    let rest = c.requires.due.1.0 in (
      all ++ tail,
      (
        rest ++ tail,
        subst (λ (ls : List Line). IsLeft (places_of pass.labels) (all ++ tail) ls pass.assembly) (append_assoc (lines_of c.args.lines.now) rest tail) c.requires.due.1.1.left,
      ),
    )

pub returns : goal.returns
returns c = λ all rest h.
    let pass = c.args.self.now in
    let tail = lines_of pass.added.items in
    after_ok c.take.result (λ k. record { completing = h.completing; ranges = h.ranges; fine = h.fine; left = k })
    (c.take.ensures (all ++ tail) (rest ++ tail)
    (subst (λ (ls : List Line). IsLeft (places_of pass.labels) (all ++ tail) ls pass.assembly) (append_assoc (lines_of c.args.lines.now) rest tail) h.left))
