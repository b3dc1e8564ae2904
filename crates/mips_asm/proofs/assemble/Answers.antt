-- `assemble` passes all lines to the first pass at once, and then to the second pass at once. It returns the image (the executable program) or the first error
-- that the definition `Assembles` demands, because `SecondPass::finish` does.
use Rattle.std.proofs.Common.{[], append-nil, sym, subst}
use Rattle.mips_isa.specs.Lines.{lines_of}
use Rattle.mips_asm.specs.SecondPasses.{HasLeft}
use Rattle.mips_asm.proofs.assemble.Goals as goal

pub finish-requires-2 : goal.finish-requires-2
finish-requires-2 c =
    let lines = lines_of c.args.lines.now in
    let begun = c.in_ok-second.ensures lines c.requires.ranges (c.in_ok-take.ensures [] c.new-first.ensures) in
    record { done = (lines, c.in_ok-take-2.ensures lines [] (subst (HasLeft c.in_ok-second.second lines) (sym (append-nil lines)) begun)) }

pub returns : goal.returns
returns c =
    let lines = lines_of c.args.lines.now in
    let begun = c.in_ok-second.ensures lines c.requires.ranges (c.in_ok-take.ensures [] c.new-first.ensures) in
    c.finish-2.ensures lines (c.in_ok-take-2.ensures lines [] (subst (HasLeft c.in_ok-second.second lines) (sym (append-nil lines)) begun))
