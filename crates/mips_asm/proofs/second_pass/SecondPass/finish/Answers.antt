-- `SecondPass::finish` assembles the lines that define a missing `__start`, after all other lines, and returns the image (the executable program) or the first
-- error.
use Rattle.std.proofs.Common.{◌≡◌, ◌++◌, [], List, append-nil, ap, sym, ◌∙◌, subst}
use Rattle.mips_isa.specs.Lines.{Line, lines_of, AreInRange}
use Rattle.mips_asm.specs.Places.{places_of}
use Rattle.mips_asm.specs.SecondPasses.{IsLeft, HasLeft}
use Rattle.mips_asm.specs.declared.second_pass.SecondPass.{SecondPass}
use Rattle.mips_isa.specs.declared.line.Line as declared_line
use Rattle.mips_asm.proofs.LinesLeft.{ends}
use Rattle.mips_asm.proofs.second_pass.SecondPass.finish.Goals as goal

-- the lines to add are what is left
added_left : (pass : SecondPass) (all : List Line) (added : List declared_line.Line) → added ≡ pass.added.items → HasLeft pass all []
    → IsLeft (places_of pass.labels) (all ++ lines_of pass.added.items) (lines_of added ++ []) pass.assembly
added_left pass all added same h =
    subst (λ (ls : List Line). IsLeft (places_of pass.labels) (all ++ lines_of pass.added.items) ls pass.assembly)
    (sym (append-nil (lines_of added) ∙ ap lines_of same)) h.left

pub take-requires-clause-next : goal.take-requires-clause-next
take-requires-clause-next c =
    let pass = c.args.self in
    (c.requires.done.0 ++ lines_of pass.added.items, ([], added_left pass c.requires.done.0 c.deref.result.now c.deref.ensures.value c.requires.done.1))

pub take-requires-clause-ranges : goal.take-requires-clause-ranges
take-requires-clause-ranges c = subst AreInRange (sym (ap lines_of c.deref.ensures.value)) c.requires.done.1.ranges

pub finish-requires : goal.finish-requires
finish-requires c =
    let pass = c.args.self in
    let all = c.requires.done.0 ++ lines_of pass.added.items in
    record { next = (all, ([], c.in_ok-take.ensures all [] (added_left pass c.requires.done.0 c.deref.result.now c.deref.ensures.value c.requires.done.1))) }

pub returns : goal.returns
returns c = λ lines h.
    let pass = c.args.self in
    let all = lines ++ lines_of pass.added.items in
    ends lines all c.finish.result h.completing h.fine (c.finish.ensures all (c.in_ok-take.ensures all [] (added_left pass lines c.deref.result.now c.deref.ensures.value h)))
