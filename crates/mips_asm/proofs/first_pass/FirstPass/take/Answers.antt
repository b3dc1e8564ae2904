-- `FirstPass::take` keeps the invariant of the first pass (`HasTaken`) for all the lines that it is given, because each iteration of its loop takes one line.
use Rattle.std.proofs.Common.{◌≡◌, ◌+◌, ◌∷◌, [], drop, List, subst}
use Rattle.std.proofs.lemmas.List.{drop_all}
use Rattle.mips_isa.specs.declared.line.Line as declared_line
use Rattle.mips_isa.specs.Lines.{line_of, lines_of}
use Rattle.mips_asm.proofs.LoopRests.{line_in_range}
use Rattle.mips_asm.proofs.FirstPasses.{Taking, taking_start, taking_more, taking_end}
use Rattle.mips_asm.proofs.first_pass.FirstPass.take.Goals as goal
use Rattle.lists.proofs.ItemsLeft.{drop_one}

pub loop-line-init : goal.loop-line-init
loop-line-init c = λ taken h. taking_start c.args.self.now taken (lines_of c.args.lines.now) h

pub take_line-requires-clause-some : goal.take_line-requires-clause-some
take_line-requires-clause-some c = let t = c.loop-line.invariant c.requires.some.0 c.requires.some.1 in (t.0, t.1.0)

pub take_line-requires-clause-range : goal.take_line-requires-clause-range
take_line-requires-clause-range c =
    line_in_range c.args.lines.now c.loop-line.line-index c.line-item.result (drop (c.loop-line.line-index + 1) c.args.lines.now)
    (drop_one c.args.lines.now c.loop-line.line-index c.line-item.result c.loop-line-test.true c.line-item.is) c.requires.ranges

pub loop-line-preserved : goal.loop-line-preserved
loop-line-preserved c = λ taken h.
    let lines = c.args.lines.now in
    let here = drop_one lines c.loop-line.line-index c.line-item.result c.loop-line-test.true c.line-item.is in
    taking_more c.loop-line.self c.take_line.new.self taken (lines_of lines) (lines_of (drop (c.loop-line.line-index + 1) lines)) (line_of c.line-item.result)
    (subst (λ (rest : List declared_line.Line). Taking c.loop-line.self taken (lines_of lines) (lines_of rest)) here (c.loop-line.invariant taken h)) c.in_ok-take_line.ensures

pub returns : goal.returns
returns c = λ taken h.
    let lines = c.args.lines.now in
    let all : drop c.loop-line.line-index lines ≡ [] = drop_all c.loop-line.line-index lines c.loop-line-test.false in
    taking_end c.loop-line.self taken (lines_of lines) (subst (λ (rest : List declared_line.Line). Taking c.loop-line.self taken (lines_of lines) (lines_of rest)) all (c.loop-line.invariant taken h))
