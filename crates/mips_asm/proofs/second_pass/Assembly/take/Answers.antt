-- `Assembly::take` assembles the lines that it is given and leaves the lines after them (`IsLeft`), because each iteration of its loop assembles one line.
use Rattle.std.proofs.Common.{◌≡◌, ◌+◌, ◌∷◌, [], ◌++◌, drop, List, subst}
use Rattle.std.proofs.lemmas.List.{drop_all}
use Rattle.mips_isa.specs.declared.line.Line as declared_line
use Rattle.mips_isa.specs.Lines.{Line, lines_of}
use Rattle.mips_asm.specs.Places.{places_of}
use Rattle.mips_asm.specs.SecondPasses.{IsLeft}
use Rattle.mips_asm.proofs.LoopRests.{line_in_range}
use Rattle.mips_asm.proofs.second_pass.Assembly.take.Goals as goal
use Rattle.lists.proofs.ItemsLeft.{drop_one}

pub loop-line-init : goal.loop-line-init
loop-line-init c = λ all rest h. h

pub take_line-requires-clause-next : goal.take_line-requires-clause-next
take_line-requires-clause-next c =
    let lines = c.args.lines.now in
    let all = c.requires.next.0 in
    let rest = c.requires.next.1.0 in
    let here = drop_one lines c.loop-line.line-index c.line-item.result c.loop-line-test.true c.line-item.is in (
      all,
      (
        lines_of (drop (c.loop-line.line-index + 1) lines) ++ rest,
        subst (λ (ls : List declared_line.Line). IsLeft (places_of c.args.labels.now) all (lines_of ls ++ rest) c.loop-line.self) here (c.loop-line.invariant all rest c.requires.next.1.1),
      ),
    )

pub take_line-requires-clause-range : goal.take_line-requires-clause-range
take_line-requires-clause-range c =
    line_in_range c.args.lines.now c.loop-line.line-index c.line-item.result (drop (c.loop-line.line-index + 1) c.args.lines.now)
    (drop_one c.args.lines.now c.loop-line.line-index c.line-item.result c.loop-line-test.true c.line-item.is) c.requires.ranges

pub loop-line-preserved : goal.loop-line-preserved
loop-line-preserved c = λ all rest h.
    let lines = c.args.lines.now in
    let here = drop_one lines c.loop-line.line-index c.line-item.result c.loop-line-test.true c.line-item.is in
    c.in_ok-take_line.ensures all (lines_of (drop (c.loop-line.line-index + 1) lines) ++ rest)
    (subst (λ (ls : List declared_line.Line). IsLeft (places_of c.args.labels.now) all (lines_of ls ++ rest) c.loop-line.self) here (c.loop-line.invariant all rest h))

pub returns : goal.returns
returns c = λ all rest h.
    let lines = c.args.lines.now in
    let none : drop c.loop-line.line-index lines ≡ [] = drop_all c.loop-line.line-index lines c.loop-line-test.false in
    subst (λ (ls : List declared_line.Line). IsLeft (places_of c.args.labels.now) all (lines_of ls ++ rest) c.loop-line.self) none (c.loop-line.invariant all rest h)
