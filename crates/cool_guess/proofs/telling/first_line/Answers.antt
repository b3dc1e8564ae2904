-- `first_line` returns the bytes before the first newline: each step of its loop passes one byte that is not a newline.
use Rattle.cool_guess.proofs.FirstLines.{first_more, first_stop}
use Rattle.cool_guess.proofs.telling.first_line.Goals as goal

pub returns-then-bytes-index-eq10 : goal.returns-then-bytes-index-eq10
returns-then-bytes-index-eq10 c = first_stop c.args.bytes.now c.loop-index.index c.loop-index-test.true c.if-bytes-index-eq10.true c.loop-index.invariant

pub loop-index-preserved : goal.loop-index-preserved
loop-index-preserved c = first_more c.args.bytes.now c.loop-index.index c.loop-index-test.true c.if-bytes-index-eq10.false c.loop-index.invariant
