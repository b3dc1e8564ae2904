-- Each step of the loop of `number_of`, a binary search for the number of tokens before a place, halves the range that contains this number.
use Rattle.std.proofs.Common.{ℕ, ◌+◌, ◌-◌, ◌/◌, arith}
use Rattle.cool_extents.proofs.SearchingByHalves.{low_is_less, high_is_more}
use Rattle.cool_extents.proofs.finding.number_of.Goals as goal

pub loop-low-preserved-then-tokens-middle : goal.loop-low-preserved-then-tokens-middle
loop-low-preserved-then-tokens-middle c =
    let low : ℕ = c.loop-low.low in
    let high : ℕ = c.loop-low.high in (
      low_is_less c.requires.rising.0 0 c.args.tokens.now c.args.at (low + (high - low) / 2) c.index-tokens-middle.result c.requires.rising.1
          (omega (arith, c.loop-low.invariant.2, c.loop-low-test.true)) c.if-tokens-middle.true,
      c.loop-low.invariant.1,
      c.loop-low.invariant.2,
    )

pub loop-low-preserved : goal.loop-low-preserved
loop-low-preserved c =
    let low : ℕ = c.loop-low.low in
    let high : ℕ = c.loop-low.high in (
      c.loop-low.invariant.0,
      high_is_more c.requires.rising.0 0 c.args.tokens.now c.args.at (low + (high - low) / 2) c.index-tokens-middle.result c.requires.rising.1
          (omega (arith, c.loop-low.invariant.2, c.loop-low-test.true)) c.if-tokens-middle.false,
      omega (arith, c.loop-low.invariant.2, c.loop-low-test.true),
    )
