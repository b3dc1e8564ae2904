use Rattle.std.proofs.Common.{arith}
use Rattle.mips_image.proofs.ReadingParts.{words_at-turn}
use Rattle.mips_image.proofs.reading.read_words.Goals as goal

pub loop-word-preserved : goal.loop-word-preserved
loop-word-preserved c =
    let before = c.loop-word in
    record {
      all = rw c.in_ok-push.ensures.items (words_at-turn c.args.count before._word before.words.items before.rest.now c.split_at.result.1.now c.read_word.result _ c.loop-word-test.true c.split_at.ensures.back c.read_word.ensures before.invariant.all);
      enough = omega (arith, c.split_at.ensures.back_len, before.invariant.enough);
    }
