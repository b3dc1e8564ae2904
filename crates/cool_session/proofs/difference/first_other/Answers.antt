-- `first_other` finds the first file from a number on whose tokens changed: each step of its loop passes one more file whose tokens are as before, except for
-- source locations.
use Rattle.std.proofs.Common.{◌<◌, length, refl, ap, ◌∙◌, sym, arith}
use Rattle.cool_session.specs.FeatureTokens.{kinds}
use Rattle.cool_session.proofs.FilesDiffer.{file_at, same_next}
use Rattle.cool_session.proofs.difference.first_other.Goals as goal

pub loop-file-preserved : goal.loop-file-preserved
loop-file-preserved c =
    let before = c.args.before.now in
    let now = c.args.now.now in
    let k = c.loop-file.file in
    let old = c.index-before-file.result in
    let new = c.index-now-file.result in
    let in_before : k < length before = omega arith in
    let in_now : k < length now = omega arith in
    record {
      after = omega arith;
      same = same_next before now c.args.from k c.loop-file.invariant.same
          (ap kinds (file_at now k new in_now ∙ sym c.as_slice.ensures.value)
          ∙ (c.if-not-same_tokens.ensures.same.0 refl
          ∙ ap kinds (c.as_slice-in-loop-file.ensures.value ∙ sym (file_at before k old in_before))));
    }
