-- `same_features` may return false at the first feature that differs: lists with the same signatures have the same signature at each position.
use Rattle.std.proofs.Common.{arith}
use Rattle.cool_syntax.proofs.ComparingLists.{same_at}
use Rattle.cool_session.specs.Signatures.{feature_signature}
use Rattle.cool_session.proofs.same_classes.same_features.Goals as goal

pub returns-then-not-same_feature : goal.returns-then-not-same_feature
returns-then-not-same_feature c = record {
  same = (
    λ e. absurd (cc),
    λ h.
        c.if-not-same_feature.ensures.same.1
        (same_at feature_signature c.args.a.now c.args.b.now c.loop-i.i c.index-a-i.result c.index-b-i.result (omega arith) (omega arith)
        c.index-a-i.is c.index-b-i.is h),
  );
}
