-- Each step of the inner loop of `notices` adds the notices (warnings) of the next feature.
use Rattle.std.proofs.Common.{take, arith}
use Rattle.std.specs.List.{flat_map}
use Rattle.cool_mend.specs.declared.noticing.TheConstants.{MOST_NOTICES}
use Rattle.cool_mend.specs.Noticed.{due_in_class}
use Rattle.cool_mend.proofs.NoticesTold.{next_feature}
use Rattle.cool_mend.proofs.noticing.notices.Goals as goal

pub loop-index-preserved : goal.loop-index-preserved
loop-index-preserved c = record {
  first = next_feature MOST_NOTICES (flat_map due_in_class (take c.loop-number.number c.args.classes.now)) c.features-features.result.now c.loop-index.index _ _ _ _ (omega (arith, c.loop-index-test.true)) c.index-features-index.is c.loop-index.invariant.first c.in_ok-add_of_feature.ensures.adds;
  ranges = c.in_ok-add_of_feature.ensures.ranges c.loop-index.invariant.ranges;
}
