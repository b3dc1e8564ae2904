-- `feature_ids` may call `add_ids` for each class, because a class of a table has fewer than 2 ^ 32 features.
use Rattle.std.proofs.Common.{arith, ap, length}
use Rattle.cool_session.proofs.ids.feature_ids.Goals as goal

pub add_ids-requires : goal.add_ids-requires
add_ids-requires c =
    omega (arith, c.features.ensures.table.few_features (record { 0 = c.loop-number.number }) (omega arith), ap length c.features.ensures.features)
