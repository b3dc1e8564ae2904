use Rattle.std.proofs.Common.{refl}
use Rattle.spim_debug.proofs.CountedBytes.{counted_more}
use Rattle.spim_debug.proofs.counting_sink.ByteCount.add.Goals as goal

pub invariant_of-self : goal.invariant_of-self
invariant_of-self c = counted_more _ _ _ _ _ _ c.self.invariant c.with-self-inside.ensures refl c.saturating_add-self-inside.ensures
