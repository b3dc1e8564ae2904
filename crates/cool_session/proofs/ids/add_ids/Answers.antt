-- `add_ids` adds the positions (class and number) of the features of a class in their order: each step of its loop adds the next one.
use Rattle.std.proofs.Common.{◌∙◌, arith}
use Rattle.cool_session.proofs.IdsOfFeatures.{next_id}
use Rattle.cool_session.proofs.ids.add_ids.Goals as goal

pub loop-i-preserved : goal.loop-i-preserved
loop-i-preserved c = record {
  left = next_id c.args.c c.loop-i.i c.args.features.now c.loop-i.all.items c.push.new.self.items (omega arith) c.in_ok-push.ensures.items
      ∙ c.loop-i.invariant.left;
}
