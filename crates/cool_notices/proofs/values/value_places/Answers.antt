-- Each step of the loop of `value_places` takes one expression from those still to be visited and adds smaller parts of it, or adds its place to the
-- result.
use Rattle.cool_notices.proofs.ValuesOfParts.{step_smaller}
use Rattle.cool_notices.proofs.values.value_places.Goals as goal

pub loop-next-smaller : goal.loop-next-smaller
loop-next-smaller c = step_smaller c.args.body.now c.loop-next.left.items c.pop.new.self.items c.add_places.new.left.items c.in-Some.next c.in-Some.ensures.items c.in_ok-add_places.ensures.size
