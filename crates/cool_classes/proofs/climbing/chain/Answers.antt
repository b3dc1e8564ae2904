-- `chain` returns the classes from a class up to Object: each step of its loop adds one class and goes on to its parent.
use Rattle.std.proofs.Common.{List, sym, ◌∙◌, subst}
use Rattle.cool_classes.specs.declared.class_id.ClassId.{ClassId}
use Rattle.cool_classes.specs.Entries.{classes}
use Rattle.cool_classes.proofs.Climbs.{Noting, noting_step}
use Rattle.cool_classes.proofs.Seen.{within_classes, within_entries}
use Rattle.cool_classes.proofs.climbing.chain.Goals as goal

pub loop-above-preserved : goal.loop-above-preserved
loop-above-preserved c =
    let es = c.args.entries.now in
    let up = sym c.parent.ensures ∙ c.in-Some.is in
    record {
      within = within_entries es c.in-Some.above (c.requires.grounded.above c.loop-above.class c.in-Some.above (within_classes es c.loop-above.class c.loop-above.invariant.within) up).0;
      noting =
          subst (λ (ids : List ClassId). Noting (classes es) c.args.c c.in-Some.above ids) (sym c.in_ok-push.ensures.items)
          (noting_step (classes es) c.args.c c.loop-above.class c.in-Some.above c.loop-above.ids.items up c.loop-above.invariant.noting);
    }
