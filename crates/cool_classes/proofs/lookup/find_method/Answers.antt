-- `find_method` returns the method of a name in the nearest class, from the given class up to Object, that defines one, or none: its loop goes from each class
-- to its parent.
use Rattle.std.proofs.Common.{length, sym, ◌∙◌}
use Rattle.cool_classes.specs.Entries.{classes}
use Rattle.cool_classes.proofs.Seen.{within_classes, within_entries}
use Rattle.cool_classes.proofs.Methods.{finding_start, finding_found, finding_step, finding_missing, found_has}
use Rattle.cool_classes.proofs.OwnNamesGrow.{own_at}
use Rattle.cool_classes.proofs.lookup.find_method.Goals as goal

pub loop-method-init : goal.loop-method-init
loop-method-init c = record { within = c.requires.within; finding = finding_start (classes c.args.entries.now) c.args.c c.args.name.now }

pub returns-in-Some-clause-nearest : goal.returns-in-Some-clause-nearest
returns-in-Some-clause-nearest c =
    let own = own_at (length c.args.entries.now) c.args.own.now (classes c.args.entries.now) c.loop-method.class c.index-own-class.result c.requires.own c.loop-method.invariant.within c.index-own-class.is in
    finding_found (classes c.args.entries.now) c.args.c c.loop-method.class c.args.name.now c.in-Some.method (sym (c.own_method.ensures (classes c.args.entries.now) own) ∙ c.in-Some.is) c.loop-method.invariant.finding

pub returns-in-Some-clause-has : goal.returns-in-Some-clause-has
returns-in-Some-clause-has c =
    let own = own_at (length c.args.entries.now) c.args.own.now (classes c.args.entries.now) c.loop-method.class c.index-own-class.result c.requires.own c.loop-method.invariant.within c.index-own-class.is in
    let es = c.args.entries.now in
    found_has (classes es) c.loop-method.class c.args.name.now c.in-Some.method (within_classes es c.loop-method.class c.loop-method.invariant.within) (sym (c.own_method.ensures (classes c.args.entries.now) own) ∙ c.in-Some.is)

pub loop-method-preserved : goal.loop-method-preserved
loop-method-preserved c =
    let own = own_at (length c.args.entries.now) c.args.own.now (classes c.args.entries.now) c.loop-method.class c.index-own-class.result c.requires.own c.loop-method.invariant.within c.index-own-class.is in
    let es = c.args.entries.now in
    let up = sym c.parent.ensures ∙ c.in-Some-parent.is in
    record {
      within =
          within_entries es c.in-Some-parent.above
          (c.requires.whole.grounded.above c.loop-method.class c.in-Some-parent.above (within_classes es c.loop-method.class c.loop-method.invariant.within) up).0;
      finding =
          finding_step (classes es) c.args.c c.loop-method.class c.in-Some-parent.above c.args.name.now (sym (c.own_method.ensures (classes c.args.entries.now) own) ∙ c.in_default.is) up c.loop-method.invariant.finding;
    }

pub returns-in-None-clause-nearest : goal.returns-in-None-clause-nearest
returns-in-None-clause-nearest c =
    let own = own_at (length c.args.entries.now) c.args.own.now (classes c.args.entries.now) c.loop-method.class c.index-own-class.result c.requires.own c.loop-method.invariant.within c.index-own-class.is in
    finding_missing (classes c.args.entries.now) c.args.c c.loop-method.class c.args.name.now (sym (c.own_method.ensures (classes c.args.entries.now) own) ∙ c.in_default.is) (sym c.parent.ensures ∙ c.in-None.is)
    c.loop-method.invariant.finding
