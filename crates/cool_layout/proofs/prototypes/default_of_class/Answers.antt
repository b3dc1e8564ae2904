-- `default_of_class` returns 0 (void) as default value for a class other than Int, Bool and String: its name is none of theirs, so `default_value` of
-- `LinesOfLayout.antt` is 0, too.
use Rattle.std.proofs.Common.{◌∙◌}
use Rattle.cool_layout.proofs.BasicNames.{void_first}
use Rattle.cool_layout.proofs.prototypes.default_of_class.Goals as goal

pub returns-else-eq-3 : goal.returns-else-eq-3
returns-else-eq-3 c = c.number.ensures ∙ void_first c.args.t.now c.requires.rooted.table c.args.class c.requires.within c.if-eq.ensures c.if-eq-2.ensures c.if-eq-3.ensures
