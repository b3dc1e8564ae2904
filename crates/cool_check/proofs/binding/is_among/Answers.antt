-- `is_among` finds a class in a list exactly if some class of the list has its number, as `is_among` of `Rules.antt` does.
use Rattle.std.proofs.Common.{◌∙◌}
use Rattle.cool_rules.proofs.ClassesAmong.{is_among_any}
use Rattle.cool_check.proofs.binding.is_among.Goals as goal

pub returns : goal.returns
returns c = c.contains.ensures.value ∙ is_among_any c.args.classes.now c.args.class
