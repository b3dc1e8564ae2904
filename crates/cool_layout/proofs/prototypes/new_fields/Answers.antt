-- `new_fields` returns the words of a new object of a class that follow its header. The attributes of the class exist in the class table (`HasAttribute` of
-- `Features.antt`), as `default_values` requires.
use Rattle.std.proofs.Common.{sym, subst}
use Rattle.std.specs.List.{AllByRecursion}
use Rattle.cool_classes.specs.Features.{HasAttribute}
use Rattle.cool_layout.proofs.AttributesThere.{attributes_there}
use Rattle.cool_layout.proofs.prototypes.new_fields.Goals as goal

pub default_values-requires-clause-have : goal.default_values-requires-clause-have
default_values-requires-clause-have c = subst (AllByRecursion (HasAttribute c.args.t.now)) (sym c.requires.attributes) (attributes_there c.args.t.now c.requires.rooted c.args.class c.requires.within)
