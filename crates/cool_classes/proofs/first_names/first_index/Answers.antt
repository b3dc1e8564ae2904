-- `first_index` returns the first index of a name in a list, because a look-up in the map of names finds this index (`FindsFirst` of `FirstNames.antt`).
use Rattle.std.proofs.Common.{◌∙◌}
use Rattle.cool_classes.proofs.NameIndexes.{shown_lookup}
use Rattle.cool_classes.proofs.first_names.first_index.Goals as goal

pub returns : goal.returns
returns c row finds = c.copied.ensures ∙ c.get.ensures.value ∙ shown_lookup c.args.name.now c.args.names.now.entries ∙ finds c.args.name.now
