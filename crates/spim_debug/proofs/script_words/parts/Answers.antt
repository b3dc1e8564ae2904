use Rattle.std.proofs.Common.{rules, tests}
use Rattle.std.proofs.lemmas.Iterator.Consumers.{map_from_collect}
use Rattle.std.proofs.lemmas.Iterator.Splits.{YieldsList-from_slice_split}
use Rattle.spim_debug.proofs.ScriptParts.{parts_few}
use Rattle.spim_debug.proofs.script_words.parts.Goals as goal

pub returns-clause-exact : goal.returns-clause-exact
returns-clause-exact c = map_from_collect _ c.collect.ensures.ran (YieldsList-from_slice_split _ _ c.args.text.now c.split.ensures.rest c.split.ensures.done c.split.ensures.closure (λ x r q k. search (rules, tests)))

pub returns-clause-few : goal.returns-clause-few
returns-clause-few c = parts_few c.args.mark c.args.text.now c.collect.result (returns-clause-exact c)
