-- `above` returns the ancestors of a class, which are all classes of the class table, because each parent is.
use Rattle.std.proofs.Common.{sym, ◌∙◌, Some}
use Rattle.std.proofs.lemmas.Result.{IfOk-weaker}
use Rattle.cool_classes.specs.Chains.{IsChain}
use Rattle.cool_classes.specs.Lineages.{AreWithin}
use Rattle.cool_classes.specs.Entries.{classes, depth_at}
use Rattle.cool_classes.proofs.Seen.{within_classes, within_entries}
use Rattle.cool_classes.proofs.Lineages.{chain_within}
use Rattle.cool_classes.proofs.lineage.above.Goals as goal

pub chain-requires-clause-within : goal.chain-requires-clause-within
chain-requires-clause-within c =
    let es = c.args.entries.now in
    within_entries es c.in-Some.parent (c.requires.grounded.above c.args.class c.in-Some.parent (within_classes es c.args.class c.requires.within) (sym c.parent.ensures ∙ c.in-Some.is)).0

pub returns-in-Some-clause-within : goal.returns-in-Some-clause-within
returns-in-Some-clause-within c =
    let es = c.args.entries.now in
    let within = within_entries es c.in-Some.parent (c.requires.grounded.above c.args.class c.in-Some.parent (within_classes es c.args.class c.requires.within) (sym c.parent.ensures ∙ c.in-Some.is)).0 in
    IfOk-weaker c.chain.result (λ ids. IsChain (classes es) (Some c.in-Some.parent) ids.items) (λ ids. AreWithin es ids.items)
    (λ ids. chain_within es (depth_at es) c.requires.grounded (Some c.in-Some.parent) within ids.items) c.chain.ensures
