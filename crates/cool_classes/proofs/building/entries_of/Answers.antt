-- `entries_of` returns the class-table entries of the basic classes, followed by one entry for each class definition, which a step of its loop adds. The depth
-- (number of ancestors) of each definition is known, as `AreSettled` of `Settled.antt` says.
use Rattle.std.proofs.Common.{◌≡◌, ◌∷◌, ◌++◌, ◌+◌, ◌<◌, List, [], length, drop, sym, ap, ◌∙◌, arith}
use Rattle.cool_classes.specs.Settled.{names_with_basic, entries_meant, entries_of}
use Rattle.cool_classes.specs.declared.entry.Entry.{Entry}
use Rattle.cool_classes.proofs.EntriesInOrder.{not_none, first_left, entry_more}
use Rattle.cool_classes.proofs.ParentsOfDefinitions.{parents_long}
use Rattle.cool_classes.proofs.building.entries_of.Goals as goal

pub unreachable-requires : goal.unreachable-requires
unreachable-requires c =
    let ds = c.args.definitions.items in
    let os = c.args.ancestry.now.depths.items in
    let k = c.loop-definition.index in
    let left = ap length c.in-Some.ensures.steps.0 in
    let long = c.loop-definition.invariant.long in
    let all = parents_long (names_with_basic ds) ds in
    let known = c.requires.settled.grounded.right k (omega arith) in
    not_none os k known.0 c.index.result.now known.1 c.index.ensures c.in-None-index.is

pub loop-definition-preserved : goal.loop-definition-preserved
loop-definition-preserved c =
    let ds = c.args.definitions.items in
    let os = c.args.ancestry.now.depths.items in
    let k = c.loop-definition.index in
    let rest = c.loop-definition.definition-iterator.rest.items in
    let next = c.next.new.self.rest.items in
    let d = c.in-Some.definition in
    let is = c.in-Some.ensures.steps.0 in
    let left = ap length is in
    let long = c.loop-definition.invariant.long in
    let all = parents_long (names_with_basic ds) ds in
    let deep = c.requires.settled.grounded.same in
    let within : k < length ds = omega arith in
    let many : length os ≡ length ds = omega arith in
    let next_meant = entries_meant (names_with_basic ds) next (drop (k + 1) os) in
    let more = entry_more (names_with_basic ds) ds rest next c.loop-definition.entries.items (entries_of ds os) k c.args.ancestry.now.parents.items os d c.index-parent.result.now c.index.result.now c.in-Some-index.depth
    within many c.loop-definition.invariant.rest is c.requires.parents c.index-parent.ensures c.index.ensures c.in-Some-index.is c.loop-definition.invariant.entries in
    record {
      entries = ap (λ (es : List Entry). es ++ next_meant) (c.in_ok-push.ensures.items ∙ ap (λ (e : Entry). c.loop-definition.entries.items ++ e ∷ []) c.entry_of.ensures) ∙ more;
      rest = (first_left ds next k d within (sym is ∙ c.loop-definition.invariant.rest)).1;
      long = omega arith;
    }
