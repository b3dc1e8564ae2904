-- `type_feature` type-checks a feature and replaces the stored result of this feature by the new result.
use Rattle.std.proofs.Common.{List, Option, slice_set, sym, ap, ◌∙◌, subst}
use Rattle.cool_check.specs.TypingFaults.{feature_checked}
use Rattle.cool_classes.specs.Chains.{features_of}
use Rattle.cool_session.specs.declared.base.KeptFault.{KeptFault}
use Rattle.cool_session.specs.KeptChecks.{AreKeptAmong}
use Rattle.cool_session.specs.Runs.{run_tokens}
use Rattle.cool_session.proofs.EditedBases.{kept_merely}
use Rattle.cool_session.proofs.edited.type_feature.Goals as goal
use Rattle.lists.proofs.ItemsAt.{there_is}

pub fault_list-requires-clause-kept : goal.fault_list-requires-clause-kept
fault_list-requires-clause-kept g c =
    let id = c.args.edit.id in
    let found = c.in_ok-found.found in
    let (x, there) = there_is (features_of c.args.classes.now id.class) id.index c.requires.index in
    let run = run_tokens c.args.lexed.now c.args.edit.run in
    let is =
    kept_merely c.tokens_in.result.now run (feature_checked c.args.classes.now id.class x) x found c.tokens_in.ensures
    (c.in_ok-found.ensures.kept x there) (c.requires.feature x there) in
    subst (AreKeptAmong c.args.lexed.now)
    (sym (c.as_slice.ensures.value ∙ ap (λ (ks : List (Option KeptFault)). slice_set ks c.args.edit.number found)
    c.in_ok-kept.ensures.items))
    (c.requires.kept x there found is)

pub returns-clause-kept : goal.returns-clause-kept
returns-clause-kept g c = λ x there.
    let found = c.in_ok-found.found in
    let run = run_tokens c.args.lexed.now c.args.edit.run in (
      found,
      kept_merely c.tokens_in.result.now run (feature_checked c.args.classes.now c.args.edit.id.class x) x found c.tokens_in.ensures
          (c.in_ok-found.ensures.kept x there) (c.requires.feature x there),
      ap (λ (ks : List (Option KeptFault)). slice_set ks c.args.edit.number found) c.in_ok-kept.ensures.items,
    )
