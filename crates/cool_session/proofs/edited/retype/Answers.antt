-- `retype` type-checks the feature in a class table that contains it. If memory runs out in type checking, `retype` swaps the former feature back, which
-- restores the table.
use Rattle.std.proofs.Common.{◌≡◌, ◌<◌, List, Option, Some, Result, Ok, Err, false, true≢false, length, slice_set, OnErr, sym, ap, ◌∙◌, subst, arith}
use Rattle.std.specs.List.{slice_get}
use Rattle.std.specs.Result.{is_err}
use Rattle.std.proofs.lemmas.Option.{slice_get_within}
use Rattle.cool_syntax.specs.declared.file_tree.Feature.{Feature}
use Rattle.cool_check.specs.TypingFaults.{feature_checked}
use Rattle.cool_classes.specs.Bodies.{with_feature_at}
use Rattle.cool_classes.specs.Chains.{Class, features_of}
use Rattle.cool_classes.specs.Declarations.{IsDeclaredBy}
use Rattle.cool_session.specs.declared.base.KeptFault.{KeptFault}
use Rattle.cool_session.specs.FeatureTokens.{IsFeature}
use Rattle.cool_session.specs.KeptFaults.{IsKeptOf}
use Rattle.cool_session.specs.Runs.{run_tokens}
use Rattle.cool_session.proofs.SwappedFeatures.{swapped_back, feature_now, as_many_classes, declared_now, only_now}
use Rattle.cool_session.proofs.TyperAsked.{on_error}
use Rattle.cool_session.proofs.edited.retype.Goals.{then-is_err, else-is_err}
use Rattle.cool_session.proofs.edited.retype.Goals as goal
use Rattle.lists.proofs.Results.{for_ok}

no_error : {A E : Type 0} (P : Type 0) (r : Result A E) → is_err r ≡ false → OnErr r P
no_error P (Ok x) is = tt
no_error P (Err e) is = absurd (true≢false is)

pub type_feature-retyped-requires-clause-class : goal.type_feature-retyped-requires-clause-class
type_feature-retyped-requires-clause-class g c =
    let id = c.args.edit.id in
    let swap = c.swap_feature-before in
    let many = as_many_classes c.args.classes.now id.class id.index c.args.feature swap.result swap.ensures.gave in
    omega (arith, c.requires.class, ap length swap.ensures.now, many)

pub type_feature-retyped-requires-clause-index : goal.type_feature-retyped-requires-clause-index
type_feature-retyped-requires-clause-index g c =
    let id = c.args.edit.id in
    let swap = c.swap_feature-before in
    let x = c.args.feature in
    let p = c.args.classes.now in
    subst (λ (q : List Class). id.index < length (features_of q id.class)) (sym swap.ensures.now)
    (slice_get_within (features_of (with_feature_at p id.class id.index x) id.class) id.index x
    (feature_now p id.class id.index x swap.result swap.ensures.gave))

pub type_feature-retyped-requires-clause-kept : goal.type_feature-retyped-requires-clause-kept
type_feature-retyped-requires-clause-kept g c = λ z there found is.
    let id = c.args.edit.id in
    let swap = c.swap_feature-before in
    let tokens = run_tokens c.args.lexed.now c.args.edit.run in
    let same = subst (IsDeclaredBy c.args.feature) swap.ensures.gave c.requires.same in
    let one =
    only_now c.args.classes.now id.class id.index c.args.feature swap.result swap.ensures.gave same swap.new.self z swap.ensures.now
    there in
    c.requires.kept found
    (subst (λ (q : List Class). IsKeptOf tokens (feature_checked q id.class c.args.feature) found) swap.ensures.now
    (subst (λ (w : Feature). IsKeptOf tokens (feature_checked swap.new.self id.class w) found) (sym one) is))

pub type_feature-retyped-requires-clause-feature : goal.type_feature-retyped-requires-clause-feature
type_feature-retyped-requires-clause-feature g c = λ z there.
    let id = c.args.edit.id in
    let swap = c.swap_feature-before in
    let tokens = run_tokens c.args.lexed.now c.args.edit.run in
    let same = subst (IsDeclaredBy c.args.feature) swap.ensures.gave c.requires.same in
    let one =
    only_now c.args.classes.now id.class id.index c.args.feature swap.result swap.ensures.gave same swap.new.self z swap.ensures.now
    there in
    subst (λ (w : Feature). ∥ IsFeature tokens w ∥₁) one c.requires.feature

pub swap_feature-requires-clause-within : goal.swap_feature-requires-clause-within
swap_feature-requires-clause-within g c =
    let id = c.args.edit.id in
    let swap = c.swap_feature-before in
    let many = as_many_classes c.args.classes.now id.class id.index c.args.feature swap.result swap.ensures.gave in
    omega (arith, c.requires.class, ap length swap.ensures.now, many)

pub swap_feature-requires-clause-same : goal.swap_feature-requires-clause-same
swap_feature-requires-clause-same g c =
    let id = c.args.edit.id in
    let swap = c.swap_feature-before in
    let same = subst (IsDeclaredBy c.args.feature) swap.ensures.gave c.requires.same in
    subst (λ (q : List Class). IsDeclaredBy swap.result (slice_get (features_of q id.class) id.index)) (sym swap.ensures.now)
    (declared_now c.args.classes.now id.class id.index c.args.feature swap.result swap.ensures.gave same)

pub returns-clause-failed : goal.returns-clause-failed
returns-clause-failed g c =
    let id = c.args.edit.id in
    let swap = c.swap_feature-before in
    let back = swapped_back c.args.classes.now id.class id.index c.args.feature swap.result swap.ensures.gave in
    elim c.if-is_err.branch [
      | then-is_err w ↦
          on_error c.type_feature-retyped.result
          (w.classes-is
          ∙ (w.swap_feature.ensures.now ∙ (ap (λ (q : List Class). with_feature_at q id.class id.index swap.result) swap.ensures.now ∙
          back)))
      | else-is_err w ↦ no_error _ c.type_feature-retyped.result (sym c.is_err.ensures.value ∙ w.if-is_err.false)
    ]

pub returns-clause-kept : goal.returns-clause-kept
returns-clause-kept g c =
    let id = c.args.edit.id in
    let swap = c.swap_feature-before in
    let x = c.args.feature in
    let tokens = run_tokens c.args.lexed.now c.args.edit.run in
    let there =
    subst (λ (q : List Class). slice_get (features_of q id.class) id.index ≡ Some x) (sym swap.ensures.now)
    (feature_now c.args.classes.now id.class id.index x swap.result swap.ensures.gave) in
    for_ok _ _ c.type_feature-retyped.result
    (λ retyped h.
    subst
    (λ (q : List Class). (found : Option KeptFault) × IsKeptOf tokens (feature_checked q id.class x) found
    × (retyped.kept.items ≡ slice_set c.args.kept.now c.args.edit.number found)) swap.ensures.now (h x there))
    c.type_feature-retyped.ensures.kept
