-- `check_one_feature` type-checks the changed feature in the class table that contains it, and replaces the stored result of this feature. The other stored
-- results are those of the new files too.
use Rattle.std.proofs.Common.{◌≡◌, ◌<◌, ◌^◌, ℕ, List, Option, Some, length, get_or, slice_set, refl, sym, ap, ◌∙◌, subst, arith}
use Rattle.std.specs.List.{AllByRecursion, slice_get}
use Rattle.std.proofs.Props.{props}
use Rattle.std.proofs.lemmas.Option.{slice_get_read}
use Rattle.cool_syntax.specs.declared.token.Token.{Token}
use Rattle.cool_syntax.specs.declared.file_tree.Feature.{Feature}
use Rattle.cool_lexer.specs.declared.lexer.Lexed.{Lexed}
use Rattle.cool_classes.specs.Chains.{Class, features_of}
use Rattle.cool_classes.specs.Declarations.{DeclareSame, IsDeclaredBy}
use Rattle.cool_check.specs.TypingFaults.{feature_checked}
use Rattle.cool_classes.specs.Bodies.{with_feature_at}
use Rattle.cool_faults.specs.declared.fault.Untyped.{Untyped}
use Rattle.cool_session.specs.declared.base.Base.{Base}
use Rattle.cool_session.specs.declared.base.KeptFault.{KeptFault}
use Rattle.cool_session.specs.declared.ids.FeatureId.{FeatureId}
use Rattle.cool_session.specs.declared.runs.Run.{Run}
use Rattle.cool_session.specs.Edits.{DifferInFeature}
use Rattle.cool_session.specs.FeatureTokens.{ParsesFeature, IsFeature}
use Rattle.cool_session.specs.Ids.{ids}
use Rattle.cool_session.specs.KeptChecks.{AreKeptAmong, HasFewTokens, IsBase, IsBaseOf, IsLexing}
use Rattle.cool_session.specs.KeptFaults.{IsKeptOf}
use Rattle.cool_session.specs.Runs.{run_tokens}
use Rattle.cool_session.proofs.FeaturesKept.{of_some}
use Rattle.cool_session.proofs.FeatureTypedAnew.{IsTypedAnew, in_ids, in_kept, in_classes, in_features, typed_anew, some_base}
use Rattle.cool_session.proofs.TyperAsked.{on_error}
use Rattle.cool_session.proofs.edited.check_one_feature.Goals as goal

-- a base with the same files and faults is the same
same_base : (b : Base) (few : length b.untyped.lexed.items < 2 ^ 32) (short : AllByRecursion HasFewTokens b.untyped.lexed.items)
    (kept : ∥ IsBase b.untyped b.faults.items ∥₁)
    → record { untyped = b.untyped; faults = b.faults; few = few; short = short; kept = kept } ≡ b
same_base b few short kept =
    let few_same : IsProp (length b.untyped.lexed.items < 2 ^ 32) = hlevel props in
    let short_same : IsProp (AllByRecursion HasFewTokens b.untyped.lexed.items) = hlevel props in
    let kept_same : IsProp ∥ IsBase b.untyped b.faults.items ∥₁ = hlevel props in
    λ i.
    record {
      untyped = b.untyped;
      faults = b.faults;
      few = few_same few b.few i;
      short = short_same short b.short i;
      kept = kept_same kept b.kept i;
    }

-- facts about the files, by the result of the search
anew : (base : Base) (ls' : List Lexed) (number : ℕ) (run : Run) → IsLexing ls' → DifferInFeature base.untyped.lexed.items ls' number run
    → (all : List FeatureId) → all ≡ ids base.untyped.classes → (id : FeatureId) → id ≡ get_or all number id
    → (fs : List Feature) (x y : Feature)
    → fs ≡ features_of base.untyped.classes id.class → y ≡ get_or fs id.index y → DeclareSame y x → (tokens : List Token) (ls : List Lexed)
    → ParsesFeature tokens x → tokens ≡ run_tokens ls run → ls ≡ ls'
    → (slice_get (features_of base.untyped.classes id.class) id.index ≡ Some y)
    × IsTypedAnew base.untyped base.faults.items ls' number run id x
anew base ls' number run l differ all are id is fs x y features at same tokens ls parses read whole =
    let u = base.untyped in
    let within = in_features u base.faults.items base.kept ls' number run differ all are id is in
    let there : slice_get (features_of u.classes id.class) id.index ≡ Some y =
    slice_get_read (features_of u.classes id.class) (length (features_of u.classes id.class)) id.index y refl within
    (at ∙ ap (λ (gs : List Feature). get_or gs id.index y) features) in
    let found : ParsesFeature (run_tokens ls' run) x =
    subst (λ (ts : List Token). ParsesFeature ts x) (read ∙ ap (λ (ms : List Lexed). run_tokens ms run) whole) parses in
    (there, typed_anew u base.faults.items base.kept ls' number run differ all are id is x y found there same l)

pub index-id-requires : goal.index-id-requires
index-id-requires g c =
    let base = c.args.base.now in
    let within =
    in_ids base.untyped base.faults.items base.kept c.args.lexed.items c.args.number c.args.run c.requires.differ c.in_ok-ids.ids.items
    c.in_ok-ids.ensures in
    omega (arith, within, c.in_ok-ids.ids.ok.0)

pub features-requires : goal.features-requires
features-requires g c =
    let base = c.args.base.now in
    record {
      within = in_classes base.untyped base.faults.items base.kept c.args.lexed.items c.args.number c.args.run c.requires.differ
          c.in_ok-ids.ids.items c.in_ok-ids.ensures c.index-id.result.now c.index-id.ensures;
    }

pub bounds-features-id : goal.bounds-features-id
bounds-features-id g c =
    let base = c.args.base.now in
    let id = c.index-id.result.now in
    subst (λ (fs : List Feature). id.index < length fs) (sym c.features.ensures.features)
    (in_features base.untyped base.faults.items base.kept c.args.lexed.items c.args.number c.args.run c.requires.differ
    c.in_ok-ids.ids.items c.in_ok-ids.ensures id c.index-id.ensures)

pub returns-in_err-ids-clause-failed : goal.returns-in_err-ids-clause-failed
returns-in_err-ids-clause-failed g c = on_error c.from_residual-in_err-ids.result (same_base c.args.base.now _ _ _)

pub returns-then-not-declare_same-clause-other : goal.returns-then-not-declare_same-clause-other
returns-then-not-declare_same-clause-other g c = same_base c.args.base.now _ _ _

pub retype-requires-clause-class : goal.retype-requires-clause-class
retype-requires-clause-class g c =
    let base = c.args.base.now in
    in_classes base.untyped base.faults.items base.kept c.args.lexed.items c.args.number c.args.run c.requires.differ c.in_ok-ids.ids.items
    c.in_ok-ids.ensures c.index-id.result.now c.index-id.ensures

pub retype-requires-clause-same : goal.retype-requires-clause-same
retype-requires-clause-same g c =
    let base = c.args.base.now in
    let id = c.index-id.result.now in
    let x = c.in-Some.feature in
    let (there, edit) =
    anew base c.args.lexed.items c.args.number c.args.run c.requires.lexed c.requires.differ c.in_ok-ids.ids.items c.in_ok-ids.ensures id
    c.index-id.ensures c.features.result.now x c.index-features-id.result c.features.ensures.features c.index-features-id.is
    (c.if-not-declare_same.ensures.same.0 refl) c.tokens_in.result.now c.as_slice.result.now
    (of_some (ParsesFeature c.tokens_in.result.now) c.in_ok-feature.field-0 x c.in-Some.is c.in_ok-feature.ensures.found) c.tokens_in.ensures
    c.as_slice.ensures.value in
    subst (IsDeclaredBy x) (sym there) (c.if-not-declare_same.ensures.same.0 refl)

pub retype-requires-clause-number : goal.retype-requires-clause-number
retype-requires-clause-number g c =
    let base = c.args.base.now in
    let within =
    in_kept base.untyped base.faults.items base.kept c.args.lexed.items c.args.number c.args.run c.requires.differ c.in_ok-ids.ids.items
    c.in_ok-ids.ensures in
    subst (λ (ks : List (Option KeptFault)). c.args.number < length ks) (sym c.as_slice-2.ensures.value) within

pub retype-requires-clause-kept : goal.retype-requires-clause-kept
retype-requires-clause-kept g c =
    let base = c.args.base.now in
    let id = c.index-id.result.now in
    let x = c.in-Some.feature in
    let (there, edit) =
    anew base c.args.lexed.items c.args.number c.args.run c.requires.lexed c.requires.differ c.in_ok-ids.ids.items c.in_ok-ids.ensures id
    c.index-id.ensures c.features.result.now x c.index-features-id.result c.features.ensures.features c.index-features-id.is
    (c.if-not-declare_same.ensures.same.0 refl) c.tokens_in.result.now c.as_slice.result.now
    (of_some (ParsesFeature c.tokens_in.result.now) c.in_ok-feature.field-0 x c.in-Some.is c.in_ok-feature.ensures.found) c.tokens_in.ensures
    c.as_slice.ensures.value in
    subst
    (λ (ls : List Lexed). (found : Option KeptFault)
    → IsKeptOf (run_tokens ls c.args.run) (feature_checked (with_feature_at base.untyped.classes id.class id.index x) id.class x) found
    → AreKeptAmong ls (slice_set c.as_slice-2.result.now c.args.number found)) (sym c.as_slice-3.ensures.value)
    (subst
    (λ (ks : List (Option KeptFault)). (found : Option KeptFault)
    → IsKeptOf (run_tokens c.args.lexed.items c.args.run) (feature_checked (with_feature_at base.untyped.classes id.class id.index x)
    id.class x)
    found → AreKeptAmong c.args.lexed.items (slice_set ks c.args.number found)) (sym c.as_slice-2.ensures.value) edit.among)

pub retype-requires-clause-feature : goal.retype-requires-clause-feature
retype-requires-clause-feature g c =
    let base = c.args.base.now in
    let id = c.index-id.result.now in
    let x = c.in-Some.feature in
    let (there, edit) =
    anew base c.args.lexed.items c.args.number c.args.run c.requires.lexed c.requires.differ c.in_ok-ids.ids.items c.in_ok-ids.ensures id
    c.index-id.ensures c.features.result.now x c.index-features-id.result c.features.ensures.features c.index-features-id.is
    (c.if-not-declare_same.ensures.same.0 refl) c.tokens_in.result.now c.as_slice.result.now
    (of_some (ParsesFeature c.tokens_in.result.now) c.in_ok-feature.field-0 x c.in-Some.is c.in_ok-feature.ensures.found) c.tokens_in.ensures
    c.as_slice.ensures.value in
    subst (λ (ls : List Lexed). ∥ IsFeature (run_tokens ls c.args.run) x ∥₁) (sym c.as_slice-3.ensures.value) edit.own

pub invariant_of-base-in-Break-branch-4 : goal.invariant_of-base-in-Break-branch-4
invariant_of-base-in-Break-branch-4 g c =
    let base = c.args.base.now in
    record {
      few = base.few;
      short = base.short;
      kept = subst (λ (p : List Class). ∥ IsBase (record { lexed = base.untyped.lexed; classes = p }) base.faults.items ∥₁)
          (sym c.in_err-retyped.ensures.failed) base.kept;
    }

pub returns-in_err-retyped-clause-most : goal.returns-in_err-retyped-clause-most
returns-in_err-retyped-clause-most g c =
    let base = c.args.base.now in
    let id = c.index-id.result.now in
    let x = c.in-Some.feature in
    let (there, edit) =
    anew base c.args.lexed.items c.args.number c.args.run c.requires.lexed c.requires.differ c.in_ok-ids.ids.items c.in_ok-ids.ensures id
    c.index-id.ensures c.features.result.now x c.index-features-id.result c.features.ensures.features c.index-features-id.is
    (c.if-not-declare_same.ensures.same.0 refl) c.tokens_in.result.now c.as_slice.result.now
    (of_some (ParsesFeature c.tokens_in.result.now) c.in_ok-feature.field-0 x c.in-Some.is c.in_ok-feature.ensures.found) c.tokens_in.ensures
    c.as_slice.ensures.value in
    let now : Untyped = record { lexed = c.args.lexed; classes = with_feature_at base.untyped.classes id.class id.index x } in
    on_error c.from_residual-in_err-retyped.result
    (λ files lexed.
    edit.asked now refl refl files lexed (g.K.Typer.calls c.args.typer.now) (g.K.Typer.calls c.retype.new.typer)
    c.in_err-retyped.ensures.counted)

pub invariant_of-base-2 : goal.invariant_of-base-2
invariant_of-base-2 g c =
    let base = c.args.base.now in
    let id = c.index-id.result.now in
    let x = c.in-Some.feature in
    let (there, edit) =
    anew base c.args.lexed.items c.args.number c.args.run c.requires.lexed c.requires.differ c.in_ok-ids.ids.items c.in_ok-ids.ensures id
    c.index-id.ensures c.features.result.now x c.index-features-id.result c.features.ensures.features c.index-features-id.is
    (c.if-not-declare_same.ensures.same.0 refl) c.tokens_in.result.now c.as_slice.result.now
    (of_some (ParsesFeature c.tokens_in.result.now) c.in_ok-feature.field-0 x c.in-Some.is c.in_ok-feature.ensures.found) c.tokens_in.ensures
    c.as_slice.ensures.value in
    let now : Untyped = record { lexed = c.args.lexed; classes = c.retype.new.classes } in
    let (fault, answer, kept) = c.in_ok-retyped.ensures.kept in
    let stays = ap (λ (ks : List (Option KeptFault)). slice_set ks c.args.number fault) c.as_slice-2.ensures.value in
    let checked =
    subst
    (λ (ls : List Lexed). IsKeptOf (run_tokens ls c.args.run) (feature_checked (with_feature_at base.untyped.classes id.class id.index x)
    id.class x)
    fault) c.as_slice-3.ensures.value answer in
    let l = c.requires.lexed in
    record {
      few = l.few;
      short = l.short;
      kept = some_base l.files now c.in_ok-retyped.retyped.kept.items
          (subst (λ (ks : List (Option KeptFault)). ∥ IsBaseOf l.files now ks ∥₁) (sym (kept ∙ stays))
          (edit.bases now refl c.in_ok-retyped.ensures.now l.files l.lexed fault checked));
    }

pub returns-clause-base : goal.returns-clause-base
returns-clause-base g c = λ files lexed.
    let base = c.args.base.now in
    let id = c.index-id.result.now in
    let x = c.in-Some.feature in
    let (there, edit) =
    anew base c.args.lexed.items c.args.number c.args.run c.requires.lexed c.requires.differ c.in_ok-ids.ids.items c.in_ok-ids.ensures id
    c.index-id.ensures c.features.result.now x c.index-features-id.result c.features.ensures.features c.index-features-id.is
    (c.if-not-declare_same.ensures.same.0 refl) c.tokens_in.result.now c.as_slice.result.now
    (of_some (ParsesFeature c.tokens_in.result.now) c.in_ok-feature.field-0 x c.in-Some.is c.in_ok-feature.ensures.found) c.tokens_in.ensures
    c.as_slice.ensures.value in
    let now : Untyped = record { lexed = c.args.lexed; classes = c.retype.new.classes } in
    let (fault, answer, kept) = c.in_ok-retyped.ensures.kept in
    let stays = ap (λ (ks : List (Option KeptFault)). slice_set ks c.args.number fault) c.as_slice-2.ensures.value in
    let checked =
    subst
    (λ (ls : List Lexed). IsKeptOf (run_tokens ls c.args.run) (feature_checked (with_feature_at base.untyped.classes id.class id.index x)
    id.class x)
    fault) c.as_slice-3.ensures.value answer in
    subst (λ (ks : List (Option KeptFault)). ∥ IsBaseOf files now ks ∥₁) (sym (kept ∙ stays))
    (edit.bases now refl c.in_ok-retyped.ensures.now files lexed fault checked)

pub returns-clause-fresh : goal.returns-clause-fresh
returns-clause-fresh g c =
    let base = c.args.base.now in
    let id = c.index-id.result.now in
    let x = c.in-Some.feature in
    let (there, edit) =
    anew base c.args.lexed.items c.args.number c.args.run c.requires.lexed c.requires.differ c.in_ok-ids.ids.items c.in_ok-ids.ensures id
    c.index-id.ensures c.features.result.now x c.index-features-id.result c.features.ensures.features c.index-features-id.is
    (c.if-not-declare_same.ensures.same.0 refl) c.tokens_in.result.now c.as_slice.result.now
    (of_some (ParsesFeature c.tokens_in.result.now) c.in_ok-feature.field-0 x c.in-Some.is c.in_ok-feature.ensures.found) c.tokens_in.ensures
    c.as_slice.ensures.value in
    let now : Untyped = record { lexed = c.args.lexed; classes = c.retype.new.classes } in
    edit.fresh now refl c.in_ok-retyped.ensures.now
