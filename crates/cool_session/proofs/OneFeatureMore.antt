-- When a check goes on to the next feature of files, this feature has its tokens in the files, and it has a stored result or is counted as new.
use Rattle.std.proofs.Common.{◌≡◌, ℕ, ◌+◌, ◌<◌, List, [], ◌∷◌, ◌++◌, length, get_or, take, Option, Some, IfSome, sym, ap, ◌∙◌, subst, arith}
use Rattle.std.specs.List.{AllByRecursion, slice_get}
use Rattle.std.specs.Borrow.{Bor}
use Rattle.std.proofs.lemmas.List.{length-map}
use Rattle.cool_syntax.specs.declared.token.Token.{Token}
use Rattle.cool_syntax.specs.declared.file_tree.Feature.{Feature}
use Rattle.cool_lexer.specs.declared.lexer.Lexed.{Lexed}
use Rattle.cool_classes.specs.Chains.{features_of}
use Rattle.cool_check.specs.Calls.{called}
use Rattle.cool_check.specs.TypingFaults.{feature_checked}
use Rattle.cool_faults.specs.declared.fault.Untyped.{Untyped}
use Rattle.cool_faults.specs.Untyped.{IsUntyped}
use Rattle.cool_session.specs.declared.base.Base.{Base}
use Rattle.cool_session.specs.declared.base.KeptFault.{KeptFault}
use Rattle.cool_session.specs.declared.ids.FeatureId.{FeatureId}
use Rattle.cool_session.specs.declared.runs.Run.{Run}
use Rattle.cool_session.specs.Bases.{views, tokens_of}
use Rattle.cool_session.specs.FeatureTokens.{IsFeature, kinds, runs_of}
use Rattle.cool_session.specs.Ids.{ids}
use Rattle.cool_session.specs.KeptChecks.{HasFewTokens}
use Rattle.cool_session.specs.KeptFaults.{IsKeptOf, results, AreKeptOf}
use Rattle.cool_session.specs.NewFeatures.{runs_seen, kinds_seen, IsKeptAt, IsNewAt, AreNew, calls_after, IsAskedAtMost}
use Rattle.cool_session.specs.Runs.{bounds_of, IsWithin, run_tokens}
use Rattle.cool_session.proofs.FeaturesKept.{IsMemberAt, member_at, many_ids, as_many_runs, run_within, run_seen, run_short, run_before, position_before, kept_before, kept_one_more}
use Rattle.cool_session.proofs.NewFeaturesCounted.{seen_at, new_kept, new_asked}
use Rattle.cool_session.proofs.ReadFiles.{own_features}
use Rattle.cool_session.proofs.TyperAsked.{next_call, asked_at_most}

module _ (files : List (List ℕ)) (now : Untyped) (h : IsUntyped files now) (base : Option (Bor Base))
    (same : IfSome base (λ (b : Bor Base). views b.now.untyped.classes ≡ views now.classes)) (lexed : List Lexed) (there : lexed ≡ now.lexed.items)
    (runs : List Run) (are : runs ≡ bounds_of 0 lexed) (all : List FeatureId) (named : all ≡ ids now.classes) (i : ℕ) (less : i < length all) where
  in_runs : i < length runs
  in_runs = omega (arith, less, as_many_runs files now h lexed runs are there all named)

  in_seen : i < length (runs_seen now)
  in_seen = omega (arith, less, (many_ids files now h).0, ap length named)

  in_results : i < length (results now.classes)
  in_results = omega (arith, less, (many_ids files now h).1, ap length named)

  in_kinds : i < length (kinds_seen now)
  in_kinds = omega (arith, in_seen, length-map (runs_seen now) kinds)

  in_base : (b : Bor Base) → base ≡ Some b → i < length (kinds_seen b.now.untyped)
  in_base b is =
      let before : i < length (runs_seen b.now.untyped) = position_before files now h base same i in_seen b is in
      omega (arith, before, length-map (runs_seen b.now.untyped) kinds)

  -- the run stands in the files, and its tokens are those of the feature
  module _ (again : List Lexed) (also : again ≡ now.lexed.items) (run : Run) (is : run ≡ get_or runs i run) where
    same_runs : runs ≡ bounds_of 0 again
    same_runs = are ∙ ap (bounds_of 0) (there ∙ sym also)

    pub run_stands : IsWithin again run
    run_stands = subst (IsWithin again) (sym is) (run_within again runs i run same_runs in_runs)

    pub tokens_here : (tokens : List Token) → tokens ≡ run_tokens again run → tokens ≡ get_or (runs_seen now) i []
    tokens_here tokens read =
        read
        ∙ (ap (run_tokens again) is
        ∙ (run_seen again runs i run same_runs in_runs ∙ ap (λ (ls : List Lexed). get_or (runs_of (tokens_of ls)) i []) also))

    pub tokens_few : (tokens : List Token) → tokens ≡ run_tokens again run → AllByRecursion HasFewTokens now.lexed.items → length tokens < 4294967296
    tokens_few tokens read short =
        subst (λ (ts : List Token). length ts < 4294967296) (sym read)
        (run_short again run (subst (AllByRecursion HasFewTokens) (sym also) short))

  pub before_there : (before : List Run) → IfSome base (λ (b : Bor Base). before ≡ bounds_of 0 b.now.untyped.lexed.items)
      → IfSome base (λ (b : Bor Base). i < length before)
  before_there before is = run_before files now h base same before i is in_seen

  pub member_here : (id : FeatureId) → id ≡ get_or all i id → IsMemberAt now.classes i id
  member_here id is = member_at now.classes all i id named less is

  -- the tokens of the feature
  module _ (tokens : List Token) (here : tokens ≡ get_or (runs_seen now) i []) where
    kinds_here : kinds tokens ≡ get_or (kinds_seen now) i []
    kinds_here = ap kinds here ∙ sym (seen_at (runs_seen now) i)

    -- it is kept
    pub new_where_kept : (n : ℕ) (kept : Option KeptFault) → IsKeptAt base i tokens kept → AreNew base (kinds_seen now) i n
        → AreNew base (kinds_seen now) (i + 1) n
    new_where_kept n kept is new = new_kept (kinds_seen now) base i n tokens kept is kinds_here in_kinds in_base new

    pub kept_where_kept : (more : List (Option KeptFault)) (kept : Option KeptFault) → IsKeptAt base i tokens kept
        → AreKeptOf (take i (runs_seen now)) (take i (results now.classes)) more
        → AreKeptOf (take (i + 1) (runs_seen now)) (take (i + 1) (results now.classes)) (more ++ kept ∷ [])
    kept_where_kept more kept is before =
        kept_one_more (runs_seen now) (results now.classes) more i kept in_seen in_results before
        (kept_before files now h base same i tokens kept here in_seen is)

    -- it is new
    pub new_where_asked : (n : ℕ) → IsNewAt base i tokens → AreNew base (kinds_seen now) i n → AreNew base (kinds_seen now) (i + 1) (n + 1)
    new_where_asked n is new = new_asked (kinds_seen now) base i n tokens is kinds_here in_kinds in_base new

    pub kept_where_asked : (id : FeatureId) (more : List (Option KeptFault)) (kept : Option KeptFault) → id ≡ get_or all i id
        → ((x : Feature) → slice_get (features_of now.classes id.class) id.index ≡ Some x → IsFeature tokens x
        → IsKeptOf tokens (feature_checked now.classes id.class x) kept)
        → AreKeptOf (take i (runs_seen now)) (take i (results now.classes)) more
        → AreKeptOf (take (i + 1) (runs_seen now)) (take (i + 1) (results now.classes)) (more ++ kept ∷ [])
    kept_where_asked id more kept is answer before =
        let m = member_here id is in
        let own : IsFeature tokens m.feature =
        subst (λ (ts : List Token). IsFeature ts m.feature) (sym here) (m.own (runs_seen now) (own_features files now h)) in
        let kept_so : IsKeptOf (get_or (runs_seen now) i []) (feature_checked now.classes id.class m.feature) kept =
        subst (λ (ts : List Token). IsKeptOf ts (feature_checked now.classes id.class m.feature) kept) here (answer m.feature m.there own) in
        kept_one_more (runs_seen now) (results now.classes) more i kept in_seen in_results before
        (subst (λ (r : _). IsKeptOf (get_or (runs_seen now) i []) r kept) (sym m.result) kept_so)

    -- the typer was asked once more
    pub asked_here : (n before calls after : ℕ) → IsNewAt base i tokens → AreNew base (kinds_seen now) i n → calls ≡ calls_after n before
        → after ≡ called 1 calls → IsAskedAtMost base (kinds_seen now) before after
    asked_here n before calls after is new so once =
        asked_at_most base (kinds_seen now) before after (i + 1) (n + 1) (once ∙ next_call n before calls so) (omega (arith, in_kinds))
        (new_where_asked n is new)
