-- If files differ from those of a stored check only in source locations, or in one feature, the facts about their tokens, their class table and the results to
-- store follow from the stored check. These facts are only known to exist (`∥ .. ∥₁`).
use Rattle.std.proofs.Common.{◌≡◌, ℕ, ◌<◌, List, [], map, length, get_or, Option, Some, sym, ap, ◌∙◌, subst, arith}
use Rattle.std.specs.List.{slice_get}
use Rattle.std.specs.Prelude.{slice_set}
use Rattle.std.proofs.Math.Logic.{∥∥₁_elim, ∥∥₁_map}
use Rattle.std.proofs.Props.{props}
use Rattle.std.proofs.lemmas.Option.{slice_get_within}
use Rattle.cool_syntax.specs.declared.file_tree.Feature.{Feature}
use Rattle.cool_lexer.specs.declared.lexer.Lexed.{Lexed}
use Rattle.cool_classes.specs.Bodies.{with_feature_at}
use Rattle.cool_classes.specs.Chains.{Class, features_of}
use Rattle.cool_classes.specs.Declarations.{DeclareSame}
use Rattle.cool_check.specs.Calls.{called}
use Rattle.cool_check.specs.TypingFaults.{feature_checked}
use Rattle.cool_faults.specs.declared.fault.Untyped.{Untyped}
use Rattle.cool_faults.specs.Phases.{AreFound, IsLexed, IsLexical}
use Rattle.cool_session.specs.declared.base.KeptFault.{KeptFault}
use Rattle.cool_session.specs.declared.ids.FeatureId.{FeatureId}
use Rattle.cool_session.specs.declared.runs.Run.{Run}
use Rattle.cool_session.specs.Bases.{views, tokens_of, seen}
use Rattle.cool_session.specs.Edits.{SameTokens, DifferInFeature}
use Rattle.cool_session.specs.FeatureTokens.{kinds, ParsesFeature, IsFeature, runs_of}
use Rattle.cool_session.specs.Fresh.{IsFresh}
use Rattle.cool_session.specs.Ids.{ids}
use Rattle.cool_session.specs.KeptChecks.{IsRead, IsBase, IsBaseOf, IsLexing, AreKeptAmong, results_of}
use Rattle.cool_session.specs.KeptFaults.{IsKeptOf}
use Rattle.cool_session.specs.NewFeatures.{runs_seen, IsAskedWithin}
use Rattle.cool_session.specs.Runs.{run_tokens}
use Rattle.cool_session.proofs.EditedBases.{IsKeptBy, many_seen, number_within, base_moved, base_edited, read_anew, own_edited, tokens_edited, one_fresh, asked_once}
use Rattle.cool_session.proofs.FeaturesKept.{IsMemberAt, member_at, base_many}
use Rattle.cool_session.proofs.ReadFiles.{views_alike}
use Rattle.cool_session.proofs.SwappedFeatures.{alike_now}

kept_by : (u : Untyped) (kept : List (Option KeptFault)) (b : IsBase u kept) → IsKeptBy b.files u.lexed.items u.classes kept
kept_by u kept b = record { read = b.base.read; are = b.base.kept }

base_by : (files : List (List ℕ)) (now : Untyped) (kept : List (Option KeptFault)) → IsKeptBy files now.lexed.items now.classes kept
    → IsBaseOf files now kept
base_by files now kept k = record { read = k.read; kept = k.are }

-- some files of a base are files
pub some_base : (files : List (List ℕ)) (u : Untyped) (kept : List (Option KeptFault)) → ∥ IsBaseOf files u kept ∥₁ → ∥ IsBase u kept ∥₁
some_base files u kept base = ∥∥₁_map base (λ (b : IsBaseOf files u kept). record { files = files; base = b })

-- Facts about files of these tokens, in which one feature is replaced, over the table with that feature.
pub record IsTypedAnew (u : Untyped) (kept : List (Option KeptFault)) (ls' : List Lexed) (number : ℕ) (run : Run) (id : FeatureId) (x :
    Feature)
    : Type 0 where
  pub own : ∥ IsFeature (run_tokens ls' run) x ∥₁
  pub among : (fault : Option KeptFault)
      → IsKeptOf (run_tokens ls' run) (feature_checked (with_feature_at u.classes id.class id.index x) id.class x) fault
      → AreKeptAmong ls' (slice_set kept number fault)
  pub bases : (now : Untyped) → now.lexed.items ≡ ls' → now.classes ≡ with_feature_at u.classes id.class id.index x
      → (files : List (List ℕ))
      → AreFound IsLexed IsLexical 0 files ls' [] → (fault : Option KeptFault)
      → IsKeptOf (run_tokens ls' run) (feature_checked (with_feature_at u.classes id.class id.index x) id.class x) fault
      → ∥ IsBaseOf files now (slice_set kept number fault) ∥₁
  pub fresh : (now : Untyped) → now.lexed.items ≡ ls' → now.classes ≡ with_feature_at u.classes id.class id.index x
      → IsFresh (seen now) (Some (seen u)) 1
  pub asked : (now : Untyped) → now.lexed.items ≡ ls' → now.classes ≡ with_feature_at u.classes id.class id.index x
      → (files : List (List ℕ))
      → AreFound IsLexed IsLexical 0 files ls' [] → (before after : ℕ) → after ≡ called 1 before
      → IsAskedWithin files (Some (seen u)) before after

module _ (u : Untyped) (kept : List (Option KeptFault)) (base : ∥ IsBase u kept ∥₁) where
  -- only places differ
  pub among_moved : (ls' : List Lexed) → IsLexing ls' → SameTokens u.lexed.items ls' → AreKeptAmong ls' kept
  among_moved ls' l same =
      ∥∥₁_map base
      (λ (b : IsBase u kept).
      let m = base_moved b.files l.files u.lexed.items ls' u.classes kept (kept_by u kept b) l.lexed same in
      (results_of m.read.trees, m.are))

  pub now_moved : (now : Untyped) (files : List (List ℕ)) → now.classes ≡ u.classes → AreFound IsLexed IsLexical 0 files now.lexed.items []
      → SameTokens u.lexed.items now.lexed.items → ∥ IsBaseOf files now kept ∥₁
  now_moved now files classes lexed same =
      ∥∥₁_map base
      (λ (b : IsBase u kept).
      base_by files now kept
      (subst (λ (p : List Class). IsKeptBy files now.lexed.items p kept) (sym classes)
      (base_moved b.files files u.lexed.items now.lexed.items u.classes kept (kept_by u kept b) lexed same)))

  -- one feature differs
  module _ (ls' : List Lexed) (number : ℕ) (run : Run) (differ : DifferInFeature u.lexed.items ls' number run) (all : List FeatureId)
      (are : all ≡ ids u.classes) where
    pub in_ids : number < length all
    in_ids = omega (arith, number_within u kept base ls' number run differ, many_seen u kept base, ap length are)

    pub in_kept : number < length kept
    in_kept = omega (arith, number_within u kept base ls' number run differ, base_many u kept base)

    module _ (id : FeatureId) (is : id ≡ get_or all number id) where
      member : IsMemberAt u.classes number id
      member = member_at u.classes all number id are in_ids is

      pub in_classes : id.class.0 < length u.classes
      in_classes = member.class

      pub in_features : id.index < length (features_of u.classes id.class)
      in_features = slice_get_within (features_of u.classes id.class) id.index member.feature member.there

      in_table : number < length (ids u.classes)
      in_table = omega (arith, in_ids, ap length are)

      named : id ≡ get_or (ids u.classes) number id
      named = is ∙ ap (λ (is : List FeatureId). get_or is number id) are

      module _ (x y : Feature) (parses : ParsesFeature (run_tokens ls' run) x)
          (there : slice_get (features_of u.classes id.class) id.index ≡ Some y) (same : DeclareSame y x) where
        abbrev p' : List Class
        p' = with_feature_at u.classes id.class id.index x

        own_merely : IsLexing ls' → ∥ IsFeature (run_tokens ls' run) x ∥₁
        own_merely l =
            ∥∥₁_map base
            (λ (b : IsBase u kept).
            own_edited b.files l.files u.lexed.items ls' u.classes kept (kept_by u kept b) l.lexed number run differ id in_table named x
            y parses
            there same)

        among_edited : IsLexing ls' → (fault : Option KeptFault) → IsKeptOf (run_tokens ls' run) (feature_checked p' id.class x) fault
            → AreKeptAmong ls' (slice_set kept number fault)
        among_edited l fault answer =
            ∥∥₁_map base
            (λ (b : IsBase u kept).
            let m =
            base_edited b.files l.files u.lexed.items ls' u.classes kept (kept_by u kept b) l.lexed number run differ id in_table named x
            y parses
            there same fault answer in
            (results_of m.read.trees, m.are))

        runs_now : IsLexing ls' → map kinds (runs_of (tokens_of ls')) ≡ slice_set (map kinds (runs_seen u)) number (kinds (run_tokens ls'
            run))
        runs_now l =
            ∥∥₁_elim base (hlevel props)
            (λ (b : IsBase u kept).
            tokens_edited b.files l.files u.lexed.items ls' u.classes kept (kept_by u kept b) l.lexed number run differ id in_table named
            x y
            parses there same)

        seen_same : views p' ≡ views u.classes
        seen_same = views_alike u.classes p' (alike_now u.classes id.class id.index x y there same)

        -- files of these tokens, with this table
        module _ (now : Untyped) (tokens : now.lexed.items ≡ ls') (classes : now.classes ≡ p') where
          now_edited : (files : List (List ℕ)) → AreFound IsLexed IsLexical 0 files ls' [] → (fault : Option KeptFault)
              → IsKeptOf (run_tokens ls' run) (feature_checked p' id.class x) fault → ∥ IsBaseOf files now (slice_set kept number fault) ∥₁
          now_edited files lexed fault answer =
              ∥∥₁_map base
              (λ (b : IsBase u kept).
              base_by files now (slice_set kept number fault)
              (subst (λ (ls : List Lexed). IsKeptBy files ls now.classes (slice_set kept number fault)) (sym tokens)
              (subst (λ (p : List Class). IsKeptBy files ls' p (slice_set kept number fault)) (sym classes)
              (base_edited b.files files u.lexed.items ls' u.classes kept (kept_by u kept b) lexed number run differ id in_table named x
              y parses
              there same fault answer))))

          fresh_edited : IsLexing ls' → IsFresh (seen now) (Some (seen u)) 1
          fresh_edited l =
              one_fresh u now number run (ap views classes ∙ seen_same)
              (subst (λ (ls : List Lexed). DifferInFeature u.lexed.items ls number run) (sym tokens) differ)
              (number_within u kept base ls' number run differ)
              (subst
              (λ (ls : List Lexed). map kinds (runs_of (tokens_of ls)) ≡ slice_set (map kinds (runs_seen u)) number (kinds (run_tokens ls
              run)))
              (sym tokens) (runs_now l))

          -- it was typed, and the typer asked for it
          asked_edited : IsLexing ls' → (files : List (List ℕ)) → AreFound IsLexed IsLexical 0 files ls' [] → (before after : ℕ)
              → after ≡ called 1 before → IsAskedWithin files (Some (seen u)) before after
          asked_edited l files lexed before after once =
              asked_once files now (Some (seen u)) before after once
              (∥∥₁_map base
              (λ (b : IsBase u kept).
              subst (λ (ls : List Lexed). IsRead files ls now.classes) (sym tokens)
              (subst (IsRead files ls') (sym classes)
              (read_anew b.files files u.lexed.items ls' u.classes kept (kept_by u kept b) lexed number run differ id in_table named x y
              parses
              there same)))) (fresh_edited l)

        pub typed_anew : IsLexing ls' → IsTypedAnew u kept ls' number run id x
        typed_anew l = record {
          own = own_merely l;
          among = among_edited l;
          bases = λ now tokens classes. now_edited now tokens classes;
          fresh = λ now tokens classes. fresh_edited now tokens classes l;
          asked = λ now tokens classes. asked_edited now tokens classes l;
        }
