-- If the tokens of edited files differ from those of a stored check only in source locations and in at most one feature, which declares the same as before, the
-- stored results are also right for all other features.
use Rattle.std.proofs.Common.{◌≡◌, ◌≢◌, ℕ, zero, suc, ◌<◌, List, [], ◌∷◌, ◌++◌, map, length, get_or, drop, Option, Some, refl, sym, ap, ◌∙◌, subst, arith}
use Rattle.std.specs.List.{slice_get}
use Rattle.std.specs.Prelude.{slice_set}
use Rattle.std.proofs.Math.Logic.{∥∥₁_elim}
use Rattle.std.proofs.Props.{props}
use Rattle.std.proofs.lemmas.List.{length-map, map-append, get_or-map}
use Rattle.std.proofs.lemmas.Option.{slice_get_within, get_or_from_slice_get}
use Rattle.cool_syntax.specs.declared.token.Token.{Token}
use Rattle.cool_syntax.specs.declared.token.TokenKind.{TokenKind}
use Rattle.cool_syntax.specs.declared.file_tree.Feature.{Feature}
use Rattle.cool_lexer.specs.declared.lexer.Lexed.{Lexed}
use Rattle.cool_classes.specs.Bodies.{with_feature_at}
use Rattle.cool_classes.specs.Chains.{Class, features_of}
use Rattle.cool_classes.specs.ClassFaults.{classes_meant}
use Rattle.cool_classes.specs.Declarations.{DeclareSame, AreAllAlike}
use Rattle.cool_classes.specs.Definitions.{definitions}
use Rattle.cool_check.specs.Calls.{called}
use Rattle.cool_check.specs.FirstFaults.{Checked}
use Rattle.cool_check.specs.TypingFaults.{feature_checked}
use Rattle.cool_faults.specs.declared.fault.Untyped.{Untyped}
use Rattle.cool_faults.specs.Phases.{AreFound, IsLexed, IsLexical}
use Rattle.cool_session.specs.declared.base.KeptFault.{KeptFault}
use Rattle.cool_session.specs.declared.ids.FeatureId.{FeatureId}
use Rattle.cool_session.specs.declared.runs.Run.{Run}
use Rattle.cool_session.specs.Bases.{views, tokens_of, table_signatures, seen}
use Rattle.cool_session.specs.Edits.{SameTokens, DifferInFeature}
use Rattle.cool_session.specs.FeatureTokens.{kinds, ParsesFeature, IsFeature, AreFeatures, runs_in, runs_of, features_of_all}
use Rattle.cool_session.specs.Fresh.{Base, IsFresh, edited}
use Rattle.cool_session.specs.Ids.{ids}
use Rattle.cool_session.specs.KeptChecks.{IsRead, IsBase, results_of}
use Rattle.cool_session.specs.KeptFaults.{IsKeptOf, AreKeptOf, members}
use Rattle.cool_session.specs.NewFeatures.{runs_seen, IsAskedWithin}
use Rattle.cool_session.specs.Runs.{bounds_of, run_tokens}
use Rattle.cool_session.specs.Signatures.{features_from}
use Rattle.cool_session.proofs.AlikeInTurn.{declare_on}
use Rattle.cool_session.proofs.BoundsOfRuns.{tokens_of_bounds}
use Rattle.cool_session.proofs.ChecksAfterEdits.{member_features, features_of_table}
use Rattle.cool_session.proofs.ChecksOfFiles.{signatures_of_views}
use Rattle.cool_session.proofs.EditsChecked.{kept_moved, kept_edited, kept_here, ids_same_from, none_differs, one_differs, fresh_once}
use Rattle.cool_session.proofs.FaultsAfterEdits.{one_feature}
use Rattle.cool_session.proofs.FeaturesKept.{IsMemberAt, member_at, ids_many, many_runs}
use Rattle.cool_session.proofs.FilesEdited.{old_feature, read_moved, read_edited, runs_edited, run_edited}
use Rattle.cool_session.proofs.KeptOnce.{kept_prop}
use Rattle.cool_session.proofs.NewFeaturesCounted.{seen_at}
use Rattle.cool_session.proofs.ReadFiles.{views_alike, views_read}
use Rattle.cool_session.proofs.SwappedFeatures.{declared_at, alike_now}
use Rattle.cool_session.proofs.TypedFiles.{are_features, runs_kinds}

-- Runs of tokens

runs_moved : (files now : List (List Token)) → map kinds now ≡ map kinds files → map kinds (runs_of now) ≡ map kinds (runs_of files)
runs_moved [] [] same = refl
runs_moved [] (us ∷ now) same = absurd (omega (arith, ap length same))
runs_moved (ts ∷ files) [] same = absurd (omega (arith, ap length same))
runs_moved (ts ∷ files) (us ∷ now) same =
    let first : kinds us ≡ kinds ts = ap (λ (ks : List (List TokenKind)). get_or ks 0 []) same in
    let here : map kinds (runs_in us) ≡ map kinds (runs_in ts) =
    runs_kinds 0 [] us ∙ (ap (features_from 0 []) first ∙ sym (runs_kinds 0 [] ts)) in
    map-append kinds (runs_in us) (runs_of now)
    ∙ ((λ i. here i ++ runs_moved files now (ap (drop 1) same) i) ∙ sym (map-append kinds (runs_in ts) (runs_of files)))

feature_at : (runs : List (List Token)) (xs : List Feature) (i : ℕ) (x : Feature) → AreFeatures runs xs → slice_get xs i ≡ Some x
    → IsFeature (get_or runs i []) x
feature_at [] [] i x h there = let less : i < 0 = slice_get_within [] i x there in absurd (omega (arith, less))
feature_at [] (y ∷ ys) i x h there = absurd h
feature_at (run ∷ runs) [] i x h there = absurd h
feature_at (run ∷ runs) (y ∷ ys) zero x (h, hs) there = subst (IsFeature run) (get_or_from_slice_get (y ∷ ys) 0 x y there) h
feature_at (run ∷ runs) (y ∷ ys) (suc i) x (h, hs) there = feature_at runs ys i x hs there

-- as many features as names
many_read : (files : List (List ℕ)) (ls : List Lexed) (p : List Class) → IsRead files ls p
    → length (runs_of (tokens_of ls)) ≡ length (ids p)
many_read files ls p h =
    let q = classes_meant (definitions h.trees) in
    let runs = runs_of (tokens_of ls) in
    let same : length (ids p) ≡ length (ids q) = ap length (ids_same_from 0 p q (views_read files ls p h)) in
    let found : length runs ≡ length (member_features (members q)) = many_runs runs (member_features (members q)) (are_features files ls
    p h) in
    let features : length (member_features (members q)) ≡ length (members q) = length-map (members q) (λ m. m.feature) in
    found ∙ (features ∙ (sym (ids_many q) ∙ sym same))

pub many_seen : (u : Untyped) (faults : List (Option KeptFault)) → ∥ IsBase u faults ∥₁ → length (runs_seen u) ≡ length (ids u.classes)
many_seen u faults base =
    ∥∥₁_elim base (hlevel props) (λ (b : IsBase u faults). many_read b.files u.lexed.items u.classes b.base.read)

-- the feature that differs is one of the table
pub number_within : (u : Untyped) (faults : List (Option KeptFault)) → ∥ IsBase u faults ∥₁ → (ls' : List Lexed) (number : ℕ) (run : Run)
    → DifferInFeature u.lexed.items ls' number run → number < length (runs_seen u)
number_within u faults base ls' number run differ =
    let ls = u.lexed.items in
    let less : number < length (bounds_of 0 ls) = slice_get_within (bounds_of 0 ls) number differ.old differ.there in
    omega (arith, less, length-map (bounds_of 0 ls) (run_tokens ls), ap length (tokens_of_bounds ls))

-- the results stored for files
pub record IsKeptBy (files : List (List ℕ)) (ls : List Lexed) (p : List Class) (kept : List (Option KeptFault)) : Type 0 where
  pub read : IsRead files ls p
  pub are : AreKeptOf (runs_of (tokens_of ls)) (results_of read.trees) kept

module _ (files files' : List (List ℕ)) (ls ls' : List Lexed) (p : List Class) (kept : List (Option KeptFault)) (b : IsKeptBy files ls p
    kept)
    (lexed : AreFound IsLexed IsLexical 0 files' ls' []) where
  abbrev runs : List (List Token)
  runs = runs_of (tokens_of ls)

  abbrev runs' : List (List Token)
  runs' = runs_of (tokens_of ls')

  -- only places differ
  pub base_moved : SameTokens ls ls' → IsKeptBy files' ls' p kept
  base_moved same =
      let read = read_moved files files' ls ls' p b.read lexed same in
      record {
        read = read;
        are = kept_moved files files' ls ls' p p b.read read refl kept b.are (runs_moved (tokens_of ls) (tokens_of
            ls') same);
      }

  -- one feature differs
  module _ (number : ℕ) (run : Run) (differ : DifferInFeature ls ls' number run) (id : FeatureId) (less : number < length (ids p))
      (named : id ≡ get_or (ids p) number id) (x y : Feature) (parses : ParsesFeature (run_tokens ls' run) x)
      (there : slice_get (features_of p id.class) id.index ≡ Some y) (same : DeclareSame y x) where
    abbrev q : List Class
    q = classes_meant (definitions b.read.trees)

    abbrev p' : List Class
    p' = with_feature_at p id.class id.index x

    exact : IsMemberAt q number id
    exact =
        let ids_same : ids p ≡ ids q = ids_same_from 0 p q (views_read files ls p b.read) in
        let within : number < length (ids q) = omega (arith, less, ap length ids_same) in
        member_at q (ids q) number id refl within (named ∙ ap (λ (is : List FeatureId). get_or is number id) ids_same)

    abbrev was : (z : Feature) × (slice_get (features_of_all (definitions b.read.trees)) number ≡ Some z)
    was = old_feature files files' ls ls' p b.read lexed number run differ x parses

    declares : DeclareSame was.0 x
    declares =
        let own : IsFeature (get_or runs number []) was.0 =
        feature_at runs (features_of_all (definitions b.read.trees)) number was.0
        (subst (AreFeatures runs) (features_of_table (definitions b.read.trees)) (are_features files ls p b.read)) was.1 in
        let also : IsFeature (get_or runs number []) exact.feature = exact.own runs (are_features files ls p b.read) in
        let one : exact.feature ≡ was.0 = one_feature (get_or runs number []) exact.feature was.0 also.parses own.parses in
        declare_on was.0 y x
        (subst (λ (z : Feature). DeclareSame z y) one
        (declared_at q p id.class id.index exact.feature y b.read.alike exact.there there)) same

    alike : AreAllAlike p p'
    alike = alike_now p id.class id.index x y there same

    read : (now : IsRead files' ls' p') × (slice_get (features_of_all (definitions now.trees)) number ≡ Some x)
    read = read_edited files files' ls ls' p b.read lexed number run differ x parses p' alike declares

    pub read_anew : IsRead files' ls' p'
    read_anew = read.0

    here : get_or runs' number [] ≡ run_tokens ls' run
    here = run_edited files files' ls ls' p b.read lexed number run differ x parses

    pub own_edited : IsFeature (run_tokens ls' run) x
    own_edited =
        let ts = read.0.trees in
        subst (λ (tokens : List Token). IsFeature tokens x) here
        (feature_at runs' (features_of_all (definitions ts)) number x
        (subst (AreFeatures runs') (features_of_table (definitions ts)) (are_features files' ls' p' read.0)) read.1)

    pub tokens_edited : map kinds (runs_of (tokens_of ls')) ≡ slice_set (map kinds (runs_of (tokens_of ls))) number (kinds (run_tokens
        ls' run))
    tokens_edited = runs_edited files files' ls ls' p b.read lexed number run differ x parses

    pub base_edited : (fault : Option KeptFault) → IsKeptOf (run_tokens ls' run) (feature_checked (with_feature_at p id.class id.index x)
        id.class x) fault
        → IsKeptBy files' ls' (with_feature_at p id.class id.index x) (slice_set kept number fault)
    base_edited fault is =
        let seen_same : views p' ≡ views p = views_alike p p' alike in
        let ids_same : ids p' ≡ ids p = ids_same_from 0 p' p seen_same in
        let within : number < length (ids p') = omega (arith, less, ap length ids_same) in
        record {
          read = read.0;
          are = kept_edited files files' ls ls' p p' b.read read.0 (signatures_of_views p' p seen_same) kept b.are number
              (kinds (run_tokens ls' run)) fault tokens_edited
              (kept_here files' ls' p' read.0 number id (run_tokens ls' run) x fault within
              (named ∙ ap (λ (is : List FeatureId). get_or is number id) (sym ids_same)) own_edited (sym here) is);
        }

-- The number of features that are new

pub none_fresh : (u now : Untyped) → now.classes ≡ u.classes → SameTokens u.lexed.items now.lexed.items
    → IsFresh (seen now) (Some (seen u)) 0
none_fresh u now classes same =
    edited (seen u) 0 (ap table_signatures (sym classes))
    (none_differs (seen u).features (seen now).features (runs_moved (tokens_of u.lexed.items) (tokens_of now.lexed.items) same))

-- a feature differs from the one before
kinds_differ : (ls ls' : List Lexed) (number : ℕ) (run : Run) → DifferInFeature ls ls' number run
    → kinds (run_tokens ls' run) ≢ get_or (map kinds (runs_of (tokens_of ls))) number []
kinds_differ ls ls' number run differ is =
    let bounds = bounds_of 0 ls in
    let runs = runs_of (tokens_of ls) in
    let less : number < length bounds = slice_get_within bounds number differ.old differ.there in
    let old : get_or bounds number differ.old ≡ differ.old = get_or_from_slice_get bounds number differ.old differ.old differ.there in
    let before : get_or runs number [] ≡ run_tokens ls differ.old =
    ap (λ (rs : List (List Token)). get_or rs number []) (sym (tokens_of_bounds ls))
    ∙ (get_or-map (run_tokens ls) bounds number differ.old [] less ∙ ap (run_tokens ls) old) in
    differ.differ.other (is ∙ (seen_at runs number ∙ ap kinds before))

pub one_fresh : (u now : Untyped) (number : ℕ) (run : Run) → views now.classes ≡ views u.classes
    → DifferInFeature u.lexed.items now.lexed.items number run → number < length (runs_seen u)
    → map kinds (runs_seen now) ≡ slice_set (map kinds (runs_seen u)) number (kinds (run_tokens now.lexed.items run))
    → IsFresh (seen now) (Some (seen u)) 1
one_fresh u now number run classes differ less tokens =
    let within : number < length (map kinds (runs_seen u)) = omega (arith, less, length-map (runs_seen u) kinds) in
    edited (seen u) 1 (signatures_of_views u.classes now.classes (sym classes))
    (one_differs (seen u).features (seen now).features number (kinds (run_tokens now.lexed.items run)) [] within tokens
    (kinds_differ u.lexed.items now.lexed.items number run differ))

-- a typer that was asked once was asked no more often than features are fresh
pub asked_once : (files : List (List ℕ)) (now : Untyped) (base : Option Base) (before after : ℕ) → after ≡ called 1 before
    → ∥ IsRead files now.lexed.items now.classes ∥₁ → IsFresh (seen now) base 1 → IsAskedWithin files base before after
asked_once files now base before after is read fresh = record {
  number = 1;
  asked = is;
  most = λ count later types.
      ∥∥₁_elim read (hlevel props)
      (λ (h : IsRead files now.lexed.items now.classes). let n = fresh_once files now h base 1 fresh count later types in omega (arith, n));
}

-- The typer's result for a feature of tokens is to be stored for it, if the tokens are only known to be some feature.
pub kept_merely : (tokens run : List Token) (r : Checked (Unit {0})) (x : Feature) (kept : Option KeptFault) → tokens ≡ run
    → (IsFeature tokens x → IsKeptOf tokens r kept) → ∥ IsFeature run x ∥₁ → IsKeptOf run r kept
kept_merely tokens run r x kept same answer own =
    subst (λ (ts : List Token). IsKeptOf ts r kept) same
    (∥∥₁_elim (subst (λ (ts : List Token). ∥ IsFeature ts x ∥₁) (sym same) own) (kept_prop tokens r kept) answer)
