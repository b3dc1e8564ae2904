-- If the tokens of one feature in a file are replaced by those of another feature, the result parses as a file, too.
use Rattle.std.proofs.Common.{◌≡◌, ℕ, ◌+◌, List, [], ◌∷◌, ◌++◌, length, take, drop, Some, unwrap_or, Option, if◌then◌else◌, refl, sym, ap, ◌∙◌, subst, arith, append_assoc}
use Rattle.std.specs.Prelude.{slice_get, slice_set}
use Rattle.std.proofs.Math.Seq.{take-append_seam, drop-append_seam}
use Rattle.std.proofs.lemmas.List.{length-append}
use Rattle.cool_syntax.specs.declared.token.Token.{Token}
use Rattle.cool_syntax.specs.declared.token.TokenKind.{TokenKind}
use Rattle.cool_syntax.specs.declared.file_tree.ClassDef.{ClassDef}
use Rattle.cool_syntax.specs.declared.file_tree.Feature.{Feature}
use Rattle.cool_syntax.specs.Grammar.{Parses}
use Rattle.cool_syntax.specs.LexicalStructure.{depth_after, ends_run}
use Rattle.cool_syntax.specs.PlainTrees.{plain_feature, plain_file}
use Rattle.cool_syntax.specs.Readings.{feature_reading, file_reading}
use Rattle.cool_classes.specs.Declarations.{DeclareSame}
use Rattle.cool_session.specs.declared.runs.Run.{Run}
use Rattle.cool_session.specs.FeatureTokens.{kinds, ParsesFeature, runs_in, features_of_all}
use Rattle.cool_session.specs.Runs.{bounds_ended, bounds_from, bounds_in}
use Rattle.cool_session.proofs.BoundsOfFeatures.{file_bounds, file_has_bounds}
use Rattle.cool_session.proofs.DefinitionsKept.{AllDefineSame}
use Rattle.cool_session.proofs.DifferingLists.{differ_old, differ_now, differ_set}
use Rattle.cool_session.proofs.ReplacedTrees.{bound_of, FileHolds, FileChanged, file_holds, counted}
use Rattle.cool_session.proofs.RunsOfFeatures.{file_runs, file_has_runs}

-- a file with another feature in the place of the one of this number: its definitions
pub record IsReplaced (ds : List ClassDef) (tokens : List Token) (number : ℕ) (x : Feature) : Type 0 where
  pub now : List ClassDef
  pub parses : Parses tokens now
  pub there : slice_get (features_of_all now) number ≡ Some x
  pub old : Feature
  pub before : slice_get (features_of_all ds) number ≡ Some old
  pub same : DeclareSame old x → AllDefineSame ds now

module _ (file : ℕ) (tokens : List Token) (ds : List ClassDef) (parses : Parses tokens ds) (number : ℕ) (run : Run)
    (is : slice_get (bounds_in file tokens) number ≡ Some run) (new : List Token) (x : Feature) (feature : ParsesFeature new x) where
  abbrev reads : file_reading parses.0 ≡ tokens
  reads = parses.2

  there : slice_get (file_bounds file parses.0) number ≡ Some run
  there =
      ap (λ (runs : List Run). slice_get runs number) (sym (file_has_bounds file parses.0))
      ∙ (ap (λ (ts : List Token). slice_get (bounds_in file ts) number) reads ∙ is)

  held : FileHolds parses.0 number
  held = file_holds parses.0 number (counted file parses.0 number run there)

  changed : FileChanged parses.0 number held.front held.back held.old feature.feature
  changed = held.changed feature.feature

  is_run : run ≡ bound_of file 0 held.front held.old
  is_run = ap (λ (o : Option Run). unwrap_or o run) (sym there ∙ held.bound file)

  start_is : run.start ≡ length held.front
  start_is = let none : 0 + length held.front ≡ length held.front = omega arith in ap (λ (r : Run). r.start) is_run ∙ none

  end_is : run.end ≡ length (held.front ++ feature_reading held.old)
  end_is =
      let sum : 0 + length held.front + length (feature_reading held.old) ≡ length (held.front ++ feature_reading held.old) =
      omega (arith, length-append held.front (feature_reading held.old)) in
      ap (λ (r : Run). r.end) is_run ∙ sum

  parted : tokens ≡ held.front ++ feature_reading held.old ++ held.back
  parted = sym reads ∙ held.reads

  front_is : take run.start tokens ≡ held.front
  front_is =
      (λ i. take (start_is i) ((parted ∙ append_assoc held.front (feature_reading held.old) held.back) i))
      ∙ take-append_seam held.front (feature_reading held.old ++ held.back)

  back_is : drop run.end tokens ≡ held.back
  back_is = (λ i. drop (end_is i) (parted i)) ∙ drop-append_seam (held.front ++ feature_reading held.old) held.back

  -- the tokens of the file that was changed
  now_reads : file_reading changed.now ≡ take run.start tokens ++ new ++ drop run.end tokens
  now_reads = changed.reads ∙ (λ i. sym front_is i ++ feature.reads i ++ sym back_is i)

  abbrev old_features : List Feature
  old_features = features_of_all (plain_file parses.0)

  abbrev new_features : List Feature
  new_features = features_of_all (plain_file changed.now)

  pub feature_replaced : IsReplaced ds (take run.start tokens ++ new ++ drop run.end tokens) number x
  feature_replaced =
      record {
        now = plain_file changed.now;
        parses = (changed.now, changed.shaped parses.1 feature.shaped, now_reads, refl);
        there = differ_now number old_features new_features (plain_feature held.old) (plain_feature feature.feature) changed.plain
            ∙ ap Some feature.plain;
        old = plain_feature held.old;
        before = ap (λ (es : List ClassDef). slice_get (features_of_all es) number) (sym parses.3)
            ∙ differ_old number old_features new_features (plain_feature held.old) (plain_feature feature.feature) changed.plain;
        same = λ same. subst (λ (es : List ClassDef). AllDefineSame es (plain_file changed.now)) parses.3
            (changed.same (subst (DeclareSame (plain_feature held.old)) (sym feature.plain) same));
      }

  pub runs_replaced : runs_in (take run.start tokens ++ new ++ drop run.end tokens) ≡ slice_set (runs_in tokens) number new
  runs_replaced =
      ap runs_in (sym now_reads)
      ∙ (file_has_runs changed.now
      ∙ (differ_set number (file_runs parses.0) (file_runs changed.now) (feature_reading held.old) (feature_reading feature.feature)
      changed.runs
      ∙ (λ i. slice_set ((sym (file_has_runs parses.0) ∙ ap runs_in reads) i) number (feature.reads i))))

-- Kinds

-- the bounds of features by the kinds of the tokens
abbrev bounds_by : ℕ → ℕ → ℕ → ℕ → List TokenKind → List Run
bounds_by file depth start at [] = []
bounds_by file depth start at (k ∷ ks) =
    if ends_run k depth
    then bounds_ended k (record { file = file; start = start; end = at + 1 }) ++ bounds_by file (depth_after k depth) (at + 1) (at + 1) ks
    else bounds_by file (depth_after k depth) start (at + 1) ks

by_kinds : (file depth start at : ℕ) (ts : List Token) → bounds_from file depth start at ts ≡ bounds_by file depth start at (kinds ts)
by_kinds file depth start at [] = refl
by_kinds file depth start at (t ∷ ts) =
    λ i. if ends_run t.kind depth
    then bounds_ended t.kind (record { file = file; start = start; end = at + 1 })
    ++ by_kinds file (depth_after t.kind depth) (at + 1) (at + 1) ts i
    else by_kinds file (depth_after t.kind depth) start (at + 1) ts i

-- the tokens of each feature do not depend on places
pub bounds_of_kinds : (file : ℕ) (tokens now : List Token) → kinds now ≡ kinds tokens → bounds_in file now ≡ bounds_in file tokens
bounds_of_kinds file tokens now same = by_kinds file 0 0 0 now ∙ (ap (bounds_by file 0 0 0) same ∙ sym (by_kinds file 0 0 0 tokens))
