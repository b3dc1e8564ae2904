-- If the tokens of edited files are those of files that reach type checking, except for source locations and for at most one feature that declares the same as
-- before, the edited files reach type checking, too.
use Rattle.std.proofs.Common.{◌≡◌, ℕ, ◌+◌, ◌≤◌, List, [], map, length, get_or, take, drop, Some, refl, sym, ap, ◌∙◌, subst, arith}
use Rattle.std.specs.Prelude.{slice_get, slice_set}
use Rattle.std.specs.List.{slice_range}
use Rattle.std.proofs.lemmas.Option.{get_or_from_slice_get}
use Rattle.cool_syntax.specs.declared.file_tree.Feature.{Feature}
use Rattle.cool_syntax.specs.declared.file_tree.FileTree.{FileTree}
use Rattle.cool_lexer.specs.declared.lexer.Lexed.{Lexed}
use Rattle.cool_classes.specs.Chains.{Class}
use Rattle.cool_classes.specs.ClassFaults.{classes_meant}
use Rattle.cool_classes.specs.Declarations.{AreAllAlike, DeclareSame}
use Rattle.cool_classes.specs.Definitions.{definitions}
use Rattle.cool_faults.specs.Phases.{AreFound, IsLexed, IsLexical}
use Rattle.cool_faults.proofs.FindingsInARow.{all_found}
use Rattle.cool_session.specs.Bases.{table_signatures, tokens_of}
use Rattle.cool_session.specs.declared.runs.Run.{Run}
use Rattle.cool_session.specs.Edits.{SameTokens, DifferInFeature}
use Rattle.cool_session.specs.FeatureTokens.{kinds, ParsesFeature, runs_of, features_of_all}
use Rattle.cool_session.specs.KeptChecks.{IsRead}
use Rattle.cool_session.specs.Runs.{file_tokens, run_tokens}
use Rattle.cool_session.proofs.AlikeInTurn.{alike_back, alike_on, same_signatures}
use Rattle.cool_session.proofs.DefinitionsKept.{AllDefineSame, alike_kept, classes_kept, features_kept, signatures_kept}
use Rattle.cool_session.proofs.EditedTrees.{DiffersAt, EditedTrees, trees_edited, trees_moved}
use Rattle.cool_session.proofs.TreesOfTokens.{AreTreesOf, trees_found, trees_lexed}

module _ (files files' : List (List ℕ)) (ls ls' : List Lexed) (p : List Class) (h : IsRead files ls p)
    (lexed : AreFound IsLexed IsLexical 0 files' ls' []) where
  -- the trees before, by their tokens
  parsed_before : AreTreesOf 0 ls h.trees
  parsed_before = trees_lexed 0 files ls h.trees (all_found IsLexed IsLexical h.lexed refl) h.are_trees

  -- trees that define the same are read over each table alike the one before
  read_by : (trees : List FileTree) → AreTreesOf 0 ls' trees → AllDefineSame (definitions h.trees) (definitions trees) → (p' : List Class)
      → AreAllAlike (classes_meant (definitions h.trees)) p' → table_signatures p' ≡ table_signatures p → IsRead files' ls' p'
  read_by trees parsed same p' alike signed =
      let ds = definitions h.trees in
      let es = definitions trees in
      record {
        lexed = lexed;
        trees = trees;
        are_trees = trees_found 0 files' ls' trees (all_found IsLexed IsLexical lexed refl) parsed;
        classes = classes_kept ds es same h.classes;
        features = features_kept ds es same h.features;
        alike = alike_on (classes_meant es) (classes_meant ds) p'
            (alike_back (classes_meant ds) (classes_meant es) (alike_kept ds es same)) alike;
        signed = signed ∙ (h.signed ∙ sym (signatures_kept ds es same));
      }

  -- files that differ only in places
  pub read_moved : SameTokens ls ls' → IsRead files' ls' p
  read_moved same =
      let moved = trees_moved 0 files ls ls' h.trees (all_found IsLexed IsLexical h.lexed refl) parsed_before same in
      read_by moved.now moved.parsed moved.same p h.alike refl

  -- files that differ in one feature
  module _ (number : ℕ) (run : Run) (differ : DifferInFeature ls ls' number run) (x : Feature)
      (feature : ParsesFeature (run_tokens ls' run) x) where
    differs : DiffersAt 0 ls ls' differ.old run (run_tokens ls' run)
    differs =
        let old = differ.old in
        let same = differ.differ in
        let is : (k : ℕ) → 0 + k ≡ run.file → run.file ≡ k = λ k here. omega (arith, here) in
        let was : (k : ℕ) → 0 + k ≡ run.file → old.file ≡ k = λ k here. omega (arith, here, same.file) in
        record {
          home = same.file;
          start = same.start;
          order = differ.within.start;
          end = λ k here. subst (λ (n : ℕ). run.end ≤ length (file_tokens ls' n)) (is k here) differ.within.end;
          front = λ k here.
              ap (λ (n : ℕ). kinds (take run.start (file_tokens ls' n))) (sym (is k here))
              ∙ (same.front ∙ ap (λ (n : ℕ). kinds (take old.start (file_tokens ls n))) (was k here));
          back = λ k here.
              ap (λ (n : ℕ). kinds (drop run.end (file_tokens ls' n))) (sym (is k here))
              ∙ (same.back ∙ ap (λ (n : ℕ). kinds (drop old.end (file_tokens ls n))) (was k here));
          new_is = λ k here. ap (λ (n : ℕ). slice_range (file_tokens ls' n) run.start run.end) (sym (is k here));
          others = λ k other. differ.others k (λ here. other (omega (arith, here)));
        }

    edited : EditedTrees 0 ls ls' h.trees number (run_tokens ls' run) x
    edited =
        trees_edited 0 files ls ls' h.trees (all_found IsLexed IsLexical h.lexed refl) parsed_before differ.many number differ.old run
        differ.there (run_tokens ls' run) differs x feature

    -- the feature that was there
    pub old_feature : (y : Feature) × (slice_get (features_of_all (definitions h.trees)) number ≡ Some y)
    old_feature = (edited.old, edited.before)

    -- the files as read, over any table that is alike the one before; and the feature of this number in their trees
    pub read_edited : (p' : List Class) → AreAllAlike p p' → DeclareSame old_feature.0 x
        → (now : IsRead files' ls' p') × (slice_get (features_of_all (definitions now.trees)) number ≡ Some x)
    unfolding read_by old_feature
    read_edited p' alike same = (
      read_by edited.now edited.parsed (edited.same same) p' (alike_on (classes_meant (definitions h.trees)) p p' h.alike alike)
          (same_signatures p p' alike),
      edited.there,
    )

    -- the tokens of their features
    pub runs_edited : map kinds (runs_of (tokens_of ls'))
        ≡ slice_set (map kinds (runs_of (tokens_of ls))) number (kinds (run_tokens ls' run))
    runs_edited = edited.runs

    pub run_edited : get_or (runs_of (tokens_of ls')) number [] ≡ run_tokens ls' run
    run_edited = get_or_from_slice_get (runs_of (tokens_of ls')) number (run_tokens ls' run) [] edited.run
