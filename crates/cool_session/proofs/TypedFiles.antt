-- If files reach type checking, the sequences of tokens that end with a semicolon of a class body are the features of their class table. Files that are
-- rejected before type checking do not reach it.
use Rattle.std.proofs.Common.{◌≡◌, ◌≢◌, ℕ, ◌+◌, List, [], ◌∷◌, ◌++◌, map, Bool, true, false, if◌then◌else◌, refl, sym, ap, ◌∙◌, subst, arith}
use Rattle.std.specs.List.{AllByRecursion}
use Rattle.std.specs.List.Sorted.{IsPermutation}
use Rattle.std.proofs.lemmas.List.{map-append}
use Rattle.std.proofs.lemmas.List.Sorted.{IsPermutation-sym}
use Rattle.cool_syntax.specs.declared.token.Token.{Token}
use Rattle.cool_syntax.specs.declared.token.TokenKind.{TokenKind}
use Rattle.cool_syntax.specs.declared.token.TokenKind.TheVariants as kind
use Rattle.cool_syntax.specs.declared.token.Sign.TheVariants as sign
use Rattle.cool_syntax.specs.declared.file_tree.FileTree.{FileTree}
use Rattle.cool_syntax.specs.LexicalStructure.{depth_after, ends_run}
use Rattle.cool_lexer.specs.declared.lexer.Lexed.{Lexed}
use Rattle.cool_classes.specs.Chains.{Class}
use Rattle.cool_classes.specs.Definitions.{definitions}
use Rattle.cool_classes.specs.declared.fault.ClassFault.{ClassFault}
use Rattle.cool_classes.specs.ClassFaults.{classes_meant, feature_phase, HasClassPhase}
use Rattle.cool_classes.proofs.AllOfLists.{all_permuted}
use Rattle.cool_classes.proofs.RowsExact.{no_phase}
use Rattle.cool_check.specs.declared.fault.TypeFault.{TypeFault}
use Rattle.cool_faults.specs.declared.fault.Fault.{Fault}
use Rattle.cool_faults.specs.declared.fault.Fault.TheVariants.{Class as OfClasses, Typing}
use Rattle.cool_faults.specs.declared.fault.Untyped.{Untyped}
use Rattle.cool_faults.specs.Phases.{IsLexed, IsLexical}
use Rattle.cool_faults.specs.Untyped.{IsEarly, IsRefusedEarly}
use Rattle.cool_faults.specs.Verdicts.{IsPhase, of_lexer, of_parser, of_classes, of_features, of_typing, IsFaultList, faultless, faulty}
use Rattle.cool_faults.proofs.FindingsInARow.{AllFound, all_found}
use Rattle.cool_faults.proofs.OneVerdict.{one_trees, no_lexical, no_syntactic, none_moved}
use Rattle.cool_session.specs.Bases.{tokens_of, seen}
use Rattle.cool_session.specs.FeatureTokens.{AreFeatures, kinds, run_ended, runs_from, runs_in, runs_of, features_of_all}
use Rattle.cool_session.specs.Fresh.{Base, HaveFeatures, AreTyped}
use Rattle.cool_session.specs.KeptChecks.{IsRead}
use Rattle.cool_session.specs.KeptFaults.{members}
use Rattle.cool_session.specs.Signatures.{feature_ended, features_from}
use Rattle.cool_session.proofs.ChecksAfterEdits.{member_features, features_of_table}
use Rattle.cool_session.proofs.RunsOfFeatures.{features_joined, all_joined, runs_are_features}
use Rattle.cool_session.proofs.TreesOfTokens.{AreTreesOf, trees_lexed}

-- Runs without their places

ended_kinds : (k : TokenKind) (run : List Token) → map kinds (run_ended k run) ≡ feature_ended k (kinds run)
ended_kinds (kind.Sign sign.Semi) run = refl
ended_kinds _ run = refl

pub runs_kinds : (d : ℕ) (run ts : List Token) → map kinds (runs_from d run ts) ≡ features_from d (kinds run) (kinds ts)
runs_kinds d run [] = refl
runs_kinds d run (t ∷ ts) = by (ends_run t.kind d) (λ e now. runs_kinds e now ts)
  where
    one_more : kinds (run ++ t ∷ []) ≡ kinds run ++ t.kind ∷ []
    one_more = map-append (λ (t : Token). t.kind) run (t ∷ [])

    by : (b : Bool) → ((e : ℕ) (now : List Token) → map kinds (runs_from e now ts) ≡ features_from e (kinds now) (kinds ts))
        → map kinds (if b then run_ended t.kind (run ++ t ∷ []) ++ runs_from (depth_after t.kind d) [] ts
        else runs_from (depth_after t.kind d) (run ++ t ∷ []) ts)
        ≡ (if b then feature_ended t.kind (kinds run ++ t.kind ∷ []) ++ features_from (depth_after t.kind d) [] (kinds ts)
        else features_from (depth_after t.kind d) (kinds run ++ t.kind ∷ []) (kinds ts))
    by true behind =
        map-append kinds (run_ended t.kind (run ++ t ∷ [])) (runs_from (depth_after t.kind d) [] ts)
        ∙ ((λ i. ended_kinds t.kind (run ++ t ∷ []) i ++ behind (depth_after t.kind d) [] i)
        ∙ ap (λ (ks : List TokenKind). feature_ended t.kind ks ++ features_from (depth_after t.kind d) [] (kinds ts)) one_more)
    by false behind =
        behind (depth_after t.kind d) (run ++ t ∷ [])
        ∙ ap (λ (ks : List TokenKind). features_from (depth_after t.kind d) ks (kinds ts)) one_more

-- Files, one after the other

features_found : (file : ℕ) (files : List (List ℕ)) (ls : List Lexed) (ts : List FileTree) → AllFound IsLexed file files ls
    → AreTreesOf file ls ts → AreFeatures (runs_of (tokens_of ls)) (features_of_all (definitions ts))
features_found file [] [] [] h g = tt
features_found file [] [] (t ∷ ts) h g = absurd g
features_found file [] (l ∷ ls) ts h g = absurd h
features_found file (bytes ∷ files) [] ts h g = absurd h
features_found file (bytes ∷ files) (l ∷ ls) [] h g = absurd g
features_found file (bytes ∷ files) (l ∷ ls) (t ∷ ts) (h, hs) (g, gs) =
    subst (AreFeatures (runs_in l.tokens.items ++ runs_of (tokens_of ls))) (sym (all_joined t.classes (definitions ts)))
    (features_joined (runs_in l.tokens.items) (runs_of (tokens_of ls)) (features_of_all t.classes) (features_of_all (definitions ts))
    (runs_are_features file l.tokens.items t.classes h.rising g.whole) (features_found (file + 1) files ls ts hs gs))

tokens_found : (file : ℕ) (files : List (List ℕ)) (ls : List Lexed) → AllFound IsLexed file files ls
    → HaveFeatures file files (map kinds (runs_of (tokens_of ls)))
tokens_found file [] [] h = refl
tokens_found file [] (l ∷ ls) h = absurd h
tokens_found file (bytes ∷ files) [] h = absurd h
tokens_found file (bytes ∷ files) (l ∷ ls) (h, hs) = (
  l.tokens.items,
  map kinds (runs_of (tokens_of ls)),
  h.lexes,
  map-append kinds (runs_in l.tokens.items) (runs_of (tokens_of ls))
      ∙ ap (λ (fs : List (List TokenKind)). fs ++ map kinds (runs_of (tokens_of ls))) (runs_kinds 0 [] l.tokens.items),
  subst (λ (n : ℕ). HaveFeatures n files (map kinds (runs_of (tokens_of ls)))) (omega arith) (tokens_found (file + 1) files ls hs),
)

module _ (files : List (List ℕ)) (ls : List Lexed) (p : List Class) (h : IsRead files ls p) where
  lexed : AllFound IsLexed 0 files ls
  lexed = all_found IsLexed IsLexical h.lexed refl

  -- the runs of their tokens are the features of their exact table
  pub are_features : AreFeatures (runs_of (tokens_of ls)) (member_features (members (classes_meant (definitions h.trees))))
  are_features =
      subst (AreFeatures (runs_of (tokens_of ls))) (sym (features_of_table (definitions h.trees))) (features_found 0 files ls h.trees lexed
      (trees_lexed 0 files ls h.trees lexed h.are_trees))

-- they come to be typed
pub are_typed : (files : List (List ℕ)) (u : Untyped) → IsRead files u.lexed.items u.classes → AreTyped files (seen u)
are_typed files u h = record {
  trees = h.trees;
  are_trees = h.are_trees;
  classes = h.classes;
  features = h.features;
  signed = h.signed;
  tokens = tokens_found 0 files u.lexed.items (lexed files u.lexed.items u.classes h);
}

-- Files that are refused before do not come to be typed

none_early : (fs : List TypeFault) (faults : List Fault) → faults ≢ [] → AllByRecursion IsEarly faults → IsPermutation (map Typing fs) faults → ⊥
none_early [] faults some early moved = some (none_moved faults moved)
none_early (f ∷ fs) faults some early moved =
    (all_permuted IsEarly faults (map Typing (f ∷ fs)) (IsPermutation-sym (map Typing (f ∷ fs)) faults moved) early).0

module _ (files : List (List ℕ)) (faults : List Fault) (some : faults ≢ []) (early : AllByRecursion IsEarly faults) (now : Base)
    (t : AreTyped files now) where
  no_early_phase : IsPhase files faults → ⊥
  no_early_phase (of_lexer h) = some (no_lexical 0 files t.trees faults t.are_trees h)
  no_early_phase (of_parser h) = some (no_syntactic 0 files t.trees faults t.are_trees h)
  no_early_phase (of_classes ts fs trees phase moved) =
      let same = one_trees 0 files t.trees ts t.are_trees trees in
      let none = no_phase (definitions ts) fs (subst (λ (us : List FileTree). HasClassPhase (definitions us) []) same t.classes) phase in
      some (none_moved faults (subst (λ (xs : List ClassFault). IsPermutation (map OfClasses xs) faults) none moved))
  no_early_phase (of_features ts trees phase moved) =
      let same = one_trees 0 files t.trees ts t.are_trees trees in
      let none = subst (λ (us : List FileTree). feature_phase (definitions us) ≡ []) same t.features in
      some (none_moved faults (subst (λ (xs : List ClassFault). IsPermutation (map OfClasses xs) faults) none moved))
  no_early_phase (of_typing ts trees phase features moved) = none_early _ faults some early moved

no_early_list : (files : List (List ℕ)) (faults : List Fault) → faults ≢ [] → AllByRecursion IsEarly faults → (now : Base) → AreTyped files now
    → IsFaultList files faults → ⊥
no_early_list files faults some early now t (faultless h) = some refl
no_early_list files faults some early now t (faulty fs more phase order) = no_early_phase files fs some early now t phase

pub never_typed : (files : List (List ℕ)) (faults : List Fault) → IsRefusedEarly files faults → (now : Base) → AreTyped files now → ⊥
never_typed files faults h now t = no_early_list files faults h.refused.some h.early now t h.refused.list
