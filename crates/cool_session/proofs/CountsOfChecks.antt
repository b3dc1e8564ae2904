-- A check of files over a stored earlier check types some number of features. The files have a list of errors, which says whether they reach type checking, and
-- two stored checks with the same signatures have as many features.
use Rattle.std.proofs.Common.{◌≡◌, ◌≢◌, ◌⊎◌, inl, inr, ℕ, ◌+◌, ◌≤◌, List, [], ◌∷◌, ◌++◌, map, length, refl, sym, ap, ◌∙◌, subst, arith, add-one}
use Rattle.std.specs.Prelude.{Option, Some, None}
use Rattle.std.specs.List.Sorted.{IsPermutation}
use Rattle.std.proofs.lemmas.List.{length-append, length-map}
use Rattle.cool_syntax.specs.declared.TheConstants.{MOST_FILES, MOST_SOURCE_BYTES}
use Rattle.cool_syntax.specs.declared.token.Token.{Token}
use Rattle.cool_syntax.specs.declared.token.TokenKind.{TokenKind}
use Rattle.cool_syntax.specs.declared.file_tree.ClassDef.{ClassDef}
use Rattle.cool_syntax.specs.declared.file_tree.FileTree.{FileTree}
use Rattle.cool_syntax.specs.Grammar.{Parses}
use Rattle.cool_syntax.specs.LexicalStructure.{Lexes}
use Rattle.cool_syntax.specs.TokenFacts.{AreRising}
use Rattle.cool_lexer.proofs.LexemesKeepLimits.{rising}
use Rattle.cool_lexer.proofs.OneReading.{one_cutting}
use Rattle.cool_classes.specs.declared.fault.ClassFault.{ClassFault}
use Rattle.cool_classes.specs.ClassFaults.{feature_phase, HasClassPhase}
use Rattle.cool_classes.specs.Definitions.{definitions}
use Rattle.cool_classes.proofs.RowsExact.{no_phase}
use Rattle.cool_faults.specs.declared.fault.Fault.{Fault}
use Rattle.cool_faults.specs.declared.fault.Fault.TheVariants.{Class as OfClasses}
use Rattle.cool_faults.specs.Files.{total}
use Rattle.cool_faults.specs.Laws.{HaveVerdicts}
use Rattle.cool_faults.specs.Verdicts.{AreTrees, IsPhase, of_lexer, of_parser, of_classes, of_features, of_typing, IsFaultList, faultless, faulty}
use Rattle.cool_faults.proofs.AcceptedFiles.{accepted_list}
use Rattle.cool_faults.proofs.OneVerdict.{one_trees, no_lexical, no_syntactic, none_moved}
use Rattle.cool_session.specs.FeatureTokens.{kinds, runs_in, features_of_all}
use Rattle.cool_session.specs.Fresh.{Base, HaveFeatures, AreTyped, IsFresh, first, signed_anew, edited, Types, typed, untyped, IsOfFiles, HasCount}
use Rattle.cool_session.specs.Signatures.{ClassSignature, feature_signature, features_in, signatures}
use Rattle.cool_session.proofs.FeaturesKept.{many_runs}
use Rattle.cool_session.proofs.KnownEqual.{known_lists, known_kinds, known_signatures, so_many_differ}
use Rattle.cool_session.proofs.RunsOfFeatures.{all_joined, runs_are_features}
use Rattle.cool_session.proofs.TypedFiles.{runs_kinds}

-- Files have a fault list, which says whether they come to be typed

pub listed_at_least : HaveVerdicts → (files : List (List ℕ)) → length files ≤ MOST_FILES → total files ≤ MOST_SOURCE_BYTES
    → (faults : List Fault) × IsFaultList files faults
listed_at_least verdicts files few small =
    elim (verdicts files few small) [
      | inl (p, accepted) ↦ ([], accepted_list files p accepted)
      | inr (faults, refused) ↦ (faults, refused.list)
    ]

features_of_trees : (file : ℕ) (files : List (List ℕ)) (ts : List FileTree) → AreTrees file files ts
    → (fs : List (List TokenKind)) × HaveFeatures file files fs
features_of_trees file [] [] h = ([], refl)
features_of_trees file [] (t ∷ ts) h = absurd h
features_of_trees file (bytes ∷ files) [] h = absurd h
features_of_trees file (bytes ∷ files) (t ∷ ts) (h, hs) =
    let (rest, more) = features_of_trees (file + 1) files ts hs in (
      features_in (map (λ (t : Token). t.kind) h.tokens) ++ rest,
      (h.tokens, rest, h.lexes, refl, subst (λ (n : ℕ). HaveFeatures n files rest) (add-one file) more),
    )

typed_so : (files : List (List ℕ)) (ts : List FileTree) → AreTrees 0 files ts → HasClassPhase (definitions ts) [] → feature_phase (definitions ts) ≡ []
    → (now : Base) × AreTyped files now
typed_so files ts trees classes features =
    let (fs, tokens) = features_of_trees 0 files ts trees in (
      record { signatures = signatures (definitions ts); features = fs },
      record { trees = ts; are_trees = trees; classes = classes; features = features; signed = refl; tokens = tokens },
    )

IsKnownTyped : List (List ℕ) → Type 0
IsKnownTyped files = ((now : Base) × AreTyped files now) ⊎ ((now : Base) → AreTyped files now → ⊥)

by_phase : (files : List (List ℕ)) (faults : List Fault) → faults ≢ [] → IsPhase files faults → IsKnownTyped files
unfolding IsKnownTyped
by_phase files faults some (of_lexer h) = inr (λ now t. some (no_lexical 0 files t.trees faults t.are_trees h))
by_phase files faults some (of_parser h) = inr (λ now t. some (no_syntactic 0 files t.trees faults t.are_trees h))
by_phase files faults some (of_classes ts fs trees phase moved) =
    inr (λ now t.
    let same = one_trees 0 files t.trees ts t.are_trees trees in
    let none = no_phase (definitions ts) fs (subst (λ (us : List FileTree). HasClassPhase (definitions us) []) same t.classes) phase in
    some (none_moved faults (subst (λ (xs : List ClassFault). IsPermutation (map OfClasses xs) faults) none moved)))
by_phase files faults some (of_features ts trees phase moved) =
    inr (λ now t.
    let same = one_trees 0 files t.trees ts t.are_trees trees in
    let none = subst (λ (us : List FileTree). feature_phase (definitions us) ≡ []) same t.features in
    some (none_moved faults (subst (λ (xs : List ClassFault). IsPermutation (map OfClasses xs) faults) none moved)))
by_phase files faults some (of_typing ts trees phase features moved) = inl (typed_so files ts trees phase features)

known_typed : (files : List (List ℕ)) (faults : List Fault) → IsFaultList files faults → IsKnownTyped files
unfolding IsKnownTyped
known_typed files faults (faultless h) = inl (typed_so files h.trees h.are_trees h.classes h.features)
known_typed files faults (faulty fs some phase order) = by_phase files fs some phase

-- A base of files has as many features as its signatures

features_signed : List ClassSignature → ℕ
features_signed [] = 0
features_signed (s ∷ ss) = length s.features + features_signed ss

signed_many : (ds : List ClassDef) → features_signed (signatures ds) ≡ length (features_of_all ds)
unfolding features_signed
signed_many [] = refl
signed_many (d ∷ ds) =
    let own = length-map d.features feature_signature in
    let both = length-append d.features (features_of_all ds) in
    let rest = signed_many ds in omega (arith, own, both, rest)

lexemes_rise : (file : ℕ) (bytes : List ℕ) (tokens : List Token) → Lexes file bytes tokens → AreRising file 0 tokens
lexemes_rise file bytes tokens h =
    subst (AreRising file 0) (sym h.lexemes) (rising file bytes 0 0 bytes h.items (length bytes) [] (omega arith) h.leads)

file_many : (file : ℕ) (bytes : List ℕ) (tokens : List Token) (classes : List ClassDef) → Lexes file bytes tokens → Parses tokens classes
    → length (features_in (map (λ (t : Token). t.kind) tokens)) ≡ length (features_of_all classes)
file_many file bytes tokens classes lexes parses =
    sym (ap length (runs_kinds 0 [] tokens)) ∙ (length-map (runs_in tokens) kinds
    ∙ many_runs (runs_in tokens) (features_of_all classes) (runs_are_features file tokens classes (lexemes_rise file bytes tokens lexes) parses))

files_many : (file : ℕ) (files : List (List ℕ)) (ts : List FileTree) (fs : List (List TokenKind)) → AreTrees file files ts
    → HaveFeatures file files fs → length fs ≡ length (features_of_all (definitions ts))
files_many file [] [] fs trees h = ap length h
files_many file [] (t ∷ ts) fs trees h = absurd trees
files_many file (bytes ∷ files) [] fs trees h = absurd trees
files_many file (bytes ∷ files) (t ∷ ts) fs (tree, trees) (tokens, rest, lexes, is, h) =
    let same : tree.tokens ≡ tokens = one_cutting file bytes tree.tokens tokens tree.lexes lexes in
    let parses : Parses tokens t.classes = subst (λ (us : List Token). Parses us t.classes) same tree.parses in
    let own = file_many file bytes tokens t.classes lexes parses in
    let later = files_many (file + 1) files ts rest trees (subst (λ (n : ℕ). HaveFeatures n files rest) (sym (add-one file)) h) in
    let front = ap length is ∙ length-append (features_in (map (λ (t : Token). t.kind) tokens)) rest in
    let whole = ap length (all_joined t.classes (definitions ts)) ∙ length-append (features_of_all t.classes) (features_of_all (definitions ts)) in
    omega (arith, own, later, front, whole)

features_many : (files : List (List ℕ)) (b : Base) → AreTyped files b → length b.features ≡ features_signed b.signatures
features_many files b t =
    files_many 0 files t.trees b.features t.are_trees t.tokens ∙ (sym (signed_many (definitions t.trees)) ∙ sym (ap features_signed t.signed))

-- So many are fresh

fresh_at_least : (files : List (List ℕ)) (now : Base) → AreTyped files now → (base : Option Base) → IsOfFiles base → (n : ℕ) × IsFresh now base n
fresh_at_least files now t None is = (length now.features, first)
fresh_at_least files now t (Some old) (others, was) = by (known_signatures old.signatures now.signatures)
  where
    by : (old.signatures ≡ now.signatures) ⊎ (old.signatures ≢ now.signatures) → (n : ℕ) × IsFresh now (Some old) n
    by (inr ne) = (length now.features, signed_anew old ne)
    by (inl same) =
        let long : length old.features ≡ length now.features =
        features_many others old was ∙ (ap features_signed same ∙ sym (features_many files now t)) in
        let (n, d) = so_many_differ (known_lists known_kinds) old.features now.features long in (n, edited old n same d)

-- the base that a check leaves is one of files
pub types_of_list : (files : List (List ℕ)) (faults : List Fault) → IsFaultList files faults → (base : Option Base) → IsOfFiles base → HasCount files base
unfolding IsKnownTyped
types_of_list files faults list base is = by (known_typed files faults list)
  where
    by : IsKnownTyped files → HasCount files base
    by (inl (now, t)) = let (n, f) = fresh_at_least files now t base is in (n, Some now, typed now n t f)
    by (inr never) = (0, base, untyped never)

pub types_at_least : HaveVerdicts → (files : List (List ℕ)) (base : Option Base) → length files ≤ MOST_FILES → total files ≤ MOST_SOURCE_BYTES
    → IsOfFiles base → HasCount files base
types_at_least verdicts files base few small is =
    let (faults, list) = listed_at_least verdicts files few small in types_of_list files faults list base is

pub of_files_after : (files : List (List ℕ)) (base : Option Base) (n : ℕ) (after : Option Base) → Types files base n after → IsOfFiles base
    → IsOfFiles after
of_files_after files base n after (typed now m t f) is = (files, t)
of_files_after files base n after (untyped never) is = is
