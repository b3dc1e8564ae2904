-- The stored check (base) of files is unique: the files have at most one list of tokens and one syntax tree, and the other facts have at most one proof. So a
-- base that is only known to exist can be used.
use Rattle.std.proofs.Common.{◌≡◌, refl, ap, subst, arith, inl, inr, ℕ, ◌+◌, ◌≤◌, List, [], ◌∷◌, ◌++◌, length, Contains, Option}
use Rattle.std.specs.List.{AllByRecursion}
use Rattle.std.proofs.Math.Logic.{∥∥₁_elim, ∥∥₁_map}
use Rattle.std.proofs.Props.{props}
use Rattle.cool_syntax.specs.declared.TheConstants.{MOST_BYTES}
use Rattle.cool_syntax.specs.declared.place.Place.{Place}
use Rattle.cool_syntax.specs.declared.token.Token.{Token}
use Rattle.cool_syntax.specs.declared.token.TokenKind.{TokenKind}
use Rattle.cool_syntax.specs.declared.token.TokenKind.TheVariants as kind
use Rattle.cool_syntax.specs.declared.file_tree.ClassDef.{ClassDef}
use Rattle.cool_syntax.specs.declared.file_tree.Feature.{Feature}
use Rattle.cool_syntax.specs.declared.file_tree.Feature.TheVariants.{Method, Attribute}
use Rattle.cool_syntax.specs.declared.file_tree.FileTree.{FileTree}
use Rattle.cool_syntax.specs.Grammar.{IsUnexpected, Parses}
use Rattle.cool_syntax.specs.LexicalStructure.{Lexes}
use Rattle.cool_syntax.specs.TokenFacts.{AreRising, AreWithinLimits, IsPlaced, IsWithinLimits}
use Rattle.cool_lexer.specs.declared.lexer.Lexed.{Lexed}
use Rattle.cool_lexer.specs.Laws.{HasReading}
use Rattle.cool_lexer.proofs.AlwaysOneReading.{always_one}
use Rattle.cool_lexer.proofs.OneReading.{never_both, one_cutting}
use Rattle.cool_parser.specs.Laws.{HasTree}
use Rattle.cool_parser.proofs.ParsingIsTheGrammar.{file_or_fault, file_or_first}
use Rattle.cool_classes.specs.Chains.{Class}
use Rattle.cool_classes.specs.ClassFaults.{AreOnCycles, classes_meant, class_phase, feature_phase, HasClassPhase, names_faults, parents_faults}
use Rattle.cool_classes.specs.Declarations.{AllDeclareSame, AreAlike, AreAllAlike, DeclareSame}
use Rattle.cool_classes.specs.Definitions.{definitions}
use Rattle.cool_classes.specs.Settled.{basic_names, names_with_basic}
use Rattle.cool_check.specs.FirstFaults.{Checked}
use Rattle.cool_faults.specs.declared.fault.Untyped.{Untyped}
use Rattle.cool_faults.specs.Phases.{AreFound, none, good, IsLexed, IsLexical}
use Rattle.cool_faults.specs.Verdicts.{AreTrees}
use Rattle.cool_faults.proofs.FindingsInARow.{AllFound, all_found}
use Rattle.cool_faults.proofs.OneVerdict.{one_trees}
use Rattle.cool_session.specs.declared.base.KeptFault.{KeptFault}
use Rattle.cool_session.specs.Bases.{table_signatures, tokens_of}
use Rattle.cool_session.specs.FeatureTokens.{runs_of}
use Rattle.cool_session.specs.KeptChecks.{IsBaseOf, IsRead, results_of}
use Rattle.cool_session.specs.KeptFaults.{AreKeptOf}
use Rattle.cool_session.specs.Signatures.{signatures}
use Rattle.cool_session.proofs.KeptOnce.{kept_prop}
use Rattle.cool_session.proofs.TreesOfTokens.{AreTreesOf, trees_found, trees_lexed}

-- a fact that merely exists leads to nothing if it leads to a contradiction
never : {A : Type 0} → ∥ A ∥₁ → (A → ⊥) → ⊥
never h f = ∥∥₁_elim h (λ x y. absurd x) f

-- Facts with one proof at most

all_prop : {A : Type 0} (P : A → Type 0) → ((x : A) → IsProp (P x)) → (xs : List A) → IsProp (AllByRecursion P xs)
all_prop P one [] = λ x y. refl
all_prop P one (a ∷ as') = λ x y i. (one a x.0 y.0 i, all_prop P one as' x.1 y.1 i)

within_prop : (k : TokenKind) → IsProp (IsWithinLimits k)
within_prop (kind.TypeId name) = hlevel props
within_prop (kind.ObjectId name) = hlevel props
within_prop (kind.Int n) = hlevel props
within_prop (kind.Str bytes) =
    let short : IsProp (length bytes ≤ MOST_BYTES) = hlevel props in
    let each : (b : ℕ) → IsProp (1 ≤ b) = λ b. hlevel props in
    λ x y i. (short x.0 y.0 i, all_prop (λ b. 1 ≤ b) each bytes x.1 y.1 i)
within_prop (kind.Key k) = λ x y. refl
within_prop (kind.Sign s) = λ x y. refl

limits_prop : (files : ℕ) (tokens : List Token) → IsProp (AreWithinLimits files tokens)
limits_prop files =
    all_prop (λ t. IsPlaced files t.at × IsWithinLimits t.kind)
    (λ t.
    let placed : IsProp (IsPlaced files t.at) = hlevel props in
    λ x y i. (placed x.0 y.0 i, within_prop t.kind x.1 y.1 i))

rising_prop : (file low : ℕ) (tokens : List Token) → IsProp (AreRising file low tokens)
rising_prop file low [] = λ x y. refl
rising_prop file low (t ∷ ts) =
    let here : IsProp (t.at.file ≡ file) = hlevel props in
    let after : IsProp (low ≤ t.at.byte) = hlevel props in
    λ x y i. (here x.0 y.0 i, after x.1 y.1 i, rising_prop file (t.at.byte + 1) ts x.2 y.2 i)

declare_prop : (x y : Feature) → IsProp (DeclareSame x y)
declare_prop (Method m) (Method m') = hlevel props
declare_prop (Method m) (Attribute a) = λ x y. absurd x
declare_prop (Attribute a) (Method m) = λ x y. absurd x
declare_prop (Attribute a) (Attribute a') = hlevel props

all_declare_prop : (xs ys : List Feature) → IsProp (AllDeclareSame xs ys)
all_declare_prop [] [] = λ x y. refl
all_declare_prop [] (b ∷ bs) = λ x y. absurd x
all_declare_prop (a ∷ as') [] = λ x y. absurd x
all_declare_prop (a ∷ as') (b ∷ bs) = λ x y i. (declare_prop a b x.0 y.0 i, all_declare_prop as' bs x.1 y.1 i)

alike_prop : (d e : Class) → IsProp (AreAlike d e)
alike_prop d e =
    let name : IsProp (e.name ≡ d.name) = hlevel props in
    let parent : IsProp (e.parent ≡ d.parent) = hlevel props in
    λ x y i. (name x.0 y.0 i, parent x.1 y.1 i, all_declare_prop d.features e.features x.2 y.2 i)

all_alike_prop : (ds es : List Class) → IsProp (AreAllAlike ds es)
all_alike_prop [] [] = λ x y. refl
all_alike_prop [] (e ∷ es) = λ x y. absurd x
all_alike_prop (d ∷ ds) [] = λ x y. absurd x
all_alike_prop (d ∷ ds) (e ∷ es) = λ x y i. (alike_prop d e x.0 y.0 i, all_alike_prop ds es x.1 y.1 i)

all_kept_prop : (runs : List (List Token)) (rs : List (Checked (Unit {0}))) (kept : List (Option KeptFault)) → IsProp (AreKeptOf runs rs kept)
all_kept_prop [] [] [] = λ x y. refl
all_kept_prop [] [] (k ∷ ks) = λ x y. absurd x
all_kept_prop [] (r ∷ rs) [] = λ x y. absurd x
all_kept_prop [] (r ∷ rs) (k ∷ ks) = λ x y. absurd x
all_kept_prop (run ∷ runs) [] [] = λ x y. absurd x
all_kept_prop (run ∷ runs) [] (k ∷ ks) = λ x y. absurd x
all_kept_prop (run ∷ runs) (r ∷ rs) [] = λ x y. absurd x
all_kept_prop (run ∷ runs) (r ∷ rs) (k ∷ ks) = λ x y i. (kept_prop run r k x.0 y.0 i, all_kept_prop runs rs ks x.1 y.1 i)

-- Tokens

lexes_again : (file : ℕ) (bytes : List ℕ) (tokens : List Token) → ∥ Lexes file bytes tokens ∥₁ → Lexes file bytes tokens
lexes_again file bytes tokens h = by (always_one file bytes)
  where
    by : HasReading file bytes → Lexes file bytes tokens
    by (inl (found, lexes)) =
        let same : found ≡ tokens =
        ∥∥₁_elim h (hlevel props) (λ (l : Lexes file bytes tokens). one_cutting file bytes found tokens lexes l) in
        subst (Lexes file bytes) same lexes
    by (inr (k, place, fault)) = absurd (never h (λ (l : Lexes file bytes tokens). never_both file bytes tokens k place l fault))

lexed_again : (file : ℕ) (bytes : List ℕ) (lexed : Lexed) → ∥ IsLexed file bytes lexed ∥₁ → IsLexed file bytes lexed
lexed_again file bytes lexed h = record {
  lexes = lexes_again file bytes lexed.tokens.items (∥∥₁_map h (λ (l : IsLexed file bytes lexed). l.lexes));
  end = ∥∥₁_elim h (hlevel props) (λ (l : IsLexed file bytes lexed). l.end);
  limits = λ files less. ∥∥₁_elim h (limits_prop files lexed.tokens.items) (λ (l : IsLexed file bytes lexed). l.limits files less);
  rising = ∥∥₁_elim h (rising_prop file 0 lexed.tokens.items) (λ (l : IsLexed file bytes lexed). l.rising);
  few = ∥∥₁_elim h (hlevel props) (λ (l : IsLexed file bytes lexed). l.few);
  weight = ∥∥₁_elim h (hlevel props) (λ (l : IsLexed file bytes lexed). l.weight);
}

files_again : (file : ℕ) (files : List (List ℕ)) (ls : List Lexed) → ∥ AllFound IsLexed file files ls ∥₁
    → AreFound IsLexed IsLexical file files ls []
files_again file [] [] h = none file
files_again file [] (l ∷ ls) h = absurd (never h (λ x. x))
files_again file (bytes ∷ files) [] h = absurd (never h (λ x. x))
files_again file (bytes ∷ files) (l ∷ ls) h =
    good file bytes files l ls [] (lexed_again file bytes l (∥∥₁_map h (λ (x : AllFound IsLexed file (bytes ∷ files) (l ∷ ls)). x.0)))
    (files_again (file + 1) files ls (∥∥₁_map h (λ (x : AllFound IsLexed file (bytes ∷ files) (l ∷ ls)). x.1)))

-- Trees

abbrev HaveTrees : ℕ → List Lexed → Type 0
HaveTrees file ls = (trees : List FileTree) × AreTreesOf file ls trees

first_tree : (file : ℕ) (l : Lexed) (ls : List Lexed) → HaveTrees file (l ∷ ls) → (classes : List ClassDef) × Parses l.tokens.items classes
first_tree file l ls ([], h) = absurd h
first_tree file l ls (t ∷ ts, h) = (t.classes, h.0.whole)

later_trees : (file : ℕ) (l : Lexed) (ls : List Lexed) → HaveTrees file (l ∷ ls) → HaveTrees (file + 1) ls
later_trees file l ls ([], h) = absurd h
later_trees file l ls (t ∷ ts, h) = (ts, h.1)

trees_again : (file : ℕ) (ls : List Lexed) → ∥ HaveTrees file ls ∥₁ → HaveTrees file ls
trees_again file [] h = ([], tt)
trees_again file (l ∷ ls) h = by (file_or_first l.tokens.items l.end) (trees_again (file + 1) ls (∥∥₁_map h (later_trees file l ls)))
  where
    refused : (at : Place) → IsUnexpected l.tokens.items l.end at → HaveTrees file (l ∷ ls) → ⊥
    refused at fault x = let (classes, parses) = first_tree file l ls x in file_or_fault l.tokens.items l.end at classes parses fault

    by : HasTree l.tokens.items l.end → HaveTrees (file + 1) ls → HaveTrees file (l ∷ ls)
    by (inl (classes, parses)) (ts, more) = (record { file = file; classes = classes } ∷ ts, (record { number = refl; whole = parses }, more))
    by (inr (at, fault)) rest = absurd (never h (refused at fault))

-- Definitions with no fault

right_nil : {X : Type 0} (xs ys : List X) → [] ≡ xs ++ ys → [] ≡ ys
right_nil [] ys is = is
right_nil (x ∷ xs) ys is = absurd (omega (arith, ap length is))

no_cycles : (ds : List ClassDef) → HasClassPhase ds [] → AreOnCycles ds [] × ([] ≡ class_phase ds [])
no_cycles ds ([], on, is) = (on, is)
no_cycles ds (k ∷ ks, on, is) =
    let later = right_nil (names_faults basic_names ds) _ is in
    absurd (omega (arith, ap length (right_nil (parents_faults (names_with_basic ds) ds) _ later)))

phase_again : (ds : List ClassDef) → ∥ HasClassPhase ds [] ∥₁ → HasClassPhase ds []
phase_again ds h = (
  [],
  record {
    only = tt;
    all = λ k less cycle. absurd (never h (λ (x : HasClassPhase ds []). nothing_in k ((no_cycles ds x).0.all k less cycle)));
    once = tt;
  },
  ∥∥₁_elim h (hlevel props) (λ (x : HasClassPhase ds []). (no_cycles ds x).1),
)
  where
    nothing_in : (k : ℕ) → Contains [] k → ⊥
    nothing_in k (i, less, e) = absurd (omega (arith, less))

-- Bases

module _ (files : List (List ℕ)) (ls : List Lexed) (p : List Class) (h : ∥ IsRead files ls p ∥₁) where
  lexed : AreFound IsLexed IsLexical 0 files ls []
  lexed = files_again 0 files ls (∥∥₁_map h (λ (b : IsRead files ls p). all_found IsLexed IsLexical b.lexed refl))

  cut : AllFound IsLexed 0 files ls
  cut = all_found IsLexed IsLexical lexed refl

  found : HaveTrees 0 ls
  found = trees_again 0 ls (∥∥₁_map h (λ (b : IsRead files ls p). (b.trees, trees_lexed 0 files ls b.trees cut b.are_trees)))

  are : AreTrees 0 files found.0
  are = trees_found 0 files ls found.0 cut found.1

  same : (b : IsRead files ls p) → b.trees ≡ found.0
  same b = one_trees 0 files b.trees found.0 b.are_trees are

  pub read_again : IsRead files ls p
  read_again = record {
    lexed = lexed;
    trees = found.0;
    are_trees = are;
    classes =
        phase_again (definitions found.0)
        (∥∥₁_map h (λ (b : IsRead files ls p). subst (λ (ts : List FileTree). HasClassPhase (definitions ts) []) (same b) b.classes));
    features =
        ∥∥₁_elim h (hlevel props)
        (λ (b : IsRead files ls p). subst (λ (ts : List FileTree). feature_phase (definitions ts) ≡ []) (same b) b.features);
    alike =
        ∥∥₁_elim h (all_alike_prop (classes_meant (definitions found.0)) p)
        (λ (b : IsRead files ls p). subst (λ (ts : List FileTree). AreAllAlike (classes_meant (definitions ts)) p) (same b) b.alike);
    signed =
        ∥∥₁_elim h (hlevel props)
        (λ (b : IsRead files ls p). subst (λ (ts : List FileTree). table_signatures p ≡ signatures (definitions ts)) (same b) b.signed);
  }

pub base_again : (files : List (List ℕ)) (u : Untyped) (kept : List (Option KeptFault)) → ∥ IsBaseOf files u kept ∥₁ → IsBaseOf files u kept
base_again files u kept h =
    let ls = u.lexed.items in
    let read = read_again files ls u.classes (∥∥₁_map h (λ (b : IsBaseOf files u kept). b.read)) in
    record {
      read = read;
      kept =
          ∥∥₁_elim h (all_kept_prop (runs_of (tokens_of ls)) (results_of read.trees) kept)
          (λ (b : IsBaseOf files u kept).
          subst (λ (ts : List FileTree). AreKeptOf (runs_of (tokens_of ls)) (results_of ts) kept)
          (one_trees 0 files b.read.trees read.trees b.read.are_trees read.are_trees) b.kept);
    }
