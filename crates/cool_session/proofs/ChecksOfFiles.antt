-- A check of files over a stored earlier check has one result: the list of errors and the number of features that are typed are unique.
use Rattle.std.proofs.Common.{◌≡◌, ◌≢◌, inl, inr, true≢false, is_some, ℕ, zero, suc, ◌<◌, ◌≤◌, List, [], ◌∷◌, ◌++◌, map, length, get_or, take, drop, Option, Some, None, refl, sym, ap, ◌∙◌, subst, arith}
use Rattle.std.specs.List.{AllByRecursion}
use Rattle.std.specs.List.Sorted.{IsPermutation}
use Rattle.std.specs.Borrow.{Bor}
use Rattle.std.proofs.Math.Logic.{∥∥₁_elim}
use Rattle.std.proofs.lemmas.List.{length-map}
use Rattle.std.proofs.lemmas.List.Sorted.{IsPermutation-map, length_permutation}
use Rattle.cool_syntax.specs.declared.TheConstants.{MOST_FILES, MOST_SOURCE_BYTES}
use Rattle.cool_syntax.specs.declared.token.Token.{Token}
use Rattle.cool_syntax.specs.declared.token.TokenKind.{TokenKind}
use Rattle.cool_syntax.specs.declared.file_tree.FileTree.{FileTree}
use Rattle.cool_syntax.specs.FaultOrder.{AreInOrder}
use Rattle.cool_lexer.specs.declared.lexer.Lexed.{Lexed}
use Rattle.cool_lexer.proofs.OneReading.{one_cutting}
use Rattle.cool_classes.specs.declared.class_id.ClassId.{ClassId}
use Rattle.cool_classes.specs.Chains.{Class}
use Rattle.cool_classes.specs.ClassFaults.{classes_meant}
use Rattle.cool_classes.specs.Definitions.{definitions}
use Rattle.cool_check.specs.declared.fault.TypeFault.{TypeFault}
use Rattle.cool_check.specs.Faults.{standing_of}
use Rattle.cool_check.specs.TypingFaults.{typing_faults}
use Rattle.cool_faults.specs.declared.fault.Fault.{Fault}
use Rattle.cool_faults.specs.declared.fault.Fault.TheVariants.{Typing}
use Rattle.cool_faults.specs.declared.fault.Untyped.{Untyped}
use Rattle.cool_faults.specs.Files.{total}
use Rattle.cool_faults.specs.Phases.{AreFound, IsLexed, IsLexical}
use Rattle.cool_faults.specs.Verdicts.{IsFaultList, faultless, faulty, of_typing}
use Rattle.cool_faults.proofs.FindingsInARow.{all_found}
use Rattle.cool_faults.proofs.OneVerdict.{one_trees}
use Rattle.cool_faults.proofs.OrderOfFaults.{typing_in_order}
use Rattle.cool_faults.proofs.SyntaxFaults.{tokens_few, as_many}
use Rattle.cool_session.specs.declared.base.Base.{Base as KeptBase}
use Rattle.cool_session.specs.declared.base.KeptFault.{KeptFault}
use Rattle.cool_session.specs.Bases.{View, view, views, parent_in, table_signature, table_signatures, tokens_of, seen}
use Rattle.cool_session.specs.FeatureTokens.{kinds, runs_of}
use Rattle.cool_session.specs.Fresh.{Base, HaveFeatures, AreTyped, IsFresh, first, signed_anew, edited, Types, typed, untyped}
use Rattle.cool_session.specs.KeptChecks.{HasFewTokens, IsRead, results_of, IsBase}
use Rattle.cool_session.specs.KeptFaults.{faults_kept, AreFaultsOf, AreKeptOf}
use Rattle.cool_session.specs.NewFeatures.{runs_seen, kinds_seen, AreNew, DifferBy, IsUsed, base_seen, IsAskedAtMost, IsAskedWithin}
use Rattle.cool_session.specs.Signatures.{ClassSignature, features_in, signatures}
use Rattle.cool_session.proofs.ChecksAfterEdits.{typing_faults_kept}
use Rattle.cool_session.proofs.FeaturesKept.{base_as_many}
use Rattle.cool_session.proofs.NewFeaturesCounted.{differ, differ_by}
use Rattle.cool_session.proofs.ReadFiles.{views_read}
use Rattle.cool_session.proofs.TablesOfSignatures.{class_same, views_same}
use Rattle.cool_session.proofs.TypedFiles.{are_typed}

-- Files are few, and so are their tokens

pub few_lexed : (files : List (List ℕ)) (ls : List Lexed) → AreFound IsLexed IsLexical 0 files ls [] → length files ≤ MOST_FILES
    → length ls < 4294967296
few_lexed files ls h few = omega (arith, few, as_many IsLexed 0 files ls (all_found IsLexed IsLexical h refl))

all_short : (ls : List Lexed) → AllByRecursion (λ (l : Lexed). length l.tokens.items ≤ MOST_SOURCE_BYTES) ls → AllByRecursion HasFewTokens ls
all_short [] h = tt
all_short (l ∷ ls) (h, hs) = (omega (arith, h), all_short ls hs)

pub short_lexed : (files : List (List ℕ)) (ls : List Lexed) → AreFound IsLexed IsLexical 0 files ls [] → total files ≤ MOST_SOURCE_BYTES
    → AllByRecursion HasFewTokens ls
short_lexed files ls h small = all_short ls (tokens_few 0 files ls (all_found IsLexed IsLexical h refl) small)

pub few_files : (files : List (List ℕ)) (ls : List Lexed) (p : List Class) → IsRead files ls p → length files ≤ MOST_FILES → length ls < 4294967296
few_files files ls p h few = few_lexed files ls h.lexed few

-- Files come to be typed in one way

pub one_features : (file : ℕ) (files : List (List ℕ)) (fs gs : List (List TokenKind)) → HaveFeatures file files fs → HaveFeatures file files gs → fs ≡ gs
one_features file [] fs gs h g = h ∙ sym g
one_features file (bytes ∷ files) fs gs (ts, rest, lexes, is, h) (us, more, also, as', g) =
    let same = one_cutting file bytes ts us lexes also in
    is ∙ ((λ i. features_in (map (λ (t : Token). t.kind) (same i)) ++ one_features (suc file) files rest more h g i) ∙ sym as')

pub one_base : (files : List (List ℕ)) (a b : Base) → AreTyped files a → AreTyped files b → a ≡ b
one_base files a b h g =
    let trees = one_trees 0 files h.trees g.trees h.are_trees g.are_trees in
    let signed = h.signed ∙ (ap (λ (ts : List FileTree). signatures (definitions ts)) trees ∙ sym g.signed) in
    let features = one_features 0 files a.features b.features h.tokens g.tokens in
    λ i. record { signatures = signed i; features = features i }

-- The same classes are the same signatures

dropped : (n : ℕ) (p : List Class) → views (drop n p) ≡ drop n (views p)
dropped zero p = refl
dropped (suc n) [] = refl
dropped (suc n) (d ∷ p) = dropped n p

parent_alike : (p q : List Class) → views p ≡ views q → (o : Option ClassId) → parent_in p o ≡ parent_in q o
parent_alike p q same None = refl
parent_alike p q same (Some c) = ap (λ (v : View). v.name) (class_same q p same c)

signed_alike : (p q : List Class) → views p ≡ views q → (ds es : List Class) → views ds ≡ views es
    → map (table_signature p) ds ≡ map (table_signature q) es
signed_alike p q same [] [] h = refl
signed_alike p q same [] (e ∷ es) h = absurd (omega (arith, ap length h))
signed_alike p q same (d ∷ ds) [] h = absurd (omega (arith, ap length h))
signed_alike p q same (d ∷ ds) (e ∷ es) h =
    let first : view d ≡ view e = ap (λ (vs : List View). get_or vs 0 (view d)) h in
    λ i.
    record {
      name = (first i).name;
      parent = (ap (λ (v : View). parent_in p v.parent) first ∙ parent_alike p q same e.parent) i;
      features = (first i).features;
    }
    ∷ signed_alike p q same ds es (ap (drop 1) h) i

pub signatures_of_views : (p q : List Class) → views p ≡ views q → table_signatures p ≡ table_signatures q
signatures_of_views p q same = signed_alike p q same (drop 5 p) (drop 5 q) (dropped 5 p ∙ (ap (drop 5) same ∙ sym (dropped 5 q)))

views_of_signatures : (files others : List (List ℕ)) (ls ms : List Lexed) (p q : List Class) → IsRead files ls p → IsRead others ms q
    → table_signatures p ≡ table_signatures q → views p ≡ views q
views_of_signatures files others ls ms p q h g same =
    views_read files ls p h
    ∙ (views_same (definitions g.trees) (definitions h.trees) (sym h.signed ∙ (same ∙ g.signed)) ∙ sym (views_read others ms q g))

-- The features that are new

other_signatures : (b : KeptBase) (files : List (List ℕ)) (now : Untyped) → IsRead files now.lexed.items now.classes
    → views b.untyped.classes ≢ views now.classes → (seen b.untyped).signatures ≢ (seen now).signatures
other_signatures b files now h other same =
    ∥∥₁_elim b.kept (λ x y. absurd x)
    (λ (k : IsBase b.untyped b.faults.items).
    other (views_of_signatures k.files files b.untyped.lexed.items now.lexed.items b.untyped.classes now.classes k.base.read h same))

take_whole : {X : Type 0} (xs : List X) (n : ℕ) → length xs ≡ n → take n xs ≡ xs
take_whole [] zero h = refl
take_whole [] (suc n) h = refl
take_whole (x ∷ xs) zero h = absurd (omega (arith, h))
take_whole {X} (x ∷ xs) (suc n) h = let less : length xs ≡ n = omega (arith, h) in ap (λ (ys : List X). x ∷ ys) (take_whole xs n less)

differ_many : {X : Type 0} (xs ys : List X) (n : ℕ) → DifferBy xs ys n → length xs ≡ length ys
differ_many [] [] n h = refl
differ_many [] (y ∷ ys) n h = absurd h
differ_many (x ∷ xs) [] n h = absurd h
differ_many (x ∷ xs) (y ∷ ys) n (inl (is, h)) = ap suc (differ_many xs ys n h)
differ_many (x ∷ xs) (y ∷ ys) n (inr (is, (m, one, h))) = ap suc (differ_many xs ys m h)

none_left : {X : Type 0} (xs : List X) → IsPermutation xs [] → xs ≡ []
none_left [] h = refl
none_left (x ∷ xs) h = absurd (omega (arith, length_permutation (x ∷ xs) [] h))

module _ (files : List (List ℕ)) (now : Untyped) (h : IsRead files now.lexed.items now.classes) where
  kinds_many : (b : KeptBase) → views b.untyped.classes ≡ views now.classes → length (kinds_seen b.untyped) ≡ length (kinds_seen now)
  kinds_many b same =
      length-map (runs_seen b.untyped) kinds
      ∙ (base_as_many b.untyped b.faults.items files now b.kept h same ∙ sym (length-map (runs_seen now) kinds))

  -- so many are fresh where so many are new
  pub fresh_where_new : (base : Option KeptBase) (used : Option (Bor KeptBase)) (n : ℕ) → IsUsed base used now.classes
      → AreNew used (kinds_seen now) (length (kinds_seen now)) n → IsFresh (seen now) (base_seen base) n
  fresh_where_new None None n is new = subst (IsFresh (seen now) None) (sym new) first
  fresh_where_new None (Some c) n is new = absurd is
  fresh_where_new (Some b) None n is new =
      subst (IsFresh (seen now) (Some (seen b.untyped))) (sym new) (signed_anew (seen b.untyped) (other_signatures b files now h is))
  fresh_where_new (Some b) (Some c) n (same, classes) new =
      let size = length (kinds_seen now) in
      let there : DifferBy (take size (kinds_seen b.untyped)) (take size (kinds_seen now)) n =
      subst (λ (k : KeptBase). DifferBy (take size (kinds_seen k.untyped)) (take size (kinds_seen now)) n) same new in
      let whole : DifferBy (kinds_seen b.untyped) (kinds_seen now) n =
      subst (λ (xs : List (List TokenKind)). DifferBy xs (kinds_seen now) n) (take_whole (kinds_seen b.untyped) size (kinds_many b classes))
      (subst (λ (ys : List (List TokenKind)). DifferBy (take size (kinds_seen b.untyped)) ys n) (take_whole (kinds_seen now) size refl) there) in
      edited (seen b.untyped) n (signatures_of_views b.untyped.classes now.classes classes) (differ (kinds_seen b.untyped) (kinds_seen now) n whole)

  none_some : {X : Type 0} {x : X} → ◌≡◌ {A = Option X} None (Some x) → ⊥
  none_some e = true≢false (sym (ap is_some e))

  signatures_at : Option Base → List ClassSignature
  signatures_at None = []
  signatures_at (Some b) = b.signatures

  features_at : Option Base → List (List TokenKind)
  features_at None = []
  features_at (Some b) = b.features

  -- so many are new where so many are fresh
  by_fresh : (base : Option KeptBase) (used : Option (Bor KeptBase)) (seen_before : Option Base) (n : ℕ) → IsUsed base used now.classes
      → seen_before ≡ base_seen base → IsFresh (seen now) seen_before n → AreNew used (kinds_seen now) (length (kinds_seen now)) n
  unfolding signatures_at features_at
  by_fresh None None before n is at first = refl
  by_fresh None None before n is at (signed_anew old other) = absurd (none_some (sym at))
  by_fresh None None before n is at (edited old m equal differs) = absurd (none_some (sym at))
  by_fresh None (Some c) before n is at f = absurd is
  by_fresh (Some b) None before n is at first = refl
  by_fresh (Some b) None before n is at (signed_anew old other) = refl
  by_fresh (Some b) None before n is at (edited old m equal differs) =
      absurd (other_signatures b files now h is (sym (ap signatures_at at) ∙ equal))
  by_fresh (Some b) (Some c) before n (same, classes) at first = absurd (none_some at)
  by_fresh (Some b) (Some c) before n (same, classes) at (signed_anew old other) =
      absurd (other (ap signatures_at at ∙ signatures_of_views b.untyped.classes now.classes classes))
  by_fresh (Some b) (Some c) before n (same, classes) at (edited old m equal differs) =
      let size = length (kinds_seen now) in
      let whole : DifferBy (kinds_seen b.untyped) (kinds_seen now) m =
      subst (λ (xs : List (List TokenKind)). DifferBy xs (kinds_seen now) m) (ap features_at at) (differ_by differs) in
      subst (λ (k : KeptBase). DifferBy (take size (kinds_seen k.untyped)) (take size (kinds_seen now)) m) (sym same)
      (subst (λ (xs : List (List TokenKind)). DifferBy xs (take size (kinds_seen now)) m)
      (sym (take_whole (kinds_seen b.untyped) size (kinds_many b classes)))
      (subst (λ (ys : List (List TokenKind)). DifferBy (kinds_seen b.untyped) ys m) (sym (take_whole (kinds_seen now) size refl)) whole))

  -- a typer that was asked no more often than features are new was asked no more often than they are fresh
  pub most_fresh : (base : Option KeptBase) (used : Option (Bor KeptBase)) (number n : ℕ) (after : Option Base) → IsUsed base used now.classes
      → ((all : ℕ) → AreNew used (kinds_seen now) (length (kinds_seen now)) all → number ≤ all) → Types files (base_seen base) n after → number ≤ n
  most_fresh base used number n after is most (typed other m t f) =
      let same = one_base files other (seen now) t (are_typed files now h) in
      most m (by_fresh base used (base_seen base) m is refl (subst (λ (b : Base). IsFresh b (base_seen base) m) same f))
  most_fresh base used number n after is most (untyped never) = absurd (never (seen now) (are_typed files now h))

  pub asked_within : (base : Option KeptBase) (used : Option (Bor KeptBase)) (before after : ℕ) → IsUsed base used now.classes
      → IsAskedAtMost used (kinds_seen now) before after → IsAskedWithin files (base_seen base) before after
  asked_within base used before after is asked =
      record { number = asked.number; asked = asked.asked; most = λ n now t. most_fresh base used asked.number n now is asked.most t }

-- the fault list, by what is kept
pub listed : (files : List (List ℕ)) (ls : List Lexed) (p : List Class) (h : IsRead files ls p) (kept : List (Option KeptFault))
    (faults : List Fault) → AreKeptOf (runs_of (tokens_of ls)) (results_of h.trees) kept
    → AreFaultsOf (faults_kept (runs_of (tokens_of ls)) kept) faults → IsFaultList files faults
listed files ls p h kept faults are f = subst (IsFaultList files) (sym f.is) (by f.types f.moved f.order)
  where
    meant : typing_faults (classes_meant (definitions h.trees)) ≡ faults_kept (runs_of (tokens_of ls)) kept
    meant = typing_faults_kept (classes_meant (definitions h.trees)) (runs_of (tokens_of ls)) kept are

    by : (types : List TypeFault) → IsPermutation (faults_kept (runs_of (tokens_of ls)) kept) types → AreInOrder standing_of types
        → IsFaultList files (map Typing types)
    by [] moved order = faultless (record {
      trees = h.trees;
      are_trees = h.are_trees;
      classes = h.classes;
      features = h.features;
      typing = meant ∙ none_left (faults_kept (runs_of (tokens_of ls)) kept) moved;
    })
    by (t ∷ types) moved order =
        faulty (map Typing (t ∷ types)) (λ e. absurd (omega (arith, ap length e)))
        (of_typing h.trees h.are_trees h.classes h.features
        (subst (λ (fs : List TypeFault). IsPermutation (map Typing fs) (map Typing (t ∷ types))) (sym meant)
        (IsPermutation-map Typing (faults_kept (runs_of (tokens_of ls)) kept) (t ∷ types) moved)))
        (typing_in_order (t ∷ types) order)
