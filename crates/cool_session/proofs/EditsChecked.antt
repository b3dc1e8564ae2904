-- After an edit of at most one feature, the results stored by the last check are also those to store for the other features, and at most the edited feature
-- counts as new.
use Rattle.std.proofs.Common.{◌≡◌, ◌≢◌, ◌⊎◌, inl, inr, ℕ, zero, suc, ◌+◌, ◌<◌, List, [], ◌∷◌, ◌++◌, map, length, get_or, drop, Option, Some, None, Ok, refl, sym, ap, ◌∙◌, subst, arith, set}
use Rattle.std.specs.Prelude.{slice_set}
use Rattle.std.proofs.lemmas.List.{length-map, get_or-set_same, get_or-set_other, length-set}
use Rattle.cool_syntax.specs.declared.token.Token.{Token}
use Rattle.cool_syntax.specs.declared.token.TokenKind.{TokenKind}
use Rattle.cool_syntax.specs.declared.file_tree.Feature.{Feature}
use Rattle.cool_lexer.specs.declared.lexer.Lexed.{Lexed}
use Rattle.cool_classes.specs.declared.class_id.ClassId.{ClassId}
use Rattle.cool_classes.specs.Chains.{Class}
use Rattle.cool_classes.specs.ClassFaults.{classes_meant}
use Rattle.cool_classes.specs.Definitions.{definitions}
use Rattle.cool_check.specs.FirstFaults.{Checked}
use Rattle.cool_check.specs.TypingFaults.{feature_checked}
use Rattle.cool_faults.specs.declared.fault.Untyped.{Untyped}
use Rattle.cool_session.specs.declared.base.KeptFault.{KeptFault}
use Rattle.cool_session.specs.declared.ids.FeatureId.{FeatureId}
use Rattle.cool_session.specs.Bases.{View, view, views, tokens_of, table_signatures, seen}
use Rattle.cool_session.specs.FeatureTokens.{kinds, IsFeature, runs_of}
use Rattle.cool_session.specs.Fresh.{Base, Differ, none, same, other, IsFresh, first, signed_anew, edited, Types, typed, untyped}
use Rattle.cool_session.specs.Ids.{ids_in, ids_from, ids}
use Rattle.cool_session.specs.KeptChecks.{IsRead, results_of}
use Rattle.cool_session.specs.KeptFaults.{IsKeptOf, AreKeptOf, Member, members, member_checked}
use Rattle.cool_session.specs.NewFeatures.{DifferBy}
use Rattle.cool_session.specs.Signatures.{feature_signature}
use Rattle.cool_session.proofs.ChecksAfterEdits.{member_classes_same, kept_at}
use Rattle.cool_session.proofs.ChecksOfFiles.{one_base}
use Rattle.cool_session.proofs.FaultsAfterEdits.{still_kept}
use Rattle.cool_session.proofs.FeaturesKept.{member_at, many_kept}
use Rattle.cool_session.proofs.NewFeaturesCounted.{seen_at, differ_by}
use Rattle.cool_session.proofs.ReadFiles.{views_read}
use Rattle.cool_session.proofs.TablesOfSignatures.{views_same}
use Rattle.cool_session.proofs.TypedFiles.{are_features, are_typed}
use Rattle.std.proofs.lemmas.Bool.{cases_eq}

-- If the result at each position is stored, so are all results

all_kept_at : (runs : List (List Token)) (rs : List (Checked (Unit {0}))) (more : List (Option KeptFault)) → length rs ≡ length runs
    → length more ≡ length runs → ((i : ℕ) → i < length runs → IsKeptOf (get_or runs i []) (get_or rs i (Ok tt)) (get_or more i None))
    → AreKeptOf runs rs more
all_kept_at [] [] [] many as_many h = tt
all_kept_at [] [] (k ∷ more) many as_many h = absurd (omega (arith, as_many))
all_kept_at [] (r ∷ rs) more many as_many h = absurd (omega (arith, many))
all_kept_at (run ∷ runs) [] more many as_many h = absurd (omega (arith, many))
all_kept_at (run ∷ runs) (r ∷ rs) [] many as_many h = absurd (omega (arith, as_many))
all_kept_at (run ∷ runs) (r ∷ rs) (k ∷ more) many as_many h = (
  h 0 (omega arith),
  all_kept_at runs rs more (omega (arith, many)) (omega (arith, as_many)) (λ i less. h (suc i) (omega (arith, less))),
)

module _ (files files' : List (List ℕ)) (ls ls' : List Lexed) (p p' : List Class) (h : IsRead files ls p) (h' : IsRead files' ls' p')
    (signed : table_signatures p' ≡ table_signatures p) (kept : List (Option KeptFault))
    (are : AreKeptOf (runs_of (tokens_of ls)) (results_of h.trees) kept) where
  meant : views (classes_meant (definitions h'.trees)) ≡ views (classes_meant (definitions h.trees))
  meant = views_same (definitions h.trees) (definitions h'.trees) (sym h'.signed ∙ (signed ∙ h.signed))

  -- as many results as before
  as_many_results : length (results_of h'.trees) ≡ length (results_of h.trees)
  as_many_results =
      let q = classes_meant (definitions h.trees) in
      let q' = classes_meant (definitions h'.trees) in
      let classes_of = λ (m : Member). m.class in
      length-map (members q') (member_checked q')
      ∙ (sym (length-map (members q') classes_of)
      ∙ (ap length (member_classes_same q q' meant)
      ∙ (length-map (members q) classes_of ∙ sym (length-map (members q) (member_checked q)))))

  -- as many results as runs, and as many things kept
  results_many : length (results_of h.trees) ≡ length (runs_of (tokens_of ls))
  results_many = (many_kept (runs_of (tokens_of ls)) (results_of h.trees) kept are).0

  faults_many : length kept ≡ length (runs_of (tokens_of ls))
  faults_many = (many_kept (runs_of (tokens_of ls)) (results_of h.trees) kept are).1

  -- the result stored at a position whose tokens are the same
  still_at : (i : ℕ) → i < length (runs_of (tokens_of ls'))
      → kinds (get_or (runs_of (tokens_of ls')) i []) ≡ kinds (get_or (runs_of (tokens_of ls)) i [])
      → IsKeptOf (get_or (runs_of (tokens_of ls')) i []) (get_or (results_of h'.trees) i (Ok tt)) (get_or kept i None)
  still_at i less alike =
      kept_at (classes_meant (definitions h.trees)) (classes_meant (definitions h'.trees)) meant (runs_of (tokens_of ls)) (runs_of
      (tokens_of ls'))
      kept i (are_features files ls p h) (are_features files' ls' p' h') are less alike

  -- only places differ
  pub kept_moved : map kinds (runs_of (tokens_of ls')) ≡ map kinds (runs_of (tokens_of ls))
      → AreKeptOf (runs_of (tokens_of ls')) (results_of h'.trees) kept
  kept_moved alike =
      let runs = runs_of (tokens_of ls) in
      let runs' = runs_of (tokens_of ls') in
      let many : length runs' ≡ length runs = sym (length-map runs' kinds) ∙ (ap length alike ∙ length-map runs kinds) in
      all_kept_at runs' (results_of h'.trees) kept (as_many_results ∙ (results_many ∙ sym many)) (faults_many ∙ sym many)
      (λ i less. still_at i less (sym (seen_at runs' i) ∙ (ap (λ (ks : List (List TokenKind)). get_or ks i []) alike ∙ seen_at runs i)))

  abbrev runs : List (List Token)
  runs = runs_of (tokens_of ls)

  abbrev runs' : List (List Token)
  runs' = runs_of (tokens_of ls')

  -- one feature differs
  pub kept_edited : (number : ℕ) (new : List TokenKind) (fault : Option KeptFault)
      → map kinds (runs_of (tokens_of ls')) ≡ slice_set (map kinds (runs_of (tokens_of ls))) number new
      → IsKeptOf (get_or (runs_of (tokens_of ls')) number []) (get_or (results_of h'.trees) number (Ok tt)) fault
      → AreKeptOf (runs_of (tokens_of ls')) (results_of h'.trees) (slice_set kept number fault)
  kept_edited number new fault alike here =
      all_kept_at runs' (results_of h'.trees) (slice_set kept number fault)
      (as_many_results ∙ (results_many ∙ sym many))
      (length-set kept number fault ∙ (faults_many ∙ sym many))
      (λ i less. at i less (cases_eq i number))
    where
      many : length runs' ≡ length runs
      many =
          sym (length-map runs' kinds) ∙ (ap length alike ∙ (length-set (map kinds runs) number new ∙ length-map runs kinds))

      at : (i : ℕ) → i < length runs' → (i ≡ number) ⊎ (i ≢ number)
          → IsKeptOf (get_or runs' i []) (get_or (results_of h'.trees) i (Ok tt)) (get_or (slice_set kept number fault) i None)
      at i less (inl is) =
          let within : number < length kept =
          omega (arith, less, is, many, faults_many) in
          let found : get_or (slice_set kept number fault) i None ≡ fault =
          ap (λ (n : ℕ). get_or (slice_set kept number fault) n None) is ∙ get_or-set_same kept number fault None within in
          subst (λ (k : Option KeptFault). IsKeptOf (get_or runs' i []) (get_or (results_of h'.trees) i (Ok tt)) k) (sym found)
          (subst (λ (n : ℕ). IsKeptOf (get_or runs' n []) (get_or (results_of h'.trees) n (Ok tt)) fault) (sym is) here)
      at i less (inr not) =
          subst (λ (k : Option KeptFault). IsKeptOf (get_or runs' i []) (get_or (results_of h'.trees) i (Ok tt)) k)
          (sym (get_or-set_other kept number i fault None not))
          (still_at i less
          (sym (seen_at runs' i)
          ∙ (ap (λ (ks : List (List TokenKind)). get_or ks i []) alike
          ∙ (get_or-set_other (map kinds runs) number i new [] not ∙ seen_at runs i))))

-- The feature of a number in a table that is alike

ids_alike : (c : ClassId) (k : ℕ) (xs ys : List Feature) → map feature_signature xs ≡ map feature_signature ys
    → ids_in c k xs ≡ ids_in c k ys
ids_alike c k [] [] h = refl
ids_alike c k [] (y ∷ ys) h = absurd (omega (arith, ap length h))
ids_alike c k (x ∷ xs) [] h = absurd (omega (arith, ap length h))
ids_alike c k (x ∷ xs) (y ∷ ys) h =
    ap (λ (is : List FeatureId). record { class = c; index = k } ∷ is) (ids_alike c (k + 1) xs ys (ap (drop 1) h))

pub ids_same_from : (k : ℕ) (p q : List Class) → views p ≡ views q → ids_from k p ≡ ids_from k q
ids_same_from k [] [] h = refl
ids_same_from k [] (e ∷ q) h = absurd (omega (arith, ap length h))
ids_same_from k (d ∷ p) [] h = absurd (omega (arith, ap length h))
ids_same_from k (d ∷ p) (e ∷ q) h =
    let here : map feature_signature d.features ≡ map feature_signature e.features =
    ap (λ (vs : List View). (get_or vs 0 (view d)).features) h in
    λ i. ids_alike (record { 0 = k }) 0 d.features e.features here i ++ ids_same_from (k + 1) p q (ap (drop 1) h) i

-- the result to store for a feature, by its check over a table that is alike
pub kept_here : (files : List (List ℕ)) (ls : List Lexed) (p : List Class) (h : IsRead files ls p) (number : ℕ) (id : FeatureId)
    (tokens : List Token) (x : Feature) (kept : Option KeptFault) → number < length (ids p) → id ≡ get_or (ids p) number id
    → IsFeature tokens x → tokens ≡ get_or (runs_of (tokens_of ls)) number [] → IsKeptOf tokens (feature_checked p id.class x) kept
    → IsKeptOf (get_or (runs_of (tokens_of ls)) number []) (get_or (results_of h.trees) number (Ok tt)) kept
kept_here files ls p h number id tokens x kept less named own here is =
    let q = classes_meant (definitions h.trees) in
    let alike : views p ≡ views q = views_read files ls p h in
    let ids_same : ids p ≡ ids q = ids_same_from 0 p q alike in
    let within : number < length (ids q) = omega (arith, less, ap length ids_same) in
    let m = member_at q (ids q) number id refl within (named ∙ ap (λ (is : List FeatureId). get_or is number id) ids_same) in
    let there : IsFeature tokens m.feature =
    subst (λ (ts : List Token). IsFeature ts m.feature) (sym here) (m.own (runs_of (tokens_of ls)) (are_features files ls p h)) in
    let kept_so : IsKeptOf tokens (feature_checked q id.class m.feature) kept =
    still_kept p q (sym alike) id.class x m.feature tokens tokens own.parses there.parses own.file 0 own.rising refl kept is in
    subst (λ (ts : List Token). IsKeptOf ts (get_or (results_of h.trees) number (Ok tt)) kept) here
    (subst (λ (r : Checked (Unit {0})). IsKeptOf tokens r kept) (sym m.result) kept_so)

-- So many items differ

all_same : {X : Type 0} (xs : List X) → Differ xs xs 0
all_same [] = none
all_same (x ∷ xs) = same x xs xs 0 (all_same xs)

pub none_differs : {X : Type 0} (xs ys : List X) → ys ≡ xs → Differ xs ys 0
none_differs {X} xs ys is = subst (λ (zs : List X). Differ xs zs 0) (sym is) (all_same xs)

one_set : {X : Type 0} (xs : List X) (i : ℕ) (x d : X) → i < length xs → x ≢ get_or xs i d → Differ xs (set xs i x) 1
one_set [] i x d less not = absurd (omega (arith, less))
one_set (y ∷ xs) zero x d less not = other y x xs xs 0 (λ e. not (sym e)) (all_same xs)
one_set (y ∷ xs) (suc i) x d less not = same y xs (set xs i x) 1 (one_set xs i x d (omega (arith, less)) not)

pub one_differs : {X : Type 0} (xs ys : List X) (i : ℕ) (x d : X) → i < length xs → ys ≡ slice_set xs i x → x ≢ get_or xs i d
    → Differ xs ys 1
one_differs {X} xs ys i x d less is not = subst (λ (zs : List X). Differ xs zs 1) (sym is) (one_set xs i x d less not)

-- in one way

differ_once : {X : Type 0} (xs ys : List X) (n m : ℕ) → DifferBy xs ys n → DifferBy xs ys m → n ≡ m
differ_once [] [] n m h g = h ∙ sym g
differ_once [] (y ∷ ys) n m h g = absurd h
differ_once (x ∷ xs) [] n m h g = absurd h
differ_once (x ∷ xs) (y ∷ ys) n m (inl (is, h)) (inl (also, g)) = differ_once xs ys n m h g
differ_once (x ∷ xs) (y ∷ ys) n m (inl (is, h)) (inr (not, g)) = absurd (not is)
differ_once (x ∷ xs) (y ∷ ys) n m (inr (not, h)) (inl (is, g)) = absurd (not is)
differ_once (x ∷ xs) (y ∷ ys) n m (inr (not, (k, one, h))) (inr (also, (l, two, g))) =
    one ∙ (ap suc (differ_once xs ys k l h g) ∙ sym two)

-- so many are fresh, case by case
abbrev FreshBy : Base → Option Base → ℕ → Type 0
FreshBy now None n = n ≡ length now.features
FreshBy now (Some old) n =
    ((old.signatures ≢ now.signatures) × (n ≡ length now.features)) ⊎ ((old.signatures ≡ now.signatures) × DifferBy old.features
    now.features n)

fresh_by : (now : Base) (base : Option Base) (n : ℕ) → IsFresh now base n → FreshBy now base n
fresh_by now None n first = refl
fresh_by now (Some old) n (signed_anew b not) = inl (not, refl)
fresh_by now (Some old) n (edited b m is differ) = inr (is, differ_by differ)

once : (now : Base) (base : Option Base) (n m : ℕ) → FreshBy now base n → FreshBy now base m → n ≡ m
once now None n m h g = h ∙ sym g
once now (Some old) n m (inl (not, h)) (inl (also, g)) = h ∙ sym g
once now (Some old) n m (inl (not, h)) (inr (is, g)) = absurd (not is)
once now (Some old) n m (inr (is, h)) (inl (not, g)) = absurd (not is)
once now (Some old) n m (inr (is, h)) (inr (also, g)) = differ_once old.features now.features n m h g

-- files have so many fresh features in one way
pub fresh_once : (files : List (List ℕ)) (u : Untyped) → IsRead files u.lexed.items u.classes → (base : Option Base) (n : ℕ)
    → IsFresh (seen u) base n → (m : ℕ) (after : Option Base) → Types files base m after → n ≡ m
fresh_once files u h base n fresh m after (typed now k t f) =
    let is = one_base files now (seen u) t (are_typed files u h) in
    once (seen u) base n m (fresh_by (seen u) base n fresh) (fresh_by (seen u) base m (subst (λ (b : Base). IsFresh b base m) is f))
fresh_once files u h base n fresh m after (untyped never) = absurd (never (seen u) (are_typed files u h))
