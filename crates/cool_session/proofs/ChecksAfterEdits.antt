-- The stored results of all features of a class table give the type errors of the table. They are also the results to store for another table of the same
-- classes, for each feature that has the same tokens.
use Rattle.std.proofs.Common.{◌≡◌, ◌⊎◌, inl, inr, true≢false, is_ok, ℕ, zero, suc, ◌+◌, ◌<◌, List, [], ◌∷◌, ◌++◌, map, length, get_or, drop, Option, Some, None, Ok, Err, refl, sym, ap, ◌∙◌, subst, arith, append_assoc}
use Rattle.std.proofs.lemmas.List.{map-append, get_or-map}
use Rattle.cool_syntax.specs.declared.place.Place.{Place}
use Rattle.cool_syntax.specs.declared.token.Token.{Token}
use Rattle.cool_syntax.specs.declared.file_tree.ClassDef.{ClassDef}
use Rattle.cool_syntax.specs.declared.file_tree.Feature.{Feature}
use Rattle.cool_classes.specs.declared.class_id.ClassId.{ClassId}
use Rattle.cool_classes.specs.Chains.{Class, class_number}
use Rattle.cool_classes.specs.ClassFaults.{class_meant, classes_meant}
use Rattle.cool_classes.specs.Settled.{names_with_basic}
use Rattle.cool_check.specs.declared.fault.TypeFault.{TypeFault}
use Rattle.cool_check.specs.FirstFaults.{Checked}
use Rattle.cool_check.specs.TypingFaults.{feature_checked, fault_of, features_faults, classes_faults, typing_faults}
use Rattle.cool_session.specs.Bases.{View, view}
use Rattle.cool_session.specs.FeatureTokens.{AreFeatures, kinds, features_of_all}
use Rattle.cool_session.specs.Signatures.{FeatureSignature, feature_signature}
use Rattle.cool_session.specs.declared.base.KeptFault.{KeptFault}
use Rattle.cool_session.specs.KeptFaults.{result_kept, IsKeptOf, Member, members_from, members, member_checked, results, AreKeptOf, fault_kept, faults_kept, place_of_token}
use Rattle.cool_session.proofs.FaultsAfterEdits.{still_kept}

-- The typing faults of a table

faults_in : List (Checked (Unit {0})) → List TypeFault
faults_in [] = []
faults_in (r ∷ rs) = fault_of r ++ faults_in rs

faults_joined : (rs ss : List (Checked (Unit {0}))) → faults_in (rs ++ ss) ≡ faults_in rs ++ faults_in ss
unfolding faults_in
faults_joined [] ss = refl
faults_joined (r ∷ rs) ss = ap (λ (fs : List TypeFault). fault_of r ++ fs) (faults_joined rs ss)
    ∙ sym (append_assoc (fault_of r) (faults_in rs) (faults_in ss))

module _ (p : List Class) where
  of_class : (k : ℕ) (xs : List Feature)
      → faults_in (map (member_checked p) (map (λ (x : Feature). record { class = class_number k; feature = x }) xs)) ≡ features_faults p
      (class_number k) xs
  unfolding faults_in
  of_class k [] = refl
  of_class k (x ∷ xs) = ap (λ (fs : List TypeFault). fault_of (feature_checked p (class_number k) x) ++ fs) (of_class k xs)

  of_classes : (k : ℕ) (ds : List Class) → faults_in (map (member_checked p) (members_from k ds)) ≡ classes_faults p k ds
  unfolding faults_in
  of_classes k [] = refl
  of_classes k (d ∷ ds) =
      let own : List Member = map (λ (x : Feature). record { class = class_number k; feature = x }) d.features in
      ap faults_in (map-append (member_checked p) own (members_from (suc k) ds))
      ∙ (faults_joined (map (member_checked p) own) (map (member_checked p) (members_from (suc k) ds))
      ∙ (λ i. of_class k d.features i ++ of_classes (suc k) ds i))

kept_fault : (run : List Token) (r : Checked (Unit {0})) (kept : Option KeptFault) → r ≡ result_kept run kept → fault_of r ≡ fault_kept run kept
kept_fault run r None is = ap fault_of is
kept_fault run r (Some kept) is = ap fault_of is

kept_faults : (runs : List (List Token)) (rs : List (Checked (Unit {0}))) (more : List (Option KeptFault)) → AreKeptOf runs rs more
    → faults_in rs ≡ faults_kept runs more
unfolding faults_in
kept_faults [] [] [] h = refl
kept_faults (run ∷ runs) (r ∷ rs) (kept ∷ more) (h, hs) = λ i. kept_fault run r kept h.is i ++ kept_faults runs rs more hs i
kept_faults [] [] (kept ∷ more) h = absurd h
kept_faults [] (r ∷ rs) more h = absurd h
kept_faults (run ∷ runs) [] more h = absurd h
kept_faults (run ∷ runs) (r ∷ rs) [] h = absurd h

-- the stored results of all features give the typing faults, at the present tokens
pub typing_faults_kept : (p : List Class) (runs : List (List Token)) (more : List (Option KeptFault)) → AreKeptOf runs (results p) more
    → typing_faults p ≡ faults_kept runs more
typing_faults_kept p runs more h = sym (of_classes p 0 p) ∙ kept_faults runs (results p) more h

-- The classes of the features are the same where the classes are

classes_seen : ℕ → List View → List ClassId
classes_seen k [] = []
classes_seen k (v ∷ vs) = map (λ (s : FeatureSignature). class_number k) v.features ++ classes_seen (suc k) vs

of_one : (c : ClassId) (xs : List Feature)
    → map (λ (m : Member). m.class) (map (λ (x : Feature). record { class = c; feature = x }) xs)
    ≡ map (λ (s : FeatureSignature). c) (map feature_signature xs)
of_one c [] = refl
of_one c (x ∷ xs) = ap (λ (cs : List ClassId). c ∷ cs) (of_one c xs)

member_classes_seen : (k : ℕ) (ds : List Class) → map (λ (m : Member). m.class) (members_from k ds) ≡ classes_seen k (map view ds)
unfolding classes_seen
member_classes_seen k [] = refl
member_classes_seen k (d ∷ ds) =
    map-append (λ (m : Member). m.class) (map (λ (x : Feature). record { class = class_number k; feature = x }) d.features) (members_from (suc k) ds)
    ∙ (λ i. of_one (class_number k) d.features i ++ member_classes_seen (suc k) ds i)

pub member_classes_same : (p p' : List Class) → map view p' ≡ map view p
    → map (λ (m : Member). m.class) (members p') ≡ map (λ (m : Member). m.class) (members p)
member_classes_same p p' same = member_classes_seen 0 p' ∙ (ap (classes_seen 0) same ∙ sym (member_classes_seen 0 p))

-- The stored result of a feature is also the result to store for the feature at the same position, if that has the same tokens

abbrev pub member_features : List Member → List Feature
member_features = map (λ (m : Member). m.feature)

module _ (p p' : List Class) (same : map view p' ≡ map view p) where
  kept_there : (ms ms' : List Member) (runs runs' : List (List Token)) (more : List (Option KeptFault)) (i : ℕ)
      → map (λ (m : Member). m.class) ms' ≡ map (λ (m : Member). m.class) ms → AreFeatures runs (member_features ms)
      → AreFeatures runs' (member_features ms') → AreKeptOf runs (map (member_checked p) ms) more → i < length runs'
      → kinds (get_or runs' i []) ≡ kinds (get_or runs i [])
      → IsKeptOf (get_or runs' i []) (get_or (map (member_checked p') ms') i (Ok tt)) (get_or more i None)
  kept_there ms [] runs [] more i classes are are' h within alike = absurd (omega arith)
  kept_there ms [] runs (run' ∷ runs') more i classes are are' h within alike = absurd are'
  kept_there ms (m' ∷ ms') runs [] more i classes are are' h within alike = absurd are'
  kept_there [] (m' ∷ ms') runs (run' ∷ runs') more i classes are are' h within alike = absurd (omega (arith, ap length classes))
  kept_there (m ∷ ms) (m' ∷ ms') [] (run' ∷ runs') more i classes are are' h within alike = absurd are
  kept_there (m ∷ ms) (m' ∷ ms') (run ∷ runs) (run' ∷ runs') [] i classes are are' h within alike = absurd h
  kept_there (m ∷ ms) (m' ∷ ms') (run ∷ runs) (run' ∷ runs') (kept ∷ more) zero classes (is, are) (is', are') (h, hs) within alike =
      let class : m'.class ≡ m.class = ap (λ (cs : List ClassId). get_or cs 0 m.class) classes in
      subst (λ (c : ClassId). IsKeptOf run' (feature_checked p' c m'.feature) kept) (sym class)
      (still_kept p p' same m.class m.feature m'.feature run run' is.parses is'.parses is.file 0 is.rising alike kept h)
  kept_there (m ∷ ms) (m' ∷ ms') (run ∷ runs) (run' ∷ runs') (kept ∷ more) (suc i) classes (is, are) (is', are') (h, hs) within alike =
      let less : i < length runs' = omega (arith, within) in
      kept_there ms ms' runs runs' more i (ap (drop 1) classes) are are' hs less alike

  pub kept_at : (runs runs' : List (List Token)) (more : List (Option KeptFault)) (i : ℕ) → AreFeatures runs (member_features (members p))
      → AreFeatures runs' (member_features (members p')) → AreKeptOf runs (results p) more → i < length runs'
      → kinds (get_or runs' i []) ≡ kinds (get_or runs i []) → IsKeptOf (get_or runs' i []) (get_or (results p') i (Ok tt)) (get_or more i None)
  kept_at runs runs' more i = kept_there (members p) (members p') runs runs' more i (member_classes_same p p' same)

-- The features of a table are those of its definitions

own_features : (c : ClassId) (xs : List Feature) → member_features (map (λ (x : Feature). record { class = c; feature = x }) xs) ≡ xs
own_features c [] = refl
own_features c (x ∷ xs) = ap (λ (ys : List Feature). x ∷ ys) (own_features c xs)

defined_features : (names : List (List ℕ)) (k : ℕ) (ds : List ClassDef)
    → member_features (members_from k (map (class_meant names) ds)) ≡ features_of_all ds
defined_features names k [] = refl
defined_features names k (d ∷ ds) =
    map-append (λ (m : Member). m.feature) (map (λ (x : Feature). record { class = class_number k; feature = x }) d.features)
    (members_from (suc k) (map (class_meant names) ds))
    ∙ (λ i. own_features (class_number k) d.features i ++ defined_features names (suc k) ds i)

pub features_of_table : (ds : List ClassDef) → member_features (members (classes_meant ds)) ≡ features_of_all ds
features_of_table ds = defined_features (names_with_basic ds) 5 ds

-- A fault that was found at a token

-- if a fault is at a token, it is to be stored with the position that is found for its place
pub kept_where_found : (tokens : List Token) (r : Checked (Unit {0})) (fault : TypeFault) (n : ℕ) → r ≡ Err fault
    → (kept : Option KeptFault) × IsKeptOf tokens r kept
    → ((k : ℕ) → k < length tokens → fault.at ≡ place_of_token tokens k → n < length tokens)
    → ((k : ℕ) → k < length tokens → fault.at ≡ place_of_token tokens k → fault.at ≡ place_of_token tokens n)
    → IsKeptOf tokens r (Some (record { kind = fault.kind; rule = fault.rule; token = n; found = fault.found; due = fault.due }))
kept_where_found tokens r fault n is (None, h) within found = absurd (true≢false (ap is_ok (sym h.is ∙ is)))
kept_where_found tokens r fault n is (Some kept, h) within found =
    let there : fault.at ≡ place_of_token tokens kept.token = ap (place_in fault.at) (sym is ∙ h.is) in
    record {
      within = within kept.token h.within there;
      is = is ∙ ap (λ (q : Place). Err (record { kind = fault.kind; rule = fault.rule; at = q; found = fault.found; due = fault.due })) (found kept.token h.within there);
    }
  where
    place_in : Place → Checked (Unit {0}) → Place
    place_in d (Ok u) = d
    place_in d (Err e) = e.at

-- Positions

-- the place of the token at a position
pub place_here : (ts : List Token) (i : ℕ) (t : Token) → i < length ts → t ≡ get_or ts i t → place_of_token ts i ≡ t.at
place_here ts i t less is = get_or-map (λ (u : Token). u.at) ts i t _ less ∙ ap (λ (u : Token). u.at) (sym is)

pub before_or_here : (k i : ℕ) → k < i + 1 → (k < i) ⊎ (k ≡ i)
before_or_here zero zero h = inr refl
before_or_here zero (suc i) h = inl (omega arith)
before_or_here (suc k) zero h = absurd (omega (arith, h))
before_or_here (suc k) (suc i) h =
    let less : k < i + 1 = omega (arith, h) in
    elim (before_or_here k i less) [ inl before ↦ inl (omega (arith, before)) | inr here ↦ inr (ap suc here) ]
