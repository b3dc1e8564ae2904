-- The feature at each position of a class table is the one to which the result at the same position of the stored check (base) belongs.
use Rattle.std.proofs.Common.{◌≡◌, ℕ, zero, suc, ◌+◌, ◌-◌, ◌<◌, ◌≤◌, List, [], ◌∷◌, ◌++◌, map, length, get_or, take, drop, Option, Some, None, IfSome, Ok, refl, sym, ap, ◌∙◌, subst, arith, add-one, append_assoc}
use Rattle.std.specs.List.{AllByRecursion, slice_get}
use Rattle.std.specs.Borrow.{Bor}
use Rattle.std.proofs.Math.Logic.{∥∥₁_elim}
use Rattle.std.proofs.Props.{props}
use Rattle.std.proofs.lemmas.List.{length-map, get_or-map, drop_all}
use Rattle.cool_syntax.specs.declared.place.Place.{Place}
use Rattle.cool_syntax.specs.declared.token.Token.{Token}
use Rattle.cool_syntax.specs.declared.file_tree.Feature.{Feature}
use Rattle.cool_lexer.specs.declared.lexer.Lexed.{Lexed}
use Rattle.cool_classes.specs.declared.class_id.ClassId.{ClassId}
use Rattle.cool_classes.specs.Chains.{Class, class_number, class_at, features_of}
use Rattle.cool_classes.specs.ClassFaults.{classes_meant}
use Rattle.cool_classes.specs.Definitions.{definitions}
use Rattle.cool_check.specs.declared.fault.TypeFault.{TypeFault}
use Rattle.cool_check.specs.FirstFaults.{Checked}
use Rattle.cool_check.specs.TypingFaults.{feature_checked}
use Rattle.cool_faults.specs.declared.fault.Untyped.{Untyped}
use Rattle.cool_faults.specs.Untyped.{IsUntyped}
use Rattle.cool_session.specs.declared.base.Base.{Base}
use Rattle.cool_session.specs.declared.base.KeptFault.{KeptFault}
use Rattle.cool_session.specs.declared.ids.FeatureId.{FeatureId}
use Rattle.cool_session.specs.declared.runs.Run.{Run}
use Rattle.cool_session.specs.Bases.{view, tokens_of}
use Rattle.cool_session.specs.FeatureTokens.{IsFeature, AreFeatures, kinds, runs_of}
use Rattle.cool_session.specs.Ids.{ids_in, ids_from, ids}
use Rattle.cool_session.specs.KeptChecks.{HasFewTokens, IsRead, IsBase, results_of}
use Rattle.cool_session.specs.KeptFaults.{IsKeptOf, Member, members_from, members, member_checked, results, AreKeptOf, fault_kept, faults_kept, place_of_token}
use Rattle.cool_session.specs.NewFeatures.{runs_seen, kinds_seen, IsKeptAt}
use Rattle.cool_session.specs.Runs.{bounds_of, file_tokens, IsWithin, run_tokens}
use Rattle.cool_session.proofs.BoundsOfRuns.{tokens_of_bounds, bounds_within}
use Rattle.cool_session.proofs.ChecksAfterEdits.{member_features, member_classes_same, kept_at}
use Rattle.cool_session.proofs.KeptOnce.{kept_prop}
use Rattle.cool_session.proofs.ReadFiles.{own_features, read_of, views_read}
use Rattle.cool_session.proofs.TypedFiles.{are_features}

-- Names of features

abbrev Points : List Class → FeatureId → Member → Type 0
Points p id m = (id.class ≡ m.class) × (id.class.0 < length p) × (slice_get (features_of p id.class) id.index ≡ Some m.feature)

abbrev AllPoint : List Class → List FeatureId → List Member → Type 0
AllPoint p [] [] = Unit {0}
AllPoint p [] (m ∷ ms) = ⊥
AllPoint p (id ∷ is) [] = ⊥
AllPoint p (id ∷ is) (m ∷ ms) = Points p id m × AllPoint p is ms

point_both : (p : List Class) (is js : List FeatureId) (ms ns : List Member) → AllPoint p is ms → AllPoint p js ns → AllPoint p (is ++ js) (ms ++ ns)
point_both p [] js [] ns h g = g
point_both p [] js (m ∷ ms) ns h g = absurd h
point_both p (id ∷ is) js [] ns h g = absurd h
point_both p (id ∷ is) js (m ∷ ms) ns (h, hs) g = (h, point_both p is js ms ns hs g)

got : {X : Type 0} (k : ℕ) (xs rest : List X) (x : X) → drop k xs ≡ x ∷ rest → slice_get xs k ≡ Some x
got zero [] rest x h = absurd (omega (arith, ap length h))
got {X} zero (y ∷ ys) rest x h = ap Some (ap (λ (zs : List X). get_or zs 0 x) h)
got (suc k) [] rest x h = absurd (omega (arith, ap length h))
got (suc k) (y ∷ ys) rest x h = got k ys rest x h

rest_after : {X : Type 0} (k : ℕ) (xs rest : List X) (x : X) → drop k xs ≡ x ∷ rest → drop (k + 1) xs ≡ rest
rest_after {X} zero xs rest x h = ap (drop {A = X} 1) h
rest_after (suc k) [] rest x h = absurd (omega (arith, ap length h))
rest_after {X} (suc k) (y ∷ ys) rest x h =
    let more : suc k + 1 ≡ suc (k + 1) = omega arith in ap (λ (n : ℕ). drop n (y ∷ ys)) more ∙ rest_after k ys rest x h

points_in : (p : List Class) (c : ClassId) (k : ℕ) (xs : List Feature) → c.0 < length p → drop k (features_of p c) ≡ xs
    → AllPoint p (ids_in c k xs) (map (λ (x : Feature). record { class = c; feature = x }) xs)
points_in p c k [] within h = tt
points_in p c k (x ∷ xs) within h =
    ((refl, within, got k (features_of p c) xs x h), points_in p c (k + 1) xs within (rest_after k (features_of p c) xs x h))

class_there : (k : ℕ) (p rest : List Class) (d : Class) → drop k p ≡ d ∷ rest → (k < length p) × (class_at p (class_number k) ≡ d)
class_there zero [] rest d h = absurd (omega (arith, ap length h))
class_there zero (e ∷ p) rest d h = (omega arith, ap (λ (es : List Class). get_or es 0 d) h)
class_there (suc k) [] rest d h = absurd (omega (arith, ap length h))
class_there (suc k) (e ∷ p) rest d h = let (less, is) = class_there k p rest d h in (omega (arith, less), is)

points_from : (p : List Class) (k : ℕ) (ds : List Class) → drop k p ≡ ds → AllPoint p (ids_from k ds) (members_from k ds)
points_from p k [] h = tt
points_from p k (d ∷ ds) h =
    let (less, is) = class_there k p ds d h in
    let c = class_number k in
    point_both p (ids_in c 0 d.features) (ids_from (k + 1) ds) (map (λ (x : Feature). record { class = c; feature = x }) d.features)
    (members_from (suc k) ds) (points_in p c 0 d.features less (ap (λ (e : Class). e.features) is))
    (subst (λ (n : ℕ). AllPoint p (ids_from (k + 1) ds) (members_from n ds)) (add-one k) (points_from p (k + 1) ds (rest_after k p ds d h)))

-- the feature of a name at a position
pub record IsMemberAt (p : List Class) (i : ℕ) (id : FeatureId) : Type 0 where
  pub class : id.class.0 < length p
  pub feature : Feature
  pub there : slice_get (features_of p id.class) id.index ≡ Some feature
  pub result : get_or (results p) i (Ok tt) ≡ feature_checked p id.class feature
  pub own : (runs : List (List Token)) → AreFeatures runs (member_features (members p)) → IsFeature (get_or runs i []) feature

-- the items at a position of names, of members and of their results
record IsFoundAt (p : List Class) (is : List FeatureId) (ms : List Member) (i : ℕ) (d : FeatureId) : Type 0 where
  pub member : Member
  pub points : Points p (get_or is i d) member
  pub result : (f : Member → Checked (Unit {0})) → get_or (map f ms) i (Ok tt) ≡ f member
  pub own : (runs : List (List Token)) → AreFeatures runs (member_features ms) → IsFeature (get_or runs i []) member.feature

own_first : (runs : List (List Token)) (m : Member) (ms : List Member) → AreFeatures runs (member_features (m ∷ ms))
    → IsFeature (get_or runs 0 []) m.feature
own_first [] m ms h = absurd h
own_first (run ∷ runs) m ms h = h.0

own_later : (runs : List (List Token)) (m : Member) (ms : List Member) (i : ℕ) (x : Feature)
    → ((rest : List (List Token)) → AreFeatures rest (member_features ms) → IsFeature (get_or rest i []) x)
    → AreFeatures runs (member_features (m ∷ ms)) → IsFeature (get_or runs (suc i) []) x
own_later [] m ms i x own h = absurd h
own_later (run ∷ runs) m ms i x own h = own runs h.1

found_at : (p : List Class) (is : List FeatureId) (ms : List Member) (i : ℕ) (d : FeatureId) → AllPoint p is ms → i < length is
    → IsFoundAt p is ms i d
found_at p [] ms i d h less = absurd (omega (arith, less))
found_at p (id ∷ is) [] i d h less = absurd h
found_at p (id ∷ is) (m ∷ ms) zero d (h, hs) less = record { member = m; points = h; result = λ f. refl; own = λ runs. own_first runs m ms }
found_at p (id ∷ is) (m ∷ ms) (suc i) d (h, hs) less =
    let fewer : i < length is = omega (arith, less) in
    let rest : IsFoundAt p is ms i d = found_at p is ms i d hs fewer in
    record {
      member = rest.member;
      points = rest.points;
      result = λ f. rest.result f;
      own = λ runs. own_later runs m ms i rest.member.feature rest.own;
    }

pub member_at : (p : List Class) (all : List FeatureId) (i : ℕ) (id : FeatureId) → all ≡ ids p → i < length all → id ≡ get_or all i id
    → IsMemberAt p i id
member_at p all i id is less here =
    let within : i < length (ids p) = subst (λ (js : List FeatureId). i < length js) is less in
    let found = found_at p (ids p) (members p) i id (points_from p 0 p refl) within in
    let same : id ≡ get_or (ids p) i id = here ∙ ap (λ (js : List FeatureId). get_or js i id) is in
    let points : Points p id found.member = subst (λ (j : FeatureId). Points p j found.member) (sym same) found.points in
    record {
      class = points.1;
      feature = found.member.feature;
      there = points.2;
      result = found.result (member_checked p) ∙ ap (λ (c : ClassId). feature_checked p c found.member.feature) (sym points.0);
      own = found.own;
    }

-- Lengths

many_points : (p : List Class) (is : List FeatureId) (ms : List Member) → AllPoint p is ms → length is ≡ length ms
many_points p [] [] h = refl
many_points p [] (m ∷ ms) h = absurd h
many_points p (id ∷ is) [] h = absurd h
many_points p (id ∷ is) (m ∷ ms) (h, hs) = ap suc (many_points p is ms hs)

-- as many as features
pub ids_many : (p : List Class) → length (ids p) ≡ length (members p)
ids_many p = many_points p (ids p) (members p) (points_from p 0 p refl)

pub many_runs : (runs : List (List Token)) (xs : List Feature) → AreFeatures runs xs → length runs ≡ length xs
many_runs [] [] h = refl
many_runs [] (x ∷ xs) h = absurd h
many_runs (run ∷ runs) [] h = absurd h
many_runs (run ∷ runs) (x ∷ xs) (h, hs) = ap suc (many_runs runs xs hs)

-- as many results as runs, and as many things kept
pub many_kept : (runs : List (List Token)) (rs : List (Checked (Unit {0}))) (more : List (Option KeptFault)) → AreKeptOf runs rs more
    → (length rs ≡ length runs) × (length more ≡ length runs)
many_kept [] [] [] h = (refl, refl)
many_kept (run ∷ runs) (r ∷ rs) (kept ∷ more) (h, hs) =
    let (results, faults) = many_kept runs rs more hs in
    (ap suc results, ap suc faults)
many_kept [] [] (kept ∷ more) h = absurd h
many_kept [] (r ∷ rs) more h = absurd h
many_kept (run ∷ runs) [] more h = absurd h
many_kept (run ∷ runs) (r ∷ rs) [] h = absurd h

-- there are as many names as runs, and as results
pub many_ids : (files : List (List ℕ)) (u : Untyped) → IsUntyped files u
    → (length (runs_seen u) ≡ length (ids u.classes)) × (length (results u.classes) ≡ length (ids u.classes))
many_ids files u h =
    let points = many_points u.classes (ids u.classes) (members u.classes) (points_from u.classes 0 u.classes refl) in (
      many_runs (runs_seen u) (member_features (members u.classes)) (own_features files u h)
          ∙ (length-map (members u.classes) (λ (m : Member). m.feature) ∙ sym points),
      length-map (members u.classes) (member_checked u.classes) ∙ sym points,
    )

-- Runs of a file

within_at : (files : List Lexed) (runs : List Run) (i : ℕ) (d : Run) → i < length runs → AllByRecursion (IsWithin files) runs
    → IsWithin files (get_or runs i d)
within_at files [] i d less h = absurd (omega (arith, less))
within_at files (run ∷ runs) zero d less (h, hs) = h
within_at files (run ∷ runs) (suc i) d less (h, hs) = let fewer : i < length runs = omega (arith, less) in within_at files runs i d fewer hs

module _ (files : List Lexed) (runs : List Run) (i : ℕ) (d : Run) (is : runs ≡ bounds_of 0 files) (less : i < length runs) where
  pub run_within : IsWithin files (get_or runs i d)
  run_within = within_at files runs i d less (subst (AllByRecursion (IsWithin files)) (sym is) (bounds_within files))

  pub run_seen : run_tokens files (get_or runs i d) ≡ get_or (runs_of (tokens_of files)) i []
  run_seen =
      sym (get_or-map (run_tokens files) runs i d [] less)
      ∙ (ap (λ (rs : List Run). get_or (map (run_tokens files) rs) i []) is
      ∙ ap (λ (rs : List (List Token)). get_or rs i []) (tokens_of_bounds files))

pub many_bounds : (files : List Lexed) (runs : List Run) → runs ≡ bounds_of 0 files → length runs ≡ length (runs_of (tokens_of files))
many_bounds files runs is =
    ap length is ∙ (sym (length-map (bounds_of 0 files) (run_tokens files)) ∙ ap length (tokens_of_bounds files))

-- Bases

pub base_many : (u : Untyped) (faults : List (Option KeptFault)) → ∥ IsBase u faults ∥₁ → length faults ≡ length (runs_seen u)
base_many u faults base =
    ∥∥₁_elim base (hlevel props) (λ (b : IsBase u faults). (many_kept (runs_seen u) (results_of b.base.read.trees) faults b.base.kept).1)

pub base_kept : (u : Untyped) (faults : List (Option KeptFault)) (files : List (List ℕ)) (now : Untyped) → ∥ IsBase u faults ∥₁ → IsUntyped files now
    → map view now.classes ≡ map view u.classes → (i : ℕ) → i < length (runs_seen now)
    → kinds (get_or (runs_seen now) i []) ≡ kinds (get_or (runs_seen u) i [])
    → IsKeptOf (get_or (runs_seen now) i []) (get_or (results now.classes) i (Ok tt)) (get_or faults i None)
base_kept u faults files now base h same i less alike =
    ∥∥₁_elim base (kept_prop (get_or (runs_seen now) i []) (get_or (results now.classes) i (Ok tt)) (get_or faults i None))
    (λ (b : IsBase u faults).
    let read = b.base.read in
    kept_at (classes_meant (definitions read.trees)) now.classes (same ∙ views_read b.files u.lexed.items u.classes read) (runs_seen u)
    (runs_seen now) faults i (are_features b.files u.lexed.items u.classes read) (own_features files now h) b.base.kept less alike)

-- there are as many features as names of classes of features
features_many : (runs : List (List Token)) (p : List Class) → AreFeatures runs (member_features (members p))
    → length runs ≡ length (map (λ (m : Member). m.class) (members p))
features_many runs p h =
    many_runs runs (member_features (members p)) h
    ∙ (length-map (members p) (λ (m : Member). m.feature) ∙ sym (length-map (members p) (λ (m : Member). m.class)))

-- files whose tables have the same classes have as many features
pub as_many_features : (files others : List (List ℕ)) (ls ms : List Lexed) (p q : List Class) → IsRead files ls p → IsRead others ms q
    → map view p ≡ map view q → length (runs_of (tokens_of ls)) ≡ length (runs_of (tokens_of ms))
as_many_features files others ls ms p q h g same =
    let before = classes_meant (definitions h.trees) in
    let now = classes_meant (definitions g.trees) in
    let seen : map view before ≡ map view now = sym (views_read files ls p h) ∙ (same ∙ views_read others ms q g) in
    features_many (runs_of (tokens_of ls)) before (are_features files ls p h)
    ∙ (ap length (member_classes_same now before seen) ∙ sym (features_many (runs_of (tokens_of ms)) now (are_features others ms q g)))

-- the features of a base are as many as those of a table of the same classes
pub base_as_many : (u : Untyped) (faults : List (Option KeptFault)) (files : List (List ℕ)) (now : Untyped) → ∥ IsBase u faults ∥₁
    → IsRead files now.lexed.items now.classes → map view u.classes ≡ map view now.classes → length (runs_seen u) ≡ length (runs_seen now)
base_as_many u faults files now base h same =
    ∥∥₁_elim base (hlevel props)
    (λ (b : IsBase u faults).
    as_many_features b.files files u.lexed.items now.lexed.items u.classes now.classes b.base.read h same)

-- a property of an optional value that is there
pub of_some : {X : Type 0} (P : X → Type 0) (o : Option X) (x : X) → o ≡ Some x → IfSome o P → P x
of_some {X} P o x is h = subst (λ (q : Option X). IfSome q P) is h

-- the tokens of a run are no more than those of its file

take_short : {X : Type 0} (n : ℕ) (xs : List X) → length (take n xs) ≤ length xs
take_short zero xs = omega arith
take_short (suc n) [] = omega arith
take_short (suc n) (x ∷ xs) = omega (arith, take_short n xs)

drop_short : {X : Type 0} (n : ℕ) (xs : List X) → length (drop n xs) ≤ length xs
drop_short zero xs = omega arith
drop_short (suc n) [] = omega arith
drop_short (suc n) (x ∷ xs) = omega (arith, drop_short n xs)

file_short : (files : List Lexed) (k : ℕ) → AllByRecursion HasFewTokens files → length (file_tokens files k) < 4294967296
file_short [] k h = omega arith
file_short (l ∷ files) zero (h, hs) = h
file_short (l ∷ files) (suc k) (h, hs) = file_short files k hs

pub run_short : (files : List Lexed) (run : Run) → AllByRecursion HasFewTokens files → length (run_tokens files run) < 4294967296
run_short files run h =
    omega (
      arith,
      take_short (run.end - run.start) (drop run.start (file_tokens files run.file)),
      drop_short run.start (file_tokens files run.file),
      file_short files run.file h,
    )

-- Files that were lexed and named

module _ (files : List (List ℕ)) (now : Untyped) (h : IsUntyped files now) (lexed : List Lexed) (runs : List Run) (is : runs ≡ bounds_of 0 lexed)
    (there : lexed ≡ now.lexed.items) (all : List FeatureId) (named : all ≡ ids now.classes) where
  pub as_many_runs : length runs ≡ length all
  as_many_runs =
      many_bounds lexed runs is
      ∙ (ap (λ (ls : List Lexed). length (runs_of (tokens_of ls))) there ∙ ((many_ids files now h).0 ∙ ap length (sym named)))

module _ (files : List (List ℕ)) (now : Untyped) (h : IsUntyped files now) (base : Option (Bor Base))
    (same : IfSome base (λ (b : Bor Base). map view b.now.untyped.classes ≡ map view now.classes)) where
  -- a position of the table is one of the base
  pub position_before : (i : ℕ) → i < length (runs_seen now) → (b : Bor Base) → base ≡ Some b → i < length (runs_seen b.now.untyped)
  position_before i less b is =
      let classes = of_some (λ (b : Bor Base). map view b.now.untyped.classes ≡ map view now.classes) base b is same in
      subst (λ (n : ℕ). i < n) (sym (base_as_many b.now.untyped b.now.faults.items files now b.now.kept (read_of files now h) classes)) less

  pub run_before : (before : List Run) (i : ℕ) → IfSome base (λ (b : Bor Base). before ≡ bounds_of 0 b.now.untyped.lexed.items)
      → i < length (runs_seen now) → IfSome base (λ (b : Bor Base). i < length before)
  run_before before i are less = by base refl are
    where
      by : (o : Option (Bor Base)) → base ≡ o → IfSome o (λ (b : Bor Base). before ≡ bounds_of 0 b.now.untyped.lexed.items)
          → IfSome o (λ (b : Bor Base). i < length before)
      by None is g = tt
      by (Some b) is g = subst (λ (n : ℕ). i < n) (sym (many_bounds b.now.untyped.lexed.items before g)) (position_before i less b is)

  -- the result stored at a position is to be stored for the feature there
  pub kept_before : (i : ℕ) (tokens : List Token) (kept : Option KeptFault) → tokens ≡ get_or (runs_seen now) i [] → i < length (runs_seen now)
      → IsKeptAt base i tokens kept → IsKeptOf (get_or (runs_seen now) i []) (get_or (results now.classes) i (Ok tt)) kept
  kept_before i tokens kept here less is = by base refl is
    where
      by : (o : Option (Bor Base)) → base ≡ o → IsKeptAt o i tokens kept
          → IsKeptOf (get_or (runs_seen now) i []) (get_or (results now.classes) i (Ok tt)) kept
      by None at g = absurd g
      by (Some b) at (alike, value) =
          let classes = of_some (λ (b : Bor Base). map view b.now.untyped.classes ≡ map view now.classes) base b at same in
          subst (IsKeptOf (get_or (runs_seen now) i []) (get_or (results now.classes) i (Ok tt))) (sym value)
          (base_kept b.now.untyped b.now.faults.items files now b.now.kept h (sym classes) i less (ap kinds (sym here) ∙ alike))

-- The stored results with one more feature

kept_next : (runs : List (List Token)) (rs : List (Checked (Unit {0}))) (more : List (Option KeptFault)) (i : ℕ) (kept : Option KeptFault)
    → i < length runs → i < length rs → AreKeptOf (take i runs) (take i rs) more → IsKeptOf (get_or runs i []) (get_or rs i (Ok tt)) kept
    → AreKeptOf (take (suc i) runs) (take (suc i) rs) (more ++ kept ∷ [])
kept_next [] rs more i kept less few h is = absurd (omega (arith, less))
kept_next (run ∷ runs) [] more i kept less few h is = absurd (omega (arith, few))
kept_next (run ∷ runs) (r ∷ rs) [] zero kept less few h is = (is, tt)
kept_next (run ∷ runs) (r ∷ rs) (k ∷ more) zero kept less few h is = absurd h
kept_next (run ∷ runs) (r ∷ rs) [] (suc i) kept less few h is = absurd h
kept_next (run ∷ runs) (r ∷ rs) (k ∷ more) (suc i) kept less few (h, hs) is =
    let fewer : i < length runs = omega (arith, less) in
    let within : i < length rs = omega (arith, few) in (h, kept_next runs rs more i kept fewer within hs is)

pub kept_one_more : (runs : List (List Token)) (rs : List (Checked (Unit {0}))) (more : List (Option KeptFault)) (i : ℕ) (kept : Option KeptFault)
    → i < length runs → i < length rs → AreKeptOf (take i runs) (take i rs) more → IsKeptOf (get_or runs i []) (get_or rs i (Ok tt)) kept
    → AreKeptOf (take (i + 1) runs) (take (i + 1) rs) (more ++ kept ∷ [])
kept_one_more runs rs more i kept less few h is =
    subst (λ (j : ℕ). AreKeptOf (take j runs) (take j rs) (more ++ kept ∷ [])) (sym (add-one i)) (kept_next runs rs more i kept less few h is)

-- With no feature left

take_past : {X : Type 0} (n : ℕ) (xs : List X) → length xs ≤ n → take n xs ≡ xs
take_past zero [] h = refl
take_past zero (x ∷ xs) h = absurd (omega (arith, h))
take_past (suc n) [] h = refl
take_past {X} (suc n) (x ∷ xs) h = let less : length xs ≤ n = omega (arith, h) in ap (λ (ys : List X). x ∷ ys) (take_past n xs less)

module _ (files : List (List ℕ)) (now : Untyped) (h : IsUntyped files now) (all : List FeatureId) (named : all ≡ ids now.classes) where
  pub many_kinds : length (kinds_seen now) ≡ length all
  many_kinds = length-map (runs_seen now) kinds ∙ ((many_ids files now h).0 ∙ ap length (sym named))

  pub all_kept : (i : ℕ) (more : List (Option KeptFault)) → length all ≤ i → AreKeptOf (take i (runs_seen now)) (take i (results now.classes)) more
      → AreKeptOf (runs_seen now) (results now.classes) more
  all_kept i more past kept =
      let seen : length (runs_seen now) ≤ i = omega (arith, past, (many_ids files now h).0, ap length named) in
      let had : length (results now.classes) ≤ i = omega (arith, past, (many_ids files now h).1, ap length named) in
      subst (λ (rs : List (List Token)). AreKeptOf rs (results now.classes) more) (take_past i (runs_seen now) seen)
      (subst (λ (rs : List (Checked (Unit {0}))). AreKeptOf (take i (runs_seen now)) rs more) (take_past i (results now.classes) had) kept)

-- The faults of what is kept

pub kept_within : (runs : List (List Token)) (rs : List (Checked (Unit {0}))) (more : List (Option KeptFault)) (i : ℕ) (d : Option KeptFault)
    (fault : KeptFault) → AreKeptOf runs rs more → i < length more → get_or more i d ≡ Some fault → fault.token < length (get_or runs i [])
kept_within [] [] [] i d fault h less is = absurd (omega (arith, less))
kept_within [] [] (kept ∷ more) i d fault h less is = absurd h
kept_within [] (r ∷ rs) more i d fault h less is = absurd h
kept_within (run ∷ runs) [] more i d fault h less is = absurd h
kept_within (run ∷ runs) (r ∷ rs) [] i d fault h less is = absurd h
kept_within (run ∷ runs) (r ∷ rs) (kept ∷ more) zero d fault (h, hs) less is =
    subst (λ (o : Option KeptFault). IfSome o (λ (f : KeptFault). f.token < length run)) is h.within
kept_within (run ∷ runs) (r ∷ rs) (kept ∷ more) (suc i) d fault (h, hs) less is =
    let fewer : i < length more = omega (arith, less) in kept_within runs rs more i d fault hs fewer is

-- the fault of the feature at a position comes first of those that are left
pub faults_left : (runs : List (List Token)) (more : List (Option KeptFault)) (i : ℕ) (d : Option KeptFault) → i < length runs → i < length more
    → faults_kept (drop i runs) (drop i more) ≡ fault_kept (get_or runs i []) (get_or more i d) ++ faults_kept (drop (i + 1) runs) (drop (i + 1) more)
faults_left [] more i d less few = absurd (omega (arith, less))
faults_left (run ∷ runs) [] i d less few = absurd (omega (arith, few))
faults_left (run ∷ runs) (kept ∷ more) zero d less few = refl
faults_left (run ∷ runs) (kept ∷ more) (suc i) d less few =
    let fewer : i < length runs = omega (arith, less) in
    let within : i < length more = omega (arith, few) in
    let next : suc (i + 1) ≡ suc i + 1 = omega arith in
    faults_left runs more i d fewer within
    ∙ ap (λ (n : ℕ). fault_kept (get_or runs i []) (get_or more i d) ++ faults_kept (drop n (run ∷ runs)) (drop n (kept ∷ more))) next

pub no_faults_left : (runs : List (List Token)) (more : List (Option KeptFault)) (i : ℕ) → length runs ≤ i
    → faults_kept (drop i runs) (drop i more) ≡ []
no_faults_left runs more i past = ap (λ (rs : List (List Token)). faults_kept rs (drop i more)) (drop_all i runs past)

module _ (runs : List (List Token)) (more : List (Option KeptFault)) (i : ℕ) (less : i < length runs) (few : i < length more)
    (before all : List TypeFault)
    (so_far : before ++ faults_kept (drop i runs) (drop i more) ≡ all) where
  rest : List TypeFault
  rest = faults_kept (drop (i + 1) runs) (drop (i + 1) more)

  -- after the fault of a feature, and after a feature that has none
  pub fault_next : (now : List TypeFault) (fault : KeptFault) (tokens : List Token) (at : Place) → get_or more i None ≡ Some fault
      → tokens ≡ get_or runs i [] → at ≡ place_of_token tokens fault.token → now ≡ before ++ record { kind = fault.kind; rule = fault.rule; at = at; found = fault.found; due = fault.due } ∷ []
      → now ++ faults_kept (drop (i + 1) runs) (drop (i + 1) more) ≡ all
  unfolding rest
  fault_next now fault tokens at is here there added =
      let found : List TypeFault = record { kind = fault.kind; rule = fault.rule; at = at; found = fault.found; due = fault.due } ∷ [] in
      let place : place_of_token (get_or runs i []) fault.token ≡ at = ap (λ (ts : List Token). place_of_token ts fault.token) (sym here)
      ∙ sym there in
      let one : fault_kept (get_or runs i []) (get_or more i None) ≡ found =
      ap (fault_kept (get_or runs i [])) is ∙ ap (λ (q : Place). record { kind = fault.kind; rule = fault.rule; at = q; found = fault.found; due = fault.due } ∷ []) place in
      let step : faults_kept (drop i runs) (drop i more) ≡ found ++ rest =
      faults_left runs more i None less few ∙ ap (λ (fs : List TypeFault). fs ++ rest) one in
      ap (λ (fs : List TypeFault). fs ++ rest) added
      ∙ (append_assoc before found rest ∙ (ap (λ (fs : List TypeFault). before ++ fs) (sym step) ∙ so_far))

  pub none_next : get_or more i None ≡ None → before ++ faults_kept (drop (i + 1) runs) (drop (i + 1) more) ≡ all
  unfolding rest
  none_next is =
      let step : faults_kept (drop i runs) (drop i more) ≡ rest =
      faults_left runs more i None less few ∙ ap (λ (o : Option KeptFault). fault_kept (get_or runs i []) o ++ rest) is in
      ap (λ (fs : List TypeFault). before ++ fs) (sym step) ∙ so_far
