-- The faults (compile-time errors) that `table` returns are exactly the violations of the rules of classes in `ClassRows.antt`, or of the rules of features in
-- `FeatureRows.antt` if no rule of classes is violated.
use Rattle.std.proofs.Common.{◌≡◌, ◌≢◌, ◌⊎◌, inl, inr, ℕ, zero, suc, ◌+◌, ◌<◌, List, [], ◌∷◌, ◌++◌, length, map, take, drop, get_or, Option, Some, None, is_some, is_none, Contains, Bool, true, false, ◌||◌, sym, ap, ◌∙◌, refl, subst, arith, append_assoc, true≢false}
use Rattle.std.specs.Prelude.{slice_get, bytes_eq, nat_eq, codes, if◌then◌else◌}
use Rattle.std.specs.List.{AllByRecursion}
use Rattle.std.specs.List.Sorted.{IsPermutation}
use Rattle.std.proofs.lemmas.Bool.{eqb-true, false_from_ne_true}
use Rattle.std.proofs.lemmas.List.{map-append}
use Rattle.std.proofs.lemmas.List.Sorted.{Contains-permutation, IsPermutation-append_left, IsPermutation-append_right, IsPermutation-map}
use Rattle.std.proofs.lemmas.Option.{none-some, same_Some, slice_get-get_or, get_or_from_slice_get, slice_get_within}
use Rattle.std.proofs.lemmas.Slice.Eq.{bytes_eq-Decides}
use Rattle.cool_syntax.specs.declared.place.Place.{Place}
use Rattle.cool_syntax.specs.declared.type_ref.TypeRef.{TypeRef}
use Rattle.cool_syntax.specs.declared.file_tree.ClassDef.{ClassDef}
use Rattle.cool_classes.specs.declared.TheConstants.{MOST_CLASSES}
use Rattle.cool_classes.specs.declared.class_id.ClassId.{ClassId}
use Rattle.cool_classes.specs.declared.fault.ClassFault.{ClassFault}
use Rattle.cool_classes.specs.declared.fault.ClassKind.{ClassKind}
use Rattle.cool_classes.specs.declared.fault.ClassKind.TheVariants.{C1, C2, C3, C4, C5, C6, C7}
use Rattle.cool_classes.specs.declared.fault.TableError.{TableError}
use Rattle.cool_classes.specs.declared.fault.TableError.TheVariants as error
use Rattle.cool_classes.specs.Chains.{Class, class_number}
use Rattle.cool_classes.specs.ClassFaults.{of_kind, name_kind, names_faults, is_barred, class_kind, parent_kind, parent_faults, parents_faults, main_faults, first_fault, number_faults, places, place_at, cycle_faults, AreOnCycles, class_phase, classes_meant, features_from, feature_phase, HasClassPhase, HasTableFaults}
use Rattle.cool_classes.specs.ClassRows.{IsClassAt, HasParent, IsUnnamed, IsBarredName, IsClassFault, IsFaultFrom, IsTableFault, HasRows, HasNoRow}
use Rattle.cool_classes.specs.ClassRows as rows
use Rattle.cool_classes.specs.ClimbedChains.{above}
use Rattle.cool_classes.specs.Cycles.{IsOnCycle}
use Rattle.cool_classes.specs.Depths.{parents_with_basic}
use Rattle.cool_classes.specs.FeatureFaults.{class_faults}
use Rattle.cool_classes.specs.FeatureRows.{IsFeatureFault, AreRows}
use Rattle.cool_classes.specs.Names.{first_named, self_type}
use Rattle.cool_classes.specs.Settled.{basic_names, names_in, names_with_basic, parents_meant}
use Rattle.cool_classes.proofs.AllOfLists.{all_permuted}
use Rattle.cool_classes.proofs.CyclesCaught.{one_of}
use Rattle.cool_classes.proofs.SameMembers.{same_members}
use Rattle.cool_classes.proofs.FeatureRowsExact.{fault, class_rows, bytes_other}
use Rattle.cool_classes.proofs.FirstIndexes.{seam_get, named_found, named_sound}
use Rattle.cool_classes.proofs.ParentsOfDefinitions.{parents_long}
use Rattle.lists.proofs.AllItems.{all_append}
use Rattle.lists.proofs.Options.{some_value, none_is}
use Rattle.std.proofs.lemmas.List.Elements.{Contains-append_left, Contains-append_right}

-- a stronger property of all
all_weaker : (P Q : ClassFault → Type 0) → ((f : ClassFault) → P f → Q f) → (fs : List ClassFault) → AllByRecursion P fs → AllByRecursion Q fs
all_weaker P Q more [] h = tt
all_weaker P Q more (f ∷ fs) h = (more f h.0, all_weaker P Q more fs h.1)

-- the faults of the features of classes from one on
from_only : (p : List Class) (k : ℕ) (stand : List Place) → AllByRecursion (λ (f : ClassFault). IsFaultFrom p k stand f.kind f.at) (features_from p k stand)
from_only p k [] = tt
from_only p k (here ∷ stand) =
    let c = class_number k in
    let z : k ≡ k + 0 = omega arith in
    all_append (λ (f : ClassFault). IsFaultFrom p k (here ∷ stand) f.kind f.at) (class_faults p c (above p c) here) (features_from p (suc k) stand)
    (all_weaker (λ (f : ClassFault). IsFeatureFault p c (above p c) here f.kind f.at) (λ (f : ClassFault). IsFaultFrom p k (here ∷ stand) f.kind f.at)
    (λ f row. (zero, here, refl, subst (λ (n : ℕ). IsFeatureFault p (class_number n) (above p (class_number n)) here f.kind f.at) z row))
    (class_faults p c (above p c) here) (class_rows p c (above p c) here).only)
    (all_weaker (λ (f : ClassFault). IsFaultFrom p (suc k) stand f.kind f.at) (λ (f : ClassFault). IsFaultFrom p k (here ∷ stand) f.kind f.at)
    (λ f (i, at, is, row). (suc i, at, is, subst (λ (n : ℕ). IsFeatureFault p (class_number n) (above p (class_number n)) at f.kind f.at) (let n : suc k + i ≡ k + suc i = omega arith in n) row))
    (features_from p (suc k) stand) (from_only p (suc k) stand))

from_there : (p : List Class) (k : ℕ) (stand : List Place) (kind : ClassKind) (at : Place) (i : ℕ) (here : Place) → slice_get stand i ≡ Some here
    → IsFeatureFault p (class_number (k + i)) (above p (class_number (k + i))) here kind at → Contains (features_from p k stand) (fault kind at)
from_there p k [] kind at i here is row = absurd (none-some here is)
from_there p k (h ∷ stand) kind at zero here is row =
    let c = class_number k in
    let z : k + 0 ≡ k = omega arith in
    let same = same_Some h here is in
    let here_row = subst (λ (n : ℕ). IsFeatureFault p (class_number n) (above p (class_number n)) h kind at) z
    (subst (λ (x : Place). IsFeatureFault p (class_number (k + 0)) (above p (class_number (k + 0))) x kind at) (sym same) row) in
    Contains-append_left (class_faults p c (above p c) h) (features_from p (suc k) stand) (fault kind at) ((class_rows p c (above p c) h).all kind at here_row)
from_there p k (h ∷ stand) kind at (suc i) here is row =
    let c = class_number k in
    Contains-append_right (class_faults p c (above p c) h) (features_from p (suc k) stand) (fault kind at)
    (from_there p (suc k) stand kind at i here is (subst (λ (n : ℕ). IsFeatureFault p (class_number n) (above p (class_number n)) here kind at) (let n : k + suc i ≡ suc k + i = omega arith in n) row))

-- the faults of the feature phase are those of the rows of features
pub table_rows : (ds : List ClassDef) → AreRows (IsTableFault ds) (feature_phase ds)
table_rows ds = record {
  only = from_only (classes_meant ds) 5 (places ds);
  all = λ kind at (i, here, is, row). from_there (classes_meant ds) 5 (places ds) kind at i here is row;
}

-- a fault of a kind
kind_only : (P : ClassFault → Type 0) (o : Option ClassKind) (at : Place) → ((kind : ClassKind) → o ≡ Some kind → P (fault kind at)) → AllByRecursion P (of_kind o at)
kind_only P None at make = tt
kind_only P (Some kind) at make = (make kind refl, tt)

kind_in : (o : Option ClassKind) (kind : ClassKind) (at : Place) → o ≡ Some kind → Contains (of_kind o at) (fault kind at)
kind_in None kind at e = absurd (none-some kind e)
kind_in (Some other) kind at e = (zero, omega arith, ap (λ (k : ClassKind). fault k at) (same_Some other kind e))

-- a name is found exactly where it is one of the names
named_there : (names : List (List ℕ)) (f : List ℕ) → Contains names f → is_some (first_named 0 names f) ≡ true
named_there names f (i, less, e) = ap (λ (o : Option ClassId). is_some o) (named_found 0 names i f (slice_get-get_or names i f less ∙ ap Some e)).1

found_named : (names : List (List ℕ)) (f : List ℕ) → is_some (first_named 0 names f) ≡ true → Contains names f
found_named names f e =
    let c = some_value (first_named 0 names f) e in
    let w = named_sound 0 names f c.0 c.1 in
    (w.0, slice_get_within names w.0 f w.2, get_or_from_slice_get names w.0 f f w.2)

-- the faults of the names of definitions
name_cases : (name : List ℕ) (known : Bool) (kind : ClassKind) → name_kind name known ≡ Some kind → ((kind ≡ C2) × (name ≡ self_type)) ⊎ ((kind ≡ C1) × (name ≢ self_type) × (known ≡ true))
name_cases name known kind e = by (bytes_eq name self_type) refl known refl e
  where
    by : (b : Bool) → bytes_eq name self_type ≡ b → (k : Bool) → known ≡ k → (if b then Some C2 else (if k then Some C1 else None)) ≡ Some kind
        → ((kind ≡ C2) × (name ≡ self_type)) ⊎ ((kind ≡ C1) × (name ≢ self_type) × (known ≡ true))
    by true s k t h = inl (sym (same_Some C2 kind h), (bytes_eq-Decides name self_type).0 s)
    by false s true t h = inr (sym (same_Some C1 kind h), bytes_other name self_type s, t)
    by false s false t h = absurd (none-some kind h)

names_only : (all done ds : List ClassDef) → done ++ ds ≡ all → AllByRecursion (λ (f : ClassFault). IsClassFault all f.kind f.at) (names_faults (basic_names ++ names_in done) ds)
names_only all done [] whole = tt
names_only all done (d ∷ ds) whole =
    let P = λ (f : ClassFault). IsClassFault all f.kind f.at in
    let before = basic_names ++ names_in done in
    let known = is_some (first_named 0 before d.name) in
    let at : IsClassAt all (length done) d = ap (λ (xs : List ClassDef). slice_get xs (length done)) (sym whole) ∙ seam_get done ds d in
    let taken : names_in done ≡ take (length done) (names_in all) = names_taken done (d ∷ ds) ∙ ap (λ (xs : List ClassDef). take (length done) (names_in xs)) whole in
    let next : before ++ d.name ∷ [] ≡ basic_names ++ names_in (done ++ d ∷ []) =
    append_assoc basic_names (names_in done) (d.name ∷ []) ∙ ap (λ (xs : List (List ℕ)). basic_names ++ xs) (sym (map-append (λ (x : ClassDef). x.name) done (d ∷ []))) in
    let rest = names_only all (done ++ d ∷ []) ds (append_assoc done (d ∷ []) ds ∙ whole) in
    all_append P (of_kind (name_kind d.name known) d.at) (names_faults (before ++ d.name ∷ []) ds)
    (kind_only P (name_kind d.name known) d.at (λ kind e.
    elim (name_cases d.name known kind e) [
      | inl (is, self) ↦ subst (λ (k : ClassKind). IsClassFault all k d.at) (sym is) (rows.named_self_type (length done) d at self)
      | inr (is, other, there) ↦
          subst (λ (k : ClassKind). IsClassFault all k d.at) (sym is)
          (rows.twice (length done) d at other (subst (λ (xs : List (List ℕ)). Contains (basic_names ++ xs) d.name) taken (found_named before d.name there)))
    ]))
    (subst (λ (names : List (List ℕ)). AllByRecursion P (names_faults names ds)) (sym next) rest)
  where
    names_taken : (xs ys : List ClassDef) → names_in xs ≡ take (length xs) (names_in (xs ++ ys))
    names_taken [] ys = refl
    names_taken (x ∷ xs) ys = ap (λ (ns : List (List ℕ)). x.name ∷ ns) (names_taken xs ys)

names_have : (before : List (List ℕ)) (ds : List ClassDef) (k : ℕ) (d : ClassDef) (f : ClassFault) → slice_get ds k ≡ Some d
    → Contains (of_kind (name_kind d.name (is_some (first_named 0 (before ++ take k (names_in ds)) d.name))) d.at) f → Contains (names_faults before ds) f
names_have before [] k d f e there = absurd (none-some d e)
names_have before (x ∷ ds) zero d f e there =
    let same = same_Some x d e in
    let here = subst (λ (y : ClassDef). Contains (of_kind (name_kind y.name (is_some (first_named 0 (before ++ []) y.name))) y.at) f) (sym same) there in
    Contains-append_left (of_kind (name_kind x.name (is_some (first_named 0 before x.name))) x.at) (names_faults (before ++ x.name ∷ []) ds) f
    (subst (λ (ns : List (List ℕ)). Contains (of_kind (name_kind x.name (is_some (first_named 0 ns x.name))) x.at) f) (nothing_more before) here)
  where
    nothing_more : (xs : List (List ℕ)) → xs ++ [] ≡ xs
    nothing_more [] = refl
    nothing_more (y ∷ xs) = ap (λ (ys : List (List ℕ)). y ∷ ys) (nothing_more xs)
names_have before (x ∷ ds) (suc k) d f e there =
    Contains-append_right (of_kind (name_kind x.name (is_some (first_named 0 before x.name))) x.at) (names_faults (before ++ x.name ∷ []) ds) f
    (names_have (before ++ x.name ∷ []) ds k d f e
    (subst (λ (ns : List (List ℕ)). Contains (of_kind (name_kind d.name (is_some (first_named 0 ns d.name))) d.at) f) (sym (append_assoc before (x.name ∷ []) (take k (names_in ds)))) there))

-- the faults of parents
barred_name : (ds : List ClassDef) (name : List ℕ) (c : ClassId) → first_named 0 (names_with_basic ds) name ≡ Some c → is_barred c ≡ true → IsBarredName name
barred_name ds name c found barred =
    let w = named_sound 0 (names_with_basic ds) name c found in
    let number : c.0 ≡ w.0 = ap (λ (x : ClassId). x.0) w.1 ∙ (let z : 0 + w.0 ≡ w.0 = omega arith in z) in
    by (nat_eq c.0 2) refl (nat_eq c.0 3) refl (nat_eq c.0 4) refl barred number w.2
  where
    at_number : (n j : ℕ) → nat_eq c.0 n ≡ true → c.0 ≡ j → j ≡ n
    at_number n j t e = sym e ∙ eqb-true c.0 n t

    by : (a : Bool) → nat_eq c.0 2 ≡ a → (b : Bool) → nat_eq c.0 3 ≡ b → (s : Bool) → nat_eq c.0 4 ≡ s → (a || (b || s)) ≡ true → {j : ℕ} → c.0 ≡ j → slice_get (names_with_basic ds) j ≡ Some name → IsBarredName name
    by true t b u s v h {j} number there = inl (sym (same_Some (codes "Int") name (ap (slice_get (names_with_basic ds)) (sym (at_number 2 j t number)) ∙ there)))
    by false t true u s v h {j} number there = inr (inl (sym (same_Some (codes "Bool") name (ap (slice_get (names_with_basic ds)) (sym (at_number 3 j u number)) ∙ there))))
    by false t false u true v h {j} number there = inr (inr (sym (same_Some (codes "String") name (ap (slice_get (names_with_basic ds)) (sym (at_number 4 j v number)) ∙ there))))
    by false t false u false v h {j} number there = absurd (true≢false (sym h))

parent_cases : (ds : List ClassDef) (k : ℕ) (r : TypeRef) (kind : ClassKind) → HasParent ds k r → (o : Option ClassId) → first_named 0 (names_with_basic ds) r.name ≡ o → parent_kind r.name o ≡ Some kind
    → IsClassFault ds kind r.at
parent_cases ds k r kind has o found e = by (bytes_eq r.name self_type) refl o found e
  where
    barred : (c : ClassId) → first_named 0 (names_with_basic ds) r.name ≡ Some c → (b : Bool) → is_barred c ≡ b → (if b then Some C4 else None) ≡ Some kind → IsClassFault ds kind r.at
    barred c f true t h = subst (λ (x : ClassKind). IsClassFault ds x r.at) (same_Some C4 kind h) (rows.barred_parent k r has (barred_name ds r.name c f t))
    barred c f false t h = absurd (none-some kind h)

    by : (b : Bool) → bytes_eq r.name self_type ≡ b → (o : Option ClassId) → first_named 0 (names_with_basic ds) r.name ≡ o → (if b then Some C2 else class_kind o) ≡ Some kind → IsClassFault ds kind r.at
    by true s o f h = subst (λ (x : ClassKind). IsClassFault ds x r.at) (same_Some C2 kind h) (rows.parent_self_type k r has ((bytes_eq-Decides r.name self_type).0 s))
    by false s None f h = subst (λ (x : ClassKind). IsClassFault ds x r.at) (same_Some C3 kind h)
        (rows.no_parent k r has (bytes_other r.name self_type s) (λ there. true≢false (sym (named_there (names_with_basic ds) r.name there) ∙ ap (λ (x : Option ClassId). is_some x) f)))
    by false s (Some c) f h = barred c f (is_barred c) refl h

parents_only : (all ds : List ClassDef) (n : ℕ) → ((i : ℕ) (d : ClassDef) → slice_get ds i ≡ Some d → slice_get all (n + i) ≡ Some d)
    → AllByRecursion (λ (f : ClassFault). IsClassFault all f.kind f.at) (parents_faults (names_with_basic all) ds)
parents_only all [] n left = tt
parents_only all (d ∷ ds) n left =
    let P = λ (f : ClassFault). IsClassFault all f.kind f.at in
    all_append P (parent_faults (names_with_basic all) d.parent) (parents_faults (names_with_basic all) ds) (one d.parent refl)
    (parents_only all ds (suc n) (λ i x e. ap (slice_get all) (let z : suc n + i ≡ n + suc i = omega arith in z) ∙ left (suc i) x e))
  where
    one : (o : Option TypeRef) → d.parent ≡ o → AllByRecursion (λ (f : ClassFault). IsClassFault all f.kind f.at) (parent_faults (names_with_basic all) o)
    one None is = tt
    one (Some r) is =
        kind_only (λ (f : ClassFault). IsClassFault all f.kind f.at) (parent_kind r.name (first_named 0 (names_with_basic all) r.name)) r.at
        (λ kind e. parent_cases all (n + 0) r kind (d, left zero d refl, is) (first_named 0 (names_with_basic all) r.name) refl e)

parents_have : (names : List (List ℕ)) (ds : List ClassDef) (k : ℕ) (r : TypeRef) (f : ClassFault) → HasParent ds k r → Contains (parent_faults names (Some r)) f → Contains (parents_faults names ds) f
parents_have names [] k r f (d, e, is) there = absurd (none-some d e)
parents_have names (x ∷ ds) zero r f (d, e, is) there =
    let same = same_Some x d e in
    Contains-append_left (parent_faults names x.parent) (parents_faults names ds) f (subst (λ (o : Option TypeRef). Contains (parent_faults names o) f) (sym (ap (λ (y : ClassDef). y.parent) same ∙ is)) there)
parents_have names (x ∷ ds) (suc k) r f (d, e, is) there = Contains-append_right (parent_faults names x.parent) (parents_faults names ds) f (parents_have names ds k r f (d, e, is) there)

-- the faults of cycles
place_is : (ds : List ClassDef) (k : ℕ) → k < length ds → (d : ClassDef) × IsClassAt ds k d × (place_at ds k ≡ d.at)
place_is [] k less = absurd (omega arith)
place_is (d ∷ ds) zero less = (d, refl, refl)
place_is (d ∷ ds) (suc k) less = place_is ds k (omega arith)

at_place : (ds : List ClassDef) (k : ℕ) (d : ClassDef) → IsClassAt ds k d → place_at ds k ≡ d.at
at_place [] k d e = absurd (none-some d e)
at_place (x ∷ ds) zero d e = ap (λ (y : ClassDef). y.at) (same_Some x d e)
at_place (x ∷ ds) (suc k) d e = at_place ds k d e

cycles_only : (ds : List ClassDef) (cyclic : List ℕ) → AllByRecursion (λ (k : ℕ). k < length ds) cyclic → AllByRecursion (IsOnCycle (parents_meant (names_with_basic ds) ds)) cyclic
    → AllByRecursion (λ (f : ClassFault). IsClassFault ds f.kind f.at) (cycle_faults ds cyclic)
cycles_only ds [] within on = tt
cycles_only ds (k ∷ ks) within on =
    let w = place_is ds k within.0 in
    (subst (λ (at : Place). IsClassFault ds C5 at) (sym w.2) (rows.cycle k w.0 w.1 on.0), cycles_only ds ks within.1 on.1)

cycles_have : (ds : List ClassDef) (cyclic : List ℕ) (k : ℕ) (d : ClassDef) → Contains cyclic k → IsClassAt ds k d → Contains (cycle_faults ds cyclic) (fault C5 d.at)
cycles_have ds [] k d (i, less, e) at = absurd (omega arith)
cycles_have ds (x ∷ xs) k d (zero, less, e) at = (zero, omega arith, ap (fault C5) (ap (place_at ds) e ∙ at_place ds k d at))
cycles_have ds (x ∷ xs) k d (suc i, less, e) at = let w = cycles_have ds xs k d (i, omega arith, e) at in (suc w.0, (let l = w.1 in omega arith), w.2)

-- the fault of the number of classes
number_only : (ds : List ClassDef) (n : ℕ) (P : ClassFault → Type 0) → ((d : ClassDef) → slice_get ds n ≡ Some d → P (fault C7 d.at)) → AllByRecursion P (first_fault (drop n ds))
number_only [] zero P make = tt
number_only [] (suc n) P make = tt
number_only (d ∷ ds) zero P make = (make d refl, tt)
number_only (d ∷ ds) (suc n) P make = number_only ds n P make

number_has : (ds : List ClassDef) (n : ℕ) (d : ClassDef) → slice_get ds n ≡ Some d → Contains (first_fault (drop n ds)) (fault C7 d.at)
number_has [] n d e = absurd (none-some d e)
number_has (x ∷ ds) zero d e = (zero, omega arith, ap (λ (y : ClassDef). fault C7 y.at) (same_Some x d e))
number_has (x ∷ ds) (suc n) d e = number_has ds n d e

-- a definition on a cycle is one of them
on_within : (parents : List ClassId) (k : ℕ) → IsOnCycle parents k → k < length parents
on_within parents k (n, (q, is, rest)) =
    let up : k + 5 ≡ suc (suc (suc (suc (suc k)))) = omega arith in
    there parents k (sym (ap (λ (m : ℕ). get_or (parents_with_basic parents) m None) up) ∙ is)
  where
    there : (ps : List ClassId) (j : ℕ) → get_or (map Some ps) j None ≡ Some q → j < length ps
    there [] j e = absurd (none-some q e)
    there (x ∷ ps) zero e = omega arith
    there (x ∷ ps) (suc j) e = let less = there ps j e in omega arith

all_within : (ds : List ClassDef) (cyclic : List ℕ) → AllByRecursion (IsOnCycle (parents_meant (names_with_basic ds) ds)) cyclic → AllByRecursion (λ (k : ℕ). k < length ds) cyclic
all_within ds [] on = tt
all_within ds (k ∷ ks) on =
    ((let less = on_within (parents_meant (names_with_basic ds) ds) k on.0 in let long = parents_long (names_with_basic ds) ds in omega arith), all_within ds ks on.1)

-- the fault of a missing Main
main_only : (ds : List ClassDef) → AllByRecursion (λ (f : ClassFault). IsClassFault ds f.kind f.at) (main_faults (names_with_basic ds))
main_only ds = by (first_named 0 (names_with_basic ds) (codes "Main")) refl
  where
    by : (o : Option ClassId) → first_named 0 (names_with_basic ds) (codes "Main") ≡ o
        → AllByRecursion (λ (f : ClassFault). IsClassFault ds f.kind f.at) (of_kind (if is_none o then Some C6 else None) (record { file = 0; line = 1; byte = 0 }))
    by None e = (rows.no_main (λ there. true≢false (sym (named_there (names_with_basic ds) (codes "Main") there) ∙ ap (λ (x : Option ClassId). is_some x) e)), tt)
    by (Some c) e = tt

main_has : (ds : List ClassDef) → IsUnnamed ds (codes "Main") → Contains (main_faults (names_with_basic ds)) (fault C6 (record { file = 0; line = 1; byte = 0 }))
main_has ds none = by (first_named 0 (names_with_basic ds) (codes "Main")) refl
  where
    by : (o : Option ClassId) → first_named 0 (names_with_basic ds) (codes "Main") ≡ o
        → Contains (of_kind (if is_none o then Some C6 else None) (record { file = 0; line = 1; byte = 0 })) (fault C6 (record { file = 0; line = 1; byte = 0 }))
    by None e = (zero, omega arith, refl)
    by (Some c) e = absurd (none (found_named (names_with_basic ds) (codes "Main") (ap (λ (x : Option ClassId). is_some x) e)))

-- the faults of the class phase are those of the rows of classes
phase_only : (ds : List ClassDef) (cyclic : List ℕ) → AreOnCycles ds cyclic → AllByRecursion (λ (f : ClassFault). IsClassFault ds f.kind f.at) (class_phase ds cyclic)
phase_only ds cyclic on =
    let P = λ (f : ClassFault). IsClassFault ds f.kind f.at in
    let names = names_faults basic_names ds in
    let parents = parents_faults (names_with_basic ds) ds in
    let cycles = cycle_faults ds cyclic in
    let main = main_faults (names_with_basic ds) in
    all_append P names (parents ++ (cycles ++ (main ++ number_faults ds))) (names_only ds [] ds refl)
    (all_append P parents (cycles ++ (main ++ number_faults ds)) (parents_only ds ds 0 (λ i d e. ap (slice_get ds) (let z : 0 + i ≡ i = omega arith in z) ∙ e))
    (all_append P cycles (main ++ number_faults ds) (cycles_only ds cyclic (all_within ds cyclic on.only) on.only)
    (all_append P main (number_faults ds) (main_only ds) (number_only ds MOST_CLASSES P (λ d e. rows.too_many d e)))))

in_names : (ds : List ClassDef) (cyclic : List ℕ) (f : ClassFault) → Contains (names_faults basic_names ds) f → Contains (class_phase ds cyclic) f
in_names ds cyclic f there = Contains-append_left (names_faults basic_names ds) _ f there

in_parents : (ds : List ClassDef) (cyclic : List ℕ) (f : ClassFault) → Contains (parents_faults (names_with_basic ds) ds) f → Contains (class_phase ds cyclic) f
in_parents ds cyclic f there = Contains-append_right (names_faults basic_names ds) _ f (Contains-append_left (parents_faults (names_with_basic ds) ds) _ f there)

in_rest : (ds : List ClassDef) (cyclic : List ℕ) (f : ClassFault) → Contains (cycle_faults ds cyclic ++ (main_faults (names_with_basic ds) ++ number_faults ds)) f → Contains (class_phase ds cyclic) f
in_rest ds cyclic f there = Contains-append_right (names_faults basic_names ds) _ f (Contains-append_right (parents_faults (names_with_basic ds) ds) _ f there)

phase_there : (ds : List ClassDef) (cyclic : List ℕ) → AreOnCycles ds cyclic → (kind : ClassKind) (at : Place) → IsClassFault ds kind at → Contains (class_phase ds cyclic) (fault kind at)
phase_there ds cyclic on kind at (rows.twice k d is other there) =
    let before = basic_names ++ take k (names_in ds) in
    in_names ds cyclic (fault C1 d.at)
    (names_have basic_names ds k d (fault C1 d.at) is
    (kind_in (name_kind d.name (is_some (first_named 0 before d.name))) C1 d.at (kind_known d.name (is_some (first_named 0 before d.name)) other (named_there before d.name there))))
  where
    kind_known : (name : List ℕ) (known : Bool) → name ≢ self_type → known ≡ true → name_kind name known ≡ Some C1
    kind_known name known o k =
        ap (λ (b : Bool). if b then Some C2 else (if known then Some C1 else None)) (false_from_ne_true (bytes_eq name self_type) (λ e. o ((bytes_eq-Decides name self_type).0 e)))
        ∙ ap (λ (b : Bool). if b then Some C1 else None) k
phase_there ds cyclic on kind at (rows.named_self_type k d is self) =
    let known = is_some (first_named 0 (basic_names ++ take k (names_in ds)) d.name) in
    in_names ds cyclic (fault C2 d.at)
    (names_have basic_names ds k d (fault C2 d.at) is
    (kind_in (name_kind d.name known) C2 d.at (ap (λ (b : Bool). if b then Some C2 else (if known then Some C1 else None)) ((bytes_eq-Decides d.name self_type).1 self))))
phase_there ds cyclic on kind at (rows.parent_self_type k r has self) =
    let o = first_named 0 (names_with_basic ds) r.name in
    in_parents ds cyclic (fault C2 r.at)
    (parents_have (names_with_basic ds) ds k r (fault C2 r.at) has
    (kind_in (parent_kind r.name o) C2 r.at (ap (λ (b : Bool). if b then Some C2 else class_kind o) ((bytes_eq-Decides r.name self_type).1 self))))
phase_there ds cyclic on kind at (rows.no_parent k r has other none) =
    let o = first_named 0 (names_with_basic ds) r.name in
    let nowhere : o ≡ None = none_is o (false_from_ne_true (is_some o) (λ e. none (found_named (names_with_basic ds) r.name e))) in
    in_parents ds cyclic (fault C3 r.at)
    (parents_have (names_with_basic ds) ds k r (fault C3 r.at) has
    (kind_in (parent_kind r.name o) C3 r.at
    (ap (λ (b : Bool). if b then Some C2 else class_kind o) (false_from_ne_true (bytes_eq r.name self_type) (λ e. other ((bytes_eq-Decides r.name self_type).0 e))) ∙ ap class_kind nowhere)))
phase_there ds cyclic on kind at (rows.barred_parent k r has barred) =
    let o = first_named 0 (names_with_basic ds) r.name in
    in_parents ds cyclic (fault C4 r.at)
    (parents_have (names_with_basic ds) ds k r (fault C4 r.at) has (kind_in (parent_kind r.name o) C4 r.at (by r.name barred)))
  where
    at_name : (n name : List ℕ) → name ≡ n → parent_kind n (first_named 0 (names_with_basic ds) n) ≡ Some C4 → parent_kind name (first_named 0 (names_with_basic ds) name) ≡ Some C4
    at_name n name e h = subst (λ (x : List ℕ). parent_kind x (first_named 0 (names_with_basic ds) x) ≡ Some C4) (sym e) h

    by : (name : List ℕ) → IsBarredName name → parent_kind name (first_named 0 (names_with_basic ds) name) ≡ Some C4
    by name (inl e) = at_name (codes "Int") name e refl
    by name (inr (inl e)) = at_name (codes "Bool") name e refl
    by name (inr (inr e)) = at_name (codes "String") name e refl
phase_there ds cyclic on kind at (rows.cycle k d is cycle) =
    let less = slice_get_within ds k d is in
    let long = parents_long (names_with_basic ds) ds in
    in_rest ds cyclic (fault C5 d.at) (Contains-append_left (cycle_faults ds cyclic) _ (fault C5 d.at) (cycles_have ds cyclic k d (on.all k (omega arith) cycle) is))
phase_there ds cyclic on kind at (rows.no_main none) =
    in_rest ds cyclic (fault C6 (record { file = 0; line = 1; byte = 0 }))
    (Contains-append_right (cycle_faults ds cyclic) _ (fault C6 (record { file = 0; line = 1; byte = 0 })) (Contains-append_left (main_faults (names_with_basic ds)) _ (fault C6 (record { file = 0; line = 1; byte = 0 })) (main_has ds none)))
phase_there ds cyclic on kind at (rows.too_many d is) =
    in_rest ds cyclic (fault C7 d.at) (Contains-append_right (cycle_faults ds cyclic) _ (fault C7 d.at) (Contains-append_right (main_faults (names_with_basic ds)) _ (fault C7 d.at) (number_has ds MOST_CLASSES d is)))

-- the rows hold of the same faults in another order
rows_permuted : (R : ClassKind → Place → Type 0) (xs ys : List ClassFault) → IsPermutation xs ys → AreRows R xs → AreRows R ys
rows_permuted R xs ys moved h = record {
  only = all_permuted (λ (f : ClassFault). R f.kind f.at) xs ys moved h.only;
  all = λ kind at row. Contains-permutation xs ys (fault kind at) moved (h.all kind at row);
}

-- the faults of classes
pub phase_rows : (ds : List ClassDef) (fs : List ClassFault) → HasClassPhase ds fs → AreRows (IsClassFault ds) fs
phase_rows ds fs (cyclic, on, is) = subst (AreRows (IsClassFault ds)) (sym is) (record { only = phase_only ds cyclic on; all = phase_there ds cyclic on })

-- the faults that a table is refused with are rows
pub refused_rows : (ds : List ClassDef) (e : TableError) → HasTableFaults ds e → HasRows ds e
refused_rows ds error.Memory h = tt
refused_rows ds (error.Faults faults) h =
    elim h.2 [
      | inl (fs, phase, moved) ↦ inl (rows_permuted (IsClassFault ds) fs faults moved (phase_rows ds fs phase))
      | inr (none, moved) ↦ inr (rows_permuted (IsTableFault ds) (feature_phase ds) faults moved (table_rows ds))
    ]

-- if there is no fault, no row holds
nothing_in : (f : ClassFault) → Contains [] f → ⊥
nothing_in f (i, less, e) = absurd (omega arith)

pub accepted_rows : (ds : List ClassDef) → HasClassPhase ds [] → feature_phase ds ≡ [] → HasNoRow ds
accepted_rows ds phase none = (
  (λ kind at row. nothing_in (fault kind at) ((phase_rows ds [] phase).all kind at row)),
  (λ kind at row. nothing_in (fault kind at) (subst (λ (fs : List ClassFault). Contains fs (fault kind at)) none ((table_rows ds).all kind at row))),
)

-- if classes may have no fault, none are theirs
pub no_phase : (ds : List ClassDef) (fs : List ClassFault) → HasClassPhase ds [] → HasClassPhase ds fs → fs ≡ []
no_phase ds [] none phase = refl
no_phase ds (f ∷ fs) none phase = absurd (nothing_in (fault f.kind f.at) ((phase_rows ds [] none).all f.kind f.at (phase_rows ds (f ∷ fs) phase).only.0))

-- two lists of the definitions on cycles are one in another order
cycles_moved : (ds : List ClassDef) (c d : List ℕ) → AreOnCycles ds c → AreOnCycles ds d → IsPermutation c d
cycles_moved ds c d a b =
    let ps = parents_meant (names_with_basic ds) ds in
    same_members c d a.once b.once
    (λ k there. let on = one_of (IsOnCycle ps) c k a.only there in b.all k (on_within ps k on) on)
    (λ k there. let on = one_of (IsOnCycle ps) d k b.only there in a.all k (on_within ps k on) on)

-- and so are two lists of the faults of classes
pub phase_moved : (ds : List ClassDef) (fs gs : List ClassFault) → HasClassPhase ds fs → HasClassPhase ds gs → IsPermutation fs gs
phase_moved ds fs gs (c, on_c, is_f) (d, on_d, is_g) =
    let rest = main_faults (names_with_basic ds) ++ number_faults ds in
    let cycles = IsPermutation-append_left rest (cycle_faults ds c) (cycle_faults ds d)
    (IsPermutation-map (λ (k : ℕ). fault C5 (place_at ds k)) c d (cycles_moved ds c d on_c on_d)) in
    let parents = IsPermutation-append_right (parents_faults (names_with_basic ds) ds) (cycle_faults ds c ++ rest) (cycle_faults ds d ++ rest) cycles in
    let all = IsPermutation-append_right (names_faults basic_names ds) (parents_faults (names_with_basic ds) ds ++ (cycle_faults ds c ++ rest))
    (parents_faults (names_with_basic ds) ds ++ (cycle_faults ds d ++ rest)) parents in
    subst (λ (xs : List ClassFault). IsPermutation xs gs) (sym is_f) (subst (IsPermutation (class_phase ds c)) (sym is_g) all)
