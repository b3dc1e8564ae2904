-- Class definitions without errors of classes or features have a class table that satisfies the rules for classes and the compiler's limits.
use Rattle.std.proofs.Common.{◌≡◌, ◌≢◌, ℕ, zero, suc, ◌+◌, ◌<◌, ◌≤◌, List, [], ◌∷◌, ◌++◌, take, length, get_or, Option, Some, None, Bool, true, false, Contains, ap, sym, ◌∙◌, refl, subst, arith}
use Rattle.std.specs.Prelude.{slice_get, nat_lt}
use Rattle.std.specs.List.{AllByRecursion}
use Rattle.std.proofs.lemmas.Bool.{ltb-true, ltb-false}
use Rattle.std.proofs.lemmas.Option.{none-some, same_Some, slice_get-get_or}
use Rattle.cool_syntax.specs.declared.file_tree.ClassDef.{ClassDef}
use Rattle.cool_syntax.specs.declared.place.Place.{Place}
use Rattle.cool_syntax.specs.declared.type_ref.TypeRef.{TypeRef}
use Rattle.cool_classes.specs.declared.TheConstants.{MOST_CLASSES}
use Rattle.cool_classes.specs.declared.class_id.ClassId.{ClassId}
use Rattle.cool_classes.specs.declared.entry.Entry.{Entry}
use Rattle.cool_classes.specs.declared.fault.ClassKind.{ClassKind}
use Rattle.cool_classes.specs.declared.fault.ClassKind.TheVariants.{C1, C2, C3, C7}
use Rattle.cool_classes.specs.Chains.{Class, class_number, features_of, IsChain}
use Rattle.cool_classes.specs.ClassFaults.{class_phase, classes_meant, cycle_faults, feature_phase, main_faults, names_faults, number_faults, parents_faults, HasClassPhase}
use Rattle.cool_classes.specs.ClassRows.{IsClassFault, twice, named_self_type, parent_self_type, no_parent, too_many}
use Rattle.cool_classes.specs.ClimbedChains.{above}
use Rattle.cool_classes.specs.Definitions.{AreFew, HasFewFormals, IsTableOf}
use Rattle.cool_classes.specs.Depths.{AreDepths}
use Rattle.cool_classes.specs.Entries.{classes, depth_at}
use Rattle.cool_classes.specs.FeatureFaults.{is_over_limit}
use Rattle.cool_classes.specs.Features.{attributes_of}
use Rattle.cool_classes.specs.LawfulTables.{IsLawful}
use Rattle.cool_classes.specs.Limits.{KeepsLimits}
use Rattle.cool_classes.specs.MethodNames.{methods_of}
use Rattle.cool_classes.specs.Names.{first_named, self_type}
use Rattle.cool_classes.specs.Resolved.{AreGood, AreResolved}
use Rattle.cool_classes.specs.Settled.{AreNamedAnew, AreSettled, IsParentKnown, basic_names, entries_of, names_in, names_with_basic, parents_meant}
use Rattle.cool_classes.specs.Tables.{IsWholeTable}
use Rattle.cool_classes.proofs.BasicLimits.{KeepsChain}
use Rattle.cool_classes.proofs.ChainsOfTables.{above_of}
use Rattle.cool_classes.proofs.ExactFaults.{entries_are_meant}
use Rattle.cool_classes.proofs.Faultless.{class_faultless}
use Rattle.cool_classes.proofs.FeaturesChecked.{IsChecked, all_good, within_limits}
use Rattle.cool_classes.proofs.FirstIndexes.{named_found, named_sound}
use Rattle.cool_classes.proofs.LawfulByFaults.{lawful_meant, no_fault_of}
use Rattle.cool_classes.proofs.ParentsOfDefinitions.{parents_within}
use Rattle.cool_classes.proofs.Resolving.{classes_long, entries_long, resolved_by, table_by, whole_by}
use Rattle.cool_classes.proofs.RowsExact.{accepted_rows}
use Rattle.cool_faults.proofs.HierarchiesFound.{Hierarchy, hierarchy}
use Rattle.lists.proofs.JoinedLists.{none_both}
use Rattle.lists.proofs.ItemsAt.{there_is}

-- Definitions whose classes have no fault

-- no row of classes holds of definitions
abbrev pub NoRow : List ClassDef → Type 0
NoRow ds = (kind : ClassKind) (at : Place) → IsClassFault ds kind at → ⊥

has_at : {X : Type 0} (xs : List X) (k : ℕ) (x : X) → slice_get xs k ≡ Some x → Contains xs x
has_at [] k x e = absurd (none-some x e)
has_at (y ∷ xs) zero x e = (zero, omega arith, same_Some y x e)
has_at (y ∷ xs) (suc k) x e = let (i, less, is) = has_at xs k x e in (suc i, omega arith, is)

name_at : (ds : List ClassDef) (k : ℕ) (d : ClassDef) → slice_get ds k ≡ Some d → get_or (names_in ds) k [] ≡ d.name
name_at [] k d e = absurd (none-some d e)
name_at (x ∷ ds) zero d e = ap (λ (y : ClassDef). y.name) (same_Some x d e)
name_at (x ∷ ds) (suc k) d e = name_at ds k d e

-- a name that is not found is that of no class
unnamed : (names : List (List ℕ)) (f : List ℕ) → first_named 0 names f ≡ None → Contains names f → ⊥
unnamed names f none (k, less, is) =
    let w = named_found 0 names k f (slice_get-get_or names k f less ∙ ap Some is) in
    none-some w.0 (sym none ∙ w.1)

named_anew : (ds : List ClassDef) → NoRow ds → AreNamedAnew ds (length ds)
named_anew ds none k less =
    let (d, at) = there_is ds k less in
    let name = name_at ds k d at in
    let other : d.name ≢ self_type = λ same. none C2 d.at (named_self_type k d at same) in
    record {
      anew = subst (λ (f : List ℕ). first_named 0 (basic_names ++ take k (names_in ds)) f ≡ None) (sym name) (new k d at other (first_named 0 (basic_names ++ take k (names_in ds)) d.name) refl);
      no_self_type = λ same. other (sym name ∙ same);
    }
  where
    new : (k : ℕ) (d : ClassDef) → slice_get ds k ≡ Some d → d.name ≢ self_type → (o : Option ClassId) → first_named 0 (basic_names ++ take k (names_in ds)) d.name ≡ o
        → first_named 0 (basic_names ++ take k (names_in ds)) d.name ≡ None
    new k d at other None e = e
    new k d at other (Some c) e =
        let (j, number, there) = named_sound 0 (basic_names ++ take k (names_in ds)) d.name c e in
        absurd (none C1 d.at (twice k d at other (has_at (basic_names ++ take k (names_in ds)) j d.name there)))

parent_known : (ds : List ClassDef) → NoRow ds → (k : ℕ) (d : ClassDef) → slice_get ds k ≡ Some d → (o : Option TypeRef) → d.parent ≡ o → IsParentKnown (names_with_basic ds) o
parent_known ds none k d at None is = tt
parent_known ds none k d at (Some r) is = by (first_named 0 (names_with_basic ds) r.name) refl
  where
    by : (o : Option ClassId) → first_named 0 (names_with_basic ds) r.name ≡ o → IsParentKnown (names_with_basic ds) (Some r)
    by None e =
        let other : r.name ≢ self_type = λ same. none C2 r.at (parent_self_type k r (d, at, is) same) in
        absurd (none C3 r.at (no_parent k r (d, at, is) other (unnamed (names_with_basic ds) r.name e)))
    by (Some c) e = rw e refl

all_by : {X : Type 0} (P : X → Type 0) (xs : List X) → ((k : ℕ) (x : X) → slice_get xs k ≡ Some x → P x) → AllByRecursion P xs
all_by P [] h = tt
all_by P (x ∷ xs) h = (h zero x refl, all_by P xs (λ k y e. h (suc k) y e))

few_classes : (ds : List ClassDef) → NoRow ds → length ds ≤ MOST_CLASSES
few_classes ds none = by (nat_lt MOST_CLASSES (length ds)) refl
  where
    by : (b : Bool) → nat_lt MOST_CLASSES (length ds) ≡ b → length ds ≤ MOST_CLASSES
    by true e =
        let (d, at) = there_is ds MOST_CLASSES (ltb-true MOST_CLASSES (length ds) e) in
        absurd (none C7 d.at (too_many d at))
    by false e = ltb-false MOST_CLASSES (length ds) e

settled : (ds : List ClassDef) (os : List (Option ℕ)) → NoRow ds → AreDepths (parents_meant (names_with_basic ds) ds) os → AreSettled ds os
settled ds os none depths = record {
  names = named_anew ds none;
  parents = all_by (λ (d : ClassDef). IsParentKnown (names_with_basic ds) d.parent) ds (λ k d at. parent_known ds none k d at d.parent refl);
  few = few_classes ds none;
  grounded = depths;
}

-- The hierarchy that the walks find

pub hierarchy_of : (ds : List ClassDef) → Hierarchy (parents_meant (names_with_basic ds) ds) (parents_within ds)
hierarchy_of ds = hierarchy (parents_meant (names_with_basic ds) ds) (parents_within ds)

no_cyclic : (ds : List ClassDef) (ks : List ℕ) → cycle_faults ds ks ≡ [] → ks ≡ []
no_cyclic ds [] e = refl
no_cyclic ds (k ∷ ks) e = absurd (cc)

-- if that is empty, depths are known
pub depths_of : (ds : List ClassDef) → class_phase ds (hierarchy_of ds).cyclic ≡ [] → AreDepths (parents_meant (names_with_basic ds) ds) (hierarchy_of ds).depths
depths_of ds none =
    let h = hierarchy_of ds in
    let rest = (none_both (names_faults basic_names ds) _ none).1 in
    let more = (none_both (parents_faults (names_with_basic ds) ds) _ rest).1 in
    h.known (no_cyclic ds h.cyclic (none_both (cycle_faults ds h.cyclic) (main_faults (names_with_basic ds) ++ number_faults ds) more).0)

-- The table

keeps_chain : (p : List Class) (c : ClassId) → is_over_limit p (c ∷ above p c) ≡ false → (ds : List ClassId) → IsChain p (Some c) ds → KeepsChain p ds
keeps_chain p c over [] h = absurd h
keeps_chain p c over (d ∷ up) h =
    let rest : above p c ≡ up = above_of p c up h.1 in
    let same : c ∷ above p c ≡ d ∷ up = λ i. sym h.0 i ∷ rest i in
    subst (KeepsChain p) same (within_limits (length (attributes_of p (c ∷ above p c))) (length (methods_of p (c ∷ above p c))) over)

-- a table without a fault
pub record IsFaultlessTable (ds : List ClassDef) : Type 0 where
  pub whole : IsWholeTable (classes_meant ds)
  pub lawful : IsLawful (classes_meant ds)
  pub of : IsTableOf ds (classes_meant ds)
  pub limits : KeepsLimits (classes_meant ds)

table_of_depths : (ds : List ClassDef) (os : List (Option ℕ)) → AreFew ds → HasClassPhase ds [] → feature_phase ds ≡ [] → AreDepths (parents_meant (names_with_basic ds) ds) os → IsFaultlessTable ds
table_of_depths ds os few phase free depths =
    let s = settled ds os (accepted_rows ds phase free).0 depths in
    let es : List Entry = entries_of ds os in
    let seen : classes es ≡ classes_meant ds = entries_are_meant ds os s in
    let resolved : AreResolved es = resolved_by ds os few s in
    let long = entries_long ds os s in
    let number : length ds + 5 ≡ length es = long in
    let each : (k : ℕ) → k < length ds → IsChecked (classes es) (class_number (5 + k)) = λ k less.
    subst (λ (p : List Class). IsChecked p (class_number (5 + k))) (sym seen)
    (checked k less (subst (λ (p : List Class). (c : ClassId) → c.0 < length p → AllByRecursion HasFewFormals (features_of p c)) seen resolved.few_formals)) in
    let good : AreGood (classes es) = all_good es (length ds) resolved number each in
    let whole = whole_by es resolved good in
    let table : IsWholeTable (classes es) = record { table = whole.table; depth = depth_at es; grounded = whole.grounded } in
    let meant : IsWholeTable (classes_meant ds) = subst IsWholeTable seen table in
    record {
      whole = meant;
      lawful = lawful_meant ds meant phase free;
      of = subst (IsTableOf ds) seen (table_by ds os s);
      limits = subst KeepsLimits seen good.limits;
    }
  where
    checked : (k : ℕ) → k < length ds → ((c : ClassId) → c.0 < length (classes_meant ds) → AllByRecursion HasFewFormals (features_of (classes_meant ds) c)) → IsChecked (classes_meant ds) (class_number (5 + k))
    checked k less formals =
        let p = classes_meant ds in
        let c = class_number (5 + k) in
        let long = classes_long ds in
        let within : 5 + k < length (classes_meant ds) = omega arith in
        let (at, none) = no_fault_of ds free (5 + k) (omega arith) within in
        let here = class_faultless p c (above p c) at (formals c within) none in
        record { types = here.0; limits = keeps_chain p c here.1 }

pub faultless_table : (ds : List ClassDef) → AreFew ds → class_phase ds (hierarchy_of ds).cyclic ≡ [] → feature_phase ds ≡ [] → IsFaultlessTable ds
faultless_table ds few none free =
    let h = hierarchy_of ds in
    table_of_depths ds h.depths few (h.cyclic, h.cycles, sym none) free (depths_of ds none)
